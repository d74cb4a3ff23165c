use Rattle.std.proofs.Common.{◌≡◌, ◌+◌, ◌++◌, suc, sym, subst, ◌∙◌, ap, arith, None}
use Rattle.std.proofs.lemmas.Option.{slice_get_within}
use Rattle.ld_engine.specs.Going.{Goes, IsInside, Passed, file_rest, left}
use Rattle.ld_engine.proofs.Gone.{few-inside, has-at, left-step, left-wants}
use Rattle.ld_engine.proofs.going.Going.next_wanted.Goals as goal

pub pass_text-requires-clause-known : goal.pass_text-requires-clause-known
pass_text-requires-clause-known c =
    c.loop-id.invariant.inside c.in-Some.id.0 (has-at c.loop-id.self.texts c.loop-id.self.place c.in-Some.id.0 (sym c.in-Some.ensures.id))

pub returns-in-Some-2-clause-goes : goal.returns-in-Some-2-clause-goes
returns-in-Some-2-clause-goes c =
    left-wants c.args.texts.now.known c.args.self.now c.loop-id.self c.pass_text.new.self c.in-Some.id.0 (sym c.in-Some.ensures.id) c.loop-id.invariant.rest c.in-Some-2.wanted (rw c.in-Some-2.is at c.in_ok-wanted.ensures.goes) c.in_ok-wanted.ensures.grows c.in_ok-wanted.ensures.place

pub loop-id-smaller : goal.loop-id-smaller
loop-id-smaller c =
    let within = slice_get_within c.loop-id.self.texts c.loop-id.self.place c.in-Some.id.0 (sym c.in-Some.ensures.id) in
    let few = few-inside c.args.texts.now.known c.loop-id.self.texts c.in-Some.ensures.distinct c.loop-id.invariant.inside in
    let place = ap (λ (p : Passed). p.place) c.end_text.ensures.next in
    let same = c.in_ok-wanted.ensures.place in
    omega arith

pub loop-id-preserved : goal.loop-id-preserved
loop-id-preserved c =
    let known = c.args.texts.now.known in
    let goes : Goes (file_rest c.in-Some.id.0) known c.loop-id.self c.pass_text.new.self None = rw c.in_default-2.is at c.in_ok-wanted.ensures.goes in
    let few = few-inside known c.pass_text.new.self.texts c.end_text.ensures.distinct c.in_ok-wanted.ensures.inside in
    let next : suc c.loop-id.self.place ≡ c.pass_text.new.self.place + 1 = let same = c.in_ok-wanted.ensures.place in omega arith in
    let texts : c.end_text.new.self.texts ≡ c.pass_text.new.self.texts = ap (λ (p : Passed). p.texts) c.end_text.ensures.next in
    record {
      inside = subst (λ ts. IsInside known ts) (sym texts) c.in_ok-wanted.ensures.inside;
      rest = λ more. left-step known c.args.self.now c.loop-id.self c.pass_text.new.self c.in-Some.id.0 (sym c.in-Some.ensures.id) c.loop-id.invariant.rest goes few more
          ∙ ap (λ p. left (known ++ more) (record { texts = c.pass_text.new.self.texts; place = p; lines = 0 })) next
          ∙ sym (ap (left (known ++ more)) c.end_text.ensures.next);
    }
