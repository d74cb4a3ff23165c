use Rattle.std.proofs.Common.{◌≡◌, ◌<◌, ◌+◌, ◌-◌, [], ◌∷◌, length, Some, ap, sym, ◌∙◌, subst, arith, rules}
use Rattle.std.specs.Prelude.{slice_get}
use Rattle.ld_texts.specs.Reach.{texts_reach}
use Rattle.ld_work.specs.Inside.Reaching.{ArePresent}
use Rattle.ld_work.proofs.Ranks.{present-at}
use Rattle.ld_work.proofs.Reaching.{reach-begins, reach-next}
use Rattle.ld_work.proofs.lent.Lent.reached.Goals as goal

pub loop-place-init : goal.loop-place-init
loop-place-init c =
    let known = c.args.reader.now.texts.known in
    let keys : c.insert.new.self.keys ≡ c.args.root.0 ∷ [] = search rules in
    let all : length known - 0 ≡ length known = omega arith in
    record {
      goes = ap (texts_reach (length known - 0) known 0) keys ∙ ap (λ n. texts_reach n known 0 (c.args.root.0 ∷ [])) all ∙ reach-begins known c.number_law.ensures c.known-place-end.ensures.distinct c.args.root c.requires.learnt;
      present = subst (ArePresent known) (sym keys) (c.requires.learnt.present, tt);
    }

pub loop-place-preserved : goal.loop-place-preserved
loop-place-preserved c =
    let known = c.args.reader.now.texts.known in
    let at : slice_get c.loop-place.texts.keys c.loop-place.place ≡ Some c.in-Some.text = sym c.get_index.ensures.key ∙ sym c.copied.ensures ∙ c.in-Some.is in
    let within : c.loop-place.place < length known = omega arith in
    record {
      goes = reach-next c.number_law.ensures known c.loop-place.place (c.loop-place.place + 1) c.loop-place.texts.keys c.reach_names.new.texts.keys _ c.in-Some.text within (omega arith) at (present-at known c.loop-place.texts.keys c.loop-place.place c.in-Some.text c.loop-place.invariant.present at) c.in_ok-reach_names.ensures.exactly c.loop-place.invariant.goes;
      present = c.in_ok-reach_names.ensures.present;
    }
