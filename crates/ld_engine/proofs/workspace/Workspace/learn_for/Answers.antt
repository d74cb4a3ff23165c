use Rattle.std.proofs.Common.{◌≡◌, ◌++◌, [], ◌∷◌, ap, sym, subst, ◌∙◌, arith, Ok, Err, Some, None}
use Rattle.std.specs.Prelude.{IfSome}
use Rattle.ld_names.specs.declared.file.TextId.{TextId}
use Rattle.ld_texts.specs.Known.{id_of}
use Rattle.ld_texts.specs.Learning.{Texts}
use Rattle.ld_texts.specs.Reach.{reach, wanted}
use Rattle.ld_engine.specs.Going.{Goes, IsInside, Passed, left}
use Rattle.ld_engine.specs.Keeping.{StopsAt, Tells}
use Rattle.ld_engine.specs.declared.limits.Limits.{Limits}
use Rattle.ld_engine.proofs.Reached.{id-behind}
use Rattle.ld_engine.proofs.Roots.{begun-inside, begun-rest, inside-behind, next-wanted, nothing-wanted, rest-behind}
use Rattle.ld_engine.proofs.Wanted.{learns-more, none-wanted, one-more, stops-file, told-first, told-end, told-more, told-stop}
use Rattle.ld_engine.specs.Learning.{wanted_for}
use Rattle.ld_engine.proofs.workspace.Workspace.learn_for.Goals as goal

pub loop-going-init : goal.loop-going-init
loop-going-init g c =
    let known = c.learn_root.new.self.texts.known in
    let root = c.args.root.now in
    let e = c.in_ok-id.ensures in
    record {
      limits = e.limits;
      learns = e.learns;
      number = e.known;
      inside = subst (λ (p : Passed). IsInside known p.texts) (sym c.in_ok-going.ensures) (begun-inside c.number_law.ensures c.learning_law.ensures known root c.in_ok-id.id.0 e.known);
      rest = λ more. begun-rest c.number_law.ensures c.learning_law.ensures known root c.in_ok-id.id.0 e.known more ∙ ap (left (known ++ more)) (sym c.in_ok-going.ensures);
      told = e.told;
      same = e.shelf.same;
      unread = e.unread;
      never_falls = e.shelf.never_falls;
    }

pub loop-going-smaller : goal.loop-going-smaller
loop-going-smaller g c =
    let e = c.in_default-learn_file.ensures in
    let mid = c.loop-going.self.texts.known in
    let grown = one-more mid c.learn_file.new.self.texts.known (c.in-Some.file, e.learns.0) e.learns.1.known in
    let limits : c.learn_file.new.self.limits.texts ≡ c.loop-going.self.limits.texts = ap (λ (l : Limits). l.texts) e.limits in
    let room = e.room in
    omega arith

pub loop-going-preserved : goal.loop-going-preserved
loop-going-preserved g c =
    let e = c.in_default-learn_file.ensures in
    let i = c.loop-going.invariant in
    let root = c.args.root.now in
    let mid = c.loop-going.self.texts.known in
    let new = c.learn_file.new.self.texts.known in
    let file = c.in-Some.file in
    let known : c.texts.result.now.known ≡ mid = ap (λ (t : Texts). t.known) c.texts.ensures.texts in
    let goes : Goes left mid c.loop-going.going c.next_wanted.new.self (Some file) = subst (λ k. Goes left k c.loop-going.going c.next_wanted.new.self (Some file)) known (rw c.in-Some.is at c.in_ok-file.ensures.goes) in
    let inside : IsInside mid c.next_wanted.new.self.texts = subst (λ k. IsInside k c.next_wanted.new.self.texts) known c.in_ok-file.ensures.inside in
    let wants : wanted mid root ≡ Some file = next-wanted mid root c.loop-going.going i.rest c.next_wanted.new.self file goes in
    let text = e.learns.0 in
    let is : new ≡ mid ++ (file, text) ∷ [] = e.learns.1.known in
    let step : IfSome (g.S.Shelf.files c.loop-going.shelf) (λ files. Tells c.loop-going.self.limits files (wanted_for root) mid new (Ok c.in_default-learn_file.field-0)) = told-first c.loop-going.self.limits (wanted_for root) file mid new (g.S.Shelf.files c.loop-going.shelf) (Ok c.in_default-learn_file.field-0) wants e.told in
    let step' : IfSome (g.S.Shelf.files c.args.shelf.now) (λ files. Tells c.args.self.now.limits files (wanted_for root) mid new (Ok c.in_default-learn_file.field-0)) = subst (λ o. IfSome o (λ files. Tells c.args.self.now.limits files (wanted_for root) mid new (Ok c.in_default-learn_file.field-0))) i.same (subst (λ (l : Limits). IfSome (g.S.Shelf.files c.loop-going.shelf) (λ files. Tells l files (wanted_for root) mid new (Ok c.in_default-learn_file.field-0))) i.limits step) in
    record {
      limits = e.limits ∙ i.limits;
      learns = learns-more (wanted_for root) c.args.self.now.texts.known mid new file text i.learns wants is;
      number = ap (λ k. id_of k root) is ∙ id-behind c.learning_law.ensures mid ((file, text) ∷ []) root c.in_ok-id.id.0 i.number;
      inside = subst (λ k. IsInside k c.next_wanted.new.self.texts) (sym is) (inside-behind mid (file, text) c.next_wanted.new.self.texts inside);
      rest = λ more. ap (λ k. reach (k ++ more) root) is ∙ rest-behind mid root c.loop-going.going i.rest c.next_wanted.new.self file text goes more ∙ ap (λ k. left (k ++ more) c.next_wanted.new.self) (sym is);
      told = told-more c.args.self.now.limits (wanted_for root) c.args.self.now.texts.known mid new (g.S.Shelf.files c.args.shelf.now) c.in_default-learn_file.field-0 i.told step';
      same = e.shelf.same ∙ i.same;
      unread = none-wanted (wanted_for root) c.args.self.now.texts.known mid file i.learns wants;
      never_falls = omega (arith, e.shelf.never_falls, i.never_falls);
    }

pub returns-in-Err-clause-stops : goal.returns-in-Err-clause-stops
returns-in-Err-clause-stops g c =
    let e = c.in-Err.ensures in
    let i = c.loop-going.invariant in
    let root = c.args.root.now in
    let mid = c.loop-going.self.texts.known in
    let new = c.learn_file.new.self.texts.known in
    let file = c.in-Some.file in
    let known : c.texts.result.now.known ≡ mid = ap (λ (t : Texts). t.known) c.texts.ensures.texts in
    let goes : Goes left mid c.loop-going.going c.next_wanted.new.self (Some file) = subst (λ k. Goes left k c.loop-going.going c.next_wanted.new.self (Some file)) known (rw c.in-Some.is at c.in_ok-file.ensures.goes) in
    let wants : wanted mid root ≡ Some file = next-wanted mid root c.loop-going.going i.rest c.next_wanted.new.self file goes in
    stops-file c.args.self.now.limits (wanted_for root) file mid new c.in-Err.stop wants e.learns (subst (λ (l : Limits). StopsAt l mid file c.in-Err.stop) i.limits e.stops)

pub returns-in-Err-clause-unread : goal.returns-in-Err-clause-unread
returns-in-Err-clause-unread g c =
    let i = c.loop-going.invariant in
    let root = c.args.root.now in
    let mid = c.loop-going.self.texts.known in
    let file = c.in-Some.file in
    let known : c.texts.result.now.known ≡ mid = ap (λ (t : Texts). t.known) c.texts.ensures.texts in
    let goes : Goes left mid c.loop-going.going c.next_wanted.new.self (Some file) = subst (λ k. Goes left k c.loop-going.going c.next_wanted.new.self (Some file)) known (rw c.in-Some.is at c.in_ok-file.ensures.goes) in
    let wants : wanted mid root ≡ Some file = next-wanted mid root c.loop-going.going i.rest c.next_wanted.new.self file goes in
    none-wanted (wanted_for root) c.args.self.now.texts.known mid file i.learns wants

pub returns-in-Err-clause-told : goal.returns-in-Err-clause-told
returns-in-Err-clause-told g c =
    let e = c.in-Err.ensures in
    let i = c.loop-going.invariant in
    let root = c.args.root.now in
    let mid = c.loop-going.self.texts.known in
    let new = c.learn_file.new.self.texts.known in
    let file = c.in-Some.file in
    let known : c.texts.result.now.known ≡ mid = ap (λ (t : Texts). t.known) c.texts.ensures.texts in
    let goes : Goes left mid c.loop-going.going c.next_wanted.new.self (Some file) = subst (λ k. Goes left k c.loop-going.going c.next_wanted.new.self (Some file)) known (rw c.in-Some.is at c.in_ok-file.ensures.goes) in
    let wants : wanted mid root ≡ Some file = next-wanted mid root c.loop-going.going i.rest c.next_wanted.new.self file goes in
    let step = told-first c.loop-going.self.limits (wanted_for root) file mid new (g.S.Shelf.files c.loop-going.shelf) (Err c.in-Err.stop) wants e.told in
    let step' : IfSome (g.S.Shelf.files c.args.shelf.now) (λ files. Tells c.args.self.now.limits files (wanted_for root) mid new (Err c.in-Err.stop)) = subst (λ o. IfSome o (λ files. Tells c.args.self.now.limits files (wanted_for root) mid new (Err c.in-Err.stop))) i.same (subst (λ (l : Limits). IfSome (g.S.Shelf.files c.loop-going.shelf) (λ files. Tells l files (wanted_for root) mid new (Err c.in-Err.stop))) i.limits step) in
    told-stop TextId c.args.self.now.limits (wanted_for root) c.args.self.now.texts.known mid new (g.S.Shelf.files c.args.shelf.now) c.in-Err.stop i.told step'

pub returns-clause-learnt : goal.returns-clause-learnt
returns-clause-learnt g c =
    let known : c.texts.result.now.known ≡ c.loop-going.self.texts.known = ap (λ (t : Texts). t.known) c.texts.ensures.texts in
    let goes : Goes left c.loop-going.self.texts.known c.loop-going.going c.next_wanted.new.self None = subst (λ k. Goes left k c.loop-going.going c.next_wanted.new.self None) known (rw c.in_default.is at c.in_ok-file.ensures.goes) in
    record { number = c.loop-going.invariant.number; nothing_wanted = nothing-wanted c.loop-going.self.texts.known c.args.root.now c.loop-going.going c.loop-going.invariant.rest c.next_wanted.new.self goes }

pub returns-clause-told : goal.returns-clause-told
returns-clause-told g c =
    let known : c.texts.result.now.known ≡ c.loop-going.self.texts.known = ap (λ (t : Texts). t.known) c.texts.ensures.texts in
    let goes : Goes left c.loop-going.self.texts.known c.loop-going.going c.next_wanted.new.self None = subst (λ k. Goes left k c.loop-going.going c.next_wanted.new.self None) known (rw c.in_default.is at c.in_ok-file.ensures.goes) in
    told-end c.args.self.now.limits (wanted_for c.args.root.now) c.args.self.now.texts.known c.loop-going.self.texts.known (g.S.Shelf.files c.args.shelf.now) (nothing-wanted c.loop-going.self.texts.known c.args.root.now c.loop-going.going c.loop-going.invariant.rest c.next_wanted.new.self goes) c.loop-going.invariant.told
