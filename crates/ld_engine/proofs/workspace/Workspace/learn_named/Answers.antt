use Rattle.std.proofs.Common.{◌≡◌, ap, subst, ◌∙◌, arith, Ok, Err, Some, None}
use Rattle.std.specs.Prelude.{IfSome, is_some}
use Rattle.ld_engine.specs.Editing.{wanted_by}
use Rattle.ld_engine.specs.Keeping.{Tells}
use Rattle.ld_engine.specs.declared.limits.Limits.{Limits}
use Rattle.ld_engine.proofs.Wanted.{learns-more, none-wanted, told-end, told-first, told-more, told-stop, wants-now}
use Rattle.ld_engine.proofs.workspace.Workspace.learn_named.Goals as goal

pub loop-file-preserved : goal.loop-file-preserved
loop-file-preserved g c =
    let e = c.in_default-learn_copy.ensures in
    let i = c.loop-file.invariant in
    let limits = c.args.self.now.limits in
    let wants = wanted_by c.args.edit.now in
    let old = c.args.self.now.texts.known in
    let mid = c.loop-file.self.texts.known in
    let new = c.learn_copy.new.self.texts.known in
    let file = c.in-Some.file.now in
    let next : wants mid ≡ Some file = wants-now wants c.texts.result.now c.loop-file.self.texts (Some file) c.texts.ensures.texts c.in-Some.ensures in
    let result = Ok c.in_default-learn_copy.field-0 in
    let step : IfSome (g.S.Shelf.files c.loop-file.shelf) (λ files. Tells c.loop-file.self.limits files wants mid new result) = told-first c.loop-file.self.limits wants file mid new (g.S.Shelf.files c.loop-file.shelf) result next e.told in
    let step' : IfSome (g.S.Shelf.files c.args.shelf.now) (λ files. Tells limits files wants mid new result) = subst (λ o. IfSome o (λ files. Tells limits files wants mid new result)) i.same (subst (λ (l : Limits). IfSome (g.S.Shelf.files c.loop-file.shelf) (λ files. Tells l files wants mid new result)) i.limits step) in
    record {
      limits = e.limits ∙ i.limits;
      learns = learns-more wants old mid new file e.learns.0 i.learns next e.learns.1.known;
      told = told-more limits wants old mid new (g.S.Shelf.files c.args.shelf.now) c.in_default-learn_copy.field-0 i.told step';
      same = e.shelf.same ∙ i.same;
      unread = none-wanted wants old mid file i.learns next;
      never_falls = omega (arith, e.shelf.never_falls, i.never_falls);
    }

pub returns-in-Err-clause-told : goal.returns-in-Err-clause-told
returns-in-Err-clause-told g c =
    let i = c.loop-file.invariant in
    let limits = c.args.self.now.limits in
    let wants = wanted_by c.args.edit.now in
    let mid = c.loop-file.self.texts.known in
    let new = c.learn_copy.new.self.texts.known in
    let file = c.in-Some.file.now in
    let next : wants mid ≡ Some file = wants-now wants c.texts.result.now c.loop-file.self.texts (Some file) c.texts.ensures.texts c.in-Some.ensures in
    let step = told-first c.loop-file.self.limits wants file mid new (g.S.Shelf.files c.loop-file.shelf) (Err c.in-Err.stop) next c.in-Err.ensures.told in
    let step' : IfSome (g.S.Shelf.files c.args.shelf.now) (λ files. Tells limits files wants mid new (Err c.in-Err.stop)) = subst (λ o. IfSome o (λ files. Tells limits files wants mid new (Err c.in-Err.stop))) i.same (subst (λ (l : Limits). IfSome (g.S.Shelf.files c.loop-file.shelf) (λ files. Tells l files wants mid new (Err c.in-Err.stop))) i.limits step) in
    told-stop (Unit {0}) limits wants c.args.self.now.texts.known mid new (g.S.Shelf.files c.args.shelf.now) c.in-Err.stop i.told step'

pub returns-in-Err-clause-wants : goal.returns-in-Err-clause-wants
returns-in-Err-clause-wants g c =
    let wants = wanted_by c.args.edit.now in
    let next : wants c.loop-file.self.texts.known ≡ Some c.in-Some.file.now = wants-now wants c.texts.result.now c.loop-file.self.texts (Some c.in-Some.file.now) c.texts.ensures.texts c.in-Some.ensures in
    ap (λ known. is_some (wants known)) c.in-Err.ensures.learns ∙ ap is_some next

pub returns-clause-told : goal.returns-clause-told
returns-clause-told g c =
    let wants = wanted_by c.args.edit.now in
    let none : wants c.loop-file.self.texts.known ≡ None = wants-now wants c.texts.result.now c.loop-file.self.texts None c.texts.ensures.texts c.in_default.ensures in
    told-end c.args.self.now.limits wants c.args.self.now.texts.known c.loop-file.self.texts.known (g.S.Shelf.files c.args.shelf.now) none c.loop-file.invariant.told

pub returns-in-Err-clause-unread : goal.returns-in-Err-clause-unread
returns-in-Err-clause-unread g c =
    let i = c.loop-file.invariant in
    let wants = wanted_by c.args.edit.now in
    let mid = c.loop-file.self.texts.known in
    let file = c.in-Some.file.now in
    let next : wants mid ≡ Some file = wants-now wants c.texts.result.now c.loop-file.self.texts (Some file) c.texts.ensures.texts c.in-Some.ensures in
    none-wanted wants c.args.self.now.texts.known mid file i.learns next
