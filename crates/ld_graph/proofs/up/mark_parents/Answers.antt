use Rattle.std.proofs.Common.{◌≡◌, ◌∙◌, Some, inl, inr, ⊎_elim, below_more, sym, subst, arith, get_or}
use Rattle.std.proofs.lemmas.List.{get_or_default}
use Rattle.std.proofs.lemmas.List.Elements.{Contains-get_or}
use Rattle.std.specs.List.{Contains}
use Rattle.ld_graph.specs.Inside.Linking.{found_by_name}
use Rattle.ld_graph.specs.Inside.Marking.{IsMarked}
use Rattle.ld_graph.proofs.Marked.{more_more, more_none}
use Rattle.ld_graph.proofs.Referring.{by_name, known_file, refers_name}
use Rattle.ld_graph.proofs.up.mark_parents.Goals as goal

pub loop-user-init : goal.loop-user-init
loop-user-init c = record { more = more_none c.args.marks.now; marked = λ k lt. absurd (omega arith); only = λ other m. inl m }

pub loop-user-preserved : goal.loop-user-preserved
loop-user-preserved c =
    let i = c.loop-user.user-index in
    let users = c.users-users.result.now in
    let before = c.loop-user.invariant in
    let did = c.mark_if.ensures in
    record {
      more = more_more _ _ _ before.more did.more;
      marked = below_more _ _ (λ k lt f. did.more.kept _ (before.marked k lt f)) (λ f. did.marked (c.finds.ensures.1 f));
      only = λ other m. ⊎_elim (before.only other) (λ both. inr (subst (Contains users) (sym both.0) (Contains-get_or users i 0 (omega arith)), subst (λ u. found_by_name c.args.links.now.items u c.args.text ≡ Some c.args.text) (sym both.0) (c.finds.ensures.0 both.1))) (did.only other m);
    }

pub returns-clause-marked : goal.returns-clause-marked
returns-clause-marked c = λ user r.
    let items = c.args.links.now.items in
    let users = c.users-users.result.now in
    let file = known_file items c.args.text c.requires.text in
    let name = refers_name c.file_laws.ensures.same items user c.args.text file.0 file.1 r in
    let at = (c.users-users.ensures.users file.0 file.1 user).1 name.0 in
    let is : get_or users at.0 0 ≡ user = get_or_default users at.0 0 user at.1 ∙ at.2 in
    subst (IsMarked c.loop-user.marks) is (c.loop-user.invariant.marked at.0 (omega (arith, at.1)) (subst (λ u. found_by_name items u c.args.text ≡ Some c.args.text) (sym is) name.1))

pub returns-clause-only : goal.returns-clause-only
returns-clause-only c = λ other m.
    let items = c.args.links.now.items in
    let file = known_file items c.args.text c.requires.text in
    ⊎_elim inl (λ both. inr (by_name items other c.args.text c.args.text (record { file = file.0; file_is = file.1; uses = (c.users-users.ensures.users file.0 file.1 other).0 both.0; finds = both.1 }))) (c.loop-user.invariant.only other m)
