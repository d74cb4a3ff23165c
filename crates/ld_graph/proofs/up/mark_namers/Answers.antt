use Rattle.std.proofs.Common.{◌≡◌, ◌∙◌, inl, inr, ⊎_elim, below_more, sym, subst, arith, get_or}
use Rattle.std.proofs.lemmas.List.{get_or_default}
use Rattle.std.proofs.lemmas.List.Elements.{Contains-get_or}
use Rattle.std.specs.List.{Contains}
use Rattle.ld_graph.specs.Inside.Linking.{LooksAt}
use Rattle.ld_graph.specs.Inside.Marking.{IsMarked}
use Rattle.ld_graph.proofs.Marked.{more_more, more_none}
use Rattle.ld_graph.proofs.Referring.{known_file, namer_uses, names_text}
use Rattle.ld_graph.proofs.up.mark_namers.Goals as goal

pub loop-user-init : goal.loop-user-init
loop-user-init c = record { more = more_none c.args.marks.now; marked = λ k lt. absurd (omega arith); only = λ other m. inl m }

pub loop-user-preserved : goal.loop-user-preserved
loop-user-preserved c =
    let i = c.loop-user.user-index in
    let users = c.users-users.result.now in
    let before = c.loop-user.invariant in
    let did = c.mark_if.ensures in
    record {
      more = more_more _ _ _ before.more did.more;
      marked = below_more _ _ (λ k lt f. did.more.kept _ (before.marked k lt f)) (λ f. did.marked (c.looks_at.ensures.1 f));
      only = λ other m. ⊎_elim (before.only other) (λ both. inr (subst (Contains users) (sym both.0) (Contains-get_or users i 0 (omega arith)), subst (λ u. LooksAt c.args.links.now.items u c.args.text) (sym both.0) (c.looks_at.ensures.0 both.1))) (did.only other m);
    }

pub returns-clause-marked : goal.returns-clause-marked
returns-clause-marked c = λ user n.
    let items = c.args.links.now.items in
    let users = c.users-users.result.now in
    let by = namer_uses items user c.args.text n in
    let at = (c.users-users.ensures.users n.file n.file_is user).1 by.0 in
    let is : get_or users at.0 0 ≡ user = get_or_default users at.0 0 user at.1 ∙ at.2 in
    subst (IsMarked c.loop-user.marks) is (c.loop-user.invariant.marked at.0 (omega (arith, at.1)) (subst (λ u. LooksAt items u c.args.text) (sym is) by.1))

pub returns-clause-only : goal.returns-clause-only
returns-clause-only c = λ other m.
    let items = c.args.links.now.items in
    let file = known_file items c.args.text c.requires.text in
    ⊎_elim inl (λ both. inr (names_text items other c.args.text file.0 file.1 ((c.users-users.ensures.users file.0 file.1 other).0 both.0) both.1)) (c.loop-user.invariant.only other m)
