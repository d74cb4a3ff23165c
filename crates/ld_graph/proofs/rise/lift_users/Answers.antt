use Rattle.std.proofs.Common.{◌≡◌, ◌∙◌, Some, below_more, sym, subst, arith, get_or}
use Rattle.std.proofs.lemmas.List.{get_or_default}
use Rattle.std.proofs.lemmas.List.Elements.{Contains-get_or}
use Rattle.ld_graph.specs.Inside.Linking.{found_by_name}
use Rattle.ld_graph.specs.Inside.Rising.{IsSettled}
use Rattle.ld_graph.specs.Items.{web_of}
use Rattle.ld_graph.proofs.Referring.{user_refers}
use Rattle.ld_graph.proofs.Rising.{above_below, below_one, raises_more, raises_none, settled_still}
use Rattle.ld_graph.proofs.rise.lift_users.Goals as goal

pub loop-user-init : goal.loop-user-init
loop-user-init c = record { raises = raises_none c.args.cap c.args.heights.now.items c.args.marks.now; below = c.requires.below; settled = λ k lt. absurd (omega arith) }

pub loop-user-preserved : goal.loop-user-preserved
loop-user-preserved c =
    let items = c.args.links.now.items in
    let web = web_of items in
    let cap = c.args.cap in
    let old = c.loop-user.heights.items in
    let new = c.lift_user.new.heights.items in
    let user = get_or c.users-users.result.now c.loop-user.user-index 0 in
    let before = c.loop-user.invariant in
    let did = c.lift_user.ensures in
    let contained = Contains-get_or c.users-users.result.now c.loop-user.user-index 0 (omega arith) in
    record {
      raises = raises_more cap c.args.heights.now.items old new c.args.marks.now c.loop-user.marks c.lift_user.new.marks before.raises did.raises;
      below = below_one web cap old new user _ before.below (above_below web cap old user (found_by_name items user c.args.text) before.below (user_refers items user c.args.text c.users-users.result.now c.users-users.ensures.users contained)) did.only;
      settled = below_more _ _ (λ k lt child is. settled_still cap old new c.loop-user.marks c.lift_user.new.marks did.raises _ child (before.settled k lt child is)) did.settled;
    }

pub returns-clause-settled : goal.returns-clause-settled
returns-clause-settled c = λ user child r.
    let users = c.users-users.result.now in
    let at = (c.users-users.ensures.users r.file r.file_is user).1 r.uses in
    let is : get_or users at.0 0 ≡ user = get_or_default users at.0 0 user at.1 ∙ at.2 in
    subst (λ u. IsSettled c.args.cap c.loop-user.heights.items c.loop-user.marks u child) is (c.loop-user.invariant.settled at.0 (omega (arith, at.1)) child (subst (λ u. found_by_name c.args.links.now.items u c.args.text ≡ Some child) (sym is) r.finds))
