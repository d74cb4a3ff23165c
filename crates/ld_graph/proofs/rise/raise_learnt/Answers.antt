use Rattle.std.proofs.Common.{⊎_elim, sym, subst}
use Rattle.ld_graph.specs.Inside.Rising.{HasFloor, IsSettled}
use Rattle.ld_graph.specs.Items.{web_of}
use Rattle.ld_graph.specs.Web.{Refers}
use Rattle.ld_graph.proofs.Rising.{floor_still, settled_still}
use Rattle.ld_graph.proofs.rise.raise_learnt.Goals as goal

pub rise-requires-clause-floors : goal.rise-requires-clause-floors
rise-requires-clause-floors c =
    let web = web_of c.args.links.now.items in
    let cap = c.args.cap in
    let one = c.lift_text.new.heights.items in
    let two = c.lift_users.new.heights.items in
    λ other. ⊎_elim
    (λ same. subst (HasFloor web cap two) (sym same) (floor_still cap one two c.lift_text.new.marks c.lift_users.new.marks c.lift_users.ensures.raises web c.args.text c.lift_text.ensures.floor))
    (λ floor. floor_still cap one two c.lift_text.new.marks c.lift_users.new.marks c.lift_users.ensures.raises web other (floor_still cap c.args.heights.now.items one c.args.marks.now c.lift_text.new.marks c.lift_text.ensures.raises web other floor))
    (c.requires.floors other)

pub rise-requires-clause-settled : goal.rise-requires-clause-settled
rise-requires-clause-settled c =
    let web = web_of c.args.links.now.items in
    let cap = c.args.cap in
    let one = c.lift_text.new.heights.items in
    let two = c.lift_users.new.heights.items in
    let raises = c.lift_users.ensures.raises in
    λ other child r. ⊎_elim
    (λ same. settled_still cap one two c.lift_text.new.marks c.lift_users.new.marks raises other child (subst (λ t. IsSettled cap one c.lift_text.new.marks t child) (sym same) (c.lift_text.ensures.settled child (subst (λ t. Refers web t child) same r))))
    (λ late. ⊎_elim
    (λ by. c.lift_users.ensures.settled other child by)
    (λ was. settled_still cap one two c.lift_text.new.marks c.lift_users.new.marks raises other child (settled_still cap c.args.heights.now.items one c.args.marks.now c.lift_text.new.marks c.lift_text.ensures.raises other child was))
    late)
    (c.requires.settled other child r)
