use Rattle.std.proofs.Common.{◌≡◌, ◌∙◌, min, suc, ap, arith}
use Rattle.std.specs.Option.{option_map_or}
use Rattle.ld_graph.specs.Inside.Linking.{found_by_name}
use Rattle.ld_graph.specs.Inside.Rising.{height_in}
use Rattle.ld_graph.proofs.Rising.{above_small, settled_above}
use Rattle.ld_graph.proofs.rise.lift_user.Goals as goal
use Rattle.ld_graph.proofs.rise.lift_user.Goals.{After-lift}

high_is : (c : After-lift) → c.above-high.result ≡ option_map_or (λ child. min c.args.cap (suc (height_in c.args.heights.now.items child))) (found_by_name c.args.links.now.items c.args.user c.args.text) 0
high_is c =
    c.above-high.ensures
    ∙ ap (λ hs. option_map_or (λ child. min c.args.cap (suc (height_in hs child))) c.found.result 0) c.deref.ensures.value
    ∙ ap (λ one. option_map_or (λ child. min c.args.cap (suc (height_in c.args.heights.now.items child))) one 0) c.found.ensures

pub returns-clause-raises : goal.returns-clause-raises
returns-clause-raises c =
    let small = above_small c.args.cap c.args.heights.now.items (found_by_name c.args.links.now.items c.args.user c.args.text) in
    c.lift.ensures.raises c.args.cap (omega (arith, high_is c, small))

pub returns-clause-only : goal.returns-clause-only
returns-clause-only c = rw (← high_is c) c.lift.ensures.only

pub returns-clause-settled : goal.returns-clause-settled
returns-clause-settled c =
    λ child is.
    let small = above_small c.args.cap c.args.heights.now.items (found_by_name c.args.links.now.items c.args.user c.args.text) in
    let high = high_is c ∙ ap (λ one. option_map_or (λ child. min c.args.cap (suc (height_in c.args.heights.now.items child))) one 0) is in
    settled_above c.args.cap c.args.heights.now.items c.lift.new.heights.items c.args.marks.now c.lift.new.marks c.args.user child (c.lift.ensures.raises c.args.cap (omega (arith, high_is c, small))) (omega (arith, high, c.lift.ensures.high))
