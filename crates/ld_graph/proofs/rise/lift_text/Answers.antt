use Rattle.std.proofs.Common.{◌≡◌, ◌∙◌, min, get_or, ap, arith}
use Rattle.ld_graph.specs.Inside.Rising.{height_in}
use Rattle.ld_graph.specs.Items.{web_of}
use Rattle.ld_graph.specs.Web.{over}
use Rattle.ld_graph.proofs.Rising.{below_lifted, floor_lifted, settled_lifted}
use Rattle.ld_graph.proofs.rise.lift_text.Goals as goal
use Rattle.ld_graph.proofs.rise.lift_text.Goals.{After-lift}

high_is : (c : After-lift) → c.over-high.result ≡ min c.args.cap (over (web_of c.args.links.now.items) (height_in c.args.heights.now.items) c.args.text)
high_is c = c.over-high.ensures ∙ ap (λ hs. min c.args.cap (over (web_of c.args.links.now.items) (λ other. get_or hs other 0) c.args.text)) c.deref.ensures.value

pub returns-clause-raises : goal.returns-clause-raises
returns-clause-raises c = c.lift.ensures.raises c.args.cap (omega (arith, high_is c))

pub returns-clause-below : goal.returns-clause-below
returns-clause-below c =
    below_lifted (web_of c.args.links.now.items) c.args.cap c.args.heights.now.items c.lift.new.heights.items c.args.text c.over-high.result c.requires.below (high_is c) c.lift.ensures.only

pub returns-clause-floor : goal.returns-clause-floor
returns-clause-floor c =
    floor_lifted (web_of c.args.links.now.items) c.args.cap c.args.heights.now.items c.lift.new.heights.items c.args.text c.over-high.result (high_is c) c.lift.ensures.high

pub returns-clause-settled : goal.returns-clause-settled
returns-clause-settled c =
    settled_lifted (web_of c.args.links.now.items) c.args.cap c.args.heights.now.items c.lift.new.heights.items c.args.marks.now c.lift.new.marks c.args.text c.over-high.result (c.lift.ensures.raises c.args.cap (omega (arith, high_is c))) (high_is c) c.lift.ensures.high
