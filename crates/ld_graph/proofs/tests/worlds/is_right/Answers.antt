use Rattle.std.proofs.Common.{◌∙◌, ap, sym}
use Rattle.ld_graph.specs.Agreeing.{items_of_known}
use Rattle.ld_graph.proofs.tests.worlds.is_right.Goals as goal

pub loop-init : goal.loop-init
unfolding items_of_known
loop-init c = c.new-2.ensures.items ∙ sym (ap items_of_known c.new.ensures.nothing_known)
