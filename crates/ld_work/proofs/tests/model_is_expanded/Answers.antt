use Rattle.std.proofs.Common.{◌∙◌, ap, sym}
use Rattle.ld_graph.specs.Agreeing.{items_of_known}
use Rattle.ld_work.proofs.tests.model_is_expanded.Goals as goal

pub learn-requires : goal.learn-requires
unfolding items_of_known
learn-requires c = record { agrees = c.new-graph.ensures.items ∙ sym (ap items_of_known c.new-texts.ensures.nothing_known) }
