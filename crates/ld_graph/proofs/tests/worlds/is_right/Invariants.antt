use Rattle.ld_graph.specs.Agreeing.{Agrees}
use Rattle.ld_graph.proofs.tests.worlds.is_right.Given as goal

abbrev pub invariant-loop : goal.invariant-loop
invariant-loop l = Agrees l.world.graph l.world.texts
