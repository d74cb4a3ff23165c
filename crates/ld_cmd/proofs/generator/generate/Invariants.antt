use Rattle.std.proofs.Common.{◌≡◌, ◌++◌}
use Rattle.ld_cmd.specs.Generator.{bricks, gen_block}
use Rattle.ld_cmd.proofs.generator.generate.Given as goal

abbrev pub invariant-loop-index : goal.invariant-loop-index
invariant-loop-index l = l.text.items ≡ gen_block ++ bricks l.index
