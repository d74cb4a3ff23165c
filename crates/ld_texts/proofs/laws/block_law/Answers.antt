use Rattle.ld_texts.proofs.Blocks.{keeps_block_lines}
use Rattle.ld_texts.proofs.laws.block_law.Goals as goal

pub returns : goal.returns
returns c = keeps_block_lines
