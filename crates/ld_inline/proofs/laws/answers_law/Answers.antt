use Rattle.ld_inline.proofs.Answered.{answers-inline}
use Rattle.ld_inline.proofs.laws.answers_law.Goals as goal

pub returns : goal.returns
returns c = answers-inline c.count_law.ensures c.lawful_law.ensures c.part_law.ensures
