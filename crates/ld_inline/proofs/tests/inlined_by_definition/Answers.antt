use Rattle.std.proofs.Common.{ℕ, refl}
use Rattle.std.specs.Fmt.{digits}
use Rattle.ld_num.specs.Text.{dec_text}
use Rattle.ld_line.specs.Printing.{direct_text}
use Rattle.ld_colour.specs.Table.{rgb_in}
use Rattle.ld_inline.specs.Text.{inlined_text, written_text}
use Rattle.ld_inline.proofs.tests.inlined_by_definition.Goals as goal

-- what the examples compute with
opened : ℕ
unfolding inlined_text written_text digits dec_text direct_text rgb_in
opened = 0

pub returns-clause-empty : goal.returns-clause-empty
unfolding opened
returns-clause-empty c = refl

pub returns-clause-culling : goal.returns-clause-culling
unfolding opened
returns-clause-culling c = refl

pub returns-clause-missing : goal.returns-clause-missing
unfolding opened
returns-clause-missing c = refl

pub returns-clause-edges : goal.returns-clause-edges
unfolding opened
returns-clause-edges c = refl

pub returns-clause-steps : goal.returns-clause-steps
unfolding opened
returns-clause-steps c = refl
