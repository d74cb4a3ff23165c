use Rattle.ld_line.proofs.Fields.{fields-end}
use Rattle.ld_line.proofs.Words.{fields_behind, fields_more, fields_one, fields_spaced}
use Rattle.ld_line.proofs.laws.fields_law.Goals as goal

pub returns : goal.returns
returns c = record { one = fields_one; more = fields_more; behind = fields_behind; spaced = fields_spaced; end = fields-end }
