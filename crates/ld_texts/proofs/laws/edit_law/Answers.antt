use Rattle.ld_texts.proofs.Edited.{edit_laws}
use Rattle.ld_texts.proofs.laws.edit_law.Goals as goal

pub returns : goal.returns
returns c = edit_laws c.file_laws.ensures.same
