use Rattle.std.proofs.Common.{sym, ◌∙◌, None}
use Rattle.ld_texts.proofs.Placed.{written_at}
use Rattle.ld_texts.proofs.texts.Texts.drop_file.Goals as goal

pub returns-clause-known : goal.returns-clause-known
returns-clause-known c = c.take.ensures.known ∙ sym (written_at c.args.self.now.known c.args.file _ None c.number-id.ensures.number)
