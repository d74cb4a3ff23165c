use Rattle.ld_texts.proofs.Placed.{id_of-lt-length}
use Rattle.std.proofs.Common.{ap, sym, ◌∙◌, option_map}
use Rattle.ld_names.specs.declared.file.TextId.{TextId}
use Rattle.ld_texts.proofs.texts.Texts.number.Goals as goal

pub returns-clause-within : goal.returns-clause-within
returns-clause-within c = id_of-lt-length c.args.self.now.known c.args.file.now c.unwrap.result.0 (sym c.id.ensures ∙ ap (option_map (λ (id : TextId). id.0)) c.unwrap.ensures)
