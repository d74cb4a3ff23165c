use Rattle.std.proofs.Common.{sym, ◌∙◌}
use Rattle.ld_work.proofs.Numbered.{part-seen}
use Rattle.ld_work.proofs.seen.is_part.Goals as goal

pub returns : goal.returns
returns c = c.is_part.ensures ∙ sym (part-seen c.number_law.ensures c.args.reader.now.texts.known c.known.ensures.distinct c.args.text.0)
