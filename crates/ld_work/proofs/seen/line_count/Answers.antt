use Rattle.std.proofs.Common.{ap, sym, ◌∙◌}
use Rattle.std.specs.Option.{unwrap_or}
use Rattle.ld_work.proofs.Numbered.{count-seen}
use Rattle.ld_work.proofs.seen.line_count.Goals as goal

pub returns : goal.returns
returns c = c.unwrap_or.ensures ∙ ap (λ o. unwrap_or o 0) c.len.ensures ∙ sym (count-seen c.number_law.ensures c.args.reader.now.texts.known c.known.ensures.distinct c.args.text.0)
