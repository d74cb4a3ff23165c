use Rattle.std.proofs.Common.{ap, sym, ◌∙◌, option_map}
use Rattle.ld_line.specs.Reading.{line_of}
use Rattle.ld_engine.proofs.Numbered.{line-seen}
use Rattle.ld_engine.proofs.seen.line_behind.Goals as goal

pub returns-clause-line : goal.returns-clause-line
returns-clause-line c = ap (option_map line_of) c.next_line.ensures.line ∙ sym (line-seen c.number_law.ensures c.args.texts.now.known c.known.ensures.distinct c.args.text.0 c.args.before)
