use Rattle.std.proofs.Common.{◌-◌, ap, min, sym, subst, ◌∙◌, option_map}
use Rattle.ld_line.specs.Reading.{line_of}
use Rattle.ld_work.specs.Inside.Working.{ReadsAtMost}
use Rattle.ld_work.proofs.Numbered.{line-seen, lines-count}
use Rattle.ld_work.proofs.seen.line_behind.Goals as goal

pub returns-clause-line : goal.returns-clause-line
returns-clause-line c = ap (option_map line_of) c.next_line.ensures.line ∙ sym (line-seen c.number_law.ensures c.args.reader.now.texts.known c.known.ensures.distinct c.args.text.0 c.args.before)

pub returns-clause-reads : goal.returns-clause-reads
returns-clause-reads c =
    subst (λ n. ReadsAtMost c.args.reader.now c.next_line.new.reader (min 1 (n - c.args.before))) (sym (lines-count c.number_law.ensures c.args.reader.now.texts.known c.known.ensures.distinct c.args.text.0)) c.next_line.ensures.reads
