use Rattle.ld_colour.specs.declared.colour.Colour.TheVariants.{Main}
use Rattle.ld_report.specs.Parts.{part_words, parts_text}
use Rattle.ld_report.specs.Pieces.{line_text}
use Rattle.ld_report.proofs.Extending.{appended, through}
use Rattle.ld_report.proofs.Growing.{all, more_at}
use Rattle.ld_report.proofs.parts.append_parts.Goals as goal

pub loop-part-preserved : goal.loop-part-preserved
unfolding parts_text
loop-part-preserved c =
    more_at (λ part. line_text (part_words c.args.texts.now.known part)) c.args.parts.now c.loop-part.part-index (record { file = record { 0 = 0 }; colour = Main; count = 0 }) c.args.into.now.items c.loop-part.into.items c.print_part.new.into.items c.loop-part-test.true c.loop-part.invariant c.in_ok-print_part.ensures.ok

pub returns-in_err-print_part-clause-keeps : goal.returns-in_err-print_part-clause-keeps
returns-in_err-print_part-clause-keeps c = through _ _ _ (appended _ _ _ c.loop-part.invariant) c.in_err-print_part.ensures.keeps

pub returns-clause-ok : goal.returns-clause-ok
unfolding parts_text
returns-clause-ok c =
    all (λ part. line_text (part_words c.args.texts.now.known part)) c.args.parts.now c.loop-part.part-index c.args.into.now.items c.loop-part.into.items c.loop-part-test.false c.loop-part.invariant

pub returns-clause-keeps : goal.returns-clause-keeps
returns-clause-keeps c = appended _ _ _ c.loop-part.invariant
