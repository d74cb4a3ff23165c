use Rattle.ld_report.proofs.Extending.{after, same, through}
use Rattle.ld_report.proofs.pieces.print_head.Goals as goal

pub returns-in_err-extend_from_slice-clause-keeps : goal.returns-in_err-extend_from_slice-clause-keeps
returns-in_err-extend_from_slice-clause-keeps c = same _ _ c.in_err-extend_from_slice.ensures.items

pub returns-in_err-print_colour-clause-keeps : goal.returns-in_err-print_colour-clause-keeps
returns-in_err-print_colour-clause-keeps c = after _ _ _ _ c.in_ok-extend_from_slice.ensures.items c.in_err-print_colour.ensures.keeps

pub returns-clause-keeps : goal.returns-clause-keeps
returns-clause-keeps c = after _ _ _ _ c.in_ok-extend_from_slice.ensures.items (through _ _ _ c.in_ok-print_colour.ensures.keeps c.print_rgb.ensures.keeps)
