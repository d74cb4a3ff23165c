use Rattle.ld_line.specs.Cut.{lines_from}
use Rattle.ld_mpd.proofs.Texts.{text_behind, text_whole}
use Rattle.ld_mpd.proofs.cutting.main_text.Goals as goal

pub returns-in-Some : goal.returns-in-Some
returns-in-Some c own = text_behind own c.args.bytes.now (lines_from c.unmarked-text.result.now) (lines_from c.in-Some.rest.now) c.unmarked-text.ensures.lines c.in-Some.ensures

pub returns-in-None : goal.returns-in-None
returns-in-None c own = text_whole own c.args.bytes.now (lines_from c.unmarked-text.result.now) c.unmarked-text.ensures.lines c.in-None.ensures
