use Rattle.std.proofs.Common.{[], rules, sym, ◌∙◌}
use Rattle.ld_mpd.specs.Blocks.{IsText}
use Rattle.ld_mpd.proofs.cutting.text_of.Goals as goal

pub returns-in_err-lines-clause-memory : goal.returns-in_err-lines-clause-memory
returns-in_err-lines-clause-memory c =
    let some : IsText [] c.args.bytes.now → ⊥ = λ none. c.in_err-lines.ensures.memory (c.main_text.ensures [] ∙ sym (none [])) in
    search (rules, some)
