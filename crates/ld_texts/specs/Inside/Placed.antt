-- Another text at the number of a known file, by which the code writes it.
use Rattle.std.specs.Prelude.{ℕ, zero, suc, [], ◌∷◌}
use Rattle.ld_names.specs.Standing.{Known, Text}

abbrev pub with_text_at : Known → ℕ → Text → Known
with_text_at [] id text = []
with_text_at (first ∷ known) zero text = (first.0, text) ∷ known
with_text_at (first ∷ known) (suc id) text = first ∷ with_text_at known id text
