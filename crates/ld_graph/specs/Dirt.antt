-- A set of texts as a list with a mark for each number. A text past its end is not in it.
use Rattle.std.specs.Prelude.{ℕ, Bool, false, List, get_or, replicate}
use Rattle.ld_names.specs.declared.file.TextId.{TextId}

abbrev pub no_text : ℕ → List Bool
no_text texts = replicate texts false

abbrev pub is_dirty : List Bool → TextId → Bool
is_dirty dirty text = get_or dirty text.0 false
