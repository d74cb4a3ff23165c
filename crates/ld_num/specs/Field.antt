-- The field at the front of a text: File Format 1.0.2, "File Format" (fields are separated by blanks).
use Rattle.std.specs.Prelude.{ℕ, ◌==◌, ◌||◌, Bool, List, drop}
use Rattle.std.specs.List.{before_first, position_or_len}

-- a space or a tab
abbrev pub is_blank : ℕ → Bool
is_blank byte = byte == 32 || byte == 9

-- the bytes before the first blank
abbrev pub front_field : List ℕ → List ℕ
front_field text = before_first is_blank text

-- what stands behind them
abbrev pub after_front_field : List ℕ → List ℕ
after_front_field text = drop (position_or_len is_blank text) text
