-- Words, and the lines and texts that are made of them: File Format 1.0.2, "File Format".
use Rattle.std.specs.Prelude.{◌≡◌, ◌&&◌, ◌||◌, ℕ, Bool, true, false, not, List, [], ◌∷◌, ◌++◌}
use Rattle.std.specs.List.{flat_map, join_with_byte, list_all}
use Rattle.ld_names.specs.Normal.{is_blank}
use Rattle.ld_line.specs.Cut.{is_line_feed, lines_of, without_mark}
use Rattle.ld_line.specs.Field.{after_field, fields}

-- a byte of a field: no blank, and no end of a line
abbrev pub is_plain : ℕ → Bool
is_plain byte = not (is_blank byte || is_line_feed byte)

-- the bytes of one field
abbrev pub is_word : List ℕ → Bool
is_word [] = false
is_word (byte ∷ bytes) = is_plain byte && list_all is_plain bytes

-- words with one space between each two
abbrev pub spaced : List (List ℕ) → List ℕ
spaced words = join_with_byte 32 words

-- the bytes of one line
abbrev pub is_one_line : List ℕ → Bool
is_one_line line = list_all (λ byte. not (is_line_feed byte)) line

-- lines, each ended by CR LF
abbrev pub ended : List (List ℕ) → List ℕ
ended lines = flat_map (λ line. line ++ 13 ∷ 10 ∷ []) lines

-- words with blanks between them are the fields of their line
pub record FieldsOfWords : Type 0 where
  pub one : (word : List ℕ) → is_word word ≡ true → fields word ≡ word ∷ []
  pub more : (word : List ℕ) (byte : ℕ) (rest : List ℕ) → is_word word ≡ true → is_blank byte ≡ true → fields (word ++ byte ∷ rest) ≡ word ∷ fields rest
  pub behind : (word : List ℕ) (byte : ℕ) (rest : List ℕ) → is_word word ≡ true → is_blank byte ≡ true → after_field (word ++ byte ∷ rest) ≡ byte ∷ rest
  pub spaced : (words : List (List ℕ)) → list_all is_word words ≡ true → fields (spaced words) ≡ words
  pub end : (line : List ℕ) → fields line ≡ [] → after_field line ≡ []

-- lines that are ended by CR LF are the lines of their text, and no line holds a line feed
pub record LinesOfTexts : Type 0 where
  pub back : (lines : List (List ℕ)) → list_all is_one_line lines ≡ true → without_mark (ended lines) ≡ ended lines → lines_of (ended lines) ≡ lines
  pub spaced : (words : List (List ℕ)) → list_all is_word words ≡ true → is_one_line (spaced words) ≡ true
  pub one_line : (bytes : List ℕ) → list_all is_one_line (lines_of bytes) ≡ true
