-- What is kept beside the lines of a text, and beside the known files.
use Rattle.std.specs.Prelude.{◌≡◌, ◌≤◌, ◌<◌, ◌^◌, ℕ, Bool, List, Option, IfSome, map, length}
use Rattle.ld_line.specs.Part.{is_part_by_header}
use Rattle.ld_line.specs.Reading.{line_of}
use Rattle.ld_names.specs.Standing.{Known}
use Rattle.ld_texts.specs.Known.{weight_of, weight_of_lines}

-- whether the header of lines names a part, where it was read
abbrev pub IsHeader : Option Bool → List (List ℕ) → Type 0
IsHeader header lines = IfSome header (λ part. part ≡ is_part_by_header (map line_of lines))

-- the weight of lines, and what was read of their header
pub record IsMeasured (lines : List (List ℕ)) (weighed : ℕ) (header : Option Bool) : Type 0 where
  pub weight : weighed ≡ weight_of_lines lines
  pub part : IsHeader header lines

-- the weight of the known files, which pass neither limit
pub record IsWithin (known : Known) (weighed max_files max_weight : ℕ) : Type 0 where
  pub weight : weighed ≡ weight_of known
  pub files : length known ≤ max_files
  pub fits : weight_of known ≤ max_weight
  pub few : max_files < 2 ^ 32
  pub light : max_weight < 2 ^ 37
