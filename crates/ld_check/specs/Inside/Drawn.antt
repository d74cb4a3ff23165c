-- What earlier lines drew.
use Rattle.std.specs.Prelude.{◌≡◌, Bool, ◌++◌, ℕ, List, [], ◌∷◌, Option, Some, None}
use Rattle.std.specs.List.{list_any}
use Rattle.ld_line.specs.Reading.{line_of}
use Rattle.ld_line.specs.declared.line.Line.{Line}
use Rattle.ld_line.specs.declared.line.Line.TheVariants.{Draw}
use Rattle.ld_check.specs.Lines.{draws_same}
use Rattle.ld_check.specs.declared.drawing.Drawing.{Drawing}
use Rattle.ld_check.specs.declared.drawing.Drawings.{Drawings}

abbrev pub drawing_of : Line → Option Drawing
drawing_of (Draw kind colour points) = Some (record { kind = kind; colour = colour; points = points })
drawing_of line = None

abbrev pub shown : Drawing → Line
shown drawing = Draw drawing.kind drawing.colour drawing.points

abbrev pub same_drawing : Drawing → Drawing → Bool
same_drawing drawing other = draws_same (shown drawing) (shown other)

-- what these lines draw, and nothing else, was drawn
abbrev pub HasDrawn : Drawings → List (List ℕ) → Type 0
HasDrawn drawings lines = (drawing : Drawing) → list_any (same_drawing drawing) drawings.seen.keys ≡ list_any (λ line. draws_same (shown drawing) (line_of line)) lines

-- whether one of the lines before draws the same
abbrev pub IsRepeated : Drawings → Line → Bool → Type 0
IsRepeated drawings line is_repeated = (lines : List (List ℕ)) → HasDrawn drawings lines → is_repeated ≡ list_any (λ earlier. draws_same line (line_of earlier)) lines

-- one line more was drawn
abbrev pub DrawsLine : Line → Drawings → Drawings → Type 0
DrawsLine line old new = (lines : List (List ℕ)) (bytes : List ℕ) → line ≡ line_of bytes → HasDrawn old lines → HasDrawn new (lines ++ bytes ∷ [])
