-- The order of a part's header lines, which ends at the first line that refers or draws: Official Library Header
-- Specification, "Header lines", and Back Face Culling Language Extension (a part states how it is culled before it draws).
use Rattle.std.specs.Prelude.{ℕ, Bool, true, false, ◌&&◌, not, nat_lt, List, ◌∷◌, drop, take, Option, Some, None, if◌then◌else◌, bytes_eq, codes}
use Rattle.std.specs.List.{list_any}
use Rattle.ld_line.specs.Field.{fields}
use Rattle.ld_line.specs.Reading.{line_of}
use Rattle.ld_line.specs.declared.line.Line.{Line}
use Rattle.ld_line.specs.declared.line.Line.TheVariants.{Bfc, Draw, Ref}
use Rattle.ld_check.specs.Text.{numbered_line, lines_before, passes, said}

-- a line that refers or draws
abbrev pub is_body : Line → Bool
is_body (Ref colour placement name) = true
is_body (Draw kind colour points) = true
is_body line = false

-- a statement of back face culling
abbrev pub is_statement : Line → Bool
is_statement (Bfc word) = true
is_statement line = false

-- the first line that refers or draws
abbrev pub begins_body : List (List ℕ) → ℕ → Bool
begins_body lines number = passes (said is_body) (numbered_line lines number) && not (list_any (said is_body) (lines_before lines number))

-- the body begins without a statement of back face culling before it
abbrev pub lacks_statement : List (List ℕ) → ℕ → Bool
lacks_statement lines number = begins_body lines number && not (list_any (said is_statement) (lines_before lines number))

abbrev pub rank_of_word : List ℕ → Option ℕ
rank_of_word word = if bytes_eq word (codes "!HELP") then Some 1 else if bytes_eq word (codes "!CATEGORY") then Some 3 else if bytes_eq word (codes "!KEYWORDS") then Some 4 else if bytes_eq word (codes "!CMDLINE") then Some 5 else if bytes_eq word (codes "!HISTORY") then Some 6 else None

abbrev pub rank_of_fields : List (List ℕ) → Option ℕ
rank_of_fields (type ∷ word ∷ more) = if bytes_eq type (codes "0") then rank_of_word word else None
rank_of_fields fields = None

-- the place of a line among the kinds of header lines that come after the first five; no other line has one
abbrev pub rank_of : List ℕ → Option ℕ
rank_of line = if is_statement (line_of line) then Some 2 else rank_of_fields (fields line)

abbrev pub is_below : Option ℕ → Option ℕ → Bool
is_below (Some rank) (Some earlier) = nat_lt rank earlier
is_below rank earlier = false

-- a line after the first five and before the body, which belongs before an earlier such line
abbrev pub is_out_of_order : List (List ℕ) → ℕ → Bool
is_out_of_order lines number =
    nat_lt 5 number && not (list_any (said is_body) (take number lines)) && passes (λ line. list_any (λ earlier. is_below (rank_of line) (rank_of earlier)) (drop 5 (lines_before lines number))) (numbered_line lines number)
