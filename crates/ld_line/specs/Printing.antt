-- How colours, drawn lines, steps and statements of back face culling are printed, and that each is read as what it says:
-- File Format 1.0.2, "Colours" and "Line Types", the Back Face Culling Language Extension, and rotation steps as MLCad writes them.
use Rattle.std.specs.Prelude.{◌≡◌, ◌+◌, ◌/◌, ◌%◌, ◌≤◌, ◌<◌, ◌^◌, ℕ, ℤ, pos, true, List, [], ◌∷◌, ◌++◌, length, take, drop, map, codes, unsigned_abs, Some}
use Rattle.std.specs.Fmt.{decimal, digit_glyph}
use Rattle.std.specs.List.{All, flat_map, list_all}
use Rattle.ld_num.specs.Text.{dec_text}
use Rattle.ld_num.specs.declared.point.Point.{Point}
use Rattle.ld_line.specs.declared.line.Angles.{Angles}
use Rattle.ld_line.specs.declared.line.Kind.{Kind}
use Rattle.ld_line.specs.declared.line.Kind.TheVariants.{Line2, Tri, Quad, Opt}
use Rattle.ld_line.specs.declared.line.BfcWord.TheVariants.{Certify, Clip, NoClip}
use Rattle.ld_line.specs.declared.line.Winding.TheVariants.{Ccw}
use Rattle.ld_line.specs.declared.line.Line.TheVariants.{Bfc, Draw, Rot, Step}
use Rattle.ld_line.specs.declared.line.RotWord.{RotWord}
use Rattle.ld_line.specs.declared.line.RotWord.TheVariants.{Abs, Rel, Add, End}
use Rattle.ld_line.specs.Colour.{colour_word}
use Rattle.ld_line.specs.Digits.{decimal_number}
use Rattle.ld_line.specs.Kind.{points_in}
use Rattle.ld_line.specs.Reading.{line_of}
use Rattle.ld_line.specs.Word.{is_word, spaced}

-- ---- colours

-- the six lowest hexadecimal digits, in capitals
abbrev pub six_hex : ℕ → List ℕ
six_hex value =
    digit_glyph true (value / 0x100000 % 16) ∷ digit_glyph true (value / 0x10000 % 16) ∷ digit_glyph true (value / 0x1000 % 16) ∷ digit_glyph true (value / 0x100 % 16) ∷ digit_glyph true (value / 0x10 % 16) ∷ digit_glyph true (value % 16) ∷ []

-- a direct colour: 0x2RRGGBB
unfoldable pub direct_text : ℕ → List ℕ
direct_text value = codes "0x2" ++ six_hex value

-- a colour that is printed is one word, which is read as its number
pub record ColoursAgain : Type 0 where
  pub decimal_word : (number : ℕ) → number < 2 ^ 32 → is_word (decimal number) ≡ true
  pub decimal_colour : (number : ℕ) → number < 2 ^ 32 → colour_word (decimal number) ≡ Some number
  pub decimal_read : (number : ℕ) → number < 2 ^ 32 → decimal_number (decimal number) ≡ Some number
  pub direct_word : (value : ℕ) → is_word (direct_text value) ≡ true
  pub direct_colour : (value : ℕ) → value < 2 ^ 24 → colour_word (direct_text value) ≡ Some (0x2000000 + value)

-- ---- drawn lines

-- the type of a line
abbrev pub kind_word : Kind → List ℕ
kind_word Line2 = codes "2"
kind_word Tri = codes "3"
kind_word Quad = codes "4"
kind_word Opt = codes "5"

abbrev pub coordinates : Point → List ℤ
coordinates point = point.x ∷ point.y ∷ point.z ∷ []

-- the words of the coordinates of the first so many points
abbrev pub point_words : ℕ → List Point → List (List ℕ)
point_words count points = map dec_text (flat_map coordinates (take count points))

abbrev pub draw_words : Kind → List ℕ → List Point → List (List ℕ)
draw_words kind colour points = kind_word kind ∷ colour ∷ point_words (points_in kind) points

-- millionths in range
abbrev pub IsDec : ℤ → Type 0
IsDec value = unsigned_abs value ≤ 10 ^ 12

abbrev pub IsPoint : Point → Type 0
IsPoint point = IsDec point.x × IsDec point.y × IsDec point.z

abbrev pub origin : Point
origin = record { x = pos 0; y = pos 0; z = pos 0 }

-- four points in range, and those that are not used are zero
pub record AreShown (kind : Kind) (points : List Point) : Type 0 where
  pub four : length points ≡ 4
  pub in_range : All IsPoint points
  pub unused : All (λ point. point ≡ origin) (drop (points_in kind) points)

-- a drawn line that is printed is read as what it draws, whatever word its colour was printed as
pub record DrawnAgain : Type 0 where
  pub words : (kind : Kind) (colour : List ℕ) (points : List Point) → is_word colour ≡ true → AreShown kind points → list_all is_word (draw_words kind colour points) ≡ true
  pub line : (kind : Kind) (colour : List ℕ) (number : ℕ) (points : List Point) → is_word colour ≡ true → colour_word colour ≡ Some number → AreShown kind points → line_of (spaced (draw_words kind colour points)) ≡ Draw kind number points

-- ---- steps

abbrev pub step_words : List (List ℕ)
step_words = codes "0" ∷ codes "STEP" ∷ []

abbrev pub angle_words : Angles → List (List ℕ)
angle_words angles = dec_text angles.x ∷ dec_text angles.y ∷ dec_text angles.z ∷ []

abbrev pub turn_words : RotWord → List (List ℕ)
turn_words (Abs angles) = angle_words angles ++ codes "ABS" ∷ []
turn_words (Rel angles) = angle_words angles ++ codes "REL" ∷ []
turn_words (Add angles) = angle_words angles ++ codes "ADD" ∷ []
turn_words End = codes "END" ∷ []

abbrev pub rotation_words : RotWord → List (List ℕ)
rotation_words word = codes "0" ∷ codes "ROTSTEP" ∷ turn_words word

abbrev pub AreAngles : Angles → Type 0
AreAngles angles = IsDec angles.x × IsDec angles.y × IsDec angles.z

abbrev pub IsTurn : RotWord → Type 0
IsTurn (Abs angles) = AreAngles angles
IsTurn (Rel angles) = AreAngles angles
IsTurn (Add angles) = AreAngles angles
IsTurn End = Unit {0}

-- ---- statements of back face culling

abbrev pub bfc_line : List (List ℕ) → List (List ℕ)
bfc_line words = codes "0" ∷ codes "BFC" ∷ words

-- steps and statements that are printed are read as those
pub record StepsAgain : Type 0 where
  pub step : line_of (spaced step_words) ≡ Step
  pub words : (word : RotWord) → IsTurn word → list_all is_word (rotation_words word) ≡ true
  pub rotation : (word : RotWord) → IsTurn word → line_of (spaced (rotation_words word)) ≡ Rot word
  pub certify : line_of (spaced (bfc_line (codes "CERTIFY" ∷ codes "CCW" ∷ []))) ≡ Bfc (Certify Ccw)
  pub clip : line_of (spaced (bfc_line (codes "CLIP" ∷ []))) ≡ Bfc Clip
  pub no_clip : line_of (spaced (bfc_line (codes "NOCLIP" ∷ []))) ≡ Bfc NoClip
