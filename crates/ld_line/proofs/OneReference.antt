-- The one reference of lines, line by line.
use Rattle.std.proofs.Common.{◌≡◌, ◌+◌, ℕ, Bool, true, false, List, [], ◌∷◌, cond, map, Option, Some, None, refl}
use Rattle.std.specs.List.{list_any}
use Rattle.ld_line.specs.Moved.{is_drawn, is_reference, only, references_from}
use Rattle.ld_line.specs.Reading.{line_of}
use Rattle.ld_line.specs.Showing.{shown_of}
use Rattle.ld_line.specs.declared.line.Line.{Line}
use Rattle.ld_line.specs.declared.line.Line.TheVariants.{Draw, Ref}
use Rattle.ld_line.specs.declared.read.Shown.TheVariants.{Drawing, Nothing, Reference}

abbrev pub with_found : Option ℕ → List ℕ → List ℕ
with_found None numbers = numbers
with_found (Some number) numbers = number ∷ numbers

-- the one reference by what was found so far, and what is left behind so many lines
abbrev pub one_of : Option ℕ → ℕ → List (List ℕ) → Option ℕ
one_of found before rest = cond (list_any is_drawn (map line_of rest)) None (only (with_found found (references_from (before + 1) (map line_of rest))))

drawn_if : (line : Line) → shown_of line ≡ Drawing → is_drawn line ≡ true
drawn_if (Draw kind colour points) is = refl
drawn_if line is = absurd (cc)

not_drawn : (line : Line) → shown_of line ≡ Reference → is_drawn line ≡ false
not_drawn (Draw kind colour points) is = absurd (cc)
not_drawn line is = refl

reference_if : (line : Line) → shown_of line ≡ Reference → is_reference line ≡ true
reference_if (Ref colour placement name) is = refl
reference_if line is = absurd (cc)

neither : (line : Line) → shown_of line ≡ Nothing → (is_drawn line ≡ false) × (is_reference line ≡ false)
neither (Draw kind colour points) is = absurd (cc)
neither (Ref colour placement name) is = absurd (cc)
neither line is = (refl, refl)

pub one-skip : (found : Option ℕ) (before : ℕ) (line : List ℕ) (rest : List (List ℕ)) → shown_of (line_of line) ≡ Nothing → one_of found (before + 1) rest ≡ one_of found before (line ∷ rest)
one-skip found before line rest is = let h = neither (line_of line) is in rw (h.0, h.1) refl

pub one-first : (before : ℕ) (line : List ℕ) (rest : List (List ℕ)) → shown_of (line_of line) ≡ Reference → one_of (Some (before + 1)) (before + 1) rest ≡ one_of None before (line ∷ rest)
one-first before line rest is = rw (not_drawn (line_of line) is, reference_if (line_of line) is) refl

none : (drawn : Bool) → ◌≡◌ {A = Option ℕ} None (cond drawn None None)
none true = refl
none false = refl

pub one-second : (number before : ℕ) (line : List ℕ) (rest : List (List ℕ)) → shown_of (line_of line) ≡ Reference → None ≡ one_of (Some number) before (line ∷ rest)
one-second number before line rest is = rw (not_drawn (line_of line) is, reference_if (line_of line) is) (none (list_any is_drawn (map line_of rest)))

pub one-drawn : (found : Option ℕ) (before : ℕ) (line : List ℕ) (rest : List (List ℕ)) → shown_of (line_of line) ≡ Drawing → None ≡ one_of found before (line ∷ rest)
one-drawn found before line rest is = rw (drawn_if (line_of line) is) refl

pub one-end : (found : Option ℕ) (before : ℕ) → found ≡ one_of found before []
one-end None before = refl
one-end (Some number) before = refl
