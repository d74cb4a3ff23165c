-- A line that is no !LDRAW_ORG line does not matter to the header.
use Rattle.std.proofs.Common.{◌≡◌, ◌<◌, ℕ, zero, suc, Bool, List, [], ◌∷◌, length, map, Option, None, sym, ap, refl, ◌∙◌, get_or, arith, subst}
use Rattle.std.specs.List.{insert, remove}
use Rattle.std.specs.Option.{IfSome, unwrap_or}
use Rattle.std.proofs.Math.ListN.{set}
use Rattle.ld_line.specs.Part.{header_of, is_part_by_header}
use Rattle.ld_line.specs.Reading.{line_of}
use Rattle.ld_texts.specs.Inside.Kept.{IsHeader}

abbrev header : List (List ℕ) → Bool
header lines = is_part_by_header (map line_of lines)

abbrev IsPlain : List ℕ → Type 0
IsPlain line = header_of (line_of line) ≡ None

passed : (line : List ℕ) (more : Bool) → IsPlain line → unwrap_or (header_of (line_of line)) more ≡ more
passed line more plain = ap (λ named. unwrap_or named more) plain

header-set : (lines : List (List ℕ)) (place : ℕ) (was line : List ℕ) → place < length lines → was ≡ get_or lines place was → IsPlain was → IsPlain line → header lines ≡ header (set lines place line)
header-set [] place was line within is old new = refl
header-set (first ∷ lines) zero was line within is old new = passed first (header lines) (ap (λ l. header_of (line_of l)) (sym is) ∙ old) ∙ sym (passed line (header lines) new)
header-set (first ∷ lines) (suc place) was line within is old new = ap (unwrap_or (header_of (line_of first))) (header-set lines place was line (omega arith) is old new)

header-insert : (lines : List (List ℕ)) (place : ℕ) (line : List ℕ) → IsPlain line → header lines ≡ header (insert lines place line)
header-insert lines zero line new = sym (passed line (header lines) new)
header-insert [] (suc place) line new = sym (passed line (header []) new)
header-insert (first ∷ lines) (suc place) line new = ap (unwrap_or (header_of (line_of first))) (header-insert lines place line new)

header-remove : (lines : List (List ℕ)) (place : ℕ) (was : List ℕ) → place < length lines → was ≡ get_or lines place was → IsPlain was → header lines ≡ header (remove lines place)
header-remove [] place was within is old = absurd (omega arith)
header-remove (first ∷ lines) zero was within is old = passed first (header lines) (ap (λ l. header_of (line_of l)) (sym is) ∙ old)
header-remove (first ∷ lines) (suc place) was within is old = ap (unwrap_or (header_of (line_of first))) (header-remove lines place was (omega arith) is old)

still : (read : Option Bool) (old new : Bool) → old ≡ new → IfSome read (λ part. part ≡ old) → IfSome read (λ part. part ≡ new)
still read old new same was = subst (λ now. IfSome read (λ part. part ≡ now)) same was

-- so what was read of the header stays where plain lines change
pub IsHeader-set : (read : Option Bool) (lines : List (List ℕ)) (place : ℕ) (was line : List ℕ) → IsHeader read lines → place < length lines → was ≡ get_or lines place was → IsPlain was → IsPlain line → IsHeader read (set lines place line)
IsHeader-set read lines place was line here within is old new = still read (header lines) (header (set lines place line)) (header-set lines place was line within is old new) here

pub IsHeader-insert : (read : Option Bool) (lines : List (List ℕ)) (place : ℕ) (line : List ℕ) → IsHeader read lines → IsPlain line → IsHeader read (insert lines place line)
IsHeader-insert read lines place line here new = still read (header lines) (header (insert lines place line)) (header-insert lines place line new) here

pub IsHeader-remove : (read : Option Bool) (lines : List (List ℕ)) (place : ℕ) (was : List ℕ) → IsHeader read lines → place < length lines → was ≡ get_or lines place was → IsPlain was → IsHeader read (remove lines place)
IsHeader-remove read lines place was here within is old = still read (header lines) (header (remove lines place)) (header-remove lines place was within is old) here
