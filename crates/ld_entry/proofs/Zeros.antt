-- A line has zero in the points that it does not use.
use Rattle.std.proofs.Common.{◌≡◌, ◌≤◌, ◌-◌, ◌*◌, ℕ, zero, suc, Bool, true, false, cond, ℤ, pos, List, [], ◌∷◌, length, map, drop, replicate, Option, Some, None, Result, Ok, Err, refl, ap, ◌∙◌, arith}
use Rattle.std.specs.Prelude.{⊤}
use Rattle.std.proofs.lemmas.List.{get_or_past}
use Rattle.ld_num.specs.Number.{dec_of}
use Rattle.ld_num.specs.declared.dec.NumError.{NumError}
use Rattle.ld_num.specs.declared.dec.NumError.TheVariants.{NotANumber, OutOfRange}
use Rattle.ld_names.specs.Normal.{normal_of}
use Rattle.ld_line.specs.Colour.{colour_word}
use Rattle.ld_line.specs.Field.{after_fields, fields}
use Rattle.ld_line.specs.Kind.{points_in}
use Rattle.ld_line.specs.Meta.{meta_of, rotation_line, stated, rotation_by}
use Rattle.ld_line.specs.Numbers.{angles_of, number_at, numbers_of, onto_numbers, points_of}
use Rattle.ld_line.specs.Reading.{draw_of, drawn, file_named, line_in, line_of, reference_of, referred}
use Rattle.ld_line.specs.declared.line.Angles.{Angles}
use Rattle.ld_line.specs.declared.line.BfcWord.{BfcWord}
use Rattle.ld_line.specs.declared.line.Kind.{Kind}
use Rattle.ld_line.specs.declared.line.Kind.TheVariants.{Line2, Opt, Quad, Tri}
use Rattle.ld_line.specs.declared.line.Line.{Line}
use Rattle.ld_line.specs.declared.line.Line.TheVariants.{Draw}
use Rattle.ld_entry.specs.Lawful.{zero_point}

abbrev pub HasZeros : Line → Type 0
HasZeros (Draw kind word points) = drop (points_in kind) points ≡ replicate (4 - points_in kind) zero_point
HasZeros line = ⊤

abbrev pub HaveZeros : List Line → Type 0
HaveZeros [] = ⊤
HaveZeros (line ∷ lines) = HasZeros line × HaveZeros lines

-- ---- As many numbers are read as are wanted.

onto_numbers-ok : (first : Result ℤ NumError) (more : Result (List ℤ) NumError) (numbers : List ℤ) (count : ℕ) → ((rest : List ℤ) → more ≡ Ok rest → length rest ≡ count) → onto_numbers first more ≡ Ok numbers → length numbers ≡ suc count
onto_numbers-ok (Err NotANumber) more numbers count counts is = cc
onto_numbers-ok (Err OutOfRange) (Err NotANumber) numbers count counts is = cc
onto_numbers-ok (Err OutOfRange) (Err OutOfRange) numbers count counts is = cc
onto_numbers-ok (Err OutOfRange) (Ok rest) numbers count counts is = cc
onto_numbers-ok (Ok number) (Err NotANumber) numbers count counts is = cc
onto_numbers-ok (Ok number) (Err OutOfRange) numbers count counts is = cc
onto_numbers-ok (Ok number) (Ok rest) numbers count counts is =
    let all : numbers ≡ number ∷ rest = cc in
    ap length all ∙ ap suc (counts rest refl)

length-numbers_of : (count : ℕ) (fields : List (List ℕ)) (numbers : List ℤ) → numbers_of count fields ≡ Ok numbers → length numbers ≡ count
length-numbers_of zero fields numbers is =
    let none : numbers ≡ [] = cc in ap length none
length-numbers_of (suc count) [] numbers is = cc
length-numbers_of (suc count) (field ∷ fields) numbers is =
    onto_numbers-ok (dec_of field) (numbers_of count fields) numbers count (λ rest read. length-numbers_of count fields rest read) is

-- ---- The points behind them are zero.

number_at-past : (numbers : List ℤ) (place : ℕ) → length numbers ≤ place → number_at numbers place ≡ pos 0
number_at-past numbers place past = get_or_past numbers place (pos 0) past

points-zero : (kind : Kind) (numbers : List ℤ) → length numbers ≡ 3 * points_in kind → drop (points_in kind) (points_of numbers) ≡ replicate (4 - points_in kind) zero_point
points-zero Line2 numbers count = rw (number_at-past numbers 6 (omega arith), number_at-past numbers 7 (omega arith), number_at-past numbers 8 (omega arith), number_at-past numbers 9 (omega arith), number_at-past numbers 10 (omega arith), number_at-past numbers 11 (omega arith)) refl
points-zero Tri numbers count = rw (number_at-past numbers 9 (omega arith), number_at-past numbers 10 (omega arith), number_at-past numbers 11 (omega arith)) refl
points-zero Quad numbers count = refl
points-zero Opt numbers count = refl

drawn-zeros : (kind : Kind) (colour : Option ℕ) (numbers : Result (List ℤ) NumError) → ((read : List ℤ) → numbers ≡ Ok read → length read ≡ 3 * points_in kind) → HasZeros (drawn kind colour numbers)
drawn-zeros kind None numbers counts = tt
drawn-zeros kind (Some colour) (Err NotANumber) counts = tt
drawn-zeros kind (Some colour) (Err OutOfRange) counts = tt
drawn-zeros kind (Some colour) (Ok numbers) counts = points-zero kind numbers (counts numbers refl)

draw_of-zeros : (kind : Kind) (fields : List (List ℕ)) → HasZeros (draw_of kind fields)
draw_of-zeros kind [] = tt
draw_of-zeros kind (colour ∷ fields) = drawn-zeros kind (colour_word colour) (numbers_of (3 * points_in kind) fields) (λ read is. length-numbers_of (3 * points_in kind) fields read is)

-- ---- Other lines draw nothing.

referred-zeros : (colour : Option ℕ) (numbers : Result (List ℤ) NumError) (file : Option (Option (List ℕ))) → HasZeros (referred colour numbers file)
referred-zeros None numbers file = tt
referred-zeros (Some colour) (Err NotANumber) file = tt
referred-zeros (Some colour) (Err OutOfRange) None = tt
referred-zeros (Some colour) (Err OutOfRange) (Some name) = tt
referred-zeros (Some colour) (Ok numbers) None = tt
referred-zeros (Some colour) (Ok numbers) (Some name) = tt

reference_of-zeros : (fields : List (List ℕ)) (rest : List ℕ) → HasZeros (reference_of fields rest)
reference_of-zeros [] rest = tt
reference_of-zeros (colour ∷ fields) rest = referred-zeros (colour_word colour) (numbers_of 12 fields) (file_named (normal_of (after_fields 13 rest)))

if-zeros : (b : Bool) (x y : Line) → HasZeros x → HasZeros y → HasZeros (cond b x y)
if-zeros true x y hx hy = hx
if-zeros false x y hx hy = hy

stated-zeros : (word : Option BfcWord) → HasZeros (stated word)
stated-zeros (Some word) = tt
stated-zeros None = tt

rotation_by-zeros : (angles : Angles) (fields : List (List ℕ)) → HasZeros (rotation_by angles fields)
rotation_by-zeros angles [] = tt
rotation_by-zeros angles (word ∷ []) = search (if-zeros, tt)
rotation_by-zeros angles (word ∷ more ∷ fields) = tt

rotation_line-zeros : (numbers : Result (List ℤ) NumError) (fields : List (List ℕ)) → HasZeros (rotation_line numbers fields)
rotation_line-zeros (Err e) fields = tt
rotation_line-zeros (Ok numbers) fields = rotation_by-zeros (angles_of numbers) fields

meta_of-zeros : (fields : List (List ℕ)) → HasZeros (meta_of fields)
meta_of-zeros [] = tt
meta_of-zeros (command ∷ fields) = search (if-zeros, stated-zeros, rotation_line-zeros, tt) depth 20

line_in-zeros : (all : List (List ℕ)) (rest : List ℕ) → HasZeros (line_in all rest)
line_in-zeros [] rest = tt
line_in-zeros (type ∷ fields) rest = search (if-zeros, meta_of-zeros, reference_of-zeros, draw_of-zeros, tt) depth 20

pub line_of-zeros : (bytes : List ℕ) → HasZeros (line_of bytes)
unfolding line_of
line_of-zeros bytes = line_in-zeros (fields bytes) (after_fields 1 bytes)

pub lines-zeros : (lines : List (List ℕ)) → HaveZeros (map line_of lines)
lines-zeros [] = tt
lines-zeros (line ∷ lines) = (line_of-zeros line, lines-zeros lines)
