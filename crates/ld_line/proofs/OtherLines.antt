-- Lines that are no !LDRAW_ORG line say nothing of a header.
use Rattle.std.proofs.Common.{◌≡◌, ◌*◌, ◌==◌, ℕ, ℤ, Bool, true, false, List, [], ◌∷◌, cond, length, drop, codes, bytes_eq, Option, Some, None, Result, Ok, Err, refl, ap, sym, ◌∙◌}
use Rattle.ld_num.specs.declared.dec.NumError.{NumError}
use Rattle.ld_num.specs.declared.dec.NumError.TheVariants.{NotANumber, OutOfRange}
use Rattle.ld_names.specs.Normal.{normal_of}
use Rattle.ld_line.specs.declared.line.Angles.{Angles}
use Rattle.ld_line.specs.declared.line.BfcWord.{BfcWord}
use Rattle.ld_line.specs.declared.line.Kind.{Kind}
use Rattle.ld_line.specs.declared.line.Kind.TheVariants.{Line2, Tri, Quad, Opt}
use Rattle.ld_line.specs.declared.line.Line.{Line}
use Rattle.ld_line.specs.declared.line.Line.TheVariants.{Comment, Malformed, Rot, Step}
use Rattle.ld_line.specs.declared.line.RotWord.TheVariants.{Abs, Rel, Add, End}
use Rattle.ld_line.specs.Colour.{colour_word}
use Rattle.ld_line.specs.Field.{after_fields, fields}
use Rattle.ld_line.specs.Kind.{points_in}
use Rattle.ld_line.specs.Meta.{bfc_words, meta_of, rotation_line, stated, statement_in, rotation_by, words_eq}
use Rattle.ld_line.specs.Numbers.{angles_of, numbers_of}
use Rattle.ld_line.specs.Part.{header_of}
use Rattle.ld_line.specs.Reading.{draw_of, drawn, file_named, line_in, line_of, reference_of, referred}

either : (b : Bool) (x y : Line) → header_of x ≡ None → header_of y ≡ None → header_of (cond b x y) ≡ None
either true x y here other = here
either false x y here other = other

no_drawn : (kind : Kind) (colour : Option ℕ) (numbers : Result (List ℤ) NumError) → header_of (drawn kind colour numbers) ≡ None
no_drawn kind None numbers = refl
no_drawn kind (Some colour) (Err NotANumber) = refl
no_drawn kind (Some colour) (Err OutOfRange) = refl
no_drawn kind (Some colour) (Ok numbers) = refl

no_draw : (kind : Kind) (fields : List (List ℕ)) → header_of (draw_of kind fields) ≡ None
no_draw kind [] = refl
no_draw kind (colour ∷ fields) = no_drawn kind (colour_word colour) (numbers_of (3 * points_in kind) fields)

no_referred : (colour : Option ℕ) (numbers : Result (List ℤ) NumError) (file : Option (Option (List ℕ))) → header_of (referred colour numbers file) ≡ None
no_referred None numbers file = refl
no_referred (Some colour) (Err NotANumber) file = refl
no_referred (Some colour) (Err OutOfRange) None = refl
no_referred (Some colour) (Err OutOfRange) (Some name) = refl
no_referred (Some colour) (Ok numbers) None = refl
no_referred (Some colour) (Ok numbers) (Some name) = refl

no_reference : (fields : List (List ℕ)) (rest : List ℕ) → header_of (reference_of fields rest) ≡ None
no_reference [] rest = refl
no_reference (colour ∷ fields) rest = no_referred (colour_word colour) (numbers_of 12 fields) (file_named (normal_of (after_fields 13 rest)))

no_stated : (word : Option BfcWord) → header_of (stated word) ≡ None
no_stated (Some word) = refl
no_stated None = refl

no_turned : (angles : Angles) (fields : List (List ℕ)) → header_of (rotation_by angles fields) ≡ None
no_turned angles [] = refl
no_turned angles (word ∷ []) =
    either (bytes_eq word (codes "ABS")) (Rot (Abs angles)) (cond (bytes_eq word (codes "REL")) (Rot (Rel angles)) (cond (bytes_eq word (codes "ADD")) (Rot (Add angles)) Comment)) refl
    (either (bytes_eq word (codes "REL")) (Rot (Rel angles)) (cond (bytes_eq word (codes "ADD")) (Rot (Add angles)) Comment) refl
    (either (bytes_eq word (codes "ADD")) (Rot (Add angles)) Comment refl refl))
no_turned angles (word ∷ more ∷ fields) = refl

no_rotated : (numbers : Result (List ℤ) NumError) (fields : List (List ℕ)) → header_of (rotation_line numbers fields) ≡ None
no_rotated (Err e) fields = refl
no_rotated (Ok numbers) fields = no_turned (angles_of numbers) fields

-- a line of type 0 with another command
pub no_meta : (command : List ℕ) (fields : List (List ℕ)) → bytes_eq command (codes "!LDRAW_ORG") ≡ false → header_of (meta_of (command ∷ fields)) ≡ None
no_meta command fields other =
    let statement = stated (statement_in bfc_words fields) in
    let step = cond (length fields == 0) Step Comment in
    let turns = cond (words_eq fields (codes "END" ∷ [])) (Rot End) (rotation_line (numbers_of 3 fields) (drop 3 fields)) in
    let turning = cond (bytes_eq command (codes "ROTSTEP")) turns Comment in
    let stepping = cond (bytes_eq command (codes "STEP")) step turning in
    rw other
    (either (bytes_eq command (codes "BFC")) statement stepping (no_stated (statement_in bfc_words fields))
    (either (bytes_eq command (codes "STEP")) step turning (either (length fields == 0) Step Comment refl refl)
    (either (bytes_eq command (codes "ROTSTEP")) turns Comment
    (either (words_eq fields (codes "END" ∷ [])) (Rot End) (rotation_line (numbers_of 3 fields) (drop 3 fields)) refl (no_rotated (numbers_of 3 fields) (drop 3 fields)))
    refl)))

-- a line of another type
pub no_line : (type : List ℕ) (fields : List (List ℕ)) (rest : List ℕ) → bytes_eq type (codes "0") ≡ false → header_of (line_in (type ∷ fields) rest) ≡ None
no_line type fields rest other =
    let opt = cond (bytes_eq type (codes "5")) (draw_of Opt fields) Malformed in
    let quad = cond (bytes_eq type (codes "4")) (draw_of Quad fields) opt in
    let tri = cond (bytes_eq type (codes "3")) (draw_of Tri fields) quad in
    let line = cond (bytes_eq type (codes "2")) (draw_of Line2 fields) tri in
    rw other
    (either (bytes_eq type (codes "1")) (reference_of fields rest) line (no_reference fields rest)
    (either (bytes_eq type (codes "2")) (draw_of Line2 fields) tri (no_draw Line2 fields)
    (either (bytes_eq type (codes "3")) (draw_of Tri fields) quad (no_draw Tri fields)
    (either (bytes_eq type (codes "4")) (draw_of Quad fields) opt (no_draw Quad fields)
    (either (bytes_eq type (codes "5")) (draw_of Opt fields) Malformed (no_draw Opt fields) refl)))))

-- a line by its fields
pub header-blank : (line : List ℕ) → fields line ≡ [] → None ≡ header_of (line_of line)
unfolding line_of
header-blank line is = sym (ap (λ all. header_of (line_in all (after_fields 1 line))) is)

pub header-other : (line type : List ℕ) (more : List (List ℕ)) → fields line ≡ type ∷ more → bytes_eq type (codes "0") ≡ false → None ≡ header_of (line_of line)
unfolding line_of
header-other line type more is other =
    sym (ap (λ all. header_of (line_in all (after_fields 1 line))) is ∙ no_line type more (after_fields 1 line) other)

-- a line of type 0 by the fields behind the 0
pub header-meta : (line type : List ℕ) (more : List (List ℕ)) → fields line ≡ type ∷ more → bytes_eq type (codes "0") ≡ true → header_of (line_of line) ≡ header_of (meta_of more)
unfolding line_of
header-meta line type more is zero' = ap (λ all. header_of (line_in all (after_fields 1 line))) is ∙ rw zero' refl
