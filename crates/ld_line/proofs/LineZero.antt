-- A line of type 0 shows nothing.
use Rattle.std.proofs.Common.{◌≡◌, ◌==◌, ℕ, ℤ, Bool, true, false, List, [], ◌∷◌, cond, length, drop, codes, bytes_eq, Option, Some, None, Result, Ok, Err, refl, ap, sym, ◌∙◌}
use Rattle.ld_num.specs.declared.dec.NumError.{NumError}
use Rattle.ld_line.specs.declared.line.Angles.{Angles}
use Rattle.ld_line.specs.declared.line.BfcWord.{BfcWord}
use Rattle.ld_line.specs.declared.line.Line.{Line}
use Rattle.ld_line.specs.declared.line.Line.TheVariants.{Comment, Org, Rot, Step}
use Rattle.ld_line.specs.declared.line.RotWord.TheVariants.{Abs, Rel, Add, End}
use Rattle.ld_line.specs.declared.read.Shown.TheVariants.{Nothing}
use Rattle.ld_line.specs.Meta.{bfc_words, meta_of, names_part_type, rotation_line, stated, statement_in, rotation_by, words_eq}
use Rattle.ld_line.specs.Numbers.{angles_of, numbers_of}
use Rattle.ld_line.specs.Field.{after_fields, fields}
use Rattle.ld_line.specs.Reading.{line_in, line_of}
use Rattle.ld_line.specs.Showing.{shown_of}

either : (b : Bool) (x y : Line) → shown_of x ≡ Nothing → shown_of y ≡ Nothing → shown_of (cond b x y) ≡ Nothing
either true x y here other = here
either false x y here other = other

stated-nothing : (word : Option BfcWord) → shown_of (stated word) ≡ Nothing
stated-nothing (Some word) = refl
stated-nothing None = refl

turned-nothing : (angles : Angles) (fields : List (List ℕ)) → shown_of (rotation_by angles fields) ≡ Nothing
turned-nothing angles [] = refl
turned-nothing angles (word ∷ []) =
    either (bytes_eq word (codes "ABS")) (Rot (Abs angles)) (cond (bytes_eq word (codes "REL")) (Rot (Rel angles)) (cond (bytes_eq word (codes "ADD")) (Rot (Add angles)) Comment)) refl
    (either (bytes_eq word (codes "REL")) (Rot (Rel angles)) (cond (bytes_eq word (codes "ADD")) (Rot (Add angles)) Comment) refl
    (either (bytes_eq word (codes "ADD")) (Rot (Add angles)) Comment refl refl))
turned-nothing angles (word ∷ more ∷ fields) = refl

rotated-nothing : (numbers : Result (List ℤ) NumError) (fields : List (List ℕ)) → shown_of (rotation_line numbers fields) ≡ Nothing
rotated-nothing (Err e) fields = refl
rotated-nothing (Ok numbers) fields = turned-nothing (angles_of numbers) fields

meta-nothing : (fields : List (List ℕ)) → shown_of (meta_of fields) ≡ Nothing
meta-nothing [] = refl
meta-nothing (command ∷ fields) =
    let statement = stated (statement_in bfc_words fields) in
    let step = cond (length fields == 0) Step Comment in
    let turns = cond (words_eq fields (codes "END" ∷ [])) (Rot End) (rotation_line (numbers_of 3 fields) (drop 3 fields)) in
    let turning = cond (bytes_eq command (codes "ROTSTEP")) turns Comment in
    let stepping = cond (bytes_eq command (codes "STEP")) step turning in
    let culling = cond (bytes_eq command (codes "BFC")) statement stepping in
    either (bytes_eq command (codes "!LDRAW_ORG")) (Org (names_part_type fields)) culling refl
    (either (bytes_eq command (codes "BFC")) statement stepping (stated-nothing (statement_in bfc_words fields))
    (either (bytes_eq command (codes "STEP")) step turning (either (length fields == 0) Step Comment refl refl)
    (either (bytes_eq command (codes "ROTSTEP")) turns Comment
    (either (words_eq fields (codes "END" ∷ [])) (Rot End) (rotation_line (numbers_of 3 fields) (drop 3 fields)) refl (rotated-nothing (numbers_of 3 fields) (drop 3 fields)))
    refl)))

pub zero-shows : (line type : List ℕ) (more : List (List ℕ)) → fields line ≡ type ∷ more → bytes_eq type (codes "0") ≡ true → Nothing ≡ shown_of (line_of line)
unfolding line_of
zero-shows line type more is zero' = sym (ap (λ all. shown_of (line_in all (after_fields 1 line))) is ∙ rw zero' (meta-nothing more))
