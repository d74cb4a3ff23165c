-- The name of a moved text's reference is the first of its names.
use Rattle.std.proofs.Common.{◌≡◌, ◌+◌, ℕ, suc, Bool, true, false, cond, List, [], ◌∷◌, Option, Some, None, map, refl, ap, sym, ◌∙◌, option_and_then, slice_get, arith}
use Rattle.std.specs.List.{cons_option, list_any}
use Rattle.ld_names.specs.declared.file.Folder.{Folder}
use Rattle.ld_line.specs.Moved.{has_moved_title, is_drawn, is_reference, moved_line, moved_name, moved_reference, name_in, name_on, only, references_from}
use Rattle.ld_line.specs.Part.{is_part_text}
use Rattle.ld_line.specs.Reading.{line_of}
use Rattle.ld_line.specs.declared.line.Line.{Line}
use Rattle.ld_line.specs.declared.line.Line.TheVariants.{Blank, Comment, Org, Bfc, Step, Rot, Ref, Draw, Malformed, OutOfRange}
use Rattle.ld_graph.specs.Agreeing.{names_among}
use Rattle.ld_graph.specs.Inside.Moving.{moved_name_of}

nameless : (line : Line) → is_reference line ≡ false → name_in line ≡ None
nameless Blank is = refl
nameless Comment is = refl
nameless (Org part) is = refl
nameless (Bfc word) is = refl
nameless Step is = refl
nameless (Rot word) is = refl
nameless (Ref colour placement name) is = cc
nameless (Draw kind colour points) is = refl
nameless Malformed is = refl
nameless OutOfRange is = refl

-- lines without references have no names
no-names : (number : ℕ) (lines : List (List ℕ)) → references_from number (map line_of lines) ≡ [] → names_among lines ≡ []
no-names number [] is = refl
no-names number (line ∷ lines) is = by (is_reference (line_of line)) refl (no-names (number + 1) lines) is
  where
    by : (one : Bool) → is_reference (line_of line) ≡ one → (references_from (number + 1) (map line_of lines) ≡ [] → names_among lines ≡ []) → cond one (number ∷ references_from (number + 1) (map line_of lines)) (references_from (number + 1) (map line_of lines)) ≡ [] → names_among (line ∷ lines) ≡ []
    by true one rest none = cc
    by false one rest none = ap (λ (name : Option (List ℕ)). cons_option name (names_among lines)) (nameless (line_of line) one) ∙ rest none

-- the one reference stands on a line with the first name
abbrev IsNamedOn : ℕ → List (List ℕ) → ℕ → Type 0
IsNamedOn number lines at = (place : ℕ) × (at ≡ number + place) × (option_and_then (λ line. name_in (line_of line)) (slice_get lines place) ≡ slice_get (names_among lines) 0)

first-is : (name : Option (List ℕ)) (rest : List (List ℕ)) → rest ≡ [] → name ≡ slice_get (cons_option name rest) 0
first-is None rest none = sym (ap (λ (all : List (List ℕ)). slice_get all 0) none)
first-is (Some name) rest none = refl

one-name : (number : ℕ) (lines : List (List ℕ)) (at : ℕ) → references_from number (map line_of lines) ≡ at ∷ [] → IsNamedOn number lines at
one-name number [] at is = cc
one-name number (line ∷ lines) at is = by (is_reference (line_of line)) refl (no-names (number + 1) lines) (one-name (number + 1) lines at) is
  where
    by : (one : Bool) → is_reference (line_of line) ≡ one → (references_from (number + 1) (map line_of lines) ≡ [] → names_among lines ≡ []) → (references_from (number + 1) (map line_of lines) ≡ at ∷ [] → IsNamedOn (number + 1) lines at) → cond one (number ∷ references_from (number + 1) (map line_of lines)) (references_from (number + 1) (map line_of lines)) ≡ at ∷ [] → IsNamedOn number (line ∷ lines) at
    by true one none rest e =
        let same : number ≡ at = cc in
        (0, omega arith, first-is (name_in (line_of line)) (names_among lines) (none cc))
    by false one none rest e =
        let on = rest e in
        (suc on.0, omega (arith, on.1), on.2 ∙ sym (ap (λ (name : Option (List ℕ)). slice_get (cons_option name (names_among lines)) 0) (nameless (line_of line) one)))

only-one : (numbers : List ℕ) (at : ℕ) → only numbers ≡ Some at → numbers ≡ at ∷ []
only-one [] at is = cc
only-one (number ∷ []) at is = cc
only-one (number ∷ other ∷ more) at is = cc

one-reference : (folder : Folder) (lines : List (List ℕ)) (at : ℕ) → moved_line folder lines ≡ Some at → references_from 1 (map line_of lines) ≡ at ∷ []
unfolding moved_line moved_reference
one-reference folder lines at is = by (is_part_text folder lines) (has_moved_title lines) (list_any is_drawn (map line_of lines)) is
  where
    by : (part title drawn : Bool) → cond part (cond title (cond drawn None (only (references_from 1 (map line_of lines)))) None) None ≡ Some at → references_from 1 (map line_of lines) ≡ at ∷ []
    by false title drawn e = cc
    by true false drawn e = cc
    by true true true e = cc
    by true true false e = only-one (references_from 1 (map line_of lines)) at e

pub first-named : (folder : Folder) (lines : List (List ℕ)) → moved_name_of (Some (names_among lines)) (moved_line folder lines) ≡ moved_name folder (Some lines)
first-named folder lines = by (moved_line folder lines) refl
  where
    by : (at : Option ℕ) → moved_line folder lines ≡ at → moved_name_of (Some (names_among lines)) at ≡ option_and_then (name_on lines) at
    by None is = refl
    by (Some at) is =
        let on = one-name 1 lines at (one-reference folder lines at is) in
        let behind : at ≡ suc on.0 = omega (arith, on.1) in
        sym (ap (name_on lines) behind ∙ on.2)
