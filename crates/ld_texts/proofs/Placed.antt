-- Another text at the number of a known file: the files stay, the weight follows, and files are found as before.
use Rattle.std.proofs.Common.{◌≡◌, ◌≤◌, ◌<◌, ◌+◌, ◌-◌, ℕ, zero, suc, Bool, true, false, cond, List, [], ◌∷◌, length, Option, Some, None, sym, ap, refl, ◌∙◌, subst, option_map, option_and_then, get_or, arith, position}
use Rattle.std.specs.List.{IsDistinct}
use Rattle.std.specs.Map.{set_value}
use Rattle.std.specs.Option.{option_map_or}
use Rattle.std.proofs.Math.ListN.{set}
use Rattle.std.proofs.lemmas.List.{length-map}
use Rattle.std.proofs.lemmas.List.Quantifiers.{position-Some}
use Rattle.std.proofs.lemmas.List.Sums.{sum_by-cons}
use Rattle.std.proofs.lemmas.Option.{slice_get_read}
use Rattle.ld_names.specs.declared.file.FileId.{FileId}
use Rattle.ld_names.specs.Standing.{Known, Text, same_file}
use Rattle.ld_texts.specs.Known.{files_of, id_of, lines_at, weight_of, weight_of_text}
use Rattle.ld_texts.specs.Editing.{text_of}
use Rattle.ld_texts.specs.Inside.Found.{IsIndex}
use Rattle.ld_texts.specs.Inside.Kept.{IsWithin}
use Rattle.ld_texts.specs.Inside.Placed.{with_text_at}
use Rattle.ld_texts.specs.declared.ids.Ids.{Ids}
use Rattle.ld_texts.proofs.Places.{position-cons}

pub length-with_text_at : (known : Known) (id : ℕ) (text : Text) → length (with_text_at known id text) ≡ length known
length-with_text_at [] id text = refl
length-with_text_at (first ∷ known) zero text = refl
length-with_text_at (first ∷ known) (suc id) text = ap suc (length-with_text_at known id text)

pub files_of-with_text_at : (known : Known) (id : ℕ) (text : Text) → files_of (with_text_at known id text) ≡ files_of known
files_of-with_text_at [] id text = refl
files_of-with_text_at (first ∷ known) zero text = refl
files_of-with_text_at (first ∷ known) (suc id) text = ap (λ files. first.0 ∷ files) (files_of-with_text_at known id text)

pub with_text_at_twice : (known : Known) (id : ℕ) (first second : Text) → with_text_at (with_text_at known id first) id second ≡ with_text_at known id second
with_text_at_twice [] id first second = refl
with_text_at_twice (entry ∷ known) zero first second = refl
with_text_at_twice (entry ∷ known) (suc id) first second = ap (λ more. entry ∷ more) (with_text_at_twice known id first second)

pub lines_at-with_none : (known : Known) (id : ℕ) → lines_at (with_text_at known id None) id ≡ None
unfolding lines_at
lines_at-with_none [] id = refl
lines_at-with_none (entry ∷ known) zero = refl
lines_at-with_none (entry ∷ known) (suc id) = lines_at-with_none known id

pub lines_at-with_text_at : (known : Known) (id : ℕ) (text : Text) → id < length known → lines_at (with_text_at known id text) id ≡ text
unfolding lines_at
lines_at-with_text_at [] id text within = absurd (omega arith)
lines_at-with_text_at (entry ∷ known) zero text within = refl
lines_at-with_text_at (entry ∷ known) (suc id) text within = lines_at-with_text_at known id text (omega arith)

-- an absent file stays so where another one goes
pub lines_at-stays : (known : Known) (id other : ℕ) → lines_at known other ≡ None → lines_at (with_text_at known id None) other ≡ None
unfolding lines_at
lines_at-stays [] id other none = none
lines_at-stays (entry ∷ known) zero zero none = refl
lines_at-stays (entry ∷ known) zero (suc other) none = none
lines_at-stays (entry ∷ known) (suc id) zero none = none
lines_at-stays (entry ∷ known) (suc id) (suc other) none = lines_at-stays known id other none

-- a text goes and another comes
pub weight_of-with_text_at : (known : Known) (id : ℕ) (text : Text) → id < length known → weight_of (with_text_at known id text) + weight_of_text (lines_at known id) ≡ weight_of known + weight_of_text text
unfolding lines_at
weight_of-with_text_at [] id text within = absurd (omega arith)
weight_of-with_text_at (first ∷ known) zero text within = omega (arith, sum_by-cons (λ e. weight_of_text e.1) first known, sum_by-cons (λ e. weight_of_text e.1) (first.0, text) known)
weight_of-with_text_at (first ∷ known) (suc id) text within = omega (arith, sum_by-cons (λ e. weight_of_text e.1) first known, sum_by-cons (λ e. weight_of_text e.1) first (with_text_at known id text), weight_of-with_text_at known id text (omega arith))

pub lines_at-le-weight_of : (known : Known) (id : ℕ) → weight_of_text (lines_at known id) ≤ weight_of known
unfolding lines_at
lines_at-le-weight_of [] id = omega arith
lines_at-le-weight_of (first ∷ known) zero = omega (arith, sum_by-cons (λ e. weight_of_text e.1) first known)
lines_at-le-weight_of (first ∷ known) (suc id) = omega (arith, sum_by-cons (λ e. weight_of_text e.1) first known, lines_at-le-weight_of known id)

-- ---- by the number of a file

-- what is written at a file is written at its number
suc-step : (first : FileId × Text) (known : Known) (text : Text) (now : Option ℕ) → first ∷ option_map_or (λ id. with_text_at known id text) now known ≡ option_map_or (λ id. with_text_at (first ∷ known) id text) (option_map suc now) (first ∷ known)
suc-step first known text None = refl
suc-step first known text (Some id) = refl

written : (test : FileId → Bool) (known : Known) (text : Text) → set_value test known text ≡ option_map_or (λ id. with_text_at known id text) (position test (files_of known)) known
written test [] text = refl
written test (first ∷ known) text =
    let cases : (b : Bool) → cond b ((first.0, text) ∷ known) (first ∷ set_value test known text) ≡ option_map_or (λ id. with_text_at (first ∷ known) id text) (cond b (Some 0) (option_map suc (position test (files_of known)))) (first ∷ known) = λ b. elim b as (λ b. cond b ((first.0, text) ∷ known) (first ∷ set_value test known text) ≡ option_map_or (λ id. with_text_at (first ∷ known) id text) (cond b (Some 0) (option_map suc (position test (files_of known)))) (first ∷ known)) [ true ↦ refl | false ↦ ap (λ more. first ∷ more) (written test known text) ∙ suc-step first known text (position test (files_of known)) ] in
    cases (test first.0) ∙ ap (λ now. option_map_or (λ id. with_text_at (first ∷ known) id text) now (first ∷ known)) (sym (position-cons test first.0 (files_of known)))

pub written-is : (known : Known) (file : FileId) (text : Text) → set_value (same_file file) known text ≡ option_map_or (λ id. with_text_at known id text) (id_of known file) known
unfolding id_of
written-is known file text = written (same_file file) known text

pub written_at : (known : Known) (file : FileId) (id : ℕ) (text : Text) → id_of known file ≡ Some id → set_value (same_file file) known text ≡ with_text_at known id text
written_at known file id text is = written-is known file text ∙ ap (λ place. option_map_or (λ n. with_text_at known n text) place known) is

pub id_of-with_text_at : (known : Known) (id : ℕ) (text : Text) (file : FileId) → id_of (with_text_at known id text) file ≡ id_of known file
unfolding id_of
id_of-with_text_at known id text file = ap (position (same_file file)) (files_of-with_text_at known id text)

-- the text of a known file, by its number
pub text_of-is : (known : Known) (file : FileId) (id : ℕ) → id_of known file ≡ Some id → text_of known file ≡ lines_at known id
text_of-is known file id is = ap (option_and_then (lines_at known)) is

-- a known file's number is a place
pub id_of-lt-length : (known : Known) (file : FileId) (id : ℕ) → id_of known file ≡ Some id → id < length known
unfolding id_of
id_of-lt-length known file id is = omega (arith, (position-Some (same_file file) (files_of known) id file is).0, length-map known (λ entry. entry.0))

-- ---- what a write at a place leaves

set-with_text_at : (known : Known) (id : ℕ) (entry : FileId × Text) (text : Text) → id < length known → set known id ((get_or known id entry).0, text) ≡ with_text_at known id text
set-with_text_at [] id entry text within = absurd (omega arith)
set-with_text_at (first ∷ known) zero entry text within = refl
set-with_text_at (first ∷ known) (suc id) entry text within = ap (λ more. first ∷ more) (set-with_text_at known id entry text (omega arith))

-- the entry that is read at a place
pub lines_at-entry : (known : Known) (id : ℕ) (entry : FileId × Text) → id < length known → entry ≡ get_or known id entry → lines_at known id ≡ entry.1
unfolding lines_at
lines_at-entry known id entry within is = ap (option_and_then (λ e. e.1)) (slice_get_read known (length known) id entry refl within is)

pub set-entry : (known : Known) (id : ℕ) (entry : FileId × Text) (text : Text) → id < length known → entry ≡ get_or known id entry → set known id (entry.0, text) ≡ with_text_at known id text
set-entry known id entry text within is = ap (λ e. set known id (e.0, text)) is ∙ set-with_text_at known id entry text within

-- files are found as before
IsIndex-with_text_at : (known : Known) (ids : List (List ℕ × Ids)) (id : ℕ) (text : Text) → IsIndex known ids → IsIndex (with_text_at known id text) ids
IsIndex-with_text_at known ids id text index = record {
  found = λ file. index.found file ∙ sym (id_of-with_text_at known id text file);
  distinct = subst (λ files. IsDistinct same_file files) (sym (files_of-with_text_at known id text)) index.distinct;
}

IsWithin-with_text_at : (known : Known) (id : ℕ) (text : Text) (weighed weighed' max_files max_weight : ℕ) → id < length known → IsWithin known weighed max_files max_weight → weighed' + weight_of_text (lines_at known id) ≡ weighed + weight_of_text text → weight_of (with_text_at known id text) ≤ max_weight → IsWithin (with_text_at known id text) weighed' max_files max_weight
IsWithin-with_text_at known id text weighed weighed' max_files max_weight inside within weighs fits = record {
  weight = omega (arith, weight_of-with_text_at known id text inside, within.weight, weighs);
  files = omega (arith, length-with_text_at known id text, within.files);
  fits = fits;
  few = within.few;
  light = within.light;
}

-- a text is taken out
pub taken : (known : Known) (ids : List (List ℕ × Ids)) (id : ℕ) (entry : FileId × Text) (weighed gone max_files max_weight : ℕ) → id < length known → entry ≡ get_or known id entry → gone ≡ weight_of_text entry.1 → IsWithin known weighed max_files max_weight × IsIndex known ids → IsWithin (set known id (entry.0, None)) (weighed - gone) max_files max_weight × IsIndex (set known id (entry.0, None)) ids
taken known ids id entry weighed gone max_files max_weight inside is goes all =
    let light = lines_at-le-weight_of known id in
    let had = ap weight_of_text (lines_at-entry known id entry inside is) in
    rw (set-entry known id entry None inside is) (
      IsWithin-with_text_at known id None weighed (weighed - gone) max_files max_weight inside all.0 (omega (arith, light, had, goes, all.0.weight)) (omega (arith, weight_of-with_text_at known id None inside, all.0.fits)),
      IsIndex-with_text_at known ids id None all.1,
    )

-- an absent file gets a text
pub given : (known : Known) (ids : List (List ℕ × Ids)) (id : ℕ) (entry : FileId × Text) (text : Text) (weighed added max_files max_weight : ℕ) → id < length known → entry ≡ get_or known id entry → lines_at known id ≡ None → added ≡ weight_of_text text → weight_of (with_text_at known id text) ≤ max_weight → IsWithin known weighed max_files max_weight × IsIndex known ids → IsWithin (set known id (entry.0, text)) (weighed + added) max_files max_weight × IsIndex (set known id (entry.0, text)) ids
given known ids id entry text weighed added max_files max_weight inside is absent adds fits all =
    let had = ap weight_of_text absent in
    rw (set-entry known id entry text inside is) (
      IsWithin-with_text_at known id text weighed (weighed + added) max_files max_weight inside all.0 (omega (arith, had, adds)) fits,
      IsIndex-with_text_at known ids id text all.1,
    )
