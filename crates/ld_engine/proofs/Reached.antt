-- What a name finds among the known texts, and that it stays whatever becomes known.
use Rattle.std.proofs.Common.{◌≡◌, ◌==◌, ◌<◌, ◌++◌, ℕ, Bool, true, false, cond, List, [], ◌∷◌, length, Option, Some, None, refl, ap, sym, ◌∙◌, append_assoc, inl, inr, arith, tests}
use Rattle.std.specs.Prelude.{option_map, nat_eq, unwrap_or, is_some}
use Rattle.std.specs.List.{list_any}
use Rattle.std.proofs.lemmas.Bool.{cases_Bool, ltb-true}
use Rattle.std.proofs.lemmas.List.{append-nil, length-append}
use Rattle.std.proofs.lemmas.List.Folds.{list_any-append}
use Rattle.ld_names.specs.Standing.{Found, Present, Absent as Missing, Unknown as Nowhere, Known, Text as Standing, file_in, find, find_among, folders_of, known_map}
use Rattle.ld_names.specs.declared.file.FileId.{FileId}
use Rattle.ld_names.specs.declared.file.Folder.{Folder}
use Rattle.ld_names.specs.declared.file.TextId.{TextId}
use Rattle.ld_texts.specs.Known.{file_at, id_of, lines_at}
use Rattle.ld_texts.specs.Laws.{LearningNumbers, NumbersAgree}
use Rattle.ld_texts.specs.Reach.{Reached, Wants, Reaches, reached_by, with_found, with_reached}
use Rattle.ld_engine.specs.Going.{Grows, IsInside, Steps, name_step}
use Rattle.ld_engine.specs.Found.{sought, sought_among, sought_by, sought_in, sought_text}
use Rattle.ld_engine.specs.declared.find.Sought.{Sought}
use Rattle.ld_engine.specs.declared.find.Sought.TheVariants.{Text, Absent, Unknown}

-- ---- Numbers stay, whatever becomes known.

module _ (learning : LearningNumbers) where
  pub id-behind : (known more : Known) (file : FileId) (n : ℕ) → id_of known file ≡ Some n → id_of (known ++ more) file ≡ Some n
  id-behind known [] file n is = ap (λ k. id_of k file) (append-nil known) ∙ is
  id-behind known (first ∷ more) file n is =
      ap (λ k. id_of k file) (sym (append_assoc known (first ∷ []) more))
      ∙ id-behind (known ++ first ∷ []) more file n ((learning known first.0 first.1).old_id file n is)

  longer : (known : Known) (first : FileId × Standing) (n : ℕ) → n < length known → n < length (known ++ first ∷ [])
  longer known first n within = let more = length-append known (first ∷ []) in omega arith

  pub lines-behind : (known more : Known) (n : ℕ) → n < length known → lines_at (known ++ more) n ≡ lines_at known n
  lines-behind known [] n within = ap (λ k. lines_at k n) (append-nil known)
  lines-behind known (first ∷ more) n within =
      ap (λ k. lines_at k n) (sym (append_assoc known (first ∷ []) more))
      ∙ lines-behind (known ++ first ∷ []) more n (longer known first n within) ∙ (learning known first.0 first.1).old_lines n within

  pub file-behind : (known more : Known) (n : ℕ) → n < length known → file_at (known ++ more) n ≡ file_at known n
  file-behind known [] n within = ap (λ k. file_at k n) (append-nil known)
  file-behind known (first ∷ more) n within =
      ap (λ k. file_at k n) (sym (append_assoc known (first ∷ []) more))
      ∙ file-behind (known ++ first ∷ []) more n (longer known first n within) ∙ (learning known first.0 first.1).old_file n within

pub file-within : NumbersAgree → (known : Known) (n : ℕ) (file : FileId) → file_at known n ≡ Some file → n < length known
file-within numbers known n file is = ltb-true n (length known) (sym (numbers.there known n) ∙ ap is_some is)

pub id-within : NumbersAgree → (known : Known) (file : FileId) (n : ℕ) → id_of known file ≡ Some n → n < length known
id-within numbers known file n is = file-within numbers known n file (numbers.file known file n is)

-- ---- What a name finds, by numbers.

-- the texts reached with what a name comes to
abbrev pub reached_by_sought : List ℕ → List ℕ → Sought → Reached
reached_by_sought texts name (Text id) = Reaches (with_reached texts id.0)
reached_by_sought texts name Absent = Reaches texts
reached_by_sought texts name (Unknown folder) = Wants (record { folder = folder; name = name })

-- what a look-up finds by what is known of the file in its first folder
abbrev found_by : Found → Folder → FileId → Option Standing → Found
found_by rest folder file None = Nowhere folder
found_by rest folder file (Some None) = rest
found_by rest folder file (Some (Some lines)) = Present file

-- that a file is wanted is no answer
abbrev pub is_sure : Sought → Bool
is_sure (Text id) = true
is_sure Absent = true
is_sure (Unknown folder) = false

module _ (numbers : NumbersAgree) where
  -- What is made of what a look-up finds is what is made of it by numbers.
  module _ {A : Type 0} (of : Found → A) (by_number : Sought → A) (known : Known) (name : List ℕ) (absent : of Missing ≡ by_number Absent) (unknown : (folder : Folder) → of (Nowhere folder) ≡ by_number (Unknown folder)) (present : (folder : Folder) (n : ℕ) → id_of known (file_in folder name) ≡ Some n → of (Present (file_in folder name)) ≡ by_number (Text (record { 0 = n }))) where
    first-folder : (folder : Folder) (rest : Found) (others : Sought) → of rest ≡ by_number others → of (found_by rest folder (file_in folder name) (known_map known (file_in folder name))) ≡ by_number (unwrap_or (sought_in known folder name) others)
    first-folder folder rest others same = by (id_of known (file_in folder name)) refl
      where
        by_text : (n : ℕ) (text : Standing) → id_of known (file_in folder name) ≡ Some n → of (found_by rest folder (file_in folder name) (Some text)) ≡ by_number (unwrap_or (sought_text n text) others)
        by_text n None is = same
        by_text n (Some lines) is = present folder n is

        by : (id : Option ℕ) → id_of known (file_in folder name) ≡ id → of (found_by rest folder (file_in folder name) (known_map known (file_in folder name))) ≡ by_number (unwrap_or (sought_by known folder (id_of known (file_in folder name))) others)
        by None is =
            ap (λ o. of (found_by rest folder (file_in folder name) o)) (numbers.map known (file_in folder name) ∙ ap (option_map (lines_at known)) is)
            ∙ unknown folder
            ∙ sym (ap (λ i. by_number (unwrap_or (sought_by known folder i) others)) is)
        by (Some n) is =
            ap (λ o. of (found_by rest folder (file_in folder name) o)) (numbers.map known (file_in folder name) ∙ ap (option_map (lines_at known)) is)
            ∙ by_text n (lines_at known n) is
            ∙ sym (ap (λ i. by_number (unwrap_or (sought_by known folder i) others)) is)

    pub sought-is : (folders : List Folder) → of (find_among (known_map known) name folders) ≡ by_number (sought_among known name folders)
    sought-is [] = absent
    sought-is (folder ∷ folders) = first-folder folder (find_among (known_map known) name folders) (sought_among known name folders) (sought-is folders)

  name_step-is : (known : Known) (texts name : List ℕ) (folders : List Folder) → reached_by known texts name (find_among (known_map known) name folders) ≡ reached_by_sought texts name (sought_among known name folders)
  name_step-is known texts name = sought-is (reached_by known texts name) (reached_by_sought texts name) known name refl (λ folder. refl) (λ folder n is. ap (with_found texts) is)

module _ (numbers : NumbersAgree) (learning : LearningNumbers) where
  sought_in-behind : (known more : Known) (folder : Folder) (name : List ℕ) (others behind : Sought) → (is_sure others ≡ true → behind ≡ others) → is_sure (unwrap_or (sought_in known folder name) others) ≡ true → unwrap_or (sought_in (known ++ more) folder name) behind ≡ unwrap_or (sought_in known folder name) others
  sought_in-behind known more folder name others behind same sure = by (id_of known (file_in folder name)) refl
    where
      by_text : (n : ℕ) (text : Standing) → is_sure (unwrap_or (sought_text n text) others) ≡ true → unwrap_or (sought_text n text) behind ≡ unwrap_or (sought_text n text) others
      by_text n None sure = same sure
      by_text n (Some lines) sure = refl

      by : (id : Option ℕ) → id_of known (file_in folder name) ≡ id → unwrap_or (sought_in (known ++ more) folder name) behind ≡ unwrap_or (sought_in known folder name) others
      by None is = let no : false ≡ true = sym (ap (λ i. is_sure (unwrap_or (sought_by known folder i) others)) is) ∙ sure in cc
      by (Some n) is =
          let within = id-within numbers known (file_in folder name) n is in
          let at : sought_in known folder name ≡ sought_text n (lines_at known n) = ap (sought_by known folder) is in
          let at' : sought_in (known ++ more) folder name ≡ sought_text n (lines_at known n) = ap (sought_by (known ++ more) folder) (id-behind learning known more (file_in folder name) n is) ∙ ap (sought_text n) (lines-behind learning known more n within) in
          ap (λ s. unwrap_or s behind) at' ∙ by_text n (lines_at known n) (sym (ap (λ s. is_sure (unwrap_or s others)) at) ∙ sure) ∙ sym (ap (λ s. unwrap_or s others) at)

  sought_among-behind : (known more : Known) (name : List ℕ) (folders : List Folder) → is_sure (sought_among known name folders) ≡ true → sought_among (known ++ more) name folders ≡ sought_among known name folders
  sought_among-behind known more name [] sure = refl
  sought_among-behind known more name (folder ∷ folders) sure = sought_in-behind known more folder name (sought_among known name folders) (sought_among (known ++ more) name folders) (sought_among-behind known more name folders) sure

-- ---- A name is passed.

module _ (numbers : NumbersAgree) (learning : LearningNumbers) (known : Known) (from : Folder) (texts name : List ℕ) where
  stays-sure : (found : Sought) → sought known from name ≡ found → is_sure found ≡ true → (more : Known) → name_step from name texts (known ++ more) ≡ reached_by_sought texts name found
  unfolding find
  stays-sure found is sure more =
      name_step-is numbers (known ++ more) texts name (folders_of from) ∙ ap (reached_by_sought texts name) (sought_among-behind numbers learning known more name (folders_of from) (ap is_sure is ∙ sure) ∙ is)

  pub passes-text : (id : TextId) (new : List ℕ) → sought known from name ≡ Text id → new ≡ with_reached texts id.0 → Steps known (name_step from name texts) texts new None
  passes-text id new is reached more = stays-sure (Text id) is refl more ∙ ap Reaches (sym reached)

  pub passes-absent : sought known from name ≡ Absent → Steps known (name_step from name texts) texts texts None
  passes-absent is more = stays-sure Absent is refl more

  unknown-among : (folders : List Folder) (folder : Folder) → sought_among known name folders ≡ Unknown folder → id_of known (file_in folder name) ≡ None
  unknown-among [] folder is = cc
  unknown-among (first ∷ folders) folder is = by (id_of known (file_in first name)) refl (unknown-among folders folder)
    where
      by_text : (n : ℕ) (text : Standing) → unwrap_or (sought_text n text) (sought_among known name folders) ≡ Unknown folder → (sought_among known name folders ≡ Unknown folder → id_of known (file_in folder name) ≡ None) → id_of known (file_in folder name) ≡ None
      by_text n None is more = more is
      by_text n (Some lines) is more = cc

      by : (id : Option ℕ) → id_of known (file_in first name) ≡ id → (sought_among known name folders ≡ Unknown folder → id_of known (file_in folder name) ≡ None) → id_of known (file_in folder name) ≡ None
      by None none more =
          let here : Unknown first ≡ Unknown folder = sym (ap (λ i. unwrap_or (sought_by known first i) (sought_among known name folders)) none) ∙ is in
          let same : first ≡ folder = cc in
          ap (λ f. id_of known (file_in f name)) (sym same) ∙ none
      by (Some n) some more = by_text n (lines_at known n) (sym (ap (λ i. unwrap_or (sought_by known first i) (sought_among known name folders)) some) ∙ is) more

  pub wants-file : (folder : Folder) → sought known from name ≡ Unknown folder → Steps known (name_step from name texts) texts texts (Some (record { folder = folder; name = name }))
  unfolding find
  wants-file folder is = (name_step-is numbers known texts name (folders_of from) ∙ ap (reached_by_sought texts name) is, refl, unknown-among (folders_of from) folder is)

  found-among : (folders : List Folder) (id : TextId) → sought_among known name folders ≡ Text id → id.0 < length known
  found-among [] id is = cc
  found-among (first ∷ folders) id is = by (id_of known (file_in first name)) refl (found-among folders id)
    where
      by_text : (n : ℕ) (text : Standing) → n < length known → unwrap_or (sought_text n text) (sought_among known name folders) ≡ Text id → (sought_among known name folders ≡ Text id → id.0 < length known) → id.0 < length known
      by_text n None within is more = more is
      by_text n (Some lines) within is more = let same : n ≡ id.0 = cc in omega arith

      by : (number : Option ℕ) → id_of known (file_in first name) ≡ number → (sought_among known name folders ≡ Text id → id.0 < length known) → id.0 < length known
      by None none more =
          let no : Unknown first ≡ Text id = sym (ap (λ i. unwrap_or (sought_by known first i) (sought_among known name folders)) none) ∙ is in cc
      by (Some n) some more = by_text n (lines_at known n) (id-within numbers known (file_in first name) n some) (sym (ap (λ i. unwrap_or (sought_by known first i) (sought_among known name folders)) some) ∙ is) more

  pub found-within : (id : TextId) → sought known from name ≡ Text id → id.0 < length known
  found-within id is = found-among (folders_of from) id is

pub inside-with : (known : Known) (texts : List ℕ) (id : ℕ) → IsInside known texts → id < length known → IsInside known (with_reached texts id)
inside-with known texts id inside within = by (list_any (λ reached. id == reached) texts)
  where
    by : (has : Bool) → IsInside known (cond has texts (texts ++ id ∷ []))
    by true other is = inside other is
    by false other is = elim (cases_Bool (list_any (nat_eq other) texts)) [
      | inl here ↦ inside other here
      | inr apart ↦ let same : other ≡ id = grind (arith, tests, list_any-append (nat_eq other) texts (id ∷ []), apart, is) in omega arith
    ]

pub grows-with : (texts : List ℕ) (id : ℕ) → Grows texts (with_reached texts id)
grows-with texts id = by (list_any (λ reached. id == reached) texts)
  where
    by : (has : Bool) → Grows texts (cond has texts (texts ++ id ∷ []))
    by true = ([], sym (append-nil texts))
    by false = (id ∷ [], refl)
