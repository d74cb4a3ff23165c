-- Moves by the numbers of texts lead where moves by files do.
use Rattle.std.proofs.Common.{◌≡◌, ◌==◌, ◌||◌, ◌++◌, ◌+◌, ◌-◌, ◌<◌, ◌≤◌, ℕ, zero, suc, Bool, true, false, cond, List, [], ◌∷◌, Option, Some, None, refl, ap, sym, subst, ◌∙◌, length, tests, arith}
use Rattle.std.specs.Prelude.{option_and_then, option_map, unwrap_or, ⊤}
use Rattle.std.specs.List.{list_any}
use Rattle.std.proofs.lemmas.List.{length-append}
use Rattle.ld_names.specs.Finding.{IsFileEquality}
use Rattle.ld_names.specs.Standing.{Absent, find, Found, Known, known_map, Present, same_file, Text as Standing, Unknown}
use Rattle.ld_names.specs.declared.file.FileId.{FileId}
use Rattle.ld_names.specs.declared.file.TextId.{TextId}
use Rattle.ld_line.specs.Moved.{is_part, last_moved, moved_name, moved_to, name_on, other_than, part_found, target, text_of}
use Rattle.ld_texts.specs.Known.{AreDistinct, file_at, id_of, is_part_at, lines_at, moved_at}
use Rattle.ld_texts.specs.Laws.{NumbersAgree}
use Rattle.ld_entry.specs.NumberedTexts.{found_from, known_files, known_texts, target_from, text_id_of}
use Rattle.ld_engine.specs.Inside.Moving.{last_of, moved_name_at, name_at, part_behind, part_named, part_only, unless_among}
use Rattle.ld_engine.proofs.Numbered.{files-at, map-at, none-there, number-of}

-- ---- One move further.

-- what a choice comes to, by what is there and whether it is new
goes : (stay : TextId) (go : TextId → TextId) (next : TextId) (among : Bool) → among ≡ false → elim (cond among None (Some next)) [ None ↦ stay | Some next ↦ go next ] ≡ go next
goes stay go next among is = rw is refl

stays : (stay : TextId) (go : TextId → TextId) (next : TextId) (among : Bool) → among ≡ true → elim (cond among None (Some next)) [ None ↦ stay | Some next ↦ go next ] ≡ stay
stays stay go next among is = rw is refl

goes-on : (texts : List TextId) (stay : TextId) (go : TextId → TextId) (next : TextId) (there : Option TextId) → there ≡ Some next → list_any (λ on. on.0 == next.0) texts ≡ false → elim (option_and_then (unless_among texts) there) [ None ↦ stay | Some next ↦ go next ] ≡ go next
goes-on texts stay go next there is other = rw is (goes stay go next (list_any (λ on. on.0 == next.0) texts) other)

goes-nowhere : (texts : List TextId) (stay : TextId) (go : TextId → TextId) (there : Option TextId) → there ≡ None → elim (option_and_then (unless_among texts) there) [ None ↦ stay | Some next ↦ go next ] ≡ stay
goes-nowhere texts stay go there is = rw is refl

goes-twice : (texts : List TextId) (stay : TextId) (go : TextId → TextId) (next : TextId) (there : Option TextId) → there ≡ Some next → list_any (λ on. on.0 == next.0) texts ≡ true → elim (option_and_then (unless_among texts) there) [ None ↦ stay | Some next ↦ go next ] ≡ stay
goes-twice texts stay go next there is among = rw is (stays stay go next (list_any (λ on. on.0 == next.0) texts) among)

moved-on : (more : ℕ) (known : Known) (before : List TextId) (last next : TextId) → part_behind known last ≡ Some next → list_any (λ on. on.0 == next.0) (before ++ last ∷ []) ≡ false → last_of (suc more) known before last ≡ last_of more known (before ++ last ∷ []) next
moved-on more known before last next behind other = goes-on (before ++ last ∷ []) last (last_of more known (before ++ last ∷ [])) next (part_behind known last) behind other

moved-nowhere : (more : ℕ) (known : Known) (before : List TextId) (last : TextId) → part_behind known last ≡ None → last_of more known before last ≡ last
moved-nowhere zero known before last none = refl
moved-nowhere (suc more) known before last none = goes-nowhere (before ++ last ∷ []) last (last_of more known (before ++ last ∷ [])) (part_behind known last) none

moved-twice : (more : ℕ) (known : Known) (before : List TextId) (last next : TextId) → part_behind known last ≡ Some next → list_any (λ on. on.0 == next.0) (before ++ last ∷ []) ≡ true → last_of more known before last ≡ last
moved-twice zero known before last next behind among = refl
moved-twice (suc more) known before last next behind among = goes-twice (before ++ last ∷ []) last (last_of more known (before ++ last ∷ [])) next (part_behind known last) behind among

module _ (numbers : NumbersAgree) (files : IsFileEquality) (known : Known) (distinct : AreDistinct known) where
  -- ---- Texts and their files.

  abbrev IsAt : TextId → FileId → Type 0
  IsAt text file = file_at known text.0 ≡ Some file

  abbrev AreAt : List TextId → List FileId → Type 0
  AreAt [] [] = ⊤
  AreAt [] (file ∷ files) = ⊥
  AreAt (text ∷ texts) [] = ⊥
  AreAt (text ∷ texts) (file ∷ files) = IsAt text file × AreAt texts files

  abbrev Same : Option TextId → Option FileId → Type 0
  Same None None = ⊤
  Same None (Some file) = ⊥
  Same (Some text) None = ⊥
  Same (Some text) (Some file) = IsAt text file

  are-behind : (texts : List TextId) (fs : List FileId) (text : TextId) (file : FileId) → AreAt texts fs → IsAt text file → AreAt (texts ++ text ∷ []) (fs ++ file ∷ [])
  are-behind [] [] text file are at = (at, tt)
  are-behind [] (f ∷ fs) text file are at = absurd are
  are-behind (t ∷ texts) [] text file are at = absurd are
  are-behind (t ∷ texts) (f ∷ fs) text file are at = (are.0, are-behind texts fs text file are.1 at)

  some-file : (a b : FileId) → Some a ≡ Some b → a ≡ b
  some-file a b is = cc

  some-number : (a b : ℕ) → Some a ≡ Some b → a ≡ b
  some-number a b is = cc

  -- two texts are one where their files are
  same-at : (text next : TextId) (file found : FileId) → IsAt text file → IsAt next found → same_file found file ≡ (text.0 == next.0)
  same-at text next file found at there = by (same_file found file) (text.0 == next.0) refl refl
    where
      by : (one two : Bool) → same_file found file ≡ one → (text.0 == next.0) ≡ two → one ≡ two
      by true true is are = refl
      by false false is are = refl
      by true false is are =
          let equal : found ≡ file = (files.same found file).0 is in
          let here : id_of known file ≡ Some text.0 = numbers.number known file text.0 distinct at in
          let number : id_of known found ≡ Some next.0 = numbers.number known found next.0 distinct there in
          let one : text.0 ≡ next.0 = some-number text.0 next.0 (sym here ∙ ap (id_of known) (sym equal) ∙ number) in
          grind (arith, tests)
      by false true is are =
          let one : text.0 ≡ next.0 = grind (arith, tests) in
          let equal : found ≡ file = some-file found file (sym there ∙ ap (file_at known) (sym one) ∙ at) in
          sym is ∙ (files.same found file).1 equal

  any-at : (next : TextId) (found : FileId) → IsAt next found → (texts : List TextId) (fs : List FileId) → AreAt texts fs → list_any (same_file found) fs ≡ list_any (λ on. on.0 == next.0) texts
  any-at next found there [] [] are = refl
  any-at next found there [] (f ∷ fs) are = absurd are
  any-at next found there (t ∷ texts) [] are = absurd are
  any-at next found there (t ∷ texts) (f ∷ fs) are =
      ap (λ b. b || list_any (same_file found) fs) (same-at t next f found are.0 there) ∙ ap (λ b. (t.0 == next.0) || b) (any-at next found there texts fs are.1)

  -- ---- Where a text moved to.

  text-at : (text : TextId) (file : FileId) → IsAt text file → text_of (known_map known) file ≡ lines_at known text.0
  text-at text file at = ap (λ t. unwrap_or t None) (map-at numbers known distinct text.0 file at)

  name-on : (lines : List (List ℕ)) (text : TextId) (number : ℕ) → lines_at known text.0 ≡ Some lines → name_at known text.0 number ≡ name_on lines number
  name-on lines text zero is = rw is refl
  name-on lines text (suc before) is = rw is refl

  name-same : (text : TextId) (file : FileId) → IsAt text file → moved_name_at known text.0 ≡ moved_name file.folder (text_of (known_map known) file)
  name-same text file at = by (lines_at known text.0) refl ∙ ap (moved_name file.folder) (sym (text-at text file at))
    where
      by_number : (lines : List (List ℕ)) → lines_at known text.0 ≡ Some lines → (number : Option ℕ) → option_and_then (name_at known text.0) number ≡ option_and_then (name_on lines) number
      by_number lines is None = refl
      by_number lines is (Some number) = name-on lines text number is

      by : (t : Standing) → lines_at known text.0 ≡ t → moved_name_at known text.0 ≡ moved_name file.folder (lines_at known text.0)
      by None is = ap (option_and_then (name_at known text.0)) (numbers.not_moved known text.0 is) ∙ sym (ap (moved_name file.folder) is)
      by (Some lines) is = by_number lines is (moved_at known text.0) ∙ ap (option_and_then (name_on lines)) (numbers.moved known text.0 file lines at is) ∙ sym (ap (moved_name file.folder) is)

  part-at : (text : TextId) (file : FileId) → IsAt text file → is_part file.folder (text_of (known_map known) file) ≡ is_part_at known text.0
  part-at text file at = ap (is_part file.folder) (text-at text file at) ∙ by (lines_at known text.0) refl
    where
      by : (t : Standing) → lines_at known text.0 ≡ t → is_part file.folder (lines_at known text.0) ≡ is_part_at known text.0
      by None is = ap (is_part file.folder) is ∙ sym (numbers.no_part known text.0 is)
      by (Some lines) is = ap (is_part file.folder) is ∙ sym (numbers.part known text.0 file lines at is)

  found-same : (found : Found) → Same (part_only known (text_id_of (known_files known) found)) (part_found (known_map known) found)
  found-same Absent = tt
  found-same (Unknown folder) = tt
  found-same (Present file) = by (id_of known file) refl
    where
      unknown : id_of known file ≡ None → is_part file.folder (text_of (known_map known) file) ≡ false
      unknown none = ap (λ t. is_part file.folder (unwrap_or t None)) (numbers.map known file ∙ ap (option_map (lines_at known)) none)

      by_part : (text : TextId) → IsAt text file → (part : Bool) → Same (cond part (Some text) None) (cond part (Some file) None)
      by_part text at true = at
      by_part text at false = tt

      by : (id : Option ℕ) → id_of known file ≡ id → Same (part_only known (text_id_of (known_files known) (Present file))) (part_found (known_map known) (Present file))
      by None none =
          let number : text_id_of (known_files known) (Present file) ≡ None = number-of known file ∙ ap (option_map (λ n. record { 0 = n })) none in
          subst (λ t. Same (part_only known t) (part_found (known_map known) (Present file))) (sym number) (subst (λ part. Same None (cond part (Some file) None)) (sym (unknown none)) tt)
      by (Some id) some =
          let text : TextId = record { 0 = id } in
          let at : IsAt text file = numbers.file known file id some in
          let number : text_id_of (known_files known) (Present file) ≡ Some text = number-of known file ∙ ap (option_map (λ n. record { 0 = n })) some in
          subst (λ t. Same (part_only known t) (part_found (known_map known) (Present file))) (sym number) (subst (λ part. Same (cond (is_part_at known id) (Some text) None) (cond part (Some file) None)) (sym (part-at text file at)) (by_part text at (is_part_at known id)))

  named-same : (text : TextId) (file : FileId) → IsAt text file → (name : List ℕ) → Same (part_named known text name) (part_found (known_map known) (find (known_map known) file.folder name))
  named-same text file at name =
      let found : (known_texts known).found text name ≡ text_id_of (known_files known) (find (known_map known) file.folder name) = ap (found_from (known_map known) (known_files known) name) (files-at known text.0 ∙ at) in
      subst (λ t. Same (part_only known t) (part_found (known_map known) (find (known_map known) file.folder name))) (sym found) (found-same (find (known_map known) file.folder name))

  behind-same : (text : TextId) (file : FileId) → IsAt text file → Same (part_behind known text) (moved_to (known_map known) file)
  unfolding moved_to
  behind-same text file at =
      subst (λ name. Same (option_and_then (part_named known text) name) (moved_to (known_map known) file)) (sym (name-same text file at)) (by (moved_name file.folder (text_of (known_map known) file)))
    where
      by : (name : Option (List ℕ)) → Same (option_and_then (part_named known text) name) (option_and_then (λ name. part_found (known_map known) (find (known_map known) file.folder name)) name)
      by None = tt
      by (Some name) = named-same text file at name

  other-same : (texts : List TextId) (fs : List FileId) → AreAt texts fs → (next : Option TextId) (found : Option FileId) → Same next found → Same (option_and_then (unless_among texts) next) (option_and_then (other_than fs) found)
  other-same texts fs are None None same = tt
  other-same texts fs are None (Some found) same = absurd same
  other-same texts fs are (Some next) None same = absurd same
  other-same texts fs are (Some next) (Some found) same =
      subst (λ has. Same (unless_among texts next) (cond has None (Some found))) (sym (any-at next found same texts fs are)) (by (list_any (λ on. on.0 == next.0) texts))
    where
      by : (has : Bool) → Same (cond has None (Some next)) (cond has None (Some found))
      by true = tt
      by false = same

  -- ---- Where moves end.

  last-same : (more : ℕ) (before : List TextId) (fs : List FileId) (last : TextId) (file : FileId) → AreAt (before ++ last ∷ []) fs → IsAt last file → IsAt (last_of more known before last) (last_moved more (known_map known) fs file)
  last-same zero before fs last file are at = at
  last-same (suc more) before fs last file are at =
      by (λ next found there. last-same more (before ++ last ∷ []) (fs ++ found ∷ []) next found (are-behind (before ++ last ∷ []) fs next found are there) there) (option_and_then (unless_among (before ++ last ∷ [])) (part_behind known last)) (option_and_then (other_than fs) (moved_to (known_map known) file)) (other-same (before ++ last ∷ []) fs are (part_behind known last) (moved_to (known_map known) file) (behind-same last file at))
    where
      by : ((next : TextId) (found : FileId) → IsAt next found → IsAt (last_of more known (before ++ last ∷ []) next) (last_moved more (known_map known) (fs ++ found ∷ []) found)) → (next : Option TextId) (found : Option FileId) → Same next found → IsAt (elim next [ None ↦ last | Some next ↦ last_of more known (before ++ last ∷ []) next ]) (elim found [ None ↦ file | Some found ↦ last_moved more (known_map known) (fs ++ found ∷ []) found ])
      by further None None same = at
      by further None (Some found) same = absurd same
      by further (Some next) None same = absurd same
      by further (Some next) (Some found) same = further next found same

  pub target-is : (text : TextId) → last_of 63 known [] text ≡ (known_texts known).target text
  unfolding target
  target-is text = by (file_at known text.0) refl
    where
      by : (file : Option FileId) → file_at known text.0 ≡ file → last_of 63 known [] text ≡ (known_texts known).target text
      by None none =
          let nowhere : moved_name_at known text.0 ≡ None = ap (option_and_then (name_at known text.0)) (numbers.not_moved known text.0 (none-there numbers known distinct text.0 none)) in
          let stays : last_of 63 known [] text ≡ text = ap (λ name. elim (option_and_then (unless_among (text ∷ [])) (option_and_then (part_named known text) name)) [ None ↦ text | Some next ↦ last_of 62 known (text ∷ []) next ]) nowhere in
          stays ∙ sym (ap (target_from (known_map known) (known_files known) text) (files-at known text.0 ∙ none))
      by (Some file) at =
          let end = last_of 63 known [] text in
          let there : IsAt end (target (known_map known) file) = last-same 63 [] (file ∷ []) text file (at, tt) at in
          let number : text_id_of (known_files known) (Present (target (known_map known) file)) ≡ Some end = number-of known (target (known_map known) file) ∙ ap (option_map (λ n. record { 0 = n })) (numbers.number known (target (known_map known) file) end.0 distinct there) in
          sym (ap (target_from (known_map known) (known_files known) text) (files-at known text.0 ∙ at) ∙ ap (λ t. unwrap_or t text) number)

  -- ---- The moves so far.

  -- they are some of 63, and lead on to where all of them end
  abbrev pub LeadOn : List TextId → TextId → TextId → Type 0
  LeadOn before last text = (length before ≤ 63) × (last_of (63 - length before) known before last ≡ last_of 63 known [] text)

  pub begin : (before : List TextId) (text : TextId) → before ≡ [] → LeadOn before text text
  begin before text none = rw none (omega arith, refl)

  pub end-nowhere : (before : List TextId) (last text : TextId) → LeadOn before last text → part_behind known last ≡ None → last ≡ (known_texts known).target text
  end-nowhere before last text lead none = sym (moved-nowhere (63 - length before) known before last none) ∙ lead.1 ∙ target-is text

  pub end-twice : (before : List TextId) (last next text : TextId) → LeadOn before last text → part_behind known last ≡ Some next → list_any (λ on. on.0 == next.0) (before ++ last ∷ []) ≡ true → last ≡ (known_texts known).target text
  end-twice before last next text lead behind among = sym (moved-twice (63 - length before) known before last next behind among) ∙ lead.1 ∙ target-is text

  pub end-full : (before : List TextId) (last text : TextId) → LeadOn before last text → 63 ≤ length before → last ≡ (known_texts known).target text
  end-full before last text lead full =
      let none : 63 - length before ≡ 0 = omega arith in
      ap (λ more. last_of more known before last) (sym none) ∙ lead.1 ∙ target-is text

  pub lead-on : (before : List TextId) (last next text : TextId) → LeadOn before last text → length before < 63 → part_behind known last ≡ Some next → list_any (λ on. on.0 == next.0) (before ++ last ∷ []) ≡ false → LeadOn (before ++ last ∷ []) next text
  lead-on before last next text lead short behind other =
      let longer : length (before ++ last ∷ []) ≡ length before + 1 = length-append before (last ∷ []) in
      let more : 63 - length before ≡ suc (62 - length before) = omega arith in
      let left : 63 - length (before ++ last ∷ []) ≡ 62 - length before = omega arith in
      (omega arith, ap (λ m. last_of m known (before ++ last ∷ []) next) left ∙ sym (moved-on (62 - length before) known before last next behind other) ∙ ap (λ m. last_of m known before last) (sym more) ∙ lead.1)
