-- Moves by the numbers of texts lead where moves by files do.
use Rattle.std.proofs.Common.{◌≡◌, ◌==◌, ◌||◌, ◌++◌, ◌+◌, ◌-◌, ◌<◌, ◌≤◌, ℕ, zero, suc, Bool, true, false, cond, List, [], ◌∷◌, Option, Some, None, refl, ap, sym, subst, ◌∙◌, length, tests, arith}
use Rattle.std.specs.Prelude.{option_and_then, option_map, slice_set, take, unwrap_or, ⊤}
use Rattle.std.specs.List.{list_any}
use Rattle.std.specs.Option.{is_some}
use Rattle.std.proofs.lemmas.List.{take_more_set}
use Rattle.ld_names.specs.Finding.{FindsExactly, IsFileEquality}
use Rattle.ld_names.specs.Standing.{Absent, find, Found, Known, known_map, Present, same_file, Text as Standing, Unknown}
use Rattle.ld_names.specs.declared.file.FileId.{FileId}
use Rattle.ld_names.specs.declared.file.Folder.{Folder}
use Rattle.ld_names.specs.declared.file.TextId.{TextId}
use Rattle.ld_line.specs.Moved.{is_part, last_moved, moved_name, moved_to, other_than, part_found, target, text_of}
use Rattle.ld_texts.specs.Known.{AreDistinct, file_at, id_of, is_part_at, lines_at, moved_at}
use Rattle.ld_texts.specs.Laws.{NumbersAgree}
use Rattle.ld_graph.specs.Agreeing.{items_of_known, names_among}
use Rattle.ld_graph.specs.Inside.Moving.{last_of, moved_name_of, part_behind, part_named, part_only, unless_among}
use Rattle.ld_graph.specs.Items.{names_at}
use Rattle.ld_graph.specs.Moving.{target_of}
use Rattle.ld_graph.specs.Resolving.{resolved, resolved_from}
use Rattle.ld_graph.specs.declared.resolving.Resolved.TheVariants.{Text as TextFound}
use Rattle.ld_graph.proofs.Agreed.{items_agree}
use Rattle.ld_graph.proofs.MovedName.{first-named}

-- ---- One move further.

-- what a choice comes to, by what is there and whether it is new
goes : (stay : TextId) (go : TextId → TextId) (next : TextId) (among : Bool) → among ≡ false → elim (cond among None (Some next)) [ None ↦ stay | Some next ↦ go next ] ≡ go next
goes stay go next among is = rw is refl

stays : (stay : TextId) (go : TextId → TextId) (next : TextId) (among : Bool) → among ≡ true → elim (cond among None (Some next)) [ None ↦ stay | Some next ↦ go next ] ≡ stay
stays stay go next among is = rw is refl

goes-on : (texts : List TextId) (stay : TextId) (go : TextId → TextId) (next : TextId) (there : Option TextId) → there ≡ Some next → list_any (λ on. on.0 == next.0) texts ≡ false → elim (option_and_then (unless_among texts) there) [ None ↦ stay | Some next ↦ go next ] ≡ go next
goes-on texts stay go next there is other = rw is (goes stay go next (list_any (λ on. on.0 == next.0) texts) other)

goes-nowhere : (texts : List TextId) (stay : TextId) (go : TextId → TextId) (there : Option TextId) → there ≡ None → elim (option_and_then (unless_among texts) there) [ None ↦ stay | Some next ↦ go next ] ≡ stay
goes-nowhere texts stay go there is = rw is refl

goes-twice : (texts : List TextId) (stay : TextId) (go : TextId → TextId) (next : TextId) (there : Option TextId) → there ≡ Some next → list_any (λ on. on.0 == next.0) texts ≡ true → elim (option_and_then (unless_among texts) there) [ None ↦ stay | Some next ↦ go next ] ≡ stay
goes-twice texts stay go next there is among = rw is (stays stay go next (list_any (λ on. on.0 == next.0) texts) among)

moved-on : (more : ℕ) (known : Known) (before : List TextId) (last next : TextId) → part_behind known last ≡ Some next → list_any (λ on. on.0 == next.0) (before ++ last ∷ []) ≡ false → last_of (suc more) known before last ≡ last_of more known (before ++ last ∷ []) next
moved-on more known before last next behind other = goes-on (before ++ last ∷ []) last (last_of more known (before ++ last ∷ [])) next (part_behind known last) behind other

moved-nowhere : (more : ℕ) (known : Known) (before : List TextId) (last : TextId) → part_behind known last ≡ None → last_of more known before last ≡ last
moved-nowhere zero known before last none = refl
moved-nowhere (suc more) known before last none = goes-nowhere (before ++ last ∷ []) last (last_of more known (before ++ last ∷ [])) (part_behind known last) none

moved-twice : (more : ℕ) (known : Known) (before : List TextId) (last next : TextId) → part_behind known last ≡ Some next → list_any (λ on. on.0 == next.0) (before ++ last ∷ []) ≡ true → last_of more known before last ≡ last
moved-twice zero known before last next behind among = refl
moved-twice (suc more) known before last next behind among = goes-twice (before ++ last ∷ []) last (last_of more known (before ++ last ∷ [])) next (part_behind known last) behind among

module _ (numbers : NumbersAgree) (files : IsFileEquality) (finds : FindsExactly) (known : Known) (distinct : AreDistinct known) where
  -- ---- Texts and their files.

  abbrev IsAt : TextId → FileId → Type 0
  IsAt text file = file_at known text.0 ≡ Some file

  abbrev AreAt : List TextId → List FileId → Type 0
  AreAt [] [] = ⊤
  AreAt [] (file ∷ files) = ⊥
  AreAt (text ∷ texts) [] = ⊥
  AreAt (text ∷ texts) (file ∷ files) = IsAt text file × AreAt texts files

  abbrev Same : Option TextId → Option FileId → Type 0
  Same None None = ⊤
  Same None (Some file) = ⊥
  Same (Some text) None = ⊥
  Same (Some text) (Some file) = IsAt text file

  are-behind : (texts : List TextId) (fs : List FileId) (text : TextId) (file : FileId) → AreAt texts fs → IsAt text file → AreAt (texts ++ text ∷ []) (fs ++ file ∷ [])
  are-behind [] [] text file are at = (at, tt)
  are-behind [] (f ∷ fs) text file are at = absurd are
  are-behind (t ∷ texts) [] text file are at = absurd are
  are-behind (t ∷ texts) (f ∷ fs) text file are at = (are.0, are-behind texts fs text file are.1 at)

  some-file : (a b : FileId) → Some a ≡ Some b → a ≡ b
  some-file a b is = cc

  some-number : (a b : ℕ) → Some a ≡ Some b → a ≡ b
  some-number a b is = cc

  -- two texts are one where their files are
  same-at : (text next : TextId) (file found : FileId) → IsAt text file → IsAt next found → same_file found file ≡ (text.0 == next.0)
  same-at text next file found at there = by (same_file found file) (text.0 == next.0) refl refl
    where
      by : (one two : Bool) → same_file found file ≡ one → (text.0 == next.0) ≡ two → one ≡ two
      by true true is are = refl
      by false false is are = refl
      by true false is are =
          let equal : found ≡ file = (files.same found file).0 is in
          let here : id_of known file ≡ Some text.0 = numbers.number known file text.0 distinct at in
          let number : id_of known found ≡ Some next.0 = numbers.number known found next.0 distinct there in
          let one : text.0 ≡ next.0 = some-number text.0 next.0 (sym here ∙ ap (id_of known) (sym equal) ∙ number) in
          grind (arith, tests)
      by false true is are =
          let one : text.0 ≡ next.0 = grind (arith, tests) in
          let equal : found ≡ file = some-file found file (sym there ∙ ap (file_at known) (sym one) ∙ at) in
          sym is ∙ (files.same found file).1 equal

  any-at : (next : TextId) (found : FileId) → IsAt next found → (texts : List TextId) (fs : List FileId) → AreAt texts fs → list_any (same_file found) fs ≡ list_any (λ on. on.0 == next.0) texts
  any-at next found there [] [] are = refl
  any-at next found there [] (f ∷ fs) are = absurd are
  any-at next found there (t ∷ texts) [] are = absurd are
  any-at next found there (t ∷ texts) (f ∷ fs) are =
      ap (λ b. b || list_any (same_file found) fs) (same-at t next f found are.0 there) ∙ ap (λ b. (t.0 == next.0) || b) (any-at next found there texts fs are.1)

  -- ---- Where a text moved to.

  none-there : (id : ℕ) → file_at known id ≡ None → lines_at known id ≡ None
  none-there id none = by (lines_at known id) refl
    where
      by : (text : Standing) → lines_at known id ≡ text → lines_at known id ≡ None
      by None is = is
      by (Some lines) is =
          let within = numbers.present known id lines is in
          let there : false ≡ true = sym (ap is_some none) ∙ numbers.there known id ∙ grind (arith, tests, within) in cc

  map-at : (id : ℕ) (file : FileId) → file_at known id ≡ Some file → known_map known file ≡ Some (lines_at known id)
  map-at id file at = numbers.map known file ∙ ap (option_map (lines_at known)) (numbers.number known file id distinct at)

  text-at : (text : TextId) (file : FileId) → IsAt text file → text_of (known_map known) file ≡ lines_at known text.0
  text-at text file at = ap (λ t. unwrap_or t None) (map-at text.0 file at)

  name-same : (text : TextId) (file : FileId) → IsAt text file → moved_name_of (names_at (items_of_known known) text.0) (moved_at known text.0) ≡ moved_name file.folder (text_of (known_map known) file)
  name-same text file at = ap (λ names. moved_name_of names (moved_at known text.0)) ((items_agree numbers known).names text.0) ∙ by (lines_at known text.0) refl ∙ ap (moved_name file.folder) (sym (text-at text file at))
    where
      by : (t : Standing) → lines_at known text.0 ≡ t → moved_name_of (option_map names_among (lines_at known text.0)) (moved_at known text.0) ≡ moved_name file.folder (lines_at known text.0)
      by None is = ap (moved_name_of (option_map names_among (lines_at known text.0))) (numbers.not_moved known text.0 is) ∙ sym (ap (moved_name file.folder) is)
      by (Some lines) is =
          ap (λ one. moved_name_of (option_map names_among one) (moved_at known text.0)) is
          ∙ ap (moved_name_of (Some (names_among lines))) (numbers.moved known text.0 file lines at is)
          ∙ first-named file.folder lines
          ∙ sym (ap (moved_name file.folder) is)

  part-at : (text : TextId) (file : FileId) → IsAt text file → is_part file.folder (text_of (known_map known) file) ≡ is_part_at known text.0
  part-at text file at = ap (is_part file.folder) (text-at text file at) ∙ by (lines_at known text.0) refl
    where
      by : (t : Standing) → lines_at known text.0 ≡ t → is_part file.folder (lines_at known text.0) ≡ is_part_at known text.0
      by None is = ap (is_part file.folder) is ∙ sym (numbers.no_part known text.0 is)
      by (Some lines) is = ap (is_part file.folder) is ∙ sym (numbers.part known text.0 file lines at is)

  found-same : (from : Folder) (name : List ℕ) (found : Found) → find (known_map known) from name ≡ found → Same (part_only known (resolved known found)) (part_found (known_map known) found)
  found-same from name Absent is = tt
  found-same from name (Unknown folder) is = tt
  found-same from name (Present file) is = by (id_of known file) refl
    where
      by_part : (text : TextId) → IsAt text file → (part : Bool) → Same (cond part (Some text) None) (cond part (Some file) None)
      by_part text at true = at
      by_part text at false = tt

      by : (id : Option ℕ) → id_of known file ≡ id → Same (part_only known (resolved known (Present file))) (part_found (known_map known) (Present file))
      by None none = let found = ((finds.present (known_map known) from name file).0 is).2 in absurd (grind (arith, tests, found.1, numbers.map known file, none))
      by (Some id) some =
          let text : TextId = record { 0 = id } in
          let at : IsAt text file = numbers.file known file id some in
          subst (λ n. Same (part_only known (TextFound (record { 0 = unwrap_or n 0 }))) (part_found (known_map known) (Present file))) (sym some) (subst (λ part. Same (cond (is_part_at known id) (Some text) None) (cond part (Some file) None)) (sym (part-at text file at)) (by_part text at (is_part_at known id)))

  named-same : (text : TextId) (file : FileId) → IsAt text file → (name : List ℕ) → Same (part_named known text name) (part_found (known_map known) (find (known_map known) file.folder name))
  named-same text file at name =
      subst (λ from. Same (part_only known (resolved_from known name from)) (part_found (known_map known) (find (known_map known) file.folder name))) (sym at) (found-same file.folder name (find (known_map known) file.folder name) refl)

  behind-same : (text : TextId) (file : FileId) → IsAt text file → Same (part_behind known text) (moved_to (known_map known) file)
  unfolding moved_to
  behind-same text file at =
      subst (λ name. Same (option_and_then (part_named known text) name) (moved_to (known_map known) file)) (sym (name-same text file at)) (by (moved_name file.folder (text_of (known_map known) file)))
    where
      by : (name : Option (List ℕ)) → Same (option_and_then (part_named known text) name) (option_and_then (λ name. part_found (known_map known) (find (known_map known) file.folder name)) name)
      by None = tt
      by (Some name) = named-same text file at name

  other-same : (texts : List TextId) (fs : List FileId) → AreAt texts fs → (next : Option TextId) (found : Option FileId) → Same next found → Same (option_and_then (unless_among texts) next) (option_and_then (other_than fs) found)
  other-same texts fs are None None same = tt
  other-same texts fs are None (Some found) same = absurd same
  other-same texts fs are (Some next) None same = absurd same
  other-same texts fs are (Some next) (Some found) same =
      subst (λ has. Same (unless_among texts next) (cond has None (Some found))) (sym (any-at next found same texts fs are)) (by (list_any (λ on. on.0 == next.0) texts))
    where
      by : (has : Bool) → Same (cond has None (Some next)) (cond has None (Some found))
      by true = tt
      by false = same

  -- ---- Where moves end.

  last-same : (more : ℕ) (before : List TextId) (fs : List FileId) (last : TextId) (file : FileId) → AreAt (before ++ last ∷ []) fs → IsAt last file → IsAt (last_of more known before last) (last_moved more (known_map known) fs file)
  last-same zero before fs last file are at = at
  last-same (suc more) before fs last file are at =
      by (λ next found there. last-same more (before ++ last ∷ []) (fs ++ found ∷ []) next found (are-behind (before ++ last ∷ []) fs next found are there) there) (option_and_then (unless_among (before ++ last ∷ [])) (part_behind known last)) (option_and_then (other_than fs) (moved_to (known_map known) file)) (other-same (before ++ last ∷ []) fs are (part_behind known last) (moved_to (known_map known) file) (behind-same last file at))
    where
      by : ((next : TextId) (found : FileId) → IsAt next found → IsAt (last_of more known (before ++ last ∷ []) next) (last_moved more (known_map known) (fs ++ found ∷ []) found)) → (next : Option TextId) (found : Option FileId) → Same next found → IsAt (elim next [ None ↦ last | Some next ↦ last_of more known (before ++ last ∷ []) next ]) (elim found [ None ↦ file | Some found ↦ last_moved more (known_map known) (fs ++ found ∷ []) found ])
      by further None None same = at
      by further None (Some found) same = absurd same
      by further (Some next) None same = absurd same
      by further (Some next) (Some found) same = further next found same

  target-is : (text : TextId) → last_of 63 known [] text ≡ target_of known text (file_at known text.0)
  unfolding target
  target-is text = by (file_at known text.0) refl
    where
      by : (file : Option FileId) → file_at known text.0 ≡ file → last_of 63 known [] text ≡ target_of known text file
      by None none = ap (λ name. elim (option_and_then (unless_among (text ∷ [])) (option_and_then (part_named known text) name)) [ None ↦ text | Some next ↦ last_of 62 known (text ∷ []) next ]) (ap (moved_name_of (names_at (items_of_known known) text.0)) (numbers.not_moved known text.0 (none-there text.0 none)))
      by (Some file) at =
          let end = last_of 63 known [] text in
          let there : IsAt end (target (known_map known) file) = last-same 63 [] (file ∷ []) text file (at, tt) at in
          ap (λ n. record { 0 = unwrap_or n text.0 }) (sym (numbers.number known (target (known_map known) file) end.0 distinct there))

  -- ---- The moves so far.

  -- they are so many of 63, and lead on to where all of them end
  abbrev pub LeadOn : ℕ → List TextId → TextId → TextId → Type 0
  LeadOn count before last text = (count ≤ 63) × (last_of (63 - count) known before last ≡ last_of 63 known [] text)

  pub end-nowhere : (count : ℕ) (before : List TextId) (last text : TextId) → LeadOn count before last text → part_behind known last ≡ None → last ≡ target_of known text (file_at known text.0)
  end-nowhere count before last text lead none = sym (moved-nowhere (63 - count) known before last none) ∙ lead.1 ∙ target-is text

  pub end-twice : (count : ℕ) (before : List TextId) (last next text : TextId) → LeadOn count before last text → part_behind known last ≡ Some next → list_any (λ on. on.0 == next.0) (before ++ last ∷ []) ≡ true → last ≡ target_of known text (file_at known text.0)
  end-twice count before last next text lead behind among = sym (moved-twice (63 - count) known before last next behind among) ∙ lead.1 ∙ target-is text

  pub end-full : (count : ℕ) (before : List TextId) (last text : TextId) → LeadOn count before last text → 63 ≤ count → last ≡ target_of known text (file_at known text.0)
  end-full count before last text lead full =
      let none : 63 - count ≡ 0 = omega arith in
      ap (λ more. last_of more known before last) (sym none) ∙ lead.1 ∙ target-is text

  pub lead-on : (count : ℕ) (before : List TextId) (last next text : TextId) → LeadOn count before last text → count < 63 → part_behind known last ≡ Some next → list_any (λ on. on.0 == next.0) (before ++ last ∷ []) ≡ false → LeadOn (count + 1) (before ++ last ∷ []) next text
  lead-on count before last next text lead short behind other =
      let more : 63 - count ≡ suc (62 - count) = omega arith in
      let left : 63 - (count + 1) ≡ 62 - count = omega arith in
      (omega arith, ap (λ m. last_of m known (before ++ last ∷ []) next) left ∙ sym (moved-on (62 - count) known before last next behind other) ∙ ap (λ m. last_of m known before last) (sym more) ∙ lead.1)

  -- with the moves in the front of a longer list
  pub lead-set : (count : ℕ) (all : List TextId) (last next text : TextId) → count < length all → LeadOn count (take count all) last text → count < 63 → part_behind known last ≡ Some next → list_any (λ on. on.0 == next.0) (take count all ++ last ∷ []) ≡ false → LeadOn (count + 1) (take (count + 1) (slice_set all count last)) next text
  lead-set count all last next text within lead short behind other = subst (λ moves. LeadOn (count + 1) moves next text) (sym (take_more_set all count last within)) (lead-on count (take count all) last next text lead short behind other)
