-- What an edit leaves and what it changes: proofs of the laws.
use Rattle.std.proofs.Common.{◌≡◌, ◌≤◌, ◌-◌, ◌||◌, ℕ, Bool, true, false, cond, List, [], ◌∷◌, length, map, Option, Some, None, sym, ap, refl, ◌∙◌, subst, option_map, option_and_then, unwrap_or, arith, IsSome, inl, inr, position, slice_get, slice_set}
use Rattle.std.specs.Prelude.{not, ⊤}
use Rattle.std.specs.List.{IsDistinct, insert, list_all, list_any, remove}
use Rattle.std.specs.Map.{lookup, set_value}
use Rattle.std.specs.Option.{is_none, is_some, option_or}
use Rattle.std.proofs.lemmas.Bool.{cases_Bool}
use Rattle.std.proofs.lemmas.List.{length-map}
use Rattle.std.proofs.lemmas.Map.{keys-set_value, lookup-set_value}
use Rattle.ld_names.specs.declared.file.FileId.{FileId}
use Rattle.ld_names.specs.Finding.{IsFileEquality}
use Rattle.ld_names.specs.Standing.{Known, Map, Text, known_map, same_file, standing}
use Rattle.ld_texts.specs.Editing.{AreKnown, edit_change, edited, edited_map, files_in, is_block_text, map_with_texts, misfit, move_change, misses, names, refusal_of, refused_if, text_in, text_of, turned, with_texts, written_by}
use Rattle.ld_texts.specs.EditLaws.{EditLaws, EditsMaps, LeavesOthers, Weighs, grows}
use Rattle.ld_texts.specs.Known.{file_at, files_of, id_of, is_part_at, lines_at, moved_at, weight_of}
use Rattle.ld_texts.specs.Learning.{Apply, Learn, Ready, change_of, edit_in, known_after}
use Rattle.ld_texts.specs.declared.change.Change.{Change}
use Rattle.ld_texts.specs.declared.change.Turned.{Turned}
use Rattle.ld_texts.specs.declared.edit.Edit.{Edit}
use Rattle.ld_texts.specs.declared.edit.Edit.TheVariants.{Set, Insert, Delete, New, Restore, Drop, Move}
use Rattle.ld_texts.specs.declared.edit.EditRefusal.TheVariants.{BadLine, FileThere, NoFile}
use Rattle.ld_texts.proofs.Places.{file_at-is, numbers_agree, the_some}
use Rattle.ld_texts.proofs.Refused.{delete-refusal, drop-refusal, insert-weight, move-refusal, new-refusal, restored-weight, set-weight}

-- ---- the files stay

files-stay : (known : Known) (writes : List (FileId × Text)) → files_of (with_texts known writes) ≡ files_of known
files-stay known [] = refl
files-stay known (write ∷ writes) = files-stay (set_value (same_file write.0) known write.1) writes ∙ keys-set_value (same_file write.0) known write.1

pub id_of-edited : (known : Known) (edit : Edit) (file : FileId) → id_of (edited known edit) file ≡ id_of known file
unfolding id_of
id_of-edited known edit file = ap (position (same_file file)) (files-stay known (written_by edit (text_of known)))

turned-stays : (known after : Known) (file : FileId) (how : Turned) → id_of after file ≡ id_of known file → turned after file how ≡ turned known file how
turned-stays known after file how same = ap (option_map (λ id. record { first = (record { 0 = id }, how); second = None })) same

pub change-stays : (known : Known) (edit : Edit) → edit_change (edited known edit) edit ≡ edit_change known edit
change-stays known (Set file line text) = turned-stays known _ file _ (id_of-edited known (Set file line text) file)
change-stays known (Insert file line text) = turned-stays known _ file _ (id_of-edited known (Insert file line text) file)
change-stays known (Delete file line) = turned-stays known _ file _ (id_of-edited known (Delete file line) file)
change-stays known (New file) = turned-stays known _ file _ (id_of-edited known (New file) file)
change-stays known (Restore file lines) = turned-stays known _ file _ (id_of-edited known (Restore file lines) file)
change-stays known (Drop file) = turned-stays known _ file _ (id_of-edited known (Drop file) file)
change-stays known (Move from to) =
    ap (λ id. move_change id (id_of (edited known (Move from to)) to)) (id_of-edited known (Move from to) from) ∙ ap (move_change (id_of known from)) (id_of-edited known (Move from to) to)

-- a change that is an edit turns what the edit turns
pub applied : (before after : Known) (ready : Ready) (edit : Edit) (change : Change) → edit_in ready ≡ Some edit → after ≡ known_after before ready → change_of after ready ≡ Some change → edit_change before edit ≡ Some change
applied before after (Learn file text) edit change is turns gives = absurd (cc)
applied before after (Apply made room) edit change is turns gives =
    let same : made ≡ edit = the_some made edit is in
    ap (edit_change before) (sym same) ∙ sym (change-stays before made) ∙ ap (λ known. edit_change known made) (sym turns) ∙ gives

-- ---- other files stay

or-false : (a b : Bool) → a || b ≡ false → (a ≡ false) × (b ≡ false)
or-false true b is = absurd (cc)
or-false false b is = (refl, is)

-- the texts of these files are the same
abbrev Agree : (FileId → Text) → (FileId → Text) → List FileId → Type 0
Agree one two [] = ⊤
Agree one two (file ∷ files) = (one file ≡ two file) × Agree one two files

-- ---- the weight

light-is : (known : Known) (max_weight : ℕ) (edit : Edit) → weight_of known ≤ max_weight → grows edit ≡ false → refusal_of max_weight known edit ≡ misfit (text_of known) edit
light-is known max_weight (Set file line text) within grown = absurd (cc)
light-is known max_weight (Insert file line text) within grown = absurd (cc)
light-is known max_weight (Delete file line) within grown = delete-refusal max_weight known within file line
light-is known max_weight (New file) within grown = new-refusal max_weight known within file
light-is known max_weight (Restore file lines) within grown = absurd (cc)
light-is known max_weight (Drop file) within grown = drop-refusal max_weight known within file
light-is known max_weight (Move from to) within grown = move-refusal max_weight known within from to

weighs : (known : Known) → Weighs known
weighs known = record {
  set = λ file line text lines is within. set-weight known file lines line text (sym is) within;
  inserted = λ file line text lines is. omega (arith, insert-weight known file lines line text (sym is));
  restored = λ file lines is absent. restored-weight known file lines is absent;
  light = light-is known;
}

module _ (equality : IsFileEquality) where
  apart-from : (file other first : FileId) → same_file file other ≡ false → same_file file first ≡ true → same_file other first ≡ false
  apart-from file other first apart same = equality.equivalence.symm other first ∙ sym (equality.equivalence.congr file first other same) ∙ apart

  other-lookup : (known : Known) (file other : FileId) (text : Text) → same_file file other ≡ false → lookup (same_file other) (set_value (same_file file) known text) ≡ lookup (same_file other) known
  other-lookup [] file other text apart = refl
  other-lookup (first ∷ known) file other text apart =
      elim (cases_Bool (same_file file first.0)) [
        | inl same ↦
            let skipped = apart-from file other first.0 apart same in
            ap (λ b. lookup (same_file other) (cond b ((first.0, text) ∷ known) (first ∷ set_value (same_file file) known text))) same
            ∙ ap (λ b. cond b (Some text) (lookup (same_file other) known)) skipped ∙ sym (ap (λ b. cond b (Some first.1) (lookup (same_file other) known)) skipped)
        | inr differ ↦
            ap (λ b. lookup (same_file other) (cond b ((first.0, text) ∷ known) (first ∷ set_value (same_file file) known text))) differ
            ∙ ap (cond (same_file other first.0) (Some first.1)) (other-lookup known file other text apart)
      ]

  others-stay : (known : Known) (writes : List (FileId × Text)) (other : FileId) → list_any (λ file. same_file file other) (map (λ write. write.0) writes) ≡ false → known_map (with_texts known writes) other ≡ known_map known other
  unfolding known_map
  others-stay known [] other apart = refl
  others-stay known (write ∷ writes) other apart =
      let both = or-false (same_file write.0 other) (list_any (λ file. same_file file other) (map (λ w. w.0) writes)) apart in
      others-stay (set_value (same_file write.0) known write.1) writes other both.1 ∙ other-lookup known write.0 other write.1 both.0

  written-files : (edit : Edit) (texts : FileId → Text) → map (λ write. write.0) (written_by edit texts) ≡ files_in edit
  written-files (Set file line text) texts = refl
  written-files (Insert file line text) texts = refl
  written-files (Delete file line) texts = refl
  written-files (New file) texts = refl
  written-files (Restore file lines) texts = refl
  written-files (Drop file) texts = refl
  written-files (Move from to) texts = refl

  others-is : (known : Known) (edit : Edit) (other : FileId) → names edit other ≡ false → known_map (edited known edit) other ≡ known_map known other
  others-is known edit other apart =
      others-stay known (written_by edit (text_of known)) other (ap (list_any (λ file. same_file file other)) (written-files edit (text_of known)) ∙ apart)

  lines-is : (known : Known) (edit : Edit) (other : FileId) (id : ℕ) → names edit other ≡ false → id_of known other ≡ Some id → lines_at (edited known edit) id ≡ lines_at known id
  lines-is known edit other id apart is =
      let numbers = numbers_agree equality in
      let after : known_map (edited known edit) other ≡ Some (lines_at (edited known edit) id) = numbers.map (edited known edit) other ∙ ap (option_map (lines_at (edited known edit))) (id_of-edited known edit other ∙ is) in
      let before : known_map known other ≡ Some (lines_at known id) = numbers.map known other ∙ ap (option_map (lines_at known)) is in
      the_some (lines_at (edited known edit) id) (lines_at known id) (sym after ∙ others-is known edit other apart ∙ before)

  file-is : (known : Known) (edit : Edit) (id : ℕ) → file_at (edited known edit) id ≡ file_at known id
  unfolding file_at
  file-is known edit id = file_at-is (edited known edit) id ∙ ap (λ files. slice_get files id) (files-stay known (written_by edit (text_of known))) ∙ sym (file_at-is known id)

  part-by : (known after : Known) (id : ℕ) (file : FileId) (text : Text) → file_at known id ≡ Some file → file_at after id ≡ Some file → lines_at known id ≡ text → lines_at after id ≡ text → is_part_at after id ≡ is_part_at known id
  part-by known after id file None there stays is now = let numbers = numbers_agree equality in numbers.no_part after id now ∙ sym (numbers.no_part known id is)
  part-by known after id file (Some lines) there stays is now = let numbers = numbers_agree equality in numbers.part after id file lines stays now ∙ sym (numbers.part known id file lines there is)

  part-is : (known : Known) (edit : Edit) (other : FileId) (id : ℕ) → names edit other ≡ false → id_of known other ≡ Some id → is_part_at (edited known edit) id ≡ is_part_at known id
  part-is known edit other id apart is =
      let there = (numbers_agree equality).file known other id is in
      part-by known (edited known edit) id other (lines_at known id) there (file-is known edit id ∙ there) refl (lines-is known edit other id apart is)

  moved-by : (known after : Known) (id : ℕ) (file : FileId) (text : Text) → file_at known id ≡ Some file → file_at after id ≡ Some file → lines_at known id ≡ text → lines_at after id ≡ text → moved_at after id ≡ moved_at known id
  moved-by known after id file None there stays is now = let numbers = numbers_agree equality in numbers.not_moved after id now ∙ sym (numbers.not_moved known id is)
  moved-by known after id file (Some lines) there stays is now = let numbers = numbers_agree equality in numbers.moved after id file lines stays now ∙ sym (numbers.moved known id file lines there is)

  moved-is : (known : Known) (edit : Edit) (other : FileId) (id : ℕ) → names edit other ≡ false → id_of known other ≡ Some id → moved_at (edited known edit) id ≡ moved_at known id
  moved-is known edit other id apart is =
      let there = (numbers_agree equality).file known other id is in
      moved-by known (edited known edit) id other (lines_at known id) there (file-is known edit id ∙ there) refl (lines-is known edit other id apart is)

  keeps : (known : Known) (edit : Edit) → LeavesOthers known edit
  keeps known edit = record {
    files = files-stay known (written_by edit (text_of known));
    count = sym (length-map (edited known edit) (λ entry. entry.0)) ∙ ap length (files-stay known (written_by edit (text_of known))) ∙ length-map known (λ entry. entry.0);
    distinct = λ distinct. subst (IsDistinct same_file) (sym (files-stay known (written_by edit (text_of known)))) distinct;
    id = id_of-edited known edit;
    file = file-is known edit;
    change = change-stays known edit;
    others = others-is known edit;
    lines = lines-is known edit;
    part = part-is known edit;
    moved = moved-is known edit;
  }

  -- ---- the map of what is known

  text-step : (known : Known) (now : Option ℕ) → option_and_then (lines_at known) now ≡ unwrap_or (option_map (lines_at known) now) None
  text-step known None = refl
  text-step known (Some id) = refl

  text-is : (known : Known) (file : FileId) → text_of known file ≡ text_in (known_map known) file
  text-is known file = text-step known (id_of known file) ∙ ap (λ (now : Option Text). unwrap_or now None) (sym ((numbers_agree equality).map known file))

  known-step : (known : Known) (now : Option ℕ) → IsSome now → IsSome (option_map (lines_at known) now)
  known-step known None is = is
  known-step known (Some id) is = refl

  is-known : (known : Known) (file : FileId) → IsSome (id_of known file) → IsSome (known_map known file)
  is-known known file is = subst IsSome (sym ((numbers_agree equality).map known file)) (known-step known (id_of known file) is)

  map-step : (known : Known) (file other : FileId) (text : Text) → IsSome (id_of known file) → known_map (set_value (same_file file) known text) other ≡ cond (same_file file other) (Some text) (known_map known other)
  unfolding known_map
  map-step known file other text is = lookup-set_value equality.equivalence (same_file file) (equality.equivalence.congr file) other text known (is-known known file is)

  same-maps : (one two : Map) (writes : List (FileId × Text)) → ((file : FileId) → one file ≡ two file) → (file : FileId) → map_with_texts one writes file ≡ map_with_texts two writes file
  same-maps one two [] same file = same file
  same-maps one two (write ∷ writes) same file =
      same-maps (λ other. cond (same_file write.0 other) (Some write.1) (one other)) (λ other. cond (same_file write.0 other) (Some write.1) (two other)) writes (λ other. ap (cond (same_file write.0 other) (Some write.1)) (same other)) file

  still-known : (known : Known) (file : FileId) (text : Text) (files : List FileId) → AreKnown known files → AreKnown (set_value (same_file file) known text) files
  unfolding id_of
  still-known known file text [] are = are
  still-known known file text (next ∷ files) are =
      (subst (λ files. IsSome (position (same_file next) files)) (sym (keys-set_value (same_file file) known text)) are.0, still-known known file text files are.1)

  map-of : (known : Known) (writes : List (FileId × Text)) → AreKnown known (map (λ write. write.0) writes) → (file : FileId) → known_map (with_texts known writes) file ≡ map_with_texts (known_map known) writes file
  map-of known [] are file = refl
  map-of known (write ∷ writes) are file =
      map-of (set_value (same_file write.0) known write.1) writes (still-known known write.0 write.1 (map (λ w. w.0) writes) are.1) file
      ∙ same-maps (known_map (set_value (same_file write.0) known write.1)) (λ other. cond (same_file write.0 other) (Some write.1) (known_map known other)) writes (λ other. map-step known write.0 other write.1 are.0) file

  -- ---- the texts as they stand

  written-same : (edit : Edit) (one two : FileId → Text) → Agree one two (files_in edit) → written_by edit one ≡ written_by edit two
  written-same (Set file line text) one two agree = ap (λ (t : Text). (file, option_map (λ lines. slice_set lines (line - 1) text) t) ∷ []) agree.0
  written-same (Insert file line text) one two agree = ap (λ (t : Text). (file, option_map (λ lines. insert lines (line - 1) text) t) ∷ []) agree.0
  written-same (Delete file line) one two agree = ap (λ (t : Text). (file, option_map (λ lines. remove lines (line - 1)) t) ∷ []) agree.0
  written-same (New file) one two agree = refl
  written-same (Restore file lines) one two agree = refl
  written-same (Drop file) one two agree = refl
  written-same (Move from to) one two agree = ap (λ (t : Text). (from, None) ∷ (to, t) ∷ []) agree.0

  misfit-same : (edit : Edit) (one two : FileId → Text) → Agree one two (files_in edit) → misfit one edit ≡ misfit two edit
  misfit-same (Set file line text) one two agree = ap (λ (t : Text). option_or (refused_if (not (is_block_text text)) BadLine) (misses 0 line t)) agree.0
  misfit-same (Insert file line text) one two agree = ap (λ (t : Text). option_or (refused_if (not (is_block_text text)) BadLine) (misses 1 line t)) agree.0
  misfit-same (Delete file line) one two agree = ap (misses 0 line) agree.0
  misfit-same (New file) one two agree = ap (λ (t : Text). refused_if (is_some t) FileThere) agree.0
  misfit-same (Restore file lines) one two agree = ap (λ (t : Text). option_or (refused_if (not (list_all is_block_text lines)) BadLine) (refused_if (is_some t) FileThere)) agree.0
  misfit-same (Drop file) one two agree = ap (λ (t : Text). refused_if (is_none t) NoFile) agree.0
  misfit-same (Move from to) one two agree =
      ap (λ (t : Text). option_or (refused_if (is_none t) NoFile) (refused_if (is_some (one to)) FileThere)) agree.0
      ∙ ap (λ (t : Text). option_or (refused_if (is_none (two from)) NoFile) (refused_if (is_some t) FileThere)) agree.1.0

  agree-all : (one two : FileId → Text) → ((file : FileId) → one file ≡ two file) → (files : List FileId) → Agree one two files
  agree-all one two same [] = tt
  agree-all one two same (file ∷ files) = (same file, agree-all one two same files)

  either : (now : Option Text) (one two : Text) → IsSome now → unwrap_or now one ≡ unwrap_or now two
  either None one two is = absurd (cc)
  either (Some text) one two is = refl

  agree-known : (known : Known) (shelf : FileId → Text) (files : List FileId) → AreKnown known files → Agree (text_in (standing (known_map known) shelf)) (text_of known) files
  unfolding standing
  agree-known known shelf [] are = tt
  agree-known known shelf (file ∷ files) are =
      (either (known_map known file) (shelf file) None (is-known known file are.0) ∙ sym (text-is known file), agree-known known shelf files are.1)

  written-known : (known : Known) (edit : Edit) → AreKnown known (files_in edit) → AreKnown known (map (λ write. write.0) (written_by edit (text_of known)))
  written-known known edit are = subst (AreKnown known) (sym (written-files edit (text_of known))) are

  map-is : (known : Known) (edit : Edit) → AreKnown known (files_in edit) → (file : FileId) → known_map (edited known edit) file ≡ edited_map (known_map known) edit file
  map-is known edit are file =
      map-of known (written_by edit (text_of known)) (written-known known edit are) file
      ∙ ap (λ writes. map_with_texts (known_map known) writes file) (written-same edit (text_of known) (text_in (known_map known)) (agree-all (text_of known) (text_in (known_map known)) (text-is known) (files_in edit)))

  cond-step : (same : Bool) (text shelf : Text) (now : Option Text) → cond same (Some text) (Some (unwrap_or now shelf)) ≡ Some (unwrap_or (cond same (Some text) now) shelf)
  cond-step true text shelf now = refl
  cond-step false text shelf now = refl

  stands-with : (known : Map) (shelf : FileId → Text) (writes : List (FileId × Text)) (file : FileId) → map_with_texts (λ other. Some (unwrap_or (known other) (shelf other))) writes file ≡ Some (unwrap_or (map_with_texts known writes file) (shelf file))
  stands-with known shelf [] file = refl
  stands-with known shelf (write ∷ writes) file =
      same-maps (λ other. cond (same_file write.0 other) (Some write.1) (Some (unwrap_or (known other) (shelf other)))) (λ other. Some (unwrap_or (cond (same_file write.0 other) (Some write.1) (known other)) (shelf other))) writes (λ other. cond-step (same_file write.0 other) write.1 (shelf other) (known other)) file
      ∙ stands-with (λ other. cond (same_file write.0 other) (Some write.1) (known other)) shelf writes file

  stands-is : (known : Known) (edit : Edit) → AreKnown known (files_in edit) → (shelf : FileId → Text) (file : FileId) → standing (known_map (edited known edit)) shelf file ≡ edited_map (standing (known_map known) shelf) edit file
  unfolding standing
  stands-is known edit are shelf file =
      ap (λ (now : Option Text). Some (unwrap_or now (shelf file))) (map-of known (written_by edit (text_of known)) (written-known known edit are) file)
      ∙ sym (stands-with (known_map known) shelf (written_by edit (text_of known)) file)
      ∙ ap (λ writes. map_with_texts (λ other. Some (unwrap_or (known_map known other) (shelf other))) writes file) (sym (written-same edit (text_in (standing (known_map known) shelf)) (text_of known) (agree-known known shelf (files_in edit) are)))

  edits_maps : (known : Known) (edit : Edit) → EditsMaps known edit
  edits_maps known edit = record {
    text = text-is known;
    map = map-is known edit;
    stands = stands-is known edit;
    refusal = λ are shelf. misfit-same edit (text_in (standing (known_map known) shelf)) (text_of known) (agree-known known shelf (files_in edit) are);
  }

  pub edit_laws : EditLaws
  edit_laws known edit = (keeps known edit, edits_maps known edit, weighs known)
