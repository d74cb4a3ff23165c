-- The files that an edit turns are those of which its change says so.
use Rattle.std.proofs.Common.{◌≡◌, ◌≢◌, ◌⊎◌, ◌↔◌, ◌-◌, ℕ, Bool, true, false, not, cond, [], ◌∷◌, Option, Some, None, IsSome, ap, refl, sym, ◌∙◌, subst, inl, inr, ⊎_elim, option_and_then, option_map, slice_set, unwrap_or}
use Rattle.std.specs.List.{Contains, insert, list_all, remove}
use Rattle.std.specs.Option.{is_none, is_some, option_or}
use Rattle.ld_names.specs.Finding.{IsFileEquality}
use Rattle.ld_names.specs.declared.file.FileId.{FileId}
use Rattle.ld_names.specs.Standing.{Known, Text, known_map, same_file}
use Rattle.ld_texts.specs.EditLaws.{EditLaws}
use Rattle.ld_texts.specs.Editing.{AreKnown, edit_change, edited, files_in, misfit, is_block_text, move_change, refused_if, text_in, text_of, turned}
use Rattle.ld_texts.specs.Known.{AreDistinct, id_of, lines_at}
use Rattle.ld_texts.specs.Laws.{NumbersAgree}
use Rattle.ld_texts.specs.declared.change.Turned.{Turned}
use Rattle.ld_texts.specs.declared.change.Turned.TheVariants.{Altered, Appeared, Went}
use Rattle.ld_texts.specs.declared.edit.Edit.{Edit}
use Rattle.ld_texts.specs.declared.edit.Edit.TheVariants.{Set, Insert, Delete, New, Restore, Drop, Move}
use Rattle.ld_texts.specs.declared.edit.EditRefusal.{EditRefusal}
use Rattle.ld_texts.specs.declared.edit.EditRefusal.TheVariants.{BadLine, FileThere, NoFile}
use Rattle.ld_graph.specs.Agreeing.{editing_of, items_of_known, number_in}
use Rattle.ld_graph.specs.AgreeingLaws.{EditsTurn, IsTurnedBy, ItemsLaws, Turns}
use Rattle.ld_graph.specs.Changing.{HasTurned}
use Rattle.ld_graph.specs.Items.{Item, presence}
use Rattle.ld_graph.specs.Seen.{changed_by}
use Rattle.ld_graph.proofs.Clean.{edit-changes}
use Rattle.ld_graph.proofs.Listed.{first_or, none_in}
use Rattle.ld_graph.proofs.Readied.{fits_is, written-is}

some-of : (number : Option ℕ) → IsSome number → (id : ℕ) × (number ≡ Some id)
some-of None is = cc
some-of (Some id) is = (id, refl)

-- ---- what is not refused

behind-word : (holds : Bool) (why : EditRefusal) (other : Option EditRefusal) → option_or (refused_if holds why) other ≡ None → other ≡ None
behind-word true why other is = cc
behind-word false why other is = is

not-there : (text : Text) (why : EditRefusal) → refused_if (is_some text) why ≡ None → is_some text ≡ false
not-there None why is = refl
not-there (Some lines) why is = cc

there-still : (text : Text) (other : Option EditRefusal) → option_or (refused_if (is_none text) NoFile) other ≡ None → is_some text ≡ true
there-still None other is = cc
there-still (Some lines) other is = refl

there-drop : (text : Text) → refused_if (is_none text) NoFile ≡ None → is_some text ≡ true
there-drop None is = cc
there-drop (Some lines) is = refl

mapped : {A : Type 0} (f : A → A) (text : Option A) → is_some (option_map f text) ≡ is_some text
mapped f None = refl
mapped f (Some one) = refl

module _ (numbers : NumbersAgree) (files : IsFileEquality) (laws : ItemsLaws) (edits : EditLaws) (known : Known) (distinct : AreDistinct known) where
  presence-of : (all : Known) (file : FileId) (id : ℕ) → id_of all file ≡ Some id → presence (items_of_known all) id ≡ Some (is_some (text_of all file))
  presence-of all file id is = (laws.agree all).presence id ∙ ap (option_map (λ (one : FileId). is_some (lines_at all id))) (numbers.file all file id is) ∙ ap (λ o. Some (is_some (option_and_then (lines_at all) o))) (sym is)

  module _ (edit : Edit) (are : AreKnown known (files_in edit)) where
    before-is : (file : FileId) (id : ℕ) → id_of known file ≡ Some id → presence (items_of_known known) id ≡ Some (is_some (text_of known file))
    before-is file id is = presence-of known file id is

    after-is : (file : FileId) (id : ℕ) → id_of known file ≡ Some id → presence (items_of_known (edited known edit)) id ≡ Some (is_some (text_of (edited known edit) file))
    after-is file id is = presence-of (edited known edit) file id ((edits known edit).0.id file ∙ is)

    -- a text that is none of the changed ones stays
    turned-changed : (text : ℕ) → HasTurned (items_of_known known) (items_of_known (edited known edit)) text → Contains (changed_by (editing_of known edit)) text
    turned-changed text turned = ⊎_elim (λ c. c) (λ same. absurd (turned (ap (option_map (λ (item : Item). is_some item.1)) same))) ((edit-changes laws known edit are).others text)

    differs : (one other : Bool) → one ≡ not other → Some one ≢ Some other
    differs true true is = cc
    differs false false is = cc
    differs true false is = λ e. cc
    differs false true is = λ e. cc

    turns : (file : FileId) (id : ℕ) → id_of known file ≡ Some id → is_some (text_of known file) ≡ not (is_some (text_of (edited known edit) file)) → HasTurned (items_of_known known) (items_of_known (edited known edit)) id
    turns file id is differ = λ e. differs (is_some (text_of known file)) (is_some (text_of (edited known edit) file)) differ (sym (before-is file id is) ∙ e ∙ after-is file id is)

    stays : (file : FileId) (id : ℕ) → id_of known file ≡ Some id → is_some (text_of known file) ≡ is_some (text_of (edited known edit) file) → HasTurned (items_of_known known) (items_of_known (edited known edit)) id → ⊥
    stays file id is same turned = turned (before-is file id is ∙ ap Some same ∙ sym (after-is file id is))

  only-one : (id text : ℕ) → Contains (id ∷ []) text → id ≡ text
  only-one id text c = ⊎_elim (λ e. e) (λ none. absurd (none_in text none)) (first_or text id [] c)

  number-at : (file : FileId) (id : ℕ) → id_of known file ≡ Some id → number_in known file ≡ id
  number-at file id is = ap (λ o. unwrap_or o 0) is

  -- an edit of one file that was there and is
  altered : (edit : Edit) (are : AreKnown known (files_in edit)) (file : FileId) → IsSome (id_of known file) → changed_by (editing_of known edit) ≡ number_in known file ∷ [] → edit_change known edit ≡ turned known file Altered → is_some (text_of known file) ≡ is_some (text_of (edited known edit) file) → (text : ℕ) → HasTurned (items_of_known known) (items_of_known (edited known edit)) text ↔ IsTurnedBy (edit_change known edit) text
  altered edit are file there changed-is change-is same text =
      let number = some-of (id_of known file) there in
      let change : edit_change known edit ≡ Some (record { first = (record { 0 = number.0 }, Altered); second = None }) = change-is ∙ ap (option_map (λ id. record { first = (record { 0 = id }, Altered); second = None })) number.1 in (
        (λ has.
            let c = only-one (number_in known file) text (subst (λ ids. Contains ids text) changed-is (turned-changed edit are text has)) in
            let at : number.0 ≡ text = sym (number-at file number.0 number.1) ∙ c in
            absurd (stays edit are file number.0 number.1 same (subst (λ id. HasTurned (items_of_known known) (items_of_known (edited known edit)) id) (sym at) has))),
        (λ by. absurd (⊎_elim (λ no. no) (λ no. no) (subst (λ one. IsTurnedBy one text) change by))),
      )

  -- of one that was not, or is not
  switched : (edit : Edit) (are : AreKnown known (files_in edit)) (file : FileId) (how : Turned) → ((id text : ℕ) → id ≡ text → Turns (record { 0 = id }, how) text) → ((id text : ℕ) → Turns (record { 0 = id }, how) text → id ≡ text) → IsSome (id_of known file) → changed_by (editing_of known edit) ≡ number_in known file ∷ [] → edit_change known edit ≡ turned known file how → is_some (text_of known file) ≡ not (is_some (text_of (edited known edit) file)) → (text : ℕ) → HasTurned (items_of_known known) (items_of_known (edited known edit)) text ↔ IsTurnedBy (edit_change known edit) text
  switched edit are file how to from there changed-is change-is differ text =
      let number = some-of (id_of known file) there in
      let change : edit_change known edit ≡ Some (record { first = (record { 0 = number.0 }, how); second = None }) = change-is ∙ ap (option_map (λ id. record { first = (record { 0 = id }, how); second = None })) number.1 in (
        (λ has.
            let c = only-one (number_in known file) text (subst (λ ids. Contains ids text) changed-is (turned-changed edit are text has)) in
            subst (λ one. IsTurnedBy one text) (sym change) (inl (to number.0 text (sym (number-at file number.0 number.1) ∙ c)))),
        (λ by. ⊎_elim (λ at. subst (λ id. HasTurned (items_of_known known) (items_of_known (edited known edit)) id) (from number.0 text at) (turns edit are file number.0 number.1 differ)) (λ no. absurd no) (subst (λ one. IsTurnedBy one text) change by)),
      )

  module _ (from to : FileId) (are : AreKnown known (files_in (Move from to))) (fits : misfit (text_of known) (Move from to) ≡ None) where
    from-there : is_some (text_of known from) ≡ true
    from-there = there-still (text_of known from) (refused_if (is_some (text_of known to)) FileThere) fits

    to-not : is_some (text_of known to) ≡ false
    to-not = not-there (text_of known to) FileThere (behind-word (is_none (text_of known from)) NoFile (refused_if (is_some (text_of known to)) FileThere) fits)

    apart : same_file to from ≡ false
    apart = by (same_file to from) refl
      where
        by : (same : Bool) → same_file to from ≡ same → same_file to from ≡ false
        by false is = is
        by true is =
            let one : to ≡ from = (files.same to from).0 is in
            let no : true ≡ false = sym from-there ∙ ap (λ file. is_some (text_of known file)) (sym one) ∙ to-not in cc

    left-none : text_of (edited known (Move from to)) from ≡ None
    left-none =
        (edits (edited known (Move from to)) (Move from to)).1.text from
        ∙ ap (λ one. unwrap_or one None) ((edits known (Move from to)).1.map are from)
        ∙ ap (λ b. unwrap_or (cond b (Some (text_in (known_map known) from)) (cond (same_file from from) (Some None) (known_map known from))) None) apart
        ∙ ap (λ b. unwrap_or (cond b (Some None) (known_map known from)) None) ((files.same from from).1 refl)

    two-of : (one two text : ℕ) → Contains (one ∷ two ∷ []) text → (one ≡ text) ⊎ (two ≡ text)
    two-of one two text c = ⊎_elim (λ e. inl e) (λ rest. inr (only-one two text rest)) (first_or text one (two ∷ []) c)

    moves : (text : ℕ) → HasTurned (items_of_known known) (items_of_known (edited known (Move from to))) text ↔ IsTurnedBy (edit_change known (Move from to)) text
    moves text =
        let first = some-of (id_of known from) are.0 in
        let second = some-of (id_of known to) are.1.0 in
        let change : edit_change known (Move from to) ≡ Some (record { first = (record { 0 = first.0 }, Went); second = Some (record { 0 = second.0 }, Appeared) }) = ap (λ o. move_change o (id_of known to)) first.1 ∙ ap (move_change (Some first.0)) second.1 in
        let went : is_some (text_of known from) ≡ not (is_some (text_of (edited known (Move from to)) from)) = from-there ∙ sym (ap (λ t. not (is_some t)) left-none) in
        let came : is_some (text_of known to) ≡ not (is_some (text_of (edited known (Move from to)) to)) = to-not ∙ sym (ap (λ t. not (is_some t)) (written-is known (Move from to) are) ∙ ap not from-there) in (
          (λ has.
              subst (λ one. IsTurnedBy one text) (sym change)
              (⊎_elim (λ e. inl (sym (number-at from first.0 first.1) ∙ e)) (λ e. inr (sym (number-at to second.0 second.1) ∙ e)) (two-of (number_in known from) (number_in known to) text (turned-changed (Move from to) are text has)))),
          (λ by.
              ⊎_elim (λ at. subst (λ id. HasTurned (items_of_known known) (items_of_known (edited known (Move from to))) id) at (turns (Move from to) are from first.0 first.1 went))
              (λ at. subst (λ id. HasTurned (items_of_known known) (items_of_known (edited known (Move from to))) id) at (turns (Move from to) are to second.0 second.1 came)) (subst (λ one. IsTurnedBy one text) change by)),
        )

pub edits_turn : NumbersAgree → IsFileEquality → ItemsLaws → EditLaws → EditsTurn
edits_turn numbers files laws edits max_weight known (Set file line bytes) text distinct are fits = altered numbers files laws edits known distinct (Set file line bytes) are file are.0 refl refl (sym (ap is_some (written-is known (Set file line bytes) are) ∙ mapped (λ lines. slice_set lines (line - 1) bytes) (text_of known file))) text
edits_turn numbers files laws edits max_weight known (Insert file line bytes) text distinct are fits = altered numbers files laws edits known distinct (Insert file line bytes) are file are.0 refl refl (sym (ap is_some (written-is known (Insert file line bytes) are) ∙ mapped (λ lines. insert lines (line - 1) bytes) (text_of known file))) text
edits_turn numbers files laws edits max_weight known (Delete file line) text distinct are fits = altered numbers files laws edits known distinct (Delete file line) are file are.0 refl refl (sym (ap is_some (written-is known (Delete file line) are) ∙ mapped (λ lines. remove lines (line - 1)) (text_of known file))) text
edits_turn numbers files laws edits max_weight known (New file) text distinct are fits = switched numbers files laws edits known distinct (New file) are file Appeared (λ id at e. e) (λ id at e. e) are.0 refl refl (not-there (text_of known file) FileThere (fits_is max_weight known (New file) fits) ∙ sym (ap (λ t. not (is_some t)) (written-is known (New file) are))) text
edits_turn numbers files laws edits max_weight known (Restore file lines) text distinct are fits = switched numbers files laws edits known distinct (Restore file lines) are file Appeared (λ id at e. e) (λ id at e. e) are.0 refl refl (not-there (text_of known file) FileThere (behind-word (not (list_all is_block_text lines)) BadLine (refused_if (is_some (text_of known file)) FileThere) (fits_is max_weight known (Restore file lines) fits)) ∙ sym (ap (λ t. not (is_some t)) (written-is known (Restore file lines) are))) text
edits_turn numbers files laws edits max_weight known (Drop file) text distinct are fits = switched numbers files laws edits known distinct (Drop file) are file Went (λ id at e. e) (λ id at e. e) are.0 refl refl (there-drop (text_of known file) (fits_is max_weight known (Drop file) fits) ∙ sym (ap (λ t. not (is_some t)) (written-is known (Drop file) are))) text
edits_turn numbers files laws edits max_weight known (Move from to) text distinct are fits = moves numbers files laws edits known distinct from to are (fits_is max_weight known (Move from to) fits) text
