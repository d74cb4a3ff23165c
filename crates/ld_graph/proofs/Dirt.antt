-- A text is touched by a change, or refers to the same as before.
use Rattle.std.proofs.Common.{◌≡◌, ◌⊎◌, ℕ, Bool, true, List, [], ◌∷◌, Option, Some, None, inl, inr, ⊎_elim, refl, sym, ap, ap₂, ◌∙◌, subst, get_or}
use mathlib.Core.Bool.{Bool-discrete}
use mathlib.Core.HLevel.{Discrete}
use Rattle.std.specs.List.{Contains, cons_option, filter_map, slice_get}
use Rattle.std.specs.Option.{option_map, option_and_then, is_some, unwrap_or}
use Rattle.std.proofs.lemmas.List.Quantifiers.{position-Some}
use Rattle.std.proofs.lemmas.Option.{slice_get-get_or, slice_get-map}
use Rattle.ld_names.specs.Finding.{IsFileEquality}
use Rattle.ld_names.specs.Standing.{folders_of, same_file}
use Rattle.ld_names.specs.declared.file.FileId.{FileId}
use Rattle.ld_names.specs.declared.file.Folder.{Folder}
use Rattle.ld_graph.specs.Changing.{HasTurned, IsChanged, IsTouched}
use Rattle.ld_graph.specs.Items.{Item, Items, file_at, files_of, first_present, found, found_by, here_or, number_of, presence, present_or, web_of}
use Rattle.ld_graph.specs.Laws.{DirtIsLeast, DirtIsOne, OthersStay}
use Rattle.ld_graph.specs.Web.{IsWalk, Reaches, children_of, end_of}
use Rattle.ld_graph.proofs.FoundBy.{children_is, file_is}
use Rattle.ld_graph.proofs.Heights.{heights_agree}
use Rattle.ld_graph.proofs.Listed.{here, there}

option_discrete : {A : Type 0} → Discrete A → Discrete (Option A)
option_discrete d None None = yes refl
option_discrete d None (Some y) = no (λ e. cc)
option_discrete d (Some x) None = no (λ e. cc)
option_discrete d (Some x) (Some y) = elim (d x y) [ yes same ↦ yes (ap Some same) | no other ↦ no (λ e. other cc) ]

presence_discrete : Discrete (Option Bool)
presence_discrete = option_discrete Bool-discrete

module _ (equality : IsFileEquality) where
  pub file_of_number : (items : Items) (file : FileId) (text : ℕ) → number_of items file ≡ Some text → file_at items text ≡ Some file
  file_of_number items file text is =
      let at = position-Some (same_file file) (files_of items) text file is in
      slice_get-get_or (files_of items) text file at.0 ∙ ap Some (sym ((equality.same file (get_or (files_of items) text file)).0 at.1))

  known_presence : (items : Items) (file : FileId) (text : ℕ) → file_at items text ≡ Some file → presence items text ≡ None → ⊥
  known_presence items file text is none =
      known_item (slice_get items text) (sym (slice_get-map (λ item. item.0) items text) ∙ is) none
    where
      known_item : (item : Option Item) → option_map (λ one. one.0) item ≡ Some file → option_map (λ one. is_some one.1) item ≡ None → ⊥
      known_item None e n = cc
      known_item (Some one) e n = cc

  -- ---- a name finds the same, or a file that it names turned

  -- a file in one of the folders turned
  abbrev TurnedAmong : Items → Items → List ℕ → List Folder → Type 0
  TurnedAmong before after name folders = (folder : Folder) × (other : ℕ) × Contains folders folder × HasTurned before after other × (file_at after other ≡ Some (record { folder = folder; name = name }))

  at_number : (before after : Items) (name : List ℕ) (folder : Folder) (folders : List Folder) (one other number : Option ℕ) → number_of after (record { folder = folder; name = name }) ≡ number → TurnedAmong before after name folders ⊎ (one ≡ other) → TurnedAmong before after name (folder ∷ folders) ⊎ (here_or number (presence before) one ≡ here_or number (presence after) other)
  at_number before after name folder folders one other None is rest = inr refl
  at_number before after name folder folders one other (Some text) is rest =
      elim (presence_discrete (presence before text) (presence after text)) [ no turned ↦ inl (folder, text, here folder folders, turned, file_of_number after (record { folder = folder; name = name }) text is) | yes same ↦ ⊎_elim (λ some. inl (some.0, some.1, there some.0 folder folders some.2, some.3, some.4)) (λ e. inr (ap₂ (present_or text) same e)) rest ]

  pub first_same : (before after : Items) (changed : List ℕ) → IsChanged before after changed → (name : List ℕ) (folders : List Folder) → TurnedAmong before after name folders ⊎ (first_present (λ folder. number_of before (record { folder = folder; name = name })) (presence before) folders ≡ first_present (λ folder. number_of after (record { folder = folder; name = name })) (presence after) folders)
  first_same before after changed change name [] = inr refl
  first_same before after changed change name (folder ∷ folders) =
      let file : FileId = record { folder = folder; name = name } in
      let one = first_present (λ at. number_of before (record { folder = at; name = name })) (presence before) folders in
      let other = first_present (λ at. number_of after (record { folder = at; name = name })) (presence after) folders in
      ⊎_elim
      (λ same. subst (λ number. TurnedAmong before after name (folder ∷ folders) ⊎ (here_or number (presence before) one ≡ here_or (number_of after file) (presence after) other)) (sym same) (at_number before after name folder folders one other (number_of after file) refl (first_same before after changed change name folders)))
      (λ new.
      let known = file_of_number after file new.0 new.2 in
      inl (folder, new.0, here folder folders, (λ e. known_presence after file new.0 known (sym e ∙ new.3)), known))
      (change.numbers file)

  names_same : (before after : Items) (changed : List ℕ) → IsChanged before after changed → (from : Folder) (names : List (List ℕ)) → ((name : List ℕ) × Contains names name × TurnedAmong before after name (folders_of from)) ⊎ (filter_map (found before from) names ≡ filter_map (found after from) names)
  names_same before after changed change from [] = inr refl
  names_same before after changed change from (name ∷ names) =
      ⊎_elim
      (λ turned. inl (name, here name names, turned))
      (λ same. ⊎_elim
      (λ some. inl (some.0, there some.0 name names some.1, some.2))
      (λ rest. inr (ap₂ cons_option same rest))
      (names_same before after changed change from names))
      (first_same before after changed change name (folders_of from))

  -- ---- a text is touched, or refers to the same

  item_same : (before after : Items) (changed : List ℕ) → IsChanged before after changed → (text : ℕ) (item : Option Item) → slice_get after text ≡ item → IsTouched before after changed after text ⊎ (unwrap_or (option_map (found_by before) item) None ≡ unwrap_or (option_map (found_by after) item) None)
  item_same before after changed change text None is = inr refl
  item_same before after changed change text (Some (from, None)) is = inr refl
  item_same before after changed change text (Some (from, Some names)) is =
      ⊎_elim
      (λ some.
      let turned = some.2 in
      inl (inr (
        turned.1,
        turned.3,
        record {
          from = from;
          file = record { folder = turned.0; name = some.0 };
          names = names;
          from_is = file_is after text ∙ ap (option_map (λ (item : Item). item.0)) is;
          file_is = turned.4;
          names_are = ap (option_and_then (λ (item : Item). item.1)) is;
          named = some.1;
          looked_in = turned.2;
        },
      )))
      (λ same. inr (ap Some same))
      (names_same before after changed change from.folder names)

  pub touched_or_same : (before after : Items) (changed : List ℕ) → IsChanged before after changed → (text : ℕ) → IsTouched before after changed after text ⊎ (children_of (web_of before) text ≡ children_of (web_of after) text)
  touched_or_same before after changed change text =
      ⊎_elim
      (λ c. inl (inl c))
      (λ same. ⊎_elim
      inl
      (λ e. inr (children_is before text ∙ ap (λ item. unwrap_or (option_map (found_by before) item) None) same ∙ e ∙ sym (children_is after text)))
      (item_same before after changed change text (slice_get after text) refl))
      (change.others text)

  touched_over : (before after : Items) (changed : List ℕ) → IsChanged before after changed → (text : ℕ) → IsTouched before after changed before text → IsTouched before after changed after text
  touched_over before after changed change text (inl c) = inl c
  touched_over before after changed change text (inr (other, turned, n)) =
      ⊎_elim
      (λ c. inl c)
      (λ same. inr (
        other,
        turned,
        record {
          from = n.from;
          file = n.file;
          names = n.names;
          from_is = change.files text n.from n.from_is;
          file_is = change.files other n.file n.file_is;
          names_are = ap (option_and_then (λ (item : Item). item.1)) (sym same) ∙ n.names_are;
          named = n.named;
          looked_in = n.looked_in;
        },
      ))
      (change.others text)

  walk_over : (before after : Items) (changed : List ℕ) → IsChanged before after changed → (text : ℕ) (walk : List ℕ) → IsWalk (web_of before) text walk → IsTouched before after changed before (end_of text walk) → Reaches (web_of after) (IsTouched before after changed after) text
  walk_over before after changed change text [] steps touched = ([], tt, touched_over before after changed change text touched)
  walk_over before after changed change text (next ∷ walk) steps touched =
      let rest = walk_over before after changed change next walk steps.1 touched in
      ⊎_elim
      (λ is. ([], tt, is))
      (λ same. (next ∷ rest.0, (rw (← same) steps.0, rest.1), rest.2))
      (touched_or_same before after changed change text)

  pub dirt_is_one : DirtIsOne
  dirt_is_one before after changed text change = (⊎_elim (λ walk. walk_over before after changed change text walk.0 walk.1 walk.2) (λ walk. walk), λ walk. inr walk)

  pub dirt_is_least : DirtIsLeast
  dirt_is_least before after changed set change touched closed text dirty =
      let reached = (dirt_is_one before after changed text change).0 dirty in go text reached.0 reached.1 reached.2
    where
      go : (from : ℕ) (walk : List ℕ) → IsWalk (web_of after) from walk → IsTouched before after changed after (end_of from walk) → set from ≡ true
      go from [] steps is = touched from is
      go from (next ∷ walk) steps is = closed from next steps.0 (go next walk steps.1 is)

  pub others_stay : OthersStay
  others_stay before after changed text change clean =
      let un : Reaches (web_of after) (IsTouched before after changed after) text → ⊥ = λ walk. clean (inr walk) in
      record {
        children = ⊎_elim (λ is. absurd (un ([], tt, is))) (λ same. same) (touched_or_same before after changed change text);
        clean = λ child r dirty. let walk = (dirt_is_one before after changed child change).0 dirty in un (child ∷ walk.0, (r, walk.1), walk.2);
        heights = λ cap. heights_agree (web_of before) (web_of after) (λ one. Reaches (web_of after) (IsTouched before after changed after) one → ⊥)
            (λ one other. ⊎_elim (λ is. absurd (other ([], tt, is))) (λ same. same) (touched_or_same before after changed change one))
            (λ one next other r walk. other (next ∷ walk.0, (r, walk.1), walk.2))
            cap text un;
      }
