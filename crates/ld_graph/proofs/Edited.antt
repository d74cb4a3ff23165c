-- What an edit of names touches, and what it leaves.
use Rattle.std.proofs.Common.{◌≡◌, ◌≢◌, ◌<◌, ◌⊎◌, ℕ, zero, suc, Bool, true, false, List, [], ◌∷◌, Option, Some, None, IfSome, length, get_or, set, inl, inr, ⊎_elim, refl, sym, ap, ◌∙◌, subst, arith, true≢false, length-set}
use Rattle.std.proofs.lemmas.Bool.{cases_Bool}
use Rattle.std.specs.List.{Contains, position, slice_get}
use Rattle.std.specs.Option.{IsSomeAnd, is_some, option_and_then, option_map, option_map_or}
use Rattle.ld_names.specs.Finding.{IsFileEquality}
use Rattle.ld_names.specs.Standing.{same_file}
use Rattle.ld_names.specs.declared.file.TextId.{TextId}
use Rattle.ld_graph.specs.Changing.{HasTurned, IsChanged, IsDirty, IsTouched, NamesText}
use Rattle.ld_graph.specs.Items.{Item, Items, Names, files_of, names_at, presence, web_of, with_names_at}
use Rattle.ld_graph.specs.Seen.{Editing, IsEditOf, changed_by, items_edited, items_without}
use Rattle.ld_graph.specs.Web.{Reaches, Web, height}
use Rattle.ld_graph.specs.Inside.Marking.{IsMarked, Marked}
use Rattle.ld_graph.specs.Inside.Rising.{AreRight, height_in}
use Rattle.ld_graph.proofs.Dirt.{dirt_is_one, others_stay}
use Rattle.ld_graph.proofs.Linked.{some_same}
use Rattle.ld_graph.proofs.Listed.{first_or, here, none_in, there}
use Rattle.ld_graph.proofs.Rewritten.{files_stay, with_is}
use Rattle.ld_graph.proofs.Users.{same_or_not}
use Rattle.ld_graph.proofs.Written.{get_other, get_same}

-- ---- one text with other names

pub known_item : (items : Items) (text : ℕ) → text < length items → (item : Item) × (slice_get items text ≡ Some item)
known_item [] text lt = absurd (omega arith)
known_item (item ∷ items) zero lt = (item, refl)
known_item (item ∷ items) (suc text) lt = known_item items text (omega arith)

module _ (items : Items) (text : ℕ) (names : Names) (lt : text < length items) where
  abbrev after : Items
  after = with_names_at items text names

  abbrev item : Item
  item = (known_item items text lt).0

  item_is : slice_get items text ≡ Some (known_item items text lt).0
  item_is = (known_item items text lt).1

  pub with_length : length (with_names_at items text names) ≡ length items
  with_length = ap length (with_is items text (known_item items text lt).0 names item_is) ∙ length-set items text ((known_item items text lt).0.0, names)

  pub with_files : files_of (with_names_at items text names) ≡ files_of items
  with_files = files_stay items text (known_item items text lt).0 names item_is

  pub with_there : slice_get (with_names_at items text names) text ≡ Some ((known_item items text lt).0.0, names)
  with_there = ap (λ xs. slice_get xs text) (with_is items text (known_item items text lt).0 names item_is) ∙ get_same items text ((known_item items text lt).0.0, names) lt

  pub with_other : (other : ℕ) → (other ≡ text → ⊥) → slice_get (with_names_at items text names) other ≡ slice_get items other
  with_other other differs = ap (λ xs. slice_get xs other) (with_is items text (known_item items text lt).0 names item_is) ∙ get_other items text other ((known_item items text lt).0.0, names) differs

  pub names_now : names_at (with_names_at items text names) text ≡ names
  names_now = ap (option_and_then (λ (one : Item). one.1)) with_there

  pub presence_now : presence (with_names_at items text names) text ≡ Some (is_some names)
  presence_now = ap (option_map (λ (one : Item). is_some one.1)) with_there

  pub presence_was : presence items text ≡ Some (is_some (names_at items text))
  presence_was = ap (option_map (λ (one : Item). is_some one.1)) item_is ∙ ap Some (sym (ap is_some (ap (option_and_then (λ (one : Item). one.1)) item_is)))

set_twice : (items : Items) (k : ℕ) (x y : Item) → set (set items k x) k y ≡ set items k y
set_twice [] k x y = refl
set_twice (item ∷ items) zero x y = refl
set_twice (item ∷ items) (suc k) x y = ap (λ rest. item ∷ rest) (set_twice items k x y)

pub with_twice : (items : Items) (text : ℕ) (names : Names) → text < length items → with_names_at (with_names_at items text None) text names ≡ with_names_at items text names
with_twice items text names lt =
    let one = known_item items text lt in
    with_is (with_names_at items text None) text (one.0.0, None) names (with_there items text None lt)
    ∙ ap (λ xs. set xs text (one.0.0, names)) (with_is items text one.0 None one.1)
    ∙ set_twice items text (one.0.0, None) (one.0.0, names)
    ∙ sym (with_is items text one.0 names one.1)

-- ---- walks to what is so

pub reaches_as : (web : Web) (P Q : ℕ → Type 0) → ((text : ℕ) → P text → Q text) → (text : ℕ) → Reaches web P text → Reaches web Q text
reaches_as web P Q all text walk = (walk.0, walk.1, all _ walk.2)

-- ---- an edit

abbrev gone_names : Option ℕ → ℕ → Type 0
gone_names gone other = IsSomeAnd gone (λ text. other ≡ text)

module _ (items : Items) (editing : Editing) (apt : IsEditOf items editing) where
  abbrev text : ℕ
  text = editing.text

  abbrev edited : Items
  edited = items_edited items editing

  without_length : (gone : Option ℕ) → IfSome gone (λ one. one < length items) → length (items_without items gone) ≡ length items
  without_length None lt = refl
  without_length (Some one) lt = with_length items one None lt

  pub still_within : text < length (items_without items editing.gone)
  still_within = let n = without_length editing.gone apt.gone in let lt = apt.text in omega arith

  pub edited_length : length edited ≡ length items
  edited_length = with_length (items_without items editing.gone) text editing.names still_within ∙ without_length editing.gone apt.gone

  without_files : (gone : Option ℕ) → IfSome gone (λ one. one < length items) → files_of (items_without items gone) ≡ files_of items
  without_files None lt = refl
  without_files (Some one) lt = with_files items one None lt

  edited_files : files_of edited ≡ files_of items
  edited_files = with_files (items_without items editing.gone) text editing.names still_within ∙ without_files editing.gone apt.gone

  in_changed : (gone : Option ℕ) (other : ℕ) → Contains (option_map_or (λ one. one ∷ text ∷ []) gone (text ∷ [])) other → (other ≡ text) ⊎ IsSomeAnd gone (λ one. other ≡ one)
  in_changed None other c = ⊎_elim (λ same. inl (sym same)) (λ rest. absurd (none_in other rest)) (first_or other text [] c)
  in_changed (Some one) other c = ⊎_elim (λ same. inr (sym same)) (λ rest. ⊎_elim (λ same. inl (sym same)) (λ none. absurd (none_in other none)) (first_or other text [] rest)) (first_or other one (text ∷ []) c)

  text_changed : (gone : Option ℕ) → Contains (option_map_or (λ one. one ∷ text ∷ []) gone (text ∷ [])) text
  text_changed None = here text []
  text_changed (Some one) = there text one (text ∷ []) (here text [])

  gone_changed : (gone : Option ℕ) (other : ℕ) → IsSomeAnd gone (λ one. other ≡ one) → Contains (option_map_or (λ one. one ∷ text ∷ []) gone (text ∷ [])) other
  gone_changed None other is = absurd is
  gone_changed (Some one) other is = subst (Contains (one ∷ text ∷ [])) (sym is) (here one (text ∷ []))

  without_other : (gone : Option ℕ) → IfSome gone (λ one. one < length items) → (other : ℕ) → (IsSomeAnd gone (λ one. other ≡ one) → ⊥) → slice_get (items_without items gone) other ≡ slice_get items other
  without_other None lt other differs = refl
  without_other (Some one) lt other differs = with_other items one None lt other differs

  edited_other : (other : ℕ) → (other ≡ text → ⊥) → (IsSomeAnd editing.gone (λ one. other ≡ one) → ⊥) → slice_get edited other ≡ slice_get items other
  edited_other other differs apart = with_other (items_without items editing.gone) text editing.names still_within other differs ∙ without_other editing.gone apt.gone other apart

  is_gone_or : (gone : Option ℕ) (other : ℕ) → IsSomeAnd gone (λ one. other ≡ one) ⊎ (IsSomeAnd gone (λ one. other ≡ one) → ⊥)
  is_gone_or None other = inr (λ is. is)
  is_gone_or (Some one) other = same_or_not other one

  -- a text is changed, or its item is as before
  changed_or : (other : ℕ) → (other ≡ text) ⊎ (IsSomeAnd editing.gone (λ one. other ≡ one) ⊎ (slice_get edited other ≡ slice_get items other))
  changed_or other = ⊎_elim inl (λ differs. inr (⊎_elim inl (λ apart. inr (edited_other other differs apart)) (is_gone_or editing.gone other))) (same_or_not other text)

  pub edited_changed : IsChanged items edited (changed_by editing)
  edited_changed = record {
    others = λ other. ⊎_elim (λ same. inl (subst (Contains (changed_by editing)) (sym same) (text_changed editing.gone))) (λ late. ⊎_elim (λ is. inl (gone_changed editing.gone other is)) (λ same. inr (sym same)) late) (changed_or other);
    files = λ other file is. ap (λ files. slice_get files other) edited_files ∙ is;
    numbers = λ file. inl (ap (position (same_file file)) (sym edited_files));
  }

  -- ---- which texts turn

  apart : (gone : Option ℕ) → gone ≢ Some text → IsSomeAnd gone (λ one. text ≡ one) → ⊥
  apart None differ is = is
  apart (Some one) differ is = differ (ap Some (sym is))

  text_was : presence (items_without items editing.gone) text ≡ presence items text
  text_was = ap (option_map (λ (one : Item). is_some one.1)) (without_other editing.gone apt.gone text (apart editing.gone apt.differ))

  pub names_were : names_at (items_without items editing.gone) text ≡ names_at items text
  names_were = ap (option_and_then (λ (one : Item). one.1)) (without_other editing.gone apt.gone text (apart editing.gone apt.differ))

  text_now : presence edited text ≡ Some (is_some editing.names)
  text_now = presence_now (items_without items editing.gone) text editing.names still_within

  text_turned : HasTurned items edited text → is_some (names_at items text) ≢ is_some editing.names
  text_turned turned same = turned (presence_was items text None apt.text ∙ ap Some same ∙ sym text_now)

  turned_text : is_some (names_at items text) ≢ is_some editing.names → HasTurned items edited text
  turned_text differ same = differ (let e = sym (presence_was items text None apt.text) ∙ same ∙ text_now in cc)

  gone_now : (gone : Option ℕ) → IfSome gone (λ one. one < length items) → (other : ℕ) → IsSomeAnd gone (λ one. other ≡ one) → presence (items_without items gone) other ≡ Some false
  gone_now None lt other is = absurd is
  gone_now (Some one) lt other is = ap (presence (with_names_at items one None)) is ∙ presence_now items one None lt

  gone_was : (gone : Option ℕ) → IfSome gone (λ one. one < length items) → (other : ℕ) → IsSomeAnd gone (λ one. other ≡ one) → presence items other ≡ Some (option_map_or (λ one. is_some (names_at items one)) gone false)
  gone_was None lt other is = absurd is
  gone_was (Some one) lt other is = ap (presence items) is ∙ presence_was items one None lt

  gone_apart : (gone : Option ℕ) → gone ≢ Some text → (other : ℕ) → IsSomeAnd gone (λ one. other ≡ one) → other ≡ text → ⊥
  gone_apart None differ other is same = is
  gone_apart (Some one) differ other is same = differ (ap Some (sym is ∙ same))

  went : Bool
  went = option_map_or (λ one. is_some (names_at items one)) editing.gone false

  after_gone : (other : ℕ) → IsSomeAnd editing.gone (λ one. other ≡ one) → presence edited other ≡ Some false
  after_gone other is =
      ap (option_map (λ (one : Item). is_some one.1)) (with_other (items_without items editing.gone) text editing.names still_within other (gone_apart editing.gone apt.differ other is))
      ∙ gone_now editing.gone apt.gone other is

  gone_turned : (other : ℕ) → IsSomeAnd editing.gone (λ one. other ≡ one) → HasTurned items edited other → option_map_or (λ one. is_some (names_at items one)) editing.gone false ≡ true
  gone_turned other is turned =
      ⊎_elim
      (λ yes. yes)
      (λ un. absurd (turned (gone_was editing.gone apt.gone other is ∙ ap Some un ∙ sym (after_gone other is))))
      (cases_Bool (option_map_or (λ one. is_some (names_at items one)) editing.gone false))

  turned_gone : (other : ℕ) → IsSomeAnd editing.gone (λ one. other ≡ one) → option_map_or (λ one. is_some (names_at items one)) editing.gone false ≡ true → HasTurned items edited other
  turned_gone other is left same =
      true≢false (let e = ap Some (sym left) ∙ sym (gone_was editing.gone apt.gone other is) ∙ same ∙ after_gone other is in cc)

  -- ---- what is marked is touched

  module _ (turned left : Bool) (turned_is : (turned ≡ true → is_some (names_at items text) ≢ is_some editing.names) × (is_some (names_at items text) ≢ is_some editing.names → turned ≡ true)) (left_is : left ≡ option_map_or (λ one. is_some (names_at items one)) editing.gone false) (none first marked : Marked) (unmarked : (other : ℕ) → IsMarked none other → ⊥) where
    module _ (here_marked : IsMarked first text) (here_namers : turned ≡ true → (user : ℕ) → NamesText edited user text → IsMarked first user) (here_only : (other : ℕ) → IsMarked first other → IsMarked none other ⊎ ((other ≡ text) ⊎ (turned ≡ true) × NamesText edited other text)) (kept : (other : ℕ) → IsMarked first other → IsMarked marked other) (gone_marked : (other : ℕ) → IsSomeAnd editing.gone (λ one. other ≡ one) → IsMarked marked other) (gone_namers : left ≡ true → (one user : ℕ) → IsSomeAnd editing.gone (λ other. one ≡ other) → NamesText edited user one → IsMarked marked user) (gone_only : (other : ℕ) → IsMarked marked other → IsMarked first other ⊎ (IsSomeAnd editing.gone (λ one. other ≡ one) ⊎ ((left ≡ true) × ((one : ℕ) × IsSomeAnd editing.gone (λ other. one ≡ other) × NamesText edited other one)))) where
      marked_touched : (other : ℕ) → IsMarked marked other → IsTouched items edited (changed_by editing) edited other
      marked_touched other m =
          ⊎_elim
          (λ f. ⊎_elim
          (λ n. absurd (unmarked other n))
          (λ late. ⊎_elim (λ same. inl (subst (Contains (changed_by editing)) (sym same) (text_changed editing.gone))) (λ both. inr (text, turned_text (turned_is.0 both.0), both.1)) late)
          (here_only other f))
          (λ late. ⊎_elim (λ is. inl (gone_changed editing.gone other is)) (λ both. inr (both.1.0, turned_gone both.1.0 both.1.1 (sym left_is ∙ both.0), both.1.2)) late)
          (gone_only other m)

      touched_marked : (other : ℕ) → IsTouched items edited (changed_by editing) edited other → IsMarked marked other
      touched_marked other (inl c) = ⊎_elim (λ same. subst (IsMarked marked) (sym same) (kept text here_marked)) (gone_marked other) (in_changed editing.gone other c)
      touched_marked other (inr (one, has_turned, names)) =
          ⊎_elim
          (λ same.
          let t = subst (HasTurned items edited) same has_turned in
          kept other (here_namers (turned_is.1 (text_turned t)) other (subst (NamesText edited other) same names)))
          (λ late. ⊎_elim
          (λ is. gone_namers (left_is ∙ gone_turned one is has_turned) one other is names)
          (λ same. absurd (has_turned (sym (ap (option_map (λ (item : Item). is_some item.1)) same))))
          late)
          (changed_or one)

      module _ (equality : IsFileEquality) (all : Marked) (up : (other : ℕ) → (IsMarked all other → Reaches (web_of edited) (IsMarked marked) other) × (Reaches (web_of edited) (IsMarked marked) other → IsMarked all other)) where
        pub dirt_marked : (other : ℕ) → (IsMarked all other → IsDirty items edited (changed_by editing) other) × (IsDirty items edited (changed_by editing) other → IsMarked all other)
        dirt_marked other =
            let one = dirt_is_one equality items edited (changed_by editing) other edited_changed in (
              λ m. one.1 (reaches_as (web_of edited) (IsMarked marked) (IsTouched items edited (changed_by editing) edited) marked_touched other ((up other).0 m)),
              λ dirty. (up other).1 (reaches_as (web_of edited) (IsTouched items edited (changed_by editing) edited) (IsMarked marked) touched_marked other (one.0 dirty)),
            )

        pub others_right : (cap : ℕ) (heights : List ℕ) → AreRight (web_of items) cap heights → (other : ℕ) → IsMarked all other ⊎ (height_in heights other ≡ height (web_of edited) cap other)
        others_right cap heights right other =
            ⊎_elim
            inl
            (λ un. inr (right other ∙ (others_stay equality items edited (changed_by editing) other edited_changed (λ dirty. true≢false (sym ((dirt_marked other).1 dirty) ∙ un))).heights cap))
            (cases_Bool (get_or all.marks other false))

pub edited_items : (items : Items) (editing : Editing) → IsEditOf items editing → (one two three : Items) → one ≡ items_without items editing.gone → two ≡ with_names_at one editing.text None → three ≡ with_names_at two editing.text editing.names → three ≡ items_edited items editing
edited_items items editing apt one two three first second third =
    third ∙ ap (λ xs. with_names_at xs editing.text editing.names) (second ∙ ap (λ xs. with_names_at xs editing.text None) first)
    ∙ with_twice (items_without items editing.gone) editing.text editing.names (still_within items editing apt)

-- ---- the other text, where there is one

module _ (gone : Option TextId) where
  abbrev number : Option ℕ
  number = option_map (λ (id : TextId). id.0) gone

  pub gone_marks : (P : ℕ → Type 0) → IfSome gone (λ id. P id.0) → (other : ℕ) → IsSomeAnd (option_map (λ (id : TextId). id.0) gone) (λ one. other ≡ one) → P other
  gone_marks P is other same = at gone is same
    where
      at : (one : Option TextId) → IfSome one (λ id. P id.0) → IsSomeAnd (option_map (λ (id : TextId). id.0) one) (λ x. other ≡ x) → P other
      at None is same = absurd same
      at (Some id) is same = subst P (sym same) is

  pub gone_or : (other : ℕ) (left : Bool) (Q : ℕ → Type 0) → IsSomeAnd gone (λ id. (other ≡ id.0) ⊎ (left ≡ true) × Q id.0) → IsSomeAnd (option_map (λ (id : TextId). id.0) gone) (λ one. other ≡ one) ⊎ ((left ≡ true) × ((one : ℕ) × IsSomeAnd (option_map (λ (id : TextId). id.0) gone) (λ x. one ≡ x) × Q one))
  gone_or other left Q is = at gone is
    where
      at : (one : Option TextId) → IsSomeAnd one (λ id. (other ≡ id.0) ⊎ (left ≡ true) × Q id.0) → IsSomeAnd (option_map (λ (id : TextId). id.0) one) (λ x. other ≡ x) ⊎ ((left ≡ true) × ((x : ℕ) × IsSomeAnd (option_map (λ (id : TextId). id.0) one) (λ y. x ≡ y) × Q x))
      at None is = absurd is
      at (Some id) is = ⊎_elim inl (λ both. inr (both.0, (id.0, refl, both.1))) is

  pub went_is : (f : ℕ → Bool) → option_map_or (λ (id : TextId). f id.0) gone false ≡ option_map_or f (option_map (λ (id : TextId). id.0) gone) false
  went_is f = at gone
    where
      at : (one : Option TextId) → option_map_or (λ (id : TextId). f id.0) one false ≡ option_map_or f (option_map (λ (id : TextId). id.0) one) false
      at None = refl
      at (Some id) = refl

-- whether there are names is the same in a view
pub turned_view : {A B : Type 0} (f : A → B) (names : Option A) (turned was : Bool) → (turned ≡ true → was ≢ is_some names) × (was ≢ is_some names → turned ≡ true) → (turned ≡ true → was ≢ is_some (option_map f names)) × (was ≢ is_some (option_map f names) → turned ≡ true)
turned_view f names turned was is = subst (λ some. (turned ≡ true → was ≢ some) × (was ≢ some → turned ≡ true)) (sym (some_same f names)) is
