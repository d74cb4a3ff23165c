-- What a learnt file changes: its own text, and what its name finds.
use Rattle.std.proofs.Common.{◌≡◌, ◌≢◌, ◌≤◌, ◌++◌, ◌⊎◌, ℕ, zero, suc, min, List, [], ◌∷◌, Option, Some, None, length, set, true, false, cond, inl, inr, ⊎_elim, refl, sym, ap, ap₂, ◌∙◌, subst, arith, Bool, true≢false}
use Rattle.std.proofs.lemmas.Bool.{and_parts}
use Rattle.std.proofs.lemmas.List.{map-append}
use Rattle.std.proofs.lemmas.Slice.Eq.{bytes_eq-Decides}
use Rattle.std.specs.Prelude.{bytes_eq}
use Rattle.std.specs.List.{Contains, position, slice_get}
use Rattle.std.specs.Option.{option_and_then, option_map, option_map_or, option_or, unwrap_or}
use Rattle.ld_names.specs.Finding.{IsFileEquality}
use Rattle.ld_names.specs.Standing.{file_in, folders_of, same_file, same_folder}
use Rattle.ld_names.specs.declared.file.FileId.{FileId}
use Rattle.ld_names.specs.declared.file.Folder.{Folder}
use Rattle.ld_graph.specs.Changing.{IsMore}
use Rattle.ld_graph.specs.Items.{Item, Items, Names, file_at, files_of, first_present, found, found_by, here_or, number_of, numbers_of, presence, present_or, web_of, with_names_at}
use Rattle.ld_graph.specs.Web.{Refers, children_of, height}
use Rattle.ld_graph.specs.Inside.Linking.{RefersByName, Uses}
use Rattle.ld_graph.specs.Inside.Marking.{Marked}
use Rattle.ld_graph.specs.Inside.Rising.{AreBelow, AreRight, HasFloor, IsSettled, height_in}
use Rattle.ld_graph.proofs.Added.{position-push}
use Rattle.ld_graph.proofs.FoundBy.{children_is, file_is}
use Rattle.ld_graph.proofs.Heights.{heights_are}
use Rattle.ld_graph.proofs.More.{heights_rise, same_presence}
use Rattle.ld_graph.proofs.Referring.{FindsBy, by_file, finds_by, refers_by}
use Rattle.ld_graph.proofs.Rising.{floor_over, right_settled}
use Rattle.ld_graph.proofs.Users.{same_or_not}

-- ---- one more at the end

get-front : {X : Type 0} (xs : List X) (x y : X) (k : ℕ) → slice_get xs k ≡ Some y → slice_get (xs ++ x ∷ []) k ≡ Some y
get-front [] x y k is = cc
get-front (first ∷ xs) x y zero is = is
get-front (first ∷ xs) x y (suc k) is = get-front xs x y k is

get-last : {X : Type 0} (xs : List X) (x : X) → slice_get (xs ++ x ∷ []) (length xs) ≡ Some x
get-last [] x = refl
get-last (first ∷ xs) x = get-last xs x

get-else : {X : Type 0} (xs : List X) (x : X) (k : ℕ) → (k ≡ length xs → ⊥) → slice_get (xs ++ x ∷ []) k ≡ slice_get xs k
get-else [] x zero differs = absurd (differs refl)
get-else [] x (suc k) differs = refl
get-else (first ∷ xs) x zero differs = refl
get-else (first ∷ xs) x (suc k) differs = get-else xs x k (λ e. differs (ap suc e))

pub height-more : (heights : List ℕ) (text : ℕ) → height_in (heights ++ 0 ∷ []) text ≡ height_in heights text
height-more [] zero = refl
height-more [] (suc text) = refl
height-more (height ∷ heights) zero = refl
height-more (height ∷ heights) (suc text) = height-more heights text

set-last : (items : Items) (x y : Item) → set (items ++ x ∷ []) (length items) y ≡ items ++ y ∷ []
set-last [] x y = refl
set-last (first ∷ items) x y = ap (λ rest. first ∷ rest) (set-last items x y)

pub named-last : (items : Items) (file : FileId) (names : Names) → with_names_at (items ++ (file, None) ∷ []) (length items) names ≡ items ++ (file, names) ∷ []
named-last items file names =
    ap (λ one. option_map_or (λ (one : Item). set (items ++ (file, None) ∷ []) (length items) (one.0, names)) one (items ++ (file, None) ∷ [])) (get-last items (file, None)) ∙ set-last items (file, None) (file, names)

found-alike : (numbers others : Folder → Option ℕ) (present seen : ℕ → Option Bool) → ((folder : Folder) → numbers folder ≡ others folder) → ((folder : Folder) (text : ℕ) → numbers folder ≡ Some text → present text ≡ seen text) → (folders : List Folder) → first_present numbers present folders ≡ first_present others seen folders
found-alike numbers others present seen n p [] = refl
found-alike numbers others present seen n p (folder ∷ folders) =
    at (numbers folder) refl ∙ ap₂ (λ number later. here_or number seen later) (n folder) (found-alike numbers others present seen n p folders)
  where
    at : (number : Option ℕ) → numbers folder ≡ number → here_or number present (first_present numbers present folders) ≡ here_or number seen (first_present numbers present folders)
    at None is = refl
    at (Some text) is = ap (λ now. present_or text now (first_present numbers present folders)) (p folder text is)

module _ (equality : IsFileEquality) (items : Items) (file : FileId) (names : Names) (unknown : number_of items file ≡ None) where
  abbrev after : Items
  after = items ++ (file, names) ∷ []

  abbrev text : ℕ
  text = length items

  number_after : (other : FileId) → number_of after other ≡ option_or (number_of items other) (cond (same_file other file) (Some (length (files_of items))) None)
  number_after other = ap (position (same_file other)) (map-append (λ (item : Item). item.0) items ((file, names) ∷ [])) ∙ position-push (same_file other) (files_of items) file

  pub more : IsMore items after
  more = record {
    items = λ other item is. get-front items (file, names) item other is;
    kept = λ other number is. number_after other ∙ ap (λ first. option_or first (cond (same_file other file) (Some (length (files_of items))) None)) is;
  }

  item_else : (other : ℕ) → (other ≡ text → ⊥) → slice_get after other ≡ slice_get items other
  item_else other differs = get-else items (file, names) other differs

  -- another name finds what it found
  not_its : (other : FileId) → (other.name ≡ file.name → ⊥) → same_file other file ≡ false
  unfolding same_file
  not_its other differs = by (same_file other file) refl
    where
      by : (b : Bool) → same_file other file ≡ b → b ≡ false
      by true is = absurd (differs ((bytes_eq-Decides other.name file.name).0 (and_parts (same_folder other.folder file.folder) (bytes_eq other.name file.name) is).1))
      by false is = refl

  number_else : (other : FileId) → (other.name ≡ file.name → ⊥) → number_of items other ≡ number_of after other
  number_else other differs = sym (number_after other ∙ ap (λ b. option_or (number_of items other) (cond b (Some (length (files_of items))) None)) (not_its other differs) ∙ by (number_of items other))
    where
      by : (number : Option ℕ) → option_or number None ≡ number
      by None = refl
      by (Some n) = refl

  found_else : (from : Folder) (name : List ℕ) → (name ≡ file.name → ⊥) → found items from name ≡ found after from name
  found_else from name differs =
      found-alike (numbers_of items name) (numbers_of after name) (presence items) (presence after) (λ folder. number_else (file_in folder name) differs) (λ folder other is. same_presence equality items after more (file_in folder name) other is) (folders_of from)

  file_here : file_at after text ≡ Some file
  file_here = file_is after text ∙ ap (option_map (λ (item : Item). item.0)) (get-last items (file, names))

  file_else : (other : ℕ) → (other ≡ text → ⊥) → file_at after other ≡ file_at items other
  file_else other differs = file_is after other ∙ ap (option_map (λ (item : Item). item.0)) (item_else other differs) ∙ sym (file_is items other)

  uses_else : (other : ℕ) (name : List ℕ) → (other ≡ text → ⊥) → Uses after other name → Uses items other name
  uses_else other name differs uses = subst (λ item. Contains (unwrap_or (option_and_then (λ (one : Item). one.1) item) []) name) (item_else other differs) uses

  same_name_or_not : (name : List ℕ) → (name ≡ file.name) ⊎ (name ≡ file.name → ⊥)
  same_name_or_not name = by (bytes_eq name file.name) refl
    where
      by : (b : Bool) → bytes_eq name file.name ≡ b → (name ≡ file.name) ⊎ (name ≡ file.name → ⊥)
      by true is = inl ((bytes_eq-Decides name file.name).0 is)
      by false is = inr (λ same. true≢false (sym ((bytes_eq-Decides name file.name).1 same) ∙ is))

  module _ (cap : ℕ) (heights : List ℕ) (right : AreRight (web_of items) cap heights) where
    abbrev longer : List ℕ
    longer = heights ++ 0 ∷ []

    right_longer : (other : ℕ) → height_in longer other ≡ height (web_of items) cap other
    right_longer other = height-more heights other ∙ right other

    pub learnt_below : AreBelow (web_of after) cap longer
    learnt_below other = subst (λ h. h ≤ height (web_of after) cap other) (sym (right_longer other)) (heights_rise equality items after cap other more)

    pub learnt_floors : (other : ℕ) → (other ≡ text) ⊎ HasFloor (web_of after) cap longer other
    learnt_floors other =
        ⊎_elim inl
        (λ differs. inr (λ known.
        let some : children_of (web_of items) other ≢ None = λ none. known (children_is after other ∙ ap (λ item. unwrap_or (option_map (found_by after) item) None) (item_else other differs) ∙ by (slice_get items other) (sym (children_is items other) ∙ none)) in
        subst (λ h. min cap 1 ≤ h) (sym (right_longer other)) (floor_over (web_of items) cap (height (web_of items) cap other) (height (web_of items) cap) other (subst (λ h. h ≤ height (web_of items) cap other) (heights_are (web_of items) cap other) (omega arith)) some)))
        (same_or_not other text)
      where
        by : (item : Option Item) → unwrap_or (option_map (found_by items) item) None ≡ None → unwrap_or (option_map (found_by after) item) None ≡ None
        by None is = refl
        by (Some (from, None)) is = refl
        by (Some (from, Some own)) is = cc

    pub learnt_settled : (marked : Marked) (other child : ℕ) → Refers (web_of after) other child → (other ≡ text) ⊎ (RefersByName after other child text ⊎ IsSettled cap longer marked other child)
    learnt_settled marked other child refers =
        ⊎_elim inl
        (λ differs. inr (
        let by = finds_by after other child refers in
        let its = by.1 in
        ⊎_elim
        (λ same. inl (record {
          file = file;
          file_is = file_here;
          uses = subst (Uses after other) same its.uses;
          finds = by_file after other text its.from file file_here its.from_is ∙ ap (found after its.from.folder) (sym same) ∙ its.finds;
        }))
        (λ another.
        let before : FindsBy items other child by.0 = record { from = its.from; from_is = sym (file_else other differs) ∙ its.from_is; uses = uses_else other by.0 differs its.uses; finds = found_else its.from.folder by.0 another ∙ its.finds } in
        inr (inr (right_settled (web_of items) cap (height_in longer) other child right_longer (refers_by items other child by.0 before))))
        (same_name_or_not by.0)))
        (same_or_not other text)

pub learnt_items : (items added after : Items) (file : FileId) (names : Names) (text : ℕ) → text ≡ length items → added ≡ items ++ (file, None) ∷ [] → after ≡ with_names_at added text names → after ≡ items ++ (file, names) ∷ []
learnt_items items added after file names text at adds gives = gives ∙ ap₂ (λ all place. with_names_at all place names) adds at ∙ named-last items file names

-- what raising wants of the heights after a file was learnt
pub record CanRaise (items : Items) (cap : ℕ) (heights : List ℕ) (text : ℕ) (marked : Marked) : Type 0 where
  pub below : AreBelow (web_of items) cap heights
  pub floors : (other : ℕ) → (other ≡ text) ⊎ HasFloor (web_of items) cap heights other
  pub settled : (other child : ℕ) → Refers (web_of items) other child → (other ≡ text) ⊎ (RefersByName items other child text ⊎ IsSettled cap heights marked other child)

pub can_raise : IsFileEquality → (old : Items) (file : FileId) (names : Names) → number_of old file ≡ None → (depth cap : ℕ) (heights longer : List ℕ) → AreRight (web_of old) (suc depth) heights → (items : Items) (text : ℕ) (marked : Marked) → items ≡ old ++ (file, names) ∷ [] → longer ≡ heights ++ 0 ∷ [] → cap ≡ suc depth → text ≡ length old → CanRaise items cap longer text marked
can_raise equality old file names unknown depth cap heights longer right items text marked gives more top place =
    subst (λ items. CanRaise items cap longer text marked) (sym gives) (subst (λ longer. CanRaise all cap longer text marked) (sym more) (subst (λ cap. CanRaise all cap (heights ++ 0 ∷ []) text marked) (sym top) (subst (λ text. CanRaise all (suc depth) (heights ++ 0 ∷ []) text marked) (sym place) (record {
      below = learnt_below equality old file names unknown (suc depth) heights right;
      floors = learnt_floors equality old file names unknown (suc depth) heights right;
      settled = learnt_settled equality old file names unknown (suc depth) heights right marked;
    }))))
  where
    all : Items
    all = old ++ (file, names) ∷ []
