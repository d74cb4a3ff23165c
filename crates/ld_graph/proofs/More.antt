-- No height falls where more is known.
use Rattle.std.proofs.Common.{◌≡◌, ◌<◌, ◌≤◌, ℕ, zero, suc, Bool, true, false, List, [], ◌∷◌, Option, Some, None, length, get_or, refl, sym, ap, ◌∙◌, subst, arith}
use Rattle.std.specs.List.{Contains, filter_map, slice_get}
use Rattle.std.specs.Option.{is_some, option_map, unwrap_or}
use Rattle.ld_names.specs.Finding.{IsFileEquality}
use Rattle.ld_names.specs.Standing.{folders_of}
use Rattle.ld_names.specs.declared.file.FileId.{FileId}
use Rattle.ld_names.specs.declared.file.Folder.{Folder}
use Rattle.ld_graph.specs.Changing.{IsMore}
use Rattle.ld_graph.specs.Items.{Item, Items, first_present, found, found_by, here_or, number_of, presence, present_or, web_of}
use Rattle.ld_graph.specs.Laws.{HeightsRise}
use Rattle.ld_graph.specs.Web.{children_of, height, over_children, tallest}
use Rattle.ld_graph.proofs.Dirt.{file_of_number}
use Rattle.ld_graph.proofs.FoundBy.{children_is, contains_found, file_is, found_by_some}
use Rattle.ld_graph.proofs.Listed.{here, there}

pub tallest_at : (f : ℕ → ℕ) (xs : List ℕ) (x k : ℕ) → k < length xs → get_or xs k x ≡ x → f x ≤ tallest f xs
tallest_at f [] x k lt e = absurd (omega arith)
tallest_at f (y ∷ xs) x zero lt e = let same : f y ≡ f x = ap f e in omega arith
tallest_at f (y ∷ xs) x (suc k) lt e = let rest = tallest_at f xs x k (omega arith) e in omega arith

tallest_sub : (f g : ℕ → ℕ) (xs ys : List ℕ) → ((x : ℕ) → Contains xs x → Contains ys x) → ((x : ℕ) → f x ≤ g x) → tallest f xs ≤ tallest g ys
tallest_sub f g [] ys sub le = omega arith
tallest_sub f g (x ∷ xs) ys sub le =
    let c = sub x (here x xs) in
    let first = tallest_at g ys x c.0 c.1 c.2 in
    let h : f x ≤ g x = le x in
    let rest = tallest_sub f g xs ys (λ y d. sub y (there y x xs d)) le in omega arith

module _ (equality : IsFileEquality) where
  pub same_presence : (before after : Items) → IsMore before after → (file : FileId) (text : ℕ) → number_of before file ≡ Some text → presence before text ≡ presence after text
  same_presence before after more file text is = at (slice_get before text) refl (sym (file_is before text) ∙ file_of_number equality before file text is)
    where
      at : (item : Option Item) → slice_get before text ≡ item → option_map (λ (x : Item). x.0) item ≡ Some file → presence before text ≡ presence after text
      at None known e = cc
      at (Some item) known e = ap (option_map (λ (x : Item). is_some x.1)) (known ∙ sym (more.items text item known))

  step_present : (one : ℕ) (now : Option Bool) (later other : Option ℕ) (x : ℕ) → (later ≡ Some x → other ≡ Some x) → present_or one now later ≡ Some x → present_or one now other ≡ Some x
  step_present one None later other x h e = e
  step_present one (Some false) later other x h e = h e
  step_present one (Some true) later other x h e = e

  step_number : (before after : Items) → IsMore before after → (file : FileId) (later other : Option ℕ) (x : ℕ) (number : Option ℕ) → number_of before file ≡ number → (later ≡ Some x → other ≡ Some x) → here_or number (presence before) later ≡ Some x → here_or (number_of after file) (presence after) other ≡ Some x
  step_number before after more file later other x None is h e = cc
  step_number before after more file later other x (Some one) is h e =
      let same = same_presence before after more file one is in
      ap (λ n. here_or n (presence after) other) (more.kept file one is)
      ∙ ap (λ now. present_or one now other) (sym same)
      ∙ step_present one (presence before one) later other x h e

  first_grows : (before after : Items) → IsMore before after → (name : List ℕ) (folders : List Folder) (x : ℕ) → first_present (λ folder. number_of before (record { folder = folder; name = name })) (presence before) folders ≡ Some x → first_present (λ folder. number_of after (record { folder = folder; name = name })) (presence after) folders ≡ Some x
  first_grows before after more name [] x e = cc
  first_grows before after more name (folder ∷ folders) x e =
      let file : FileId = record { folder = folder; name = name } in
      let one = first_present (λ at. number_of before (record { folder = at; name = name })) (presence before) folders in
      let other = first_present (λ at. number_of after (record { folder = at; name = name })) (presence after) folders in
      step_number before after more file one other x (number_of before file) refl (first_grows before after more name folders x) e

  children_grow : (before after : Items) → IsMore before after → (f g : ℕ → ℕ) (text : ℕ) → ((x : ℕ) → f x ≤ g x) → (item : Option Item) → slice_get before text ≡ item → over_children f (unwrap_or (option_map (found_by before) item) None) ≤ over_children g (children_of (web_of after) text)
  children_grow before after more f g text le None is = omega arith
  children_grow before after more f g text le (Some (from, None)) is = omega arith
  children_grow before after more f g text le (Some (from, Some names)) is =
      let later = more.items text (from, Some names) is in
      let same : children_of (web_of after) text ≡ Some (filter_map (found after from.folder) names) = children_is after text ∙ ap (λ item. unwrap_or (option_map (found_by after) item) None) later in
      let most = tallest_sub f g (filter_map (found before from.folder) names) (filter_map (found after from.folder) names)
      (λ x c. let by = found_by_some (found before from.folder) names x c in contains_found (found after from.folder) names by.0 x by.1 (first_grows before after more by.0 (folders_of from.folder) x by.2)) le in
      rw same (omega arith)

  pub heights_rise : HeightsRise
  unfolding height
  heights_rise before after zero text more = omega arith
  heights_rise before after (suc b) text more =
      subst (λ one. over_children (height (web_of before) b) one ≤ over_children (height (web_of after) b) (children_of (web_of after) text)) (sym (children_is before text))
      (children_grow before after more (height (web_of before) b) (height (web_of after) b) text (λ x. heights_rise before after b x more) (slice_get before text) refl)
