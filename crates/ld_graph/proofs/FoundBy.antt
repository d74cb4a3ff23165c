-- What a list of names finds, and by which name; what a map makes, and of what.
use Rattle.std.proofs.Common.{◌≡◌, ◌<◌, ◌+◌, ◌++◌, ℕ, zero, suc, max, take, Bool, true, false, List, [], ◌∷◌, Option, Some, None, map, length, get_or, refl, sym, ap, ◌∙◌, subst, arith}
use Rattle.std.specs.List.{Contains, cons_option, filter_map, slice_get}
use Rattle.std.specs.Option.{option_map, option_map_or, unwrap_or}
use Rattle.std.proofs.lemmas.List.{take_more}
use Rattle.std.proofs.lemmas.List.Elements.{filter_map-append}
use Rattle.std.proofs.lemmas.Option.{slice_get-map, unwrap_or-slice_get}
use Rattle.ld_names.specs.declared.file.Folder.{Folder}
use Rattle.ld_graph.specs.Items.{Items, file_at, first_present, found_by, here_or, present_or, web_of}
use Rattle.ld_graph.specs.Web.{children_of, tallest}
use Rattle.ld_graph.proofs.Listed.{here, there}

-- ---- the tallest of what is found

tallest_option : (f : ℕ → ℕ) (xs : List ℕ) (x : Option ℕ) → tallest f (xs ++ cons_option x []) ≡ max (option_map_or f x 0) (tallest f xs)
tallest_option f [] None = omega arith
tallest_option f [] (Some x) = omega arith
tallest_option f (y ∷ xs) x = let rest = tallest_option f xs x in omega arith

pub tallest-found_more : (f : ℕ → ℕ) (g : ℕ → Option ℕ) (xs : List ℕ) (i : ℕ) → i < length xs → tallest f (filter_map g (take (i + 1) xs)) ≡ max (option_map_or f (g (get_or xs i 0)) 0) (tallest f (filter_map g (take i xs)))
tallest-found_more f g xs i lt =
    ap (λ ys. tallest f (filter_map g ys)) (take_more xs i 0 lt)
    ∙ ap (tallest f) (filter_map-append g (take i xs) (get_or xs i 0 ∷ []))
    ∙ tallest_option f (filter_map g (take i xs)) (g (get_or xs i 0))

-- ---- what is found, and by what

found_in : {X Y : Type 0} (g : X → Option Y) (xs : List X) (x : X) (y : Y) (k : ℕ) → k < length xs → get_or xs k x ≡ x → g x ≡ Some y → Contains (filter_map g xs) y
found_in g [] x y k lt at is = absurd (omega arith)
found_in g (first ∷ xs) x y zero lt at is = subst (λ o. Contains (cons_option o (filter_map g xs)) y) (sym (ap g at ∙ is)) (here y (filter_map g xs))
found_in {Y} g (first ∷ xs) x y (suc k) lt at is = behind (g first) (found_in g xs x y k (omega arith) at is)
  where
    behind : (o : Option Y) → Contains (filter_map g xs) y → Contains (cons_option o (filter_map g xs)) y
    behind None c = c
    behind (Some z) c = there y z (filter_map g xs) c

pub contains_found : {X Y : Type 0} (g : X → Option Y) (xs : List X) (x : X) (y : Y) → Contains xs x → g x ≡ Some y → Contains (filter_map g xs) y
contains_found g xs x y c is = found_in g xs x y c.0 c.1 c.2 is

abbrev pub IsFoundBy : {X Y : Type 0} → (X → Option Y) → List X → Y → Type 0
IsFoundBy {X} g xs y = (x : X) × Contains xs x × (g x ≡ Some y)

pub found_by_some : {X Y : Type 0} (g : X → Option Y) (xs : List X) (y : Y) → Contains (filter_map g xs) y → IsFoundBy g xs y
found_by_some g [] y c = absurd (omega (arith, c.1))
found_by_some {X} {Y} g (first ∷ xs) y c = of (g first) refl (λ d. let some = found_by_some g xs y d in (some.0, there some.0 first xs some.1, some.2)) c
  where
    at : (z : Y) → g first ≡ Some z → (Contains (filter_map g xs) y → IsFoundBy g (first ∷ xs) y) → (k : ℕ) → k < length (z ∷ filter_map g xs) → get_or (z ∷ filter_map g xs) k y ≡ y → IsFoundBy g (first ∷ xs) y
    at z is later zero lt e = (first, here first xs, is ∙ ap Some e)
    at z is later (suc k) lt e = later (k, omega arith, e)

    of : (o : Option Y) → g first ≡ o → (Contains (filter_map g xs) y → IsFoundBy g (first ∷ xs) y) → Contains (cons_option o (filter_map g xs)) y → IsFoundBy g (first ∷ xs) y
    of None is later d = later d
    of (Some z) is later d = at z is later d.0 d.1 d.2

-- ---- the present text of one of the numbers

pub number_of_found : (numbers : Folder → Option ℕ) (present : ℕ → Option Bool) (folders : List Folder) (text : ℕ) → first_present numbers present folders ≡ Some text → (folder : Folder) × (numbers folder ≡ Some text)
number_of_found numbers present [] text is = cc
number_of_found numbers present (folder ∷ folders) text is = of_number (numbers folder) refl (number_of_found numbers present folders text) is
  where
    of_presence : (one : ℕ) → numbers folder ≡ Some one → (now : Option Bool) → (first_present numbers present folders ≡ Some text → (at : Folder) × (numbers at ≡ Some text)) → present_or one now (first_present numbers present folders) ≡ Some text → (at : Folder) × (numbers at ≡ Some text)
    of_presence one known None later e = cc
    of_presence one known (Some false) later e = later e
    of_presence one known (Some true) later e = (folder, known ∙ e)

    of_number : (number : Option ℕ) → numbers folder ≡ number → (first_present numbers present folders ≡ Some text → (at : Folder) × (numbers at ≡ Some text)) → here_or number present (first_present numbers present folders) ≡ Some text → (at : Folder) × (numbers at ≡ Some text)
    of_number None known later e = cc
    of_number (Some one) known later e = of_presence one known (present one) later e

-- ---- what a map makes

pub contains_map : {X Y : Type 0} (f : X → Y) (xs : List X) (x : X) (k : ℕ) → k < length xs → get_or xs k x ≡ x → Contains (map f xs) (f x)
contains_map f [] x k lt is = absurd (omega arith)
contains_map f (first ∷ xs) x zero lt is = subst (λ y. Contains (f first ∷ map f xs) (f y)) is (here (f first) (map f xs))
contains_map f (first ∷ xs) x (suc k) lt is = there (f x) (f first) (map f xs) (contains_map f xs x k (omega arith) is)

abbrev pub IsMade : {X Y : Type 0} → (X → Y) → List X → Y → Type 0
IsMade {X} f xs y = (x : X) × Contains xs x × (f x ≡ y)

pub made_by : {X Y : Type 0} (f : X → Y) (xs : List X) (y : Y) (k : ℕ) → k < length (map f xs) → get_or (map f xs) k y ≡ y → IsMade f xs y
made_by f [] y k lt is = absurd (omega arith)
made_by f (first ∷ xs) y zero lt is = (first, here first xs, is)
made_by f (first ∷ xs) y (suc k) lt is = let rest = made_by f xs y k (omega arith) is in (rest.0, there rest.0 first xs rest.1, rest.2)

-- ---- items

pub children_is : (items : Items) (text : ℕ) → children_of (web_of items) text ≡ unwrap_or (option_map (found_by items) (slice_get items text)) None
children_is items text = sym (unwrap_or-slice_get (web_of items) text None) ∙ ap (λ one. unwrap_or one None) (slice_get-map (found_by items) items text)

pub file_is : (items : Items) (text : ℕ) → file_at items text ≡ option_map (λ item. item.0) (slice_get items text)
file_is items text = slice_get-map (λ item. item.0) items text
