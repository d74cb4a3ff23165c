-- Texts that grow by one item's text after another.
use Rattle.std.proofs.Common.{◌≡◌, ℕ, ◌+◌, ◌<◌, ◌≤◌, List, [], ◌∷◌, ◌++◌, ap, append-nil, append_assoc, get_or, length, sym, take, ◌∙◌}
use Rattle.std.specs.List.{flat_map}
use Rattle.std.proofs.lemmas.List.{get_or_default, take_all, take_more}
use Rattle.std.proofs.lemmas.List.Concat.{flat_map-append}

-- behind one item more
pub more : {A : Type 0} (text : A → List ℕ) (items : List A) (i : ℕ) (item : A) (start before now : List ℕ)
    → i < length items → item ≡ get_or items i item → before ≡ start ++ flat_map text (take i items) → now ≡ before ++ text item → now ≡ start ++ flat_map text (take (i + 1) items)
more text items i item start before now below is so grown =
    let one : take (i + 1) items ≡ take i items ++ item ∷ [] = take_more items i item below ∙ ap (λ next. take i items ++ next ∷ []) (sym is) in
    let last : flat_map text (take i items) ++ text item ≡ flat_map text (take (i + 1) items) = ap (λ list. flat_map text (take i items) ++ list) (sym (append-nil (text item))) ∙ sym (flat_map-append text (take i items) (item ∷ [])) ∙ ap (flat_map text) (sym one) in
    grown ∙ ap (λ list. list ++ text item) so ∙ append_assoc start (flat_map text (take i items)) (text item) ∙ ap (λ list. start ++ list) last

-- behind one item more, that is read at its place
pub more_at : {A : Type 0} (text : A → List ℕ) (items : List A) (i : ℕ) (none : A) (start before now : List ℕ)
    → i < length items → before ≡ start ++ flat_map text (take i items) → now ≡ before ++ text (get_or items i none) → now ≡ start ++ flat_map text (take (i + 1) items)
more_at text items i none start before now below so grown =
    more text items i (get_or items i none) start before now below (get_or_default items i none (get_or items i none) below) so grown

-- behind all items
pub all : {A : Type 0} (text : A → List ℕ) (items : List A) (i : ℕ) (start now : List ℕ)
    → length items ≤ i → now ≡ start ++ flat_map text (take i items) → now ≡ start ++ flat_map text items
all text items i start now past so = so ∙ ap (λ taken. start ++ flat_map text taken) (take_all i items past)
