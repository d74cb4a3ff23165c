-- Lists of fewer than two words.
use Rattle.std.proofs.Common.{◌≡◌, ◌<◌, ◌==◌, false, refl, arith, List, [], ◌∷◌, map, length, is_some}
use Rattle.ld_words.specs.Words.{Word, are_options, intent_of}

pub no_command : {X : Type 0} (f : X → Word) (words : List X) → length words < 2 → false ≡ is_some (intent_of (map f words))
unfolding intent_of
no_command f [] short = refl
no_command f (x ∷ []) short = refl
no_command f (x ∷ y ∷ words) short = absurd (omega arith)

pub all_read : {X : Type 0} (f : X → Word) (words : List X) → length words < 2 → (length words == 0) ≡ are_options (map f words)
all_read f [] short = refl
all_read f (x ∷ []) short = refl
all_read f (x ∷ y ∷ words) short = absurd (omega arith)
