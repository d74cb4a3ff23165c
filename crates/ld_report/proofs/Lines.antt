-- Lines as they are put together.
use Rattle.std.proofs.Common.{◌≡◌, ◌==◌, ℕ, false, length, true≢false, List, [], ◌∷◌, ◌++◌, append_assoc, append-nil, ap, ◌∙◌, codes, map, refl, sym}
use Rattle.std.specs.List.{flat_map}
use Rattle.ld_num.specs.declared.point.Point.{Point}
use Rattle.ld_line.specs.Word.{spaced}
use Rattle.ld_steps.specs.declared.step.Turn.{Turn}
use Rattle.ld_report.specs.Pieces.{line_text, point_text}
use Rattle.ld_report.specs.Steps.{turn_text, view_words}

-- a word before words
spaced-more : (word : List ℕ) (words : List (List ℕ)) (last : List ℕ) → spaced (word ∷ (words ++ last ∷ [])) ≡ word ++ codes " " ++ spaced (words ++ last ∷ [])
spaced-more word [] last = sym (append_assoc word (codes " ") last)
spaced-more word (next ∷ words) last = sym (append_assoc word (codes " ") (spaced ((next ∷ words) ++ last ∷ [])))

-- points, each with a space behind it, and a word
spaced-points : (points : List Point) (last : List ℕ) → spaced (map point_text points ++ last ∷ []) ≡ flat_map (λ point. point_text point ++ codes " ") points ++ last
spaced-points [] last = refl
spaced-points (point ∷ points) last = spaced-more (point_text point) (map point_text points) last ∙ ap (λ more. point_text point ++ codes " " ++ more) (spaced-points points last) ∙ sym (append_assoc (point_text point ++ codes " ") (flat_map (λ point. point_text point ++ codes " ") points) last)

-- the line of a drawn entry
pub drawn_line : (old kind colour rgb certified clip winding : List ℕ) (points : List Point) (source : List ℕ)
    → (((old ++ (kind ++ codes " " ++ colour ++ codes " " ++ rgb)) ++ (codes " " ++ certified ++ codes " " ++ clip ++ codes " " ++ winding ++ codes " ")) ++ flat_map (λ point. point_text point ++ codes " ") points) ++ (source ++ codes "\n")
    ≡ old ++ line_text (kind ∷ colour ∷ rgb ∷ certified ∷ clip ∷ winding ∷ (map point_text points ++ source ∷ []))
drawn_line old kind colour rgb certified clip winding points source =
    let tail : spaced (winding ∷ (map point_text points ++ source ∷ [])) ≡ winding ++ codes " " ++ (flat_map (λ point. point_text point ++ codes " ") points ++ source) = spaced-more winding (map point_text points) source ∙ ap (λ more. winding ++ codes " " ++ more) (spaced-points points source) in
    rw tail (simp append_assoc)

-- the line of a part entry
pub part_line : (old colour rgb file source : List ℕ)
    → ((old ++ (codes "part" ++ codes " " ++ colour ++ codes " " ++ rgb)) ++ (codes " " ++ file ++ codes " at ")) ++ (source ++ codes "\n")
    ≡ old ++ line_text (codes "part" ∷ colour ∷ rgb ∷ file ∷ codes "at" ∷ source ∷ [])
part_line old colour rgb file source = simp append_assoc

-- words, each with a space before it but the first
pub spaced_words : (first : List ℕ) (words : List (List ℕ)) → spaced (first ∷ words) ≡ first ++ flat_map (λ word. codes " " ++ word) words
spaced_words first [] = sym (append-nil first)
spaced_words first (word ∷ words) = ap (λ more. first ++ 32 ∷ more) (spaced_words word words)

-- the line of a step
step-line : (old step number entries count word : List ℕ) (view : List (List ℕ))
    → ((((((old ++ (step ++ codes " ")) ++ number) ++ (codes " " ++ entries ++ codes " ")) ++ count) ++ (codes " " ++ word)) ++ flat_map (λ shown. codes " " ++ shown) view) ++ codes "\n"
    ≡ old ++ line_text (step ∷ number ∷ entries ∷ count ∷ word ∷ view)
step-line old step number entries count word view =
    let tail : spaced (word ∷ view) ≡ word ++ flat_map (λ shown. codes " " ++ shown) view = spaced_words word view in rw tail (simp append_assoc)

pub step_line : (old number count : List ℕ) (view : List (List ℕ))
    → ((((((old ++ codes "step ") ++ number) ++ codes " entries ") ++ count) ++ codes " view") ++ flat_map (λ word. codes " " ++ word) view) ++ codes "\n"
    ≡ old ++ line_text (codes "step" ∷ number ∷ codes "entries" ∷ count ∷ codes "view" ∷ view)
step_line old number count view = step-line old (codes "step") number (codes "entries") count (codes "view") view

-- the words of a view that has turns
words-of-turns : (turns : List Turn) → flat_map (λ turn. codes " " ++ turn_text turn) turns ≡ flat_map (λ word. codes " " ++ word) (map turn_text turns)
words-of-turns [] = refl
words-of-turns (turn ∷ turns) = ap (λ more. (codes " " ++ turn_text turn) ++ more) (words-of-turns turns)

pub words_of_view : (view : List Turn) → (length view == 0) ≡ false → flat_map (λ turn. codes " " ++ turn_text turn) view ≡ flat_map (λ word. codes " " ++ word) (view_words view)
words_of_view [] some = absurd (true≢false some)
words_of_view (turn ∷ turns) some = words-of-turns (turn ∷ turns)

-- the line of a part in a parts list
pub count_line : (old count colour file : List ℕ)
    → (((((old ++ count) ++ codes " ") ++ colour) ++ codes " ") ++ file) ++ codes "\n"
    ≡ old ++ line_text (count ∷ colour ∷ file ∷ [])
count_line old count colour file = simp append_assoc

-- the line of a fault
fault-line : (old fault what source : List ℕ) (names : List (List ℕ))
    → ((((old ++ (fault ++ codes " ")) ++ (what ++ codes " ")) ++ source) ++ flat_map (λ word. codes " " ++ word) names) ++ codes "\n"
    ≡ old ++ line_text (fault ∷ what ∷ source ∷ names)
fault-line old fault what source names = let tail : spaced (source ∷ names) ≡ source ++ flat_map (λ word. codes " " ++ word) names = spaced_words source names in rw tail (simp append_assoc)

pub fault_line : (old what source : List ℕ) (names : List (List ℕ))
    → ((((old ++ codes "fault ") ++ (what ++ codes " ")) ++ source) ++ flat_map (λ word. codes " " ++ word) names) ++ codes "\n"
    ≡ old ++ line_text (codes "fault" ∷ what ∷ source ∷ names)
fault_line old what source names = fault-line old (codes "fault") what source names
