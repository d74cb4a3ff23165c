-- Lines as they are appended, and texts of them.
use Rattle.std.proofs.Common.{◌≡◌, ◌+◌, ◌-◌, ◌<◌, ◌≤◌, ℕ, List, [], ◌∷◌, ◌++◌, length, map, take, get_or, refl, ap, sym, ◌∙◌, append_assoc, append-nil, arith, ◌&&◌, Bool, subst}
use Rattle.std.specs.Prelude.{All}
use Rattle.std.specs.Cmp.Lexicographic.{pointwise}
use Rattle.std.specs.List.{flat_map, fold}
use Rattle.std.proofs.lemmas.List.{map-append, take_more}
use Rattle.std.proofs.lemmas.List.Concat.{flat_map-append}
use Rattle.std.proofs.lemmas.List.Elements.{All-tail}
use Rattle.ld_num.specs.Text.{dec_text}
use Rattle.ld_num.specs.declared.point.Point.{Point}
use Rattle.ld_line.specs.Word.{spaced}
use Rattle.ld_line.specs.Printing.{coordinates}
use Rattle.ld_line.specs.declared.line.RotWord.TheVariants.{Add}
use Rattle.ld_colour.specs.Table.{Counting}
use Rattle.ld_entry.specs.declared.entry.Entry.{Entry}
use Rattle.ld_steps.specs.Parts.{entries_in}
use Rattle.ld_steps.specs.declared.step.StepPart.{StepPart}
use Rattle.ld_steps.specs.declared.step.Turn.{Turn}
use Rattle.ld_inline.specs.Inside.Shown.{AreShownSteps, IsShownStep, following}
use Rattle.ld_inline.specs.Text.{Words, entries_lines, last_turn, lines_text, rotation_to, same_turn, stands_behind, step_rotation, stepped_words, steps_lines}

following-append : (xs ys : List (List ℕ)) → following (xs ++ ys) ≡ following xs ++ following ys
following-append xs ys = flat_map-append (λ (word : List ℕ). 32 ∷ word) xs ys

spaced_is : (w : List ℕ) (ws : List (List ℕ)) → spaced (w ∷ ws) ≡ w ++ following ws
spaced_is w [] = sym (append-nil w)
spaced_is w (v ∷ ws) = ap (λ xs. w ++ (32 ∷ xs)) (spaced_is v ws)

pub one_line : (w : List ℕ) (ws : List (List ℕ)) → lines_text ((w ∷ ws) ∷ []) ≡ w ++ (following ws ++ 13 ∷ 10 ∷ [])
one_line w ws =
    append-nil (spaced (w ∷ ws) ++ 13 ∷ 10 ∷ []) ∙ ap (λ xs. xs ++ 13 ∷ 10 ∷ []) (spaced_is w ws) ∙ append_assoc w (following ws) (13 ∷ 10 ∷ [])

pub lines_text_append : (xs ys : List Words) → lines_text (xs ++ ys) ≡ lines_text xs ++ lines_text ys
lines_text_append [] ys = refl
lines_text_append (x ∷ xs) ys =
    ap (λ text. (spaced x ++ 13 ∷ 10 ∷ []) ++ text) (lines_text_append xs ys) ∙ sym (append_assoc (spaced x ++ 13 ∷ 10 ∷ []) (lines_text xs) (lines_text ys))

-- the words of one point more
pub points_more : (points : List Point) (i : ℕ) (p : Point) → i < length points → following (map dec_text (flat_map coordinates (take (i + 1) points))) ≡ following (map dec_text (flat_map coordinates (take i points))) ++ following (map dec_text (coordinates (get_or points i p)))
points_more points i p h =
    ap (λ ps. following (map dec_text (flat_map coordinates ps))) (take_more points i p h)
    ∙ ap (λ ns. following (map dec_text ns)) (flat_map-append coordinates (take i points) (get_or points i p ∷ []) ∙ ap (λ ns. flat_map coordinates (take i points) ++ ns) (append-nil (coordinates (get_or points i p))))
    ∙ ap following (map-append dec_text (flat_map coordinates (take i points)) (coordinates (get_or points i p)))
    ∙ following-append (map dec_text (flat_map coordinates (take i points))) (map dec_text (coordinates (get_or points i p)))

last_at : (first : Turn) (turns : List Turn) (t : Turn) → get_or (first ∷ turns) (length turns) t ≡ last_turn first turns
last_at first [] t = refl
last_at first (next ∷ turns) t = last_at next turns t

-- a view of more than one turn ends in an added one
pub last_rotation : (view : List Turn) (t : Turn) → 2 ≤ length view → t ≡ get_or view (length view - 1) t → rotation_to view ≡ Add t.angles
last_rotation [] t some is = absurd (omega arith)
last_rotation (first ∷ []) t some is = absurd (omega arith)
last_rotation (first ∷ next ∷ turns) t some is =
    let place : length (first ∷ next ∷ turns) - 1 ≡ length (next ∷ turns) = omega arith in
    let last : last_turn next turns ≡ t = sym (is ∙ ap (λ n. get_or (first ∷ next ∷ turns) n t) place ∙ last_at first (next ∷ turns) t) in
    ap (λ u. Add u.angles) last

pub same_views : (same : Turn → Turn → Bool) → ((turn other : Turn) → same turn other ≡ same_turn turn other) → (view before : List Turn) → pointwise same view before ≡ pointwise same_turn view before
same_views same is [] [] = refl
same_views same is [] (u ∷ us) = refl
same_views same is (t ∷ ts) [] = refl
same_views same is (t ∷ ts) (u ∷ us) = ap (λ b. b && pointwise same ts us) (is t u) ∙ ap (λ b. same_turn t u && b) (same_views same is ts us)

-- ---- One step more.

abbrev pub IsWithin : ℕ → StepPart → Type 0
IsWithin total step = (step.first ≤ step.end) × (step.end ≤ total)

pub within_more : (total : ℕ) (steps more : List StepPart) (step : StepPart) → steps ≡ step ∷ more → All (IsWithin total) steps → All (IsWithin total) more
within_more total steps more step is within = All-tail (IsWithin total) step more (subst (All (IsWithin total)) is within)

pub steps_more : (table : Counting) (entries : List Entry) (before view : List Turn) (stands clip : Bool) (steps more : List StepPart) (step : StepPart) (into now whole : List ℕ) → steps ≡ step ∷ more → view ≡ step.view → clip ≡ fold stands_behind stands (entries_in entries step) → now ≡ into ++ lines_text (entries_lines table stands (entries_in entries step)) ++ lines_text (stepped_words (step_rotation before step.view) ∷ []) → into ++ lines_text (steps_lines table entries before stands steps) ≡ whole → now ++ lines_text (steps_lines table entries view clip more) ≡ whole
steps_more table entries before view stands clip steps more step into now whole is views clips appended so_far =
    let own = entries_lines table stands (entries_in entries step) in
    let line = stepped_words (step_rotation before step.view) in
    let rest = steps_lines table entries step.view (fold stands_behind stands (entries_in entries step)) more in
    ap (λ v. now ++ lines_text (steps_lines table entries v clip more)) views
    ∙ ap (λ b. now ++ lines_text (steps_lines table entries step.view b more)) clips
    ∙ ap (λ text. text ++ lines_text rest) appended
    ∙ append_assoc (into ++ lines_text own) (lines_text (line ∷ [])) (lines_text rest)
    ∙ append_assoc into (lines_text own) (lines_text (line ∷ []) ++ lines_text rest)
    ∙ ap (λ text. into ++ (lines_text own ++ text)) (sym (lines_text_append (line ∷ []) rest))
    ∙ ap (λ text. into ++ text) (sym (lines_text_append own (line ∷ rest)))
    ∙ ap (λ ss. into ++ lines_text (steps_lines table entries before stands ss)) (sym is)
    ∙ so_far

pub shown_more : (before view : List Turn) (steps more whole : List StepPart) (step : StepPart) → steps ≡ step ∷ more → view ≡ step.view → IsShownStep before step.view → (AreShownSteps before steps → AreShownSteps [] whole) → AreShownSteps view more → AreShownSteps [] whole
shown_more before view steps more whole step is views shown so_far rest =
    so_far (subst (AreShownSteps before) (sym is) (shown, subst (λ v. AreShownSteps v more) views rest))
