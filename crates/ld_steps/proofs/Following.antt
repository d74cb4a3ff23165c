-- Steps follow one another, and so do their views.
use Rattle.std.proofs.Common.{◌≡◌, ◌≤◌, ◌+◌, inl, inr, ℕ, Bool, true, false, cond, List, [], ◌∷◌, ◌++◌, length, take, drop, map, refl, ap, sym, ◌∙◌, subst, append_assoc, lit≤, arith}
use Rattle.std.specs.Prelude.{nat_le}
use Rattle.std.specs.List.{All, fold, list_any}
use Rattle.std.proofs.lemmas.Bool.{leb-false}
use Rattle.std.proofs.lemmas.List.{append-nil, length_push}
use Rattle.std.proofs.lemmas.List.Elements.{All-cons, All-nil}
use Rattle.std.proofs.lemmas.List.Sums.{fold-append}
use Rattle.std.proofs.Math.Seq.{take-append_seam}
use Rattle.ld_line.specs.Shown.{shows}
use Rattle.ld_line.specs.declared.line.Line.{Line}
use Rattle.ld_line.specs.declared.line.Line.TheVariants.{Rot, Step}
use Rattle.ld_line.specs.declared.line.RotWord.TheVariants.{Abs, Rel, Add, End}
use Rattle.ld_steps.specs.Laws.{AreNextViews, FollowOn, IsNextView, StepLaws}
use Rattle.ld_steps.specs.Steps.{is_step_line, last_end, last_lines, last_number, step_ends, step_lines, steps_between, steps_of}
use Rattle.ld_steps.specs.View.{one_more, view_behind, viewed}
use Rattle.ld_steps.specs.declared.step.StepMark.{StepMark}
use Rattle.ld_steps.specs.declared.step.Turn.{Turn}
use Rattle.ld_steps.proofs.Marked.{last_of-more, viewed-as}

-- ---- Lines.

-- numbers that never fall, from one on, and none above a count
abbrev Rise : ℕ → ℕ → List ℕ → Type 0
Rise from count [] = from ≤ count
Rise from count (end ∷ ends) = (from ≤ end) × Rise end count ends

rise-end : (from count : ℕ) (ends : List ℕ) → Rise from count ends → from ≤ count
rise-end from count [] h = h
rise-end from count (end ∷ ends) h = let rest = rise-end end count ends h.1 in omega (arith, h.0)

rise-more : (from count : ℕ) (ends : List ℕ) → Rise from count ends → Rise from count (ends ++ count ∷ [])
rise-more from count [] h = (h, omega arith)
rise-more from count (end ∷ ends) h = (h.0, rise-more end count ends h.1)

step_lines-rise : (from before count : ℕ) (xs : List Line) → from ≤ before → before + length xs ≤ count → Rise from count (step_lines before xs)
step_lines-rise from before count [] low high = omega arith
step_lines-rise from before count (x ∷ xs) low high =
    by (is_step_line x) (step_lines-rise (before + 1) (before + 1) count xs (omega arith) (omega arith)) (step_lines-rise from (before + 1) count xs (omega arith) (omega arith))
  where
    by : (b : Bool) → Rise (before + 1) count (step_lines (before + 1) xs) → Rise from count (step_lines (before + 1) xs) → Rise from count (cond b ((before + 1) ∷ step_lines (before + 1) xs) (step_lines (before + 1) xs))
    by true on off = (omega arith, on)
    by false on off = off

follow-between : (lines : List Line) (before : ℕ) (ends : List ℕ) → Rise before (length lines) ends → list_any shows (drop (last_number before ends) lines) ≡ false → FollowOn lines before (steps_between lines before ends)
follow-between lines before [] rise none = none
follow-between lines before (end ∷ ends) rise none =
    (refl, rise.0, rise-end end (length lines) ends rise.1, follow-between lines end ends rise.1 none)

none-left : (lines : List Line) → list_any shows (drop (length lines) lines) ≡ false
none-left [] = refl
none-left (line ∷ lines) = none-left lines

follow : (lines : List Line) → FollowOn lines 0 (steps_of lines)
unfolding steps_of
follow lines =
    by (step_lines 0 lines) (list_any shows (last_lines lines)) refl (step_lines-rise 0 0 (length lines) lines (omega arith) (omega arith))
  where
    ends_last : (ends : List ℕ) → Rise 0 (length lines) ends → FollowOn lines 0 (steps_between lines 0 (ends ++ length lines ∷ []))
    ends_last ends rise =
        follow-between lines 0 (ends ++ length lines ∷ []) (rise-more 0 (length lines) ends rise) (ap (λ n. list_any shows (drop n lines)) (last_of-more 0 ends (length lines)) ∙ none-left lines)

    by : (ends : List ℕ) (some : Bool) → list_any shows (drop (last_number 0 ends) lines) ≡ some → Rise 0 (length lines) ends → FollowOn lines 0 (steps_between lines 0 (ends ++ last_end ends some (length lines)))
    by [] some is rise = ends_last [] rise
    by (end ∷ ends) true is rise = ends_last (end ∷ ends) rise
    by (end ∷ ends) false is rise =
        subst (λ es. FollowOn lines 0 (steps_between lines 0 es)) (sym (append-nil (end ∷ ends))) (follow-between lines 0 (end ∷ ends) rise is)

some : (lines : List Line) → steps_of lines ≡ [] → ⊥
unfolding steps_of
some lines = by (step_lines 0 lines) (list_any shows (last_lines lines))
  where
    by : (ends : List ℕ) (b : Bool) → steps_between lines 0 (ends ++ last_end ends b (length lines)) ≡ [] → ⊥
    by [] b none = cc
    by (end ∷ ends) b none = cc

-- ---- Views.

views-between : (lines : List Line) (before : ℕ) (ends : List ℕ) → map (λ mark. mark.view) (steps_between lines before ends) ≡ map (view_behind lines) ends
views-between lines before [] = refl
views-between lines before (end ∷ ends) = ap (λ views. view_behind lines end ∷ views) (views-between lines end ends)

next-by : (view : List Turn) (line : Line) → is_step_line line ≡ true → IsNextView view (viewed view line)
next-by view Step on = inl refl
next-by view (Rot word) on = inr (word, refl)
next-by view line on = cc

-- behind the lines that are done
next-behind : (lines done rest : List Line) (tail : List ℕ) → lines ≡ done ++ rest → AreNextViews (fold viewed [] lines) (map (view_behind lines) tail) → AreNextViews (fold viewed [] done) (map (view_behind lines) (step_lines (length done) rest ++ tail))
next-behind lines done [] tail is last =
    subst (λ ls. AreNextViews (fold viewed [] ls) (map (view_behind lines) tail)) (is ∙ append-nil done) last
next-behind lines done (line ∷ rest) tail is last =
    let here : lines ≡ (done ++ line ∷ []) ++ rest = is ∙ sym (append_assoc done (line ∷ []) rest) in
    let size : length (done ++ line ∷ []) ≡ length done + 1 = length_push done line in
    let seen : fold viewed [] (done ++ line ∷ []) ≡ viewed (fold viewed [] done) line = fold-append viewed [] done (line ∷ []) in
    let view : view_behind lines (length done + 1) ≡ viewed (fold viewed [] done) line = ap (λ n. view_behind lines n) (sym size) ∙ ap (λ ls. fold viewed [] (take (length (done ++ line ∷ [])) ls)) here ∙ ap (fold viewed []) (take-append_seam (done ++ line ∷ []) rest) ∙ seen in
    let rest_of : AreNextViews (viewed (fold viewed [] done) line) (map (view_behind lines) (step_lines (length done + 1) rest ++ tail)) = subst (λ n. AreNextViews (viewed (fold viewed [] done) line) (map (view_behind lines) (step_lines n rest ++ tail))) size (subst (λ v. AreNextViews v (map (view_behind lines) (step_lines (length (done ++ line ∷ [])) rest ++ tail))) seen (next-behind lines (done ++ line ∷ []) rest tail here last)) in
    by (is_step_line line) refl view rest_of
  where
    by : (b : Bool) → is_step_line line ≡ b → view_behind lines (length done + 1) ≡ viewed (fold viewed [] done) line → AreNextViews (viewed (fold viewed [] done) line) (map (view_behind lines) (step_lines (length done + 1) rest ++ tail)) → AreNextViews (fold viewed [] done) (map (view_behind lines) (cond b ((length done + 1) ∷ step_lines (length done + 1) rest) (step_lines (length done + 1) rest) ++ tail))
    by true on view rest_of =
        subst (λ v. IsNextView (fold viewed [] done) v × AreNextViews v (map (view_behind lines) (step_lines (length done + 1) rest ++ tail))) (sym view) (next-by (fold viewed [] done) line on, rest_of)
    by false off view rest_of =
        subst (λ v. AreNextViews v (map (view_behind lines) (step_lines (length done + 1) rest ++ tail))) (viewed-as (fold viewed [] done) line off) rest_of

take-whole : {A : Type 0} (xs : List A) → take (length xs) xs ≡ xs
take-whole [] = refl
take-whole (x ∷ xs) = ap (λ ys. x ∷ ys) (take-whole xs)

last-view : (lines : List Line) (ends : List ℕ) (b : Bool) → AreNextViews (fold viewed [] lines) (map (view_behind lines) (last_end ends b (length lines)))
last-view lines [] b = (inl (ap (fold viewed []) (take-whole lines)), tt)
last-view lines (end ∷ ends) true = (inl (ap (fold viewed []) (take-whole lines)), tt)
last-view lines (end ∷ ends) false = tt

views : (lines : List Line) → AreNextViews [] (map (λ mark. mark.view) (steps_of lines))
unfolding steps_of
views lines =
    subst (AreNextViews []) (sym (views-between lines 0 (step_ends lines))) (next-behind lines [] lines (last_end (step_lines 0 lines) (list_any shows (last_lines lines)) (length lines)) refl (last-view lines (step_lines 0 lines) (list_any shows (last_lines lines))))

few-more : (view : List Turn) (turn : Turn) → length view ≤ 8 → length (one_more view turn) ≤ 8
few-more view turn few = by (nat_le 8 (length view)) view refl few
  where
    by : (b : Bool) (v : List Turn) → nat_le 8 (length v) ≡ b → length v ≤ 8 → length (cond b (drop 1 v) v ++ turn ∷ []) ≤ 8
    by true [] is h = lit≤ tt
    by true (first ∷ v) is h = let size = length_push v turn in omega arith
    by false v is h = let size = length_push v turn in let few = leb-false 8 (length v) is in omega arith

few-viewed : (view : List Turn) (line : Line) → length view ≤ 8 → length (viewed view line) ≤ 8
few-viewed view (Rot (Abs angles)) few = lit≤ tt
few-viewed view (Rot (Rel angles)) few = lit≤ tt
few-viewed view (Rot (Add angles)) few = few-more view (record { absolute = false; angles = angles }) few
few-viewed view (Rot End) few = lit≤ tt
few-viewed view line few = few

few-folded : (view : List Turn) (lines : List Line) → length view ≤ 8 → length (fold viewed view lines) ≤ 8
few-folded view [] few = few
few-folded view (line ∷ lines) few = few-folded (viewed view line) lines (few-viewed view line few)

few-between : (lines : List Line) (before : ℕ) (ends : List ℕ) → All (λ mark. length mark.view ≤ 8) (steps_between lines before ends)
few-between lines before [] = All-nil _
few-between lines before (end ∷ ends) =
    All-cons (λ (mark : StepMark). length mark.view ≤ 8) (record { first_line = before + 1; last_line = end; view = view_behind lines end }) (steps_between lines end ends) (few-folded [] (take end lines) (lit≤ tt)) (few-between lines end ends)

few_turns : (lines : List Line) → All (λ mark. length mark.view ≤ 8) (steps_of lines)
unfolding steps_of
few_turns lines = few-between lines 0 (step_ends lines)

pub steps : StepLaws
steps = record { some = some; follow = follow; views = views; few_turns = few_turns }
