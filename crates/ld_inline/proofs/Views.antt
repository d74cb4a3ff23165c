-- The step line between two views, read behind the first, gives the second.
use Rattle.std.proofs.Common.{◌≡◌, ◌&&◌, Bool, true, false, cond, List, [], ◌∷◌, ◌++◌, length, drop, nat_le, Option, Some, None, refl, ap, sym, ◌∙◌, subst, ⊎_elim}
use Rattle.std.specs.Cmp.Lexicographic.{pointwise}
use Rattle.std.specs.Ordering.{int_eq}
use Rattle.std.proofs.lemmas.Bool.{and_parts, and_from, both_ways, cond_both}
use Rattle.std.proofs.lemmas.Bool.Decides.{Decides-int_eq}
use Rattle.ld_line.specs.declared.line.Angles.{Angles}
use Rattle.ld_line.specs.declared.line.RotWord.{RotWord}
use Rattle.ld_line.specs.declared.line.RotWord.TheVariants.{Abs, Rel, Add, End}
use Rattle.ld_steps.specs.Laws.{IsNextView}
use Rattle.ld_steps.specs.View.{one_more, rotated}
use Rattle.ld_steps.specs.declared.step.Turn.{Turn}
use Rattle.ld_inline.specs.Text.{last_turn, rotation_to, same_angles, same_bool, same_turn, step_rotation}

bools_same : (a b : Bool) → same_bool a b ≡ true → a ≡ b
bools_same true true h = refl
bools_same true false h = sym h
bools_same false true h = h
bools_same false false h = refl

bools_refl : (a : Bool) → same_bool a a ≡ true
bools_refl true = refl
bools_refl false = refl

angles_same : (a b : Angles) → same_angles a b ≡ true → a ≡ b
angles_same a b h =
    let parts = and_parts (int_eq a.x b.x && int_eq a.y b.y) (int_eq a.z b.z) h in
    let first = and_parts (int_eq a.x b.x) (int_eq a.y b.y) parts.0 in
    let x : a.x ≡ b.x = (Decides-int_eq a.x b.x).0 first.0 in
    let y : a.y ≡ b.y = (Decides-int_eq a.y b.y).0 first.1 in
    let z : a.z ≡ b.z = (Decides-int_eq a.z b.z).0 parts.1 in
    λ i. record { x = x i; y = y i; z = z i }

angles_refl : (a : Angles) → same_angles a a ≡ true
angles_refl a =
    and_from _ _ (and_from _ _ ((Decides-int_eq a.x a.x).1 refl) ((Decides-int_eq a.y a.y).1 refl)) ((Decides-int_eq a.z a.z).1 refl)

views_same : (a b : List Turn) → pointwise same_turn a b ≡ true → a ≡ b
views_same [] [] h = refl
views_same [] (u ∷ us) h = absurd (both_ways false refl h)
views_same (t ∷ ts) [] h = absurd (both_ways false refl h)
views_same (t ∷ ts) (u ∷ us) h =
    let parts = and_parts (same_bool t.absolute u.absolute && same_angles t.angles u.angles) (pointwise same_turn ts us) h in
    let first = and_parts (same_bool t.absolute u.absolute) (same_angles t.angles u.angles) parts.0 in
    let absolute : t.absolute ≡ u.absolute = bools_same t.absolute u.absolute first.0 in
    let angles : t.angles ≡ u.angles = angles_same t.angles u.angles first.1 in
    let rest : ts ≡ us = views_same ts us parts.1 in
    λ i. record { absolute = absolute i; angles = angles i } ∷ rest i

views_refl : (a : List Turn) → pointwise same_turn a a ≡ true
views_refl [] = refl
views_refl (t ∷ ts) = and_from _ _ (and_from _ _ (bools_refl t.absolute) (angles_refl t.angles)) (views_refl ts)

-- ---- A view that changed.

last_pushed : (t : Turn) (ts : List Turn) (u : Turn) → last_turn t (ts ++ u ∷ []) ≡ u
last_pushed t [] u = refl
last_pushed t (next ∷ ts) u = last_pushed next ts u

abbrev relative : Angles → Turn
relative angles = record { absolute = false; angles = angles }

added : (xs before : List Turn) (a : Angles) → one_more before (relative a) ≡ xs ++ relative a ∷ [] → rotated (rotation_to (xs ++ relative a ∷ [])) before ≡ xs ++ relative a ∷ []
added [] before a h = refl
added (x ∷ []) before a h = h
added (x ∷ y ∷ ys) before a h =
    ap (λ t. one_more before (relative t.angles)) (last_pushed y ys (relative a)) ∙ h

turned_again : (word : RotWord) (before : List Turn) → rotated (rotation_to (rotated word before)) before ≡ rotated word before
turned_again (Abs a) before = refl
turned_again (Rel a) before = refl
turned_again End before = refl
turned_again (Add a) before = added (cond (nat_le 8 (length before)) (drop 1 before) before) before a refl

-- the view behind a step line
abbrev pub rotated_by : Option RotWord → List Turn → List Turn
rotated_by None before = before
rotated_by (Some word) before = rotated word before

changed_again : (before view : List Turn) → pointwise same_turn view before ≡ false → IsNextView before view → rotated (rotation_to view) before ≡ view
changed_again before view differ next =
    ⊎_elim
    (λ same. absurd (both_ways (pointwise same_turn view before) differ (subst (λ v. pointwise same_turn v before ≡ true) (sym same) (views_refl before))))
    (λ changed. subst (λ v. rotated (rotation_to v) before ≡ v) (sym changed.1) (turned_again changed.0 before))
    next

pub view_again : (before view : List Turn) → IsNextView before view → rotated_by (step_rotation before view) before ≡ view
view_again before view next =
    cond_both (pointwise same_turn view before) None (Some (rotation_to view)) (λ o. rotated_by o before ≡ view)
    (λ same. sym (views_same view before same))
    (λ differ. changed_again before view differ next)
