-- Readers the other way round.
use Rattle.std.proofs.Common.{◌≡◌, ◌<◌, ℕ, take, drop, zero, suc, List, [], ◌∷◌, ◌++◌, length, get_or, map, reverse, All, refl, ap, sym, ◌∙◌, subst, arith}
use Rattle.std.specs.List.{sum_by}
use Rattle.std.proofs.lemmas.List.{length-map, length-reverse, map-append, reverse-append, reverse-reverse, take-append-le}
use Rattle.std.proofs.lemmas.List.Elements.{All-append}
use Rattle.std.proofs.lemmas.List.Sums.{sum_by-append, sum_by-cons}
use Rattle.ld_names.specs.Standing.{Known}
use Rattle.ld_graph.specs.Reading.{Reading}
use Rattle.ld_work.specs.Inside.Rounds.{readers_of}
use Rattle.ld_work.specs.Readers.{AreOver, KeepTexts, known_by, reads_together}
use Rattle.ld_work.specs.declared.desk.Desk.{Desk}
use Rattle.ld_work.proofs.Seats.{all-taken}

behind : {X : Type 0} (x : X) (xs : List X) → reverse (x ∷ xs) ≡ reverse xs ++ x ∷ []
behind x xs = reverse-append (x ∷ []) xs

map-reverse : {X Y : Type 0} (f : X → Y) (xs : List X) → map f (reverse xs) ≡ reverse (map f xs)
map-reverse f [] = refl
map-reverse f (x ∷ xs) =
    ap (map f) (behind x xs) ∙ map-append f (reverse xs) (x ∷ []) ∙ ap (λ ys. ys ++ f x ∷ []) (map-reverse f xs) ∙ sym (behind (f x) (map f xs))

sum-reverse : {X : Type 0} (f : X → ℕ) (xs : List X) → sum_by f (reverse xs) ≡ sum_by f xs
sum-reverse f [] = refl
sum-reverse f (x ∷ xs) =
    let rest = sum-reverse f xs in
    let first = ap (sum_by f) (behind x xs) ∙ sum_by-append f (reverse xs) (x ∷ []) in
    omega (arith, sum_by-cons f x xs, sum_by-cons f x [])

all-reverse : {X : Type 0} (P : X → Type 0) (xs : List X) → All P xs → All P (reverse xs)
all-reverse P [] all = λ k d within. absurd (omega arith)
all-reverse P (x ∷ xs) all =
    let one : All P (x ∷ []) = λ k d within. one-at k d within in
    subst (All P) (sym (behind x xs)) (All-append P (reverse xs) (x ∷ []) (all-reverse P xs (λ k d within. all (suc k) d (omega arith))) one)
  where
    one-at : (k : ℕ) (d : _) → k < 1 → P (get_or (x ∷ []) k d)
    one-at zero d within = all zero x (omega arith)
    one-at (suc k) d within = absurd (omega arith)

known-one : (known : Known) (readers : List Reading) → 0 < length readers → AreOver known readers → known_by readers ≡ known
known-one known [] some over = absurd (omega arith)
known-one known (reader ∷ readers) some over = over zero reader (omega arith)

-- what readers have in common with those the other way round
pub record IsTurned (readers turned : List Reading) : Type 0 where
  pub known : known_by turned ≡ known_by readers
  pub over : AreOver (known_by turned) turned
  pub long : length turned ≡ length readers

pub turned : (readers other : List Reading) → 0 < length readers → reverse other ≡ readers → AreOver (known_by readers) readers → IsTurned readers other
turned readers other some is over =
    let other-is : other ≡ reverse readers = sym (reverse-reverse other) ∙ ap reverse is in
    let long : length other ≡ length readers = sym (length-reverse other) ∙ ap length is in
    let over' : AreOver (known_by readers) other = subst (AreOver (known_by readers)) (sym other-is) (all-reverse (λ reader. reader.texts.known ≡ known_by readers) readers over) in
    let known = known-one (known_by readers) other (omega arith) over' in
    record { known = known; over = subst (λ k. AreOver k other) (sym known) over'; long = long }

-- readers that are turned, keep their texts and are turned back keep them
pub turned-keep : (old before after new : List Reading) → reverse before ≡ old → KeepTexts before after → reverse new ≡ after → KeepTexts old new
turned-keep old before after new is keep back =
    ap (map (λ reader. reader.texts)) (sym (reverse-reverse new) ∙ ap reverse back)
    ∙ map-reverse (λ reader. reader.texts) after
    ∙ ap reverse keep
    ∙ sym (map-reverse (λ reader. reader.texts) before)
    ∙ ap (map (λ reader. reader.texts)) is

pub turned-reads : (readers other : List Reading) → reverse other ≡ readers → reads_together readers ≡ reads_together other
turned-reads readers other is = ap reads_together (sym is) ∙ sum-reverse (λ reader. reader.reads) other

keep-long : (desks new : List Desk) → KeepTexts (readers_of desks) (readers_of new) → length new ≡ length desks
keep-long desks new keep =
    sym (length-map new (λ desk. desk.reader)) ∙ sym (length-map (readers_of new) (λ reader. reader.texts)) ∙ ap length keep ∙ length-map (readers_of desks) (λ reader. reader.texts) ∙ length-map desks (λ desk. desk.reader)

-- desks that were lent as a slice, and are back
pub lent-back : (desks new items : List Desk) (n : ℕ) → length desks ≡ n → KeepTexts (readers_of desks) (readers_of new) → take n (new ++ drop (length new) items) ≡ new
lent-back desks new items n long keep =
    let same = keep-long desks new keep in
    take-append-le n new (drop (length new) items) (omega arith) ∙ all-taken new n (omega arith)
