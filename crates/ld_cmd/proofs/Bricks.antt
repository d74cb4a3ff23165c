-- The lines of bricks: one brick more, and how many bytes they have.
use Rattle.std.proofs.Common.{◌≡◌, ◌∙◌, ℕ, zero, suc, ◌+◌, ◌*◌, ◌/◌, ◌%◌, ◌<◌, ◌≤◌, ◌==◌, Bool, true, false, cond, List, [], ◌∷◌, ◌++◌, length, map, codes, decimal, ap, arith, length-append, append-nil}
use Rattle.std.specs.List.{concat, range_with_len}
use Rattle.std.proofs.lemmas.Fmt.{length-decimal-le}
use Rattle.std.proofs.lemmas.List.Folds.{concat-append}
use Rattle.std.proofs.lemmas.List.FromFn.{map-range_with_len_more}
use Rattle.ld_cmd.specs.Generator.{brick_block, brick_lines, bricks, gen_block, generated, reference, step_behind, stud_block}

pub bricks-more : (count : ℕ) → bricks (count + 1) ≡ bricks count ++ brick_lines count
bricks-more count =
    ap concat (map-range_with_len_more brick_lines 0 count count (omega arith))
    ∙ concat-append (map brick_lines (range_with_len 0 count)) (brick_lines count ∷ [])
    ∙ ap (λ lines. bricks count ++ lines) (append-nil (brick_lines count))

step-short : (index : ℕ) → length (step_behind index) ≤ 7
step-short index = go ((index + 1) % 10 == 0)
  where
    go : (b : Bool) → length (cond b (codes "0 STEP\n") []) ≤ 7
    go true = omega arith
    go false = omega arith

reference-short : (index : ℕ) → index < 100000 → length (reference index) ≤ 46
reference-short index low =
    let colour : length (decimal (index % 16)) ≤ 2 = length-decimal-le 2 _ (omega arith) (omega arith) (omega arith) in
    let across : length (decimal (20 * (index % 100))) ≤ 4 = length-decimal-le 4 _ (omega arith) (omega arith) (omega arith) in
    let along : length (decimal (20 * (index / 100))) ≤ 5 = length-decimal-le 5 _ (omega arith) (omega arith) (omega arith) in
    simp length-append (omega (arith, colour, across, along))

bricks-short : (count : ℕ) → count ≤ 100000 → length (bricks count) ≤ 53 * count
bricks-short zero low = omega arith
bricks-short (suc count) low =
    let next : suc count ≡ count + 1 = omega arith in
    let line = reference-short count (omega arith) in
    let step = step-short count in
    let before = bricks-short count (omega arith) in
    let all : length (bricks (suc count)) ≡ length (bricks count) + (length (reference count) + length (step_behind count)) =
    ap (λ n. length (bricks n)) next ∙ ap length (bricks-more count) ∙ length-append (bricks count) (brick_lines count)
    ∙ ap (λ n. length (bricks count) + n) (length-append (reference count) (step_behind count)) in
    omega (arith, all, line, step, before)

pub generated-short : (count : ℕ) → count ≤ 100000 → length (generated count) ≤ 33554432
unfolding generated
generated-short count low =
    let middle = bricks-short count low in
    simp length-append (omega (arith, middle))

pub all_made : (count index : ℕ) (text made : List ℕ) → index ≡ count → text ≡ gen_block ++ bricks index → made ≡ text ++ brick_block ++ stud_block → made ≡ generated count
unfolding generated
all_made count index text made all before last = last ∙ ap (λ t. t ++ brick_block ++ stud_block) (before ∙ ap (λ n. gen_block ++ bricks n) all)
