-- The first block of each kind and name.
use Rattle.std.proofs.Common.{◌≡◌, ℕ, true, false, cond, List, [], ◌∷◌, ◌++◌, ap, sym, ◌∙◌, append_assoc, append-nil}
use Rattle.ld_mpd.specs.declared.block.Block.{Block}
use Rattle.ld_line.specs.Cut.{lines_of}
use Rattle.ld_mpd.specs.Blocks.{begun_blocks, behind_file, blocks_in, blocks_of, firsts, is_later, opening}

pub firsts-append : (earlier xs ys : List Block) → firsts earlier (xs ++ ys) ≡ firsts earlier xs ++ firsts (earlier ++ firsts earlier xs) ys
firsts-append earlier [] ys = ap (λ bs. firsts bs ys) (sym (append-nil earlier))
firsts-append earlier (x ∷ xs) ys =
    elim (is_later earlier x) as (λ b. cond b (firsts earlier (xs ++ ys)) (x ∷ firsts (earlier ++ x ∷ []) (xs ++ ys)) ≡ cond b (firsts earlier xs) (x ∷ firsts (earlier ++ x ∷ []) xs) ++ firsts (earlier ++ cond b (firsts earlier xs) (x ∷ firsts (earlier ++ x ∷ []) xs)) ys) [
      | true ↦ firsts-append earlier xs ys
      | false ↦ ap (λ bs. x ∷ bs) (firsts-append (earlier ++ x ∷ []) xs ys) ∙ ap (λ bs. x ∷ firsts (earlier ++ x ∷ []) xs ++ firsts bs ys) (append_assoc earlier (x ∷ []) (firsts (earlier ++ x ∷ []) xs))
    ]

-- the blocks so far, with those that come next
pub firsts-step : (old new next rest whole : List Block) → new ≡ old ++ firsts old next → old ++ firsts old (next ++ rest) ≡ whole → new ++ firsts new rest ≡ whole
firsts-step old new next rest whole is so_far =
    ap (λ bs. bs ++ firsts bs rest) is ∙ append_assoc old (firsts old next) (firsts (old ++ firsts old next) rest) ∙ ap (λ bs. old ++ bs) (sym (firsts-append old next rest)) ∙ so_far

-- the block before the first line, and those that begin at what is left of the lines
pub firsts-start : (own bytes : List ℕ) (lines rest : List (List ℕ)) (old new : List Block) → old ≡ [] → lines ≡ lines_of bytes → new ≡ old ++ firsts old (opening own lines (behind_file lines)) → begun_blocks own rest ≡ begun_blocks own lines → new ++ firsts new (begun_blocks own rest) ≡ blocks_of own bytes
unfolding blocks_of
firsts-start own bytes lines rest old new none are is left =
    let next = opening own lines (behind_file lines) in
    ap (λ bs. new ++ firsts new bs) left ∙ firsts-step [] new next (begun_blocks own lines) (blocks_of own bytes) (is ∙ ap (λ bs. bs ++ firsts bs next) none) (ap (blocks_in own) are)
