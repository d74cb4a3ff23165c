-- The names of lines, and what an edit leaves of them.
use Rattle.std.proofs.Common.{◌≡◌, ◌+◌, ◌++◌, ◌<◌, ℕ, suc, List, [], ◌∷◌, ap, sym, ◌∙◌, drop, length, slice_set, take, arith}
use Rattle.std.specs.List.{remove}
use Rattle.std.proofs.lemmas.List.{append_assoc, drop-drop, set_split}
use Rattle.std.proofs.lemmas.List.Elements.{filter_map-append}
use Rattle.ld_line.specs.Moved.{name_in}
use Rattle.ld_line.specs.Reading.{line_of}
use Rattle.ld_graph.specs.Agreeing.{names_among}

names-append : (xs ys : List (List ℕ)) → names_among (xs ++ ys) ≡ names_among xs ++ names_among ys
names-append xs ys = filter_map-append (λ line. name_in (line_of line)) xs ys

-- with a line between others
pub names_between : (before : List (List ℕ)) (line : List ℕ) (behind : List (List ℕ)) → names_among (before ++ line ∷ behind) ≡ names_among before ++ names_among (line ∷ []) ++ names_among behind
names_between before line behind = names-append before (line ∷ behind) ∙ ap (λ names. names_among before ++ names) (names-append (line ∷ []) behind) ∙ sym (append_assoc (names_among before) (names_among (line ∷ [])) (names_among behind))

drop-suc : (at : ℕ) (all : List (List ℕ)) → drop 1 (drop at all) ≡ drop (suc at) all
drop-suc at all = let one : at + 1 ≡ suc at = omega arith in drop-drop 1 at all ∙ ap (λ n. drop n all) one

-- with another line in the place of one
pub named_set : (all : List (List ℕ)) (at : ℕ) (line : List ℕ) → at < length all → names_among (take at all ++ line ∷ drop 1 (drop at all)) ≡ names_among (slice_set all at line)
named_set all at line within = ap (λ behind. names_among (take at all ++ line ∷ behind)) (drop-suc at all) ∙ ap names_among (sym (set_split all at line within))

-- without a line
pub named_removed : (all : List (List ℕ)) (at : ℕ) → names_among (take at all) ++ names_among (drop 1 (drop at all)) ≡ names_among (remove all at)
named_removed all at = ap (λ behind. names_among (take at all) ++ names_among behind) (drop-suc at all) ∙ sym (names-append (take at all) (drop (suc at) all))
