-- The main model is the first of the known texts, whatever else is learnt.
use Rattle.std.proofs.Common.{◌≡◌, ◌∷◌, ◌*◌, ◌+◌, ◌≤◌, ◌<◌, ◌^◌, ℕ, List, [], length, Bor, Option, Some, None, option_map, ap, refl, arith, sym, ◌∙◌}
use Rattle.std.specs.Option.{IsSome, option_copied}
use Rattle.std.proofs.lemmas.List.Sums.{sum_by-cons}
use Rattle.ld_names.specs.Standing.{Known, Text, known_map}
use Rattle.ld_names.specs.declared.file.FileId.{FileId}
use Rattle.ld_texts.specs.Known.{lines_at, weight_of, weight_of_lines, weight_of_text}
use Rattle.ld_texts.specs.Laws.{NumbersAgree}
use Rattle.ld_engine.specs.Laws.{MainIsFirst}
use Rattle.ld_engine.specs.Learning.{LearnsFor, wanted_for}
use Rattle.ld_engine.specs.Loading.{BeginsWith}
use Rattle.ld_cmd.specs.Querying.{IsFirst}
use Rattle.ld_cmd.proofs.Leaves.{just}

-- each line weighs 32 and more
lines-weigh : (lines : List (List ℕ)) → 32 * length lines ≤ weight_of_lines lines
lines-weigh [] = omega arith
lines-weigh (line ∷ lines) = let rest = lines-weigh lines in omega (arith, rest, sum_by-cons (λ (l : List ℕ). length l + 32) line lines)

pub lines-few : (main : FileId) (lines : List (List ℕ)) (known : Known) → BeginsWith main lines known → weight_of known ≤ 268435456 → length lines + 5 < 2 ^ 32
lines-few main lines known begins light =
    let whole : weight_of known ≡ weight_of_lines lines + weight_of begins.0 = ap weight_of begins.1 ∙ sum_by-cons (λ (entry : FileId × Text). weight_of_text entry.1) (main, Some lines) begins.0 in
    omega (arith, lines-weigh lines, whole, light)

-- it stays the first
pub first-stays : (law : MainIsFirst) (root main : FileId) (old new : Known) → IsFirst main old → LearnsFor root old new → IsFirst main new
first-stays law root main old new first learns = (first.0, law.grown (wanted_for root) old new learns main first.0 first.1)

pub first-not-absent : (law : MainIsFirst) (main : FileId) (known : Known) → IsFirst main known → known_map known main ≡ Some None → ⊥
first-not-absent law main known first absent = let there = (law.says main first.0 known first.1).1 in absurd (cc)

pub copied-some : {A : Type 0} (found : Option (Bor A)) (value : A) → option_copied found ≡ Some value → IsSome found
copied-some None value is = absurd (cc)
copied-some (Some found) value is = refl

-- its lines are those of text 0
pub first-lines : (law : MainIsFirst) (numbers : NumbersAgree) (main : FileId) (lines : List (List ℕ)) (known : Known) → BeginsWith main lines known → lines_at known 0 ≡ Some lines
first-lines law numbers main lines known begins =
    let says = law.says main lines known begins in
    just (lines_at known 0) (Some lines) (ap (option_map (lines_at known)) (sym says.0) ∙ sym (numbers.map known main) ∙ says.1)
