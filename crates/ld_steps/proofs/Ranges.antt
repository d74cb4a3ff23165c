-- The ranges of steps follow one another and cover the entries.
use Rattle.std.proofs.Common.{◌≡◌, ◌≤◌, ◌+◌, ◌-◌, ◌||◌, ℕ, zero, suc, Bool, true, false, List, [], ◌∷◌, take, drop, map, refl, ap, sym, ◌∙◌, subst, arith}
use Rattle.std.specs.Prelude.{sum}
use Rattle.std.specs.List.{All, list_any}
use Rattle.std.proofs.lemmas.List.Elements.{All-cons, All-nil}
use Rattle.std.proofs.lemmas.List.Sums.{sum_by-cons}
use Rattle.ld_line.specs.Shown.{GiveEntries, shows}
use Rattle.ld_line.specs.declared.line.Line.{Line}
use Rattle.ld_steps.specs.Laws.{AreNextViews, Cover, FollowOn, PartLaw}
use Rattle.ld_steps.specs.Parts.{step_part, step_parts}
use Rattle.ld_steps.specs.Steps.{steps_of}
use Rattle.ld_steps.specs.declared.step.StepMark.{StepMark}
use Rattle.ld_steps.specs.declared.step.StepPart.{StepPart}
use Rattle.ld_steps.proofs.Following.{steps}

or-false : (a b : Bool) → (a || b) ≡ false → (a ≡ false) × (b ≡ false)
or-false true b is = cc
or-false false b is = (refl, is)

pub sum-cons : (count : ℕ) (counts : List ℕ) → sum (count ∷ counts) ≡ count + sum counts
sum-cons count counts = sum_by-cons (λ n. n) count counts

-- lines that show nothing give nothing
quiet : (lines : List Line) (counts : List ℕ) → GiveEntries lines counts → list_any shows lines ≡ false → sum counts ≡ 0
quiet [] [] gives none = refl
quiet [] (count ∷ counts) gives none = absurd gives
quiet (line ∷ lines) [] gives none = absurd gives
quiet (line ∷ lines) (count ∷ counts) gives none =
    let parts = or-false (shows line) (list_any shows lines) none in
    let here : count ≡ 0 = gives.0 parts.0 in
    let rest : sum counts ≡ 0 = quiet lines counts gives.1 parts.1 in
    sum-cons count counts ∙ omega arith

quiet-behind : (n : ℕ) (lines : List Line) (counts : List ℕ) → GiveEntries lines counts → list_any shows (drop n lines) ≡ false → sum (take n counts) ≡ sum counts
quiet-behind zero lines counts gives none = sym (quiet lines counts gives none)
quiet-behind (suc n) [] [] gives none = refl
quiet-behind (suc n) [] (count ∷ counts) gives none = absurd gives
quiet-behind (suc n) (line ∷ lines) [] gives none = absurd gives
quiet-behind (suc n) (line ∷ lines) (count ∷ counts) gives none =
    sum-cons count (take n counts) ∙ ap (λ m. count + m) (quiet-behind n lines counts gives.1 none) ∙ sym (sum-cons count counts)

rising : (a b : ℕ) (counts : List ℕ) → a ≤ b → sum (take a counts) ≤ sum (take b counts)
rising zero b counts h = omega arith
rising (suc a) zero counts h = absurd (omega arith)
rising (suc a) (suc b) [] h = omega arith
rising (suc a) (suc b) (count ∷ counts) h =
    let rest = rising a b counts (omega arith) in
    omega (arith, sum-cons count (take a counts), sum-cons count (take b counts))

covers : (lines : List Line) (counts : List ℕ) (before : ℕ) (marks : List StepMark) → GiveEntries lines counts → FollowOn lines before marks → Cover (sum (take before counts)) (sum counts) (map (step_part counts) marks)
covers lines counts before [] gives follows = quiet-behind before lines counts gives follows
covers lines counts before (mark ∷ marks) gives follows =
    let first : mark.first_line - 1 ≡ before = omega (arith, follows.0) in
    let begins : sum (take (mark.first_line - 1) counts) ≡ sum (take before counts) = ap (λ n. sum (take n counts)) first in
    (begins, rising (mark.first_line - 1) mark.last_line counts (omega (arith, follows.1)), covers lines counts mark.last_line marks gives follows.3)

inside : (from end : ℕ) (parts : List StepPart) → Cover from end parts → (from ≤ end) × All (λ part. (part.first ≤ part.end) × (part.end ≤ end)) parts
inside from end [] covered = (omega (arith, covered), All-nil _)
inside from end (part ∷ parts) covered =
    let rest = inside part.end end parts covered.2 in
    (omega (arith, covered.0, covered.1, rest.0), All-cons (λ (part : StepPart). (part.first ≤ part.end) × (part.end ≤ end)) part parts (covered.1, rest.0) rest.1)

views-are : (counts : List ℕ) (marks : List StepMark) → map (λ part. part.view) (map (step_part counts) marks) ≡ map (λ mark. mark.view) marks
views-are counts [] = refl
views-are counts (mark ∷ marks) = ap (λ views. mark.view ∷ views) (views-are counts marks)

some-parts : (counts : List ℕ) (marks : List StepMark) → (marks ≡ [] → ⊥) → map (step_part counts) marks ≡ [] → ⊥
some-parts counts [] some none = some refl
some-parts counts (mark ∷ marks) some none = cc

pub parts : PartLaw
unfolding step_parts
parts lines counts gives =
    let covered = covers lines counts 0 (steps_of lines) gives (steps.follow lines) in
    record {
      some = some-parts counts (steps_of lines) (steps.some lines);
      cover = covered;
      within = (inside 0 (sum counts) (map (step_part counts) (steps_of lines)) covered).1;
      views = subst (AreNextViews []) (sym (views-are counts (steps_of lines))) (steps.views lines);
    }
