-- What is kept of a file stands for the file at the end of a way.
use Rattle.std.proofs.Common.{◌≡◌, ◌≤◌, ◌++◌, ◌&&◌, Bool, true, false, cond, ℕ, List, [], ◌∷◌, Option, Some, None, refl, ap, sym, subst, ◌∙◌}
use Rattle.std.specs.Option.{is_some}
use Rattle.ld_names.specs.declared.file.TextId.{TextId}
use Rattle.ld_entry.specs.Answers.{left_below, until_end}
use Rattle.ld_entry.specs.Expansion.{neutral_expansion}
use Rattle.ld_entry.specs.Heights.{IsLow, IsWalk}
use Rattle.ld_entry.specs.Laws.{CutLaws, ReuseLaw}
use Rattle.ld_entry.specs.NumberedTexts.{NumberedTexts}
use Rattle.ld_entry.specs.Outcomes.{all}
use Rattle.ld_entry.specs.declared.entry.Entry.{Entry}
use Rattle.ld_entry.specs.declared.entry.Expansion.{Expansion}
use Rattle.ld_entry.specs.declared.entry.Fault.{Fault}
use Rattle.ld_work.specs.Inside.Gathering.{alone, Gathers, shown}
use Rattle.ld_work.proofs.Gathered.{cut-gathered}

-- a kept expansion of a low text is taken
pub taken-if : (low : Bool) (kept : Option Expansion) (expansion : Expansion) → cond low kept None ≡ Some expansion → (low ≡ true) × (kept ≡ Some expansion)
taken-if true kept expansion is = (refl, is)
taken-if false kept expansion is = cc

-- and where none is taken, none is given
pub not-given : (low : Bool) (kept : Option Expansion) → cond low kept None ≡ None → (is_some kept && low) ≡ false
not-given true None is = refl
not-given true (Some expansion) is = cc
not-given false None is = refl
not-given false (Some expansion) is = refl

module _ (cuts : CutLaws) (reuse : ReuseLaw) (texts : NumberedTexts) (depth entries most : ℕ) (way : List TextId) (file : TextId) (expansion : Expansion) (neutral : expansion ≡ neutral_expansion texts depth entries [] file) (few : most ≤ entries) (walk : IsWalk texts (way ++ file ∷ [])) (low : IsLow texts depth way file) where
  -- it shows the cut of what the file gives there
  taken-shows : shown expansion.entries expansion.end ≡ until_end entries (all (left_below depth way) (alone texts way file))
  taken-shows = ap (λ (e : Expansion). shown e.entries e.end) neutral ∙ sym (reuse.alone texts depth entries way file walk low)

  pub taken-gives : (old new : List Entry) (end : Option Fault) → Gathers most old new end (shown expansion.entries expansion.end) → Gathers most old new end (all (left_below depth way) (alone texts way file))
  taken-gives old new end gives = cut-gathered cuts most entries old new end _ few (subst (Gathers most old new end) taken-shows gives)
