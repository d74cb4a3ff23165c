-- A workspace: its limits, and the texts that it knows within them.
use Rattle.std.specs.Prelude.{◌≡◌, true, [], None, Some, Result, Ok, Err}
use Rattle.ld_texts.specs.Learning.{Texts}
use Rattle.ld_engine.specs.Learning.{are_clean}
use Rattle.ld_engine.specs.Limits.{bad_limit}
use Rattle.ld_engine.specs.declared.limits.Limits.{Limits}
use Rattle.ld_engine.specs.declared.limits.OpenError.{OpenError}
use Rattle.ld_engine.specs.declared.limits.OpenError.TheVariants.{BadLimit, Memory}

pub record Workspace : Type 0 where
  pub limits : Limits
  pub texts : Texts

-- the limits are within their bounds and are those of the texts, of which no line holds a line feed, or begins or ends
-- a block
pub record IsOpen (limits : Limits) (texts : Texts) : Type 0 where
  pub bounds : bad_limit limits ≡ None
  pub files : texts.max_files ≡ limits.texts
  pub weight : texts.max_weight ≡ limits.total_weight
  pub clean : are_clean texts.known ≡ true

-- opened with good limits, and nothing is known; or the first bad limit
abbrev pub Opens : Limits → Result Workspace OpenError → Type 0
Opens limits (Ok workspace) = (bad_limit limits ≡ None) × (workspace.limits ≡ limits) × (workspace.texts.known ≡ [])
Opens limits (Err (BadLimit number)) = bad_limit limits ≡ Some number
Opens limits (Err Memory) = bad_limit limits ≡ None
