-- What each file that is learnt leaves, learning leaves.
use Rattle.std.proofs.Common.{◌≡◌, ◌-◌, ◌++◌, ℕ, zero, suc, [], ◌∷◌, length, Option, Some, None, Result, Ok, Err, refl}
use Rattle.ld_io.specs.Shelf.{Files}
use Rattle.ld_names.specs.Standing.{Known, Text}
use Rattle.ld_names.specs.declared.file.FileId.{FileId}
use Rattle.ld_texts.specs.declared.change.Over.TheVariants.{Files as TooMany}
use Rattle.ld_engine.specs.Learning.{Full, Learnt, Stop, Wanting, bytes_on, fetched, learn, learning_by, learning_on, learnt, stopped}
use Rattle.ld_engine.specs.declared.limits.Limits.{Limits}

module _ (limits : Limits) (files : Files) (wants : Wanting) (P : Known → Type 0) (keeps : (known : Known) (file : FileId) (text : Text) → wants known ≡ Some file → fetched limits known file (bytes_on files file) ≡ Ok text → P known → P (known ++ (file, text) ∷ [])) where
  -- what the file that is wanted makes of it
  abbrev at_limit : Known → Option FileId → Learnt
  at_limit known next = elim next [ None ↦ learnt known | Some file ↦ stopped known (Full (TooMany (length known))) ]

  abbrev below_limit : (Known → Learnt) → Known → Option FileId → Learnt
  below_limit further known next =
      elim next [ None ↦ learnt known | Some file ↦ learning_on further known file (fetched limits known file (bytes_on files file)) ]

  step-keeps : (further : Known → Learnt) → ((known : Known) → P known → P (further known).known) → (known : Known) (next : FileId) → wants known ≡ Some next → (result : Result Text Stop) → fetched limits known next (bytes_on files next) ≡ result → P known → P (learning_on further known next result).known
  step-keeps further all known next is (Err stop) told holds = holds
  step-keeps further all known next is (Ok text) told holds = all (known ++ (next, text) ∷ []) (keeps known next text is told holds)

  learn-keeps : (left : ℕ) (known : Known) → P known → P (learn left limits files wants known).known
  learn-keeps zero known holds = by (wants known)
    where
      by : (next : Option FileId) → P (at_limit known next).known
      by None = holds
      by (Some next) = holds
  learn-keeps (suc left) known holds = by (learn-keeps left) (wants known) refl
    where
      by : ((known : Known) → P known → P (learn left limits files wants known).known) → (next : Option FileId) → wants known ≡ next → P (below_limit (learn left limits files wants) known next).known
      by further None is = holds
      by further (Some next) is = step-keeps (learn left limits files wants) further known next is (fetched limits known next (bytes_on files next)) refl holds

  pub learning-keeps : (known : Known) → P known → P (learning_by limits files wants known).known
  unfolding learning_by
  learning-keeps known holds = learn-keeps (limits.texts - length known) known holds
