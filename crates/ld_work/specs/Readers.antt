-- Readers of the same texts.
use Rattle.std.specs.Prelude.{◌≡◌, ℕ, All, IfSome, IsSome, List, [], ◌∷◌, map, None}
use Rattle.std.specs.List.{sum_by}
use Rattle.ld_names.specs.Standing.{Known}
use Rattle.ld_names.specs.declared.file.TextId.{TextId}
use Rattle.ld_texts.specs.Known.{file_at, lines_at}
use Rattle.ld_texts.specs.Reach.{wanted}
use Rattle.ld_graph.specs.Reading.{Reading}

-- what the first reader knows
abbrev pub known_by : List Reading → Known
known_by [] = []
known_by (reader ∷ readers) = reader.texts.known

-- each reads these texts
abbrev pub AreOver : Known → List Reading → Type 0
AreOver known readers = All (λ reader. reader.texts.known ≡ known) readers

-- as many readers, over the same texts
abbrev pub KeepTexts : List Reading → List Reading → Type 0
KeepTexts old new = map (λ reader. reader.texts) new ≡ map (λ reader. reader.texts) old

-- how many lines they have read together
abbrev pub reads_together : List Reading → ℕ
reads_together = sum_by (λ reader. reader.reads)

-- a root that is there, and all that it reaches is known
pub record IsLearntRoot (known : Known) (root : TextId) : Type 0 where
  pub present : IsSome (lines_at known root.0)
  pub wanted : IfSome (file_at known root.0) (λ file. wanted known file ≡ None)
