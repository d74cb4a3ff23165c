-- A reader of texts: the texts, and how many lines it has answered. This is the project's own.
use Rattle.std.specs.Prelude.{◌+◌, ◌-◌, ◌^◌, ℕ, List, Option, Some, None, min}
use Rattle.ld_texts.specs.Learning.{Texts}

pub record Reading : Type 0 where
  pub texts : Texts
  pub reads : ℕ

-- the count once a line was asked for: one more where it is there, up to the last number of 64 bits
abbrev pub reads_after : ℕ → Option (List ℕ) → ℕ
reads_after reads None = reads
reads_after reads (Some line) = min (reads + 1) (2 ^ 64 - 1)
