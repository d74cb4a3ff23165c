-- Views: how rotation steps turn a model, as MLCad writes them (`0 ROTSTEP x y z ABS`, `REL` and `ADD`, and
-- `0 ROTSTEP END`). That a view is a list of turns, of which the last eight stand, is this project's own.
use Rattle.std.specs.Prelude.{ℕ, true, false, nat_le, if◌then◌else◌, List, [], ◌∷◌, ◌++◌, length, take, drop}
use Rattle.std.specs.List.{fold}
use Rattle.ld_line.specs.declared.line.Line.{Line}
use Rattle.ld_line.specs.declared.line.Line.TheVariants.{Rot}
use Rattle.ld_line.specs.declared.line.RotWord.{RotWord}
use Rattle.ld_line.specs.declared.line.RotWord.TheVariants.{Abs, Rel, Add, End}
use Rattle.ld_steps.specs.declared.step.Turn.{Turn}

-- one turn more; where eight stand, the oldest goes first
abbrev pub one_more : List Turn → Turn → List Turn
one_more view turn = (if nat_le 8 (length view) then drop 1 view else view) ++ turn ∷ []

-- the view behind a rotation step
abbrev pub rotated : RotWord → List Turn → List Turn
rotated (Abs angles) view = record { absolute = true; angles = angles } ∷ []
rotated (Rel angles) view = record { absolute = false; angles = angles } ∷ []
rotated (Add angles) view = one_more view (record { absolute = false; angles = angles })
rotated End view = []

-- the view behind a line: all lines but rotation steps leave it
abbrev pub viewed : List Turn → Line → List Turn
viewed view (Rot word) = rotated word view
viewed view line = view

-- the view behind the first so many lines of a text
abbrev pub view_behind : List Line → ℕ → List Turn
view_behind lines count = fold viewed [] (take count lines)
