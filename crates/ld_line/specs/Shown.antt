-- The lines that show something: File Format 1.0.2, "Line Type 1" to "Line Type 5".
use Rattle.std.specs.Prelude.{◌≡◌, ℕ, Bool, true, false, List, [], ◌∷◌, ⊤}
use Rattle.ld_line.specs.declared.line.Line.{Line}
use Rattle.ld_line.specs.declared.line.Line.TheVariants.{Draw, Ref}

-- a line that refers to a file or draws
abbrev pub shows : Line → Bool
shows (Ref colour placement name) = true
shows (Draw kind colour points) = true
shows line = false

-- how many entries each line gives: none where it shows nothing
abbrev pub GiveEntries : List Line → List ℕ → Type 0
GiveEntries [] [] = ⊤
GiveEntries (line ∷ lines) (count ∷ counts) = (shows line ≡ false → count ≡ 0) × GiveEntries lines counts
GiveEntries lines counts = ⊥
