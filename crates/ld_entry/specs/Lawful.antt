-- Entries as lines give them.
use Rattle.std.specs.Prelude.{◌≡◌, ◌-◌, true, pos, drop, replicate, Ok, Err, ⊤}
use Rattle.ld_num.specs.declared.point.Point.{Point}
use Rattle.ld_line.specs.Kind.{points_in}
use Rattle.ld_colour.specs.Colour.{is_lawful}
use Rattle.ld_entry.specs.Carrying.{Outcome}
use Rattle.ld_entry.specs.declared.entry.Entry.{Entry}
use Rattle.ld_entry.specs.declared.entry.Entry.TheVariants.{Drawn, Part}

abbrev pub zero_point : Point
zero_point = record { x = pos 0; y = pos 0; z = pos 0 }

-- an entry of a lawful colour, whose points that are not used are zero
abbrev pub IsLawfulEntry : Entry → Type 0
IsLawfulEntry (Drawn kind certified clip winding colour source points) = (is_lawful colour ≡ true) × (drop (points_in kind) points ≡ replicate (4 - points_in kind) zero_point)
IsLawfulEntry (Part file colour source) = is_lawful colour ≡ true

abbrev pub IsLawfulOutcome : Outcome → Type 0
IsLawfulOutcome (Ok entry) = IsLawfulEntry entry
IsLawfulOutcome (Err fault) = ⊤
