use Rattle.std.proofs.Common.{subst}
use Rattle.std.specs.Prelude.{All}
use Rattle.std.specs.Map.{values_of}
use Rattle.ld_colour.specs.declared.table.Table.{Table}
use Rattle.ld_colour.specs.Rgb.{HasRgb}
use Rattle.ld_colour.proofs.Rgb.{values}
use Rattle.ld_colour.proofs.table.Table.rgb_law.Goals as goal

pub returns : goal.returns
returns c =
    values c.args.self.now (subst (λ (table : Table). All HasRgb (values_of table)) c.self.view_is c.self.invariant)
