-- How large an expansion may be: this project's own.
use Rattle.std.specs.Prelude.{◌≤◌}
use Rattle.ld_work.specs.declared.bounds.Bounds.{Bounds}

pub record AreBounds (bounds : Bounds) : Type 0 where
  pub entries : 1 ≤ bounds.entries
  pub few : bounds.entries ≤ 4000000
  pub depth : 1 ≤ bounds.depth
  pub shallow : bounds.depth ≤ 64
