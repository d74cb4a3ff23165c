use Rattle.std.proofs.Common.{◌≡◌, length}
use Rattle.std.specs.Prelude.{All}
use Rattle.ld_colour.specs.Table.{counting}
use Rattle.ld_inline.specs.Inside.Shown.{IsShown}
use Rattle.ld_inline.specs.Text.{first_missing}
use Rattle.ld_inline.proofs.inlining.missing.Given as goal

abbrev pub invariant-loop-entry : goal.invariant-loop-entry
invariant-loop-entry l = record {
  code : first_missing (counting l.table) l.rest ≡ first_missing (counting l.table) l.entries;
  shown : All IsShown l.rest → All IsShown l.entries;
}

abbrev pub decreases-loop-entry : goal.decreases-loop-entry
decreases-loop-entry l = length l.rest
