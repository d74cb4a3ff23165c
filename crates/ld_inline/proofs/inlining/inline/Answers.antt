use Rattle.std.proofs.Common.{rules}
use Rattle.std.specs.Prelude.{All}
use Rattle.ld_colour.specs.Table.{counting}
use Rattle.ld_inline.specs.Inside.Shown.{IsShown}
use Rattle.ld_inline.proofs.Meaning.{means-flat}
use Rattle.ld_inline.proofs.inlining.inline.Goals as goal

pub returns-in-Ok-clause-means : goal.returns-in-Ok-clause-means
returns-in-Ok-clause-means c =
    let shown : All IsShown c.args.entries.now = search rules in
    means-flat (record { lines = c.lines_law.ensures; colours = c.colour_law.ensures; drawn = c.draw_law.ensures; steps = c.step_law.ensures }) c.under_laws.ensures (counting c.args.table.now) c.rgb_law.ensures c.args.entries.now c.args.steps.now shown c.in-Ok.ensures.shown c.requires c.in-Ok.text.items c.in-Ok.ensures.text
