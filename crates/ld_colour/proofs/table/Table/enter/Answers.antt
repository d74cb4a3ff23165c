use Rattle.std.proofs.Common.{◌≡◌, ◌∙◌, ℕ, List, sym, subst, map}
use Rattle.std.specs.Prelude.{All, nat_eq}
use Rattle.std.specs.Map.{values_of}
use Rattle.std.proofs.lemmas.Map.Views.{All-values-PutsEntry}
use Rattle.ld_line.specs.Cut.{lines_from}
use Rattle.ld_colour.specs.declared.definition.ColourLine.TheVariants.{Defines}
use Rattle.ld_colour.specs.declared.definition.Definition.{Definition}
use Rattle.ld_colour.specs.Definition.{colour_line}
use Rattle.ld_colour.specs.Rgb.{HasRgb}
use Rattle.ld_colour.specs.Table.{counting}
use Rattle.ld_colour.proofs.Rgb.{DefinesRgb, line-rgb}
use Rattle.ld_colour.proofs.Tables.{refused_step}
use Rattle.ld_colour.proofs.table.Table.enter.Goals as goal
use Rattle.ld_colour.proofs.table.Table.enter.Goals.{in-Ok, in-Err}

pub returns-after-insert-clause-refused : goal.returns-after-insert-clause-refused
returns-after-insert-clause-refused c =
    let defines : colour_line c.args.line.now ≡ Defines c.in-Defines.code c.in-Defines.definition = sym c.colour_line.ensures ∙ c.in-Defines.is in
    elim c.match-insert.branch [
      | in-Ok w ↦ rw w.result-is tt
      | in-Err w ↦ rw w.result-is (refused_step (counting c.args.self.now) c.args.number c.args.line.now (map colour_line (lines_from c.args.behind.now)) c.in-Defines.code c.in-Defines.definition w.refusal.result defines w.refusal.ensures)
    ]

abbrev AllRgb : List (ℕ × Definition) → Type 0
AllRgb entries = All HasRgb (values_of entries)

pub invariant_of-self : goal.invariant_of-self
invariant_of-self c =
    let defines : colour_line c.args.line.now ≡ Defines c.in-Defines.code c.in-Defines.definition = sym c.colour_line.ensures ∙ c.in-Defines.is in
    let rgb : HasRgb c.in-Defines.definition = subst DefinesRgb defines (line-rgb c.args.line.now) in
    elim c.match-insert.branch [
      | in-Ok w ↦ All-values-PutsEntry nat_eq HasRgb c.self.inside.definitions c.insert.new.self c.in-Defines.code c.in-Defines.definition _ w.in-Ok.ensures.entries c.self.invariant rgb
      | in-Err w ↦ subst AllRgb (sym (w.in-Err.ensures.err)) c.self.invariant
    ]
