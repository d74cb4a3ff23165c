use Rattle.std.proofs.Common.{◌≡◌, List, [], ◌∷◌, map, refl, ap, ◌∙◌, sym, subst, rules}
use Rattle.ld_colour.specs.declared.colour.Colour.{Colour}
use Rattle.ld_colour.specs.declared.colour.Colour.TheVariants.{Main}
use Rattle.ld_colour.specs.Colour.{under}
use Rattle.ld_entry.specs.declared.entry.Entry.{Entry}
use Rattle.ld_entry.specs.declared.entry.Entry.TheVariants.{Drawn, Part}
use Rattle.ld_entry.specs.Laws.{tinted_entry}
use Rattle.ld_engine.proofs.answering.tint.Goals as goal

module _ (unit : (a : Colour) → under a Main ≡ a) where
  same : (entry : Entry) → entry ≡ tinted_entry Main entry
  same (Drawn kind certified clip winding colour source points) = ap (λ c. Drawn kind certified clip winding c source points) (sym (unit colour))
  same (Part file colour source) = ap (λ c. Part file c source) (sym (unit colour))

  all_same : (entries : List Entry) → entries ≡ map (tinted_entry Main) entries
  all_same [] = refl
  all_same (entry ∷ entries) = ap (λ e. e ∷ entries) (same entry) ∙ ap (λ es. tinted_entry Main entry ∷ es) (all_same entries)

pub returns-then-eq : goal.returns-then-eq
returns-then-eq c =
    let main : Main ≡ c.args.colour = search rules in
    subst (λ colour. c.args.entries.now.items ≡ map (tinted_entry colour) c.args.entries.now.items) main (all_same c.under_laws.ensures.right_unit c.args.entries.now.items)
