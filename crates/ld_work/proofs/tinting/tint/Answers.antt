use Rattle.std.proofs.Common.{◌≡◌, ap, map, ◌∙◌}
use Rattle.rayon.proofs.ListFacts.{IfOk-then}
use Rattle.rayon.proofs.ToStd.{slice-map}
use Rattle.ld_colour.specs.declared.colour.Colour.{Colour}
use Rattle.ld_entry.specs.Laws.{tinted_entry}
use Rattle.ld_work.proofs.tinting.tint.Goals as goal

pub returns : goal.returns
returns g c =
    let slice = ap (λ it. it.slice.now) c.map.ensures.base ∙ c.par_iter.ensures in
    let colour : c.map.result.f.0 ≡ c.args.colour = ap (λ f. f.0) c.map.ensures.f in
    IfOk-then c.collect.result _ _ c.collect.ensures (λ v h.
    let chain = h.1 in
    rw h.2 (slice-map chain.0 c.args.entries.now (chain.1 ∙ slice) (tinted_entry c.map.result.f.0) h.0 chain.2 ∙ ap (λ (k : Colour). map (tinted_entry k) c.args.entries.now) colour))
