use Rattle.std.proofs.Common.{arith, ap, ◌∙◌}
use Rattle.ld_texts.specs.Inside.Placed.{with_text_at}
use Rattle.ld_texts.specs.Learning.{Texts}
use Rattle.ld_texts.specs.Known.{weight_of_text}
use Rattle.ld_texts.proofs.Placed.{given, set-entry, weight_of-with_text_at}
use Rattle.ld_texts.proofs.texts.Texts.put.Goals as goal

pub overflow_add-self : goal.overflow_add-self
overflow_add-self c =
    let view = c.self.view_is in
    let absent = rw (← view) at c.requires.absent in
    let fits = rw (← view) at c.requires.fits in
    let inside = rw (← view) at c.requires.within in
    omega (arith, c.weigh_text.ensures, c.self.invariant.0.weight, c.self.invariant.0.light, ap weight_of_text absent, fits, weight_of-with_text_at c.self.inside.files.items c.args.id.0 c.args.text inside)

pub invariant_of-self : goal.invariant_of-self
invariant_of-self c =
    let view = c.self.view_is in
    given c.self.inside.files.items c.self.inside.ids.entries c.args.id.0 c.index_mut.result.now c.args.text c.self.inside.weight c.weigh_text.result _ _ (rw (← view) at c.requires.within) c.index_mut.ensures.value (rw (← view) at c.requires.absent) c.weigh_text.ensures (rw (← view) at c.requires.fits) c.self.invariant

pub returns-clause-known : goal.returns-clause-known
returns-clause-known c =
    let view = c.self.view_is in
    set-entry c.self.inside.files.items c.args.id.0 c.index_mut.result.now c.args.text (rw (← view) at c.requires.within) c.index_mut.ensures.value
    ∙ ap (λ (texts : Texts). with_text_at texts.known c.args.id.0 c.args.text) c.self.view_is
