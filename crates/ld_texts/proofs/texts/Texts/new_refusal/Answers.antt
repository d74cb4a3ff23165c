use Rattle.std.proofs.Common.{ap, sym, subst, ◌∙◌, ◌≤◌}
use Rattle.std.specs.Option.{is_some}
use Rattle.ld_texts.specs.Known.{weight_of}
use Rattle.ld_texts.specs.Learning.{Texts}
use Rattle.ld_texts.specs.Editing.{refused_if}
use Rattle.ld_texts.specs.declared.edit.EditRefusal.TheVariants.{FileThere}
use Rattle.ld_texts.proofs.Refused.{new-refusal}
use Rattle.ld_texts.proofs.texts.Texts.new_refusal.Goals as goal

pub returns-in-None : goal.returns-in-None
returns-in-None c =
    let within = subst (λ (texts : Texts). weight_of texts.known ≤ texts.max_weight) c.self.view_is c.self.invariant.0.fits in
    ap (λ text. refused_if (is_some text) FileThere) c.in-None.ensures.lines ∙ sym (new-refusal c.args.self.now.max_weight c.args.self.now.known within c.args.file.now)
