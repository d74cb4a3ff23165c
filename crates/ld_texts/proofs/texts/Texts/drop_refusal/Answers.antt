use Rattle.std.proofs.Common.{ap, sym, subst, ◌∙◌, ◌≤◌}
use Rattle.std.specs.Option.{is_none}
use Rattle.ld_texts.specs.Known.{weight_of}
use Rattle.ld_texts.specs.Learning.{Texts}
use Rattle.ld_texts.specs.Editing.{refused_if}
use Rattle.ld_texts.specs.declared.edit.EditRefusal.TheVariants.{NoFile}
use Rattle.ld_texts.proofs.Refused.{drop-refusal}
use Rattle.ld_texts.proofs.texts.Texts.drop_refusal.Goals as goal

pub returns-in-Some : goal.returns-in-Some
returns-in-Some c =
    let within = subst (λ (texts : Texts). weight_of texts.known ≤ texts.max_weight) c.self.view_is c.self.invariant.0.fits in
    ap (λ text. refused_if (is_none text) NoFile) c.in-Some.ensures.lines ∙ sym (drop-refusal c.args.self.now.max_weight c.args.self.now.known within c.args.file.now)
