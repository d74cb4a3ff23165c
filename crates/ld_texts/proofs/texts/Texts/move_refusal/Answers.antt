use Rattle.std.proofs.Common.{ap, sym, subst, ◌∙◌, ◌≤◌}
use Rattle.std.specs.Option.{is_none, is_some, option_or}
use Rattle.ld_texts.specs.Known.{weight_of}
use Rattle.ld_texts.specs.Learning.{Texts}
use Rattle.ld_texts.specs.Editing.{refused_if, text_of}
use Rattle.ld_texts.specs.declared.edit.EditRefusal.TheVariants.{FileThere, NoFile}
use Rattle.ld_texts.proofs.Refused.{move-refusal, new-refusal}
use Rattle.ld_texts.proofs.texts.Texts.move_refusal.Goals as goal

pub returns-in-None : goal.returns-in-None
returns-in-None c =
    let within = subst (λ (texts : Texts). weight_of texts.known ≤ texts.max_weight) c.self.view_is c.self.invariant.0.fits in
    ap (λ text. option_or (refused_if (is_none text) NoFile) (refused_if (is_some (text_of c.args.self.now.known c.args.to.now)) FileThere)) c.in-None.ensures.lines ∙ sym (move-refusal c.args.self.now.max_weight c.args.self.now.known within c.args.from.now c.args.to.now)

pub returns-in-Some : goal.returns-in-Some
returns-in-Some c =
    let within = subst (λ (texts : Texts). weight_of texts.known ≤ texts.max_weight) c.self.view_is c.self.invariant.0.fits in
    c.new_refusal.ensures ∙ new-refusal c.args.self.now.max_weight c.args.self.now.known within c.args.to.now
    ∙ ap (λ text. option_or (refused_if (is_none text) NoFile) (refused_if (is_some (text_of c.args.self.now.known c.args.to.now)) FileThere)) c.in-Some.ensures.lines ∙ sym (move-refusal c.args.self.now.max_weight c.args.self.now.known within c.args.from.now c.args.to.now)
