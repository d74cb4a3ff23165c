use Rattle.std.proofs.Common.{ap, sym, subst, ◌∙◌, ◌≤◌}
use Rattle.ld_texts.specs.Known.{weight_of}
use Rattle.ld_texts.specs.Editing.{misses}
use Rattle.ld_texts.specs.Learning.{Texts}
use Rattle.ld_texts.proofs.Refused.{delete-refusal}
use Rattle.ld_texts.proofs.texts.Texts.delete_refusal.Goals as goal

pub returns : goal.returns
returns c =
    let within = subst (λ (texts : Texts). weight_of texts.known ≤ texts.max_weight) c.self.view_is c.self.invariant.0.fits in
    c.misses.ensures ∙ ap (misses 0 c.args.line) c.in-Some.ensures.lines ∙ sym (delete-refusal c.args.self.now.max_weight c.args.self.now.known within c.args.file.now c.args.line)
