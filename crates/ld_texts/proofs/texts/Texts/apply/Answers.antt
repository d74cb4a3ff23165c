use Rattle.std.proofs.Common.{◌∙◌, ap}
use Rattle.ld_texts.specs.Learning.{known_after}
use Rattle.ld_texts.proofs.Edited.{applied}
use Rattle.ld_texts.proofs.texts.Texts.apply.Goals as goal

pub returns-in-Ok-clause-result : goal.returns-in-Ok-clause-result
returns-in-Ok-clause-result c =
    let known = c.commit.ensures.known ∙ ap (λ known. known_after known c.in-Ok.ready) c.in-Ok.ensures.same.known in
    (applied c.args.self.now.known c.commit.new.self.known c.in-Ok.ready c.args.edit.now c.commit.result c.in-Ok.ensures.result.0 known c.commit.ensures.change, c.in-Ok.ensures.result.1)
