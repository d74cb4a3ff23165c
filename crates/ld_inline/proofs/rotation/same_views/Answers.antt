use Rattle.std.proofs.Common.{◌∙◌}
use Rattle.ld_inline.proofs.Texts.{same_views}
use Rattle.ld_inline.proofs.rotation.same_views.Goals as goal

pub returns : goal.returns
returns c = c.eq.ensures ∙ same_views _ c.turn_law.ensures c.args.view.now c.args.before.now
