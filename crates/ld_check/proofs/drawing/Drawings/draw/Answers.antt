use Rattle.std.proofs.Common.{sym}
use Rattle.ld_check.proofs.Drawn.{drawn_more, none_repeated, repeated}
use Rattle.ld_check.proofs.drawing.Drawings.draw.Goals as goal

pub returns-in_default-clause-repeated : goal.returns-in_default-clause-repeated
returns-in_default-clause-repeated c lines drew = none_repeated c.args.line.now (sym c.in_default.ensures) lines

pub returns-clause-repeated : goal.returns-clause-repeated
returns-clause-repeated c lines drew =
    repeated _ c.drawing_law.ensures c.args.self.now.seen.keys lines drew c.args.line.now c.in-Some.drawing _ (sym c.in-Some.ensures) c.in_ok-insert.ensures.added

pub returns-clause-drawn : goal.returns-clause-drawn
returns-clause-drawn c lines bytes says drew =
    drawn_more _ c.drawing_law.ensures c.args.self.now.seen.keys lines drew c.args.line.now c.in-Some.drawing c.insert.new.self.keys bytes (sym c.in-Some.ensures) says c.in_ok-insert.ensures.updates.0
