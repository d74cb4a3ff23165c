use Rattle.std.proofs.Common.{◌≡◌, true, rules}
use Rattle.ld_engine.specs.Going.{begins_drawn}
use Rattle.ld_engine.proofs.Types.{begun_reaches}
use Rattle.ld_engine.proofs.going.is_drawn.Goals as goal

pub returns-then-begins_drawn : goal.returns-then-begins_drawn
returns-then-begins_drawn c is =
    let begins : begins_drawn c.args.line.now ≡ true = search rules in begun_reaches c.fields_law.ensures c.args.line.now begins
