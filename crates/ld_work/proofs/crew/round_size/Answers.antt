use Rattle.ld_work.specs.Inside.Agreeing.{height_in}
use Rattle.ld_work.proofs.Levels.{level-of}
use Rattle.ld_work.proofs.crew.round_size.Goals as goal

pub returns-else-height-level-clause-level : goal.returns-else-height-level-clause-level
returns-else-height-level-clause-level c =
    level-of (height_in c.args.graph.now) c.args.rest.now c.loop-count.count _ c.height-level.result c.requires.some c.loop-count.invariant.within c.height-level.ensures c.loop-count.invariant.level

pub returns-else-count-rest-clause-level : goal.returns-else-count-rest-clause-level
returns-else-count-rest-clause-level c =
    level-of (height_in c.args.graph.now) c.args.rest.now c.loop-count.count _ c.height-level.result c.requires.some c.loop-count.invariant.within c.height-level.ensures c.loop-count.invariant.level

pub returns-after-loop-count-clause-level : goal.returns-after-loop-count-clause-level
returns-after-loop-count-clause-level c =
    level-of (height_in c.args.graph.now) c.args.rest.now c.loop-count.count _ c.height-level.result c.requires.some c.loop-count.invariant.within c.height-level.ensures c.loop-count.invariant.level
