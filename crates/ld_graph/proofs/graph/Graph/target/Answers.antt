use Rattle.std.proofs.Common.{rules, take}
use Rattle.ld_graph.proofs.Moves.{end-full, end-nowhere, end-twice, lead-set}
use Rattle.ld_graph.proofs.graph.Graph.target.Goals as goal

-- src/moving.rt:34:17
pub returns-in_default : goal.returns-in_default
returns-in_default c = end-nowhere c.number_law.ensures c.file_laws.ensures.same c.lookup_law.ensures.finds c.args.reader.now.texts.known c.known.ensures.distinct c.loop-count.count (take c.loop-count.count c.loop-count.before) c.loop-count.last c.args.id c.loop-count.invariant (search rules)

-- src/moving.rt:37:17
pub returns-then-is_among : goal.returns-then-is_among
returns-then-is_among c = end-twice c.number_law.ensures c.file_laws.ensures.same c.lookup_law.ensures.finds c.args.reader.now.texts.known c.known.ensures.distinct c.loop-count.count (take c.loop-count.count c.loop-count.before) c.loop-count.last c.in-Some.next c.args.id c.loop-count.invariant (search rules) (search rules)

-- src/moving.rt:32:9
pub loop-count-preserved : goal.loop-count-preserved
loop-count-preserved c = lead-set c.number_law.ensures c.file_laws.ensures.same c.lookup_law.ensures.finds c.args.reader.now.texts.known c.known.ensures.distinct c.loop-count.count c.loop-count.before c.loop-count.last c.in-Some.next c.args.id (search rules) c.loop-count.invariant (search rules) (search rules) (search rules)

-- src/moving.rt:21:5
pub returns : goal.returns
returns c = end-full c.number_law.ensures c.file_laws.ensures.same c.lookup_law.ensures.finds c.args.reader.now.texts.known c.known.ensures.distinct c.loop-count.count (take c.loop-count.count c.loop-count.before) c.loop-count.last c.args.id c.loop-count.invariant (search rules)
