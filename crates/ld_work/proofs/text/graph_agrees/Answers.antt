use Rattle.ld_work.proofs.Agreed.{agreed}
use Rattle.ld_work.proofs.text.graph_agrees.Goals as goal

pub returns : goal.returns
returns c = agreed c.graph_law.ensures c.found_law.ensures c.number_law.ensures c.args.reader.now.texts c.known.ensures.distinct c.args.graph.now c.args.depth c.requires.graph c.requires.depth
