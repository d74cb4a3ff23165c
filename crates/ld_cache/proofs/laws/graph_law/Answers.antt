use Rattle.ld_cache.proofs.Graphs.{graphs_agree}
use Rattle.ld_cache.proofs.laws.graph_law.Goals as goal

pub returns : goal.returns
returns c = graphs_agree c.number_law.ensures c.lookup_law.ensures.finds c.items_law.ensures c.target_law.ensures c.clean_law.ensures c.edit_law.ensures c.maps_law.ensures c.agreement_law.ensures
