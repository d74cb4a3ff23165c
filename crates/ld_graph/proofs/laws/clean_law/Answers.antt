use Rattle.ld_graph.proofs.Clean.{clean_texts_stay}
use Rattle.ld_graph.proofs.laws.clean_law.Goals as goal

pub returns : goal.returns
returns c = clean_texts_stay c.number_law.ensures c.file_laws.ensures.same c.lookup_law.ensures.finds c.items_law.ensures c.edit_law.ensures c.dirt_law.ensures.others
