use Rattle.std.proofs.Common.{◌≡◌, ◌+◌, ◌++◌, ◌∷◌, ◌∙◌, None, [], length, option_map, ap, ap₂, arith}
use Rattle.std.specs.Prelude.{if◌then◌else◌}
use Rattle.std.specs.Result.{is_ok}
use Rattle.ld_graph.specs.Items.{number_of}
use Rattle.ld_graph.specs.Seen.{items_learnt}
use Rattle.ld_graph.proofs.Learning.{CanRaise, can_raise, learnt_items}
use Rattle.ld_graph.proofs.graph.Graph.learn.Goals as goal

place : (c : goal.After-row_known-1) → c.len-text.result ≡ length c.self.inside.links.items
place c = omega (arith, c.len-text.ensures, c.self.inside.heights.ok, c.self.invariant.size)

items : (c : goal.After-row_known-1) → c.give_listed.new.self.items ≡ c.self.inside.links.items ++ (c.learning.inside.file, option_map (λ names. names.items) c.learning.inside.names) ∷ []
items c = learnt_items c.self.inside.links.items c.add.new.self.items c.give_listed.new.self.items c.learning.inside.file (option_map (λ names. names.items) c.learning.inside.names) c.len-text.result (place c) c.add.ensures.items c.give_listed.ensures

heights : (c : goal.After-row_known-1) → c.push.new.self.items ≡ c.self.inside.heights.items ++ 0 ∷ []
heights c = c.push.ensures.items ∙ ap (λ pushed. if is_ok pushed then c.self.inside.heights.items ++ 0 ∷ [] else c.self.inside.heights.items) c.unwrap.ensures

unknown : (c : goal.After-row_known-1) → number_of c.self.inside.links.items c.learning.inside.file ≡ None
unknown c = ap₂ (λ view learning. number_of view.items learning.file) c.self.view_is c.learning.view_is ∙ c.requires.unknown

raises : (c : goal.After-row_known-1) → CanRaise c.give_listed.new.self.items (c.self.inside.depth + 1) c.push.new.self.items c.len-text.result c.add-2.new.self
raises c =
    can_raise c.file_laws.ensures.same c.self.inside.links.items c.learning.inside.file (option_map (λ names. names.items) c.learning.inside.names) (unknown c) c.self.inside.depth (c.self.inside.depth + 1) c.self.inside.heights.items c.push.new.self.items c.self.invariant.right c.give_listed.new.self.items c.len-text.result c.add-2.new.self (items c) (heights c) (omega arith) (place c)

pub raise_learnt-requires-clause-below : goal.raise_learnt-requires-clause-below
raise_learnt-requires-clause-below c = (raises c).below

pub raise_learnt-requires-clause-floors : goal.raise_learnt-requires-clause-floors
raise_learnt-requires-clause-floors c = (raises c).floors

pub raise_learnt-requires-clause-settled : goal.raise_learnt-requires-clause-settled
raise_learnt-requires-clause-settled c = (raises c).settled

pub returns-clause-items : goal.returns-clause-items
returns-clause-items c =
    let old = c.self.inside.links.items in
    let names = option_map (λ names. names.items) c.learning.inside.names in
    let place : c.len-text.result ≡ length old = omega (arith, c.len-text.ensures, c.self.inside.heights.ok, c.self.invariant.size) in
    learnt_items old c.add.new.self.items c.give_listed.new.self.items c.learning.inside.file names c.len-text.result place c.add.ensures.items c.give_listed.ensures ∙ ap₂ (λ view learning. items_learnt view.items learning) c.self.view_is c.learning.view_is
