use Rattle.std.proofs.Common.{◌≡◌, Some, ap, sym, ◌∙◌}
use Rattle.std.specs.Option.{option_copied_mut}
use Rattle.slab.specs.Slab.{get}
use Rattle.ld_graph.proofs.Users.{forgotten}
use Rattle.ld_graph.proofs.linking.forget_name.Goals as goal

-- src/linking.rt:123:1
pub returns-in-Some : goal.returns-in-Some
returns-in-Some c =
    let here : get c.args.nodes.now c.args.key ≡ Some c.in-Some.node.now = sym c.get_mut.ensures.value ∙ ap option_copied_mut c.in-Some.is in
    forgotten c.args.nodes.now c.args.key c.in-Some.node.now c.remove_user.new.self here c.args.text c.remove_user.ensures.name c.remove_user.ensures.numbers c.remove_user.ensures.users c.remove_user.ensures.spare
