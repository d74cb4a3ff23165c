use Rattle.std.proofs.Common.{◌≡◌, Some, ap, sym, ◌∙◌}
use Rattle.std.specs.Option.{option_copied_mut}
use Rattle.slab.specs.Slab.{get}
use Rattle.ld_graph.proofs.Users.{learnt}
use Rattle.ld_graph.proofs.linking.learn_name.Goals as goal

pub returns : goal.returns
returns c =
    let here : get c.args.nodes.now c.args.key ≡ Some c.unwrap.result.now = sym c.get_mut.ensures.value ∙ ap option_copied_mut c.unwrap.ensures in
    learnt c.args.nodes.now c.args.key c.unwrap.result.now c.add_user.new.self here c.args.text c.add_user.ensures.name c.add_user.ensures.numbers c.add_user.ensures.users c.add_user.ensures.room
