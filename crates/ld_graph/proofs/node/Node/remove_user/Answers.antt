use Rattle.std.proofs.Common.{◌==◌, not, rules}
use Rattle.std.proofs.lemmas.Fn.{filter_same}
use Rattle.ld_graph.proofs.Written.{kept_exactly}
use Rattle.ld_graph.proofs.node.Node.remove_user.Goals as goal

pub returns-clause-users : goal.returns-clause-users
returns-clause-users c =
    let e = filter_same _ (λ x. not (x == c.args.text)) _ (λ x b f' k. search rules) _ _ c.retain.ensures.filtered in
    λ user. rw e (kept_exactly c.args.self.now.users.items c.args.text user)
