use Rattle.std.proofs.Common.{ℕ, List, get_or, take, sym, subst, arith}
use Rattle.std.proofs.lemmas.List.{take_all, take_more}
use Rattle.ld_graph.specs.Inside.Nodes.{Forgets}
use Rattle.ld_graph.proofs.Users.{forgets_more, forgets_none}
use Rattle.ld_graph.proofs.linking.forget_names.Goals as goal

pub loop-key-init : goal.loop-key-init
loop-key-init c = forgets_none c.args.nodes.now c.args.text

pub loop-key-preserved : goal.loop-key-preserved
loop-key-preserved c =
    let keys = c.args.keys.now in
    let index = c.loop-key.key-index in
    subst (λ (first : List ℕ). Forgets c.args.nodes.now c.forget_name.new.nodes first c.args.text) (sym (take_more keys index 0 (omega arith))) (forgets_more c.args.nodes.now c.loop-key.nodes c.forget_name.new.nodes (take index keys) (get_or keys index 0) c.args.text c.loop-key.invariant c.forget_name.ensures)

pub returns : goal.returns
returns c = subst (λ (all : List ℕ). Forgets c.args.nodes.now c.loop-key.nodes all c.args.text) (take_all c.loop-key.key-index c.args.keys.now (omega arith)) c.loop-key.invariant
