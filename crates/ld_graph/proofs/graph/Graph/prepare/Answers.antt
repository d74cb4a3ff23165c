use Rattle.std.proofs.Common.{◌≡◌, IfOk, rules, subst}
use Rattle.ld_graph.proofs.Readied.{edits_is, learns_is}
use Rattle.ld_graph.proofs.graph.Graph.prepare.Goals as goal

-- src/ready.rt:43:5
pub returns-in-Some-clause-change : goal.returns-in-Some-clause-change
returns-in-Some-clause-change c = subst (λ wanted. IfOk c.prepare_edited.result (λ change. change ≡ wanted)) (edits_is c.args.texts.now.known c.args.ready.now c.in-Some.edit.now (search rules)) c.prepare_edited.ensures.change

-- src/ready.rt:43:5
pub returns-in-None-clause-change : goal.returns-in-None-clause-change
returns-in-None-clause-change c = subst (λ wanted. IfOk c.prepare_learnt.result (λ change. change ≡ wanted)) (learns_is c.args.texts.now.known c.args.ready.now c.unwrap-file.result.now (search rules) (search rules)) (rw c.learnt_lines.ensures at c.prepare_learnt.ensures.change)
