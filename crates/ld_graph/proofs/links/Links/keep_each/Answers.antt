use Rattle.std.proofs.Common.{◌≡◌, ◌∙◌, ℕ, List, true, get_or, below_more, arith, subst}
use Rattle.std.proofs.lemmas.List.{get_or_default}
use Rattle.ld_graph.specs.Inside.Linking.{has_spare}
use Rattle.ld_graph.proofs.Keeping.{keeps_more, keeps_none}
use Rattle.ld_graph.proofs.links.Links.keep_each.Goals as goal

pub loop-name-init : goal.loop-name-init
loop-name-init c = record { same = keeps_none c.args.self.now; spares = λ k lt. absurd (omega arith) }

pub returns-in_err-keep-clause-same : goal.returns-in_err-keep-clause-same
returns-in_err-keep-clause-same c = keeps_more c.args.self.now c.loop-name.self c.keep.new.self c.loop-name.invariant.same c.keep.ensures.same

pub loop-name-preserved : goal.loop-name-preserved
loop-name-preserved c =
    let before = c.loop-name.invariant in
    let i = c.loop-name.name-index in
    let names = c.args.names.now in
    record {
      same = keeps_more c.args.self.now c.loop-name.self c.keep.new.self before.same c.keep.ensures.same;
      spares = below_more (λ k. (d : List ℕ) → has_spare c.keep.new.self (get_or names k d) ≡ true) i
          (λ k lt d. c.keep.ensures.same.spares (get_or names k d) (before.spares k lt d))
          (λ d. subst (λ name. has_spare c.keep.new.self name ≡ true) (c.name-item.is ∙ get_or_default names i c.name-item.result d c.loop-name-test.true) c.in_ok-keep.ensures.spare);
    }

pub returns-clause-same : goal.returns-clause-same
returns-clause-same c = c.loop-name.invariant.same

pub returns-clause-spares : goal.returns-clause-spares
returns-clause-spares c = λ k d lt. c.loop-name.invariant.spares k (omega (arith, lt, c.loop-name-test.false)) d
