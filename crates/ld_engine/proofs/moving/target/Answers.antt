use Rattle.std.proofs.Common.{rules, arith, ◌≡◌, subst, sym}
use Rattle.ld_engine.proofs.Moves.{begin, end-full, end-nowhere, end-twice, lead-on, LeadOn}
use Rattle.ld_engine.proofs.moving.target.Goals as goal

-- src/moving.rt:27:5
pub loop-alloc-init : goal.loop-alloc-init
loop-alloc-init c = begin c.number_law.ensures c.file_laws.ensures.same _ c.known.ensures.distinct _ _ c.new-before.ensures.items

-- src/moving.rt:29:13
pub returns-in_default : goal.returns-in_default
returns-in_default c = end-nowhere c.number_law.ensures c.file_laws.ensures.same _ c.known.ensures.distinct _ _ _ c.loop-alloc.invariant (search rules)

-- src/moving.rt:32:13
pub returns-then-on_way : goal.returns-then-on_way
returns-then-on_way c = end-twice c.number_law.ensures c.file_laws.ensures.same _ c.known.ensures.distinct _ _ c.in-Some.next _ c.loop-alloc.invariant (search rules) (search rules)

-- src/moving.rt:27:5
pub loop-alloc-preserved : goal.loop-alloc-preserved
loop-alloc-preserved c =
    let lead = lead-on c.number_law.ensures c.file_laws.ensures.same _ c.known.ensures.distinct c.loop-alloc.before.items c.loop-alloc.last c.in-Some.next c.args.text c.loop-alloc.invariant (search rules) (search rules) (search rules) in
    subst (λ items. LeadOn c.number_law.ensures c.file_laws.ensures.same c.args.texts.now.known c.known.ensures.distinct items c.in-Some.next c.args.text) (sym c.in_ok-push.ensures.ok) lead

-- src/moving.rt:19:1
pub returns : goal.returns
returns c = end-full c.number_law.ensures c.file_laws.ensures.same _ c.known.ensures.distinct _ _ _ c.loop-alloc.invariant (search rules)
