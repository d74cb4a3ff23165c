use Rattle.std.proofs.Common.{◌≡◌, ◌<◌, ◌*◌, ◌-◌, ℕ, min, get_or, take, drop, length, sym, ap, subst, ◌∙◌, arith}
use Rattle.std.proofs.lemmas.Bool.Decides.{nat_tests}
use Rattle.std.proofs.lemmas.List.{length-drop}
use Rattle.ld_pool.specs.Inside.Blocks.{AreWithin, behind, filled, whole}
use Rattle.ld_pool.specs.Runs.{blocks_for}
use Rattle.ld_pool.proofs.Chains.{behind-none, within-both, within-none}
use Rattle.ld_pool.proofs.Contents.{behind-step, blocks-more, filled-none, filled-step}
use Rattle.ld_pool.proofs.blocks.fill.Goals as goal

pub loop-rest-preserved : goal.loop-rest-preserved
loop-rest-preserved g c =
    let next = c.args.next.now in
    let full = 256 * length next in
    let loop = c.loop-rest.invariant in
    let rest = c.loop-rest.rest.now in
    let at = c.loop-rest.at in
    let over = c.split_at.result.0.now in
    let more = c.split_at.result.1.now in
    let some : 0 < length rest = grind (arith, nat_tests, c.is_empty.ensures) in
    let front : over ≡ take (min (length rest) 256) rest = c.split_at.ensures.front ∙ ap (λ n. take n rest) c.min.ensures in
    let back : more ≡ drop (min (length rest) 256) rest = c.split_at.ensures.back ∙ ap (λ n. drop n rest) c.min.ensures in
    let left : length more ≡ length rest - min (length rest) 256 = ap length back ∙ length-drop (min (length rest) 256) rest in
    let now = c.write.ensures.items full (omega (arith, loop.within)) in
    record {
      items = filled-step (whole c.loop-rest.items.items c.args.blank full) (whole c.write.new.items.items c.args.blank full) next at rest over more some front back now ∙ loop.items;
      behind = behind-step next at (length rest) (length more) some left ∙ loop.behind;
      within = c.requires.links.within at loop.within;
      size = omega (arith, c.write.ensures.len, loop.size, loop.within);
      longer = omega (arith, c.write.ensures.len, loop.longer);
      room = omega (arith, c.write.ensures.room, loop.room);
      stand = λ size h within.
          let behind_it = subst (λ (n : ℕ). AreWithin next size (blocks_for n) (get_or next at 0)) left within in
          let here = within-both next size (blocks_for (length rest - min (length rest) 256)) at (omega (arith, c.write.ensures.len, h)) behind_it in
          loop.stand size (omega (arith, c.write.ensures.len, h)) (subst (λ (n : ℕ). AreWithin next size n at) (sym (blocks-more (length rest) some)) here);
    }

pub returns-clause-items : goal.returns-clause-items
returns-clause-items g c =
    let rest = c.loop-rest.rest.now in
    let items = whole c.loop-rest.items.items c.args.blank (256 * length c.args.next.now) in
    let none : length rest ≡ 0 = grind (arith, nat_tests, c.is_empty.ensures) in
    sym (filled-none items c.args.next.now c.loop-rest.at rest) ∙ (ap (λ n. filled items c.args.next.now (blocks_for n) c.loop-rest.at rest) (sym none) ∙ c.loop-rest.invariant.items)

pub returns-clause-stand : goal.returns-clause-stand
returns-clause-stand g c =
    let next = c.args.next.now in
    let size = length c.loop-rest.items.items in
    let none : length c.loop-rest.rest.now ≡ 0 = grind (arith, nat_tests, c.is_empty.ensures) in
    c.loop-rest.invariant.stand size (omega arith) (subst (λ (n : ℕ). AreWithin next size (blocks_for n) c.loop-rest.at) (sym none) (within-none next size c.loop-rest.at))

pub returns-clause-behind : goal.returns-clause-behind
returns-clause-behind g c =
    let rest = c.loop-rest.rest.now in
    let none : length rest ≡ 0 = grind (arith, nat_tests, c.is_empty.ensures) in
    sym (behind-none c.args.next.now c.loop-rest.at) ∙ (ap (λ n. behind c.args.next.now (blocks_for n) c.loop-rest.at) (sym none) ∙ c.loop-rest.invariant.behind)
