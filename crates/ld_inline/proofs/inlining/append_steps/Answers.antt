use Rattle.std.proofs.Common.{◌≡◌, ◌∷◌, length, rules}
use Rattle.ld_colour.specs.Table.{counting}
use Rattle.ld_inline.proofs.Texts.{shown_more, steps_more, within_more}
use Rattle.ld_inline.proofs.inlining.append_steps.Goals as goal

pub loop-step-preserved : goal.loop-step-preserved
loop-step-preserved c =
    let step = c.in-Some.step.now in
    let more = c.in-Some.more.now in
    let before = c.loop-step.before.now in
    let view = c.as_slice-before.result.now in
    let is : c.loop-step.rest.now ≡ step ∷ more = search rules in
    record {
      within = within_more (length c.args.entries.now) c.loop-step.rest.now more step is c.loop-step.invariant.within;
      text = steps_more (counting c.args.table.now) c.args.entries.now before view c.loop-step.clip c.in_ok-clip.clip c.loop-step.rest.now more step c.loop-step.into.items c.append_part.new.into.items _ is c.as_slice-before.ensures c.in_ok-clip.ensures.stands c.in_ok-clip.ensures.text c.loop-step.invariant.text;
      shown = shown_more before view c.loop-step.rest.now more c.args.steps.now step is c.as_slice-before.ensures c.in_ok-clip.ensures.shown c.loop-step.invariant.shown;
    }
