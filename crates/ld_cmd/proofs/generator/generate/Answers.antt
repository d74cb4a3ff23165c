use Rattle.std.proofs.Common.{◌≡◌, ◌∙◌, ◌++◌, ap, sym, arith, append_assoc}
use Rattle.ld_cmd.specs.Generator.{brick_lines, bricks, gen_block, generated, stud_block}
use Rattle.ld_cmd.proofs.Bricks.{all_made, bricks-more, generated-short}
use Rattle.ld_cmd.proofs.generator.generate.Goals as goal

pub loop-index-preserved : goal.loop-index-preserved
loop-index-preserved c =
    let index = c.loop-index.index in
    c.in_ok-append_brick.ensures ∙ ap (λ text. text ++ brick_lines index) c.loop-index.invariant
    ∙ append_assoc gen_block (bricks index) (brick_lines index) ∙ ap (λ lines. gen_block ++ lines) (sym (bricks-more index))

pub returns-clause-text : goal.returns-clause-text
returns-clause-text c =
    let last = c.in_ok-extend_from_slice-3.ensures.items ∙ ap (λ text. text ++ stud_block) c.in_ok-extend_from_slice-2.ensures.items in
    all_made c.args.count c.loop-index.index c.loop-index.text.items _ (omega arith) c.loop-index.invariant last

pub returns-clause-short : goal.returns-clause-short
returns-clause-short c = λ low.
    let last = c.in_ok-extend_from_slice-3.ensures.items ∙ ap (λ text. text ++ stud_block) c.in_ok-extend_from_slice-2.ensures.items in
    let made : c.extend_from_slice-3.new.self.items ≡ generated c.args.count = all_made c.args.count c.loop-index.index c.loop-index.text.items _ (omega arith) c.loop-index.invariant last in
    rw made (generated-short c.args.count low)
