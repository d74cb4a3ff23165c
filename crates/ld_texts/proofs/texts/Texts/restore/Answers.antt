use Rattle.std.proofs.Common.{◌≡◌, ◌≤◌, ◌^◌, ◌-◌, ap, arith, min, sym, subst, ◌∙◌, Some}
use Rattle.ld_texts.specs.Inside.Kept.{IsWithin}
use Rattle.ld_texts.specs.Inside.Placed.{with_text_at}
use Rattle.ld_texts.specs.Known.{weight_of_lines}
use Rattle.ld_texts.specs.Learning.{Texts}
use Rattle.ld_texts.specs.declared.edit.Edit.TheVariants.{Restore}
use Rattle.ld_texts.proofs.Changed.{absent_at, restored_light}
use Rattle.ld_texts.proofs.Placed.{written_at}
use Rattle.ld_texts.proofs.Refused.{fits, option_or_none}
use Rattle.ld_texts.proofs.texts.Texts.restore.Goals as goal

pub new-text-requires : goal.new-text-requires
new-text-requires c =
    let within = subst (λ (texts : Texts). IsWithin texts.known c.self.inside.weight texts.max_files texts.max_weight) c.self.view_is c.self.invariant.0 in
    let light : weight_of_lines c.args.lines ≤ c.args.self.now.max_weight = restored_light c.args.self.now.max_weight c.args.self.now.known c.args.file c.args.lines c.number-id.result.0 c.number-id.ensures.number c.requires.fits in
    let weight : c.weigh-weight.result ≡ min (weight_of_lines c.args.lines) (2 ^ 64 - 1) = c.weigh-weight.ensures ∙ ap (λ lines. min (weight_of_lines lines) (2 ^ 64 - 1)) c.as_slice.ensures in
    omega (arith, weight, light, within.light)

pub put-requires-clause-absent : goal.put-requires-clause-absent
put-requires-clause-absent c =
    absent_at c.args.self.now.known c.args.file _ (option_or_none _ _ (option_or_none _ _ c.requires.fits).0).1 c.number-id.ensures.number

pub put-requires-clause-fits : goal.put-requires-clause-fits
put-requires-clause-fits c =
    let is = written_at c.args.self.now.known c.args.file _ (Some c.args.lines) c.number-id.ensures.number in
    rw (c.new-text.ensures, ← is) (fits _ c.args.self.now.known (Restore c.args.file c.args.lines) c.requires.fits)

pub returns-clause-known : goal.returns-clause-known
returns-clause-known c =
    let is = written_at c.args.self.now.known c.args.file _ (Some c.args.lines) c.number-id.ensures.number in
    c.put.ensures.known ∙ ap (λ lines. with_text_at c.args.self.now.known c.number-id.result.0 (Some lines)) c.new-text.ensures ∙ sym is
