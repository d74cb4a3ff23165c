use Rattle.std.proofs.Common.{◌≡◌, ap, sym, ◌∙◌, length, None}
use Rattle.std.proofs.Math.ListN.{set}
use Rattle.ld_texts.specs.Inside.Placed.{with_text_at}
use Rattle.ld_texts.specs.Learning.{Texts}
use Rattle.ld_texts.specs.Known.{lines_at, weight_of_text}
use Rattle.ld_texts.proofs.Placed.{taken, set-entry, lines_at-entry, length-with_text_at, lines_at-with_none}
use Rattle.ld_texts.proofs.texts.Texts.take.Goals as goal

pub invariant_of-self : goal.invariant_of-self
invariant_of-self c =
    let view = c.self.view_is in
    rw c.replace-text.ensures.after (taken c.self.inside.files.items c.self.inside.ids.entries c.args.id.0 c.index_mut.result.now c.self.inside.weight c.weigh_text.result _ _ (rw (← view) at c.requires) c.index_mut.ensures.value (c.weigh_text.ensures ∙ ap weight_of_text c.replace-text.ensures.value) c.self.invariant)

pub returns-clause-text : goal.returns-clause-text
returns-clause-text c =
    let view = c.self.view_is in
    c.replace-text.ensures.value ∙ sym (lines_at-entry c.self.inside.files.items c.args.id.0 c.index_mut.result.now (rw (← view) at c.requires) c.index_mut.ensures.value)
    ∙ ap (λ (texts : Texts). lines_at texts.known c.args.id.0) c.self.view_is

known : (c : goal.After-self-2-1) → set c.self.inside.files.items c.args.id.0 (c.index_mut.result.now.0, c.replace-text.new.dest) ≡ with_text_at c.args.self.now.known c.args.id.0 None
known c =
    let view = c.self.view_is in
    ap (λ text. set c.self.inside.files.items c.args.id.0 (c.index_mut.result.now.0, text)) c.replace-text.ensures.after
    ∙ set-entry c.self.inside.files.items c.args.id.0 c.index_mut.result.now None (rw (← view) at c.requires) c.index_mut.ensures.value
    ∙ ap (λ (texts : Texts). with_text_at texts.known c.args.id.0 None) c.self.view_is

pub returns-clause-known : goal.returns-clause-known
returns-clause-known c = known c

pub returns-clause-count : goal.returns-clause-count
returns-clause-count c = ap length (known c) ∙ length-with_text_at c.args.self.now.known c.args.id.0 None

pub returns-clause-absent : goal.returns-clause-absent
returns-clause-absent c = ap (λ texts. lines_at texts c.args.id.0) (known c) ∙ lines_at-with_none c.args.self.now.known c.args.id.0
