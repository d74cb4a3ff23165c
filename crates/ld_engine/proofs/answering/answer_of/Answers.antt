use Rattle.std.proofs.Common.{◌≡◌, ◌-◌, Ok, Err, length, map, refl, ap, sym, subst, ◌∙◌}
use Rattle.std.specs.List.{All}
use Rattle.std.proofs.lemmas.List.Elements.{All-same}
use Rattle.ld_entry.specs.Answers.{answer, answer_by}
use Rattle.ld_entry.specs.Laws.{tinted_entry}
use Rattle.ld_entry.specs.NumberedTexts.{known_texts}
use Rattle.ld_steps.specs.Steps.{steps_of}
use Rattle.ld_engine.specs.Inside.Ends.{IsWithin, part_by}
use Rattle.ld_engine.specs.Stepping.{steps_in, with_steps}
use Rattle.ld_engine.proofs.Expanded.{answered-is}
use Rattle.ld_engine.proofs.Stepped.{answered-all, stepped, stepped-within}
use Rattle.ld_engine.proofs.answering.answer_of.Goals as goal

pub step_parts-requires : goal.step_parts-requires
step_parts-requires c =
    let texts = known_texts c.args.texts.now.known in
    let given = c.in_ok-entries.field-0 in
    let all = answered-all (tinted_entry c.args.colour) c.args.most given.entries.items c.in-Ok.entries given.end (sym (c.in-Ok.ensures ∙ ap (λ es. answer_by c.args.most es given.end) c.tint.ensures)) in
    let ends = c.in_ok-entries.ensures.ends all.0 all.1 in
    let marks : c.in_ok-marks.marks.items ≡ steps_of (texts.lines c.args.root) = c.in_ok-marks.ensures ∙ ap steps_of (c.as_slice.ensures.value ∙ c.in_ok-lines.ensures.read) in
    let within = stepped-within c.action_law.ensures texts c.args.depth c.args.root c.args.colour given.line_ends.items c.step_laws.ensures ends in
    All-same (IsWithin (length c.as_slice-in-Ok.result.now)) _ _ marks (subst (λ es. All (IsWithin (length es)) (steps_of (texts.lines c.args.root))) (sym c.as_slice-in-Ok.ensures.value) within)

pub returns-in_ok-steps-in-Ok : goal.returns-in_ok-steps-in-Ok
returns-in_ok-steps-in-Ok c =
    let texts = known_texts c.args.texts.now.known in
    let given = c.in_ok-entries.field-0 in
    let shown = c.in-Ok.ensures ∙ ap (λ es. answer_by c.args.most es given.end) c.tint.ensures in
    let all = answered-all (tinted_entry c.args.colour) c.args.most given.entries.items c.in-Ok.entries given.end (sym shown) in
    let ends = c.in_ok-entries.ensures.ends all.0 all.1 in
    let marks : c.in_ok-marks.marks.items ≡ steps_of (texts.lines c.args.root) = c.in_ok-marks.ensures ∙ ap steps_of (c.as_slice.ensures.value ∙ c.in_ok-lines.ensures.read) in
    let steps : c.from_vec.result ≡ steps_in texts c.args.depth c.args.root c.args.colour = c.from_vec.ensures ∙ c.in_ok-steps-in-Ok.ensures ∙ ap (λ es. map (part_by es) c.in_ok-marks.marks.items) c.as_slice-in-Ok.ensures.value ∙ ap (map (part_by given.line_ends.items)) marks ∙ stepped c.action_law.ensures texts c.args.depth c.args.root c.args.colour given.line_ends.items c.step_laws.ensures ends in
    let answered : Ok c.in-Ok.entries ≡ answer texts c.args.depth c.args.most c.args.root c.args.colour = shown ∙ answered-is c.cut_laws.ensures c.action_law.ensures texts c.args.depth c.args.most (c.args.depth - 1) c.args.root c.args.colour given.entries.items given.end refl c.in_ok-entries.ensures.gathers in
    ap (λ s. Ok (record { entries = c.in-Ok.entries; steps = s })) steps ∙ ap (with_steps (steps_in texts c.args.depth c.args.root c.args.colour)) answered

pub returns-in-Err : goal.returns-in-Err
returns-in-Err c =
    let texts = known_texts c.args.texts.now.known in
    let given = c.in_ok-entries.field-0 in
    let answered : Err c.in-Err.fault ≡ answer texts c.args.depth c.args.most c.args.root c.args.colour = c.in-Err.ensures ∙ ap (λ es. answer_by c.args.most es given.end) c.tint.ensures ∙ answered-is c.cut_laws.ensures c.action_law.ensures texts c.args.depth c.args.most (c.args.depth - 1) c.args.root c.args.colour given.entries.items given.end refl c.in_ok-entries.ensures.gathers in
    ap (with_steps (steps_in texts c.args.depth c.args.root c.args.colour)) answered
