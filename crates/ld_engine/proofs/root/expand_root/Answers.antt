use Rattle.std.proofs.Common.{◌≡◌, ◌≤◌, ◌+◌, ◌∷◌, ◌++◌, inl, inr, [], None, length, refl, ap, sym, subst, ◌∙◌, arith}
use Rattle.std.specs.Vec.Iter.{into_iter_items}
use Rattle.ld_bfc.specs.LineState.{start}
use Rattle.ld_entry.specs.NumberedTexts.{known_texts}
use Rattle.ld_entry.specs.Outcomes.{line_outcomes}
use Rattle.ld_engine.specs.Gathering.{Gathers, alone, enter_with}
use Rattle.ld_engine.proofs.Rooted.{IsRooted, next-line, no-end, root-begun, root-passed, root-stopped}
use Rattle.ld_engine.proofs.root.expand_root.Goals as goal
use Rattle.ld_engine.proofs.root.expand_root.Goals.{then-is_some-via-then-is_some, then-is_some-via-else-is_some+then-len-most}

pub loop-line-init : goal.loop-line-init
loop-line-init c =
    let texts = known_texts c.args.texts.now.known in
    let state = c.start-state.ensures ∙ ap start c.is_part.ensures in
    let ends : c.push.new.self.items ≡ 0 ∷ [] = c.in_ok-push.ensures.items ∙ ap (λ es. es ++ 0 ∷ []) c.in_ok-line_ends.ensures.items in
    let begun = root-begun c.args.most c.args.left texts c.args.root c.start-state.result state in
    record {
      read = c.new-reading.ensures texts;
      way = c.new-way.ensures.items;
      left = c.into_iter-rest.ensures.rest ∙ c.requires.read;
      endless = refl;
      rooted = subst (λ es. IsRooted c.args.most c.args.left texts c.args.root es c.push.new.self.items c.start-state.result 0) (sym c.new.ensures.items) (subst (λ ends. IsRooted c.args.most c.args.left texts c.args.root [] ends c.start-state.result 0) (sym ends) begun);
    }

pub returns-then-is_some-clause-gathers : goal.returns-then-is_some-clause-gathers
returns-then-is_some-clause-gathers c =
    let texts = known_texts c.args.texts.now.known in
    let given = c.loop-line.given in
    let new = c.expand_line.new.entries.items in
    let end = c.in_ok-given.field-0 in
    let at = next-line (texts.lines c.args.root) c.loop-line.number c.in-Some.line (into_iter_items c.next.new.self) (sym c.loop-line.invariant.left ∙ c.in-Some.ensures.cases.0) in
    let gives : Gathers c.args.most given.entries.items new end (line_outcomes (enter_with c.args.left) (alone texts [] c.args.root) c.loop-line.state (record { text = c.args.root; line = c.loop-line.number + 1 }) c.in-Some.line) = subst (λ w. Gathers c.args.most given.entries.items new end (line_outcomes (enter_with c.args.left) (alone texts w c.args.root) c.loop-line.state (record { text = c.args.root; line = c.loop-line.number + 1 }) c.in-Some.line)) c.loop-line.invariant.way c.in_ok-given.ensures.gathers in
    root-stopped c.args.most c.args.left texts c.args.root given.entries.items given.line_ends.items c.loop-line.state c.loop-line.number c.loop-line.invariant.rooted new c.next-after.result c.in-Some.line at.0 c.next-after.ensures end (elim c.then-is_some.branch [ then-is_some-via-then-is_some w ↦ inl (sym c.is_some.ensures ∙ w.if-is_some.true) | then-is_some-via-else-is_some+then-len-most w ↦ inr (omega arith) ]) gives

pub loop-line-preserved : goal.loop-line-preserved
loop-line-preserved c =
    let texts = known_texts c.args.texts.now.known in
    let given = c.loop-line.given in
    let new = c.expand_line.new.entries.items in
    let few : length new ≤ c.args.most = omega arith in
    let endless : c.in_ok-given.field-0 ≡ None = no-end c.in_ok-given.field-0 (sym c.is_some.ensures ∙ c.if-is_some.false) in
    let at = next-line (texts.lines c.args.root) c.loop-line.number c.in-Some.line (into_iter_items c.next.new.self) (sym c.loop-line.invariant.left ∙ c.in-Some.ensures.cases.0) in
    let gives : Gathers c.args.most given.entries.items new None (line_outcomes (enter_with c.args.left) (alone texts [] c.args.root) c.loop-line.state (record { text = c.args.root; line = c.loop-line.number + 1 }) c.in-Some.line) = subst (λ w. Gathers c.args.most given.entries.items new None (line_outcomes (enter_with c.args.left) (alone texts w c.args.root) c.loop-line.state (record { text = c.args.root; line = c.loop-line.number + 1 }) c.in-Some.line)) c.loop-line.invariant.way (rw endless at c.in_ok-given.ensures.gathers) in
    let ends : c.push-in-Some.new.self.items ≡ given.line_ends.items ++ c.len-in-Some.result ∷ [] = c.in_ok-push-2.ensures.items in
    let count : c.len-in-Some.result ≡ length new = omega arith in
    let passed = root-passed c.args.most c.args.left texts c.args.root given.entries.items given.line_ends.items c.loop-line.state c.loop-line.number c.loop-line.invariant.rooted new c.next-after.result c.in-Some.line at.0 c.next-after.ensures c.len-in-Some.result count few gives in
    record {
      read = c.in_ok-given.ensures.read;
      way = c.in_ok-given.ensures.way ∙ c.loop-line.invariant.way;
      left = at.1;
      endless = endless;
      rooted = subst (λ ends. IsRooted c.args.most c.args.left texts c.args.root new ends c.next-after.result (c.loop-line.number + 1)) (sym ends) passed;
    }
