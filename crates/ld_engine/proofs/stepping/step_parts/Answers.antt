use Rattle.std.proofs.Common.{◌≡◌, ◌∷◌, ◌++◌, [], ap, sym, ◌∙◌, append_assoc, length, map}
use Rattle.std.specs.Vec.Iter.{into_iter_items}
use Rattle.std.proofs.lemmas.List.Elements.{All-head, All-rest, All-same}
use Rattle.ld_steps.specs.declared.step.StepMark.{StepMark}
use Rattle.ld_steps.specs.declared.step.StepPart.{StepPart}
use Rattle.ld_engine.specs.Inside.Ends.{IsWithin, part_by}
use Rattle.ld_engine.proofs.stepping.step_parts.Goals as goal

pub part_of-requires : goal.part_of-requires
part_of-requires c =
    let next : into_iter_items c.loop-mark.rest ≡ c.in-Some.mark ∷ into_iter_items c.next.new.self = c.in-Some.ensures.cases.0 in
    All-head (IsWithin (length c.args.line_ends.now)) c.in-Some.mark (into_iter_items c.next.new.self) (All-same (IsWithin (length c.args.line_ends.now)) _ _ (sym next) c.loop-mark.invariant.within)

pub loop-mark-preserved : goal.loop-mark-preserved
loop-mark-preserved c =
    let next : into_iter_items c.loop-mark.rest ≡ c.in-Some.mark ∷ into_iter_items c.next.new.self = c.in-Some.ensures.cases.0 in
    let rest = into_iter_items c.next.new.self in
    let part : StepMark → StepPart = part_by c.args.line_ends.now in
    let grown : c.push.new.self.items ≡ c.loop-mark.parts.items ++ part c.in-Some.mark ∷ [] = c.in_ok-push.ensures.items ∙ ap (λ p. c.loop-mark.parts.items ++ p ∷ []) c.part_of.ensures in
    record {
      within = All-rest (IsWithin (length c.args.line_ends.now)) c.in-Some.mark rest _ next c.loop-mark.invariant.within;
      parts = ap (λ ps. ps ++ map part rest) grown ∙ append_assoc c.loop-mark.parts.items (part c.in-Some.mark ∷ []) (map part rest) ∙ ap (λ ms. c.loop-mark.parts.items ++ map part ms) (sym next) ∙ c.loop-mark.invariant.parts;
    }
