use Rattle.std.proofs.Common.{◌≡◌, ◌<◌, ◌+◌, ◌-◌, ◌==◌, true, false, suc, [], ◌∷◌, ◌++◌, length, map, Some, None, refl, ap, sym, subst, ◌∙◌, arith}
use Rattle.std.specs.Prelude.{slice_get}
use Rattle.std.specs.List.{list_any}
use Rattle.std.specs.Option.{option_or}
use Rattle.std.proofs.lemmas.Option.{slice_get_within}
use Rattle.std.proofs.lemmas.List.{append-nil}
use Rattle.ld_entry.specs.Carrying.{above_of, carried_outcome}
use Rattle.ld_entry.specs.NumberedTexts.{known_texts}
use Rattle.ld_entry.specs.Outcomes.{all, is_on_way, part_outcomes, outer_of, found_outcomes}
use Rattle.ld_entry.specs.declared.entry.Source.{Source}
use Rattle.ld_engine.specs.Gathering.{CarriesFrom, Gathers, alone, enter_with}
use Rattle.ld_engine.proofs.Gathered.{carried-gathered, fault-gathered, full-gathered, then-gathered}
use Rattle.ld_engine.specs.Inside.Meeting.{met_outcomes, mets_of}
use Rattle.ld_engine.proofs.Expanded.{entered-gives, extends-carried, extends-on, on_way-gives, too_deep-gives}
use Rattle.ld_engine.proofs.Meetings.{begun, done, met-done, met-ended, overfull}
use Rattle.ld_engine.proofs.expand.+expand.Goals as goal

pub enter_file-returns-then-on_way-clause-gathers : goal.enter_file-returns-then-on_way-clause-gathers
enter_file-returns-then-on_way-clause-gathers t c =
    let r = c.args.reference.now in
    let texts = known_texts c.args.texts.now.known in
    let way = c.args.way.now.items in
    let on : is_on_way (alone texts way r.source.text) c.args.file ≡ true = sym (c.if-on_way.ensures ∙ ap (λ w. list_any (λ on. on.0 == c.args.file.0) (w ++ r.source.text ∷ [])) c.as_slice.ensures) in
    fault-gathered c.args.most c.args.entries.now.items _ _ _ c.fault.ensures (on_way-gives texts way c.args.left r.state r.source r.colour r.placement c.args.file on)

pub enter_file-returns-then-left-eq0-clause-gathers : goal.enter_file-returns-then-left-eq0-clause-gathers
enter_file-returns-then-left-eq0-clause-gathers t c =
    let r = c.args.reference.now in
    let texts = known_texts c.args.texts.now.known in
    let way = c.args.way.now.items in
    let off : is_on_way (alone texts way r.source.text) c.args.file ≡ false = sym (c.if-on_way.ensures ∙ ap (λ w. list_any (λ on. on.0 == c.args.file.0) (w ++ r.source.text ∷ [])) c.as_slice.ensures) in
    fault-gathered c.args.most c.args.entries.now.items _ _ _ c.fault-then-left-eq0.ensures (too_deep-gives texts way c.args.left r.state r.source r.colour r.placement c.args.file off c.if-left-eq0.true)

pub enter_file-returns-then-start-most-clause-gathers : goal.enter_file-returns-then-start-most-clause-gathers
enter_file-returns-then-start-most-clause-gathers t c =
    let r = c.args.reference.now in
    let texts = known_texts c.args.texts.now.known in
    let way = c.args.way.now.items in
    let old = c.args.entries.now.items in
    let base = c.push_part.new.entries.items in
    let off : is_on_way (alone texts way r.source.text) c.args.file ≡ false = sym (c.if-on_way.ensures ∙ ap (λ w. list_any (λ on. on.0 == c.args.file.0) (w ++ r.source.text ∷ [])) c.as_slice.ensures) in
    let left : c.args.left ≡ suc (c.args.left - 1) = omega arith in
    let part : Gathers c.args.most old base None (part_outcomes (alone texts way r.source.text) r.source r.colour c.args.file) = subst (λ (s : Source). Gathers c.args.most old base None (part_outcomes (alone texts way s.text) s r.colour c.args.file)) c.passed_down-outer.ensures.source (c.in_ok-push_part.ensures.gathers way c.args.most r.colour c.passed_down-outer.ensures.colour) in
    let many : c.args.most < length base = omega arith in
    subst (Gathers c.args.most old base None) (sym (entered-gives texts way c.args.left r.state r.source r.colour r.placement c.args.file c.under_laws.ensures c.action_law.ensures (c.args.left - 1) off left)) (full-gathered c.args.most old base _ _ many part)

pub enter_file-returns-clause-extends : goal.enter_file-returns-clause-extends
enter_file-returns-clause-extends t c =
    let base = c.push_part.new.entries.items in
    let sub = c.in_ok-end.ensures.extends in
    let start : c.len-start.result ≡ length base = omega arith in
    let carries : CarriesFrom (above_of c.passed_down-outer.result) (length base) (base ++ sub.0) c.carry_from-refusal.new.entries.items c.carry_from-refusal.result = subst (λ es. CarriesFrom (above_of c.passed_down-outer.result) (length base) es c.carry_from-refusal.new.entries.items c.carry_from-refusal.result) sub.1 (subst (λ n. CarriesFrom (above_of c.passed_down-outer.result) n c.expand_text.new.entries.items c.carry_from-refusal.new.entries.items c.carry_from-refusal.result) start c.carry_from-refusal.ensures.carries) in
    extends-on c.args.entries.now.items base c.carry_from-refusal.new.entries.items c.in_ok-push_part.ensures.extends (extends-carried (above_of c.passed_down-outer.result) base sub.0 c.carry_from-refusal.new.entries.items c.carry_from-refusal.result carries)

pub enter_file-returns-clause-gathers : goal.enter_file-returns-clause-gathers
enter_file-returns-clause-gathers t c =
    let r = c.args.reference.now in
    let texts = known_texts c.args.texts.now.known in
    let way = c.args.way.now.items in
    let old = c.args.entries.now.items in
    let base = c.push_part.new.entries.items in
    let sub = c.in_ok-end.ensures.extends in
    let further = c.args.left - 1 in
    let above = above_of c.passed_down-outer.result in
    let off : is_on_way (alone texts way r.source.text) c.args.file ≡ false = sym (c.if-on_way.ensures ∙ ap (λ w. list_any (λ on. on.0 == c.args.file.0) (w ++ r.source.text ∷ [])) c.as_slice.ensures) in
    let left : c.args.left ≡ suc further = omega arith in
    let part : Gathers c.args.most old base None (part_outcomes (alone texts way r.source.text) r.source r.colour c.args.file) = subst (λ (s : Source). Gathers c.args.most old base None (part_outcomes (alone texts way s.text) s r.colour c.args.file)) c.passed_down-outer.ensures.source (c.in_ok-push_part.ensures.gathers way c.args.most r.colour c.passed_down-outer.ensures.colour) in
    let start : c.len-start.result ≡ length base = omega arith in
    let room : c.args.most ≡ length base + (c.args.most - length base) = omega arith in
    let carries : CarriesFrom above (length base) (base ++ sub.0) c.carry_from-refusal.new.entries.items c.carry_from-refusal.result = subst (λ es. CarriesFrom above (length base) es c.carry_from-refusal.new.entries.items c.carry_from-refusal.result) sub.1 (subst (λ n. CarriesFrom above n c.expand_text.new.entries.items c.carry_from-refusal.new.entries.items c.carry_from-refusal.result) start c.carry_from-refusal.ensures.carries) in
    let way' : c.push.new.self.items ≡ way ++ r.source.text ∷ [] = c.in_ok-push.ensures.ok in
    let gives : Gathers c.args.most base (base ++ sub.0) c.in_ok-end.end (all further (alone texts (way ++ r.source.text ∷ []) c.args.file)) = subst (λ w. Gathers c.args.most base (base ++ sub.0) c.in_ok-end.end (all further (alone texts w c.args.file))) way' (subst (λ es. Gathers c.args.most base es c.in_ok-end.end (all further (alone texts c.push.new.self.items c.args.file))) sub.1 c.in_ok-end.ensures.gathers) in
    let below = carried-gathered c.cut_laws.ensures above c.args.most (c.args.most - length base) base sub.0 c.carry_from-refusal.new.entries.items c.in_ok-end.end c.carry_from-refusal.result (all further (alone texts (way ++ r.source.text ∷ []) c.args.file)) room gives carries in
    let below' : Gathers c.args.most base c.carry_from-refusal.new.entries.items (option_or c.carry_from-refusal.result c.in_ok-end.end) (map (carried_outcome (above_of (outer_of r.state r.source r.colour r.placement))) (all further (alone texts (way ++ r.source.text ∷ []) c.args.file))) = subst (λ a. Gathers c.args.most base c.carry_from-refusal.new.entries.items (option_or c.carry_from-refusal.result c.in_ok-end.end) (map (carried_outcome a) (all further (alone texts (way ++ r.source.text ∷ []) c.args.file)))) c.passed_down-outer.ensures.passed below in
    let all_of = then-gathered c.args.most old base c.carry_from-refusal.new.entries.items (option_or c.carry_from-refusal.result c.in_ok-end.end) _ _ part below' in
    let given = entered-gives texts way c.args.left r.state r.source r.colour r.placement c.args.file c.under_laws.ensures c.action_law.ensures further off left in
    subst (λ e. Gathers c.args.most old c.carry_from-refusal.new.entries.items e (found_outcomes (enter_with c.args.left) (alone texts way r.source.text) r.state r.source r.colour r.placement (Some c.args.file))) (sym c.or.ensures) (subst (Gathers c.args.most old c.carry_from-refusal.new.entries.items (option_or c.carry_from-refusal.result c.in_ok-end.end)) (sym given) all_of)

pub expand_met-returns-in-Fails-clause-gathers : goal.expand_met-returns-in-Fails-clause-gathers
expand_met-returns-in-Fails-clause-gathers t c =
    fault-gathered c.args.most c.args.entries.now.items (Some c.in-Fails.fault) c.in-Fails.fault (met_outcomes (enter_with c.args.left) (known_texts c.args.texts.now.known) c.args.way.now.items c.args.met) refl (ap (met_outcomes (enter_with c.args.left) (known_texts c.args.texts.now.known) c.args.way.now.items) c.in-Fails.is)

pub expand_text-loop-met-init : goal.expand_text-loop-met-init
expand_text-loop-met-init t c =
    record { read = c.requires.read; way = refl; extends = ([], sym (append-nil c.args.entries.now.items)); few = λ old. omega arith; within = omega arith; rest = begun c.args.most c.args.left (known_texts c.args.texts.now.known) c.args.way.now.items c.args.text c.args.entries.now.items c.under_laws.ensures }

pub expand_text-returns-then-len-most-clause-gathers : goal.expand_text-returns-then-len-most-clause-gathers
expand_text-returns-then-len-most-clause-gathers t c =
    let many : c.args.most < length c.loop-met.entries.items = omega arith in
    overfull c.args.most c.args.left (known_texts c.args.texts.now.known) c.args.way.now.items c.args.text c.args.entries.now.items c.loop-met.entries.items c.loop-met.before many c.loop-met.invariant.rest

pub expand_text-returns-in-Some-end-clause-gathers : goal.expand_text-returns-in-Some-end-clause-gathers
expand_text-returns-in-Some-end-clause-gathers t c =
    let texts = known_texts c.args.texts.now.known in
    let way = c.args.way.now.items in
    let old = c.args.entries.now.items in
    let at : slice_get (mets_of texts c.args.text) c.loop-met.before ≡ Some c.in-Some.met = sym (rw c.in-Some.is at c.in_ok-met.ensures.met) in
    let number : c.loop-met.before + 1 ≡ suc c.loop-met.before = omega arith in
    let step : Gathers c.args.most c.loop-met.entries.items c.expand_met.new.entries.items (Some c.in-Some-end.fault) (met_outcomes (enter_with c.args.left) texts way c.in-Some.met) = subst (λ w. Gathers c.args.most c.loop-met.entries.items c.expand_met.new.entries.items (Some c.in-Some-end.fault) (met_outcomes (enter_with c.args.left) texts w c.in-Some.met)) c.loop-met.invariant.way (rw c.in-Some-end.is at c.in_ok-end.ensures.gathers) in
    met-ended c.args.most c.args.left texts way c.args.text old c.loop-met.entries.items c.expand_met.new.entries.items c.loop-met.before (c.loop-met.before + 1) c.in-Some.met at number c.loop-met.invariant.rest c.in-Some-end.fault step

pub expand_text-loop-met-smaller : goal.expand_text-loop-met-smaller
expand_text-loop-met-smaller t c =
    let mets = mets_of (known_texts c.args.texts.now.known) c.args.text in
    let at : slice_get mets c.loop-met.before ≡ Some c.in-Some.met = sym (rw c.in-Some.is at c.in_ok-met.ensures.met) in
    let within = slice_get_within mets c.loop-met.before c.in-Some.met at in
    omega arith

pub expand_text-loop-met-preserved : goal.expand_text-loop-met-preserved
expand_text-loop-met-preserved t c =
    let texts = known_texts c.args.texts.now.known in
    let way = c.args.way.now.items in
    let old = c.args.entries.now.items in
    let at : slice_get (mets_of texts c.args.text) c.loop-met.before ≡ Some c.in-Some.met = sym (rw c.in-Some.is at c.in_ok-met.ensures.met) in
    let number : c.loop-met.before + 1 ≡ suc c.loop-met.before = omega arith in
    let within = slice_get_within (mets_of texts c.args.text) c.loop-met.before c.in-Some.met at in
    let step : Gathers c.args.most c.loop-met.entries.items c.expand_met.new.entries.items None (met_outcomes (enter_with c.args.left) texts way c.in-Some.met) = subst (λ w. Gathers c.args.most c.loop-met.entries.items c.expand_met.new.entries.items None (met_outcomes (enter_with c.args.left) texts w c.in-Some.met)) c.loop-met.invariant.way (rw c.in_default-end.is at c.in_ok-end.ensures.gathers) in
    record {
      read = c.in_ok-end.ensures.read;
      way = c.in_ok-end.ensures.way ∙ c.loop-met.invariant.way;
      extends = extends-on old c.loop-met.entries.items c.expand_met.new.entries.items c.loop-met.invariant.extends c.in_ok-end.ensures.extends;
      few = λ old. c.in_ok-end.ensures.within (omega arith);
      within = omega arith;
      rest = met-done c.args.most c.args.left texts way c.args.text old c.loop-met.entries.items c.expand_met.new.entries.items c.loop-met.before (c.loop-met.before + 1) c.in-Some.met at number c.loop-met.invariant.rest step;
    }

pub expand_text-returns-clause-gathers : goal.expand_text-returns-clause-gathers
expand_text-returns-clause-gathers t c =
    let none : slice_get (mets_of (known_texts c.args.texts.now.known) c.args.text) c.loop-met.before ≡ None = sym (rw c.in_default.is at c.in_ok-met.ensures.met) in
    done c.args.most c.args.left (known_texts c.args.texts.now.known) c.args.way.now.items c.args.text c.args.entries.now.items c.loop-met.entries.items c.loop-met.before none c.loop-met.invariant.rest
