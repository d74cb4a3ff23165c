use Rattle.std.proofs.Common.{◌≡◌, ◌≤◌, ◌<◌, ◌+◌, ◌-◌, ◌==◌, ◌++◌, [], ◌∷◌, false, suc, length, map, Some, None, refl, ap, sym, subst, ◌∙◌, arith}
use Rattle.std.specs.Prelude.{nat_le, slice_get}
use Rattle.std.specs.List.{list_any}
use Rattle.std.specs.Option.{option_or}
use Rattle.std.proofs.lemmas.Bool.{leb-true}
use Rattle.std.proofs.lemmas.List.{append-nil, length-append}
use Rattle.ld_entry.specs.Answers.{left_below}
use Rattle.ld_entry.specs.Carrying.{above_of, carried_outcome}
use Rattle.ld_entry.specs.Heights.{IsLow, IsWalk}
use Rattle.ld_entry.specs.Outcomes.{all, found_outcomes, is_on_way, outer_of, part_outcomes}
use Rattle.ld_entry.specs.declared.entry.Source.{Source}
use Rattle.ld_cache.specs.Kept.{kept_of}
use Rattle.ld_work.specs.Inside.Agreeing.{height_in}
use Rattle.ld_work.specs.Inside.Gathering.{alone, CarriesFrom, enter_with, Gathers, IsWithin}
use Rattle.ld_work.specs.Inside.Parsing.{parsed_lines}
use Rattle.ld_work.specs.Inside.Working.{basis_of, left_at, MayPass, texts_of}
use Rattle.ld_work.proofs.Expanded.{entered-gives, extends-carried, extends-on, popped}
use Rattle.ld_work.proofs.Gathered.{carried-gathered, carried-within, full-gathered, then-gathered}
use Rattle.ld_work.proofs.Parsing.{is-line}
use Rattle.ld_work.proofs.Passed.{begun, done, line-ended, line-gathered, overfull}
use Rattle.ld_work.proofs.Steps.{asked-same, counted-begun, gives-same, line-asked, line-counted, line-read, line-same, line-there, may-same, read-same, reads-entered}
use Rattle.ld_work.proofs.Taken.{taken-gives, taken-if}
use Rattle.ld_work.proofs.expanding.Expander.+expand.Goals as goal

pub enter_file-returns-then-first-self-clause-gives : goal.enter_file-returns-then-first-self-clause-gives
enter_file-returns-then-first-self-clause-gives t c =
    let r = c.args.reference.now in
    let texts = texts_of c.args.reader.now in
    let most = c.args.self.now.most in
    let way = c.args.work.now.way.items in
    let old = c.args.work.now.entries.items in
    let base = c.push_part.new.entries.items in
    let left = left_at c.args.self.now c.args.work.now in
    let off : is_on_way (alone texts way r.source.text) c.args.file ≡ false = sym (c.if-on_way.ensures ∙ ap (λ w. list_any (λ on. on.0 == c.args.file.0) (w ++ r.source.text ∷ [])) c.as_slice.ensures) in
    let part : Gathers most old base None (part_outcomes (alone texts way r.source.text) r.source r.colour c.args.file) = subst (λ (s : Source). Gathers most old base None (part_outcomes (alone texts way s.text) s r.colour c.args.file)) c.passed_down-outer.ensures.source (c.in_ok-push_part.ensures.gathers way most r.colour c.passed_down-outer.ensures.colour) in
    let many : most < length base = omega arith in
    let grew : length base ≤ suc (length old) = c.in_ok-push_part.ensures.within in
    let more : left ≡ suc (left - 1) = omega arith in
    let gives = entered-gives texts way left r.state r.source r.colour r.placement c.args.file c.carry_laws.ensures c.action_law.ensures (left - 1) off more in
    record {
      way = refl;
      extends = c.in_ok-push_part.ensures.extends;
      within = omega arith;
      gathers = subst (Gathers most old base None) (sym gives) (full-gathered most old base _ _ many part);
      parsed = c.requires.may.parsed;
    }

pub enter_file-pass_file-requires : goal.enter_file-pass_file-requires
enter_file-pass_file-requires t c =
    let r = c.args.reference.now in
    let texts = texts_of c.args.reader.now in
    let way = c.args.work.now.way.items in
    let longer : c.push.new.self.items ≡ way ++ r.source.text ∷ [] = c.in_ok-push.ensures.ok in
    let long : length c.push.new.self.items ≡ suc (length way) = ap length longer ∙ length-append way (r.source.text ∷ []) ∙ omega arith in
    let walk : IsWalk texts (c.push.new.self.items ++ c.args.file ∷ []) = subst (λ w. IsWalk texts (w ++ c.args.file ∷ [])) (sym longer) (c.walk_laws.ensures.longer texts way r.source.text c.args.file c.requires.may.walk c.requires.found) in
    let may : MayPass c.args.self.now c.args.reader.now (record { way = c.push.new.self; entries = c.push_part.new.entries; parsed = c.args.work.now.parsed }) c.args.file = record { ready = c.requires.may.ready; walk = walk; deep = omega arith; room = omega arith; parsed = c.requires.may.parsed } in
    (omega arith, (may, c.requires.may.ready.graph.heights r.source.text c.args.file c.requires.found))

pub enter_file-returns-in_err-end-clause-reads : goal.enter_file-returns-in_err-end-clause-reads
enter_file-returns-in_err-end-clause-reads t c =
    let r = c.args.reference.now in
    let way = c.args.work.now.way.items in
    let off : is_on_way (alone (texts_of c.args.reader.now) way r.source.text) c.args.file ≡ false = sym (c.if-on_way.ensures ∙ ap (λ w. list_any (λ on. on.0 == c.args.file.0) (w ++ r.source.text ∷ [])) c.as_slice.ensures) in
    let longer : c.push.new.self.items ≡ way ++ r.source.text ∷ [] = c.in_ok-push.ensures.ok in
    let long : length c.push.new.self.items ≡ suc (length way) = ap length longer ∙ length-append way (r.source.text ∷ []) ∙ omega arith in
    let more : left_at c.args.self.now c.args.work.now ≡ suc (left_below c.args.self.now.bounds.depth c.push.new.self.items) = omega arith in
    reads-entered (basis_of c.args.self.now c.args.reader.now) c.args.reader.now c.pass_file.new.reader _ _ c.push.new.self.items (way ++ r.source.text ∷ []) c.args.file longer off more c.in_err-end.ensures.reads

pub enter_file-returns-clause-reads : goal.enter_file-returns-clause-reads
enter_file-returns-clause-reads t c =
    let r = c.args.reference.now in
    let way = c.args.work.now.way.items in
    let off : is_on_way (alone (texts_of c.args.reader.now) way r.source.text) c.args.file ≡ false = sym (c.if-on_way.ensures ∙ ap (λ w. list_any (λ on. on.0 == c.args.file.0) (w ++ r.source.text ∷ [])) c.as_slice.ensures) in
    let longer : c.push.new.self.items ≡ way ++ r.source.text ∷ [] = c.in_ok-push.ensures.ok in
    let long : length c.push.new.self.items ≡ suc (length way) = ap length longer ∙ length-append way (r.source.text ∷ []) ∙ omega arith in
    let more : left_at c.args.self.now c.args.work.now ≡ suc (left_below c.args.self.now.bounds.depth c.push.new.self.items) = omega arith in
    reads-entered (basis_of c.args.self.now c.args.reader.now) c.args.reader.now c.pass_file.new.reader _ _ c.push.new.self.items (way ++ r.source.text ∷ []) c.args.file longer off more c.in_ok-end.ensures.reads

pub enter_file-returns-clause-gives : goal.enter_file-returns-clause-gives
enter_file-returns-clause-gives t c =
    let r = c.args.reference.now in
    let texts = texts_of c.args.reader.now in
    let most = c.args.self.now.most in
    let way = c.args.work.now.way.items in
    let on = way ++ r.source.text ∷ [] in
    let old = c.args.work.now.entries.items in
    let base = c.push_part.new.entries.items in
    let new = c.carry_from-refusal.new.entries.items in
    let left = left_at c.args.self.now c.args.work.now in
    let further = left_below c.args.self.now.bounds.depth c.push.new.self.items in
    let above = above_of c.passed_down-outer.result in
    let gave = c.in_ok-end.ensures.gives in
    let sub = gave.extends.0 in
    let longer : c.push.new.self.items ≡ on = c.in_ok-push.ensures.ok in
    let long : length c.push.new.self.items ≡ suc (length way) = ap length longer ∙ length-append way (r.source.text ∷ []) ∙ omega arith in
    let off : is_on_way (alone texts way r.source.text) c.args.file ≡ false = sym (c.if-on_way.ensures ∙ ap (λ w. list_any (λ on. on.0 == c.args.file.0) (w ++ r.source.text ∷ [])) c.as_slice.ensures) in
    let part : Gathers most old base None (part_outcomes (alone texts way r.source.text) r.source r.colour c.args.file) = subst (λ (s : Source). Gathers most old base None (part_outcomes (alone texts way s.text) s r.colour c.args.file)) c.passed_down-outer.ensures.source (c.in_ok-push_part.ensures.gathers way most r.colour c.passed_down-outer.ensures.colour) in
    let first : c.len-first.result ≡ length base = omega arith in
    let room : most ≡ length base + (most - length base) = omega arith in
    let more : left ≡ suc further = omega arith in
    let carries : CarriesFrom above (length base) (base ++ sub) new c.carry_from-refusal.result = subst (λ es. CarriesFrom above (length base) es new c.carry_from-refusal.result) gave.extends.1 (subst (λ n. CarriesFrom above n c.pass_file.new.work.entries.items new c.carry_from-refusal.result) first c.carry_from-refusal.ensures) in
    let within : IsWithin most (base ++ sub) c.in_ok-end.end = subst (λ es. IsWithin most es c.in_ok-end.end) gave.extends.1 gave.within in
    let gathers : Gathers most base (base ++ sub) c.in_ok-end.end (all further (alone texts on c.args.file)) = subst (λ w. Gathers most base (base ++ sub) c.in_ok-end.end (all further (alone texts w c.args.file))) longer (subst (λ es. Gathers most base es c.in_ok-end.end (all further (alone texts c.push.new.self.items c.args.file))) gave.extends.1 gave.gathers) in
    let below = carried-gathered c.cut_laws.ensures above most (most - length base) base sub new c.in_ok-end.end c.carry_from-refusal.result (all further (alone texts on c.args.file)) room gathers carries in
    let below' : Gathers most base new (option_or c.carry_from-refusal.result c.in_ok-end.end) (map (carried_outcome (above_of (outer_of r.state r.source r.colour r.placement))) (all further (alone texts on c.args.file))) = subst (λ a. Gathers most base new (option_or c.carry_from-refusal.result c.in_ok-end.end) (map (carried_outcome a) (all further (alone texts on c.args.file)))) c.passed_down-outer.ensures.passed below in
    let whole = then-gathered most old base new (option_or c.carry_from-refusal.result c.in_ok-end.end) _ _ part below' in
    let gives = entered-gives texts way left r.state r.source r.colour r.placement c.args.file c.carry_laws.ensures c.action_law.ensures further off more in
    let way' : c.pass_file.new.work.way.items ≡ on = gave.way ∙ longer in
    record {
      way = c.pop.ensures.rest ∙ popped c.pass_file.new.work.way.items way r.source.text way';
      extends = extends-on old base new c.in_ok-push_part.ensures.extends (extends-carried above base sub new c.carry_from-refusal.result carries);
      within = subst (IsWithin most new) (sym c.or.ensures) (carried-within c.cut_laws.ensures above most (most - length base) base sub new c.in_ok-end.end c.carry_from-refusal.result (all further (alone texts on c.args.file)) room within carries);
      gathers = subst (λ e. Gathers most old new e (found_outcomes (enter_with left) (alone texts way r.source.text) r.state r.source r.colour r.placement (Some c.args.file))) (sym c.or.ensures) (subst (Gathers most old new (option_or c.carry_from-refusal.result c.in_ok-end.end)) (sym gives) whole);
      parsed = gave.parsed;
    }

pub pass_file-returns-in-Some-clause-gives : goal.pass_file-returns-in-Some-clause-gives
pass_file-returns-in-Some-clause-gives t c =
    let expander = c.args.self.now in
    let texts = texts_of c.args.reader.now in
    let way = c.args.work.now.way.items in
    let file = c.args.file in
    let long : c.len.result ≡ length way = omega arith in
    let taken = taken-if (nat_le (c.len.result + height_in expander.graph.now file) expander.bounds.depth) (kept_of expander.cache.now file) c.in-Some.kept (sym c.in-Some.ensures) in
    let fits : c.len.result + height_in expander.graph.now file ≤ expander.bounds.depth = leb-true _ _ taken.0 in
    let high = c.requires.height in
    let low : IsLow texts expander.bounds.depth way file = omega arith in
    let right = c.requires.may.ready.right file c.in-Some.kept taken.1 in
    let gathers = taken-gives c.cut_laws.ensures c.reuse_law.ensures texts expander.bounds.depth expander.bounds.entries expander.most way file c.in-Some.kept right.neutral c.requires.may.ready.most c.requires.may.walk low c.args.work.now.entries.items c.take.new.entries.items c.in_ok-end.end c.in_ok-end.ensures.gathers in
    record { way = refl; extends = c.in_ok-end.ensures.extends; within = c.in_ok-end.ensures.within; gathers = gathers; parsed = c.requires.may.parsed }

pub pass_lines-loop-text-init : goal.pass_lines-loop-text-init
pass_lines-loop-text-init t c =
    let expander = c.args.self.now in
    let texts = texts_of c.args.reader.now in
    let way = c.args.work.now.way.items in
    let text = c.args.parsed.now.cursor.text in
    let old = c.args.work.now.entries.items in
    let left = left_at expander c.args.work.now in
    record {
      way = refl;
      extends = ([], sym (append-nil old));
      fits = omega arith;
      gathers = begun texts left way text expander.most old;
      all = c.requires.may.parsed;
      parsed = c.requires.parsed;
      text = refl;
      within = omega arith;
      texts = refl;
      reads = counted-begun (basis_of expander c.args.reader.now) left way text c.args.reader.now.reads;
    }

pub pass_lines-returns-in_err-line-clause-reads : goal.pass_lines-returns-in_err-line-clause-reads
pass_lines-returns-in_err-line-clause-reads t c =
    let expander = c.args.self.now in
    let inv = c.loop-text.invariant in
    let text = c.args.parsed.now.cursor.text in
    let room : length c.loop-text.work.entries.items ≤ expander.most = omega arith in
    let asked = asked-same expander c.args.reader.now c.loop-text.reader inv.texts c.line.new.reader c.loop-text.parsed.cursor.text text c.loop-text.before inv.text c.in_err-line.ensures.reads in
    record { texts = asked.0; reads = line-asked c.carry_laws.ensures (basis_of expander c.args.reader.now) (left_at expander c.args.work.now) c.args.work.now.way.items text expander.most c.requires.may.ready.most c.args.work.now.entries.items c.loop-text.work.entries.items c.loop-text.before inv.gathers room c.args.reader.now.reads c.loop-text.reader.reads inv.reads c.line.new.reader.reads asked.1 }

pub pass_lines-returns-in_default-clause-reads : goal.pass_lines-returns-in_default-clause-reads
pass_lines-returns-in_default-clause-reads t c =
    let expander = c.args.self.now in
    let inv = c.loop-text.invariant in
    let text = c.args.parsed.now.cursor.text in
    let room : length c.loop-text.work.entries.items ≤ expander.most = omega arith in
    let asked = asked-same expander c.args.reader.now c.loop-text.reader inv.texts c.line.new.reader c.loop-text.parsed.cursor.text text c.loop-text.before inv.text c.in_ok-line.ensures.reads in
    record { texts = asked.0; reads = line-asked c.carry_laws.ensures (basis_of expander c.args.reader.now) (left_at expander c.args.work.now) c.args.work.now.way.items text expander.most c.requires.may.ready.most c.args.work.now.entries.items c.loop-text.work.entries.items c.loop-text.before inv.gathers room c.args.reader.now.reads c.loop-text.reader.reads inv.reads c.line.new.reader.reads asked.1 }

pub pass_lines-returns-in_default-clause-gives : goal.pass_lines-returns-in_default-clause-gives
pass_lines-returns-in_default-clause-gives t c =
    let expander = c.args.self.now in
    let texts = texts_of c.args.reader.now in
    let inv = c.loop-text.invariant in
    let text = c.args.parsed.now.cursor.text in
    let none : slice_get (parsed_lines texts text) c.loop-text.before ≡ None = line-there expander c.args.reader.now c.loop-text.reader inv.texts c.loop-text.parsed.cursor.text text c.loop-text.before _ inv.text c.in_ok-line.ensures.line ∙ c.in_default.is in
    record { way = inv.way; extends = inv.extends; within = inv.fits; gathers = done c.carry_laws.ensures texts (left_at expander c.args.work.now) c.args.work.now.way.items text expander.most c.args.work.now.entries.items c.loop-text.work.entries.items c.loop-text.before inv.gathers none; parsed = inv.all }

pub pass_lines-pass_line-requires : goal.pass_lines-pass_line-requires
pass_lines-pass_line-requires t c =
    let expander = c.args.self.now in
    let texts = texts_of c.args.reader.now in
    let inv = c.loop-text.invariant in
    let text = c.args.parsed.now.cursor.text in
    let same = c.in_ok-line.ensures.reads.texts ∙ inv.texts in
    let at : slice_get (parsed_lines texts text) c.loop-text.before ≡ Some c.in-Some.line = line-there expander c.args.reader.now c.loop-text.reader inv.texts c.loop-text.parsed.cursor.text text c.loop-text.before _ inv.text c.in_ok-line.ensures.line ∙ c.in-Some.is in
    let walk : IsWalk texts (c.loop-text.work.way.items ++ text ∷ []) = subst (λ w. IsWalk texts (w ++ text ∷ [])) (sym inv.way) c.requires.may.walk in
    let long : length c.loop-text.work.way.items ≡ length c.args.work.now.way.items = ap length inv.way in
    let may : MayPass expander c.args.reader.now c.loop-text.work text = record { ready = c.requires.may.ready; walk = walk; deep = omega arith; room = omega arith; parsed = inv.all } in
    (omega arith, (may-same expander c.args.reader.now c.line.new.reader same c.loop-text.work text may, line-same expander c.args.reader.now c.line.new.reader same text c.in-Some.line (is-line texts text c.walk_laws.ensures c.loop-text.before c.in-Some.line at)))

pub pass_lines-returns-in_err-end-clause-reads : goal.pass_lines-returns-in_err-end-clause-reads
pass_lines-returns-in_err-end-clause-reads t c =
    let expander = c.args.self.now in
    let texts = texts_of c.args.reader.now in
    let inv = c.loop-text.invariant in
    let text = c.args.parsed.now.cursor.text in
    let same = c.in_ok-line.ensures.reads.texts ∙ inv.texts in
    let at : slice_get (parsed_lines texts text) c.loop-text.before ≡ Some c.in-Some.line = line-there expander c.args.reader.now c.loop-text.reader inv.texts c.loop-text.parsed.cursor.text text c.loop-text.before _ inv.text c.in_ok-line.ensures.line ∙ c.in-Some.is in
    let room : length c.loop-text.work.entries.items ≤ expander.most = omega arith in
    let asked = asked-same expander c.args.reader.now c.loop-text.reader inv.texts c.line.new.reader c.loop-text.parsed.cursor.text text c.loop-text.before inv.text c.in_ok-line.ensures.reads in
    let read = read-same expander c.args.reader.now c.line.new.reader same c.pass_line.new.reader c.loop-text.work.way.items c.args.work.now.way.items text c.in-Some.line inv.way c.in_err-end.ensures.reads in
    record { texts = read.0; reads = line-read c.carry_laws.ensures (basis_of expander c.args.reader.now) (left_at expander c.args.work.now) c.args.work.now.way.items text expander.most c.requires.may.ready.most c.args.work.now.entries.items c.loop-text.work.entries.items c.loop-text.before inv.gathers room c.args.reader.now.reads c.loop-text.reader.reads inv.reads c.line.new.reader.reads c.pass_line.new.reader.reads c.in-Some.line at asked.1 read.1 }

pub pass_lines-returns-in-Some-end-clause-reads : goal.pass_lines-returns-in-Some-end-clause-reads
pass_lines-returns-in-Some-end-clause-reads t c =
    let expander = c.args.self.now in
    let texts = texts_of c.args.reader.now in
    let inv = c.loop-text.invariant in
    let text = c.args.parsed.now.cursor.text in
    let same = c.in_ok-line.ensures.reads.texts ∙ inv.texts in
    let at : slice_get (parsed_lines texts text) c.loop-text.before ≡ Some c.in-Some.line = line-there expander c.args.reader.now c.loop-text.reader inv.texts c.loop-text.parsed.cursor.text text c.loop-text.before _ inv.text c.in_ok-line.ensures.line ∙ c.in-Some.is in
    let room : length c.loop-text.work.entries.items ≤ expander.most = omega arith in
    let asked = asked-same expander c.args.reader.now c.loop-text.reader inv.texts c.line.new.reader c.loop-text.parsed.cursor.text text c.loop-text.before inv.text c.in_ok-line.ensures.reads in
    let read = read-same expander c.args.reader.now c.line.new.reader same c.pass_line.new.reader c.loop-text.work.way.items c.args.work.now.way.items text c.in-Some.line inv.way c.in_ok-end.ensures.reads in
    record { texts = read.0; reads = line-read c.carry_laws.ensures (basis_of expander c.args.reader.now) (left_at expander c.args.work.now) c.args.work.now.way.items text expander.most c.requires.may.ready.most c.args.work.now.entries.items c.loop-text.work.entries.items c.loop-text.before inv.gathers room c.args.reader.now.reads c.loop-text.reader.reads inv.reads c.line.new.reader.reads c.pass_line.new.reader.reads c.in-Some.line at asked.1 read.1 }

pub pass_lines-returns-in-Some-end-clause-gives : goal.pass_lines-returns-in-Some-end-clause-gives
pass_lines-returns-in-Some-end-clause-gives t c =
    let expander = c.args.self.now in
    let texts = texts_of c.args.reader.now in
    let way = c.args.work.now.way.items in
    let inv = c.loop-text.invariant in
    let text = c.args.parsed.now.cursor.text in
    let old = c.args.work.now.entries.items in
    let mid = c.loop-text.work.entries.items in
    let new = c.pass_line.new.work.entries.items in
    let same = c.in_ok-line.ensures.reads.texts ∙ inv.texts in
    let at : slice_get (parsed_lines texts text) c.loop-text.before ≡ Some c.in-Some.line = line-there expander c.args.reader.now c.loop-text.reader inv.texts c.loop-text.parsed.cursor.text text c.loop-text.before _ inv.text c.in_ok-line.ensures.line ∙ c.in-Some.is in
    let gave = gives-same expander c.args.reader.now c.line.new.reader same expander.most c.loop-text.work c.pass_line.new.work (Some c.in-Some-end.fault) c.loop-text.work.way.items way c.in-Some.line inv.way (rw c.in-Some-end.is at c.in_ok-end.ensures.gives) in
    record { way = gave.way ∙ inv.way; extends = extends-on old mid new inv.extends gave.extends; within = gave.within; gathers = line-ended c.carry_laws.ensures texts (left_at expander c.args.work.now) way text expander.most old mid c.loop-text.before inv.gathers new (c.loop-text.before + 1) c.in-Some.line at (omega arith) c.in-Some-end.fault gave.gathers; parsed = gave.parsed }

pub pass_lines-loop-text-preserved : goal.pass_lines-loop-text-preserved
pass_lines-loop-text-preserved t c =
    let expander = c.args.self.now in
    let texts = texts_of c.args.reader.now in
    let way = c.args.work.now.way.items in
    let inv = c.loop-text.invariant in
    let text = c.args.parsed.now.cursor.text in
    let old = c.args.work.now.entries.items in
    let mid = c.loop-text.work.entries.items in
    let new = c.pass_line.new.work.entries.items in
    let same = c.in_ok-line.ensures.reads.texts ∙ inv.texts in
    let at : slice_get (parsed_lines texts text) c.loop-text.before ≡ Some c.in-Some.line = line-there expander c.args.reader.now c.loop-text.reader inv.texts c.loop-text.parsed.cursor.text text c.loop-text.before _ inv.text c.in_ok-line.ensures.line ∙ c.in-Some.is in
    let room : length mid ≤ expander.most = omega arith in
    let asked = asked-same expander c.args.reader.now c.loop-text.reader inv.texts c.line.new.reader c.loop-text.parsed.cursor.text text c.loop-text.before inv.text c.in_ok-line.ensures.reads in
    let read = read-same expander c.args.reader.now c.line.new.reader same c.pass_line.new.reader c.loop-text.work.way.items way text c.in-Some.line inv.way c.in_ok-end.ensures.reads in
    let gave = gives-same expander c.args.reader.now c.line.new.reader same expander.most c.loop-text.work c.pass_line.new.work None c.loop-text.work.way.items way c.in-Some.line inv.way (rw c.in_default-end.is at c.in_ok-end.ensures.gives) in
    record {
      way = gave.way ∙ inv.way;
      extends = extends-on old mid new inv.extends gave.extends;
      fits = gave.within;
      gathers = line-gathered c.carry_laws.ensures texts (left_at expander c.args.work.now) way text expander.most old mid c.loop-text.before inv.gathers new (c.loop-text.before + 1) c.in-Some.line at (omega arith) None gave.gathers;
      all = gave.parsed;
      parsed = rw inv.texts at c.in_ok-line.ensures.parsed;
      text = c.in_ok-line.ensures.text ∙ inv.text;
      within = rw c.in-Some.is at c.in_ok-line.ensures.within;
      texts = read.0;
      reads = line-counted c.carry_laws.ensures (basis_of expander c.args.reader.now) (left_at expander c.args.work.now) way text expander.most c.requires.may.ready.most old mid c.loop-text.before inv.gathers room c.args.reader.now.reads c.loop-text.reader.reads inv.reads c.line.new.reader.reads c.pass_line.new.reader.reads c.in-Some.line at asked.1 read.1 (c.loop-text.before + 1) (omega arith);
    }

pub pass_lines-returns-clause-gives : goal.pass_lines-returns-clause-gives
pass_lines-returns-clause-gives t c =
    let expander = c.args.self.now in
    let inv = c.loop-text.invariant in
    let many : expander.most < length c.loop-text.work.entries.items = omega arith in
    record { way = inv.way; extends = inv.extends; within = inv.fits; gathers = overfull c.carry_laws.ensures (texts_of c.args.reader.now) (left_at expander c.args.work.now) c.args.work.now.way.items c.args.parsed.now.cursor.text expander.most c.args.work.now.entries.items c.loop-text.work.entries.items c.loop-text.before inv.gathers many; parsed = inv.all }

pub pass_text-returns-clause-gives : goal.pass_text-returns-clause-gives
pass_text-returns-clause-gives t c =
    let expander = c.args.self.now in
    let texts = texts_of c.args.reader.now in
    let gave = c.in_ok-end.ensures.gives in
    let here = c.take-parsed.ensures.text in
    record {
      way = gave.way;
      extends = gave.extends;
      within = gave.within;
      gathers = subst (λ t. Gathers expander.most c.args.work.now.entries.items c.pass_lines.new.work.entries.items c.in_ok-end.end (all (left_at expander c.args.work.now) (alone texts c.args.work.now.way.items t))) here gave.gathers;
      parsed = c.in_ok-put.ensures texts gave.parsed c.in_ok-end.ensures.parsed;
    }
