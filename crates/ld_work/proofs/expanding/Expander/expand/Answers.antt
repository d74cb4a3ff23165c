use Rattle.std.proofs.Common.{◌≡◌, ◌≤◌, ◌-◌, ◌++◌, inl, inr, ℕ, List, [], ◌∷◌, length, replicate, suc, None, Some, refl, ap, sym, subst, ◌∙◌, arith}
use Rattle.std.specs.Prelude.{slice_get}
use Rattle.ld_entry.specs.Answers.{left_below}
use Rattle.ld_entry.specs.Heights.{IsWalk}
use Rattle.ld_work.specs.Inside.Parsing.{IsAt, parsed_lines}
use Rattle.ld_work.specs.Inside.Working.{basis_of, MayPass, texts_of}
use Rattle.ld_work.proofs.Parsing.{is-line}
use Rattle.ld_work.proofs.Rooted.{no-end, root-begun, root-done, root-passed, root-stopped, Stops}
use Rattle.ld_work.proofs.Steps.{asked-same, counted-begun, gives-same, line-asked, line-counted, line-read, line-same, line-there, may-same, read-same}
use Rattle.ld_work.proofs.expanding.Expander.expand.Goals as goal
use Rattle.ld_work.proofs.expanding.Expander.expand.Goals.{then-is_some-via-else-is_some+then-count-self, then-is_some-via-then-is_some}

pub loop-work-init : goal.loop-work-init
loop-work-init c =
    let expander = c.args.self.now in
    let texts = texts_of c.args.reader.now in
    let before = c.new-cursor.ensures.before in
    record {
      way = c.new.ensures.items;
      parsed = c.new-3.ensures texts;
      at = c.new-cursor.ensures.at;
      text = c.new-cursor.ensures.text;
      lines = c.line_count-lines.ensures;
      within = omega arith;
      texts = refl;
      rooted = rw (c.new-2.ensures.items, c.in_ok-ends.ensures.items, before) (root-begun expander.most expander.bounds.depth texts c.args.text);
      reads = rw before (counted-begun (basis_of expander c.args.reader.now) (left_below expander.bounds.depth []) [] c.args.text c.args.reader.now.reads);
    }

pub returns-in_err-line-clause-reads : goal.returns-in_err-line-clause-reads
returns-in_err-line-clause-reads c =
    let expander = c.args.self.now in
    let texts = texts_of c.args.reader.now in
    let inv = c.loop-work.invariant in
    let left = left_below expander.bounds.depth [] in
    let asked = asked-same expander c.args.reader.now c.loop-work.reader inv.texts c.read.new.reader c.loop-work.cursor.text c.args.text c.loop-work.cursor.before inv.text c.in_err-line.ensures.reads in
    record { texts = asked.0; reads = line-asked c.carry_laws.ensures (basis_of expander c.args.reader.now) left [] c.args.text expander.most c.requires.ready.most [] c.loop-work.work.entries.items c.loop-work.cursor.before inv.rooted.gathers inv.rooted.few c.args.reader.now.reads c.loop-work.reader.reads inv.reads c.read.new.reader.reads asked.1 }

pub pass_line-requires-clause-may : goal.pass_line-requires-clause-may
pass_line-requires-clause-may c =
    let expander = c.args.self.now in
    let texts = texts_of c.args.reader.now in
    let inv = c.loop-work.invariant in
    let left = left_below expander.bounds.depth [] in
    let same = c.in_ok-line.ensures.reads.texts ∙ inv.texts in
    let walk : IsWalk texts (c.loop-work.work.way.items ++ c.args.text ∷ []) = subst (λ w. IsWalk texts (w ++ c.args.text ∷ [])) (sym inv.way) tt in
    let none : length c.loop-work.work.way.items ≡ 0 = ap length inv.way in
    let may : MayPass expander c.args.reader.now c.loop-work.work c.args.text = record { ready = c.requires.ready; walk = walk; deep = omega arith; room = inv.rooted.few; parsed = inv.parsed } in
    may-same expander c.args.reader.now c.read.new.reader same c.loop-work.work c.args.text may

pub pass_line-requires-clause-line : goal.pass_line-requires-clause-line
pass_line-requires-clause-line c =
    let expander = c.args.self.now in
    let texts = texts_of c.args.reader.now in
    let inv = c.loop-work.invariant in
    let left = left_below expander.bounds.depth [] in
    let same = c.in_ok-line.ensures.reads.texts ∙ inv.texts in
    let at : slice_get (parsed_lines texts c.args.text) c.loop-work.cursor.before ≡ Some c.in-Some.line = line-there expander c.args.reader.now c.loop-work.reader inv.texts c.loop-work.cursor.text c.args.text c.loop-work.cursor.before _ inv.text c.in_ok-line.ensures.line ∙ c.in-Some.is in
    line-same expander c.args.reader.now c.read.new.reader same c.args.text c.in-Some.line (is-line texts c.args.text c.walk_laws.ensures c.loop-work.cursor.before c.in-Some.line at)

pub returns-in_err-end-clause-reads : goal.returns-in_err-end-clause-reads
returns-in_err-end-clause-reads c =
    let expander = c.args.self.now in
    let texts = texts_of c.args.reader.now in
    let inv = c.loop-work.invariant in
    let left = left_below expander.bounds.depth [] in
    let same = c.in_ok-line.ensures.reads.texts ∙ inv.texts in
    let at : slice_get (parsed_lines texts c.args.text) c.loop-work.cursor.before ≡ Some c.in-Some.line = line-there expander c.args.reader.now c.loop-work.reader inv.texts c.loop-work.cursor.text c.args.text c.loop-work.cursor.before _ inv.text c.in_ok-line.ensures.line ∙ c.in-Some.is in
    let asked = asked-same expander c.args.reader.now c.loop-work.reader inv.texts c.read.new.reader c.loop-work.cursor.text c.args.text c.loop-work.cursor.before inv.text c.in_ok-line.ensures.reads in
    let read = read-same expander c.args.reader.now c.read.new.reader same c.pass_line.new.reader c.loop-work.work.way.items [] c.args.text c.in-Some.line inv.way c.in_err-end.ensures.reads in
    record { texts = read.0; reads = line-read c.carry_laws.ensures (basis_of expander c.args.reader.now) left [] c.args.text expander.most c.requires.ready.most [] c.loop-work.work.entries.items c.loop-work.cursor.before inv.rooted.gathers inv.rooted.few c.args.reader.now.reads c.loop-work.reader.reads inv.reads c.read.new.reader.reads c.pass_line.new.reader.reads c.in-Some.line at asked.1 read.1 }

pub returns-in_err-push-clause-reads : goal.returns-in_err-push-clause-reads
returns-in_err-push-clause-reads c =
    let expander = c.args.self.now in
    let texts = texts_of c.args.reader.now in
    let inv = c.loop-work.invariant in
    let left = left_below expander.bounds.depth [] in
    let same = c.in_ok-line.ensures.reads.texts ∙ inv.texts in
    let at : slice_get (parsed_lines texts c.args.text) c.loop-work.cursor.before ≡ Some c.in-Some.line = line-there expander c.args.reader.now c.loop-work.reader inv.texts c.loop-work.cursor.text c.args.text c.loop-work.cursor.before _ inv.text c.in_ok-line.ensures.line ∙ c.in-Some.is in
    let asked = asked-same expander c.args.reader.now c.loop-work.reader inv.texts c.read.new.reader c.loop-work.cursor.text c.args.text c.loop-work.cursor.before inv.text c.in_ok-line.ensures.reads in
    let read = read-same expander c.args.reader.now c.read.new.reader same c.pass_line.new.reader c.loop-work.work.way.items [] c.args.text c.in-Some.line inv.way c.in_ok-end.ensures.reads in
    record { texts = read.0; reads = line-read c.carry_laws.ensures (basis_of expander c.args.reader.now) left [] c.args.text expander.most c.requires.ready.most [] c.loop-work.work.entries.items c.loop-work.cursor.before inv.rooted.gathers inv.rooted.few c.args.reader.now.reads c.loop-work.reader.reads inv.reads c.read.new.reader.reads c.pass_line.new.reader.reads c.in-Some.line at asked.1 read.1 }

pub returns-in_err-fill_up-clause-reads : goal.returns-in_err-fill_up-clause-reads
returns-in_err-fill_up-clause-reads c =
    let expander = c.args.self.now in
    let texts = texts_of c.args.reader.now in
    let inv = c.loop-work.invariant in
    let left = left_below expander.bounds.depth [] in
    let same = c.in_ok-line.ensures.reads.texts ∙ inv.texts in
    let at : slice_get (parsed_lines texts c.args.text) c.loop-work.cursor.before ≡ Some c.in-Some.line = line-there expander c.args.reader.now c.loop-work.reader inv.texts c.loop-work.cursor.text c.args.text c.loop-work.cursor.before _ inv.text c.in_ok-line.ensures.line ∙ c.in-Some.is in
    let asked = asked-same expander c.args.reader.now c.loop-work.reader inv.texts c.read.new.reader c.loop-work.cursor.text c.args.text c.loop-work.cursor.before inv.text c.in_ok-line.ensures.reads in
    let read = read-same expander c.args.reader.now c.read.new.reader same c.pass_line.new.reader c.loop-work.work.way.items [] c.args.text c.in-Some.line inv.way c.in_ok-end.ensures.reads in
    record { texts = read.0; reads = line-read c.carry_laws.ensures (basis_of expander c.args.reader.now) left [] c.args.text expander.most c.requires.ready.most [] c.loop-work.work.entries.items c.loop-work.cursor.before inv.rooted.gathers inv.rooted.few c.args.reader.now.reads c.loop-work.reader.reads inv.reads c.read.new.reader.reads c.pass_line.new.reader.reads c.in-Some.line at asked.1 read.1 }

pub returns-then-is_some-clause-reads : goal.returns-then-is_some-clause-reads
returns-then-is_some-clause-reads c =
    let expander = c.args.self.now in
    let texts = texts_of c.args.reader.now in
    let inv = c.loop-work.invariant in
    let left = left_below expander.bounds.depth [] in
    let same = c.in_ok-line.ensures.reads.texts ∙ inv.texts in
    let at : slice_get (parsed_lines texts c.args.text) c.loop-work.cursor.before ≡ Some c.in-Some.line = line-there expander c.args.reader.now c.loop-work.reader inv.texts c.loop-work.cursor.text c.args.text c.loop-work.cursor.before _ inv.text c.in_ok-line.ensures.line ∙ c.in-Some.is in
    let asked = asked-same expander c.args.reader.now c.loop-work.reader inv.texts c.read.new.reader c.loop-work.cursor.text c.args.text c.loop-work.cursor.before inv.text c.in_ok-line.ensures.reads in
    let read = read-same expander c.args.reader.now c.read.new.reader same c.pass_line.new.reader c.loop-work.work.way.items [] c.args.text c.in-Some.line inv.way c.in_ok-end.ensures.reads in
    record { texts = read.0; reads = line-read c.carry_laws.ensures (basis_of expander c.args.reader.now) left [] c.args.text expander.most c.requires.ready.most [] c.loop-work.work.entries.items c.loop-work.cursor.before inv.rooted.gathers inv.rooted.few c.args.reader.now.reads c.loop-work.reader.reads inv.reads c.read.new.reader.reads c.pass_line.new.reader.reads c.in-Some.line at asked.1 read.1 }

pub returns-then-is_some-clause-exactly : goal.returns-then-is_some-clause-exactly
returns-then-is_some-clause-exactly c =
    let expander = c.args.self.now in
    let texts = texts_of c.args.reader.now in
    let inv = c.loop-work.invariant in
    let left = left_below expander.bounds.depth [] in
    let same = c.in_ok-line.ensures.reads.texts ∙ inv.texts in
    let at : slice_get (parsed_lines texts c.args.text) c.loop-work.cursor.before ≡ Some c.in-Some.line = line-there expander c.args.reader.now c.loop-work.reader inv.texts c.loop-work.cursor.text c.args.text c.loop-work.cursor.before _ inv.text c.in_ok-line.ensures.line ∙ c.in-Some.is in
    let gave = gives-same expander c.args.reader.now c.read.new.reader same expander.most c.loop-work.work c.pass_line.new.work c.in_ok-end.end c.loop-work.work.way.items [] c.in-Some.line inv.way c.in_ok-end.ensures.gives in
    let ends = c.loop-work.ends.items in
    let new = c.pass_line.new.work.entries.items in
    let count : c.len-count.result ≡ length new = omega arith in
    let grown : c.push.new.self.items ≡ ends ++ length new ∷ [] = c.in_ok-push.ensures.items ∙ ap (λ n. ends ++ n ∷ []) count in
    let lines = texts.lines c.args.text in
    let filled : c.fill_up.new.ends.items ≡ (ends ++ length new ∷ []) ++ replicate (length lines - length (ends ++ length new ∷ [])) (length new) = c.in_ok-fill_up.ensures ∙ ap (λ es. es ++ replicate (c.line_count-lines.result - length es) c.len-count.result) grown ∙ ap (λ n. (ends ++ length new ∷ []) ++ replicate (n - length (ends ++ length new ∷ [])) c.len-count.result) inv.lines ∙ ap (λ n. (ends ++ length new ∷ []) ++ replicate (length lines - length (ends ++ length new ∷ [])) n) count in
    let stop : Stops expander.most new c.in_ok-end.end = elim c.then-is_some.branch [ then-is_some-via-then-is_some w ↦ inl (sym c.is_some.ensures ∙ w.if-is_some.true) | then-is_some-via-else-is_some+then-count-self w ↦ inr (omega arith) ] in
    c.expansion.ensures
    ∙ ap (λ (es : List ℕ). record { entries = new; line_ends = es; end = c.in_ok-end.end }) filled
    ∙ root-stopped expander.most expander.bounds.depth texts c.args.text c.carry_laws.ensures c.cut_laws.ensures c.loop-work.work.entries.items ends c.loop-work.cursor.before inv.rooted new c.in-Some.line at c.in_ok-end.end stop gave.within gave.gathers

pub loop-work-preserved : goal.loop-work-preserved
loop-work-preserved c =
    let expander = c.args.self.now in
    let texts = texts_of c.args.reader.now in
    let inv = c.loop-work.invariant in
    let left = left_below expander.bounds.depth [] in
    let same = c.in_ok-line.ensures.reads.texts ∙ inv.texts in
    let at : slice_get (parsed_lines texts c.args.text) c.loop-work.cursor.before ≡ Some c.in-Some.line = line-there expander c.args.reader.now c.loop-work.reader inv.texts c.loop-work.cursor.text c.args.text c.loop-work.cursor.before _ inv.text c.in_ok-line.ensures.line ∙ c.in-Some.is in
    let asked = asked-same expander c.args.reader.now c.loop-work.reader inv.texts c.read.new.reader c.loop-work.cursor.text c.args.text c.loop-work.cursor.before inv.text c.in_ok-line.ensures.reads in
    let read = read-same expander c.args.reader.now c.read.new.reader same c.pass_line.new.reader c.loop-work.work.way.items [] c.args.text c.in-Some.line inv.way c.in_ok-end.ensures.reads in
    let gave = gives-same expander c.args.reader.now c.read.new.reader same expander.most c.loop-work.work c.pass_line.new.work c.in_ok-end.end c.loop-work.work.way.items [] c.in-Some.line inv.way c.in_ok-end.ensures.gives in
    let ends = c.loop-work.ends.items in
    let new = c.pass_line.new.work.entries.items in
    let count : c.len-count.result ≡ length new = omega arith in
    let grown : c.push.new.self.items ≡ ends ++ length new ∷ [] = c.in_ok-push.ensures.items ∙ ap (λ n. ends ++ n ∷ []) count in
    let number : c.read.new.self.before ≡ suc c.loop-work.cursor.before = let more = rw c.in-Some.is at c.in_ok-line.ensures.before in omega arith in
    let here : c.read.new.self.text ≡ c.args.text = c.in_ok-line.ensures.text ∙ inv.text in
    let there : IsAt texts c.read.new.self = rw inv.texts at c.in_ok-line.ensures.at in
    let within : c.read.new.self.before ≤ length (texts.lines c.args.text) = subst (λ t. c.read.new.self.before ≤ length (texts.lines t)) here there.within in
    let all = inv.lines in
    let few : length new ≤ expander.most = omega arith in
    let endless : c.in_ok-end.end ≡ None = no-end c.in_ok-end.end (sym c.is_some.ensures ∙ c.if-is_some.false) in
    let passed = root-passed expander.most expander.bounds.depth texts c.args.text c.carry_laws.ensures c.cut_laws.ensures c.loop-work.work.entries.items ends c.loop-work.cursor.before inv.rooted new c.in-Some.line at few (rw endless at gave.gathers) in
    record {
      way = gave.way ∙ inv.way;
      parsed = gave.parsed;
      at = there;
      text = here;
      lines = all;
      within = omega arith;
      texts = read.0;
      rooted = rw (grown, number) passed;
      reads = line-counted c.carry_laws.ensures (basis_of expander c.args.reader.now) left [] c.args.text expander.most c.requires.ready.most [] c.loop-work.work.entries.items c.loop-work.cursor.before inv.rooted.gathers inv.rooted.few c.args.reader.now.reads c.loop-work.reader.reads inv.reads c.read.new.reader.reads c.pass_line.new.reader.reads c.in-Some.line at asked.1 read.1 c.read.new.self.before number;
    }

pub returns-clause-exactly : goal.returns-clause-exactly
returns-clause-exactly c =
    let expander = c.args.self.now in
    let texts = texts_of c.args.reader.now in
    let inv = c.loop-work.invariant in
    let left = left_below expander.bounds.depth [] in
    let none : slice_get (parsed_lines texts c.args.text) c.loop-work.cursor.before ≡ None = line-there expander c.args.reader.now c.loop-work.reader inv.texts c.loop-work.cursor.text c.args.text c.loop-work.cursor.before _ inv.text c.in_ok-line.ensures.line ∙ c.in_default.is in
    c.expansion-2.ensures
    ∙ root-done expander.most expander.bounds.depth texts c.args.text c.carry_laws.ensures c.cut_laws.ensures c.loop-work.work.entries.items c.loop-work.ends.items c.loop-work.cursor.before inv.rooted none

pub returns-clause-reads : goal.returns-clause-reads
returns-clause-reads c =
    let expander = c.args.self.now in
    let texts = texts_of c.args.reader.now in
    let inv = c.loop-work.invariant in
    let left = left_below expander.bounds.depth [] in
    let asked = asked-same expander c.args.reader.now c.loop-work.reader inv.texts c.read.new.reader c.loop-work.cursor.text c.args.text c.loop-work.cursor.before inv.text c.in_ok-line.ensures.reads in
    record { texts = asked.0; reads = line-asked c.carry_laws.ensures (basis_of expander c.args.reader.now) left [] c.args.text expander.most c.requires.ready.most [] c.loop-work.work.entries.items c.loop-work.cursor.before inv.rooted.gathers inv.rooted.few c.args.reader.now.reads c.loop-work.reader.reads inv.reads c.read.new.reader.reads asked.1 }
