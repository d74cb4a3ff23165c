use Rattle.std.proofs.Common.{None, ap, sym, subst, ◌∙◌, rules}
use Rattle.std.proofs.lemmas.List.{append-nil}
use Rattle.ld_entry.specs.NumberedTexts.{known_texts}
use Rattle.ld_engine.specs.Gathering.{Gathers, enter_with}
use Rattle.ld_engine.specs.Inside.Meeting.{listed, met_outcomes, mets_outcomes}
use Rattle.ld_engine.proofs.Gathered.{nothing-gathered}
use Rattle.ld_engine.proofs.Meetings.{line-gives}
use Rattle.ld_engine.proofs.expand.expand_line.Goals as goal

pub returns-in-None-clause-gathers : goal.returns-in-None-clause-gathers
returns-in-None-clause-gathers c =
    let texts = known_texts c.args.texts.now.known in
    let enter = enter_with c.args.left in
    let way = c.args.way.now.items in
    let gives = line-gives c.under_laws.ensures enter texts way c.args.state c.args.source c.args.line ∙ ap (λ met. mets_outcomes enter texts way (listed met)) (sym c.meet.ensures ∙ c.in-None.is) in
    subst (Gathers c.args.most c.args.entries.now.items c.args.entries.now.items None) (sym gives) (nothing-gathered c.args.most c.args.entries.now.items)

pub returns-in-Some-clause-gathers : goal.returns-in-Some-clause-gathers
returns-in-Some-clause-gathers c =
    let texts = known_texts c.args.texts.now.known in
    let enter = enter_with c.args.left in
    let way = c.args.way.now.items in
    let gives = line-gives c.under_laws.ensures enter texts way c.args.state c.args.source c.args.line ∙ ap (λ met. mets_outcomes enter texts way (listed met)) (sym c.meet.ensures ∙ c.in-Some.is) ∙ append-nil (met_outcomes enter texts way c.in-Some.met) in
    search rules
