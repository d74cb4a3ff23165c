use Rattle.std.proofs.Common.{◌≡◌, sym, ◌∙◌, ap}
use Rattle.ld_texts.specs.Reach.{with_reached}
use Rattle.ld_engine.specs.Going.{IsInside, Passed}
use Rattle.ld_engine.proofs.Reached.{found-within, grows-with, inside-with, passes-text, passes-absent, wants-file}
use Rattle.ld_engine.proofs.going.Going.pass_name.Goals as goal

pub returns-in_ok-insert-in-Text-clause-inside : goal.returns-in_ok-insert-in-Text-clause-inside
returns-in_ok-insert-in-Text-clause-inside c =
    let known = c.args.texts.now.known in
    let texts = c.args.self.now.texts in
    let is = sym c.seek.ensures ∙ c.in-Text.is in
    let inside : IsInside known (with_reached texts c.in-Text.id.0) = inside-with known texts c.in-Text.id.0 c.requires.inside (found-within c.number_law.ensures c.learning_law.ensures known c.args.from texts c.args.name c.in-Text.id is) in
    let reached : c.insert.new.self.keys ≡ with_reached texts c.in-Text.id.0 = c.in_ok-insert-in-Text.ensures.keys ∙ ap (λ (s : Passed). with_reached s.texts c.in-Text.id.0) c.self.view_is in
    rw reached inside

pub returns-in_ok-insert-in-Text-clause-steps : goal.returns-in_ok-insert-in-Text-clause-steps
returns-in_ok-insert-in-Text-clause-steps c =
    passes-text c.number_law.ensures c.learning_law.ensures c.args.texts.now.known c.args.from c.args.self.now.texts c.args.name c.in-Text.id c.insert.new.self.keys (sym c.seek.ensures ∙ c.in-Text.is) (c.in_ok-insert-in-Text.ensures.keys ∙ ap (λ (s : Passed). with_reached s.texts c.in-Text.id.0) c.self.view_is)

pub returns-in-Absent-clause-steps : goal.returns-in-Absent-clause-steps
returns-in-Absent-clause-steps c = passes-absent c.number_law.ensures c.learning_law.ensures c.args.texts.now.known c.args.from c.args.self.now.texts c.args.name (sym c.seek.ensures ∙ c.in-Absent.is)

pub returns-in-Unknown-clause-steps : goal.returns-in-Unknown-clause-steps
returns-in-Unknown-clause-steps c = wants-file c.number_law.ensures c.learning_law.ensures c.args.texts.now.known c.args.from c.args.self.now.texts c.args.name c.in-Unknown.folder (sym c.seek.ensures ∙ c.in-Unknown.is)

pub returns-in_ok-insert-in-Text-clause-grows : goal.returns-in_ok-insert-in-Text-clause-grows
returns-in_ok-insert-in-Text-clause-grows c =
    let reached : c.insert.new.self.keys ≡ with_reached c.args.self.now.texts c.in-Text.id.0 = c.in_ok-insert-in-Text.ensures.keys ∙ ap (λ (s : Passed). with_reached s.texts c.in-Text.id.0) c.self.view_is in
    let grown = grows-with c.args.self.now.texts c.in-Text.id.0 in
    (grown.0, reached ∙ grown.1)
