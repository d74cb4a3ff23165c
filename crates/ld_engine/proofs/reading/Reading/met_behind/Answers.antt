use Rattle.std.proofs.Common.{ap, ◌∙◌, rules}
use Rattle.std.specs.Prelude.{slice_get}
use Rattle.ld_engine.proofs.reading.Reading.met_behind.Goals as goal

pub returns-in-Some-clause-met : goal.returns-in-Some-clause-met
returns-in-Some-clause-met c =
    c.met_at.ensures.met ∙ ap (λ mets. slice_get mets c.args.before) (c.requires.read c.args.text c.in-Some.mets.now (c.list.ensures c.in-Some.mets.now (search rules)))

pub returns-clause-read : goal.returns-clause-read
returns-clause-read c = c.in_ok-keep.ensures _ c.in_ok-mets.ensures c.requires.read
