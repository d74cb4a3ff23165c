use Rattle.std.proofs.Common.{refl}
use Rattle.ld_names.specs.Normal.{normal_of}
use Rattle.ld_entry.proofs.tests.names.normal_forms_by_definition.Goals as goal

pub returns-clause-same : goal.returns-clause-same
unfolding normal_of
returns-clause-same c = refl

pub returns-clause-empty : goal.returns-clause-empty
unfolding normal_of
returns-clause-empty c = (refl)

pub returns-clause-too_long : goal.returns-clause-too_long
unfolding normal_of
returns-clause-too_long c = refl

pub returns-clause-not_relative : goal.returns-clause-not_relative
unfolding normal_of
returns-clause-not_relative c = refl

pub returns-clause-control : goal.returns-clause-control
unfolding normal_of
returns-clause-control c = refl
