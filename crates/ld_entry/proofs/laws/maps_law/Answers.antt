use Rattle.ld_entry.proofs.Maps.{maps-agree}
use Rattle.ld_entry.proofs.laws.maps_law.Goals as goal

pub returns : goal.returns
returns c = maps-agree c.file_laws.ensures.same
