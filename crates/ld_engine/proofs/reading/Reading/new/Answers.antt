use Rattle.ld_engine.proofs.Meetings.{nothing-read}
use Rattle.ld_engine.proofs.reading.Reading.new.Goals as goal

pub returns : goal.returns
returns c texts = nothing-read texts c.new.result.items c.new.ensures.items
