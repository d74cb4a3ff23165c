use Rattle.std.proofs.Common.{rules}
use Rattle.ld_engine.proofs.Meetings.{list-put, place-kept}
use Rattle.ld_engine.proofs.reading.Reading.keep.Goals as goal

pub loop-self-preserved : goal.loop-self-preserved
loop-self-preserved c texts are = place-kept texts c.loop-self.self.lists.items c.push.new.self.items c.in_ok-push.ensures.items (c.loop-self.invariant texts are)

pub returns : goal.returns
returns c texts is are = list-put texts c.loop-self.self.lists.items _ c.args.text c.args.mets (search rules) is (c.loop-self.invariant texts are)
