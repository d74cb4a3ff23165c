use Rattle.ld_work.proofs.Texts.{put-is}
use Rattle.ld_work.proofs.parsed.ParsedTexts.put.Goals as goal

pub returns : goal.returns
returns c texts are is = put-is texts c.args.self.now (record { texts = c.insert.new.self }) c.args.parsed c.in_ok-insert.ensures.updates.0 are is
