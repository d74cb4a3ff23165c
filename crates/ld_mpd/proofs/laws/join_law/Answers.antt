use Rattle.ld_mpd.proofs.Joined.{split_of_joined}
use Rattle.ld_mpd.proofs.laws.join_law.Goals as goal

pub returns : goal.returns
returns c = split_of_joined c.name_law.ensures c.lines_law.ensures
