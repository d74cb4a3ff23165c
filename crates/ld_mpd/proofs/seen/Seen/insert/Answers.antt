use Rattle.std.proofs.Common.{◌||◌, ◌&&◌, ap, bytes_eq, false, refl, sym, true, ◌∙◌}
use Rattle.ld_mpd.specs.Blocks.{same_kind}
use Rattle.ld_mpd.specs.Seen.{has_seen}
use Rattle.ld_mpd.proofs.Noted.{noted}
use Rattle.ld_mpd.proofs.seen.Seen.insert.Goals as goal

pub returns-in_ok-insert-clause-noted : goal.returns-in_ok-insert-clause-noted
returns-in_ok-insert-clause-noted c other text =
    noted c.args.self.now (record { texts = c.args.self.now.texts; «data» = c.insert.new.self }) true c.args.name c.in_ok-insert.ensures.updates refl other text
    ∙ ap (λ is_data. same_kind other is_data && bytes_eq text c.args.name || has_seen c.args.self.now other text) (sym c.if-is_data.true)

pub returns-in_ok-insert-2-clause-noted : goal.returns-in_ok-insert-2-clause-noted
returns-in_ok-insert-2-clause-noted c other text =
    noted c.args.self.now (record { texts = c.insert-else-is_data.new.self; «data» = c.args.self.now.data }) false c.args.name c.in_ok-insert-2.ensures.updates refl other text
    ∙ ap (λ is_data. same_kind other is_data && bytes_eq text c.args.name || has_seen c.args.self.now other text) (sym c.if-is_data.false)
