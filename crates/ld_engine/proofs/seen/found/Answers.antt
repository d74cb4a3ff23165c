use Rattle.std.proofs.Common.{ap, sym, ◌∙◌}
use Rattle.ld_engine.specs.Found.{sought_number}
use Rattle.ld_engine.proofs.Numbered.{found-seen, none-seen}
use Rattle.ld_engine.proofs.seen.found.Goals as goal

pub returns-in_default : goal.returns-in_default
returns-in_default c = sym (none-seen c.number_law.ensures c.args.texts.now.known c.known.ensures.distinct c.args.from.0 c.args.name.now (sym c.in_default.ensures))

pub returns : goal.returns
returns c =
    c.number_of.ensures ∙ ap sought_number c.seek.ensures ∙ sym (found-seen c.number_law.ensures c.args.texts.now.known c.known.ensures.distinct c.args.from.0 c.args.name.now c.in-Some.file.now (sym c.in-Some.ensures))
