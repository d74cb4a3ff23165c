use Rattle.std.proofs.Common.{ap, sym, ◌∙◌}
use Rattle.ld_work.specs.Inside.Found.{text_in}
use Rattle.ld_work.proofs.Numbered.{found-seen}
use Rattle.ld_work.proofs.seen.found.Goals as goal

pub returns : goal.returns
returns c =
    c.text_in.ensures ∙ ap text_in c.resolve.ensures ∙ sym (found-seen c.number_law.ensures c.lookup_law.ensures.finds c.args.reader.now.texts.known c.args.name.now c.args.from.0)
