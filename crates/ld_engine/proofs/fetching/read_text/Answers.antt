use Rattle.std.proofs.Common.{ap, sym, ◌∙◌}
use Rattle.std.specs.List.{list_all}
use Rattle.ld_mpd.specs.Blocks.{are_inside}
use Rattle.ld_engine.proofs.Learned.{and-first}
use Rattle.ld_engine.proofs.fetching.read_text.Goals as goal

pub returns-in_ok-text_of-in-Some-clause-clean : goal.returns-in_ok-text_of-in-Some-clause-clean
returns-in_ok-text_of-in-Some-clause-clean c =
    let own = c.args.file.now.name in
    let bytes = c.as_slice.result.now in
    let stands = c.block_laws.ensures.stands own bytes in
    let all = sym (ap (list_all (λ text. are_inside text.1)) stands.2) ∙ c.block_laws.ensures.texts_inside own bytes in
    ap are_inside (c.in_ok-text_of-in-Some.ensures.ok own) ∙ and-first _ _ all
