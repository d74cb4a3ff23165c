use Rattle.std.proofs.Common.{rules}
use Rattle.ld_cmd.proofs.Opening.{too_big_told}
use Rattle.ld_cmd.proofs.inputs.input_or_line.Goals as goal

pub returns-in-Err-TooBig-clause-told : goal.returns-in-Err-TooBig-clause-told
returns-in-Err-TooBig-clause-told c =
    too_big_told c.args.word.now c.args.bytes.items c.args.fetched c.about_word-in-Err-TooBig.result (search rules) c.about_word-in-Err-TooBig.ensures.decided
