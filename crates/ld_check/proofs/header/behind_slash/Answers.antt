use Rattle.std.proofs.Common.{ap, sym, ◌∙◌, arith}
use Rattle.ld_check.specs.Header.{last_component}
use Rattle.ld_check.proofs.Components.{component_behind, one_component}
use Rattle.ld_check.proofs.header.behind_slash.Goals as goal

pub returns-in_default : goal.returns-in_default
returns-in_default c = one_component c.args.name.now (sym c.in_default.ensures.place)

pub returns : goal.returns
returns c =
    (ap last_component c.split_at.ensures.back ∙ component_behind c.args.name.now c.in-Some.place (sym c.in-Some.ensures.place), omega (arith, c.split_at.ensures.back_len, c.in-Some.ensures.within))
