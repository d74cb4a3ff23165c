use Rattle.std.proofs.Common.{rules, sym, tests, ◌∙◌}
use Rattle.std.proofs.lemmas.Iterator.Search.{any_from_yields_List}
use Rattle.std.proofs.lemmas.Iterator.Splits.{YieldsList-from_slice_split}
use Rattle.ld_names.specs.Normal.{is_step}
use Rattle.ld_names.proofs.Lower.{is_separator, steps-lower}
use Rattle.ld_names.proofs.name.steps.Goals as goal

pub returns : goal.returns
returns c =
    any_from_yields_List is_step _ _ _ c.any.ensures.ran (YieldsList-from_slice_split _ is_separator c.args.name.now c.split.ensures.rest c.split.ensures.done c.split.ensures.closure (λ x r q k. search (rules, tests))) (λ x b q k. search (rules, tests)) ∙ sym (steps-lower c.args.name.now)
