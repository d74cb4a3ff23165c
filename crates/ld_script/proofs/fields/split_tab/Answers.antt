use Rattle.std.proofs.Common.{◌≡◌, ◌∙◌, ◌+◌, ◌-◌, arith, ap, sym, drop, length, option_map, take, Some}
use Rattle.std.proofs.lemmas.List.{length-drop, take_all}
use Rattle.ld_script.specs.Fields.{cut_at_tab}
use Rattle.ld_script.proofs.fields.split_tab.Goals as goal

pub returns-in_default : goal.returns-in_default
unfolding cut_at_tab
returns-in_default c = ap (option_map (λ at. (take at c.args.line.now, drop (at + 1) c.args.line.now))) (sym c.in_default.ensures.first)

pub returns : goal.returns
unfolding cut_at_tab
returns c =
    let line = c.args.line.now in
    let place = c.in-Some.place in
    let behind = drop (place + 1) line in
    let whole : take (length line - (place + 1)) behind ≡ behind = take_all (length line - (place + 1)) behind (omega (arith, length-drop (place + 1) line)) in
    ap (option_map (λ at. (take at line, drop (at + 1) line))) (sym c.in-Some.ensures.first) ∙ ap (λ rest. Some (take place line, rest)) (sym whole)
