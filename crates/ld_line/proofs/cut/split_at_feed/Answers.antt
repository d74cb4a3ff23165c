use Rattle.std.proofs.Common.{arith, ◌≡◌, ◌+◌, ◌-◌, length, take, drop, sym, ap, ◌∙◌, ◌∷◌}
use Rattle.std.proofs.lemmas.List.{length-drop, take_all}
use Rattle.std.specs.List.{slice_split}
use Rattle.ld_line.specs.Cut.{is_line_feed}
use Rattle.ld_line.proofs.Cuts.{slice_split-none, slice_split-some}
use Rattle.ld_line.proofs.cut.split_at_feed.Goals as goal

pub returns-in_default : goal.returns-in_default
returns-in_default c = slice_split-none c.args.bytes.now c.in_default.ensures

pub returns : goal.returns
returns c =
    let xs = c.args.bytes.now in
    let more = drop (c.in-Some.end + 1) xs in
    let whole : take (length xs - (c.in-Some.end + 1)) more ≡ more = take_all (length xs - (c.in-Some.end + 1)) more (omega (arith, length-drop (c.in-Some.end + 1) xs)) in
    let cut : slice_split is_line_feed xs ≡ take c.in-Some.end xs ∷ slice_split is_line_feed (take (length xs - (c.in-Some.end + 1)) more) = slice_split-some xs c.in-Some.end c.in-Some.ensures ∙ ap (λ ys. take c.in-Some.end xs ∷ slice_split is_line_feed ys) (sym whole) in
    (cut, omega (arith, ap length whole, length-drop (c.in-Some.end + 1) xs, c.in-Some.ensures.0.high))
