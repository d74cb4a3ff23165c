use Rattle.std.proofs.Common.{◌*◌, ap, sym, ◌∙◌}
use Rattle.ld_line.specs.Field.{fields}
use Rattle.ld_line.specs.Numbers.{numbers_of}
use Rattle.ld_line.specs.Series.{taken}
use Rattle.ld_line.proofs.Steps.{draw_of-read, points_of-taken}
use Rattle.ld_line.proofs.read.read_draw.Goals as goal

pub returns : goal.returns
returns c =
    let read = c.in-Some-read_numbers in
    let numbers = ap (λ n. numbers_of (3 * n) (fields c.in-Some.rest.now)) (sym c.points.ensures) ∙ read.ensures.numbers ∙ ap (taken _ read.read.values) c.if-not-read.false in
    sym (draw_of-read c.args.kind _ (fields c.in-Some.rest.now) c.in-Some.colour.now c.in-Some-read_colour.colour _ _ c.in-Some.ensures.0 c.in-Some-read_colour.ensures numbers (c.points-points.ensures ∙ sym (points_of-taken read.read.values _ read.ensures.zeros)))
