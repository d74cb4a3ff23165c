use Rattle.std.proofs.Common.{◌≡◌, ◌<◌, length, take, arith, tests}
use Rattle.std.specs.List.{position_or_len}
use Rattle.ld_names.specs.Normal.{is_blank, trim_start}
use Rattle.ld_line.specs.Field.{after_field}
use Rattle.ld_line.proofs.Fields.{fields-none, fields-first}
use Rattle.ld_line.proofs.field.split_field.Goals as goal

pub returns-then-is_empty : goal.returns-then-is_empty
returns-then-is_empty c =
    fields-none c.args.line.now (grind (arith, tests))

pub returns : goal.returns
unfolding after_field
returns c =
    let text = c.trimmed_start-text.ensures in
    let some : 0 < length (trim_start c.args.line.now) = grind (arith, tests) in
    let front : c.split_at.result.0.now ≡ take (position_or_len is_blank (trim_start c.args.line.now)) (trim_start c.args.line.now) = cc (c.split_at.ensures.front, c.field_end.ensures.end) in
    let back : c.split_at.result.1.now ≡ after_field c.args.line.now = cc (c.split_at.ensures.back, c.field_end.ensures.end) in
    (rw (front, back) (fields-first c.args.line.now some), back)
