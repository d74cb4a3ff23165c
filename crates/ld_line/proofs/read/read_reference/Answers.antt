use Rattle.std.proofs.Common.{◌≡◌, ap, sym, ◌∙◌, Err}
use Rattle.ld_num.specs.declared.dec.NumError.TheVariants.{OutOfRange}
use Rattle.ld_line.specs.Field.{after_fields, fields}
use Rattle.ld_line.specs.Numbers.{numbers_of}
use Rattle.ld_line.specs.Series.{taken}
use Rattle.ld_line.proofs.Files.{reference_of-read}
use Rattle.ld_line.proofs.read.read_reference.Goals as goal

pub returns-then-not-read-clause-ok : goal.returns-then-not-read-clause-ok
returns-then-not-read-clause-ok c =
    let read = c.in-Some-read_numbers.read in
    let numbers : numbers_of 12 (fields c.in-Some.rest.now) ≡ Err OutOfRange = c.in-Some-read_numbers.ensures.numbers ∙ ap (taken 12 read.values) c.if-not-read.true in
    let file : read.rest.now ≡ after_fields 13 c.args.rest.now = c.in-Some-read_numbers.ensures.rest ∙ ap (after_fields 12) c.in-Some.ensures.1 in
    c.out_of_range.ensures c.in-Some-read_colour.colour ∙ sym (reference_of-read (fields c.args.rest.now) (fields c.in-Some.rest.now) c.in-Some.colour.now c.args.rest.now c.in-Some-read_colour.colour (Err OutOfRange) read.rest.now c.in-Some.ensures.0 c.in-Some-read_colour.ensures numbers file)
