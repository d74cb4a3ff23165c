use Rattle.std.proofs.Common.{◌≡◌, Ok, rules}
use Rattle.ld_num.specs.Front.{IsFront}
use Rattle.ld_num.specs.Scan.{in_range}
use Rattle.ld_num.proofs.Fronts.{front_number_is}
use Rattle.ld_num.proofs.read.split_plain.Goals as goal

pub returns : goal.returns
returns c =
    let sign = c.split_minus-is_negative.result.0 in
    let digits = c.split_minus-is_negative.result.1.now in
    let size = c.in_ok-size.size in
    let rest = c.in_ok-size.rest.now in
    let front : IsFront digits size rest = search rules in
    let range : in_range sign size ≡ Ok c.in-Ok.number = search rules in
    front_number_is c.args.text.now digits rest size sign c.in-Ok.number c.split_minus-is_negative.ensures front range (search rules)
