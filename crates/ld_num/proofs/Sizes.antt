-- Signs and sizes.
use Rattle.std.proofs.Common.{◌≡◌, ℕ, zero, suc, Bool, true, false, refl}
use Rattle.ld_num.specs.Number.{if_in_range, signed_of}
use Rattle.ld_num.specs.Scan.{in_range}

pub in_range_is : (is_negative : Bool) (size : ℕ) → if_in_range (signed_of is_negative size) ≡ in_range is_negative size
in_range_is false size = refl
in_range_is true zero = refl
in_range_is true (suc size) = refl
