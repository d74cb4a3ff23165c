use Rattle.std.proofs.Common.{◌≡◌, List, ℕ, ℤ, ◌++◌, ◌/◌, ◌^◌, unsigned_abs, append_assoc, rules, Result, Ok, Err, is_ok, cond, OnOk}
use Rattle.std.specs.Fmt.{decimal}
use Rattle.ld_num.specs.Text.{dec_text, sign_text, after_period, without_last_zeros, six_digits}
use Rattle.ld_num.proofs.print.print_long.Goals as goal

joined : (z : ℤ) (old s w p d : List ℕ) → s ≡ sign_text z → w ≡ decimal (unsigned_abs z / 10 ^ 6) → d ≡ without_last_zeros (six_digits (unsigned_abs z)) → p ++ d ≡ after_period d → (((old ++ s) ++ w) ++ p) ++ d ≡ old ++ dec_text z
unfolding dec_text
joined z old s w p d sign whole digits period = rw (← sign, ← whole, ← digits, ← period) (simp append_assoc)

at_ok : {T E : Type 0} (r : Result T E) (a b t : List ℕ) → a ≡ t → OnOk r (cond (is_ok r) a b ≡ t)
at_ok (Ok x) a b t e = e
at_ok (Err x) a b t e = tt

pub returns-clause-ok : goal.returns-clause-ok
returns-clause-ok c =
    let whole : c.as_bytes-whole.result.now ≡ decimal (unsigned_abs c.args.value / 10 ^ 6) = search rules in
    let digits : c.trimmed-digits.result.now ≡ without_last_zeros (six_digits (unsigned_abs c.args.value)) = search rules in
    let e = joined c.args.value c.args.into.now.items _ _ _ _ c.sign_of-sign.ensures whole digits c.period_before-period.ensures.text in
    let e1 = c.in_ok-extend_from_slice.ensures.items in
    let e2 = c.in_ok-extend_from_slice-2.ensures.items in
    let e3 = c.in_ok-extend_from_slice-3.ensures.items in
    rw c.extend_from_slice-4.ensures.items (at_ok _ _ _ _ (cc (e, e1, e2, e3, c.in_ok-reserve.ensures.items)))
