-- Numbers of these sizes are kept by their words.
use Rattle.std.proofs.Common.{◌*◌, ◌^◌, ◌<◌, ◌≤◌, ℕ, ℤ, unsigned_abs, arith, lit<, of_z, to_z}
use Rattle.std.specs.Int.{w64, w128}
use Rattle.std.proofs.lemmas.Int.{fits_signed_from_abs, to_z-of_z}

pub kept_64 : (x : ℤ) (most : ℕ) → most < 2 ^ 63 → unsigned_abs x ≤ most → unsigned_abs (to_z w64 (of_z w64 x)) ≤ most
kept_64 x most fits small = rw (to_z-of_z w64 x (fits_signed_from_abs w64 x (omega (arith, small, fits)))) small

pub kept_128 : (x : ℤ) (most : ℕ) → most < 2 ^ 127 → unsigned_abs x ≤ most → unsigned_abs (to_z w128 (of_z w128 x)) ≤ most
kept_128 x most fits small = rw (to_z-of_z w128 x (fits_signed_from_abs w128 x (omega (arith, small, fits)))) small

pub side : (x : ℤ) → unsigned_abs x ≤ 2 * 10 ^ 12 → unsigned_abs (to_z w64 (of_z w64 x)) ≤ 2 * 10 ^ 12
side x small = kept_64 x (2 * 10 ^ 12) (lit< tt) small

pub area : (x : ℤ) → unsigned_abs x ≤ 8 * 10 ^ 24 → unsigned_abs (to_z w128 (of_z w128 x)) ≤ 8 * 10 ^ 24
area x small = kept_128 x (8 * 10 ^ 24) (lit< tt) small

pub volume : (x : ℤ) → unsigned_abs x ≤ 16 * 10 ^ 36 → unsigned_abs (to_z w128 (of_z w128 x)) ≤ 16 * 10 ^ 36
volume x small = kept_128 x (16 * 10 ^ 36) (lit< tt) small

pub volumes : (x : ℤ) → unsigned_abs x ≤ 32 * 10 ^ 36 → unsigned_abs (to_z w128 (of_z w128 x)) ≤ 32 * 10 ^ 36
volumes x small = kept_128 x (32 * 10 ^ 36) (lit< tt) small
