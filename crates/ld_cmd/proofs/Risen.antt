-- A count that rose in a later call rose in both.
use Rattle.std.proofs.Common.{◌≤◌, ℕ, inl, inr, arith}
use Rattle.ld_io.specs.Faults.{HasRisen}

pub risen-on : (first between after : ℕ) → first ≤ between → HasRisen between after → HasRisen first after
risen-on first between after before (inl rose) = inl (omega (arith, before, rose))
risen-on first between after before (inr last) = inr last
