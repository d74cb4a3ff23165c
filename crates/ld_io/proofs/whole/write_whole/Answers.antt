use Rattle.std.proofs.Common.{◌≡◌, ◌++◌, refl, ℕ, ◌+◌, ◌-◌, List, Option, length, take, drop, ap, sym, subst, ◌∙◌, take-add, take_all, length-drop, arith}
use Rattle.std.specs.Io.KnownBytes.{Appends}
use Rattle.std.proofs.KnownBytes.{Appends-trans}
use Rattle.ld_io.proofs.whole.write_whole.Goals as goal

-- one write, and the writes before it
after_write : (old mid new : Option (List ℕ)) (piece rest : List ℕ) (taken count : ℕ) → rest ≡ take (length piece - taken) (drop taken piece) → Appends old mid (take taken piece) → Appends mid new (take count rest) → Appends old new (take (taken + count) piece)
after_write old mid new piece rest taken count is before now =
    let left : rest ≡ drop taken piece = is ∙ take_all (length piece - taken) (drop taken piece) (omega (arith, length-drop taken piece)) in
    let joined : take taken piece ++ take count rest ≡ take (taken + count) piece = ap (λ bytes. take taken piece ++ take count bytes) left ∙ sym (take-add taken count piece) in
    subst (Appends old new) joined (Appends-trans old mid new (take taken piece) (take count rest) before now)

pub loop-preserved : goal.loop-preserved
loop-preserved g c =
    (grind (arith, c.loop.invariant.0, c.in-Ok.ensures.0), after_write _ _ _ c.args.piece.now _ c.loop.taken c.in-Ok.count refl c.loop.invariant.1 c.in-Ok.ensures.1)
