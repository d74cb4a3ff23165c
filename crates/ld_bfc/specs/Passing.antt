-- What references pass down: Back Face Culling (BFC) Language Extension, "INVERTNEXT", the rules on certified files
-- and on mirrored matrices. That a silent part text passes no certification on is this project's own.
use Rattle.std.specs.Prelude.{Bool, true, false, not, ◌&&◌, ◌||◌}
use Rattle.ld_bfc.specs.declared.culling.State.{State}
use Rattle.ld_bfc.specs.declared.passing.Below.{Below}
use Rattle.ld_bfc.specs.LineState.{is_certified, is_silent}

-- exactly one of the two
abbrev pub differ : Bool → Bool → Bool
differ true b = not b
differ false b = b

-- whether faces below a reference may be certified: not below an uncertified text, nor below a silent part text
abbrev pub enabled : State → Bool
enabled state = is_certified state.cert || (is_silent state.cert && not state.part)

-- what a reference in a state passes down: an INVERTNEXT before it turns, and so does a mirroring matrix
unfoldable pub below : State → Bool → Below
below state mirrored = record { enable = enabled state; clip = state.clip; invert = differ mirrored state.invert_next }

-- what two references, one below the other, pass down together
abbrev pub with : Below → Below → Below
with outer inner = record { enable = outer.enable && inner.enable; clip = outer.clip && inner.clip; invert = differ outer.invert inner.invert }

-- what no reference passes down
abbrev pub neutral : Below
neutral = record { enable = true; clip = true; invert = false }
