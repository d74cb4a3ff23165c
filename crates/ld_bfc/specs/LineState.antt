-- The state of back face culling before each line of a text: Back Face Culling (BFC) Language Extension, the META
-- commands `0 BFC CERTIFY`, `NOCERTIFY`, `CLIP`, `NOCLIP`, `CW`, `CCW` and `INVERTNEXT`. That the first statement
-- decides whichever it is, that the others act in every state, and how long an INVERTNEXT stands, is this project's own.
use Rattle.std.specs.Prelude.{ℕ, Bool, true, false, List, take, not, ◌-◌, ◌&&◌, if◌then◌else◌}
use Rattle.std.specs.List.{fold}
use Rattle.ld_line.specs.declared.line.BfcWord.{BfcWord}
use Rattle.ld_line.specs.declared.line.BfcWord.TheVariants.{Certify, NoCertify, Clip, NoClip, Wind, ClipWind, InvertNext}
use Rattle.ld_line.specs.declared.line.Line.{Line}
use Rattle.ld_line.specs.declared.line.Line.TheVariants.{Ref, Draw, Bfc}
use Rattle.ld_line.specs.declared.line.Winding.{Winding}
use Rattle.ld_line.specs.declared.line.Winding.TheVariants.{Ccw}
use Rattle.ld_bfc.specs.declared.culling.Cert.{Cert}
use Rattle.ld_bfc.specs.declared.culling.Cert.TheVariants.{Silent, Yes, No}
use Rattle.ld_bfc.specs.declared.culling.State.{State}

-- before the first line
abbrev pub start : Bool → State
start part = record { part = part; cert = Silent; clip = true; winding = Ccw; invert_next = false; drawn = false }

abbrev pub is_silent : Cert → Bool
is_silent Silent = true
is_silent Yes = false
is_silent No = false

abbrev pub is_certified : Cert → Bool
is_certified Yes = true
is_certified Silent = false
is_certified No = false

-- what the statement that decides says: all but NOCERTIFY certify, and CERTIFY gives a winding
abbrev pub certifying : BfcWord → State → State
certifying NoCertify state = record state { cert = No }
certifying (Certify winding) state = record state { cert = Yes; winding = winding }
certifying word state = record state { cert = Yes }

-- a statement decides where none came before it and nothing is drawn yet
abbrev pub decided : BfcWord → State → State
decided word state = if is_silent state.cert && not state.drawn then certifying word state else state

-- what a statement sets wherever it stands
abbrev pub obeyed : BfcWord → State → State
obeyed (Certify winding) state = state
obeyed NoCertify state = state
obeyed Clip state = record state { clip = true }
obeyed NoClip state = record state { clip = false }
obeyed (Wind winding) state = record state { winding = winding }
obeyed (ClipWind winding) state = record state { clip = true; winding = winding }
obeyed InvertNext state = record state { invert_next = true }

-- behind a line that draws or refers: an INVERTNEXT before it is used up
abbrev pub after_drawing : State → State
after_drawing state = record state { invert_next = false; drawn = true }

-- the state behind a line, by the state before it
unfoldable pub next : State → Line → State
next state (Bfc word) = obeyed word (decided word state)
next state (Ref colour placement name) = after_drawing state
next state (Draw kind colour points) = after_drawing state
next state line = state

-- the state before a line of a text, by the line's number from 1
unfoldable pub state_before : Bool → List Line → ℕ → State
state_before part lines number = fold next (start part) (take (number - 1) lines)

-- whether a face drawn in a state is certified, whether it is clipped, and its winding
abbrev pub face : State → Bool × Bool × Winding
face state = (is_certified state.cert, state.clip, state.winding)
