-- What colour words mean: File Format 1.0.2, "Colours" (16 and 24 are the current colour and its edge colour), and
-- direct colours 0x2RRGGBB. The edge colour of a direct colour and of an edge colour is this project's own.
use Rattle.std.specs.Prelude.{ℕ, Bool, true, not, ◌-◌, ◌^◌, ◌==◌, ◌&&◌, nat_le, nat_lt, if◌then◌else◌}
use Rattle.ld_colour.specs.declared.colour.Colour.{Colour}
use Rattle.ld_colour.specs.declared.colour.Colour.TheVariants.{Main, Edge, Code, EdgeOf, Direct}

-- 0x2RRGGBB
abbrev pub is_direct : ℕ → Bool
is_direct word = nat_le 0x2000000 word && nat_le word 0x2FFFFFF

-- the colour of a colour word's number
unfoldable pub colour_of : ℕ → Colour
colour_of word = if word == 16 then Main else if word == 24 then Edge else if is_direct word then Direct (word - 0x2000000) else Code word

-- the colour of a colour's edges
abbrev pub edge : Colour → Colour
edge Main = Edge
edge Edge = Edge
edge (Code code) = EdgeOf code
edge (EdgeOf code) = EdgeOf code
edge (Direct value) = Direct 0x333333

-- a colour where another one is current
abbrev pub under : Colour → Colour → Colour
under Main current = current
under Edge current = edge current
under (Code code) current = Code code
under (EdgeOf code) current = EdgeOf code
under (Direct value) current = Direct value

-- a word that stands for the colour of its own code
abbrev pub is_code : ℕ → Bool
is_code word = not (word == 16) && not (word == 24) && not (is_direct word)

-- no code is a word of another meaning, and direct values have 24 bits
abbrev pub is_lawful : Colour → Bool
is_lawful Main = true
is_lawful Edge = true
is_lawful (Code code) = is_code code
is_lawful (EdgeOf code) = is_code code
is_lawful (Direct value) = nat_lt value (2 ^ 24)
