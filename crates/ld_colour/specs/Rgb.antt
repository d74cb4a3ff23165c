-- Red, green and blue have eight bits each: Colour Definition Language Extension, "VALUE" and "EDGE".
use Rattle.std.specs.Prelude.{◌<◌, ◌^◌, ℕ, ⊤}
use Rattle.ld_colour.specs.declared.definition.DefinedEdge.{DefinedEdge}
use Rattle.ld_colour.specs.declared.definition.DefinedEdge.TheVariants.{Value, ValueOf}
use Rattle.ld_colour.specs.declared.definition.Definition.{Definition}

abbrev pub IsRgb : ℕ → Type 0
IsRgb value = value < 2 ^ 24

abbrev pub IsRgbEdge : DefinedEdge → Type 0
IsRgbEdge (Value value) = IsRgb value
IsRgbEdge (ValueOf code) = ⊤

-- the values that a definition has
abbrev pub HasRgb : Definition → Type 0
HasRgb definition = IsRgb definition.value × IsRgbEdge definition.edge
