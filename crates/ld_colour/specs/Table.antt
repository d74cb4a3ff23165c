-- Tables of colours: Colour Definition Language Extension. That the last definition of a code counts, and that an EDGE
-- code is looked up in the whole file, is this project's own.
use Rattle.std.specs.Prelude.{◌≡◌, ◌+◌, ◌==◌, ℕ, true, nat_eq, IfSome, List, [], ◌∷◌, map, Option, Some, None, IsSome, Result, Ok, Err, if◌then◌else◌}
use Rattle.std.specs.Map.{lookup}
use Rattle.ld_line.specs.Cut.{lines_of}
use Rattle.ld_colour.specs.declared.colour.Colour.{Colour}
use Rattle.ld_colour.specs.declared.colour.Colour.TheVariants.{Main, Edge, Code, EdgeOf, Direct}
use Rattle.ld_colour.specs.declared.definition.ColourLine.{ColourLine}
use Rattle.ld_colour.specs.declared.definition.ColourLine.TheVariants.{Other, Bad, Defines}
use Rattle.ld_colour.specs.declared.definition.DefinedEdge.{DefinedEdge}
use Rattle.ld_colour.specs.declared.definition.DefinedEdge.TheVariants.{Value, ValueOf}
use Rattle.ld_colour.specs.declared.definition.Definition.{Definition}
use Rattle.ld_colour.specs.declared.table.Table.{Table}
use Rattle.ld_colour.specs.declared.table.TableError.{TableError}
use Rattle.ld_colour.specs.declared.table.TableError.TheVariants.{BadColour, Memory}
use Rattle.ld_colour.specs.Colour.{is_lawful}
use Rattle.ld_colour.specs.Definition.{colour_line}
use Rattle.ld_colour.specs.Rgb.{IsRgb}

-- the definition that counts for each code
abbrev pub Counting : Type 0
Counting = ℕ → Option Definition

abbrev pub counting : Table → Counting
counting table code = lookup (nat_eq code) table

-- the first that is there
abbrev pub or_else : Option Definition → Option Definition → Option Definition
or_else (Some definition) other = Some definition
or_else None other = other

-- the last definition of a code among those of a file, in order
abbrev pub last_definition : List (ℕ × Definition) → Counting
last_definition [] code = None
last_definition (defined ∷ more) code = or_else (last_definition more code) (if defined.0 == code then Some defined.1 else None)

abbrev pub onto_definitions : ℕ × Definition → Result (List (ℕ × Definition)) ℕ → Result (List (ℕ × Definition)) ℕ
onto_definitions defined (Ok more) = Ok (defined ∷ more)
onto_definitions defined (Err number) = Err number

-- the definitions of lines that are numbered from here on, or the number of the first bad line
abbrev pub definitions_from : ℕ → List ColourLine → Result (List (ℕ × Definition)) ℕ
definitions_from number [] = Ok []
definitions_from number (Other ∷ lines) = definitions_from (number + 1) lines
definitions_from number (Bad ∷ lines) = Err number
definitions_from number (Defines code definition ∷ lines) = onto_definitions (code, definition) (definitions_from (number + 1) lines)

-- the definitions of a colour file in order, or the number of its first bad line
unfoldable pub definitions_of : List ℕ → Result (List (ℕ × Definition)) ℕ
definitions_of bytes = definitions_from 1 (map colour_line (lines_of bytes))

abbrev pub tabled : Result (List (ℕ × Definition)) ℕ → Result Counting ℕ
tabled (Ok definitions) = Ok (last_definition definitions)
tabled (Err number) = Err number

-- what counts after a colour file, or the number of its first bad line
abbrev pub table_in : List ℕ → Result Counting ℕ
table_in bytes = tabled (definitions_of bytes)

-- why a table is refused: its first bad line, or want of memory where some code is defined
abbrev pub IsRefused : Result Counting ℕ → TableError → Type 0
IsRefused table (BadColour number) = table ≡ Err number
IsRefused table Memory = (defined : Counting) × (code : ℕ) × (table ≡ Ok defined) × IsSome (defined code)

abbrev pub value_by : Option Definition → Option ℕ
value_by None = None
value_by (Some definition) = Some definition.value

abbrev pub value_in : Counting → ℕ → Option ℕ
value_in table code = value_by (table code)

abbrev pub value_of_edge : Counting → DefinedEdge → Option ℕ
value_of_edge table (Value value) = Some value
value_of_edge table (ValueOf code) = value_in table code

abbrev pub edge_of : Counting → Option Definition → Option ℕ
edge_of table None = None
edge_of table (Some definition) = value_of_edge table definition.edge

abbrev pub edge_in : Counting → ℕ → Option ℕ
edge_in table code = edge_of table (table code)

-- red, green and blue of a colour; the main colour and the edge colour are looked up by their words
unfoldable pub rgb_in : Counting → Colour → Option ℕ
rgb_in table Main = value_in table 16
rgb_in table Edge = value_in table 24
rgb_in table (Code code) = value_in table code
rgb_in table (EdgeOf code) = edge_in table code
rgb_in table (Direct value) = Some value

-- what is found of lawful colours has eight bits each
abbrev pub FindsRgb : Counting → Type 0
FindsRgb table = (colour : Colour) → is_lawful colour ≡ true → IfSome (rgb_in table colour) IsRgb

-- what counts so far, overruled by further definitions
abbrev pub overruled : Counting → Result (List (ℕ × Definition)) ℕ → Result Counting ℕ
overruled so_far (Ok definitions) = Ok (λ code. or_else (last_definition definitions code) (so_far code))
overruled so_far (Err number) = Err number

-- the number of the first bad line
abbrev pub bad_in : {A : Type 0} → Result A ℕ → Option ℕ
bad_in (Ok definitions) = None
bad_in (Err number) = Some number

-- a bad line counts before want of memory
abbrev pub table_error : Option ℕ → TableError
table_error (Some number) = BadColour number
table_error None = Memory
