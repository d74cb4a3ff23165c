-- Lines that define colours: Colour Definition Language Extension, the META command `0 !COLOUR`. How long numbers are,
-- `0x` beside `#`, and that any other field begins a finish, which is ignored, is this project's own.
use Rattle.std.specs.Prelude.{ℕ, Bool, true, false, List, [], ◌∷◌, length, take, drop, Option, Some, None, ◌==◌, ◌&&◌, ◌||◌, not, nat_le, if◌then◌else◌, bytes_eq, codes}
use Rattle.ld_line.specs.Digits.{decimal_number, number_of}
use Rattle.ld_line.specs.Field.{fields}
use Rattle.ld_colour.specs.declared.definition.ColourLine.{ColourLine}
use Rattle.ld_colour.specs.declared.definition.ColourLine.TheVariants.{Other, Bad, Defines}
use Rattle.ld_colour.specs.declared.definition.DefinedEdge.{DefinedEdge}
use Rattle.ld_colour.specs.declared.definition.DefinedEdge.TheVariants.{Value, ValueOf}
use Rattle.ld_colour.specs.declared.definition.Definition.{Definition}

abbrev pub six_hex_digits : List ℕ → Option ℕ
six_hex_digits digits = if length digits == 6 then number_of 16 6 digits else None

-- `#` or `0x` and six hexadecimal digits
abbrev pub rgb_value : List ℕ → Option ℕ
rgb_value field = if bytes_eq (take 1 field) (codes "#") then six_hex_digits (drop 1 field) else if bytes_eq (take 2 field) (codes "0x") then six_hex_digits (drop 2 field) else None

abbrev pub edge_by : Option ℕ → Option ℕ → Option DefinedEdge
edge_by (Some value) code = Some (Value value)
edge_by None (Some code) = Some (ValueOf code)
edge_by None None = None

-- an edge colour: such a value, or the code of the colour whose value it is
abbrev pub edge_value : List ℕ → Option DefinedEdge
edge_value field = edge_by (rgb_value field) (decimal_number field)

abbrev pub is_optional : List ℕ → Bool
is_optional word = bytes_eq word (codes "ALPHA") || bytes_eq word (codes "LUMINANCE")

abbrev pub is_some_up_to : ℕ → Option ℕ → Bool
is_some_up_to most (Some number) = nat_le number most
is_some_up_to most None = false

-- one to three digits that write a number up to 255
abbrev pub is_up_to_255 : List ℕ → Bool
is_up_to_255 field = is_some_up_to 255 (number_of 10 3 field)

-- the fields behind the edge colour: ALPHA and LUMINANCE with their numbers, and then anything or nothing
abbrev pub is_rest : List (List ℕ) → Bool
is_rest [] = true
is_rest (word ∷ []) = not (is_optional word)
is_rest (word ∷ number ∷ fields) = if is_optional word then (if is_up_to_255 number then is_rest fields else false) else true

abbrev pub made : Option ℕ → Option ℕ → Option DefinedEdge → Option (ℕ × Definition)
made (Some code) (Some value) (Some edge) = Some (code, record { value = value; edge = edge })
made code value edge = None

abbrev pub are_keywords : List ℕ → List ℕ → List ℕ → Bool
are_keywords code value edge = bytes_eq code (codes "CODE") && bytes_eq value (codes "VALUE") && bytes_eq edge (codes "EDGE")

-- a code and its definition, by the fields behind !COLOUR: `name CODE x VALUE v EDGE e` and the rest
abbrev pub defined_by : List (List ℕ) → Option (ℕ × Definition)
defined_by (name ∷ code_word ∷ code ∷ value_word ∷ value ∷ edge_word ∷ edge ∷ rest) =
    if are_keywords code_word value_word edge_word && is_rest rest then made (decimal_number code) (rgb_value value) (edge_value edge) else None
defined_by fields = None

abbrev pub defining : Option (ℕ × Definition) → ColourLine
defining (Some defined) = Defines defined.0 defined.1
defining None = Bad

abbrev pub colour_line_in : List (List ℕ) → ColourLine
colour_line_in (type ∷ command ∷ fields) = if bytes_eq type (codes "0") && bytes_eq command (codes "!COLOUR") then defining (defined_by fields) else Other
colour_line_in fields = Other

-- what a line is to a colour file
unfoldable pub colour_line : List ℕ → ColourLine
colour_line line = colour_line_in (fields line)
