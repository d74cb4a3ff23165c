-- Six hexadecimal digits write red, green and blue.
use Rattle.std.proofs.Common.{◌≡◌, ◌==◌, ◌&&◌, ◌<◌, ◌^◌, ℕ, true, List, [], ◌∷◌, length, take, drop, Option, Some, None, subst, nat_lt}
use Rattle.std.specs.Prelude.{All, IfSome, bytes_eq, codes, nat_eq, ⊤}
use Rattle.std.specs.Char.{digit_value, is_digit}
use Rattle.std.specs.List.{list_all}
use Rattle.std.specs.Map.{values_of}
use Rattle.std.specs.Str.Parse.{AllDigits, digits_value}
use Rattle.std.proofs.lemmas.Bool.{and_parts, cond_both, eqb-true, ltb-true}
use Rattle.std.proofs.lemmas.Int.Digits.{digits_value-lt}
use Rattle.std.proofs.lemmas.Map.Views.{IfSome-lookup_from_All}
use Rattle.ld_line.specs.Digits.{decimal_number, is_number, number_of}
use Rattle.ld_line.specs.Field.{fields}
use Rattle.ld_colour.specs.declared.colour.Colour.TheVariants.{Main, Edge, Code, EdgeOf, Direct}
use Rattle.ld_colour.specs.declared.definition.ColourLine.{ColourLine}
use Rattle.ld_colour.specs.declared.definition.ColourLine.TheVariants.{Defines, Other}
use Rattle.ld_colour.specs.declared.definition.DefinedEdge.{DefinedEdge}
use Rattle.ld_colour.specs.declared.definition.DefinedEdge.TheVariants.{Value, ValueOf}
use Rattle.ld_colour.specs.declared.definition.Definition.{Definition}
use Rattle.ld_colour.specs.declared.table.Table.{Table}
use Rattle.ld_colour.specs.Definition.{are_keywords, colour_line, colour_line_in, defined_by, defining, edge_by, edge_value, is_rest, made, rgb_value, six_hex_digits}
use Rattle.ld_colour.specs.Rgb.{HasRgb, IsRgb, IsRgbEdge}
use Rattle.ld_colour.specs.Table.{FindsRgb, counting, edge_of, rgb_in, value_by, value_in, value_of_edge}

-- ---- What a line defines.

abbrev pub DefinesRgb : ColourLine → Type 0
DefinesRgb (Defines code definition) = HasRgb definition
DefinesRgb line = ⊤

all-digits : (radix : ℕ) (digits : List ℕ) → list_all (λ digit. is_digit digit radix) digits ≡ true → AllDigits radix digits
all-digits radix [] all = tt
all-digits radix (digit ∷ digits) all =
    let parts = and_parts (is_digit digit radix) (list_all (λ d. is_digit d radix) digits) all in
    (ltb-true (digit_value digit) radix parts.0, all-digits radix digits parts.1)

six_digits-rgb : (digits : List ℕ) → IfSome (six_hex_digits digits) IsRgb
six_digits-rgb digits =
    cond_both (length digits == 6) (number_of 16 6 digits) None (λ o. IfSome o IsRgb)
    (λ six. cond_both (is_number 16 6 digits) (Some (digits_value 16 digits)) None (λ o. IfSome o IsRgb)
    (λ number.
    let parts = and_parts _ (nat_lt (digits_value 16 digits) (2 ^ 32)) number in
    let digit = and_parts _ (list_all (λ digit. is_digit digit 16) digits) parts.0 in
    let P : ℕ → Type 0 = λ n. digits_value 16 digits < 16 ^ n in
    let count : length digits ≡ 6 = eqb-true (length digits) 6 six in
    subst P count (digits_value-lt 16 digits (all-digits 16 digits digit.1)))
    (λ none. tt))
    (λ none. tt)

rgb_value-rgb : (field : List ℕ) → IfSome (rgb_value field) IsRgb
rgb_value-rgb field =
    cond_both (bytes_eq (take 1 field) (codes "#")) (six_hex_digits (drop 1 field)) _ (λ o. IfSome o IsRgb) (λ hash. six_digits-rgb (drop 1 field))
    (λ other. cond_both (bytes_eq (take 2 field) (codes "0x")) (six_hex_digits (drop 2 field)) None (λ o. IfSome o IsRgb) (λ hex. six_digits-rgb (drop 2 field)) (λ none. tt))

edge_by-rgb : (value code : Option ℕ) → IfSome value IsRgb → IfSome (edge_by value code) IsRgbEdge
edge_by-rgb (Some value) code rgb = rgb
edge_by-rgb None (Some code) rgb = tt
edge_by-rgb None None rgb = tt

made-rgb : (code value : Option ℕ) (edge : Option DefinedEdge) → IfSome value IsRgb → IfSome edge IsRgbEdge → IfSome (made code value edge) (λ defined. HasRgb defined.1)
made-rgb None value edge v e = tt
made-rgb (Some code) None edge v e = tt
made-rgb (Some code) (Some value) None v e = tt
made-rgb (Some code) (Some value) (Some edge) v e = (v, e)

defined_by-rgb : (fields : List (List ℕ)) → IfSome (defined_by fields) (λ defined. HasRgb defined.1)
defined_by-rgb [] = tt
defined_by-rgb (a ∷ []) = tt
defined_by-rgb (a ∷ b ∷ []) = tt
defined_by-rgb (a ∷ b ∷ c ∷ []) = tt
defined_by-rgb (a ∷ b ∷ c ∷ d ∷ []) = tt
defined_by-rgb (a ∷ b ∷ c ∷ d ∷ e ∷ []) = tt
defined_by-rgb (a ∷ b ∷ c ∷ d ∷ e ∷ f ∷ []) = tt
defined_by-rgb (name ∷ code_word ∷ code ∷ value_word ∷ value ∷ edge_word ∷ edge ∷ rest) =
    cond_both (are_keywords code_word value_word edge_word && is_rest rest) (made (decimal_number code) (rgb_value value) (edge_value edge)) None (λ o. IfSome o (λ defined. HasRgb defined.1))
    (λ is. made-rgb (decimal_number code) (rgb_value value) (edge_value edge) (rgb_value-rgb value) (edge_by-rgb (rgb_value edge) (decimal_number edge) (rgb_value-rgb edge)))
    (λ none. tt)

defining-rgb : (defined : Option (ℕ × Definition)) → IfSome defined (λ d. HasRgb d.1) → DefinesRgb (defining defined)
defining-rgb None rgb = tt
defining-rgb (Some defined) rgb = rgb

line_in-rgb : (fields : List (List ℕ)) → DefinesRgb (colour_line_in fields)
line_in-rgb [] = tt
line_in-rgb (type ∷ []) = tt
line_in-rgb (type ∷ command ∷ fields) =
    cond_both (bytes_eq type (codes "0") && bytes_eq command (codes "!COLOUR")) (defining (defined_by fields)) Other DefinesRgb (λ is. defining-rgb (defined_by fields) (defined_by-rgb fields)) (λ other. tt)

pub line-rgb : (line : List ℕ) → DefinesRgb (colour_line line)
unfolding colour_line
line-rgb line = line_in-rgb (fields line)

-- ---- What is found in a table.

value_by-rgb : (o : Option Definition) → IfSome o HasRgb → IfSome (value_by o) IsRgb
value_by-rgb None rgb = tt
value_by-rgb (Some definition) rgb = rgb.0

module _ (table : Table) (all : All HasRgb (values_of table)) where
  value-rgb : (code : ℕ) → IfSome (value_in (counting table) code) IsRgb
  value-rgb code = value_by-rgb (counting table code) (IfSome-lookup_from_All HasRgb (nat_eq code) table all)

  value_of_edge-rgb : (edge : DefinedEdge) → IsRgbEdge edge → IfSome (value_of_edge (counting table) edge) IsRgb
  value_of_edge-rgb (Value value) rgb = rgb
  value_of_edge-rgb (ValueOf code) rgb = value-rgb code

  edge_of-rgb : (o : Option Definition) → IfSome o HasRgb → IfSome (edge_of (counting table) o) IsRgb
  edge_of-rgb None rgb = tt
  edge_of-rgb (Some definition) rgb = value_of_edge-rgb definition.edge rgb.1

  pub values : FindsRgb (counting table)
  unfolding rgb_in
  values Main lawful = value-rgb 16
  values Edge lawful = value-rgb 24
  values (Code code) lawful = value-rgb code
  values (EdgeOf code) lawful = edge_of-rgb (counting table code) (IfSome-lookup_from_All HasRgb (nat_eq code) table all)
  values (Direct value) lawful = ltb-true value (2 ^ 24) lawful
