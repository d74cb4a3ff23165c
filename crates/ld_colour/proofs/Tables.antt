-- What counts after each line of a colour file.
use Rattle.std.proofs.Common.{◌≡◌, ◌+◌, ◌==◌, ℕ, Bool, true, false, List, ◌∷◌, map, Option, Some, None, Result, Ok, Err, IsSome, refl, ap, arith, tests, if◌then◌else◌}
use Rattle.std.proofs.Math.Path.{fun_ext}
use Rattle.ld_line.specs.Cut.{lines_of}
use Rattle.ld_colour.specs.declared.definition.ColourLine.{ColourLine}
use Rattle.ld_colour.specs.declared.definition.ColourLine.TheVariants.{Defines}
use Rattle.ld_colour.specs.declared.definition.Definition.{Definition}
use Rattle.ld_colour.specs.declared.table.TableError.{TableError}
use Rattle.ld_colour.specs.Definition.{colour_line}
use Rattle.ld_colour.specs.Table.{Counting, definitions_from, definitions_of, last_definition, onto_definitions, or_else, overruled, table_in, tabled, IsRefused, bad_in, table_error}

or_none : (o : Option Definition) → or_else o None ≡ o
or_none None = refl
or_none (Some definition) = refl

-- before any line nothing counts
from_nothing : (r : Result (List (ℕ × Definition)) ℕ) → overruled (λ _. None) r ≡ tabled r
from_nothing (Ok definitions) = ap Ok (fun_ext (λ code. or_none (last_definition definitions code)))
from_nothing (Err number) = refl

pub at_start : (so_far : Counting) (bytes : List ℕ) (lines : List (List ℕ)) → so_far ≡ (λ _. None) → lines ≡ lines_of bytes → overruled so_far (definitions_from (0 + 1) (map colour_line lines)) ≡ table_in bytes
unfolding definitions_of
at_start so_far bytes lines nothing are = rw (nothing, are) (from_nothing (definitions_from 1 (map colour_line (lines_of bytes))))

some_code : (o so_far : Option Definition) (b : Bool) (definition : Definition) → b ≡ true → IsSome (or_else (or_else o (if b then Some definition else None)) so_far)
some_code (Some other) so_far b definition same = refl
some_code None so_far true definition same = refl
some_code None so_far false definition same = cc

same : (code : ℕ) → (code == code) ≡ true
same code = grind (arith, tests)

refused_more : (so_far : Counting) (code : ℕ) (definition : Definition) (e : TableError) (r : Result (List (ℕ × Definition)) ℕ) → e ≡ table_error (bad_in r) → IsRefused (overruled so_far (onto_definitions (code, definition) r)) e
refused_more so_far code definition e (Err number) is = rw is refl
refused_more so_far code definition e (Ok definitions) is =
    rw is ((λ q. or_else (last_definition ((code, definition) ∷ definitions) q) (so_far q)), code, refl, some_code (last_definition definitions code) (so_far code) (code == code) definition (same code))

-- where a definition finds no memory, a bad line behind it is told first
pub refused_step : (so_far : Counting) (number : ℕ) (line : List ℕ) (lines : List ColourLine) (code : ℕ) (definition : Definition) (e : TableError) → colour_line line ≡ Defines code definition → e ≡ table_error (bad_in (definitions_from (number + 1) lines)) → IsRefused (overruled so_far (definitions_from number (colour_line line ∷ lines))) e
refused_step so_far number line lines code definition e is refused = rw is (refused_more so_far code definition e (definitions_from (number + 1) lines) refused)
