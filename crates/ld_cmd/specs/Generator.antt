-- The generated model, and the lines that sum up what is answered about it (this project's own).
use Rattle.std.specs.Prelude.{ℕ, ◌+◌, ◌*◌, ◌/◌, ◌%◌, ◌==◌, List, [], ◌++◌, map, codes, decimal, if◌then◌else◌}
use Rattle.std.specs.List.{concat, range_with_len}

-- the reference to the brick with this index, in rows of a hundred
abbrev pub reference : ℕ → List ℕ
reference index = codes "1 " ++ decimal (index % 16) ++ codes " " ++ decimal (20 * (index % 100)) ++ codes " 0 " ++ decimal (20 * (index / 100)) ++ codes " 1 0 0 0 1 0 0 0 1 brick.dat\n"

-- a step ends behind every tenth brick
abbrev pub step_behind : ℕ → List ℕ
step_behind index = if (index + 1) % 10 == 0 then codes "0 STEP\n" else []

abbrev pub brick_lines : ℕ → List ℕ
brick_lines index = reference index ++ step_behind index

-- the lines of so many bricks
abbrev pub bricks : ℕ → List ℕ
bricks count = concat (map brick_lines (range_with_len 0 count))

-- the main model's first line
abbrev pub gen_block : List ℕ
gen_block = codes "0 FILE gen.ldr\n"

abbrev pub brick_block : List ℕ
brick_block = codes "0 FILE brick.dat\n0 Brick\n0 !LDRAW_ORG Unofficial_Part\n0 BFC CERTIFY CCW\n4 16 0 0 0 10 0 0 10 0 10 0 0 10\n1 16 0 -4 0 1 0 0 0 1 0 0 0 1 stud.dat\n"

abbrev pub stud_block : List ℕ
stud_block = codes "0 FILE stud.dat\n0 Stud\n0 !LDRAW_ORG Unofficial_Primitive\n0 BFC CERTIFY CCW\n3 16 0 0 0 4 0 0 0 0 4\n2 24 0 0 0 4 0 0\n"

-- a file of three blocks: so many bricks, the brick, and its stud
unfoldable pub generated : ℕ → List ℕ
generated count = gen_block ++ bricks count ++ brick_block ++ stud_block

-- a word and a number
abbrev pub number_line : List ℕ → ℕ → List ℕ
number_line word number = word ++ codes " " ++ decimal number ++ codes "\n"

-- how many entries, lines of the parts list and steps an answer has
abbrev pub summary_text : ℕ → ℕ → ℕ → List ℕ
summary_text entries parts steps = number_line (codes "entries") entries ++ number_line (codes "parts") parts ++ number_line (codes "steps") steps
