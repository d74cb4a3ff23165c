-- Blocks of a file: MPD Language Extension. What holds of names without a normal form, of blocks of one name, and of
-- lines outside blocks is this project's own.
use Rattle.std.specs.Prelude.{◌≡◌, ◌&&◌, ℕ, Bool, true, false, not, if◌then◌else◌, List, [], ◌∷◌, ◌++◌, Option, Some, None, Result, Ok, Err, bytes_eq}
use Rattle.std.specs.List.{list_all, list_any}
use Rattle.ld_names.specs.Normal.{normal_of}
use Rattle.ld_names.specs.declared.name.NameError.{NameError}
use Rattle.ld_line.specs.declared.line.BlockLine.{BlockLine}
use Rattle.ld_line.specs.declared.line.BlockLine.TheVariants.{File, NoFile, Data, Other}
use Rattle.ld_line.specs.Block.{block_line_of, is_other}
use Rattle.ld_line.specs.Cut.{lines_of}
use Rattle.ld_line.specs.Field.{after_fields}
use Rattle.ld_line.specs.Word.{is_one_line}
use Rattle.ld_mpd.specs.declared.block.Block.{Block}

-- ---- one block

-- a line that neither begins nor ends a block
abbrev pub is_inside : List ℕ → Bool
is_inside line = is_other (block_line_of line)

-- a block's lines: those up to the next line that begins or ends a block
abbrev pub inside : List (List ℕ) → List (List ℕ)
inside [] = []
inside (line ∷ lines) = if is_inside line then line ∷ inside lines else []

abbrev pub name_or : List ℕ → Result (List ℕ) NameError → List ℕ
name_or own (Ok name) = name
name_or own (Err e) = own

-- the name behind the second field of a line, or the file's own name where that has no normal form
abbrev pub block_name : List ℕ → List ℕ → List ℕ
block_name own line = name_or own (normal_of (after_fields 2 line))

abbrev pub block : Bool → List ℕ → List (List ℕ) → Block
block is_data name lines = record { name = name; lines = lines; is_data = is_data }

-- ---- the blocks of lines

-- the block that begins at a line, by what the line is, with the lines behind it
abbrev pub block_at : List ℕ → List ℕ → List (List ℕ) → BlockLine → List Block
block_at own line lines File = block false (block_name own line) (inside lines) ∷ []
block_at own line lines Data = block true (block_name own line) (inside lines) ∷ []
block_at own line lines NoFile = []
block_at own line lines Other = []

-- the blocks that begin at the FILE and DATA lines, in order
abbrev pub begun_blocks : List ℕ → List (List ℕ) → List Block
begun_blocks own [] = []
begun_blocks own (line ∷ lines) = block_at own line lines (block_line_of line) ++ begun_blocks own lines

abbrev pub is_file : BlockLine → Bool
is_file File = true
is_file NoFile = false
is_file Data = false
is_file Other = false

-- the lines behind the first FILE line, if one stands
abbrev pub behind_file : List (List ℕ) → Option (List (List ℕ))
behind_file [] = None
behind_file (line ∷ lines) = if is_file (block_line_of line) then Some lines else behind_file lines

-- where no FILE line stands, a text block by the file's own name begins before the first line
abbrev pub opening : List ℕ → List (List ℕ) → Option (List (List ℕ)) → List Block
opening own lines (Some behind) = []
opening own lines None = block false own (inside lines) ∷ []

abbrev pub same_kind : Bool → Bool → Bool
same_kind true is_data = is_data
same_kind false is_data = not is_data

-- a block of a kind and a name
abbrev pub is_named : Bool → List ℕ → Block → Bool
is_named is_data name other = same_kind is_data other.is_data && bytes_eq name other.name

-- whether a block has the kind and the name of one of the earlier blocks
abbrev pub is_later : List Block → Block → Bool
is_later earlier block = list_any (is_named block.is_data block.name) earlier

-- the first block of each kind and name stands
abbrev pub firsts : List Block → List Block → List Block
firsts earlier [] = []
firsts earlier (block ∷ blocks) = if is_later earlier block then firsts earlier blocks else block ∷ firsts (earlier ++ block ∷ []) blocks

abbrev pub blocks_in : List ℕ → List (List ℕ) → List Block
blocks_in own lines = firsts [] (opening own lines (behind_file lines) ++ begun_blocks own lines)

-- the blocks of a file of this name
unfoldable pub blocks_of : List ℕ → List ℕ → List Block
blocks_of own bytes = blocks_in own (lines_of bytes)

-- ---- texts

-- the text blocks among blocks, each by its name and its lines
abbrev pub texts_in : List Block → List (List ℕ × List (List ℕ))
texts_in [] = []
texts_in (block ∷ blocks) = if block.is_data then texts_in blocks else (block.name, block.lines) ∷ texts_in blocks

abbrev pub first_lines : List (List ℕ × List (List ℕ)) → List (List ℕ)
first_lines [] = []
first_lines (text ∷ texts) = text.1

-- the text blocks of a file of this name, in order
unfoldable pub text_blocks : List ℕ → List ℕ → List (List ℕ × List (List ℕ))
text_blocks own bytes = texts_in (blocks_of own bytes)

-- the text of a file: the lines of its first text block, its main model
unfoldable pub text_of : List ℕ → List ℕ → List (List ℕ)
text_of own bytes = first_lines (text_blocks own bytes)

-- these lines are the file's text, whatever the file's name
abbrev pub IsText : List (List ℕ) → List ℕ → Type 0
IsText lines bytes = (own : List ℕ) → lines ≡ text_of own bytes

-- the same blocks begin at what is left of the lines
abbrev pub BeginsSame : List (List ℕ) → List (List ℕ) → Type 0
BeginsSame rest lines = (own : List ℕ) → begun_blocks own rest ≡ begun_blocks own lines

abbrev pub has_text : List Block → Bool
has_text blocks = list_any (λ block. not block.is_data) blocks

-- lines that can stand in a block: without a line feed, and none of them begins or ends a block
abbrev pub are_inside : List (List ℕ) → Bool
are_inside lines = list_all (λ line. is_one_line line && is_inside line) lines
