-- What holds of the blocks of every file.
use Rattle.std.specs.Prelude.{◌≡◌, ℕ, true, List, ◌∷◌, map, Ok, bytes_eq}
use Rattle.std.specs.List.{AllByRecursion, IsDistinct, list_all}
use Rattle.ld_names.specs.Normal.{normal_of}
use Rattle.ld_mpd.specs.declared.block.Block.{Block}
use Rattle.ld_mpd.specs.Blocks.{are_inside, blocks_of, text_blocks, text_of, texts_in}
use Rattle.ld_mpd.specs.Joining.{join_of}

-- the text blocks are those among the blocks
abbrev pub TextsAmongBlocks : Type 0
TextsAmongBlocks = (own bytes : List ℕ) → text_blocks own bytes ≡ texts_in (blocks_of own bytes)

-- a file has a text block, and its text is the first one's lines
abbrev pub TextStands : Type 0
TextStands = (own bytes : List ℕ) → (name : List ℕ) × (more : List (List ℕ × List (List ℕ))) × (text_blocks own bytes ≡ (name, text_of own bytes) ∷ more)

-- the text does not depend on the file's name
abbrev pub TextIgnoresName : Type 0
TextIgnoresName = (own other bytes : List ℕ) → text_of own bytes ≡ text_of other bytes

-- no line of a block holds a line feed, or begins or ends a block
abbrev pub LinesStandInside : Type 0
LinesStandInside = (own bytes : List ℕ) → list_all (λ block. are_inside block.lines) (blocks_of own bytes) ≡ true

-- the same of the text blocks
abbrev pub TextLinesStandInside : Type 0
TextLinesStandInside = (own bytes : List ℕ) → list_all (λ text. are_inside text.1) (text_blocks own bytes) ≡ true

-- text blocks have different names
abbrev pub TextNamesDiffer : Type 0
TextNamesDiffer = (own bytes : List ℕ) → IsDistinct bytes_eq (map (λ text. text.0) (text_blocks own bytes))

abbrev pub AreNamed : List Block → Type 0
AreNamed blocks = AllByRecursion (λ block. normal_of block.name ≡ Ok block.name) blocks

-- each block's name is a normal form, where the file's own name is one
abbrev pub BlocksAreNamed : Type 0
BlocksAreNamed = (own bytes : List ℕ) → normal_of own ≡ Ok own → AreNamed (blocks_of own bytes)

-- what is joined is cut into the same blocks, whatever the file's own name
abbrev pub SplitOfJoined : Type 0
SplitOfJoined = (own : List ℕ) (blocks : List Block) (bytes : List ℕ) → AreNamed blocks → join_of blocks ≡ Ok bytes → blocks_of own bytes ≡ blocks
