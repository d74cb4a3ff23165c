-- How blocks are joined to one file: MPD Language Extension. That a block with the kind and name of an earlier one is
-- refused is this project's own.
use Rattle.std.specs.Prelude.{◌≡◌, ◌+◌, ◌||◌, ℕ, Bool, true, false, not, if◌then◌else◌, List, [], ◌∷◌, ◌++◌, Option, Some, None, Result, Ok, Err, codes}
use Rattle.std.specs.List.{flat_map}
use Rattle.ld_line.specs.Word.{ended}
use Rattle.ld_mpd.specs.declared.block.Block.{Block}
use Rattle.ld_mpd.specs.declared.joining.JoinError.{JoinError}
use Rattle.ld_mpd.specs.declared.joining.JoinError.TheVariants.{NoText, BadBlock, Memory}
use Rattle.ld_mpd.specs.Blocks.{are_inside, has_text, is_later}

abbrev pub head_word : Bool → List ℕ
head_word true = codes "0 !DATA "
head_word false = codes "0 FILE "

-- a block's lines, with the one that begins it
abbrev pub block_lines : Block → List (List ℕ)
block_lines block = (head_word block.is_data ++ block.name) ∷ block.lines

-- the bytes of blocks, each line with CR LF
abbrev pub joined : List Block → List ℕ
joined blocks = ended (flat_map block_lines blocks)

-- a block that cannot be joined behind the earlier ones
abbrev pub is_bad : List Block → Block → Bool
is_bad earlier block = is_later earlier block || not (are_inside block.lines)

-- the number of the first block that cannot be joined, by the number of the first of these
abbrev pub first_bad : ℕ → List Block → List Block → Option ℕ
first_bad number earlier [] = None
first_bad number earlier (block ∷ blocks) = if is_bad earlier block then Some number else first_bad (number + 1) (earlier ++ block ∷ []) blocks

abbrev pub join_by : List Block → Bool → Option ℕ → Result (List ℕ) JoinError
join_by blocks false bad = Err NoText
join_by blocks true (Some number) = Err (BadBlock number)
join_by blocks true None = Ok (joined blocks)

-- the joined bytes, or why the blocks cannot be joined
unfoldable pub join_of : List Block → Result (List ℕ) JoinError
join_of blocks = join_by blocks (has_text blocks) (first_bad 1 [] blocks)

-- a refusal is the one that is due; memory is lacking only where a text block stands
abbrev pub IsRefusal : List Block → JoinError → Type 0
IsRefusal blocks Memory = has_text blocks ≡ true
IsRefusal blocks NoText = join_of blocks ≡ Err NoText
IsRefusal blocks (BadBlock number) = join_of blocks ≡ Err (BadBlock number)
