-- The output of a file, of a model and of a script, by what is read and loaded for it.
use Rattle.std.proofs.Common.{◌≡◌, ◌<◌, ◌+◌, ◌++◌, List, [], ℕ, length, codes, Option, Some, None, Result, Ok, Err, IfSome, ap, sym, refl, subst, take}
use Rattle.std.specs.Prelude.{IsSomeAnd}
use Rattle.std.proofs.lemmas.Bool.{lt-ltb}
use Rattle.ld_io.specs.Shelf.{FetchTold, Files}
use Rattle.ld_io.specs.declared.shelf.Fetched.{Fetched}
use Rattle.ld_io.specs.declared.shelf.FetchError.{FetchError}
use Rattle.ld_io.specs.declared.shelf.FetchError.TheVariants.{TooBig}
use Rattle.ld_io.specs.declared.shelf.Place.TheVariants.{Work}
use Rattle.ld_colour.specs.Table.{Counting, counting}
use Rattle.ld_script.specs.Script.{commands_of}
use Rattle.ld_words.specs.Words.{Options}
use Rattle.ld_cmd.specs.Output.{file_bytes, input, limits_of, loaded_by, main_file, main_output, model_output, own_name, replay_output, replayed, table_of}
use Rattle.ld_cmd.specs.Replying.{OpensSession}
use Rattle.ld_mpd.specs.Blocks.{text_blocks}
use Rattle.ld_names.specs.Standing.{Known}
use Rattle.ld_names.specs.declared.file.FileId.{FileId}
use Rattle.ld_engine.specs.Loading.{load}
use Rattle.ld_engine.specs.declared.asking.Answer.{Answer}
use Rattle.ld_cmd.specs.Made.{Gives, GivesInput, Makes, Stops}
use Rattle.ld_cmd.specs.Written.{Output, and_then, one_piece}
use Rattle.ld_cmd.specs.declared.status.Status.TheVariants.{Limit}
use Rattle.ld_cmd.specs.declared.made.Made.{Made}
use Rattle.ld_cmd.specs.declared.made.Stop.{Stop}
use Rattle.ld_cmd.specs.declared.made.Stop.TheVariants.{Decided, ReadFault, Memory}
use Rattle.ld_cmd.specs.declared.session.Session.{Session}

pub any-files : {X : Type 0} (files : Option Files) → X → IfSome files (λ all. X)
any-files None is = tt
any-files (Some files) is = is

-- a file is read, then the colours, and the rest goes on from there
module _ (file bytes : List ℕ) (colours : Option (List ℕ)) (wanted : Files → List ℕ → Counting → Output) where
  abbrev pub WhatIsRead : Files → Output
  WhatIsRead all = and_then (input file (all Work file)) (λ read. and_then (table_of colours all) (wanted all read))

  pub read-told : (files : Option Files) (table : Counting) (result : Result Made Stop) → IfSome files (λ all. input file (all Work file) ≡ Ok bytes) → IfSome files (λ all. table_of colours all ≡ Ok table) → IfSome files (λ all. Makes (wanted all bytes table) result) → IfSome files (λ all. Makes (WhatIsRead all) result)
  read-told None table result read coloured makes = tt
  read-told (Some files) table result read coloured makes = rw read (rw coloured makes)

  pub read-stopped : (files : Option Files) (stop : Stop) → IfSome files (λ all. input file (all Work file) ≡ Ok bytes) → IfSome files (λ all. Gives counting (table_of colours all) (Err stop)) → IfSome files (λ all. Makes (WhatIsRead all) (Err stop))
  read-stopped None stop read coloured = tt
  read-stopped (Some files) (Decided made) read coloured = rw read (rw coloured refl)
  read-stopped (Some files) ReadFault read coloured = tt
  read-stopped (Some files) Memory read coloured = tt

pub replay-told : (files : Option Files) (file script own bytes lines : List ℕ) (options : Options) (table : Counting) (result : Result Session Stop) → IfSome files (λ all. input file (all Work file) ≡ Ok bytes) → IfSome files (λ all. input script (all Work script) ≡ Ok lines) → IfSome files (λ all. table_of options.colours all ≡ Ok table) → own ≡ own_name file → ((all : Files) → OpensSession (replayed options table (commands_of lines) all own bytes) all result) → IfSome files (λ all. OpensSession (replay_output file script options all) all result)
replay-told None file script own bytes lines options table result read script_read coloured named opens = tt
replay-told (Some files) file script own bytes lines options table result read script_read coloured named opens =
    rw read (rw script_read (rw coloured (rw (sym named) (opens files))))

pub model-told : (show : Known → Answer → Output) (options : Options) (files : Files) (own bytes : List ℕ) (known : Known) (main : FileId) → loaded_by (load (limits_of options) [] (text_blocks own bytes)) ≡ Ok known → main_file own (text_blocks own bytes) ≡ main → main_output show options files main known ≡ model_output show options files own bytes
unfolding model_output
model-told show options files own bytes known main loaded is = rw loaded (rw is refl)

-- a file has more bytes than it may have
too-big : (word : List ℕ) (file : Option (List ℕ)) (stop : Stop) (Further : List ℕ → Type 0) → IsSomeAnd file (λ all. (file_bytes < length all) × Further all) → Stops (one_piece (codes "toobig " ++ word ++ codes "\n") Limit) stop → Gives (λ bytes. bytes) (input word file) (Err stop)
too-big word None stop Further big decided = absurd big
too-big word (Some all) (Decided made) Further big decided = rw (lt-ltb file_bytes (length all) big.0) (ap Err (sym decided))
too-big word (Some all) ReadFault Further big decided = tt
too-big word (Some all) Memory Further big decided = tt

pub too_big_told : (word bytes : List ℕ) (fetched : Result Fetched FetchError) (stop : Stop) → fetched ≡ Err TooBig → Stops (one_piece (codes "toobig " ++ word ++ codes "\n") Limit) stop → GivesInput word fetched bytes (Err stop)
too_big_told word bytes fetched stop is decided = λ file told. too-big word file stop (λ all. bytes ≡ take (file_bytes + 1) all) (subst (λ f. FetchTold file file_bytes f bytes) is told) decided
