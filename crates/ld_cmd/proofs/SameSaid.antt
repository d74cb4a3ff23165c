-- A command that shows the main model, and a script whose first command asks the same.
use Rattle.std.proofs.Common.{◌≡◌, ◌∷◌, ◌++◌, Bool, true, false, cond, ℕ, List, [], Option, Some, None, Result, Ok, Err, length, refl, subst, codes}
use Rattle.std.specs.Prelude.{IsSome, nat_lt, ⊤}
use Rattle.std.proofs.lemmas.Option.{none-some}
use Rattle.ld_io.specs.Shelf.{Files}
use Rattle.ld_io.specs.declared.shelf.Place.TheVariants.{Work}
use Rattle.ld_names.specs.Standing.{Known, known_map}
use Rattle.ld_names.specs.declared.file.FileId.{FileId}
use Rattle.ld_mpd.specs.Blocks.{text_blocks, text_of}
use Rattle.ld_texts.specs.Known.{id_of}
use Rattle.ld_texts.specs.declared.change.Over.{Over}
use Rattle.ld_colour.specs.Colour.{colour_of}
use Rattle.ld_colour.specs.Table.{Counting, table_in}
use Rattle.ld_engine.specs.Laws.{MainIsFirst, MainIsThere}
use Rattle.ld_engine.specs.Learning.{learning, wanted_for}
use Rattle.ld_engine.specs.Loading.{Blocks, load, main_of}
use Rattle.ld_report.specs.Entries.{fault_text}
use Rattle.ld_script.specs.Script.{commands_of}
use Rattle.ld_script.specs.declared.command.Command.{Command}
use Rattle.ld_script.specs.declared.command.Command.TheVariants as command
use Rattle.ld_script.specs.declared.command.Query.{Query}
use Rattle.ld_script.specs.declared.command.Query.TheVariants as query
use Rattle.ld_script.specs.declared.command.Root.{Root}
use Rattle.ld_words.specs.Words.{Options}
use Rattle.ld_cmd.specs.Laws.{AsksMain, BeginsAs, Names, SaysTheSame, listed_by}
use Rattle.ld_cmd.specs.Made.{queried_output}
use Rattle.ld_cmd.specs.Output.{answered_output, file_bytes, input, limits_of, loaded_by, main_file, main_output, main_replayed, model_output, output, own_name, replay_output, replayed, setting_of, shown_output, table_by, table_from, table_of}
use Rattle.ld_cmd.specs.Playing.{followed, played, query_reply, root_colour, root_of, shown_by}
use Rattle.ld_cmd.specs.Querying.{Queried, Stopped, NoRoot, FirstFault, Answered, queried}
use Rattle.ld_cmd.specs.Written.{Output, and_then, form_of, one_piece, onto, shown_text, stop_text}
use Rattle.ld_cmd.specs.declared.answer.Form.TheVariants.{Listed}
use Rattle.ld_cmd.specs.declared.answer.Shown.{Shown}
use Rattle.ld_cmd.specs.declared.status.Status.{Status}
use Rattle.ld_cmd.specs.declared.status.Status.TheVariants.{Done, Faulted, Usage, Input, ReadFault, WriteFault, Memory, Limit}
use Rattle.ld_cmd.proofs.Ended.{input-there}
use Rattle.ld_cmd.proofs.Leaves.{just}
use Rattle.ld_cmd.proofs.Queries.{learnt-output}

-- ---- what ends both before a query

abbrev IsEarly : Status → Type 0
IsEarly Input = ⊤
IsEarly Limit = ⊤
IsEarly Done = ⊥
IsEarly Faulted = ⊥
IsEarly Usage = ⊥
IsEarly ReadFault = ⊥
IsEarly WriteFault = ⊥
IsEarly Memory = ⊥

abbrev EndsEarly : {A : Type 0} → Result A Output → Type 0
EndsEarly (Ok value) = ⊤
EndsEarly (Err output) = IsEarly output.status

same-early : (status : Status) (output : Output) → IsEarly status → BeginsAs status output output
same-early Input output early = refl
same-early Limit output early = refl
same-early Done output early = absurd early
same-early Faulted output early = absurd early
same-early Usage output early = absurd early
same-early ReadFault output early = absurd early
same-early WriteFault output early = absurd early
same-early Memory output early = absurd early

then-same : {A : Type 0} (found : Result A Output) → EndsEarly found → (shown replies : A → Output) → ((value : A) → found ≡ Ok value → BeginsAs (shown value).status (shown value) (replies value)) → BeginsAs (and_then found shown).status (and_then found shown) (and_then found replies)
then-same (Ok value) early shown replies same = same value refl
then-same (Err output) early shown replies same = same-early output.status output early

input-early : (word : List ℕ) (found : Option (List ℕ)) → EndsEarly (input word found)
input-early word None = tt
input-early word (Some bytes) = by-size (nat_lt file_bytes (length bytes))
  where
    by-size : (is_big : Bool) → EndsEarly (cond is_big (Err (one_piece (codes "toobig " ++ word ++ codes "\n") Limit)) (Ok bytes))
    by-size true = tt
    by-size false = tt

input-some : (word : List ℕ) (found : Option (List ℕ)) (bytes : List ℕ) → input word found ≡ Ok bytes → found ≡ Some bytes
input-some word None bytes is = absurd (cc)
input-some word (Some found) bytes is = by-size (nat_lt file_bytes (length found)) is
  where
    by-size : (is_big : Bool) → cond is_big (Err (one_piece (codes "toobig " ++ word ++ codes "\n") Limit)) (Ok found) ≡ Ok bytes → Some found ≡ Some bytes
    by-size true is = absurd (cc)
    by-size false is = cc

by-table : (table : Result Counting ℕ) → EndsEarly (table_by table)
by-table (Ok table) = tt
by-table (Err number) = tt

by-bytes : (bytes : Result (List ℕ) Output) → EndsEarly bytes → EndsEarly (table_from bytes)
by-bytes (Ok bytes) early = by-table (table_in bytes)
by-bytes (Err output) early = early

table-early : (colours : Option (List ℕ)) (files : Files) → EndsEarly (table_of colours files)
table-early None files = tt
table-early (Some word) files = by-bytes (input word (files Work word)) (input-early word (files Work word))

loaded-early : (loaded : Result Known Over) → EndsEarly (loaded_by loaded)
loaded-early (Ok known) = tt
loaded-early (Err over) = tt

loaded-is : (loaded : Result Known Over) (known : Known) → loaded_by loaded ≡ Ok known → loaded ≡ Ok known
loaded-is (Ok known) loaded is = cc
loaded-is (Err over) loaded is = absurd (cc)

-- ---- the query

reply-same : (what : Shown) (table : Counting) (known : Known) (given : Queried) (shown : Output) (further : Known → Output) → queried_output (answered_output (Listed what) table) known given ≡ Some shown → BeginsAs shown.status shown (followed (query_reply what table known given) further)
reply-same what table known (Stopped stop) shown further is =
    subst (λ out. BeginsAs out.status out (one_piece (stop_text stop) Limit)) (just (one_piece (stop_text stop) Limit) shown is) refl
reply-same what table known NoRoot shown further is = absurd (none-some shown is)
reply-same what table known (FirstFault fault) shown further is =
    subst (λ out. BeginsAs out.status out (onto (fault_text known fault) (further known))) (just (one_piece (fault_text known fault) Faulted) shown is) (fault_text known fault, further known, refl, refl)
reply-same what table known (Answered answer) shown further is =
    subst (λ out. BeginsAs out.status out (onto (shown_text what table known answer ++ codes "done\n") (further known))) (just (one_piece (shown_text what table known answer) Done) shown is) (shown_text what table known answer, further known, refl, refl)

file-asked : (options : Options) (table : Counting) (main : FileId) (root : Option Root) → AsksMain options main root → root_of (setting_of options table main) root ≡ main
file-asked options table main None asks = refl
file-asked options table main (Some root) asks = asks.0

colour-asked : (options : Options) (table : Counting) (main : FileId) (root : Option Root) → AsksMain options main root → root_colour (setting_of options table main) root ≡ options.main
colour-asked options table main None asks = refl
colour-asked options table main (Some root) asks = asks.1

-- once the model is loaded
main-same : (options : Options) (files : Files) (table : Counting) (query : Query) (root : Option Root) (commands : List Command) (main : FileId) (known : Known) (lines : List (List ℕ)) → AsksMain options main root → known_map (learning (limits_of options) files main known).known main ≡ Some (Some lines) → id_of (learning (limits_of options) files main known).known main ≡ Some 0
    → BeginsAs (main_output (answered_output (Listed (shown_by query)) table) options files main known).status (main_output (answered_output (Listed (shown_by query)) table) options files main known) (main_replayed options table (command.Ask query root ∷ commands) files main known)
unfolding played
main-same options files table query root commands main known lines asks there number =
    let learnt = learning (limits_of options) files main known in
    let show = answered_output (Listed (shown_by query)) table in
    rw (file-asked options table main root asks, colour-asked options table main root asks)
    (reply-same (shown_by query) table learnt.known (queried (limits_of options) files main (colour_of options.main) learnt) (main_output show options files main known) (λ after. played (setting_of options table main) files after commands)
    (learnt-output show options files main lines learnt.known learnt.stop there number))

-- the main model is the first text
main-first : (own : List ℕ) (texts : Blocks) → IsSome (main_of texts) → main_of texts ≡ Some (main_file own texts)
main-first own [] is = absurd (cc)
main-first own (text ∷ texts) is = refl

module _ (first : MainIsFirst) (stays : MainIsThere) where
  model-same : (options : Options) (files : Files) (table : Counting) (query : Query) (root : Option Root) (commands : List Command) (own bytes : List ℕ) → AsksMain options (main_file own (text_blocks own bytes)) root
      → BeginsAs (model_output (answered_output (Listed (shown_by query)) table) options files own bytes).status (model_output (answered_output (Listed (shown_by query)) table) options files own bytes) (replayed options table (command.Ask query root ∷ commands) files own bytes)
  unfolding model_output replayed
  model-same options files table query root commands own bytes asks =
      let main = main_file own (text_blocks own bytes) in
      let loaded = load (limits_of options) [] (text_blocks own bytes) in
      then-same (loaded_by loaded) (loaded-early loaded) (main_output (answered_output (Listed (shown_by query)) table) options files main) (main_replayed options table (command.Ask query root ∷ commands) files main) (λ known is.
      let begins = first.loaded (limits_of options) own bytes known main (loaded-is loaded known is) (main-first own (text_blocks own bytes) (stays.one own bytes)) in
      let says = first.says main (text_of own bytes) known begins in
      let there = stays.stays (limits_of options) files (wanted_for main) known main (text_of own bytes, says.1) in
      main-same options files table query root commands main known there.0 asks there.1 (first.learnt (limits_of options) files (wanted_for main) known main 0 says.0))

  file-same : (options : Options) (files : Files) (query : Query) (root : Option Root) (commands : List Command) (file script lines : List ℕ) → Names script files lines → commands_of lines ≡ command.Ask query root ∷ commands → ((bytes : List ℕ) → files Work file ≡ Some bytes → AsksMain options (main_file (own_name file) (text_blocks (own_name file) bytes)) root)
      → BeginsAs (shown_output (Listed (shown_by query)) file options files).status (shown_output (Listed (shown_by query)) file options files) (replay_output file script options files)
  file-same options files query root commands file script lines named are asks =
      rw (input-there script files lines named) (rw are
      (then-same (input file (files Work file)) (input-early file (files Work file)) _ _ (λ bytes there.
      then-same (table_of options.colours files) (table-early options.colours files) _ _ (λ table coloured.
      model-same options files table query root commands (own_name file) bytes (asks bytes (input-some file (files Work file) bytes there))))))

  by-query : (query : Query) → form_of (listed_by query) ≡ Some (Listed (shown_by query))
  by-query query.Faces = refl
  by-query query.Steps = refl
  by-query query.Parts = refl

  pub says-the-same : SaysTheSame
  unfolding output
  says-the-same words scripted query root file script lines options files commands shows replays named are asks =
      rw shows (rw replays (rw (by-query query) (file-same options files query root commands file script lines named are asks)))
