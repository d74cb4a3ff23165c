-- What the code's values say.
use Rattle.std.specs.Prelude.{◌≡◌, ℕ, List, Option, Some, None, Result, Ok, Err, ⊤}
use Rattle.ld_io.specs.Shelf.{FetchTold}
use Rattle.ld_io.specs.declared.shelf.Fetched.{Fetched}
use Rattle.ld_io.specs.declared.shelf.FetchError.{FetchError}
use Rattle.ld_cmd.specs.Output.{file_bytes, input}
use Rattle.ld_cmd.specs.Written.{Output, one_piece, stop_text}
use Rattle.ld_cmd.specs.Querying.{Queried, Stopped, NoRoot, FirstFault, Answered}
use Rattle.ld_engine.specs.declared.asking.Answer.{Answer}
use Rattle.ld_names.specs.Standing.{Known}
use Rattle.ld_report.specs.Entries.{fault_text}
use Rattle.ld_cmd.specs.declared.status.Status.TheVariants as status
use Rattle.ld_cmd.specs.declared.made.Made.{Made}
use Rattle.ld_cmd.specs.declared.made.Stop.{Stop}
use Rattle.ld_cmd.specs.declared.made.Stop.TheVariants.{Decided, ReadFault, Memory}

abbrev pub output_of : Made → Output
output_of m = one_piece m.text.items m.status

-- this is the output, unless reading or memory stopped the run
abbrev pub Stops : Output → Stop → Type 0
Stops wanted (Decided made) = output_of made ≡ wanted
Stops wanted ReadFault = ⊤
Stops wanted Memory = ⊤

abbrev pub Makes : Output → Result Made Stop → Type 0
Makes wanted (Ok made) = output_of made ≡ wanted
Makes wanted (Err stop) = Stops wanted stop

-- the output of a query of a root that is there, by what the query comes to
abbrev pub queried_output : (Known → Answer → Output) → Known → Queried → Option Output
queried_output show known (Stopped stop) = Some (one_piece (stop_text stop) status.Limit)
queried_output show known NoRoot = None
queried_output show known (FirstFault fault) = Some (one_piece (fault_text known fault) status.Faulted)
queried_output show known (Answered answer) = Some (show known answer)

-- a value as it is wanted, or the output that is decided without it
abbrev pub Gives : {A B : Type 0} → (B → A) → Result A Output → Result B Stop → Type 0
Gives view wanted (Ok value) = wanted ≡ Ok (view value)
Gives view wanted (Err (Decided made)) = wanted ≡ Err (output_of made)
Gives view wanted (Err ReadFault) = ⊤
Gives view wanted (Err Memory) = ⊤

-- what a fetch gave of a word's file, whatever the shelf has
abbrev pub GivesInput : List ℕ → Result Fetched FetchError → List ℕ → Result (List ℕ) Stop → Type 0
GivesInput word fetched bytes result = (file : Option (List ℕ)) → FetchTold file file_bytes fetched bytes → Gives (λ all. all) (input word file) result
