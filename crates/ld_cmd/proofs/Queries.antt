-- What a workspace answers is what the query comes to over the texts as they stand.
use Rattle.std.proofs.Common.{◌≡◌, ℕ, List, Option, Some, None, Result, Ok, Err, IfSome, refl, ap, sym, ◌∙◌}
use Rattle.ld_io.specs.Shelf.{Files}
use Rattle.ld_names.specs.Standing.{Known, known_map}
use Rattle.ld_names.specs.declared.file.FileId.{FileId}
use Rattle.ld_texts.specs.Known.{AreDistinct, id_of}
use Rattle.ld_colour.specs.declared.colour.Colour.{Colour}
use Rattle.ld_entry.specs.declared.entry.Fault.{Fault as LineFault}
use Rattle.ld_engine.specs.Asking.{Answers, AnswersTold, IsAnswered}
use Rattle.ld_engine.specs.Laws.{MainIsFirst, StandsForRoots}
use Rattle.ld_engine.specs.Learning.{Stop, learning, learnt, text_on}
use Rattle.ld_engine.specs.declared.asking.Answer.{Answer}
use Rattle.ld_engine.specs.declared.asking.AnswerError.{AnswerError}
use Rattle.ld_engine.specs.declared.asking.AnswerError.TheVariants.{Fault, ReadFault, TooBig, Full, NoRoot, Memory}
use Rattle.ld_engine.specs.declared.limits.Limits.{Limits}
use Rattle.ld_colour.specs.Colour.{colour_of}
use Rattle.ld_words.specs.Words.{Options}
use Rattle.ld_cmd.specs.Written.{Output}
use Rattle.ld_cmd.specs.Made.{queried_output}
use Rattle.ld_cmd.specs.Output.{learnt_output, limits_of, main_output, shown_or_fault}
use Rattle.ld_cmd.specs.Querying.{IsFirst, Queried, Queries, answer_at, answer_queried, queried_as, queried, queried_on, where_there}

module _ (limits : Limits) (files : Files) (root : FileId) (colour : Colour) (old new : Known) (stands : StandsForRoots) (distinct : AreDistinct new) where
  answered : (given : Result Answer LineFault) → learning limits files root old ≡ learnt new → IsAnswered limits root colour new given → Queries limits files root colour old new (queried_as given)
  answered given told is =
      let texts = stands new (text_on files) distinct root is.id is.number is.nothing_wanted limits.depth limits.entries colour in
      let there = ap (λ text. where_there (λ id. queried_as (answer_at limits files colour new id)) text (id_of new root)) is.there.1 in
      let number = ap (λ id. where_there (λ id. queried_as (answer_at limits files colour new id)) (Some (Some is.there.0)) id) is.number in
      record {
        known = ap (λ all. all.known) told;
        is = ap (λ all. queried limits files root colour all) told ∙ there ∙ number ∙ ap queried_as (texts ∙ is.answer);
      }

  pub query-told : (result : Result Answer AnswerError) → Answers limits root colour new result → AnswersTold limits files root old new result → IfSome (answer_queried result) (λ given. Queries limits files root colour old new given)
  query-told (Ok answer) is told = answered (Ok answer) told is
  query-told (Err (Fault fault)) is told = answered (Err fault) told is
  query-told (Err (TooBig file)) is told = record { known = ap (λ all. all.known) told; is = ap (λ all. queried limits files root colour all) told }
  query-told (Err (Full over)) is told = record { known = ap (λ all. all.known) told; is = ap (λ all. queried limits files root colour all) told }
  query-told (Err NoRoot) is told =
      record {
        known = ap (λ all. all.known) told;
        is = ap (λ all. queried limits files root colour all) told ∙ ap (λ text. where_there (λ id. queried_as (answer_at limits files colour new id)) text (id_of new root)) is.1;
      }
  query-told (Err ReadFault) is told = tt
  query-told (Err Memory) is told = tt

-- the output of a query of the main model is that of what it comes to
module _ (show : Known → Answer → Output) (options : Options) (files : Files) (main : FileId) where
  given-output : (known : Known) (given : Result Answer LineFault) → queried_output show known (queried_as given) ≡ Some (shown_or_fault show known given)
  given-output known (Ok answer) = refl
  given-output known (Err fault) = refl

  pub learnt-output : (lines : List (List ℕ)) (known : Known) (stop : Option Stop) → known_map known main ≡ Some (Some lines) → id_of known main ≡ Some 0 → queried_output show known (queried_on (limits_of options) files main (colour_of options.main) known stop) ≡ Some (learnt_output show options files known stop)
  learnt-output lines known (Some stop) there number = refl
  learnt-output lines known None there number = rw there (rw number (given-output known (answer_at (limits_of options) files (colour_of options.main) known 0)))

  pub main-told : (law : MainIsFirst) (old new : Known) (first : IsFirst main new) (found : Option Queried) → IfSome found (λ given. Queries (limits_of options) files main (colour_of options.main) old new given) → IfSome found (λ given. queried_output show new given ≡ Some (main_output show options files main old))
  main-told law old new first None is = tt
  main-told law old new first (Some given) is =
      let all = learning (limits_of options) files main old in
      let known : all.known ≡ new = is.known in
      let says = law.says main first.0 new first.1 in
      let output = learnt-output first.0 all.known all.stop (rw known says.1) (rw known says.0) in
      ap (λ texts. queried_output show texts given) (sym known) ∙ ap (queried_output show all.known) (sym is.is) ∙ output
