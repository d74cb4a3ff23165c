-- Edits: which files they want, and what they leave.
use Rattle.std.proofs.Common.{◌≡◌, ℕ, List, [], ◌∷◌, Option, Some, None, Result, Ok, Err, ap, refl, sym, subst, ◌∙◌, option_map, IsSome}
use Rattle.std.specs.Prelude.{IfSome, is_some}
use Rattle.std.proofs.lemmas.List.{append-nil}
use Rattle.ld_io.specs.Shelf.{Files}
use Rattle.ld_names.specs.Finding.{LearningStays}
use Rattle.ld_names.specs.Standing.{Known, Map, known_map, standing}
use Rattle.ld_names.specs.declared.file.FileId.{FileId}
use Rattle.ld_texts.specs.Editing.{AreKnown, edited_map, files_in, refusal_of}
use Rattle.ld_texts.specs.EditLaws.{EditLaws}
use Rattle.ld_texts.specs.Known.{id_of, lines_at}
use Rattle.ld_texts.specs.Laws.{NumbersAgree}
use Rattle.ld_texts.specs.Learning.{AppliesUnless}
use Rattle.ld_texts.specs.declared.change.Change.{Change}
use Rattle.ld_texts.specs.declared.edit.Edit.{Edit}
use Rattle.ld_texts.specs.declared.edit.PrepareError.{PrepareError}
use Rattle.ld_texts.specs.declared.edit.PrepareError.TheVariants.{Refused, Memory}
use Rattle.ld_engine.specs.Editing.{EditStands, EditsKnown, EditsTold, EndsEdit, edit_learning, edit_refused, edit_stopped, first_unknown, unless_known, wanted_by}
use Rattle.ld_engine.specs.Keeping.{StopsFor, ToldFor}
use Rattle.ld_engine.specs.Learning.{Full as Passed, Learnt, LearnsBy, TooBig as BigFile, Wanting, learnt, stopped, text_on}
use Rattle.ld_engine.specs.declared.editing.EditError.{EditError}
use Rattle.ld_engine.specs.declared.editing.EditError.TheVariants as error
use Rattle.ld_engine.specs.declared.learning.LearnStop.{LearnStop}
use Rattle.ld_engine.specs.declared.learning.LearnStop.TheVariants as stop
use Rattle.ld_engine.specs.declared.limits.Limits.{Limits}
use Rattle.ld_engine.proofs.Standing.{WantsNew, learning_by-stands}
use Rattle.ld_engine.proofs.Wanted.{learns-nothing, learnt-by}

-- ---- the files that an edit names

pub all-known : (known : Known) (files : List FileId) → first_unknown known files ≡ None → AreKnown known files
all-known known [] none = tt
all-known known (file ∷ files) none = by (id_of known file) refl none (all-known known files)
  where
    by : (id : Option ℕ) → id_of known file ≡ id → unless_known id file (first_unknown known files) ≡ None → (first_unknown known files ≡ None → AreKnown known files) → IsSome (id_of known file) × AreKnown known files
    by None is none rest = absurd (cc)
    by (Some id) is none rest = (ap is_some is, rest none)

pub none-unknown : (known : Known) (files : List FileId) → AreKnown known files → first_unknown known files ≡ None
none-unknown known [] are = refl
none-unknown known (file ∷ files) are = by (id_of known file) are.0 ∙ none-unknown known files are.1
  where
    by : (id : Option ℕ) → IsSome id → unless_known id file (first_unknown known files) ≡ first_unknown known files
    by None is = absurd (cc)
    by (Some id) is = refl

unknown-new : (known : Known) (files : List FileId) (file : FileId) → first_unknown known files ≡ Some file → id_of known file ≡ None
unknown-new known [] file is = absurd (cc)
unknown-new known (first ∷ files) file is = by (id_of known first) refl is (unknown-new known files file)
  where
    by : (id : Option ℕ) → id_of known first ≡ id → unless_known id first (first_unknown known files) ≡ Some file → (first_unknown known files ≡ Some file → id_of known file ≡ None) → id_of known file ≡ None
    by None none is rest = let same : first ≡ file = cc in ap (id_of known) (sym same) ∙ none
    by (Some id) some is rest = rest is

pub edit-wants : (edit : Edit) (known : Known) (file : FileId) → wanted_by edit known ≡ Some file → id_of known file ≡ None
edit-wants edit known file is = unknown-new known (files_in edit) file is

pub wants-new : NumbersAgree → (edit : Edit) → WantsNew (wanted_by edit)
wants-new numbers edit known file is = numbers.map known file ∙ ap (option_map (lines_at known)) (edit-wants edit known file is)

-- ---- what an edit leaves

pub edit-refused : (limits : Limits) (known new : Known) (edit : Edit) (error : PrepareError) (max_weight : ℕ) (wanted : Option Change) → max_weight ≡ limits.total_weight → new ≡ known → AppliesUnless (refusal_of max_weight known edit) wanted (Err error) → EditsKnown limits edit known new (Err (edit_refused error))
edit-refused limits known new edit (Refused why) max_weight wanted weight same refused = (ap (λ w. refusal_of w known edit) (sym weight) ∙ refused, same)
edit-refused limits known new edit Memory max_weight wanted weight same refused = (ap (λ w. refusal_of w known edit) (sym weight) ∙ refused, same)

none-some : (o : Option FileId) → o ≡ None → IsSome o → ⊥
none-some None none some = cc
none-some (Some file) none some = cc

module _ (limits : Limits) (edit : Edit) where
  -- its files are learnt, and it ends

  pub ends-known : (known new : Known) (result : Result Unit EditError) → AreKnown known (files_in edit) → EditsKnown limits edit known new result → EndsEdit limits edit known new result
  ends-known known new (Ok done) are edits = (are, edits)
  ends-known known new (Err (error.Refused why)) are edits = (are, edits)
  ends-known known new (Err error.ReadFault) are edits = absurd edits
  ends-known known new (Err (error.TooBig file)) are edits = absurd edits
  ends-known known new (Err (error.Full over)) are edits = absurd edits
  ends-known known new (Err error.Memory) are edits = (edits.1, λ are. edits.0)

  pub still-known : (old known new : Known) (result : Result Unit EditError) → LearnsBy (wanted_by edit) old known → EditsKnown limits edit known new result → AreKnown old (files_in edit) → EditsKnown limits edit old new result
  still-known old known new result learns edits are =
      subst (λ k. EditsKnown limits edit k new result) (learns-nothing (wanted_by edit) old known (none-unknown old (files_in edit) are) learns) edits

  pub told-known : (old known new : Known) (files : Option Files) (result : Result Unit EditError) → AreKnown known (files_in edit) → EditsKnown limits edit known new result → IfSome files (λ files. edit_learning limits files edit old ≡ learnt known) → IfSome files (λ files. EditsTold limits files edit old new result)
  told-known old known new None result are edits told = tt
  told-known old known new (Some files) (Ok done) are edits told = (known, told, edits.0, edits.1)
  told-known old known new (Some files) (Err (error.Refused why)) are edits told = (told ∙ ap learnt (sym edits.1), ap (λ k. refusal_of limits.total_weight k edit) edits.1 ∙ edits.0)
  told-known old known new (Some files) (Err error.ReadFault) are edits told = absurd edits
  told-known old known new (Some files) (Err (error.TooBig file)) are edits told = absurd edits
  told-known old known new (Some files) (Err (error.Full over)) are edits told = absurd edits
  told-known old known new (Some files) (Err error.Memory) are edits told =
      told ∙ sym (learnt-by limits files (wanted_by edit) known (none-unknown known (files_in edit) are)) ∙ ap (edit_learning limits files edit) (sym edits.1)

  -- learning stops

  -- a file that the edit names is still not known
  still-unknown : (known : Known) → IsSome (wanted_by edit known) → AreKnown known (files_in edit) → ⊥
  still-unknown known wants are = none-some (wanted_by edit known) (none-unknown known (files_in edit) are) wants

  pub ends-stopped : (known : Known) (stop : LearnStop) → IsSome (wanted_by edit known) → StopsFor limits (wanted_by edit) known stop → EndsEdit limits edit known known (Err (edit_stopped stop))
  ends-stopped known stop.ReadFault wants stops = (refl, stops.0, stops.1)
  ends-stopped known (stop.TooBig file) wants stops = (refl, stops.0, stops.1)
  ends-stopped known (stop.Full over) wants stops = (refl, stops.0, stops.1)
  ends-stopped known stop.Memory wants stops = (refl, λ are. absurd (still-unknown known wants are))

  pub known-stopped : (old known : Known) (stop : LearnStop) → LearnsBy (wanted_by edit) old known → IsSome (wanted_by edit known) → AreKnown old (files_in edit) → EditsKnown limits edit old known (Err (edit_stopped stop))
  known-stopped old known stop learns wants are =
      let same = learns-nothing (wanted_by edit) old known (none-unknown old (files_in edit) are) learns in
      absurd (still-unknown known wants (subst (λ k. AreKnown k (files_in edit)) (sym same) are))

  pub told-stopped : (old known : Known) (files : Option Files) (stop : LearnStop) → IfSome files (λ files. ToldFor {A = Unit {0}} limits files (wanted_by edit) old known (Err stop)) → IfSome files (λ files. EditsTold limits files edit old known (Err (edit_stopped stop)))
  told-stopped old known None stop told = tt
  told-stopped old known (Some files) stop.ReadFault told = told
  told-stopped old known (Some files) (stop.TooBig file) told = told
  told-stopped old known (Some files) (stop.Full over) told = told
  told-stopped old known (Some files) stop.Memory told = told

  -- ---- the texts as they stand

  module _ (numbers : NumbersAgree) (stays : LearningStays) (laws : EditLaws) where
    learnt-stands : (files : Files) (old : Known) (all : Learnt) → edit_learning limits files edit old ≡ all → (file : FileId) → standing (known_map all.known) (text_on files) file ≡ standing (known_map old) (text_on files) file
    learnt-stands files old all told file =
        ap (λ (l : Learnt). standing (known_map l.known) (text_on files) file) (sym told) ∙ learning_by-stands stays limits files (wanted_by edit) (wants-new numbers edit) old file

    pub stands-known : (old known new : Known) (files : Option Files) (result : Result Unit EditError) → AreKnown known (files_in edit) → EditsKnown limits edit known new result → IfSome files (λ files. edit_learning limits files edit old ≡ learnt known) → IfSome files (λ files. EditStands (text_on files) edit old new result)
    stands-known old known new None result are edits told = tt
    stands-known old known new (Some files) (Ok done) are edits told = λ file.
        let shelf = text_on files in
        let same : standing (known_map known) shelf ≡ standing (known_map old) shelf = λ i other. learnt-stands files old (learnt known) told other i in
        ap (λ k. standing (known_map k) shelf file) edits.1 ∙ (laws known edit).1.stands are shelf file ∙ ap (λ (m : Map). edited_map m edit file) same
    stands-known old known new (Some files) (Err (error.Refused why)) are edits told = λ file. ap (λ k. standing (known_map k) (text_on files) file) edits.1 ∙ learnt-stands files old (learnt known) told file
    stands-known old known new (Some files) (Err error.ReadFault) are edits told = absurd edits
    stands-known old known new (Some files) (Err (error.TooBig big)) are edits told = absurd edits
    stands-known old known new (Some files) (Err (error.Full over)) are edits told = absurd edits
    stands-known old known new (Some files) (Err error.Memory) are edits told = λ file. ap (λ k. standing (known_map k) (text_on files) file) edits.1 ∙ learnt-stands files old (learnt known) told file

    pub stands-stopped : (old known : Known) (files : Option Files) (stop : LearnStop) → IfSome files (λ files. ToldFor {A = Unit {0}} limits files (wanted_by edit) old known (Err stop)) → IfSome files (λ files. EditStands (text_on files) edit old known (Err (edit_stopped stop)))
    stands-stopped old known None stop told = tt
    stands-stopped old known (Some files) stop.ReadFault told = λ file. sym (learnt-stands files known (edit_learning limits files edit known) refl file) ∙ learnt-stands files old (edit_learning limits files edit known) told file
    stands-stopped old known (Some files) (stop.TooBig big) told = λ file. learnt-stands files old (stopped known (BigFile big)) told file
    stands-stopped old known (Some files) (stop.Full over) told = λ file. learnt-stands files old (stopped known (Passed over)) told file
    stands-stopped old known (Some files) stop.Memory told = λ file. sym (learnt-stands files known (edit_learning limits files edit known) refl file) ∙ learnt-stands files old (edit_learning limits files edit known) told file
