-- Where the going for a root stands, and what is told of it.
use Rattle.std.proofs.Common.{◌≡◌, ◌<◌, ◌≤◌, ◌-◌, ◌++◌, ℕ, List, [], ◌∷◌, length, Option, Some, None, Result, Ok, Err, refl, ap, sym, ◌∙◌, append_assoc, arith}
use Rattle.std.specs.Prelude.{Bool, true, false, ◌||◌, IfSome, nat_eq}
use Rattle.std.proofs.lemmas.Bool.{eqb-true}
use Rattle.std.proofs.lemmas.List.{append-nil, length-append}
use Rattle.ld_io.specs.Shelf.{Files}
use Rattle.ld_names.specs.Standing.{Known, Text}
use Rattle.ld_names.specs.declared.file.FileId.{FileId}
use Rattle.ld_texts.specs.Known.{id_of}
use Rattle.ld_texts.specs.Laws.{LearningNumbers, NumbersAgree}
use Rattle.ld_texts.specs.Reach.{Wants, reach, texts_reach, wanted, wanted_in}
use Rattle.ld_engine.specs.Going.{Goes, IsInside, Passed, begun, left}
use Rattle.ld_engine.specs.Learning.{learning, learnt, wanted_for}
use Rattle.ld_engine.specs.Asking.{AnswersTold}
use Rattle.ld_engine.specs.Stopping.{AnswersKnown}
use Rattle.ld_engine.specs.declared.asking.Answer.{Answer}
use Rattle.ld_engine.specs.declared.asking.AnswerError.{AnswerError}
use Rattle.ld_engine.specs.declared.asking.AnswerError.TheVariants as error
use Rattle.ld_engine.specs.declared.limits.Limits.{Limits}
use Rattle.ld_colour.specs.declared.colour.Colour.{Colour}
use Rattle.ld_engine.proofs.Gone.{further}
use Rattle.ld_engine.proofs.Reached.{id-behind, id-within}
use Rattle.ld_engine.proofs.Wanted.{learnt-by}

-- a root that is not known is wanted
pub root-wanted : (known : Known) (root : FileId) → id_of known root ≡ None → wanted known root ≡ Some root
unfolding reach
root-wanted known root none =
    ap (λ o. wanted_in (elim o [ None ↦ Wants root | Some id ↦ texts_reach (length known) known 0 (id ∷ []) ])) none

-- ---- What is told.

-- all is learnt, and then the answer is made
pub told-answer : (limits others : Limits) (root : FileId) (colour : Colour) (old known : Known) (files : Option Files) (result : Result Answer AnswerError) → wanted known root ≡ None → AnswersKnown others root colour known result → IfSome files (λ files. learning limits files root old ≡ learnt known) → IfSome files (λ files. AnswersTold limits files root old known result)
told-answer limits others root colour old known None result none answers told = tt
told-answer limits others root colour old known (Some files) (Ok answer) none answers told = told
told-answer limits others root colour old known (Some files) (Err (error.Fault fault)) none answers told = told
told-answer limits others root colour old known (Some files) (Err error.NoRoot) none answers told = told
told-answer limits others root colour old known (Some files) (Err error.ReadFault) none answers told = absurd answers
told-answer limits others root colour old known (Some files) (Err (error.TooBig file)) none answers told = absurd answers
told-answer limits others root colour old known (Some files) (Err (error.Full over)) none answers told = absurd answers
told-answer limits others root colour old known (Some files) (Err error.Memory) none answers told = told ∙ sym (learnt-by limits files (wanted_for root) known none)

-- ---- Where the going stands.

module _ (numbers : NumbersAgree) (learning_is : LearningNumbers) (known : Known) (root : FileId) (id : ℕ) (is : id_of known root ≡ Some id) where
  pub begun-inside : IsInside known (begun id).texts
  begun-inside other has = let within = id-within numbers known root id is in by (nat_eq other id) refl has
    where
      by : (same : Bool) → nat_eq other id ≡ same → (same || false) ≡ true → other < length known
      by true at has = let e : other ≡ id = eqb-true other id at in let within = id-within numbers known root id is in omega arith
      by false at has = cc

  pub begun-rest : (more : Known) → reach (known ++ more) root ≡ left (known ++ more) (begun id)
  unfolding reach
  begun-rest more =
      let within = id-within numbers known root id is in
      let all = length-append known more in
      let some : 1 ≤ length (known ++ more) = omega arith in
      let same : length (known ++ more) ≡ length (known ++ more) - 0 = omega arith in
      ap (λ o. elim o [ None ↦ Wants root | Some id ↦ texts_reach (length (known ++ more)) (known ++ more) 0 (id ∷ []) ]) (id-behind learning_is known more root id is)
      ∙ ap (λ n. texts_reach n (known ++ more) 0 (id ∷ [])) same
      ∙ further (known ++ more) (id ∷ []) 0 some

module _ (known : Known) (root : FileId) (old : Passed) (rest : (more : Known) → reach (known ++ more) root ≡ left (known ++ more) old) where
  here : reach known root ≡ left known old
  here = sym (ap (λ k. reach k root) (append-nil known)) ∙ rest [] ∙ ap (λ k. left k old) (append-nil known)

  pub next-wanted : (new : Passed) (file : FileId) → Goes left known old new (Some file) → wanted known root ≡ Some file
  next-wanted new file goes =
      let same : left known old ≡ left known new = sym (ap (λ k. left k old) (append-nil known)) ∙ goes.0 [] ∙ ap (λ k. left k new) (append-nil known) in
      ap wanted_in (here ∙ same ∙ goes.1)

  pub nothing-wanted : (new : Passed) → Goes left known old new None → wanted known root ≡ None
  nothing-wanted new goes = ap wanted_in (here ∙ sym (ap (λ k. left k old) (append-nil known)) ∙ goes [])

  pub rest-behind : (new : Passed) (file : FileId) (text : Text) → Goes left known old new (Some file) → (more : Known) → reach ((known ++ (file, text) ∷ []) ++ more) root ≡ left ((known ++ (file, text) ∷ []) ++ more) new
  rest-behind new file text goes more =
      let behind = (file, text) ∷ more in
      ap (λ k. reach k root) (append_assoc known ((file, text) ∷ []) more) ∙ rest behind ∙ goes.0 behind ∙ ap (λ k. left k new) (sym (append_assoc known ((file, text) ∷ []) more))

pub inside-behind : (known : Known) (entry : FileId × Text) (texts : List ℕ) → IsInside known texts → IsInside (known ++ entry ∷ []) texts
inside-behind known entry texts inside id has = let within = inside id has in let count = length-append known (entry ∷ []) in omega arith
