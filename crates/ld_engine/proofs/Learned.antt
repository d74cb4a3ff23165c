-- Files that are learnt one after another.
use Rattle.std.proofs.Common.{◌≡◌, ◌==◌, ◌<◌, ◌≤◌, ◌-◌, ◌++◌, ◌&&◌, ℕ, suc, Bool, true, false, cond, List, [], ◌∷◌, length, Option, Some, None, Result, Ok, Err, refl, ap, sym, ◌∙◌, arith, tests}
use Rattle.std.specs.Prelude.{IfSome, IsSomeAnd}
use Rattle.std.specs.Option.{option_or}
use Rattle.std.proofs.lemmas.Bool.{le-ltb, lt-ltb}
use Rattle.std.proofs.lemmas.List.{length-append}
use Rattle.ld_io.specs.Shelf.{Files}
use Rattle.ld_names.specs.Standing.{Known, Text}
use Rattle.ld_names.specs.declared.file.FileId.{FileId}
use Rattle.ld_names.specs.declared.file.TextId.{TextId}
use Rattle.ld_texts.specs.Learning.{GivesUnless, Learn, limit_passed, weight_passed}
use Rattle.ld_texts.specs.declared.change.LearnError.{LearnError}
use Rattle.ld_texts.specs.declared.change.LearnError.TheVariants.{Full as Refused, Memory as NoMemory}
use Rattle.ld_texts.specs.declared.change.Over.TheVariants.{Files as TooMany}
use Rattle.ld_engine.specs.Learning.{Stop, TooBig, Full, Wanting, bytes_on, fetched, learn, learning_by, learning_on, learnt, stopped, text_by, unless_over}
use Rattle.ld_engine.specs.Fetching.{TextTold}
use Rattle.ld_engine.specs.Keeping.{Keeps, Tells, refused_by, stopped_at}
use Rattle.ld_engine.specs.declared.fetching.FetchStop.{FetchStop}
use Rattle.ld_engine.specs.declared.fetching.FetchStop.TheVariants as fetch
use Rattle.ld_engine.specs.declared.learning.LearnStop.{LearnStop}
use Rattle.ld_engine.specs.declared.learning.LearnStop.TheVariants as stop
use Rattle.ld_engine.specs.declared.limits.Limits.{Limits}

pub and-first : (a b : Bool) → (a && b) ≡ true → a ≡ true
and-first true b is = refl
and-first false b is = cc

module _ (limits : Limits) (files : Files) (wants : Wanting) (file : FileId) (known : Known) (is_next : wants known ≡ Some file) where
  -- the number of files is at its limit
  pub full-told : length known ≡ limits.texts → learning_by limits files wants known ≡ stopped known (Full (TooMany limits.texts))
  unfolding learning_by
  full-told full =
      let none : limits.texts - length known ≡ 0 = omega arith in
      ap (λ n. learn n limits files wants known) none
      ∙ ap (λ w. elim w [ None ↦ learnt known | Some file ↦ stopped known (Full (TooMany (length known))) ]) is_next
      ∙ ap (λ n. stopped known (Full (TooMany n))) full

  -- a file more may be known
  next-told : length known < limits.texts → learning_by limits files wants known ≡ learning_on (learn (limits.texts - suc (length known)) limits files wants) known file (fetched limits known file (bytes_on files file))
  unfolding learning_by
  next-told few =
      let some : limits.texts - length known ≡ suc (limits.texts - suc (length known)) = omega arith in
      ap (λ n. learn n limits files wants known) some
      ∙ ap (λ w. elim w [ None ↦ learnt known | Some file ↦ learning_on (learn (limits.texts - suc (length known)) limits files wants) known file (fetched limits known file (bytes_on files file)) ]) is_next

  -- the file is learnt
  pub learnt-told : (text : Text) → length known < limits.texts → fetched limits known file (bytes_on files file) ≡ Ok text → learning_by limits files wants known ≡ learning_by limits files wants (known ++ (file, text) ∷ [])
  unfolding learning_by
  learnt-told text few is =
      let count = length-append known ((file, text) ∷ []) in
      let same : limits.texts - suc (length known) ≡ limits.texts - length (known ++ (file, text) ∷ []) = omega arith in
      next-told few ∙ ap (learning_on (learn (limits.texts - suc (length known)) limits files wants) known file) is
      ∙ ap (λ n. learn n limits files wants (known ++ (file, text) ∷ [])) same

  -- it is not
  pub stopped-told : (stop : Stop) → length known < limits.texts → fetched limits known file (bytes_on files file) ≡ Err stop → learning_by limits files wants known ≡ stopped known stop
  stopped-told stop few is = next-told few ∙ ap (learning_on (learn (limits.texts - suc (length known)) limits files wants) known file) is

-- ---- What is fetched.

module _ (limits : Limits) (known : Known) (file : FileId) where
  pub big-fetched : (bytes : Option (List ℕ)) → IsSomeAnd bytes (λ all. limits.file_bytes < length all) → fetched limits known file bytes ≡ Err (TooBig file)
  big-fetched None big = absurd big
  big-fetched (Some bytes) big = ap (λ b. cond b (Err (TooBig file)) (unless_over (weight_passed limits.total_weight known (text_by file (Some bytes))) (text_by file (Some bytes)))) (lt-ltb limits.file_bytes (length bytes) big)

  pub text-fetched : (bytes : Option (List ℕ)) (text : Text) → text ≡ text_by file bytes → IfSome bytes (λ all. length all ≤ limits.file_bytes) → fetched limits known file bytes ≡ unless_over (weight_passed limits.total_weight known text) text
  text-fetched None text is small = sym (ap (λ t. unless_over (weight_passed limits.total_weight known t) t) is)
  text-fetched (Some bytes) text is small =
      ap (λ b. cond b (Err (TooBig file)) (unless_over (weight_passed limits.total_weight known (text_by file (Some bytes))) (text_by file (Some bytes)))) (le-ltb limits.file_bytes (length bytes) small)
      ∙ sym (ap (λ t. unless_over (weight_passed limits.total_weight known t) t) is)

-- the limit on the weight is the one that is passed
pub weight-alone : (texts weight : ℕ) (known : Known) (text : Text) → length known < texts → limit_passed texts weight known text ≡ weight_passed weight known text
weight-alone texts weight known text few =
    let not_full : (length known == texts) ≡ false = grind (arith, tests) in
    ap (λ b. option_or (cond b (Some (TooMany texts)) None) (weight_passed weight known text)) not_full

-- ---- One file.

pub keeps-refused : (limits : Limits) (known new : Known) (file : FileId) (text : Text) (error : LearnError) (max_files max_weight : ℕ) → max_files ≡ limits.texts → max_weight ≡ limits.total_weight → new ≡ known → GivesUnless (limit_passed max_files max_weight known text) (Learn file text) (Err error) → Keeps limits known new file text (Err (refused_by error))
keeps-refused limits known new file text (Refused over) max_files max_weight files weight same passed =
    (same, sym (ap (λ n. limit_passed n limits.total_weight known text) files) ∙ sym (ap (λ w. limit_passed max_files w known text) weight) ∙ passed)
keeps-refused limits known new file text NoMemory max_files max_weight files weight same passed = same

pub if_some : {A : Type 0} {P : A → Type 0} (o : Option A) → ((a : A) → P a) → IfSome o P
if_some None all = tt
if_some (Some a) all = all a

module _ (limits : Limits) (known new : Known) (file : FileId) (few : length known < limits.texts) where
  -- a file that was fetched is kept, or not
  pub kept-told : (files : Option Files) (text : Text) (result : Result TextId LearnStop) → IfSome files (λ files. TextTold file (bytes_on files file) limits.file_bytes (Ok text)) → Keeps limits known new file text result → IfSome files (λ files. (wants : Wanting) → wants known ≡ Some file → Tells limits files wants known new result)
  kept-told None text result told keeps = tt
  kept-told (Some files) text result told keeps = λ wants is_next. by wants is_next result keeps
    where
      is : fetched limits known file (bytes_on files file) ≡ unless_over (weight_passed limits.total_weight known text) text
      is = text-fetched limits known file (bytes_on files file) text told.0 told.1

      by : (wants : Wanting) → wants known ≡ Some file → (result : Result TextId LearnStop) → Keeps limits known new file text result → Tells limits files wants known new result
      by wants is_next (Ok id) (kept, passes) =
          let alone = sym (weight-alone limits.texts limits.total_weight known text few) ∙ passes in
          learnt-told limits files wants file known is_next text few (text-fetched limits known file (bytes_on files file) text told.0 told.1 ∙ ap (λ o. unless_over o text) alone) ∙ ap (learning_by limits files wants) (sym kept.known)
      by wants is_next (Err (stop.Full over)) (same, passed) =
          let alone = sym (weight-alone limits.texts limits.total_weight known text few) ∙ passed in
          stopped-told limits files wants file known is_next (Full over) few (text-fetched limits known file (bytes_on files file) text told.0 told.1 ∙ ap (λ o. unless_over o text) alone) ∙ ap (λ k. stopped k (Full over)) (sym same)
      by wants is_next (Err stop.Memory) keeps = ap (learning_by limits files wants) (sym keeps)
      by wants is_next (Err stop.ReadFault) keeps = absurd keeps
      by wants is_next (Err (stop.TooBig big)) keeps = absurd keeps

  -- a fetch failed
  pub err-told : (files : Option Files) (failed : FetchStop) → IfSome files (λ files. TextTold file (bytes_on files file) limits.file_bytes (Err failed)) → IfSome files (λ files. (wants : Wanting) → wants known ≡ Some file → Tells limits files wants known known (Err (stopped_at file failed)))
  err-told None failed told = tt
  err-told (Some files) fetch.ReadFault told = λ wants is_next. refl
  err-told (Some files) fetch.TooBig told = λ wants is_next. stopped-told limits files wants file known is_next (TooBig file) few (big-fetched limits known file (bytes_on files file) told)
  err-told (Some files) fetch.Memory told = λ wants is_next. refl
