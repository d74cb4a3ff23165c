-- All that is wanted is learnt, one file after another.
use Rattle.std.proofs.Common.{◌≡◌, ◌-◌, ◌++◌, ℕ, zero, suc, [], ◌∷◌, length, Option, Some, None, Result, Ok, Err, ap, sym, subst, ◌∙◌, append_assoc, arith}
use Rattle.std.specs.Prelude.{IfErr, IfSome, is_some}
use Rattle.std.proofs.lemmas.List.{append-nil, length-append}
use Rattle.ld_io.specs.Shelf.{Files}
use Rattle.ld_names.specs.Standing.{Known, Text}
use Rattle.ld_names.specs.declared.file.FileId.{FileId}
use Rattle.ld_names.specs.declared.file.TextId.{TextId}
use Rattle.ld_texts.specs.Learning.{Texts}
use Rattle.ld_texts.specs.declared.change.Over.TheVariants.{Files as TooMany}
use Rattle.ld_engine.specs.Keeping.{IsKept, LearnsFile, StopsAt, StopsFor, Tells, ToldFor}
use Rattle.ld_engine.specs.Learning.{AreWanted, Full as PassedLimit, LearnsBy, Wanting, bytes_on, fetched, learn, learning_by, learning_on, learnt, stopped}
use Rattle.ld_engine.specs.declared.learning.LearnStop.{LearnStop}
use Rattle.ld_engine.specs.declared.learning.LearnStop.TheVariants.{ReadFault, TooBig, Full, Memory}
use Rattle.ld_engine.specs.declared.limits.Limits.{Limits}

-- ---- What is known grows.

pub learns-none : (wants : Wanting) (known : Known) → LearnsBy wants known known
learns-none wants known = ([], sym (append-nil known), tt)

wanted-behind : (wants : Wanting) (known entries : Known) (entry : FileId × Text) → AreWanted wants known entries → wants (known ++ entries) ≡ Some entry.0 → AreWanted wants known (entries ++ entry ∷ [])
wanted-behind wants known [] entry are next = (ap wants (sym (append-nil known)) ∙ next, tt)
wanted-behind wants known (first ∷ entries) entry are next =
    (are.0, wanted-behind wants (known ++ first ∷ []) entries entry are.1 (ap wants (append_assoc known (first ∷ []) entries) ∙ next))

pub learns-more : (wants : Wanting) (old mid new : Known) (file : FileId) (text : Text) → LearnsBy wants old mid → wants mid ≡ Some file → new ≡ mid ++ (file, text) ∷ [] → LearnsBy wants old new
learns-more wants old mid new file text (entries, grown, are) next is =
    (entries ++ (file, text) ∷ [], is ∙ ap (λ k. k ++ (file, text) ∷ []) grown ∙ append_assoc old entries ((file, text) ∷ []), wanted-behind wants old entries (file, text) are (ap wants (sym grown) ∙ next))

pub learns-same : (wants : Wanting) (old mid new : Known) → LearnsBy wants old mid → new ≡ mid → LearnsBy wants old new
learns-same wants old mid new learns is = subst (LearnsBy wants old) (sym is) learns

pub learns-file : (wants : Wanting) (old mid new : Known) (file : FileId) (result : Result TextId LearnStop) → LearnsBy wants old mid → wants mid ≡ Some file → LearnsFile mid new file result → LearnsBy wants old new
learns-file wants old mid new file (Ok id) learns next (text, kept) = learns-more wants old mid new file text learns next kept.known
learns-file wants old mid new file (Err stop) learns next same = learns-same wants old mid new learns same

-- where nothing is wanted, nothing is learnt
pub learns-nothing : (wants : Wanting) (old new : Known) → wants old ≡ None → LearnsBy wants old new → new ≡ old
learns-nothing wants old new none ([], grown, are) = grown ∙ append-nil old
learns-nothing wants old new none (entry ∷ entries, grown, are) = absurd (cc)

-- once a file is wanted, one was wanted before
pub none-wanted : {A : Type 0} (wants : Wanting) (old mid : Known) (file : FileId) → LearnsBy wants old mid → wants mid ≡ Some file → wants old ≡ None → A
none-wanted wants old mid file learns next none = absurd (let same : wants mid ≡ None = ap wants (learns-nothing wants old mid none learns) ∙ none in cc)

-- ---- What stops.

pub stops-file : (limits : Limits) (wants : Wanting) (file : FileId) (mid new : Known) (stop : LearnStop) → wants mid ≡ Some file → new ≡ mid → StopsAt limits mid file stop → StopsFor limits wants new stop
stops-file limits wants file mid new stop next same at = subst (λ k. StopsFor limits wants k stop) (sym same) (by stop at)
  where
    by : (stop : LearnStop) → StopsAt limits mid file stop → StopsFor limits wants mid stop
    by ReadFault at = (ap is_some next, at)
    by (TooBig big) at = (next ∙ ap (λ f. Some f) (sym at.0), at.1)
    by (Full over) at = (ap is_some next, at)
    by Memory at = tt

pub stops-any : (limits : Limits) (wants : Wanting) (file : FileId) (mid new : Known) (result : Result TextId LearnStop) → wants mid ≡ Some file → LearnsFile mid new file result → IfErr result (λ stop. StopsAt limits mid file stop) → IfErr result (λ stop. StopsFor limits wants new stop)
stops-any limits wants file mid new (Ok id) next learns at = tt
stops-any limits wants file mid new (Err stop) next same at = stops-file limits wants file mid new stop next same at

-- ---- What is wanted.

-- of the texts as they are
pub wants-now : (wants : Wanting) (told texts : Texts) (next : Option FileId) → told ≡ texts → next ≡ wants told.known → wants texts.known ≡ next
wants-now wants told texts next same is = sym (is ∙ ap (λ (t : Texts). wants t.known) same)

-- ---- What is told.

pub told-first : (limits : Limits) (wants : Wanting) (file : FileId) (old new : Known) (files : Option Files) (result : Result TextId LearnStop) → wants old ≡ Some file → IfSome files (λ files. (wants : Wanting) → wants old ≡ Some file → Tells limits files wants old new result) → IfSome files (λ files. Tells limits files wants old new result)
told-first limits wants file old new None result next told = tt
told-first limits wants file old new (Some files) result next told = told wants next

-- one file more
pub told-more : (limits : Limits) (wants : Wanting) (old mid new : Known) (files : Option Files) (id : TextId) → IfSome files (λ files. learning_by limits files wants old ≡ learning_by limits files wants mid) → IfSome files (λ files. Tells limits files wants mid new (Ok id)) → IfSome files (λ files. learning_by limits files wants old ≡ learning_by limits files wants new)
told-more limits wants old mid new None id before step = tt
told-more limits wants old mid new (Some files) id before step = before ∙ step

pub told-stop : (A : Type 0) (limits : Limits) (wants : Wanting) (old mid new : Known) (files : Option Files) (stop : LearnStop) → IfSome files (λ files. learning_by limits files wants old ≡ learning_by limits files wants mid) → IfSome files (λ files. Tells limits files wants mid new (Err stop)) → IfSome files (λ files. ToldFor {A = A} limits files wants old new (Err stop))
told-stop A limits wants old mid new None stop before step = tt
told-stop A limits wants old mid new (Some files) ReadFault before step = before ∙ step
told-stop A limits wants old mid new (Some files) (TooBig file) before step = before ∙ step
told-stop A limits wants old mid new (Some files) (Full over) before step = before ∙ step
told-stop A limits wants old mid new (Some files) Memory before step = before ∙ step

-- nothing more is wanted
learnt-at : (left : ℕ) (limits : Limits) (files : Files) (wants : Wanting) (known : Known) → wants known ≡ None → learn left limits files wants known ≡ learnt known
learnt-at zero limits files wants known none = ap (λ w. elim w [ None ↦ learnt known | Some file ↦ stopped known (PassedLimit (TooMany (length known))) ]) none
learnt-at (suc left) limits files wants known none = ap (λ w. elim w [ None ↦ learnt known | Some file ↦ learning_on (learn left limits files wants) known file (fetched limits known file (bytes_on files file)) ]) none

pub learnt-by : (limits : Limits) (files : Files) (wants : Wanting) (known : Known) → wants known ≡ None → learning_by limits files wants known ≡ learnt known
unfolding learning_by
learnt-by limits files wants known none = learnt-at (limits.texts - length known) limits files wants known none

pub told-end : (limits : Limits) (wants : Wanting) (old known : Known) (files : Option Files) → wants known ≡ None → IfSome files (λ files. learning_by limits files wants old ≡ learning_by limits files wants known) → IfSome files (λ files. learning_by limits files wants old ≡ learnt known)
told-end limits wants old known None none before = tt
told-end limits wants old known (Some files) none before = before ∙ learnt-by limits files wants known none

-- ---- A step of the loop.

-- learnt, with some text
pub grown : (mid new : Known) (file : FileId) (result : Result TextId LearnStop) (id : TextId) → result ≡ Ok id → LearnsFile mid new file result → (text : Text) × (new ≡ mid ++ (file, text) ∷ [])
grown mid new file result id is learns = by (subst (LearnsFile mid new file) is learns)
  where
    by : (text : Text) × IsKept mid new file text id.0 → (text : Text) × (new ≡ mid ++ (file, text) ∷ [])
    by (text, kept) = (text, kept.known)

pub one-more : (mid new : Known) (entry : FileId × Text) → new ≡ mid ++ entry ∷ [] → length new ≡ suc (length mid)
one-more mid new entry is = let count = length-append mid (entry ∷ []) in let same = ap length is in omega arith
