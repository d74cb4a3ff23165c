-- Complete runs, runs that end with the usage line, and runs that are stopped before anything is put.
use Rattle.std.proofs.Common.{◌≡◌, ◌∙◌, ℕ, zero, List, [], ◌∷◌, Bool, true, false, is_some, Option, Some, None, IfSome, refl, ap, sym, subst, inl, inr, append-nil, arith}
use Rattle.std.specs.List.{concat}
use Rattle.ld_io.specs.Shelf.{Files}
use Rattle.ld_cmd.specs.declared.status.Status.{Status}
use Rattle.ld_cmd.specs.declared.status.Status.TheVariants.{Done, Faulted, Usage, Input, ReadFault, WriteFault, Memory, Limit}
use Rattle.ld_cmd.specs.Ending.{EndsAs, IsComplete, IsWhole, StandsInFront, Takes, UsageIsExact}
use Rattle.ld_words.specs.Words.{Intent, intent_of, usage_line}
use Rattle.ld_cmd.specs.Output.{commanded, output, usage}
use Rattle.ld_cmd.specs.Written.{Output, one_piece}

-- the status of a run over files that are told
abbrev pub EndsTold : Status → (Files → Output) → Option Files → Type 0
EndsTold status wanted files = IfSome files (λ f. EndsAs status (wanted f).status)

-- what it takes, where that is told too
abbrev pub TakesTold : Status → (Files → Output) → Option Files → Option (List ℕ) → Option (List ℕ) → Type 0
TakesTold status wanted files before after = IfSome files (λ f. IfSome before (λ b. Takes status (wanted f).pieces b after))

-- a run that neither reading nor writing stopped is complete
is_complete : (status : Status) (wanted : Output) (before : List ℕ) (after : Option (List ℕ)) → EndsAs status wanted.status → Takes status wanted.pieces before after → ¬ (status ≡ ReadFault) → ¬ (status ≡ WriteFault) → IsComplete status wanted before after
is_complete Done wanted before after ends takes read written = inl (ends refl, takes)
is_complete Faulted wanted before after ends takes read written = inl (ends refl, takes)
is_complete Usage wanted before after ends takes read written = inl (ends refl, takes)
is_complete Input wanted before after ends takes read written = inl (ends refl, takes)
is_complete Limit wanted before after ends takes read written = inl (ends refl, takes)
is_complete Memory wanted before after ends takes read written = inr (refl, takes)
is_complete ReadFault wanted before after ends takes read written = absurd (read refl)
is_complete WriteFault wanted before after ends takes read written = absurd (written refl)

pub complete_where_told : (status : Status) (wanted : Files → Output) (files : Option Files) (before after : Option (List ℕ)) → EndsTold status wanted files → TakesTold status wanted files before after → ¬ (status ≡ ReadFault) → ¬ (status ≡ WriteFault) → IfSome files (λ f. IfSome before (λ b. IsComplete status (wanted f) b after))
complete_where_told status wanted None before after ends takes read written = tt
complete_where_told status wanted (Some files) None after ends takes read written = tt
complete_where_told status wanted (Some files) (Some before) after ends takes read written = is_complete status (wanted files) before after ends takes read written

-- the output is the usage line
abbrev pub UsageTold : (Files → Output) → Option Files → Type 0
UsageTold wanted files = IfSome files (λ f. usage ≡ wanted f)

pub usage_ends : (status : Status) (wanted : Files → Output) (files : Option Files) → UsageTold wanted files → EndsAs status Usage → EndsTold status wanted files
usage_ends status wanted None is ends = tt
usage_ends status wanted (Some files) is ends = subst (λ out. EndsAs status out.status) is ends

pub usage_takes : (status : Status) (wanted : Files → Output) (files : Option Files) (before after : Option (List ℕ)) → UsageTold wanted files → IfSome before (λ b. Takes status (usage_line ∷ []) b after) → TakesTold status wanted files before after
usage_takes status wanted None before after is takes = tt
usage_takes status wanted (Some files) before after is takes = subst (λ out. IfSome before (λ b. Takes status out.pieces b after)) is takes

no-intent : (is_command : Bool) (found : Option Intent) → is_command ≡ is_some found → is_command ≡ false → found ≡ None
no-intent true found is lacks = absurd (cc)
no-intent false None is lacks = refl
no-intent false (Some intent) is lacks = absurd (cc)

-- words outside the grammar give the usage line
pub usage-told : (words : List (List ℕ)) (files : Option Files) (is_command : Bool) → is_command ≡ is_some (intent_of words) → is_command ≡ false → UsageTold (output words) files
unfolding output
usage-told words None is_command is lacks = tt
usage-told words (Some files) is_command is lacks = ap (λ found. commanded found files) (sym (no-intent is_command (intent_of words) is lacks))

-- an output of one piece is put where it is not empty
pub unput-told : {A : Type 0} (old new : A) (text : List ℕ) (status : Status) (wanted : Files → Output) (files : Option Files) → IfSome files (λ f. one_piece text status ≡ wanted f) → (text ≡ [] → new ≡ old) → IfSome files (λ f. concat (wanted f).pieces ≡ [] → new ≡ old)
unput-told old new text status wanted None is stays = tt
unput-told old new text status wanted (Some files) is stays = λ empty. stays (sym (append-nil text) ∙ ap (λ (out : Output). concat out.pieces) is ∙ empty)

-- so is another that is the same
pub unput-same : {A : Type 0} (old new : A) (made wanted : Files → Output) (files : Option Files) → IfSome files (λ f. made f ≡ wanted f) → IfSome files (λ f. concat (made f).pieces ≡ [] → new ≡ old) → IfSome files (λ f. concat (wanted f).pieces ≡ [] → new ≡ old)
unput-same old new made wanted None is stays = tt
unput-same old new made wanted (Some files) is stays = λ empty. stays (ap (λ (out : Output). concat out.pieces) is ∙ empty)

-- ---- Words in the grammar.

pub in-grammar : (found : Option Intent) (is_command : Bool) → is_command ≡ is_some found → is_command ≡ true → found ≡ None → ⊥
in-grammar None true is holds none = absurd (cc)
in-grammar (Some intent) true is holds none = absurd (cc)
in-grammar found false is holds none = absurd (cc)

pub usage-elsewhere : (found : Option Intent) (status : Status) → (found ≡ None → ⊥) → ¬ (status ≡ Usage) → UsageIsExact found status
usage-elsewhere None status some other = absurd (some refl)
usage-elsewhere (Some intent) status some other = other

-- another output that is the same
pub same_ends : (status : Status) (made wanted : Files → Output) (files : Option Files) → IfSome files (λ f. made f ≡ wanted f) → EndsTold status made files → EndsTold status wanted files
same_ends status made wanted None is ends = tt
same_ends status made wanted (Some files) is ends = subst (λ out. EndsAs status out.status) is ends

pub same_takes : (status : Status) (made wanted : Files → Output) (files : Option Files) (before after : Option (List ℕ)) → IfSome files (λ f. made f ≡ wanted f) → TakesTold status made files before after → TakesTold status wanted files before after
same_takes status made wanted None before after is takes = tt
same_takes status made wanted (Some files) before after is takes = subst (λ out. IfSome before (λ b. Takes status out.pieces b after)) is takes

-- ---- Nothing is put.

pub stopped-ends : (status : Status) (wanted : Files → Output) (files : Option Files) → ¬ (IsWhole status) → EndsTold status wanted files
stopped-ends status wanted None stopped = tt
stopped-ends status wanted (Some files) stopped = λ whole. absurd (stopped whole)

-- where reading or memory stopped the run
pub none-taken : (wanted : Files → Output) (files : Option Files) (before : Option (List ℕ)) → TakesTold Memory wanted files before before
none-taken wanted None before = tt
none-taken wanted (Some files) None = tt
none-taken wanted (Some files) (Some before) = (zero, omega arith, ap Some (sym (append-nil before)))

pub none-lost : (before : Option (List ℕ)) → IfSome before (λ b. before ≡ Some b)
none-lost None = tt
none-lost (Some before) = refl

pub none-in_front : (before : Option (List ℕ)) → IfSome before (λ b. StandsInFront b before)
none-in_front None = tt
none-in_front (Some before) = ([], ap Some (sym (append-nil before)))

pub none-put : {A : Type 0} (out : A) (wanted : Files → Output) (files : Option Files) → IfSome files (λ f. concat (wanted f).pieces ≡ [] → out ≡ out)
none-put out wanted None = tt
none-put out wanted (Some files) = λ empty. refl
