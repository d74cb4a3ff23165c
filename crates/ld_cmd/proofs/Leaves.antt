-- One command, and those that follow.
use Rattle.std.proofs.Common.{◌≡◌, ◌<◌, ◌≤◌, ◌+◌, ◌++◌, ℕ, zero, suc, List, [], ◌∷◌, take, length, Option, Some, None, Result, Ok, Err, IfErr, IfSome, OnOk, is_some, sym, ap, refl, ◌∙◌, subst, append_assoc, append-nil, arith}
use Rattle.std.specs.List.{concat}
use Rattle.std.specs.Prelude.{⊤}
use Rattle.std.proofs.lemmas.List.{length-append, take-append-le}
use Rattle.ld_io.specs.Shelf.{Files}
use Rattle.ld_names.specs.Standing.{Known}
use Rattle.ld_script.specs.declared.command.Command.{Command}
use Rattle.ld_cmd.specs.declared.status.Status.{Status}
use Rattle.ld_cmd.specs.declared.status.Status.TheVariants.{Done, Faulted, Usage, Input, ReadFault, WriteFault, Memory, Limit}
use Rattle.ld_cmd.specs.Ending.{EndsAs, Interruption, IsStoppedPut, Reading, Writing, Room, StandsInFront, Takes, TakesAfter, TakesAll, interruption_of}
use Rattle.ld_cmd.specs.Leaving.{Leaves, TakesFewer, TakesUpTo}
use Rattle.ld_cmd.specs.Playing.{Setting, Replied, Reply, Ends, followed, played, replied_to}
use Rattle.ld_cmd.specs.Written.{Output, one_piece, onto}

pub just : {A : Type 0} (a b : A) → Some a ≡ Some b → a ≡ b
just a b same = cc

-- the part of the pieces that stands behind a whole first one
take-behind : (first more : List ℕ) (n : ℕ) → take (length first + n) (first ++ more) ≡ first ++ take n more
take-behind [] more n = ap (λ k. take k more) (omega arith)
take-behind (x ∷ first) more n = ap (λ k. take k (x ∷ (first ++ more))) (plus (length first) n) ∙ ap (λ xs. x ∷ xs) (take-behind first more n)
  where
    plus : (a b : ℕ) → suc a + b ≡ suc (a + b)
    plus a b = omega arith

-- a whole piece, and then what the rest takes
takes-behind : (stopped : Option Interruption) (piece : List ℕ) (more : List (List ℕ)) (before : List ℕ) (after : Option (List ℕ)) → TakesUpTo stopped more (before ++ piece) after → TakesUpTo stopped (piece ∷ more) before after
takes-behind None piece more before after takes = takes ∙ ap Some (append_assoc before piece (concat more))
takes-behind (Some Reading) piece more before after takes = (suc takes.0, omega (arith, takes.1), takes.2 ∙ ap Some (append_assoc before piece (concat (take takes.0 more))))
takes-behind (Some Room) piece more before after takes = (suc takes.0, omega (arith, takes.1), takes.2 ∙ ap Some (append_assoc before piece (concat (take takes.0 more))))
takes-behind (Some Writing) piece more before after takes = (
  length piece + takes.0,
  omega (arith, takes.1, length-append piece (concat more)),
  takes.2 ∙ ap Some (append_assoc before piece (take takes.0 (concat more)) ∙ ap (λ bytes. before ++ bytes) (sym (take-behind piece (concat more) takes.0))),
)

-- nothing is taken
takes-none : (pieces : List (List ℕ)) (before : List ℕ) → 0 < length pieces → TakesFewer pieces before (Some before)
takes-none pieces before some = (zero, some, ap Some (sym (append-nil before)))

first-none : (n : ℕ) (piece : List ℕ) (before : List ℕ) (after : Option (List ℕ)) → n ≤ 0 → after ≡ Some (before ++ concat (take n (piece ∷ []))) → after ≡ Some before
first-none zero piece before after none is = is ∙ ap Some (append-nil before)
first-none (suc n) piece before after none is = absurd (omega (arith, none))

-- a piece that is not taken whole
takes-part : (status : Status) (piece : List ℕ) (more : List (List ℕ)) (before : List ℕ) (after : Option (List ℕ)) → IsStoppedPut status → Takes status (piece ∷ []) before after → TakesUpTo (interruption_of status) (piece ∷ more) before after
takes-part WriteFault piece more before after stops takes =
    let within : takes.0 < length piece = rw (append-nil piece) at takes.1 in (
      takes.0,
      omega (arith, within, length-append piece (concat more)),
      takes.2 ∙ ap (λ bytes. Some (before ++ take takes.0 bytes)) (append-nil piece) ∙ ap (λ bytes. Some (before ++ bytes)) (sym (take-append-le takes.0 piece (concat more) (omega (arith, within)))),
    )
takes-part Memory piece more before after stops takes = (zero, omega arith, first-none takes.0 piece before after takes.1 takes.2 ∙ ap Some (sym (append-nil before)))
takes-part Done piece more before after stops takes = absurd stops
takes-part Faulted piece more before after stops takes = absurd stops
takes-part Usage piece more before after stops takes = absurd stops
takes-part Input piece more before after stops takes = absurd stops
takes-part ReadFault piece more before after stops takes = absurd stops
takes-part Limit piece more before after stops takes = absurd stops

ends-any : (status wanted : Status) → IsStoppedPut status → EndsAs status wanted
ends-any WriteFault wanted stops = λ is. cc
ends-any Memory wanted stops = λ is. cc
ends-any Done wanted stops = absurd stops
ends-any Faulted wanted stops = absurd stops
ends-any Usage wanted stops = absurd stops
ends-any Input wanted stops = absurd stops
ends-any ReadFault wanted stops = absurd stops
ends-any Limit wanted stops = absurd stops

-- what a run that comes to this output leaves, as far as bytes are told
abbrev LeavesOf : Output → Status → Option (List ℕ) → Option (List ℕ) → Type 0
LeavesOf wanted status before after = EndsAs status wanted.status × IfSome before (λ old. TakesUpTo (interruption_of status) wanted.pieces old after)

-- a reply that is taken whole, and then what follows
onto-goes_on : (piece : List ℕ) (more : Output) (status : Status) (before between after : Option (List ℕ)) → is_some between ≡ is_some before → IfSome before (λ old. TakesAll (piece ∷ []) old between) → LeavesOf more status between after → LeavesOf (onto piece more) status before after
onto-goes_on piece more status None between after told puts left = (left.0, tt)
onto-goes_on piece more status (Some before) None after told puts left = absurd (cc)
onto-goes_on piece more status (Some before) (Some between) after told puts left =
    let is : between ≡ before ++ piece = just between (before ++ piece) (puts ∙ ap (λ bytes. Some (before ++ bytes)) (append-nil piece)) in
    (left.0, takes-behind (interruption_of status) piece more.pieces before after (subst (λ old. TakesUpTo (interruption_of status) more.pieces old after) is left.1))

-- a reply that is not taken whole
onto-stops : (piece : List ℕ) (more : Output) (status : Status) (before after : Option (List ℕ)) → IsStoppedPut status → IfSome before (λ old. Takes status (piece ∷ []) old after) → LeavesOf (onto piece more) status before after
onto-stops piece more status None after stops takes = (ends-any status more.status stops, tt)
onto-stops piece more status (Some before) after stops takes = (ends-any status more.status stops, takes-part status piece more.pieces before after stops takes)

-- reading or memory stopped a run before it put a piece
abbrev pub Unanswered : Status → Type 0
Unanswered ReadFault = ⊤
Unanswered Memory = ⊤
Unanswered Done = ⊥
Unanswered Faulted = ⊥
Unanswered Usage = ⊥
Unanswered Input = ⊥
Unanswered WriteFault = ⊥
Unanswered Limit = ⊥

-- an output of one piece that is taken
last-taken : (stopped : Option Interruption) (piece before : List ℕ) (after : Option (List ℕ)) → TakesAfter stopped (piece ∷ []) before after → TakesUpTo stopped (piece ∷ []) before after
last-taken None piece before after takes = takes
last-taken (Some Writing) piece before after takes = takes
last-taken (Some Reading) piece before after takes = (takes.0, omega (arith, takes.1), takes.2)
last-taken (Some Room) piece before after takes = (takes.0, omega (arith, takes.1), takes.2)

line-leaves : (line : List ℕ) (status : Status) (before after : Option (List ℕ)) → EndsAs status Limit → IfSome before (λ old. Takes status (line ∷ []) old after) → LeavesOf (one_piece line Limit) status before after
line-leaves line status None after ends takes = (ends, tt)
line-leaves line status (Some before) after ends takes = (ends, last-taken (interruption_of status) line before after takes)

-- a step is not answered
followed-some : (step : Replied) (further : Known → Output) → 0 < length (followed step further).pieces
followed-some (Reply piece known) further = omega arith
followed-some (Ends line) further = omega arith

none-leaves : (wanted : Output) (status : Status) (before : Option (List ℕ)) → 0 < length wanted.pieces → Unanswered status → LeavesOf wanted status before before
none-leaves wanted ReadFault None some stops = (λ is. cc, tt)
none-leaves wanted ReadFault (Some before) some stops = (λ is. cc, takes-none wanted.pieces before some)
none-leaves wanted Memory None some stops = (λ is. cc, tt)
none-leaves wanted Memory (Some before) some stops = (λ is. cc, takes-none wanted.pieces before some)
none-leaves wanted Done before some stops = absurd stops
none-leaves wanted Faulted before some stops = absurd stops
none-leaves wanted Usage before some stops = absurd stops
none-leaves wanted Input before some stops = absurd stops
none-leaves wanted WriteFault before some stops = absurd stops
none-leaves wanted Limit before some stops = absurd stops

-- ---- by the first of the commands

module _ (setting : Setting) (files : Files) (known : Known) (command : Command) (commands : List Command) where
  played-reply : (piece : List ℕ) (after : Known) → replied_to setting files known command ≡ Reply piece after → played setting files known (command ∷ commands) ≡ onto piece (played setting files after commands)
  unfolding played
  played-reply piece after is = ap (λ step. followed step (λ more. played setting files more commands)) is

  played-ends : (line : List ℕ) → replied_to setting files known command ≡ Ends line → played setting files known (command ∷ commands) ≡ one_piece line Limit
  unfolding played
  played-ends line is = ap (λ step. followed step (λ more. played setting files more commands)) is

  played-some : 0 < length (played setting files known (command ∷ commands)).pieces
  unfolding played
  played-some = followed-some (replied_to setting files known command) (λ more. played setting files more commands)

-- what the commands leave
abbrev LeavesPlayed : Setting → Option Files → Known → List Command → Status → Option (List ℕ) → Option (List ℕ) → Type 0
LeavesPlayed setting files known commands status before after = Leaves files (λ all. played setting all known commands) status before after

reply-goes_on : (setting : Setting) (files : Option Files) (old new : Known) (command : Command) (reply : List ℕ) (before between : Option (List ℕ)) → IfSome files (λ all. replied_to setting all old command ≡ Reply reply new) → is_some between ≡ is_some before → IfSome before (λ taken. TakesAll (reply ∷ []) taken between) → (commands : List Command) (status : Status) (after : Option (List ℕ)) → LeavesPlayed setting files new commands status between after → LeavesPlayed setting files old (command ∷ commands) status before after
reply-goes_on setting None old new command reply before between steps told puts commands status after left = tt
reply-goes_on setting (Some files) old new command reply before between steps told puts commands status after left =
    subst (λ wanted. LeavesOf wanted status before after) (sym (played-reply setting files old command commands reply new steps)) (onto-goes_on reply (played setting files new commands) status before between after told puts left)

reply-stops : (setting : Setting) (files : Option Files) (old new : Known) (command : Command) (reply : List ℕ) (status : Status) (before after : Option (List ℕ)) → IfSome files (λ all. replied_to setting all old command ≡ Reply reply new) → IsStoppedPut status → IfSome before (λ taken. Takes status (reply ∷ []) taken after) → (commands : List Command) → LeavesPlayed setting files old (command ∷ commands) status before after
reply-stops setting None old new command reply status before after steps stops takes commands = tt
reply-stops setting (Some files) old new command reply status before after steps stops takes commands =
    subst (λ wanted. LeavesOf wanted status before after) (sym (played-reply setting files old command commands reply new steps)) (onto-stops reply (played setting files new commands) status before after stops takes)

-- a reply is put, and then what follows
pub reply-answers : {A : Type 0} (setting : Setting) (files : Option Files) (old new : Known) (command : Command) (reply : List ℕ) (before between : Option (List ℕ)) (result : Result A Status) → IfSome files (λ all. replied_to setting all old command ≡ Reply reply new) → is_some between ≡ is_some before → OnOk result (IfSome before (λ taken. TakesAll (reply ∷ []) taken between)) → IfErr result (λ status. IsStoppedPut status × IfSome before (λ taken. Takes status (reply ∷ []) taken between)) → OnOk result ((commands : List Command) (status : Status) (after : Option (List ℕ)) → LeavesPlayed setting files new commands status between after → LeavesPlayed setting files old (command ∷ commands) status before after) × IfErr result (λ status. (commands : List Command) → LeavesPlayed setting files old (command ∷ commands) status before between)
reply-answers setting files old new command reply before between (Ok done) steps told whole part = (reply-goes_on setting files old new command reply before between steps told whole, tt)
reply-answers setting files old new command reply before between (Err status) steps told whole part = (tt, reply-stops setting files old new command reply status before between steps part.0 part.1)

pub line-ends : (setting : Setting) (files : Option Files) (old : Known) (command : Command) (line : List ℕ) (ends status : Status) (before after : Option (List ℕ)) → IfSome files (λ all. (replied_to setting all old command ≡ Ends line) × (ends ≡ Limit)) → EndsAs status ends → IfSome before (λ taken. Takes status (line ∷ []) taken after) → (commands : List Command) → LeavesPlayed setting files old (command ∷ commands) status before after
line-ends setting None old command line ends status before after steps ended takes commands = tt
line-ends setting (Some files) old command line ends status before after steps ended takes commands =
    subst (λ wanted. LeavesOf wanted status before after) (sym (played-ends setting files old command commands line steps.0)) (line-leaves line status before after (subst (λ limit. EndsAs status limit) steps.1 ended) takes)

pub none-answered : (setting : Setting) (files : Option Files) (old : Known) (command : Command) (status : Status) (before : Option (List ℕ)) → Unanswered status → (commands : List Command) → LeavesPlayed setting files old (command ∷ commands) status before before
none-answered setting None old command status before stops commands = tt
none-answered setting (Some files) old command status before stops commands =
    none-leaves (played setting files old (command ∷ commands)) status before (played-some setting files old command commands) stops

-- no command is left
pub all-done : (setting : Setting) (files : Option Files) (known : Known) (before : Option (List ℕ)) → LeavesPlayed setting files known [] Done before before
unfolding played
all-done setting None known before = tt
all-done setting (Some files) known None = (λ is. refl, tt)
all-done setting (Some files) known (Some before) = (λ is. refl, ap Some (sym (append-nil before)))

-- ---- the whole

loosened : (stopped : Option Interruption) (pieces : List (List ℕ)) (before : List ℕ) (after : Option (List ℕ)) → TakesUpTo stopped pieces before after → TakesAfter stopped pieces before after
loosened None pieces before after takes = takes
loosened (Some Writing) pieces before after takes = takes
loosened (Some Reading) pieces before after takes = (takes.0, omega (arith, takes.1), takes.2)
loosened (Some Room) pieces before after takes = (takes.0, omega (arith, takes.1), takes.2)

pub leaves-ends : (files : Option Files) (wanted : Files → Output) (status : Status) (before after : Option (List ℕ)) → Leaves files wanted status before after → IfSome files (λ all. EndsAs status (wanted all).status)
leaves-ends None wanted status before after left = tt
leaves-ends (Some files) wanted status before after left = left.0

pub leaves-takes : (files : Option Files) (wanted : Files → Output) (status : Status) (before after : Option (List ℕ)) → Leaves files wanted status before after → IfSome files (λ all. IfSome before (λ old. Takes status (wanted all).pieces old after))
leaves-takes None wanted status before after left = tt
leaves-takes (Some files) wanted status None after left = tt
leaves-takes (Some files) wanted status (Some before) after left = loosened (interruption_of status) (wanted files).pieces before after left.1

-- what stands in front still does after more is taken
pub front-on : (first between after : Option (List ℕ)) → IfSome first (λ old. StandsInFront old between) → IfSome between (λ old. StandsInFront old after) → IfSome first (λ old. StandsInFront old after)
front-on None between after before more = tt
front-on (Some first) None after before more = let is = before.1 in absurd (cc)
front-on (Some first) (Some between) after before more = (before.0 ++ more.0, more.1 ∙ ap Some (ap (λ taken. taken ++ more.0) (just between (first ++ before.0) before.1) ∙ append_assoc first before.0 more.0))
