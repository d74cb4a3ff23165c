-- What the code's values say of a script and of the replies to its commands.
use Rattle.std.specs.Prelude.{◌≡◌, ℕ, List, Option, Some, None, Result, Ok, Err, codes, ⊤}
use Rattle.ld_io.specs.Shelf.{Files}
use Rattle.ld_names.specs.Standing.{Known}
use Rattle.ld_colour.specs.Table.{counting}
use Rattle.ld_engine.specs.Learning.{TooBig, Full}
use Rattle.ld_engine.specs.declared.editing.EditError.{EditError}
use Rattle.ld_engine.specs.declared.editing.EditError.TheVariants as refused
use Rattle.ld_cmd.specs.Made.{Stops, output_of}
use Rattle.ld_cmd.specs.Playing.{Setting, Replied, Reply, Ends, limited, played, refusal_text}
use Rattle.ld_cmd.specs.Written.{Output}
use Rattle.ld_cmd.specs.declared.made.Stop.{Stop}
use Rattle.ld_cmd.specs.declared.made.Stop.TheVariants.{Decided, ReadFault, Memory}
use Rattle.ld_cmd.specs.declared.status.Status.TheVariants.{Limit}
use Rattle.ld_cmd.specs.declared.session.Session.{Session}
use Rattle.ld_cmd.specs.declared.session.Setting.{Setting as Held}
use Rattle.ld_cmd.specs.declared.session.Work.{Work}
use Rattle.ld_cmd.specs.declared.session.Work.TheVariants.{Write, Play}

abbrev pub setting_shown : Held → Setting
setting_shown s = record { limits = s.limits; table = counting s.table; main = s.main; colour = s.colour }

-- the replies to the commands of a script
abbrev pub session_output : Session → Files → Output
session_output session files = played (setting_shown session.setting) files session.workspace.texts.known session.commands.items

-- the script is ready, and its replies are this output, unless reading or memory stopped the run
abbrev pub OpensSession : Output → Files → Result Session Stop → Type 0
OpensSession wanted files (Ok session) = session_output session files ≡ wanted
OpensSession wanted files (Err stop) = Stops wanted stop

-- what is to be written or answered comes to this output, unless reading or memory stopped the run
abbrev pub Works : Output → Files → Result Work Stop → Type 0
Works wanted files (Ok (Write made)) = output_of made ≡ wanted
Works wanted files (Ok (Play session)) = session_output session files ≡ wanted
Works wanted files (Err stop) = Stops wanted stop

-- no script is to be answered
abbrev pub IsNoScript : Result Work Stop → Type 0
IsNoScript (Ok (Play session)) = ⊥
IsNoScript result = ⊤

-- the reply of a step, with what is known then, or the line of a limit; unless reading or memory stopped the run
abbrev pub Replies : Replied → Known → Result (List ℕ) Stop → Type 0
Replies wanted known (Ok reply) = wanted ≡ Reply reply known
Replies wanted known (Err (Decided made)) = (wanted ≡ Ends made.text.items) × (made.status ≡ Limit)
Replies wanted known (Err ReadFault) = ⊤
Replies wanted known (Err Memory) = ⊤

-- the step of an edit, by what a workspace answers and what is known then; nothing where reading or memory stopped it
abbrev pub edit_given : Known → Result Unit EditError → Option Replied
edit_given known (Ok done) = Some (Reply (codes "ok\n") known)
edit_given known (Err (refused.Refused refusal)) = Some (Reply (refusal_text refusal) known)
edit_given known (Err (refused.TooBig file)) = Some (limited (TooBig file))
edit_given known (Err (refused.Full over)) = Some (limited (Full over))
edit_given known (Err refused.ReadFault) = None
edit_given known (Err refused.Memory) = None
