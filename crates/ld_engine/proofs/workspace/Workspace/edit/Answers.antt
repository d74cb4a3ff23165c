use Rattle.std.proofs.Common.{subst, sym, Err}
use Rattle.std.specs.Prelude.{IfSome}
use Rattle.ld_engine.specs.Editing.{EditStands, Edits, EditsKnown, EditsTold}
use Rattle.ld_engine.specs.Learning.{text_on}
use Rattle.ld_engine.specs.declared.limits.Limits.{Limits}
use Rattle.ld_engine.proofs.Edits.{ends-known, ends-stopped, known-stopped, stands-known, stands-stopped, still-known, told-known, told-stopped}
use Rattle.ld_engine.proofs.workspace.Workspace.edit.Goals as goal

pub returns-in-Ok-clause-edits : goal.returns-in-Ok-clause-edits
returns-in-Ok-clause-edits g c =
    let limits = c.args.self.now.limits in
    let edit = c.args.edit.now in
    let known = c.learn_named.new.self.texts.known in
    let new = c.edit_known.new.self.texts.known in
    let edits = subst (λ (l : Limits). EditsKnown l edit known new c.edit_known.result) c.in-Ok.ensures.limits c.edit_known.ensures.edits in
    record { known = known; learns = c.in-Ok.ensures.learns; ends = ends-known limits edit known new c.edit_known.result c.in-Ok.ensures.learnt edits }

pub returns-in-Ok-clause-known : goal.returns-in-Ok-clause-known
returns-in-Ok-clause-known g c =
    let known = c.learn_named.new.self.texts.known in
    let new = c.edit_known.new.self.texts.known in
    let edits = subst (λ (l : Limits). EditsKnown l c.args.edit.now known new c.edit_known.result) c.in-Ok.ensures.limits c.edit_known.ensures.edits in
    still-known c.args.self.now.limits c.args.edit.now c.args.self.now.texts.known known new c.edit_known.result c.in-Ok.ensures.learns edits

pub returns-in-Ok-clause-told : goal.returns-in-Ok-clause-told
returns-in-Ok-clause-told g c =
    let known = c.learn_named.new.self.texts.known in
    let new = c.edit_known.new.self.texts.known in
    let edits = subst (λ (l : Limits). EditsKnown l c.args.edit.now known new c.edit_known.result) c.in-Ok.ensures.limits c.edit_known.ensures.edits in
    told-known c.args.self.now.limits c.args.edit.now c.args.self.now.texts.known known new (g.S.Shelf.files c.args.shelf.now) c.edit_known.result c.in-Ok.ensures.learnt edits c.in-Ok.ensures.told

pub returns-in-Ok-clause-stands : goal.returns-in-Ok-clause-stands
returns-in-Ok-clause-stands g c =
    let known = c.learn_named.new.self.texts.known in
    let new = c.edit_known.new.self.texts.known in
    let edits = subst (λ (l : Limits). EditsKnown l c.args.edit.now known new c.edit_known.result) c.in-Ok.ensures.limits c.edit_known.ensures.edits in
    stands-known c.args.self.now.limits c.args.edit.now c.number_law.ensures c.known_law.ensures.stays c.edit_law.ensures c.args.self.now.texts.known known new (g.S.Shelf.files c.args.shelf.now) c.edit_known.result c.in-Ok.ensures.learnt edits c.in-Ok.ensures.told

pub returns-in-Err-clause-edits : goal.returns-in-Err-clause-edits
returns-in-Err-clause-edits g c =
    let limits = c.args.self.now.limits in
    let edit = c.args.edit.now in
    let known = c.learn_named.new.self.texts.known in
    subst (λ e. Edits limits edit c.args.self.now.texts.known known (Err e)) (sym c.stopped_by.ensures) (record { known = known; learns = c.in-Err.ensures.learns; ends = ends-stopped limits edit known c.in-Err.stop c.in-Err.ensures.wants c.in-Err.ensures.stops })

pub returns-in-Err-clause-known : goal.returns-in-Err-clause-known
returns-in-Err-clause-known g c are =
    let old = c.args.self.now.texts.known in
    let known = c.learn_named.new.self.texts.known in
    subst (λ e. EditsKnown c.args.self.now.limits c.args.edit.now old known (Err e)) (sym c.stopped_by.ensures) (known-stopped c.args.self.now.limits c.args.edit.now old known c.in-Err.stop c.in-Err.ensures.learns c.in-Err.ensures.wants are)

pub returns-in-Err-clause-told : goal.returns-in-Err-clause-told
returns-in-Err-clause-told g c =
    let old = c.args.self.now.texts.known in
    let known = c.learn_named.new.self.texts.known in
    subst (λ e. IfSome (g.S.Shelf.files c.args.shelf.now) (λ files. EditsTold c.args.self.now.limits files c.args.edit.now old known (Err e))) (sym c.stopped_by.ensures) (told-stopped c.args.self.now.limits c.args.edit.now old known (g.S.Shelf.files c.args.shelf.now) c.in-Err.stop c.in-Err.ensures.told)

pub returns-in-Err-clause-stands : goal.returns-in-Err-clause-stands
returns-in-Err-clause-stands g c =
    let old = c.args.self.now.texts.known in
    let known = c.learn_named.new.self.texts.known in
    subst (λ e. IfSome (g.S.Shelf.files c.args.shelf.now) (λ files. EditStands (text_on files) c.args.edit.now old known (Err e))) (sym c.stopped_by.ensures) (stands-stopped c.args.self.now.limits c.args.edit.now c.number_law.ensures c.known_law.ensures.stays c.edit_law.ensures old known (g.S.Shelf.files c.args.shelf.now) c.in-Err.stop c.in-Err.ensures.told)
