use Rattle.std.proofs.Common.{◌≡◌, ◌<◌, length, ap, sym, subst, ◌∙◌, arith, Ok, Err, Some}
use Rattle.std.specs.Prelude.{IfSome}
use Rattle.ld_texts.specs.Learning.{Texts}
use Rattle.ld_texts.specs.declared.change.Over.TheVariants.{Files as TooMany}
use Rattle.ld_engine.specs.Fetching.{TextTold}
use Rattle.ld_engine.specs.Keeping.{Tells}
use Rattle.ld_engine.specs.Learning.{Full, Wanting, bytes_on, stopped}
use Rattle.ld_engine.specs.declared.limits.Limits.{Limits}
use Rattle.ld_engine.proofs.Learned.{err-told, full-told, if_some, kept-told}
use Rattle.ld_engine.proofs.workspace.Workspace.learn_file.Goals as goal

pub returns-then-known-limits-clause-told : goal.returns-then-known-limits-clause-told
returns-then-known-limits-clause-told g c =
    let limits = c.args.self.now.limits in
    let known = c.args.self.now.texts.known in
    let same : c.limits-limits.result.texts ≡ limits.texts = ap (λ (l : Limits). l.texts) c.limits-limits.ensures.limits in
    let full : length known ≡ limits.texts = sym (c.known.ensures.count ∙ ap (λ (t : Texts). length t.known) c.texts.ensures.texts) ∙ c.if-known-limits.true ∙ same in
    if_some (g.S.Shelf.files c.args.shelf.now) (λ files wants next. full-told limits files wants c.args.file known next full ∙ ap (λ n. stopped known (Full (TooMany n))) (sym same))

pub returns-in-Ok-clause-told : goal.returns-in-Ok-clause-told
returns-in-Ok-clause-told g c =
    let limits = c.args.self.now.limits in
    let known = c.args.self.now.texts.known in
    let count : c.known.result ≡ length known = c.known.ensures.count ∙ ap (λ (t : Texts). length t.known) c.texts.ensures.texts in
    let same : c.limits-limits.result.texts ≡ limits.texts = ap (λ (l : Limits). l.texts) c.limits-limits.ensures.limits in
    let most : c.texts.result.now.max_files ≡ limits.texts = ap (λ (t : Texts). t.max_files) c.texts.ensures.texts ∙ c.texts.ensures.files in
    let within = c.known.ensures.within in
    let few : length known < limits.texts = omega (arith, c.if-known-limits.false) in
    kept-told limits known c.keep.new.self.texts.known c.args.file few (g.S.Shelf.files c.args.shelf.now) c.in-Ok.text c.keep.result (subst (λ (l : Limits). IfSome (g.S.Shelf.files c.args.shelf.now) (λ files. TextTold c.args.file (bytes_on files c.args.file) l.file_bytes (Ok c.in-Ok.text))) c.limits-limits.ensures.limits c.in-Ok.ensures.told) c.keep.ensures.keeps

pub returns-in-Err-clause-told : goal.returns-in-Err-clause-told
returns-in-Err-clause-told g c =
    let limits = c.args.self.now.limits in
    let known = c.args.self.now.texts.known in
    let count : c.known.result ≡ length known = c.known.ensures.count ∙ ap (λ (t : Texts). length t.known) c.texts.ensures.texts in
    let same : c.limits-limits.result.texts ≡ limits.texts = ap (λ (l : Limits). l.texts) c.limits-limits.ensures.limits in
    let most : c.texts.result.now.max_files ≡ limits.texts = ap (λ (t : Texts). t.max_files) c.texts.ensures.texts ∙ c.texts.ensures.files in
    let within = c.known.ensures.within in
    let few : length known < limits.texts = omega (arith, c.if-known-limits.false) in
    let told = err-told limits known known c.args.file few (g.S.Shelf.files c.args.shelf.now) c.in-Err.stop (subst (λ (l : Limits). IfSome (g.S.Shelf.files c.args.shelf.now) (λ files. TextTold c.args.file (bytes_on files c.args.file) l.file_bytes (Err c.in-Err.stop))) c.limits-limits.ensures.limits c.in-Err.ensures.told) in
    subst (λ s. IfSome (g.S.Shelf.files c.args.shelf.now) (λ files. (wants : Wanting) → wants known ≡ Some c.args.file → Tells limits files wants known known (Err s))) (sym c.stopped_by.ensures) told
