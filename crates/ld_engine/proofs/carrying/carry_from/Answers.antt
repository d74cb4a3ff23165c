use Rattle.std.proofs.Common.{◌≡◌, ◌<◌, ◌∷◌, length, arith, ◌++◌, ◌∙◌, map, drop, suc, Ok, Err, ap, sym}
use Rattle.std.proofs.Math.Seq.{drop-cons}
use Rattle.ld_entry.specs.Carrying.{above_of}
use Rattle.ld_engine.proofs.Gathered.{refused}
use Rattle.ld_engine.proofs.carrying.carry_from.Goals as goal

pub returns-in-Err-clause-carries : goal.returns-in-Err-clause-carries
returns-in-Err-clause-carries c =
    let items = c.loop-index.entries.items in
    let index = c.loop-index.index in
    let entry = c.index.result.now in
    let within : index < length items = let same = c.loop-index.invariant.same in omega arith in
    let here : drop index items ≡ entry ∷ drop (suc index) items = drop-cons items index entry within ∙ ap (λ x. x ∷ drop (suc index) items) (sym c.index.ensures) in
    let gone = refused (above_of c.args.outer.now) items index entry c.in-Err.fault _ here (sym c.in-Err.ensures) c.loop-index.invariant.carried in
    (gone.0, ap (λ es. map Ok es ++ Err c.in-Err.fault ∷ gone.0) c.truncate.ensures.items ∙ gone.1)
