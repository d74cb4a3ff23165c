-- What a command gives, by what a workspace answers.
use Rattle.std.proofs.Common.{◌≡◌, Option, Some, None, IfSome, ap, sym, ◌∙◌}
use Rattle.ld_io.specs.Shelf.{Files}
use Rattle.ld_names.specs.Standing.{Known}
use Rattle.ld_names.specs.declared.file.FileId.{FileId}
use Rattle.ld_colour.specs.Table.{Counting}
use Rattle.ld_colour.specs.declared.colour.Colour.{Colour}
use Rattle.ld_engine.specs.Learning.{learning}
use Rattle.ld_engine.specs.declared.limits.Limits.{Limits}
use Rattle.ld_cmd.specs.Playing.{query_reply, query_step}
use Rattle.ld_cmd.specs.Querying.{Queried, Queries}
use Rattle.ld_cmd.specs.declared.answer.Shown.{Shown}

pub step-told : (what : Shown) (table : Counting) (limits : Limits) (files : Files) (root : FileId) (colour : Colour) (old new : Known) (found : Option Queried) → IfSome found (λ given. Queries limits files root colour old new given) → IfSome found (λ given. query_reply what table new given ≡ query_step limits files old what table root colour)
step-told what table limits files root colour old new None is = tt
step-told what table limits files root colour old new (Some given) is =
    let all = learning limits files root old in
    ap (λ known. query_reply what table known given) (sym is.known) ∙ ap (query_reply what table all.known) (sym is.is)
