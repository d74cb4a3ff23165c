use Rattle.std.proofs.Common.{[], ◌∷◌, sym, subst, Err}
use Rattle.ld_mpd.specs.Blocks.{texts_in}
use Rattle.ld_names.specs.Standing.{file_in}
use Rattle.ld_names.specs.declared.file.Folder.TheVariants.{Model}
use Rattle.ld_engine.specs.Loading.{load_refused, LoadsBehind}
use Rattle.ld_engine.specs.Workspace.{Workspace}
use Rattle.ld_engine.proofs.Loaded.{refusal-loads}
use Rattle.ld_engine.proofs.workspace.Workspace.load_block.Goals as goal

pub returns-clause-loads : goal.returns-clause-loads
returns-clause-loads c =
    let inside = c.self.inside in
    let texts = texts_in (c.args.block ∷ []) in
    let loads = refusal-loads inside.limits inside.texts.known c.prepare_file.new.self.known c.args.block c.in-Err.error (file_in (Model 1) c.args.block.name) inside.texts.max_files inside.texts.max_weight c.self.invariant.files c.self.invariant.weight c.if-block.false c.in-Err.ensures.result in
    subst (λ r. LoadsBehind c.args.self.now.limits c.args.self.now.texts.known texts c.prepare_file.new.self.known (Err r)) (sym c.refused.ensures) (subst (λ (w : Workspace). LoadsBehind w.limits w.texts.known texts c.prepare_file.new.self.known (Err (load_refused c.in-Err.error))) c.self.view_is loads)
