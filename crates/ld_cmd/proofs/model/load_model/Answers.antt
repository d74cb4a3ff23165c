use Rattle.ld_cmd.proofs.model.load_model.Goals as goal

pub returns-in-Ok-clause-first : goal.returns-in-Ok-clause-first
returns-in-Ok-clause-first c =
    c.first_law.ensures.loaded c.args.workspace.now.limits c.args.own.now c.args.bytes.now c.load.new.self.texts.known c.in-Ok.main c.in-Ok.ensures.loads.0 c.in-Ok.ensures.loads.1
