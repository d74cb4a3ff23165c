use Rattle.std.proofs.Common.{◌≡◌, ◌∙◌, ◌∷◌, Err, ap, arith, length}
use Rattle.std.proofs.lemmas.List.{nil_from_length}
use Rattle.ld_cmd.specs.declared.status.Status.TheVariants.{Done}
use Rattle.ld_cmd.proofs.Leaves.{all-done, front-on}
use Rattle.ld_cmd.proofs.Risen.{risen-on}
use Rattle.ld_cmd.proofs.replay.answer_all.Goals as goal

pub returns-clause-leaves : goal.returns-clause-leaves
returns-clause-leaves g c =
    let empty = nil_from_length c.loop-command.rest.now c.in_default.ensures.cases in
    c.loop-command.invariant.leaves Done (g.K.Sink.taken c.loop-command.out) (rw empty (all-done _ _ _ _))

pub returns-clause-unput : goal.returns-clause-unput
returns-clause-unput g c = λ empty. c.loop-command.invariant.unput (omega (arith, c.in_default.ensures.cases, ap length empty))

pub returns-in-Err : goal.returns-in-Err
returns-in-Err g c =
    let before = c.loop-command.invariant in
    let rest : c.loop-command.rest.now ≡ c.in-Some.command.now ∷ c.in-Some.more.now = c.in-Some.ensures.cases.0 in
    record {
      leaves = before.leaves c.in-Err.status (g.K.Sink.taken c.answer_command.new.out) (rw rest (c.in-Err.ensures.stops c.in-Some.more.now));
      in_front = front-on (g.K.Sink.taken c.args.out.now) (g.K.Sink.taken c.loop-command.out) (g.K.Sink.taken c.answer_command.new.out) before.in_front c.answer_command.ensures.in_front;
      no_usage = λ is. c.in-Err.ensures.no_usage (ap Err is);
      unput = λ empty. absurd (omega (arith, before.few, ap length rest, ap length empty));
      shelf = record {
        same = c.answer_command.ensures.shelf.same ∙ before.same;
        never_falls = omega (arith, before.read, c.answer_command.ensures.shelf.never_falls);
        cause = λ is. risen-on _ _ _ before.read (c.in-Err.ensures.shelf.cause (ap Err is));
      };
      write_cause = λ is. risen-on _ _ _ before.written (c.in-Err.ensures.write_cause (ap Err is));
      told_same = c.answer_command.ensures.told_same ∙ before.told_same;
      sink_faults = omega (arith, before.written, c.answer_command.ensures.sink_faults);
    }

pub loop-command-preserved : goal.loop-command-preserved
loop-command-preserved g c =
    let before = c.loop-command.invariant in
    let rest : c.loop-command.rest.now ≡ c.in-Some.command.now ∷ c.in-Some.more.now = c.in-Some.ensures.cases.0 in
    record {
      limits = c.answer_command.ensures.limits ∙ before.limits;
      few = omega (arith, before.few, ap length rest);
      unput = λ all. absurd (omega (arith, before.few, ap length rest, all));
      same = c.answer_command.ensures.shelf.same ∙ before.same;
      told_same = c.answer_command.ensures.told_same ∙ before.told_same;
      read = omega (arith, before.read, c.answer_command.ensures.shelf.never_falls);
      written = omega (arith, before.written, c.answer_command.ensures.sink_faults);
      in_front = front-on (g.K.Sink.taken c.args.out.now) (g.K.Sink.taken c.loop-command.out) (g.K.Sink.taken c.answer_command.new.out) before.in_front c.answer_command.ensures.in_front;
      leaves = λ status after left. before.leaves status after (rw rest (c.in-Ok.ensures.goes_on c.in-Some.more.now status after left));
    }
