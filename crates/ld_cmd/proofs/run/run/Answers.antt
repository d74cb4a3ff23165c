use Rattle.std.proofs.Common.{◌∙◌, Err, ap, arith, map, refl, string_bytes}
use Rattle.ld_words.specs.Words.{intent_of, usage_line}
use Rattle.ld_cmd.specs.Output.{output}
use Rattle.ld_cmd.specs.Replying.{session_output}
use Rattle.ld_cmd.specs.declared.status.Status.TheVariants.{Memory, ReadFault, Usage}
use Rattle.ld_cmd.proofs.Endings.{complete_where_told, in-grammar, none-in_front, none-lost, none-put, none-taken, same_ends, same_takes, stopped-ends, unput-same, unput-told, usage-elsewhere, usage_ends, usage_takes, usage-told}
use Rattle.ld_cmd.proofs.Risen.{risen-on}
use Rattle.ld_cmd.proofs.run.run.Goals as goal

pub returns-then-not-is_command-clause-status : goal.returns-then-not-is_command-clause-status
returns-then-not-is_command-clause-status g c =
    let words = map string_bytes c.args.words.now in
    let files = g.S.Shelf.files c.args.shelf.now in
    usage_ends c.put_last.result (output words) files (usage-told words files c.is_command.result c.is_command.ensures c.if-not-is_command.true) c.put_last.ensures.status

pub returns-then-not-is_command-clause-taken : goal.returns-then-not-is_command-clause-taken
returns-then-not-is_command-clause-taken g c =
    let words = map string_bytes c.args.words.now in
    let files = g.S.Shelf.files c.args.shelf.now in
    usage_takes c.put_last.result (output words) files (g.K.Sink.taken c.args.out.now) (g.K.Sink.taken c.put_last.new.out) (usage-told words files c.is_command.result c.is_command.ensures c.if-not-is_command.true) c.put_last.ensures.taken

pub returns-then-not-is_command-clause-complete : goal.returns-then-not-is_command-clause-complete
returns-then-not-is_command-clause-complete g c = λ read written.
    let words = map string_bytes c.args.words.now in
    let files = g.S.Shelf.files c.args.shelf.now in
    let usage = usage-told words files c.is_command.result c.is_command.ensures c.if-not-is_command.true in
    let ends = usage_ends c.put_last.result (output words) files usage c.put_last.ensures.status in
    let takes = usage_takes c.put_last.result (output words) files (g.K.Sink.taken c.args.out.now) (g.K.Sink.taken c.put_last.new.out) usage c.put_last.ensures.taken in
    complete_where_told c.put_last.result (output words) files (g.K.Sink.taken c.args.out.now) (g.K.Sink.taken c.put_last.new.out) ends takes c.put_last.ensures.never_read (λ is. written (c.put_last.ensures.cause is))

pub returns-then-not-is_command-clause-unput : goal.returns-then-not-is_command-clause-unput
returns-then-not-is_command-clause-unput g c =
    let words = map string_bytes c.args.words.now in
    unput-told c.args.out.now c.put_last.new.out usage_line Usage (output words) (g.S.Shelf.files c.args.shelf.now) (usage-told words (g.S.Shelf.files c.args.shelf.now) c.is_command.result c.is_command.ensures c.if-not-is_command.true) c.put_last.ensures.unput

pub returns-in-Ok-Play : goal.returns-in-Ok-Play
returns-in-Ok-Play g c =
    let words = map string_bytes c.args.words.now in
    let files = g.S.Shelf.files c.args.shelf.now in
    let before = g.K.Sink.taken c.args.out.now in
    let after = g.K.Sink.taken c.play.new.out in
    let some = in-grammar (intent_of words) c.is_command.result c.is_command.ensures c.if-not-is_command.false in
    let made = session_output c.in-Ok-Play.session in
    let told = rw c.in-Ok-Play.field-0-is at c.in-Ok-Play.ensures.told in
    let ends = same_ends c.play.result made (output words) files told (rw c.make_work.ensures.shelf.same at c.play.ensures.status) in
    let takes = same_takes c.play.result made (output words) files before after told (rw c.make_work.ensures.shelf.same at c.play.ensures.taken) in
    record {
      status = ends;
      taken = takes;
      complete = λ read written. complete_where_told c.play.result (output words) files before after ends takes (λ is. read (risen-on _ _ _ c.make_work.ensures.shelf.never_falls (c.play.ensures.shelf.cause is))) (λ is. written (c.play.ensures.write_cause is));
      usage = usage-elsewhere (intent_of words) c.play.result some c.play.ensures.no_usage;
      usage_taken = λ none. absurd (some none);
      usage_unread = λ none. absurd (some none);
      shelf = record {
        same = c.play.ensures.shelf.same ∙ c.make_work.ensures.shelf.same;
        never_falls = omega (arith, c.make_work.ensures.shelf.never_falls, c.play.ensures.shelf.never_falls);
        cause = λ is. risen-on _ _ _ c.make_work.ensures.shelf.never_falls (c.play.ensures.shelf.cause is);
      };
      write_cause = c.play.ensures.write_cause;
      nothing = λ once. absurd (rw c.in-Ok-Play.field-0-is at (c.in-Ok-Play.ensures.once once));
      unput = unput-same c.args.out.now c.play.new.out made (output words) files told (rw c.make_work.ensures.shelf.same at c.play.ensures.unput);
      in_front = c.play.ensures.in_front;
      told_same = c.play.ensures.told_same;
      sink_faults = c.play.ensures.sink_faults;
    }

pub returns-in-Err-ReadFault : goal.returns-in-Err-ReadFault
returns-in-Err-ReadFault g c =
    let words = map string_bytes c.args.words.now in
    let files = g.S.Shelf.files c.args.shelf.now in
    let before = g.K.Sink.taken c.args.out.now in
    let some = in-grammar (intent_of words) c.is_command.result c.is_command.ensures c.if-not-is_command.false in
    let risen = c.in-Err-ReadFault.ensures.shelf.cause (ap Err c.in-Err-ReadFault.field-0-is) in
    record {
      status = stopped-ends ReadFault (output words) files (λ whole. absurd (cc));
      taken = none-taken (output words) files before;
      complete = λ read written. absurd (read risen);
      usage = usage-elsewhere (intent_of words) ReadFault some (λ is. absurd (cc));
      usage_taken = λ none. absurd (some none);
      usage_unread = λ none. absurd (some none);
      shelf = record { same = c.make_work.ensures.shelf.same; never_falls = c.make_work.ensures.shelf.never_falls; cause = λ is. risen };
      write_cause = λ is. absurd (cc);
      nothing = λ once. none-lost before;
      unput = none-put c.args.out.now (output words) files;
      in_front = none-in_front before;
      told_same = refl;
      sink_faults = omega arith;
    }

pub returns-in-Err-Memory : goal.returns-in-Err-Memory
returns-in-Err-Memory g c =
    let words = map string_bytes c.args.words.now in
    let files = g.S.Shelf.files c.args.shelf.now in
    let before = g.K.Sink.taken c.args.out.now in
    let some = in-grammar (intent_of words) c.is_command.result c.is_command.ensures c.if-not-is_command.false in
    let ends = stopped-ends Memory (output words) files (λ whole. absurd (cc)) in
    let takes = none-taken (output words) files before in
    record {
      status = ends;
      taken = takes;
      complete = λ read written. complete_where_told Memory (output words) files before before ends takes (λ is. absurd (cc)) (λ is. absurd (cc));
      usage = usage-elsewhere (intent_of words) Memory some (λ is. absurd (cc));
      usage_taken = λ none. absurd (some none);
      usage_unread = λ none. absurd (some none);
      shelf = record { same = c.make_work.ensures.shelf.same; never_falls = c.make_work.ensures.shelf.never_falls; cause = λ is. absurd (cc) };
      write_cause = λ is. absurd (cc);
      nothing = λ once. none-lost before;
      unput = none-put c.args.out.now (output words) files;
      in_front = none-in_front before;
      told_same = refl;
      sink_faults = omega arith;
    }
