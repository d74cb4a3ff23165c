use Rattle.std.proofs.Common.{◌≡◌, Some, sym}
use Rattle.std.specs.BTreeMap.{get}
use Rattle.std.specs.Ordering.{nat_cmp}
use Rattle.ld_work.specs.Inside.Working.{texts_of}
use Rattle.ld_work.proofs.Texts.{taken-out}
use Rattle.ld_work.proofs.parsed.ParsedTexts.take.Goals as goal

pub returns-in-Some-clause-others : goal.returns-in-Some-clause-others
returns-in-Some-clause-others c =
    taken-out (texts_of c.args.reader.now) c.args.self.now (record { texts = c.remove.new.self }) c.args.text.0 c.in-Some.ensures.updates.0 c.requires

pub returns-in-Some-clause-text : goal.returns-in-Some-clause-text
returns-in-Some-clause-text c =
    let there : get nat_cmp c.args.self.now.texts c.args.text.0 ≡ Some c.in-Some.parsed = sym c.in-Some.ensures.value in
    (c.requires c.args.text.0 c.in-Some.parsed there).0

pub returns-in-Some-clause-parsed : goal.returns-in-Some-clause-parsed
returns-in-Some-clause-parsed c =
    let there : get nat_cmp c.args.self.now.texts c.args.text.0 ≡ Some c.in-Some.parsed = sym c.in-Some.ensures.value in
    (c.requires c.args.text.0 c.in-Some.parsed there).1

pub returns-in-None-clause-others : goal.returns-in-None-clause-others
returns-in-None-clause-others c =
    taken-out (texts_of c.args.reader.now) c.args.self.now (record { texts = c.remove.new.self }) c.args.text.0 c.in-None.ensures.updates.0 c.requires
