use Rattle.std.proofs.Common.{◌<◌, [], get_or, length, refl, arith}
use Rattle.std.proofs.lemmas.List.{get_or_default}
use Rattle.ld_graph.specs.Items.{web_of}
use Rattle.ld_graph.proofs.Marked.{longer_len, more_more, more_none}
use Rattle.ld_graph.proofs.Upward.{closed_step, leads_step, listed_marked, listed_short, marked_iff}
use Rattle.ld_graph.proofs.up.mark_up.Goals as goal

pub loop-at-init : goal.loop-at-init
loop-at-init c = record {
  more = more_none c.args.marks.now;
  at = omega arith;
  closed = λ k lt. absurd (omega arith);
  leads = λ text m. ([], tt, m);
}

pub loop-at-preserved : goal.loop-at-preserved
loop-at-preserved c =
    let web = web_of c.args.links.now.items in
    let old = c.loop-at.marks in
    let new = c.mark_parents.new.marks in
    let at = c.loop-at.at in
    let text = get_or old.list at 0 in
    let lt : at < length old.list = rw (← c.listed.ensures.list) c.loop-at-test.true in
    let marked = rw c.listed-in-loop-at.ensures.list at c.mark_parents.ensures.marked in
    let only = rw c.listed-in-loop-at.ensures.list at c.mark_parents.ensures.only in
    let more = c.mark_parents.ensures.more in
    let inv = c.loop-at.invariant in
    let here = listed_marked old at text c.listed.ensures.listed lt (get_or_default old.list at 0 text lt) in
    record {
      more = more_more c.args.marks.now old new inv.more more;
      at = let n = longer_len old new more in omega arith;
      closed = closed_step web old new at text more lt refl inv.closed marked;
      leads = leads_step web c.args.marks.now old new text inv.leads here.0 only;
    }

pub mark_parents-requires-clause-text : goal.mark_parents-requires-clause-text
mark_parents-requires-clause-text c =
    let old = c.loop-at.marks in
    let at = c.loop-at.at in
    let text = get_or old.list at 0 in
    let lt : at < length old.list = rw (← c.listed.ensures.list) c.loop-at-test.true in
    let here = listed_marked old at text c.listed.ensures.listed lt (get_or_default old.list at 0 text lt) in
    rw c.listed-in-loop-at.ensures.list (omega (arith, here.1, c.loop-at.invariant.more.size, c.requires.size))

pub returns-clause-marked : goal.returns-clause-marked
returns-clause-marked c =
    let marks = c.loop-at.marks in
    let end = rw c.listed.ensures.list at c.loop-at-test.false in
    let inv = c.loop-at.invariant in
    marked_iff (web_of c.args.links.now.items) c.args.marks.now marks c.loop-at.at inv.more c.listed.ensures.listed end inv.closed inv.leads

pub loop-at-smaller : goal.loop-at-smaller
loop-at-smaller c =
    let lt : c.loop-at.at < length c.loop-at.marks.list = rw (← c.listed.ensures.list) c.loop-at-test.true in
    let short = listed_short c.loop-at.marks c.listed.ensures.listed in
    omega (arith, lt, short, c.mark_parents.ensures.more.size)
