use Rattle.std.proofs.Common.{◌≡◌, ◌+◌, ◌++◌, [], ◌∷◌, ap, ◌∙◌, arith, sym, take}
use Rattle.std.proofs.lemmas.List.{take_more}
use Rattle.ld_report.specs.Counting.{added_if, total}
use Rattle.ld_report.specs.Parts.{tallied, use_of, uses_in}
use Rattle.ld_report.proofs.Counts.{added_if-entries, total-added_if}
use Rattle.ld_report.proofs.parts.parts_list.Goals as goal

pub loop-entry-preserved : goal.loop-entry-preserved
loop-entry-preserved c =
    let place = c.loop-entry.entry-index in
    let entries = c.args.entries.now in
    let entry = c.entry-item.result in
    let before = c.loop-entry.counts.entries in
    let one_more : take (place + 1) entries ≡ take place entries ++ entry ∷ [] = take_more entries place entry c.loop-entry-test.true ∙ ap (λ item. take place entries ++ item ∷ []) (sym c.entry-item.is) in
    let bound = total-added_if before (use_of entry) in
    let counted = ap total c.in_ok-count_entry.ensures in
    record {
      counts = c.in_ok-count_entry.ensures ∙ ap (λ counts. added_if counts (use_of entry)) c.loop-entry.invariant.counts ∙ added_if-entries (take place entries) entry ∙ ap (λ shown. tallied (uses_in shown)) (sym one_more);
      small = omega (arith, bound, counted, c.loop-entry.invariant.small);
    }
