use Rattle.std.proofs.Common.{◌∙◌, ℕ, max, get_or, sym, ap, arith}
use Rattle.std.specs.Option.{option_map_or}
use Rattle.ld_graph.specs.Inside.Linking.{found_at}
use Rattle.ld_graph.proofs.FoundBy.{tallest-found_more}
use Rattle.ld_graph.proofs.links.tallest_found.Goals as goal

pub loop-key-preserved : goal.loop-key-preserved
loop-key-preserved c =
    let heights = λ (text : ℕ). get_or c.args.heights.now text 0 in
    let i = c.loop-key.key-index in
    let keys = c.args.keys.now in
    let find = found_at c.args.nodes.now c.args.texts.now c.args.from in
    let most = c.loop-key.most in
    let e = tallest-found_more heights find keys i (omega arith) in
    let first = c.max-most.ensures ∙ ap (λ h. max h most) c.height_found.ensures in
    let second = ap (λ m. max (option_map_or heights (find (get_or keys i 0)) 0) m) c.loop-key.invariant in
    first ∙ second ∙ sym e
