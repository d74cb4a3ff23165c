use Rattle.std.proofs.Common.{◌≡◌, ◌∙◌, min, get_or, ap, arith}
use Rattle.std.proofs.lemmas.List.{get_or_default}
use Rattle.ld_graph.specs.Inside.Rising.{height_in}
use Rattle.ld_graph.specs.Items.{web_of}
use Rattle.ld_graph.specs.Web.{over}
use Rattle.ld_graph.proofs.Rising.{at_written, below_lifted, only_one}
use Rattle.ld_graph.proofs.rise.lift_marked.Goals as goal

pub returns-then-index-high-clause-high : goal.returns-then-index-high-clause-high
returns-then-index-high-clause-high c =
    let high : c.over-high.result ≡ min c.args.cap (over (web_of c.args.links.now.items) (height_in c.args.heights.now.items) c.args.text) = c.over-high.ensures ∙ ap (λ hs. min c.args.cap (over (web_of c.args.links.now.items) (λ other. get_or hs other 0) c.args.text)) c.deref.ensures.value in
    let at = at_written c.args.heights.now.items c.args.text c.over-high.result c.requires.within in omega arith

pub returns-then-index-high-clause-below : goal.returns-then-index-high-clause-below
returns-then-index-high-clause-below c =
    let high : c.over-high.result ≡ min c.args.cap (over (web_of c.args.links.now.items) (height_in c.args.heights.now.items) c.args.text) = c.over-high.ensures ∙ ap (λ hs. min c.args.cap (over (web_of c.args.links.now.items) (λ other. get_or hs other 0) c.args.text)) c.deref.ensures.value in
    λ below. below_lifted (web_of c.args.links.now.items) c.args.cap c.args.heights.now.items _ c.args.text c.over-high.result below high (only_one c.args.heights.now.items c.args.text c.over-high.result c.requires.within)

pub returns-else-index-high-clause-high : goal.returns-else-index-high-clause-high
returns-else-index-high-clause-high c =
    let high : c.over-high.result ≡ min c.args.cap (over (web_of c.args.links.now.items) (height_in c.args.heights.now.items) c.args.text) = c.over-high.ensures ∙ ap (λ hs. min c.args.cap (over (web_of c.args.links.now.items) (λ other. get_or hs other 0) c.args.text)) c.deref.ensures.value in
    let now : c.index.result.now ≡ height_in c.args.heights.now.items c.args.text = c.index.ensures ∙ get_or_default c.args.heights.now.items c.args.text c.index.result.now 0 c.requires.within in
    omega (arith, high, now, c.if-index-high.false)
