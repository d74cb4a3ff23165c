use Rattle.std.proofs.Common.{◌≡◌, get_or, filter_map, arith}
use Rattle.ld_graph.specs.Inside.Linking.{found_at}
use Rattle.ld_graph.specs.Web.{tallest}
use Rattle.ld_graph.proofs.Linked.{got, over_absent, over_right}
use Rattle.ld_graph.proofs.links.Links.over.Goals as goal

pub returns-in_default-names : goal.returns-in_default-names
returns-in_default-names c =
    let texts = c.self.inside.texts.items in
    let one = got texts c.deref.result.now c.args.text c.in-Some.known.now c.deref.ensures.value c.in-Some.ensures.lookup.0 c.in-Some.ensures.lookup.1 in
    let e = over_absent c.self.inside.nodes c.self.inside.keys.entries texts c.self.invariant c.args.text c.in-Some.known.now (λ other. get_or c.args.heights.now other 0) one c.in_default-names.is in
    rw (← c.self.view_is) (omega (arith, e))

pub returns-then-most-cap : goal.returns-then-most-cap
returns-then-most-cap c =
    let texts = c.self.inside.texts.items in
    let one = got texts c.deref.result.now c.args.text c.in-Some.known.now c.deref.ensures.value c.in-Some.ensures.lookup.0 c.in-Some.ensures.lookup.1 in
    let e = over_right c.self.inside.nodes c.self.inside.keys.entries texts c.self.invariant c.args.text c.args.cap c.in-Some.known.now c.in-Some-names.names (λ other. get_or c.args.heights.now other 0) one c.in-Some-names.is in
    let most : c.tallest_found-most.result ≡ tallest (λ other. get_or c.args.heights.now other 0) (filter_map (found_at c.self.inside.nodes texts c.in-Some.known.now.folder) c.in-Some-names.names.items) = rw (c.deref-2.ensures.value, c.deref-3.ensures.value) at c.tallest_found-most.ensures in
    rw (← c.self.view_is) (omega (arith, e, most, c.if-most-cap.true))

pub returns-else-most-cap : goal.returns-else-most-cap
returns-else-most-cap c =
    let texts = c.self.inside.texts.items in
    let one = got texts c.deref.result.now c.args.text c.in-Some.known.now c.deref.ensures.value c.in-Some.ensures.lookup.0 c.in-Some.ensures.lookup.1 in
    let e = over_right c.self.inside.nodes c.self.inside.keys.entries texts c.self.invariant c.args.text c.args.cap c.in-Some.known.now c.in-Some-names.names (λ other. get_or c.args.heights.now other 0) one c.in-Some-names.is in
    let most : c.tallest_found-most.result ≡ tallest (λ other. get_or c.args.heights.now other 0) (filter_map (found_at c.self.inside.nodes texts c.in-Some.known.now.folder) c.in-Some-names.names.items) = rw (c.deref-2.ensures.value, c.deref-3.ensures.value) at c.tallest_found-most.ensures in
    rw (← c.self.view_is) (omega (arith, e, most, c.if-most-cap.false))
