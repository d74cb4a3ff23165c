use Rattle.std.proofs.Common.{◌≡◌, ◌<◌, ℕ, get_or, length, arith}
use Rattle.std.proofs.lemmas.List.Elements.{Contains-get_or}
use Rattle.std.specs.List.{All, Contains}
use Rattle.ld_graph.specs.Inside.Marking.{IsListed, IsMarked, Marked}
use Rattle.ld_graph.specs.Items.{web_of}
use Rattle.ld_graph.proofs.Marked.{marked_below, on, only}
use Rattle.ld_graph.proofs.Rising.{all_floors, all_settled, lowered_below}
use Rattle.ld_graph.proofs.rise.settle.Goals as goal

within : (marked : Marked) (n : ℕ) → IsListed marked.marks marked.list → length marked.marks ≡ n → All (λ text. text < n) marked.list
within marked n listed size = λ k d lt. let m = marked_below marked.marks (get_or marked.list k d) (only marked.marks marked.list (get_or marked.list k d) listed (Contains-get_or marked.list k d lt)) in omega arith

pub lower_each-requires : goal.lower_each-requires
lower_each-requires c = rw c.listed.ensures.list (within c.args.marks.now (length c.args.heights.now.items) c.listed.ensures.listed (omega (arith, c.requires.size, c.requires.marks)))

pub lift_each-requires-clause-within : goal.lift_each-requires-clause-within
lift_each-requires-clause-within c = rw c.listed-2.ensures.list (within c.args.marks.now (length c.lower_each.new.heights.items) c.listed.ensures.listed (omega (arith, c.lower_each.ensures.size, c.requires.size, c.requires.marks)))

pub lift_each-requires-clause-below : goal.lift_each-requires-clause-below
lift_each-requires-clause-below c =
    let marked = c.args.marks.now in
    let low = rw c.listed.ensures.list at c.lower_each.ensures.low in
    let others = rw c.listed.ensures.list at c.lower_each.ensures.others in
    lowered_below (web_of c.args.links.now.items) c.args.cap c.args.heights.now.items c.lower_each.new.heights.items (IsMarked marked) (Contains marked.list) (λ text m. on marked.marks marked.list text c.listed.ensures.listed m) c.requires.others low others

pub rise-requires-clause-floors : goal.rise-requires-clause-floors
rise-requires-clause-floors c =
    let marked = c.args.marks.now in
    let lowered = rw c.listed.ensures.list at c.lower_each.ensures.others in
    let others = rw c.listed-2.ensures.list at c.lift_each.ensures.others in
    let floors = rw c.listed-2.ensures.list at c.lift_each.ensures.floors in
    all_floors (web_of c.args.links.now.items) c.args.cap c.args.heights.now.items c.lower_each.new.heights.items c.lift_each.new.heights.items marked c.listed.ensures.listed c.requires.others lowered others floors

pub rise-requires-clause-settled : goal.rise-requires-clause-settled
rise-requires-clause-settled c =
    let marked = c.args.marks.now in
    let lowered = rw c.listed.ensures.list at c.lower_each.ensures.others in
    let others = rw c.listed-2.ensures.list at c.lift_each.ensures.others in
    let settled = rw c.listed-2.ensures.list at c.lift_each.ensures.settled in
    all_settled (web_of c.args.links.now.items) c.args.cap c.args.heights.now.items c.lower_each.new.heights.items c.lift_each.new.heights.items marked c.listed.ensures.listed c.requires.others lowered others settled
