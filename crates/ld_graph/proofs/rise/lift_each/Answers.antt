use Rattle.std.proofs.Common.{◌≡◌, ◌∙◌, ◌≤◌, ◌⊎◌, suc, min, inl, inr, ⊎_elim, below_more, sym, subst, arith, get_or}
use Rattle.std.proofs.lemmas.List.{get_or_default}
use Rattle.std.proofs.lemmas.List.Elements.{Contains-get_or}
use Rattle.std.specs.List.{Contains}
use Rattle.ld_graph.specs.Inside.Rising.{HasFloor, height_in}
use Rattle.ld_graph.specs.Items.{web_of}
use Rattle.ld_graph.specs.Web.{Refers}
use Rattle.ld_graph.proofs.Rising.{floor_over, marked_up, settled_over, settled_up}
use Rattle.ld_graph.proofs.rise.lift_each.Goals as goal

pub loop-text-preserved : goal.loop-text-preserved
loop-text-preserved c =
    let web = web_of c.args.links.now.items in
    let cap = c.args.cap in
    let list = c.args.list.now in
    let i = c.loop-text.text-index in
    let text = get_or list i 0 in
    let old = c.loop-text.heights.items in
    let new = c.lift_marked.new.heights.items in
    let before = c.loop-text.invariant in
    let did = c.lift_marked.ensures in
    let here : Contains list text = Contains-get_or list i 0 (omega arith) in
    let up = marked_up old new text did.others did.up in
    record {
      size = did.size ∙ before.size;
      below = did.below before.below;
      others = λ other. ⊎_elim (λ same. inl (subst (Contains list) (sym same) here)) (λ e. ⊎_elim inl (λ f. inr (e ∙ f)) (before.others other)) (did.others other);
      floors = below_more _ _ (λ k lt some. let f = before.floors k lt some in let u = up (get_or list k 0) in omega arith) (λ some. let f = floor_over web cap (height_in new text) (height_in old) text did.high some in f);
      settled = below_more _ _
          (λ k lt child r. settled_up cap old new (Contains list) text (get_or list k 0) child here did.others up (⊎_elim inl (λ le. inr (inr le)) (before.settled k lt child r)))
          (λ child r. settled_up cap old new (Contains list) text text child here did.others up (inr (inl (settled_over web cap (height_in new text) (height_in old) text child r did.high))));
    }

pub returns-clause-floors : goal.returns-clause-floors
returns-clause-floors c = λ text at.
    let list = c.args.list.now in
    let is : get_or list at.0 0 ≡ text = get_or_default list at.0 0 text at.1 ∙ at.2 in
    subst (HasFloor (web_of c.args.links.now.items) c.args.cap c.loop-text.heights.items) is (c.loop-text.invariant.floors at.0 (omega (arith, at.1)))

pub returns-clause-settled : goal.returns-clause-settled
returns-clause-settled c = λ text child at r.
    let list = c.args.list.now in
    let heights = c.loop-text.heights.items in
    let is : get_or list at.0 0 ≡ text = get_or_default list at.0 0 text at.1 ∙ at.2 in
    subst (λ t. Contains list child ⊎ (min c.args.cap (suc (height_in heights child)) ≤ height_in heights t)) is (c.loop-text.invariant.settled at.0 (omega (arith, at.1)) child (subst (λ t. Refers (web_of c.args.links.now.items) t child) (sym is) r))
