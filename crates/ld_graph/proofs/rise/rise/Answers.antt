use Rattle.std.proofs.Common.{◌≡◌, ◌∙◌, ◌<◌, ◌*◌, ℕ, suc, min, false, ⊎_elim, get_or, length, sym, subst, ap, ap₂, arith, length-set, get_or-set_other}
use Rattle.ld_graph.specs.Inside.Marking.{IsMarked, Marked}
use Rattle.ld_graph.specs.Inside.Rising.{IsSettled, slack}
use Rattle.ld_graph.specs.Items.{web_of}
use Rattle.ld_graph.specs.Web.{Refers}
use Rattle.ld_graph.proofs.Referring.{known_file, refers_name}
use Rattle.ld_graph.proofs.Rising.{all_right, floor_still, settled_still, settled_taken, work_falls}
use Rattle.ld_graph.proofs.rise.rise.Goals as goal

pub loop-text-preserved : goal.loop-text-preserved
loop-text-preserved c =
    let items = c.args.links.now.items in
    let web = web_of items in
    let cap = c.args.cap in
    let text = c.in-Some.text in
    let old = c.loop-text.heights.items in
    let new = c.lift_users.new.heights.items in
    let marks = c.loop-text.marks in
    let taken = c.take_last.new.self in
    let after = c.lift_users.new.marks in
    let before = c.loop-text.invariant in
    let did = c.lift_users.ensures in
    let size : length taken.marks ≡ length marks.marks = ap length c.in-Some.ensures.marks ∙ length-set marks.marks text false in
    let kept : (other : ℕ) → (other ≡ text → ⊥) → IsMarked marks other → IsMarked taken other = λ other differs m. ap (λ ms. get_or ms other false) c.in-Some.ensures.marks ∙ get_or-set_other marks.marks text other false false differs ∙ m in
    let lt : text < length items = (let w = c.in-Some.ensures.within in omega (arith, w, before.marks)) in
    let file = known_file items text lt in
    record {
      size = did.raises.size ∙ before.size;
      marks = did.raises.marks ∙ size ∙ before.marks;
      below = did.below;
      floors = λ one. floor_still cap old new taken after did.raises web one (before.floors one);
      settled = λ user child r. ⊎_elim
          (λ same.
          let name = refers_name c.file_laws.ensures.same items user text file.0 file.1 (subst (λ t. Refers web user t) same r) in
          subst (λ t. IsSettled cap new after user t) (sym same) (did.settled user text (record { file = file.0; file_is = file.1; uses = name.0; finds = name.1 })))
          (λ was. settled_still cap old new taken after did.raises user child was)
          (settled_taken cap old marks taken text kept user child (before.settled user child r));
    }

pub loop-text-smaller : goal.loop-text-smaller
loop-text-smaller c =
    let cap = c.args.cap in
    let marks = c.loop-text.marks in
    let taken = c.take_last.new.self in
    let after = c.lift_users.new.marks in
    let raises = c.lift_users.ensures.raises in
    let shorter = c.in-Some.ensures.shorter in
    let few = c.in-Some.ensures.few in
    let size : length after.marks ≡ length marks.marks = raises.marks ∙ ap length c.in-Some.ensures.marks ∙ length-set marks.marks c.in-Some.text false in
    ⊎_elim
    (λ same.
    let work : slack cap c.lift_users.new.heights.items * suc (length after.marks) ≡ slack cap c.loop-text.heights.items * suc (length marks.marks) = ap₂ (λ s m. s * suc m) (ap (slack cap) same.0) size in
    let list = ap (λ (m : Marked). length m.list) same.1 in
    omega (arith, work, list, shorter, few, size))
    (λ falls.
    let h = work_falls (length marks.marks) (slack cap c.loop-text.heights.items) (slack cap c.lift_users.new.heights.items) (min (length marks.list) (length marks.marks)) (min (length after.list) (length marks.marks)) falls (omega arith) in
    rw size h)
    raises.falls

pub returns-clause-right : goal.returns-clause-right
returns-clause-right c =
    let before = c.loop-text.invariant in
    all_right (web_of c.args.links.now.items) c.args.cap c.loop-text.heights.items before.below before.floors
    (λ text child r. ⊎_elim (λ m. absurd (c.in_default.ensures.unmarked child m)) (λ le. le) (before.settled text child r))
