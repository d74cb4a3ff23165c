use Rattle.std.proofs.Common.{◌≡◌, ◌∙◌, ◌<◌, ◌^◌, ◌+◌, length, arith, ℕ, suc, add-one, inl, inr, ⊎_elim, ap, sym, subst}
use Rattle.std.specs.Option.{is_some}
use Rattle.ld_graph.specs.Changing.{NamesText}
use Rattle.ld_graph.specs.Inside.Marking.{IsListed, IsMarked}
use Rattle.ld_graph.specs.Inside.Rising.{AreRight}
use Rattle.ld_graph.specs.Items.{names_at, web_of}
use Rattle.ld_graph.specs.Seen.{IsEditOf, items_edited}
use Rattle.ld_graph.specs.contracts.changes.Editing.{the_view as editing_view}
use Rattle.ld_graph.proofs.Edited.{dirt_marked, edited_items, edited_length, gone_marks, gone_or, others_right, turned_view, went_is}
use Rattle.ld_graph.proofs.Marked.{none_marked}
use Rattle.ld_graph.proofs.graph.Graph.edit.Goals as goal

pub returns-clause-items : goal.returns-clause-items
returns-clause-items c =
    let items = c.self.inside.links.items in
    let editing = editing_view c.editing.inside in
    let apt : IsEditOf items editing = rw (← c.self.view_is, ← c.editing.view_is) at c.requires.apt in
    rw (← c.self.view_is, ← c.editing.view_is) (edited_items items editing apt c.drop_listed-went.new.self.items c.take_names.new.self.items c.give_listed.new.self.items c.drop_listed-went.ensures.items c.take_names.ensures.items c.give_listed.ensures)

pub settle-requires-clause-others : goal.settle-requires-clause-others
settle-requires-clause-others c =
    let items = c.self.inside.links.items in
    let editing = editing_view c.editing.inside in
    let apt : IsEditOf items editing = rw (← c.self.view_is, ← c.editing.view_is) at c.requires.apt in
    let after : c.give_listed.new.self.items ≡ items_edited items editing = edited_items items editing apt c.drop_listed-went.new.self.items c.take_names.new.self.items c.give_listed.new.self.items c.drop_listed-went.ensures.items c.take_names.ensures.items c.give_listed.ensures in
    let first = c.mark_touched.new.marks in
    let marked = c.mark_listed.new.marks in
    let left = c.drop_listed-went.result in
    let namers = rw after at c.mark_touched.ensures.namers in
    let only = rw after at c.mark_touched.ensures.only in
    let gone_names = rw after at c.mark_listed.ensures.namers in
    let gone_only = rw after at c.mark_listed.ensures.only in
    let up = rw after at c.mark_up.ensures.marked in
    rw (after, add-one)
    (others_right items editing apt c.turns-turned.result left (turned_view (λ names. names.items) c.editing.inside.names c.turns-turned.result (is_some (names_at items c.editing.inside.text.0)) c.turns-turned.ensures) (c.drop_listed-went.ensures.went ∙ went_is c.editing.inside.gone (λ one. is_some (names_at items one))) c.self.inside.marks first marked
    (λ other m. none_marked c.self.inside.marks.marks other (subst (IsListed c.self.inside.marks.marks) c.self.invariant.none c.listed.ensures.listed) m)
    c.mark_touched.ensures.marked namers only c.mark_listed.ensures.more.kept
    (gone_marks c.editing.inside.gone (IsMarked marked) c.mark_listed.ensures.marked)
    (λ yes one user is. gone_marks c.editing.inside.gone (λ other. (user : ℕ) → NamesText (items_edited items editing) user other → IsMarked marked user) (gone_names yes) one is user)
    (λ other m. ⊎_elim inl (λ is. inr (gone_or c.editing.inside.gone other left (NamesText (items_edited items editing) other) is)) (gone_only other m))
    c.file_laws.ensures.same c.mark_up.new.marks up
    (suc c.self.inside.depth) c.self.inside.heights.items c.self.invariant.right)

pub returns-clause-dirt : goal.returns-clause-dirt
returns-clause-dirt c =
    let items = c.self.inside.links.items in
    let editing = editing_view c.editing.inside in
    let apt : IsEditOf items editing = rw (← c.self.view_is, ← c.editing.view_is) at c.requires.apt in
    let after : c.give_listed.new.self.items ≡ items_edited items editing = edited_items items editing apt c.drop_listed-went.new.self.items c.take_names.new.self.items c.give_listed.new.self.items c.drop_listed-went.ensures.items c.take_names.ensures.items c.give_listed.ensures in
    let first = c.mark_touched.new.marks in
    let marked = c.mark_listed.new.marks in
    let left = c.drop_listed-went.result in
    let namers = rw after at c.mark_touched.ensures.namers in
    let only = rw after at c.mark_touched.ensures.only in
    let gone_names = rw after at c.mark_listed.ensures.namers in
    let gone_only = rw after at c.mark_listed.ensures.only in
    let up = rw after at c.mark_up.ensures.marked in
    rw (c.fill.ensures, c.marks.ensures, after, ← c.self.view_is, ← c.editing.view_is)
    (λ text. dirt_marked items editing apt c.turns-turned.result left (turned_view (λ names. names.items) c.editing.inside.names c.turns-turned.result (is_some (names_at items c.editing.inside.text.0)) c.turns-turned.ensures) (c.drop_listed-went.ensures.went ∙ went_is c.editing.inside.gone (λ one. is_some (names_at items one))) c.self.inside.marks first marked
    (λ other m. none_marked c.self.inside.marks.marks other (subst (IsListed c.self.inside.marks.marks) c.self.invariant.none c.listed.ensures.listed) m)
    c.mark_touched.ensures.marked namers only c.mark_listed.ensures.more.kept
    (gone_marks c.editing.inside.gone (IsMarked marked) c.mark_listed.ensures.marked)
    (λ yes one user is. gone_marks c.editing.inside.gone (λ other. (user : ℕ) → NamesText (items_edited items editing) user other → IsMarked marked user) (gone_names yes) one is user)
    (λ other m. ⊎_elim inl (λ is. inr (gone_or c.editing.inside.gone other left (NamesText (items_edited items editing) other) is)) (gone_only other m))
    c.file_laws.ensures.same c.mark_up.new.marks up text.0)

pub invariant_of-self : goal.invariant_of-self
invariant_of-self c =
    let items = c.self.inside.links.items in
    let editing = editing_view c.editing.inside in
    let apt : IsEditOf items editing = rw (← c.self.view_is, ← c.editing.view_is) at c.requires.apt in
    let after : c.give_listed.new.self.items ≡ items_edited items editing = edited_items items editing apt c.drop_listed-went.new.self.items c.take_names.new.self.items c.give_listed.new.self.items c.drop_listed-went.ensures.items c.take_names.ensures.items c.give_listed.ensures in
    let long : length c.give_listed.new.self.items ≡ length items = ap length after ∙ edited_length items editing apt in
    let deeper : c.self.inside.depth + 1 ≡ suc c.self.inside.depth = omega arith in
    record {
      deep = c.self.invariant.deep;
      few = subst (λ n. n < 2 ^ 32) (sym long) c.self.invariant.few;
      right = subst (λ cap. AreRight (web_of c.give_listed.new.self.items) cap c.settle.new.heights.items) deeper c.settle.ensures.right;
      size = c.settle.ensures.size;
      marks = c.settle.ensures.marks;
      none = c.settle.ensures.none;
    }
