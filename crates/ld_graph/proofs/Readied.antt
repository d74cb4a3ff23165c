-- What a prepared change is, and what the graph is after it.
use Rattle.std.proofs.Common.{◌≡◌, ◌-◌, ℕ, [], Option, Some, None, IsSome, ap, refl, sym, subst, ◌∙◌, length, option_map, slice_set, unwrap_or}
use Rattle.std.specs.List.{insert, remove}
use Rattle.std.specs.Map.{set_value}
use Rattle.std.specs.Option.{option_or}
use Rattle.ld_names.specs.Standing.{Known, same_file}
use Rattle.ld_names.specs.declared.file.FileId.{FileId}
use Rattle.ld_texts.specs.Editing.{AreKnown, edited, files_in, misfit, refusal_of, text_of}
use Rattle.ld_texts.specs.Known.{id_of}
use Rattle.ld_texts.specs.Learning.{Apply, CanCommit, edit_in, Learn, learnt_file, learnt_lines, Ready, Texts}
use Rattle.ld_texts.specs.declared.edit.Edit.{Edit}
use Rattle.ld_texts.specs.declared.edit.Edit.TheVariants.{Set, Insert, Delete, New, Restore, Drop, Move}
use Rattle.ld_graph.specs.Agreeing.{GraphChange, Edits, IsAfter, Learns, graph_change, editing_of, items_of_known, left_file, names_of, number_in, written_file}
use Rattle.ld_graph.specs.AgreeingLaws.{ItemsLaws, items_after}
use Rattle.ld_graph.specs.Items.{Names, number_of}
use Rattle.ld_graph.specs.Seen.{Editing, Graph, IsEditOf, Learning}
use Rattle.ld_graph.specs.Inside.Naming.{written_text}
use Rattle.ld_graph.proofs.Turned.{id-set, text-with}

-- ---- what is prepared

pub edits_is : (known : Known) (ready : Ready) (edit : Edit) → edit_in ready ≡ Some edit → Edits (editing_of known edit) ≡ graph_change known ready
unfolding graph_change
edits_is known (Learn file text) edit is = cc
edits_is known (Apply one room) edit is = ap (λ (e : Option Edit). Edits (editing_of known (unwrap_or e edit))) (sym is)

pub learns_is : (known : Known) (ready : Ready) (file : FileId) → edit_in ready ≡ None → learnt_file ready ≡ Some file → Learns (record { file = file; names = names_of (learnt_lines ready) }) ≡ graph_change known ready
unfolding graph_change
learns_is known (Learn one text) file none is = ap (λ (f : Option FileId). Learns (record { file = unwrap_or f file; names = names_of text })) (sym is)
learns_is known (Apply edit room) file none is = cc

pub file_there : (ready : Ready) → edit_in ready ≡ None → IsSome (learnt_file ready)
file_there (Learn file text) none = refl
file_there (Apply edit room) none = cc

pub files_known : (texts : Texts) (ready : Ready) (edit : Edit) → CanCommit texts ready → edit_in ready ≡ Some edit → AreKnown texts.known (files_in edit)
files_known texts (Learn file text) edit can is = cc
files_known texts (Apply one room) edit can is = subst (λ (e : Option Edit). AreKnown texts.known (files_in (unwrap_or e one))) is can.apt

pub not_refused : (texts : Texts) (ready : Ready) (edit : Edit) → CanCommit texts ready → edit_in ready ≡ Some edit → refusal_of texts.max_weight texts.known edit ≡ None
not_refused texts (Learn file text) edit can is = cc
not_refused texts (Apply one room) edit can is = ap (λ (e : Option Edit). refusal_of texts.max_weight texts.known (unwrap_or e one)) (sym is) ∙ can.fits

first-none : {A : Type 0} (one other : Option A) → option_or one other ≡ None → one ≡ None
first-none None other is = refl
first-none (Some a) other is = cc

pub fits_is : (max_weight : ℕ) (known : Known) (edit : Edit) → refusal_of max_weight known edit ≡ None → misfit (text_of known) edit ≡ None
fits_is max_weight known edit is = first-none (misfit (text_of known) edit) _ is

pub written-is : (known : Known) (edit : Edit) → AreKnown known (files_in edit) → text_of (edited known edit) (written_file edit) ≡ written_text (text_of known) edit
written-is known (Set file line text) are = text-with file (option_map (λ lines. slice_set lines (line - 1) text) (text_of known file)) known are.0
written-is known (Insert file line text) are = text-with file (option_map (λ lines. insert lines (line - 1) text) (text_of known file)) known are.0
written-is known (Delete file line) are = text-with file (option_map (λ lines. remove lines (line - 1)) (text_of known file)) known are.0
written-is known (New file) are = text-with file (Some []) known are.0
written-is known (Restore file lines) are = text-with file (Some lines) known are.0
written-is known (Drop file) are = text-with file None known are.0
written-is known (Move from to) are = text-with to (text_of known from) (set_value (same_file from) known None) (subst (λ o. IsSome o) (sym (id-set from None known to)) are.1.0)

pub editing_is : ItemsLaws → (known : Known) (edit : Edit) → AreKnown known (files_in edit) → (text texts : ℕ) (names : Names) (left : Option ℕ) → text ≡ number_in known (written_file edit) → names ≡ names_of (written_text (text_of known) edit) → left ≡ option_map (number_in known) (left_file edit) → texts ≡ length (items_of_known known) → Edits (record { text = text; names = names; gone = left; texts = texts }) ≡ Edits (editing_of known edit)
editing_is laws known edit are text texts names left text-is names-is gone-is texts-is =
    let named : names ≡ names_of (text_of (edited known edit) (written_file edit)) = names-is ∙ ap names_of (sym (written-is known edit are)) in
    let many : texts ≡ length known = texts-is ∙ (laws.agree known).count in
    rw text-is (rw named (rw gone-is (rw many refl)))

-- ---- what the graph is after it

abbrev file_in_change : FileId → GraphChange → FileId
file_in_change file (Learns learning) = learning.file
file_in_change file (Edits editing) = file

pub after_is : ItemsLaws → (graph : Graph) (change : GraphChange) (texts : Texts) → IsAfter graph change texts → items_after graph.items change ≡ items_of_known texts.known
after_is laws graph change texts after =
    ap (λ items. items_after items change) after.agrees ∙ ap (items_after (items_of_known after.before.known)) after.change_is
    ∙ sym (ap items_of_known after.known_is ∙ (laws.change after.before.known after.ready after.can.apt).items)

pub unknown_is : ItemsLaws → (graph : Graph) (learning : Learning) (texts : Texts) → IsAfter graph (Learns learning) texts → number_of graph.items learning.file ≡ None
unfolding graph_change
unknown_is laws graph learning texts after = by after.ready after.change_is after.can
  where
    by : (ready : Ready) → Learns learning ≡ graph_change after.before.known ready → CanCommit after.before ready → number_of graph.items learning.file ≡ None
    by (Learn file text) is can = let none : id_of after.before.known file ≡ None = can.apt in ap (λ items. number_of items learning.file) after.agrees ∙ (laws.agree after.before.known).number learning.file ∙ ap (λ change. id_of after.before.known (file_in_change file change)) is ∙ none
    by (Apply edit room) is can = cc

pub edit_is : ItemsLaws → (graph : Graph) (editing : Editing) (texts : Texts) → IsAfter graph (Edits editing) texts → IsEditOf graph.items editing
unfolding graph_change
edit_is laws graph editing texts after = by after.ready after.change_is after.can
  where
    by : (ready : Ready) → Edits editing ≡ graph_change after.before.known ready → CanCommit after.before ready → IsEditOf graph.items editing
    by (Learn file text) is can = cc
    by (Apply edit room) is can =
        let same : editing ≡ editing_of after.before.known edit = cc in
        subst (λ items. IsEditOf items editing) (sym after.agrees) (subst (λ one. IsEditOf (items_of_known after.before.known) one) (sym same) (laws.edits after.before.max_weight after.before.known edit can.apt can.fits))
