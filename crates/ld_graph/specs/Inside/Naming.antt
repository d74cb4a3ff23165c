-- The text that an edit writes, and changes for which all memory is taken.
use Rattle.std.specs.Prelude.{◌-◌, [], Some, None, option_map, slice_set}
use Rattle.std.specs.List.{insert, remove}
use Rattle.ld_names.specs.Standing.{Text}
use Rattle.ld_names.specs.declared.file.FileId.{FileId}
use Rattle.ld_texts.specs.declared.edit.Edit.{Edit}
use Rattle.ld_texts.specs.declared.edit.Edit.TheVariants.{Set, Insert, Delete, New, Restore, Drop, Move}
use Rattle.ld_graph.specs.Agreeing.{GraphChange, Edits, Learns}
use Rattle.ld_graph.specs.declared.ready.Prepared.{Prepared}
use Rattle.ld_graph.specs.declared.ready.Prepared.TheVariants.{Learn, Edit as Apply}

-- the text that the written file has after an edit, by the texts before it
abbrev pub written_text : (FileId → Text) → Edit → Text
written_text texts (Set file line text) = option_map (λ lines. slice_set lines (line - 1) text) (texts file)
written_text texts (Insert file line text) = option_map (λ lines. insert lines (line - 1) text) (texts file)
written_text texts (Delete file line) = option_map (λ lines. remove lines (line - 1)) (texts file)
written_text texts (New file) = Some []
written_text texts (Restore file lines) = Some lines
written_text texts (Drop file) = None
written_text texts (Move from to) = texts from

-- the change that is prepared
abbrev pub change_in : Prepared → GraphChange
change_in (Learn learning dirty) = Learns learning
change_in (Apply editing) = Edits editing
