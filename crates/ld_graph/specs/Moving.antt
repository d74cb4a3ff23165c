-- Where parts moved to among the known texts, by their numbers.
use Rattle.std.specs.Prelude.{Option, Some, None, unwrap_or}
use Rattle.ld_names.specs.Standing.{Known, known_map}
use Rattle.ld_names.specs.declared.file.FileId.{FileId}
use Rattle.ld_names.specs.declared.file.TextId.{TextId}
use Rattle.ld_line.specs.Moved.{target}
use Rattle.ld_texts.specs.Known.{id_of}

-- the text at which the moves of a text end, by the text and its file: a target is known, so it has a number; and a
-- text that is not known has not moved
abbrev pub target_of : Known → TextId → Option FileId → TextId
target_of known text None = text
target_of known text (Some file) = record { 0 = unwrap_or (id_of known (target (known_map known) file)) text.0 }
