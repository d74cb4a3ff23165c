-- What a reference finds among the known texts.
use Rattle.std.specs.Prelude.{Option, Some, None}
use Rattle.ld_names.specs.declared.file.TextId.{TextId}
use Rattle.ld_graph.specs.declared.resolving.Resolved.{Resolved}
use Rattle.ld_graph.specs.declared.resolving.Resolved.TheVariants.{Absent, Text, Unknown}

abbrev pub text_in : Resolved → Option TextId
text_in (Text text) = Some text
text_in Absent = None
text_in (Unknown folder) = None
