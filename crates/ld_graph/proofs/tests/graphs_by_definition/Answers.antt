use Rattle.std.proofs.Common.{ℕ, refl}
use Rattle.ld_num.specs.Number.{dec_of, millionths_of, numeral_of, powers_of}
use Rattle.ld_names.specs.Normal.{normal_of}
use Rattle.ld_names.specs.Standing.{find, folders_of, known_map, same_file}
use Rattle.ld_line.specs.Colour.{colour_word}
use Rattle.ld_line.specs.Field.{after_field, fields}
use Rattle.ld_line.specs.Reading.{line_of}
use Rattle.ld_texts.specs.Known.{id_of, lines_at}
use Rattle.ld_graph.specs.Agreeing.{items_of_known}
use Rattle.ld_graph.specs.Web.{height}
use Rattle.ld_graph.proofs.tests.graphs_by_definition.Goals as goal

-- what a graph computes with
values : ℕ
unfolding items_of_known height id_of lines_at line_of fields after_field colour_word dec_of millionths_of numeral_of powers_of normal_of find folders_of known_map same_file
values = 0

pub returns-clause-items : goal.returns-clause-items
unfolding values
returns-clause-items c = refl

pub returns-clause-web : goal.returns-clause-web
unfolding values
returns-clause-web c = refl

pub returns-clause-heights : goal.returns-clause-heights
unfolding values
returns-clause-heights c = refl

pub returns-clause-resolved : goal.returns-clause-resolved
unfolding values
returns-clause-resolved c = refl

pub returns-clause-edits : goal.returns-clause-edits
unfolding values
returns-clause-edits c = refl
