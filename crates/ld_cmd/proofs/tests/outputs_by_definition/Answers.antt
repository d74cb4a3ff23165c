use Rattle.std.proofs.Common.{refl}
use Rattle.std.specs.Fmt.{digits}
use Rattle.std.specs.Path.{rsplit_once}
use Rattle.ld_names.specs.Normal.{normal_of}
use Rattle.ld_names.specs.Standing.{known_map, same_file}
use Rattle.ld_line.specs.Block.{block_line_of}
use Rattle.ld_line.specs.Cut.{lines_from, lines_of}
use Rattle.ld_line.specs.Digits.{decimal_number}
use Rattle.ld_line.specs.Field.{after_field, fields}
use Rattle.ld_mpd.specs.Blocks.{blocks_of, text_blocks}
use Rattle.ld_texts.specs.Known.{file_at, id_of, lines_at}
use Rattle.ld_script.specs.Fields.{cut_at_tab}
use Rattle.ld_script.specs.Script.{command_of, commands_of}
use Rattle.ld_engine.specs.Learning.{learning_by}
use Rattle.ld_words.specs.Words.{intent_of}
use Rattle.ld_cmd.specs.Generator.{generated}
use Rattle.ld_cmd.specs.Output.{output, replayed}
use Rattle.ld_cmd.specs.Playing.{played}
use Rattle.ld_cmd.proofs.tests.outputs_by_definition.Goals as goal

pub returns-clause-usage : goal.returns-clause-usage
unfolding output intent_of
returns-clause-usage c = refl

pub returns-clause-absent : goal.returns-clause-absent
unfolding output intent_of
returns-clause-absent c = refl

pub returns-clause-edits : goal.returns-clause-edits
unfolding output intent_of normal_of same_file known_map lines_of lines_from block_line_of fields after_field decimal_number blocks_of text_blocks id_of file_at lines_at cut_at_tab command_of commands_of learning_by replayed played digits
returns-clause-edits c = refl

pub returns-clause-model_folders : goal.returns-clause-model_folders
unfolding rsplit_once
returns-clause-model_folders c = refl

pub returns-clause-library_folders : goal.returns-clause-library_folders
returns-clause-library_folders c = refl

pub returns-clause-exit_codes : goal.returns-clause-exit_codes
returns-clause-exit_codes c = refl

pub returns-clause-one_brick : goal.returns-clause-one_brick
unfolding generated digits
returns-clause-one_brick c = refl

pub returns-clause-eleven_bricks : goal.returns-clause-eleven_bricks
unfolding generated digits
returns-clause-eleven_bricks c = refl

pub returns-clause-last_brick : goal.returns-clause-last_brick
unfolding digits
returns-clause-last_brick c = refl

pub returns-clause-summary : goal.returns-clause-summary
unfolding digits
returns-clause-summary c = refl
