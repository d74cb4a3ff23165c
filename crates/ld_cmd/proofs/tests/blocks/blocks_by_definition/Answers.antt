use Rattle.std.proofs.Common.{refl}
use Rattle.ld_names.specs.Normal.{normal_of}
use Rattle.ld_line.specs.Block.{block_line_of}
use Rattle.ld_line.specs.Cut.{lines_of}
use Rattle.ld_line.specs.Field.{after_field, fields}
use Rattle.ld_mpd.specs.Blocks.{blocks_of, text_blocks, text_of}
use Rattle.ld_mpd.specs.Joining.{join_of}
use Rattle.ld_cmd.proofs.tests.blocks.blocks_by_definition.Goals as goal

pub returns-clause-outside : goal.returns-clause-outside
unfolding blocks_of text_of text_blocks lines_of block_line_of fields after_field normal_of
returns-clause-outside c = refl

pub returns-clause-no_file : goal.returns-clause-no_file
unfolding blocks_of text_of text_blocks lines_of block_line_of fields after_field normal_of
returns-clause-no_file c = refl

pub returns-clause-text : goal.returns-clause-text
unfolding blocks_of text_of text_blocks lines_of block_line_of fields after_field normal_of
returns-clause-text c = refl

pub returns-clause-joined : goal.returns-clause-joined
unfolding join_of block_line_of fields
returns-clause-joined c = refl

pub returns-clause-later : goal.returns-clause-later
unfolding join_of block_line_of fields
returns-clause-later c = refl

pub returns-clause-no_text : goal.returns-clause-no_text
unfolding join_of
returns-clause-no_text c = refl

pub returns-clause-block_line : goal.returns-clause-block_line
unfolding join_of block_line_of fields
returns-clause-block_line c = refl
