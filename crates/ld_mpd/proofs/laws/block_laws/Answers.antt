use Rattle.ld_mpd.proofs.Inside.{lines_stand_inside, text_lines_stand_inside}
use Rattle.ld_mpd.proofs.Named.{blocks_are_named, text_names_differ}
use Rattle.ld_mpd.proofs.Texts.{text_ignores_name, text_stands, texts_among_blocks}
use Rattle.ld_mpd.proofs.laws.block_laws.Goals as goal

pub returns : goal.returns
returns c = record {
  texts = texts_among_blocks;
  stands = text_stands;
  name_ignored = text_ignores_name;
  inside = lines_stand_inside c.lines_law.ensures;
  texts_inside = text_lines_stand_inside c.lines_law.ensures;
  different = text_names_differ;
  named = blocks_are_named c.name_law.ensures;
}
