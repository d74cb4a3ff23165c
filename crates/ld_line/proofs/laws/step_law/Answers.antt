use Rattle.ld_line.proofs.Rotations.{certify_again, clip_again, no_clip_again, rotation_again, rotation_words_are, step_again}
use Rattle.ld_line.proofs.laws.step_law.Goals as goal

pub returns : goal.returns
returns c = record {
  step = step_again;
  words = rotation_words_are c.print_law.ensures;
  rotation = rotation_again c.print_law.ensures;
  certify = certify_again;
  clip = clip_again;
  no_clip = no_clip_again;
}
