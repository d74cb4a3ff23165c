use Rattle.ld_line.proofs.Files.{file_stands}
use Rattle.ld_line.proofs.read.names_file.Goals as goal

pub returns : goal.returns
returns c = file_stands c.args.file.now c.trimmed_start.result.now c.is_empty.result c.trimmed_start.ensures c.is_empty.ensures
