-- What clauses see of a shelf in memory: its files.
use Rattle.ld_io.specs.declared.sure_shelf.File.{File as Stored}
use Rattle.ld_io.specs.Files.{File}

abbrev pub file_shown : Stored → File
file_shown file = (file.place, file.name.items, file.bytes.items)
