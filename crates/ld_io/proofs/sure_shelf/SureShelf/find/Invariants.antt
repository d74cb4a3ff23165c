use Rattle.std.proofs.Common.{◌≡◌, length, map}
use Rattle.ld_io.specs.Files.{file_found}
use Rattle.ld_io.specs.SureShelf.{file_shown}
use Rattle.ld_io.proofs.sure_shelf.SureShelf.find.Given as goal

abbrev pub invariant-loop-files : goal.invariant-loop-files
invariant-loop-files l =
    file_found (map file_shown l.files) l.place l.name ≡ file_found (map file_shown l.initial.files) l.place l.name

abbrev pub decreases-loop-files : goal.decreases-loop-files
decreases-loop-files l = length l.files
