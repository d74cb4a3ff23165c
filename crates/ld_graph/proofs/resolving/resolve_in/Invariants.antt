use Rattle.std.proofs.Common.{◌≡◌, length}
use Rattle.ld_names.specs.Standing.{find, find_among, known_map}
use Rattle.ld_graph.proofs.resolving.resolve_in.Given as goal

abbrev pub invariant-loop-folder : goal.invariant-loop-folder
invariant-loop-folder l = find_among (known_map l.reader.texts.known) l.name l.rest ≡ find (known_map l.reader.texts.known) l.fn.from l.name

abbrev pub decreases-loop-folder : goal.decreases-loop-folder
decreases-loop-folder l = length l.rest
