-- What a line shows, which is seen without its file's name.
use Rattle.ld_line.specs.declared.line.Line.{Line}
use Rattle.ld_line.specs.declared.line.Line.TheVariants.{Draw, Ref}
use Rattle.ld_line.specs.declared.read.Shown.{Shown}
use Rattle.ld_line.specs.declared.read.Shown.TheVariants.{Drawing, Nothing, Reference}

abbrev pub shown_of : Line → Shown
shown_of (Ref colour placement name) = Reference
shown_of (Draw kind colour points) = Drawing
shown_of line = Nothing
