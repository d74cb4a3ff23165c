-- The pieces of printed lines, which are this project's own. Colours are printed as File Format 1.0.2 ("Colours") writes
-- them, but for the edge colour of a code.
use Rattle.std.specs.Prelude.{◌==◌, ℕ, Bool, true, false, List, ◌++◌, Option, Some, None, codes, decimal, if◌then◌else◌}
use Rattle.ld_names.specs.declared.file.FileId.{FileId}
use Rattle.ld_names.specs.declared.file.Folder.{Folder}
use Rattle.ld_names.specs.declared.file.Folder.TheVariants.{Model, Parts, P}
use Rattle.ld_names.specs.Standing.{Known}
use Rattle.ld_num.specs.Text.{dec_text}
use Rattle.ld_num.specs.declared.point.Point.{Point}
use Rattle.ld_line.specs.Printing.{direct_text, six_hex}
use Rattle.ld_line.specs.Word.{spaced}
use Rattle.ld_line.specs.declared.line.Kind.{Kind}
use Rattle.ld_line.specs.declared.line.Kind.TheVariants.{Line2, Tri, Quad, Opt}
use Rattle.ld_line.specs.declared.line.Winding.{Winding}
use Rattle.ld_line.specs.declared.line.Winding.TheVariants.{Ccw, Cw}
use Rattle.ld_colour.specs.declared.colour.Colour.{Colour}
use Rattle.ld_colour.specs.declared.colour.Colour.TheVariants.{Main, Edge, Code, EdgeOf, Direct}
use Rattle.ld_texts.specs.Known.{file_at}
use Rattle.ld_entry.specs.declared.entry.Source.{Source}

-- words with one space between each two, and a line feed
abbrev pub line_text : List (List ℕ) → List ℕ
line_text words = spaced words ++ codes "\n"

-- 16, 24, a code, e and the code of an edge colour, or 0x2RRGGBB
abbrev pub colour_text : Colour → List ℕ
colour_text Main = codes "16"
colour_text Edge = codes "24"
colour_text (Code code) = decimal code
colour_text (EdgeOf code) = codes "e" ++ decimal code
colour_text (Direct value) = direct_text value

-- #RRGGBB, or a dash for a colour whose red, green and blue are not known
abbrev pub rgb_text : Option ℕ → List ℕ
rgb_text (Some value) = codes "#" ++ six_hex value
rgb_text None = codes "-"

abbrev pub kind_text : Kind → List ℕ
kind_text Line2 = codes "line"
kind_text Tri = codes "tri"
kind_text Quad = codes "quad"
kind_text Opt = codes "opt"

abbrev pub certified_text : Bool → List ℕ
certified_text true = codes "cert"
certified_text false = codes "nocert"

abbrev pub clip_text : Bool → List ℕ
clip_text true = codes "clip"
clip_text false = codes "noclip"

abbrev pub winding_text : Winding → List ℕ
winding_text Ccw = codes "ccw"
winding_text Cw = codes "cw"

-- x,y,z in LDraw units
abbrev pub point_text : Point → List ℕ
point_text point = dec_text point.x ++ codes "," ++ dec_text point.y ++ codes "," ++ dec_text point.z

-- the folder of the first document is model, and that of a further one has its number
abbrev pub folder_text : Folder → List ℕ
folder_text (Model document) = if document == 1 then codes "model/" else codes "model" ++ decimal document ++ codes "/"
folder_text Parts = codes "parts/"
folder_text P = codes "p/"

abbrev pub file_text : FileId → List ℕ
file_text file = folder_text file.folder ++ file.name

-- the file with a number; nothing where no known file has it
abbrev pub numbered_text : Option FileId → List ℕ
numbered_text (Some file) = file_text file
numbered_text None = codes ""

-- the file, a colon and the line
abbrev pub source_text : Known → Source → List ℕ
source_text known source = numbered_text (file_at known source.text.0) ++ codes ":" ++ decimal source.line
