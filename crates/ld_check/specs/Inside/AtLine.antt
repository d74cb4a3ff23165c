-- The findings at a line that stands, by its bytes.
use Rattle.std.specs.Prelude.{ℕ, ◌==◌, ◌&&◌, not, List, ◌++◌, codes, is_some, length, nat_lt}
use Rattle.ld_names.specs.declared.file.FileId.{FileId}
use Rattle.ld_line.specs.Field.{fields}
use Rattle.ld_line.specs.Reading.{line_of}
use Rattle.ld_line.specs.declared.line.Line.{Line}
use Rattle.ld_check.specs.Findings.{found}
use Rattle.ld_check.specs.Geometry.{has_equal_points, is_bent_quad, is_straight_triangle, is_uneven_quad}
use Rattle.ld_check.specs.Header.{has_value, is_description, is_part_type, names_another, stated_name}
use Rattle.ld_check.specs.Lines.{has_more_fields, is_edge_off_24, is_face_in_24, is_malformed, is_out_of_range, is_singular_reference, is_unnamed}
use Rattle.ld_check.specs.declared.finding.Finding.{Finding}

-- those of the header
abbrev pub header_findings : FileId → List ℕ → ℕ → List Finding
header_findings file line number =
    found number (101, number == 1 && not (is_description (fields line)))
    ++ found number (102, number == 2 && not (is_some (stated_name line)))
    ++ found number (103, number == 2 && names_another file.name (stated_name line))
    ++ found number (104, number == 3 && not (has_value (codes "Author:") (fields line)))
    ++ found number (105, number == 4 && not (is_part_type (line_of line)))
    ++ found number (106, number == 5 && not (has_value (codes "!LICENSE") (fields line)))

-- those of what the line says by itself
abbrev pub said_findings : ℕ → Line → List Finding
said_findings number line =
    found number (201, is_malformed line)
    ++ found number (202, is_out_of_range line)
    ++ found number (203, is_unnamed line)
    ++ found number (301, has_equal_points line)
    ++ found number (302, is_straight_triangle line)
    ++ found number (303, is_bent_quad line)
    ++ found number (304, is_uneven_quad line)
    ++ found number (305, is_singular_reference line)

-- those of its fields and its colour
abbrev pub written_findings : ℕ → List ℕ → Line → List Finding
written_findings number bytes line =
    found number (307, has_more_fields (length (fields bytes)) line)
    ++ found number (308, is_edge_off_24 line)
    ++ found number (309, is_face_in_24 line)

-- those of the header lines that are missing in a text of so many lines
abbrev pub missing_findings : ℕ → List Finding
missing_findings count =
    found 1 (101, nat_lt count 1)
    ++ found 2 (102, nat_lt count 2)
    ++ found 3 (104, nat_lt count 3)
    ++ found 4 (105, nat_lt count 4)
    ++ found 5 (106, nat_lt count 5)
