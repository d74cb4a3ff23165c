-- The findings of a text: each line and each rule that holds there, in order of line and then of rule. Their numbers are
-- this project's own.
use Rattle.std.specs.Prelude.{ℕ, Bool, max, List, [], ◌∷◌, length, if◌then◌else◌}
use Rattle.std.specs.List.{flat_map, range_with_len}
use Rattle.ld_names.specs.declared.file.FileId.{FileId}
use Rattle.ld_line.specs.Field.{fields}
use Rattle.ld_line.specs.Reading.{line_of}
use Rattle.ld_check.specs.Geometry.{has_equal_points, is_bent_quad, is_straight_triangle, is_uneven_quad}
use Rattle.ld_check.specs.Header.{is_misnamed, lacks_author, lacks_description, lacks_license, lacks_name, lacks_part_type}
use Rattle.ld_check.specs.Lines.{has_more_fields, is_edge_off_24, is_face_in_24, is_malformed, is_out_of_range, is_repeated, is_singular_reference, is_unnamed}
use Rattle.ld_check.specs.Order.{is_out_of_order, lacks_statement}
use Rattle.ld_check.specs.Text.{numbered_line, passes, said}
use Rattle.ld_check.specs.declared.finding.Finding.{Finding}

-- a rule by its number, and whether it holds
abbrev pub Rule : Type 0
Rule = ℕ × Bool

-- the rules at a line
abbrev pub rules_at : FileId → List (List ℕ) → ℕ → List Rule
rules_at file lines number =
    (101, lacks_description lines number)
    ∷ (102, lacks_name lines number)
    ∷ (103, is_misnamed file lines number)
    ∷ (104, lacks_author lines number)
    ∷ (105, lacks_part_type lines number)
    ∷ (106, lacks_license lines number)
    ∷ (107, lacks_statement lines number)
    ∷ (108, is_out_of_order lines number)
    ∷ (201, passes (said is_malformed) (numbered_line lines number))
    ∷ (202, passes (said is_out_of_range) (numbered_line lines number))
    ∷ (203, passes (said is_unnamed) (numbered_line lines number))
    ∷ (301, passes (said has_equal_points) (numbered_line lines number))
    ∷ (302, passes (said is_straight_triangle) (numbered_line lines number))
    ∷ (303, passes (said is_bent_quad) (numbered_line lines number))
    ∷ (304, passes (said is_uneven_quad) (numbered_line lines number))
    ∷ (305, passes (said is_singular_reference) (numbered_line lines number))
    ∷ (306, is_repeated lines number)
    ∷ (307, passes (λ line. has_more_fields (length (fields line)) (line_of line)) (numbered_line lines number))
    ∷ (308, passes (said is_edge_off_24) (numbered_line lines number))
    ∷ (309, passes (said is_face_in_24) (numbered_line lines number))
    ∷ []

-- the finding, if the rule holds
abbrev pub found : ℕ → Rule → List Finding
found number rule = if rule.1 then record { line = number; rule = rule.0 } ∷ [] else []

abbrev pub findings_at : FileId → List (List ℕ) → ℕ → List Finding
findings_at file lines number = flat_map (found number) (rules_at file lines number)

-- the findings of a file's lines: the header has five lines, also where the text has fewer
unfoldable pub findings_of : FileId → List (List ℕ) → List Finding
findings_of file lines = flat_map (findings_at file lines) (range_with_len 1 (max 5 (length lines)))
