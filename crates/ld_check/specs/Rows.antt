-- Worked texts with their findings.
use Rattle.std.specs.Prelude.{ℕ, List, [], ◌∷◌, codes}
use Rattle.ld_names.specs.declared.file.FileId.{FileId}
use Rattle.ld_names.specs.declared.file.Folder.TheVariants.{Model}
use Rattle.ld_check.specs.declared.finding.Finding.{Finding}

abbrev pub file_of : List ℕ → FileId
file_of name = record { folder = Model 1; name = name }

abbrev pub found_at : ℕ → ℕ → Finding
found_at line rule = record { line = line; rule = rule }

abbrev pub car_lines : List (List ℕ)
car_lines =
    codes "0 Car"
    ∷ codes "0 Name: car.ldr"
    ∷ codes "0 Author: A Builder"
    ∷ codes "0 !LDRAW_ORG Unofficial_Model"
    ∷ codes "0 !LICENSE Example licence"
    ∷ codes "1 4 0 0 0 1 0 0 0 1 0 0 0 1 left.ldr"
    ∷ codes "1 1 100 0 0 1 0 0 0 1 0 0 0 1 3001.dat"
    ∷ codes "0 STEP"
    ∷ []

abbrev pub bad_lines : List (List ℕ)
bad_lines =
    codes "0 Bad part"
    ∷ codes "0 Name: other.dat"
    ∷ codes "0 Author: A Builder"
    ∷ codes "0 !LDRAW_ORG Unofficial_Part"
    ∷ codes "0 !LICENSE Example licence"
    ∷ codes "0 !HISTORY 2024-01-01 [a] first"
    ∷ codes "0 BFC CERTIFY CCW"
    ∷ codes "3 16 0 0 0 1 1 1 2 2 2"
    ∷ codes "4 16 0 0 0 1 0 0 0 1 0 1 1 0"
    ∷ codes "4 16 0 0 0 1 0 0 1 1 0 0 1 1"
    ∷ codes "1 16 0 0 0 1 0 0 0 1 0 0 0 0 x.dat"
    ∷ codes "2 16 0 0 0 1 0 0"
    ∷ codes "2 16 0 0 0 1 0 0"
    ∷ codes "3 16 0 0 0 0 0 0 1 0 0"
    ∷ codes "6 junk"
    ∷ []

abbrev pub bad_findings : List Finding
bad_findings =
    found_at 2 103
    ∷ found_at 7 108
    ∷ found_at 8 302
    ∷ found_at 9 304
    ∷ found_at 10 303
    ∷ found_at 11 305
    ∷ found_at 12 308
    ∷ found_at 13 306
    ∷ found_at 13 308
    ∷ found_at 14 301
    ∷ found_at 14 302
    ∷ found_at 15 201
    ∷ []
