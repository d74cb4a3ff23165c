-- Worked outputs, folders and generated models, by computing.
use Rattle.std.specs.Prelude.{List, ℕ, [], ◌∷◌, ◌==◌, Some, None, codes, if◌then◌else◌, bytes_eq}
use Rattle.std.specs.List.{slice_split}
use Rattle.ld_io.specs.Shelf.{Files}
use Rattle.ld_cmd.specs.Folders.{model_folder}
use Rattle.ld_cmd.specs.Written.{Output}
use Rattle.ld_cmd.specs.declared.status.Status.TheVariants.{Done}

-- a model of one line, and a script of edits
abbrev pub edited_model : Files
edited_model place name =
    if bytes_eq name (codes "m") then Some (codes "0 a\n")
    else if bytes_eq name (codes "s") then Some (codes "new\tmodel\tm\ndel\tmodel\tm\t2\nset\tmodel\tm\t1\t0 b\ndrop\tp\tx\njump\n")
    else None

abbrev pub edits_output : Output
edits_output = record {
  pieces = codes "refused filethere\n" ∷ codes "refused noline 1\n" ∷ codes "ok\n" ∷ codes "refused nofile\n" ∷ codes "refused script\n" ∷ [];
  status = Done;
}

-- the folder of the model that words with a space between each two name
abbrev pub folder_named : List ℕ → List ℕ
folder_named line = model_folder (slice_split (λ byte. byte == 32) line)

-- generated models, written out by hand
abbrev pub bricks_of_one : List ℕ
bricks_of_one = codes "0 FILE gen.ldr\n1 0 0 0 0 1 0 0 0 1 0 0 0 1 brick.dat\n"

abbrev pub bricks_of_eleven : List ℕ
bricks_of_eleven = codes "0 FILE gen.ldr\n1 0 0 0 0 1 0 0 0 1 0 0 0 1 brick.dat\n1 1 20 0 0 1 0 0 0 1 0 0 0 1 brick.dat\n1 2 40 0 0 1 0 0 0 1 0 0 0 1 brick.dat\n1 3 60 0 0 1 0 0 0 1 0 0 0 1 brick.dat\n1 4 80 0 0 1 0 0 0 1 0 0 0 1 brick.dat\n1 5 100 0 0 1 0 0 0 1 0 0 0 1 brick.dat\n1 6 120 0 0 1 0 0 0 1 0 0 0 1 brick.dat\n1 7 140 0 0 1 0 0 0 1 0 0 0 1 brick.dat\n1 8 160 0 0 1 0 0 0 1 0 0 0 1 brick.dat\n1 9 180 0 0 1 0 0 0 1 0 0 0 1 brick.dat\n0 STEP\n1 10 200 0 0 1 0 0 0 1 0 0 0 1 brick.dat\n"

abbrev pub parts_blocks : List ℕ
parts_blocks = codes "0 FILE brick.dat\n0 Brick\n0 !LDRAW_ORG Unofficial_Part\n0 BFC CERTIFY CCW\n4 16 0 0 0 10 0 0 10 0 10 0 0 10\n1 16 0 -4 0 1 0 0 0 1 0 0 0 1 stud.dat\n0 FILE stud.dat\n0 Stud\n0 !LDRAW_ORG Unofficial_Primitive\n0 BFC CERTIFY CCW\n3 16 0 0 0 4 0 0 0 0 4\n2 24 0 0 0 4 0 0\n"
