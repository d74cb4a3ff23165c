-- Behind the last line nothing is found.
use Rattle.std.proofs.Common.{◌≡◌, ◌-◌, ◌<◌, ◌==◌, ℕ, false, List, [], None, arith, length}
use Rattle.std.specs.Prelude.{slice_get}
use Rattle.std.proofs.lemmas.Bool.Decides.{nat_tests}
use Rattle.std.proofs.lemmas.Option.{slice_get_past}
use Rattle.std.proofs.Math.Bool.{and-false}
use Rattle.ld_names.specs.declared.file.FileId.{FileId}
use Rattle.ld_check.specs.Findings.{findings_at}

pub nothing_behind : (file : FileId) (lines : List (List ℕ)) (number : ℕ) → 5 < number → length lines < number → findings_at file lines number ≡ []
nothing_behind file lines number late behind =
    let none : slice_get lines (number - 1) ≡ None = slice_get_past lines (number - 1) (omega arith) in
    let first : number == 1 ≡ false = grind (arith, nat_tests) in
    let second : number == 2 ≡ false = grind (arith, nat_tests) in
    let third : number == 3 ≡ false = grind (arith, nat_tests) in
    let fourth : number == 4 ≡ false = grind (arith, nat_tests) in
    let fifth : number == 5 ≡ false = grind (arith, nat_tests) in
    rw (none, first, second, third, fourth, fifth) (simp and-false)
