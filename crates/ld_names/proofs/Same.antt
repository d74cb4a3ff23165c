-- Files are the same exactly where they are equal.
use Rattle.std.proofs.Common.{◌≡◌, ◌==◌, ℕ, Bool, true, false, ◌&&◌, List, refl, ap, subst, ◌∙◌, bytes_eq, arith}
use Rattle.std.specs.Cmp.{IsEquivalence, nat_eq_equiv, on_equiv, and_equiv}
use Rattle.std.specs.Cmp.Lexicographic.{nat_list_eq_equiv}
use Rattle.std.proofs.lemmas.Bool.{eqb-true}
use Rattle.std.proofs.lemmas.Slice.Eq.{bytes_eq-Decides}
use Rattle.ld_names.specs.declared.file.FileId.{FileId}
use Rattle.ld_names.specs.declared.file.Folder.{Folder}
use Rattle.ld_names.specs.declared.file.Folder.TheVariants.{Model, Parts, P}
use Rattle.ld_names.specs.Finding.{IsFileEquality}
use Rattle.ld_names.specs.Standing.{document_of, folder_place, same_file, same_folder}

both : (a b : Bool) → (a && b) ≡ true → (a ≡ true) × (b ≡ true)
both true b h = (refl, h)
both false b h = cc

same-places : (a b : Folder) → folder_place a ≡ folder_place b → document_of a ≡ document_of b → a ≡ b
same-places (Model a) (Model b) place document = ap Model document
same-places Parts Parts place document = refl
same-places P P place document = refl
same-places (Model a) Parts place document = absurd (omega arith)
same-places (Model a) P place document = absurd (omega arith)
same-places Parts (Model b) place document = absurd (omega arith)
same-places Parts P place document = absurd (omega arith)
same-places P (Model b) place document = absurd (omega arith)
same-places P Parts place document = absurd (omega arith)

same_folder-true : (a b : Folder) → same_folder a b ≡ true → a ≡ b
same_folder-true a b same =
    let parts = both (folder_place a == folder_place b) (document_of a == document_of b) same in
    same-places a b (eqb-true _ _ parts.0) (eqb-true _ _ parts.1)

same_folder-equiv : IsEquivalence same_folder
same_folder-equiv = and_equiv (on_equiv folder_place nat_eq_equiv) (on_equiv document_of nat_eq_equiv)

pub same_file-true : (a b : FileId) → same_file a b ≡ true → a ≡ b
unfolding same_file
same_file-true a b same =
    let parts = both (same_folder a.folder b.folder) (bytes_eq a.name b.name) same in
    let folder : a.folder ≡ b.folder = same_folder-true a.folder b.folder parts.0 in
    let name : a.name ≡ b.name = (bytes_eq-Decides a.name b.name).0 parts.1 in
    let first : FileId → Folder → FileId = λ x f. record x { folder = f } in
    let second : FileId → List ℕ → FileId = λ x n. record x { name = n } in
    ap (first a) folder ∙ ap (second (record a { folder = b.folder })) name

pub same_file-equiv : IsEquivalence same_file
unfolding same_file
same_file-equiv = and_equiv (on_equiv (λ file. file.folder) same_folder-equiv) (on_equiv (λ file. file.name) nat_list_eq_equiv)

pub file_equality : IsFileEquality
file_equality = record {
  same = λ file other. (same_file-true file other, λ is. subst (λ (x : FileId). same_file file x ≡ true) is (same_file-equiv.refl file));
  equivalence = same_file-equiv;
}
