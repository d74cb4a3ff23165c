-- Folders are the same where their places and documents are.
use Rattle.std.proofs.Common.{◌≡◌, ◌∙◌, ◌==◌, ℕ, true, ⊎_elim, refl, sym, ap, true≢false}
use Rattle.std.proofs.lemmas.Bool.Decides.{eqb_tells}
use Rattle.ld_names.specs.Standing.{same_folder}
use Rattle.ld_names.specs.declared.file.Folder.{Folder}
use Rattle.ld_names.specs.declared.file.Folder.TheVariants.{Model, Parts, P}

eqb-refl : (n : ℕ) → (n == n) ≡ true
eqb-refl n = ⊎_elim (λ yes. yes.0) (λ other. absurd (other.1 refl)) (eqb_tells n n)

eqb-same : (n m : ℕ) → (n == m) ≡ true → n ≡ m
eqb-same n m is = ⊎_elim (λ yes. yes.1) (λ other. absurd (true≢false (sym is ∙ other.0))) (eqb_tells n m)

pub same_folder-refl : (folder : Folder) → same_folder folder folder ≡ true
same_folder-refl (Model document) = eqb-refl document
same_folder-refl Parts = refl
same_folder-refl P = refl

pub same_folder-same : (x y : Folder) → same_folder x y ≡ true → x ≡ y
same_folder-same (Model document) (Model other) is = ap Model (eqb-same document other is)
same_folder-same (Model document) Parts is = absurd (true≢false (sym is))
same_folder-same (Model document) P is = absurd (true≢false (sym is))
same_folder-same Parts (Model document) is = absurd (true≢false (sym is))
same_folder-same Parts Parts is = refl
same_folder-same Parts P is = absurd (true≢false (sym is))
same_folder-same P (Model document) is = absurd (true≢false (sym is))
same_folder-same P Parts is = absurd (true≢false (sym is))
same_folder-same P P is = refl
