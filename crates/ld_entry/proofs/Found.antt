-- What a reference finds is there.
use Rattle.std.proofs.Common.{◌≡◌, ℕ, zero, suc, List, [], ◌∷◌, Option, Some, None, ⊎_elim, get_or, refl, sym, ap, ◌∙◌, arith, position, option_map}
use Rattle.std.specs.Prelude.{option_to_list, slice_get}
use Rattle.std.specs.List.{Contains}
use Rattle.std.proofs.lemmas.List.Elements.{Contains-append_cases}
use Rattle.std.proofs.lemmas.List.Quantifiers.{position-Some}
use Rattle.std.proofs.lemmas.Option.{slice_get-get_or}
use Rattle.ld_names.specs.Finding.{FindsExactly, IsFileEquality, IsThere}
use Rattle.ld_names.specs.Standing.{Absent, find, Found, Map, Present, same_file, Unknown}
use Rattle.ld_names.specs.declared.file.FileId.{FileId}
use Rattle.ld_names.specs.declared.file.TextId.{TextId}
use Rattle.ld_line.specs.declared.line.Line.{Line}
use Rattle.ld_line.specs.declared.line.Line.TheVariants.{Ref}
use Rattle.ld_entry.specs.Heights.{found_among}
use Rattle.ld_entry.specs.Laws.{FoundLaw}
use Rattle.ld_entry.specs.NumberedTexts.{found_from, NumberedTexts, text_id_of, texts_over}

-- what is found among lines, a name of theirs finds
named : (texts : NumberedTexts) (text other : TextId) (lines : List Line) → Contains (found_among texts text lines) other → (name : List ℕ) × (texts.found text name ≡ Some other)
named texts text other [] found = absurd (omega (arith, found.1))
named texts text other (Ref word placement (Some name) ∷ lines) found =
    ⊎_elim (λ first. (name, one (texts.found text name) first)) (λ rest. named texts text other lines rest) (Contains-append_cases (option_to_list (texts.found text name)) (found_among texts text lines) other found)
  where
    one : (it : Option TextId) → Contains (option_to_list it) other → it ≡ Some other
    one None first = absurd (omega (arith, first.1))
    one (Some file) (zero, within, is) = ap Some is
    one (Some file) (suc place, within, is) = absurd (omega arith)
named texts text other (line ∷ lines) found = named texts text other lines found

module _ (equality : IsFileEquality) where
  -- a file's number is its place among the files
  pub numbered : (files : List FileId) (file : FileId) (other : TextId) → option_map (λ place. let id : TextId = record { 0 = place } in id) (position (same_file file) files) ≡ Some other → slice_get files other.0 ≡ Some file
  numbered files file other is = by (position (same_file file) files) refl is
    where
      by : (place : Option ℕ) → position (same_file file) files ≡ place → option_map (λ n. let id : TextId = record { 0 = n } in id) place ≡ Some other → slice_get files other.0 ≡ Some file
      by None at is = cc
      by (Some place) at is =
          let number : place ≡ other.0 = cc in
          let first = position-Some (same_file file) files place file at in
          ap (slice_get files) (sym number) ∙ slice_get-get_or files place file first.0 ∙ ap Some (sym ((equality.same file (get_or files place file)).0 first.1))

module _ (finds : FindsExactly) (equality : IsFileEquality) where
  there : (texts : Map) (files : List FileId) (name : List ℕ) (from : Option FileId) (other : TextId) → found_from texts files name from ≡ Some other → (file : FileId) × (slice_get files other.0 ≡ Some file) × IsThere texts file
  there texts files name None other is = cc
  there texts files name (Some from) other is = by (find texts from.folder name) refl is
    where
      by : (found : Found) → find texts from.folder name ≡ found → text_id_of files found ≡ Some other → (file : FileId) × (slice_get files other.0 ≡ Some file) × IsThere texts file
      by (Present file) at is = (file, numbered equality files file other is, ((finds.present texts from.folder name file).0 at).2)
      by Absent at is = cc
      by (Unknown folder) at is = cc

  pub founds : FoundLaw
  founds texts files text other refers =
      let name = named (texts_over texts files) text other ((texts_over texts files).lines text) refers in
      there texts files name.0 (slice_get files text.0) other name.1
