-- The known texts as an expansion sees them, by numbers.
use Rattle.std.proofs.Common.{◌≡◌, ℕ, zero, suc, true, false, List, [], ◌∷◌, map, Option, Some, None, refl, ap, sym, ◌∙◌}
use Rattle.std.specs.Prelude.{slice_get, option_map}
use Rattle.std.specs.Option.{is_some}
use Rattle.std.proofs.lemmas.Bool.{lt-ltb}
use Rattle.ld_names.specs.Standing.{Present, Known, Text as Standing, file_in, find, folders_of, known_map}
use Rattle.ld_names.specs.declared.file.FileId.{FileId}
use Rattle.ld_names.specs.declared.file.TextId.{TextId}
use Rattle.ld_line.specs.Reading.{line_of}
use Rattle.ld_texts.specs.Known.{AreDistinct, file_at, id_of, is_part_at, lines_at}
use Rattle.ld_texts.specs.Laws.{NumbersAgree}
use Rattle.ld_texts.specs.Reach.{lines_in}
use Rattle.ld_entry.specs.NumberedTexts.{found_from, file_is_part, is_part_in, known_files, known_texts, lines_of_file, text_id_of}
use Rattle.ld_entry.specs.NumberedTexts as numbered
use Rattle.ld_engine.specs.Found.{sought, sought_number}
use Rattle.ld_engine.proofs.Reached.{sought-is}

get-map : {A B : Type 0} (f : A → B) (xs : List A) (n : ℕ) → slice_get (map f xs) n ≡ option_map f (slice_get xs n)
get-map f [] n = refl
get-map f (x ∷ xs) zero = refl
get-map f (x ∷ xs) (suc n) = get-map f xs n

pub files-at : (known : Known) (n : ℕ) → slice_get (known_files known) n ≡ file_at known n
unfolding file_at
files-at known n = get-map (λ entry. entry.0) known n

-- the number of a file
pub number-of : (known : Known) (file : FileId) → text_id_of (known_files known) (Present file) ≡ option_map (λ n. record { 0 = n }) (id_of known file)
unfolding id_of
number-of known file = refl

module _ (numbers : NumbersAgree) (known : Known) (distinct : AreDistinct known) (n : ℕ) where
  abbrev id : TextId
  id = record { 0 = n }

  -- what the map says of the file at a number
  pub map-at : (file : FileId) → file_at known n ≡ Some file → known_map known file ≡ Some (lines_at known n)
  map-at file is = numbers.map known file ∙ ap (option_map (lines_at known)) (numbers.number known file n distinct is)

  pub none-there : file_at known n ≡ None → lines_at known n ≡ None
  none-there none = by (lines_at known n) refl
    where
      by : (text : Standing) → lines_at known n ≡ text → lines_at known n ≡ None
      by None is = is
      by (Some lines) is =
          let within = numbers.present known n lines is in
          let there : false ≡ true = sym (ap is_some none) ∙ numbers.there known n ∙ lt-ltb n _ within in cc

  lines-in : (file : FileId) (text : Standing) → known_map known file ≡ Some text → lines_of_file (known_map known) (Some file) ≡ map line_of (lines_in text)
  lines-in file None is = ap (λ o. map line_of (numbered.standing_lines o)) is
  lines-in file (Some lines) is = ap (λ o. map line_of (numbered.standing_lines o)) is

  pub lines-seen : (known_texts known).lines id ≡ map line_of (lines_in (lines_at known n))
  lines-seen = by (file_at known n) refl
    where
      by : (file : Option FileId) → file_at known n ≡ file → (known_texts known).lines (record { 0 = n }) ≡ map line_of (lines_in (lines_at known n))
      by None is = ap (lines_of_file (known_map known)) (files-at known n ∙ is) ∙ sym (ap (λ text. map line_of (lines_in text)) (none-there is))
      by (Some file) is = ap (lines_of_file (known_map known)) (files-at known n ∙ is) ∙ lines-in file (lines_at known n) (map-at file is)

  pub line-seen : (before : ℕ) → slice_get ((known_texts known).lines id) before ≡ option_map line_of (slice_get (lines_in (lines_at known n)) before)
  line-seen before = ap (λ ls. slice_get ls before) lines-seen ∙ get-map line_of (lines_in (lines_at known n)) before

  part-in : (file : FileId) (text : Standing) → file_at known n ≡ Some file → lines_at known n ≡ text → is_part_in file.folder (Some text) ≡ is_part_at known n
  part-in file None is at = sym (numbers.no_part known n at)
  part-in file (Some lines) is at = sym (numbers.part known n file lines is at)

  pub part-seen : (known_texts known).is_part id ≡ is_part_at known n
  part-seen = by (file_at known n) refl
    where
      by : (file : Option FileId) → file_at known n ≡ file → (known_texts known).is_part (record { 0 = n }) ≡ is_part_at known n
      by None is = ap (file_is_part (known_map known)) (files-at known n ∙ is) ∙ sym (numbers.no_part known n (none-there is))
      by (Some file) is = ap (file_is_part (known_map known)) (files-at known n ∙ is) ∙ ap (is_part_in file.folder) (map-at file is) ∙ part-in file (lines_at known n) is refl

  pub found-seen : (name : List ℕ) (file : FileId) → file_at known n ≡ Some file → (known_texts known).found id name ≡ sought_number (sought known file.folder name)
  unfolding find
  found-seen name file is =
      ap (found_from (known_map known) (known_files known) name) (files-at known n ∙ is)
      ∙ sought-is numbers (text_id_of (known_files known)) sought_number known name refl (λ folder. refl) (λ folder m at. number-of known (file_in folder name) ∙ ap (option_map (λ k. record { 0 = k })) at) (folders_of file.folder)

  pub none-seen : (name : List ℕ) → file_at known n ≡ None → (known_texts known).found id name ≡ None
  none-seen name is = ap (found_from (known_map known) (known_files known) name) (files-at known n ∙ is)
