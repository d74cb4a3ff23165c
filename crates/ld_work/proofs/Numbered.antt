-- The known texts as an expansion sees them, by numbers.
use Rattle.std.proofs.Common.{◌≡◌, ℕ, zero, suc, true, false, List, [], ◌∷◌, length, map, Option, Some, None, refl, ap, sym, ◌∙◌}
use Rattle.std.specs.Prelude.{slice_get, option_map}
use Rattle.std.specs.Option.{is_some, unwrap_or}
use Rattle.std.proofs.lemmas.Bool.{lt-ltb}
use Rattle.std.proofs.lemmas.List.{length-map}
use Rattle.ld_names.specs.Finding.{FindsExactly, IsThere}
use Rattle.ld_names.specs.Standing.{Absent as Missing, find, Found, Known, known_map, Present, Text as Standing, Unknown as Nowhere}
use Rattle.ld_names.specs.declared.file.FileId.{FileId}
use Rattle.ld_names.specs.declared.file.Folder.{Folder}
use Rattle.ld_names.specs.declared.file.TextId.{TextId}
use Rattle.ld_line.specs.Reading.{line_of}
use Rattle.ld_texts.specs.Known.{AreDistinct, file_at, id_of, is_part_at, lines_at}
use Rattle.ld_texts.specs.Laws.{NumbersAgree}
use Rattle.ld_texts.specs.Reach.{lines_in}
use Rattle.ld_entry.specs.NumberedTexts.{found_from, file_is_part, is_part_in, known_files, known_texts, lines_of_file, text_id_of}
use Rattle.ld_entry.specs.NumberedTexts as numbered
use Rattle.ld_graph.specs.Resolving.{resolved, resolved_from}
use Rattle.ld_work.specs.Inside.Found.{text_in}

get-map : {A B : Type 0} (f : A → B) (xs : List A) (n : ℕ) → slice_get (map f xs) n ≡ option_map f (slice_get xs n)
get-map f [] n = refl
get-map f (x ∷ xs) zero = refl
get-map f (x ∷ xs) (suc n) = get-map f xs n

pub files-at : (known : Known) (n : ℕ) → slice_get (known_files known) n ≡ file_at known n
unfolding file_at
files-at known n = get-map (λ entry. entry.0) known n

-- the number of a file
pub number-of : (known : Known) (file : FileId) → text_id_of (known_files known) (Present file) ≡ option_map (λ n. record { 0 = n }) (id_of known file)
unfolding id_of
number-of known file = refl

module _ (numbers : NumbersAgree) (known : Known) (distinct : AreDistinct known) (n : ℕ) where
  abbrev id : TextId
  id = record { 0 = n }

  -- what the map says of the file at a number
  pub map-at : (file : FileId) → file_at known n ≡ Some file → known_map known file ≡ Some (lines_at known n)
  map-at file is = numbers.map known file ∙ ap (option_map (lines_at known)) (numbers.number known file n distinct is)

  none-there : file_at known n ≡ None → lines_at known n ≡ None
  none-there none = by (lines_at known n) refl
    where
      by : (text : Standing) → lines_at known n ≡ text → lines_at known n ≡ None
      by None is = is
      by (Some lines) is =
          let within = numbers.present known n lines is in
          let there : false ≡ true = sym (ap is_some none) ∙ numbers.there known n ∙ lt-ltb n _ within in cc

  lines-in : (file : FileId) (text : Standing) → known_map known file ≡ Some text → lines_of_file (known_map known) (Some file) ≡ map line_of (lines_in text)
  lines-in file None is = ap (λ o. map line_of (numbered.standing_lines o)) is
  lines-in file (Some lines) is = ap (λ o. map line_of (numbered.standing_lines o)) is

  pub lines-seen : (known_texts known).lines id ≡ map line_of (lines_in (lines_at known n))
  lines-seen = by (file_at known n) refl
    where
      by : (file : Option FileId) → file_at known n ≡ file → (known_texts known).lines (record { 0 = n }) ≡ map line_of (lines_in (lines_at known n))
      by None is = ap (lines_of_file (known_map known)) (files-at known n ∙ is) ∙ sym (ap (λ text. map line_of (lines_in text)) (none-there is))
      by (Some file) is = ap (lines_of_file (known_map known)) (files-at known n ∙ is) ∙ lines-in file (lines_at known n) (map-at file is)

  pub lines-count : length ((known_texts known).lines id) ≡ length (lines_in (lines_at known n))
  lines-count = ap length lines-seen ∙ length-map (lines_in (lines_at known n)) line_of

  pub count-seen : length ((known_texts known).lines id) ≡ unwrap_or (option_map length (lines_at known n)) 0
  count-seen = ap length lines-seen ∙ length-map (lines_in (lines_at known n)) line_of ∙ by (lines_at known n)
    where
      by : (text : Standing) → length (lines_in text) ≡ unwrap_or (option_map length text) 0
      by None = refl
      by (Some lines) = refl

  pub line-seen : (before : ℕ) → slice_get ((known_texts known).lines id) before ≡ option_map line_of (slice_get (lines_in (lines_at known n)) before)
  line-seen before = ap (λ ls. slice_get ls before) lines-seen ∙ get-map line_of (lines_in (lines_at known n)) before

  part-in : (file : FileId) (text : Standing) → file_at known n ≡ Some file → lines_at known n ≡ text → is_part_in file.folder (Some text) ≡ is_part_at known n
  part-in file None is at = sym (numbers.no_part known n at)
  part-in file (Some lines) is at = sym (numbers.part known n file lines is at)

  pub part-seen : (known_texts known).is_part id ≡ is_part_at known n
  part-seen = by (file_at known n) refl
    where
      by : (file : Option FileId) → file_at known n ≡ file → (known_texts known).is_part (record { 0 = n }) ≡ is_part_at known n
      by None is = ap (file_is_part (known_map known)) (files-at known n ∙ is) ∙ sym (numbers.no_part known n (none-there is))
      by (Some file) is = ap (file_is_part (known_map known)) (files-at known n ∙ is) ∙ ap (is_part_in file.folder) (map-at file is) ∙ part-in file (lines_at known n) is refl

module _ (numbers : NumbersAgree) (finds : FindsExactly) (known : Known) (name : List ℕ) where
  -- a file that is there has its number
  abbrev by_number : Option ℕ → Option TextId
  by_number number = option_map {U = TextId} (λ n. record { 0 = n }) number

  there : (file : FileId) (number : Option ℕ) → id_of known file ≡ number → IsThere (known_map known) file → by_number (id_of known file) ≡ Some (record { 0 = unwrap_or (id_of known file) 0 })
  there file None none is =
      let no : Some (Some is.0) ≡ None = sym is.1 ∙ numbers.map known file ∙ ap (option_map (lines_at known)) none in cc
  there file (Some n) some is =
      let first : Option ℕ → Option TextId = λ o. Some (record { 0 = unwrap_or o 0 }) in
      ap by_number some ∙ sym (ap first some)

  by-found : (from : Folder) (found : Found) → find (known_map known) from name ≡ found → text_id_of (known_files known) found ≡ text_in (resolved known found)
  by-found from (Present file) is = number-of known file ∙ there file (id_of known file) refl ((finds.present (known_map known) from name file).0 is).2
  by-found from Missing is = refl
  by-found from (Nowhere folder) is = refl

  by-file : (file : Option FileId) → found_from (known_map known) (known_files known) name file ≡ text_in (resolved_from known name file)
  by-file None = refl
  by-file (Some file) = by-found file.folder (find (known_map known) file.folder name) refl

  pub found-seen : (n : ℕ) → (known_texts known).found (record { 0 = n }) name ≡ text_in (resolved_from known name (file_at known n))
  found-seen n = ap (found_from (known_map known) (known_files known) name) (files-at known n) ∙ by-file (file_at known n)
