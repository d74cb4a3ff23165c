-- What the items of known texts say of the texts.
use Rattle.std.proofs.Common.{◌≡◌, ℕ, List, [], ◌∷◌, length, Option, Some, None, ap, refl, sym, ◌∙◌, option_and_then, option_map, position, slice_get, unwrap_or}
use Rattle.std.specs.List.{filter_map}
use Rattle.std.specs.Option.{is_some}
use Rattle.std.proofs.lemmas.List.{length-map}
use Rattle.std.proofs.lemmas.Option.{slice_get-map}
use Rattle.ld_names.specs.declared.file.FileId.{FileId}
use Rattle.ld_names.specs.declared.file.Folder.{Folder}
use Rattle.ld_names.specs.Standing.{Found, Known, Text, file_in, find, find_among, folders_of, found_or, known_map, same_file}
use Rattle.ld_texts.specs.Known.{file_at as known_file, files_of as known_files, id_of, lines_at}
use Rattle.ld_texts.specs.Laws.{NumbersAgree}
use Rattle.ld_graph.specs.Agreeing.{item_of, items_of_known, names_among}
use Rattle.ld_graph.specs.AgreeingLaws.{ItemsAgree, number_found}
use Rattle.ld_graph.specs.Items.{Item, file_at, files_of, first_present, found, found_by, here_or, names_at, number_of, numbers_of, presence, present_or, web_of}
use Rattle.ld_graph.specs.Web.{children_of}
use Rattle.ld_graph.proofs.FoundBy.{children_is}

pub files-is : (known : Known) → files_of (items_of_known known) ≡ known_files known
unfolding items_of_known
files-is [] = refl
files-is (entry ∷ known) = ap (λ files. entry.0 ∷ files) (files-is known)

pub number-is : (known : Known) (file : FileId) → number_of (items_of_known known) file ≡ id_of known file
unfolding id_of
number-is known file = ap (position (same_file file)) (files-is known)

pub file-is : (known : Known) (id : ℕ) → file_at (items_of_known known) id ≡ known_file known id
unfolding known_file
file-is known id = ap (λ files. slice_get files id) (files-is known) ∙ slice_get-map (λ (entry : FileId × Text). entry.0) known id

pub item-is : (known : Known) (id : ℕ) → slice_get (items_of_known known) id ≡ option_map item_of (slice_get known id)
unfolding items_of_known
item-is known id = slice_get-map item_of known id

presence-is : (known : Known) (id : ℕ) → presence (items_of_known known) id ≡ option_map (λ file. is_some (lines_at known id)) (known_file known id)
unfolding known_file lines_at
presence-is known id = ap (option_map (λ (item : Item). is_some item.1)) (item-is known id) ∙ by (slice_get known id)
  where
    by : (entry : Option (FileId × Text)) → option_map (λ (item : Item). is_some item.1) (option_map item_of entry) ≡ option_map (λ file. is_some (option_and_then (λ (one : FileId × Text). one.1) entry)) (option_map (λ (one : FileId × Text). one.0) entry)
    by None = refl
    by (Some (file, None)) = refl
    by (Some (file, Some lines)) = refl

names-is : (known : Known) (id : ℕ) → names_at (items_of_known known) id ≡ option_map names_among (lines_at known id)
unfolding lines_at
names-is known id = ap (option_and_then (λ (item : Item). item.1)) (item-is known id) ∙ by (slice_get known id)
  where
    by : (entry : Option (FileId × Text)) → option_and_then (λ (item : Item). item.1) (option_map item_of entry) ≡ option_map names_among (option_and_then (λ (one : FileId × Text). one.1) entry)
    by None = refl
    by (Some (file, None)) = refl
    by (Some (file, Some lines)) = refl

pub count-is : (known : Known) → length (items_of_known known) ≡ length known
unfolding items_of_known
count-is known = length-map known item_of

children-are : (known : Known) (id : ℕ) (file : FileId) (lines : List (List ℕ)) → known_file known id ≡ Some file → lines_at known id ≡ Some lines → children_of (web_of (items_of_known known)) id ≡ Some (filter_map (found (items_of_known known) file.folder) (names_among lines))
unfolding known_file lines_at
children-are known id file lines at stands =
    children_is (items_of_known known) id ∙ ap (λ item. unwrap_or (option_map (found_by (items_of_known known)) item) None) (item-is known id) ∙ by (slice_get known id) at stands
  where
    by : (entry : Option (FileId × Text)) → option_map (λ (one : FileId × Text). one.0) entry ≡ Some file → option_and_then (λ (one : FileId × Text). one.1) entry ≡ Some lines → unwrap_or (option_map (found_by (items_of_known known)) (option_map item_of entry)) None ≡ Some (filter_map (found (items_of_known known) file.folder) (names_among lines))
    by None first second = cc
    by (Some (one, None)) first second = cc
    by (Some (one, Some all)) first second = ap (λ f. Some (filter_map (found (items_of_known known) (unwrap_or f file).folder) (names_among all))) first ∙ ap (λ (ls : Text). Some (filter_map (found (items_of_known known) file.folder) (names_among (unwrap_or ls lines)))) second

childless : (known : Known) (id : ℕ) → lines_at known id ≡ None → children_of (web_of (items_of_known known)) id ≡ None
unfolding lines_at
childless known id none = children_is (items_of_known known) id ∙ ap (λ item. unwrap_or (option_map (found_by (items_of_known known)) item) None) (item-is known id) ∙ by (slice_get known id) none
  where
    by : (entry : Option (FileId × Text)) → option_and_then (λ (one : FileId × Text). one.1) entry ≡ None → unwrap_or (option_map (found_by (items_of_known known)) (option_map item_of entry)) None ≡ None
    by None none = refl
    by (Some (one, None)) none = refl
    by (Some (one, Some all)) none = cc

module _ (agree : NumbersAgree) where
  present-step : (known : Known) (file : FileId) (id : ℕ) (behind : Found) (later : Option ℕ) → id_of known file ≡ Some id → later ≡ number_found known behind → (text : Text) → lines_at known id ≡ text → here_or (Some id) (presence (items_of_known known)) later ≡ number_found known (found_or file behind (Some text))
  present-step known file id behind later is same text stands = ap (λ now. present_or id now later) (presence-is known id ∙ ap (option_map (λ (one : FileId). is_some (lines_at known id))) (agree.file known file id is)) ∙ by text stands
    where
      by : (text : Text) → lines_at known id ≡ text → present_or id (Some (is_some (lines_at known id))) later ≡ number_found known (found_or file behind (Some text))
      by None stands = ap (λ (one : Text). present_or id (Some (is_some one)) later) stands ∙ same
      by (Some lines) stands = ap (λ (one : Text). present_or id (Some (is_some one)) later) stands ∙ sym is

  found-step : (known : Known) (file : FileId) (behind : Found) (later : Option ℕ) → later ≡ number_found known behind → here_or (id_of known file) (presence (items_of_known known)) later ≡ number_found known (found_or file behind (known_map known file))
  found-step known file behind later same = by (id_of known file) refl ∙ ap (λ text. number_found known (found_or file behind text)) (sym (agree.map known file))
    where
      by : (number : Option ℕ) → id_of known file ≡ number → here_or number (presence (items_of_known known)) later ≡ number_found known (found_or file behind (option_map (lines_at known) number))
      by None is = refl
      by (Some id) is = present-step known file id behind later is same (lines_at known id) refl

  among-is : (known : Known) (name : List ℕ) (folders : List Folder) → first_present (numbers_of (items_of_known known) name) (presence (items_of_known known)) folders ≡ number_found known (find_among (known_map known) name folders)
  among-is known name [] = refl
  among-is known name (folder ∷ folders) =
      ap (λ number. here_or number (presence (items_of_known known)) (first_present (numbers_of (items_of_known known) name) (presence (items_of_known known)) folders)) (number-is known (file_in folder name))
      ∙ found-step known (file_in folder name) (find_among (known_map known) name folders) (first_present (numbers_of (items_of_known known) name) (presence (items_of_known known)) folders) (among-is known name folders)

  found-is : (known : Known) (from : Folder) (name : List ℕ) → found (items_of_known known) from name ≡ number_found known (find (known_map known) from name)
  unfolding find
  found-is known from name = among-is known name (folders_of from)

  pub items_agree : (known : Known) → ItemsAgree known
  items_agree known = record { count = count-is known; number = number-is known; file = file-is known; presence = presence-is known; names = names-is known; found = found-is known; children = children-are known; childless = childless known }
