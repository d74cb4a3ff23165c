-- What a look-up finds, by induction on the folders.
use Rattle.std.proofs.Common.{◌≡◌, ◌≢◌, ℕ, List, [], ◌∷◌, ◌++◌, All, Option, Some, None, refl, ap, sym, subst, ◌∙◌}
use Rattle.std.proofs.lemmas.List.Elements.{All-nil, All-cons, All-head, All-tail}
use Rattle.std.specs.Option.{unwrap_or}
use Rattle.ld_names.specs.declared.file.FileId.{FileId}
use Rattle.ld_names.specs.declared.file.Folder.{Folder}
use Rattle.ld_names.specs.declared.file.Folder.TheVariants.{Model, Parts, P}
use Rattle.ld_names.specs.Finding.{DocumentsApart, FindStays, FindsExactly, IsReached, IsThere, Lacks, NothingUnknown, SaySame, SaysMore}
use Rattle.ld_names.specs.Standing.{Map, Text, Found, Present, Absent, Unknown, file_in, find, find_among, folders_of, found_or, standing}

-- the file that was found
abbrev file_of : FileId → Found → FileId
file_of other (Present file) = file
file_of other Absent = other
file_of other (Unknown folder) = other

-- the folder that is unknown
abbrev folder_of : Folder → Found → Folder
folder_of other (Present file) = other
folder_of other Absent = other
folder_of other (Unknown folder) = folder

module _ (known : Map) (name : List ℕ) where
  here : (folder : Folder) (folders : List Folder) → IsReached known name (folder ∷ folders) folder
  here folder folders = record { before = []; behind = folders; order = refl; lacked = All-nil (Lacks known name) }

  further : (first : Folder) (folders : List Folder) (folder : Folder) → Lacks known name first → IsReached known name folders folder → IsReached known name (first ∷ folders) folder
  further first folders folder lacks reached =
      record { before = first ∷ reached.before; behind = reached.behind; order = ap (λ (fs : List Folder). first ∷ fs) reached.order; lacked = All-cons (Lacks known name) first reached.before lacks reached.lacked }

  -- what comes behind folders that lack the name is what is found
  passed : (before rest : List Folder) → All (Lacks known name) before → find_among known name (before ++ rest) ≡ find_among known name rest
  passed [] rest lacked = refl
  passed (folder ∷ before) rest lacked =
      ap (found_or (file_in folder name) (find_among known name (before ++ rest))) (All-head (Lacks known name) folder before lacked) ∙ passed before rest (All-tail (Lacks known name) folder before lacked)

  reached-is : (folders : List Folder) (folder : Folder) (says : Option Text) (reached : IsReached known name folders folder) → known (file_in folder name) ≡ says → find_among known name folders ≡ found_or (file_in folder name) (find_among known name reached.behind) says
  reached-is folders folder says reached is =
      ap (find_among known name) reached.order ∙ passed reached.before (folder ∷ reached.behind) reached.lacked ∙ ap (found_or (file_in folder name) (find_among known name reached.behind)) is

  abbrev IsPresent : List Folder → FileId → Type 0
  IsPresent folders file = (file.name ≡ name) × IsReached known name folders file.folder × IsThere known file

  present-step : (first : Folder) (folders : List Folder) (file : FileId) (says : Option Text) → known (file_in first name) ≡ says → (find_among known name folders ≡ Present file → IsPresent folders file) → found_or (file_in first name) (find_among known name folders) says ≡ Present file → IsPresent (first ∷ folders) file
  present-step first folders file None is rest found = cc
  present-step first folders file (Some None) is rest found = let behind = rest found in (behind.0, further first folders file.folder is behind.1, behind.2)
  present-step first folders file (Some (Some lines)) is rest found =
      subst (IsPresent (first ∷ folders)) (ap (file_of file) found) (refl, here first folders, (lines, is))

  present-by : (folders : List Folder) (file : FileId) → find_among known name folders ≡ Present file → IsPresent folders file
  present-by [] file found = cc
  present-by (first ∷ folders) file found = present-step first folders file (known (file_in first name)) refl (present-by folders file) found

  present-from : (folders : List Folder) (file : FileId) → IsPresent folders file → find_among known name folders ≡ Present file
  present-from folders file is =
      let same : file_in file.folder name ≡ file = ap (file_in file.folder) (sym is.0) in
      reached-is folders file.folder (Some (Some is.2.0)) is.1 (ap known same ∙ is.2.1) ∙ ap Present same

  abbrev IsUnknown : List Folder → Folder → Type 0
  IsUnknown folders folder = IsReached known name folders folder × (known (file_in folder name) ≡ None)

  unknown-step : (first : Folder) (folders : List Folder) (folder : Folder) (says : Option Text) → known (file_in first name) ≡ says → (find_among known name folders ≡ Unknown folder → IsUnknown folders folder) → found_or (file_in first name) (find_among known name folders) says ≡ Unknown folder → IsUnknown (first ∷ folders) folder
  unknown-step first folders folder None is rest found = subst (IsUnknown (first ∷ folders)) (ap (folder_of folder) found) (here first folders, is)
  unknown-step first folders folder (Some None) is rest found = let behind = rest found in (further first folders folder is behind.0, behind.1)
  unknown-step first folders folder (Some (Some lines)) is rest found = cc

  unknown-by : (folders : List Folder) (folder : Folder) → find_among known name folders ≡ Unknown folder → IsUnknown folders folder
  unknown-by [] folder found = cc
  unknown-by (first ∷ folders) folder found = unknown-step first folders folder (known (file_in first name)) refl (unknown-by folders folder) found

  absent-step : (first : Folder) (folders : List Folder) (says : Option Text) → known (file_in first name) ≡ says → (find_among known name folders ≡ Absent → All (Lacks known name) folders) → found_or (file_in first name) (find_among known name folders) says ≡ Absent → All (Lacks known name) (first ∷ folders)
  absent-step first folders None is rest found = cc
  absent-step first folders (Some None) is rest found = All-cons (Lacks known name) first folders is (rest found)
  absent-step first folders (Some (Some lines)) is rest found = cc

  absent-by : (folders : List Folder) → find_among known name folders ≡ Absent → All (Lacks known name) folders
  absent-by [] found = All-nil (Lacks known name)
  absent-by (first ∷ folders) found = absent-step first folders (known (file_in first name)) refl (absent-by folders) found

  absent-from : (folders : List Folder) → All (Lacks known name) folders → find_among known name folders ≡ Absent
  absent-from [] lacked = refl
  absent-from (first ∷ folders) lacked =
      ap (found_or (file_in first name) (find_among known name folders)) (All-head (Lacks known name) first folders lacked) ∙ absent-from folders (All-tail (Lacks known name) first folders lacked)

  module _ (more : Map) where
    abbrev IsFound : List Folder → Type 0
    IsFound folders = (folder : Folder) → find_among known name folders ≢ Unknown folder

    more-step : (first : Folder) (folders : List Folder) (says : Option Text) → known (file_in first name) ≡ says → SaysMore known more → (IsFound folders → find_among more name folders ≡ find_among known name folders) → IsFound (first ∷ folders) → find_among more name (first ∷ folders) ≡ find_among known name (first ∷ folders)
    more-step first folders None is says rest never = absurd (never first (ap (found_or (file_in first name) (find_among known name folders)) is))
    more-step first folders (Some None) is says rest never =
        let step : find_among known name (first ∷ folders) ≡ find_among known name folders = ap (found_or (file_in first name) (find_among known name folders)) is in
        ap (found_or (file_in first name) (find_among more name folders)) (says (file_in first name) None is) ∙ rest (λ folder unknown. never folder (step ∙ unknown)) ∙ sym step
    more-step first folders (Some (Some lines)) is says rest never =
        ap (found_or (file_in first name) (find_among more name folders)) (says (file_in first name) (Some lines) is) ∙ sym (ap (found_or (file_in first name) (find_among known name folders)) is)

    more-stays : SaysMore known more → (folders : List Folder) → IsFound folders → find_among more name folders ≡ find_among known name folders
    more-stays says [] never = refl
    more-stays says (first ∷ folders) never = more-step first folders (known (file_in first name)) refl says (more-stays says folders) never

    others-stay : (folders : List Folder) → All (SaySame known more name) folders → find_among more name folders ≡ find_among known name folders
    others-stay [] same = refl
    others-stay (first ∷ folders) same =
        ap (found_or (file_in first name) (find_among more name folders)) (All-head (SaySame known more name) first folders same)
        ∙ ap (λ (behind : Found). found_or (file_in first name) behind (known (file_in first name))) (others-stay folders (All-tail (SaySame known more name) first folders same))

pub finds_exactly : FindsExactly
unfolding find
finds_exactly = record {
  present = λ known from name file. (present-by known name (folders_of from) file, present-from known name (folders_of from) file);
  unknown = λ known from name folder. (unknown-by known name (folders_of from) folder, λ is. reached-is known name (folders_of from) folder None is.0 is.1);
  absent = λ known from name. (absent-by known name (folders_of from), absent-from known name (folders_of from));
}

pub find_stays : FindStays
unfolding find
find_stays = record {
  more = λ known more from name says never. more-stays known name more says (folders_of from) never;
  others = λ known other from name same. others-stay known name other (folders_of from) same;
}

-- where the folder is a document's, it is that document's file that looks
abbrev IsOwn : Folder → Folder → Type 0
IsOwn from folder = (document : ℕ) → folder ≡ Model document → from ≡ Model document

own-library : (from : Folder) → All (IsOwn from) (Parts ∷ P ∷ [])
own-library from = All-cons (IsOwn from) Parts (P ∷ []) (λ document is. cc) (All-cons (IsOwn from) P [] (λ document is. cc) (All-nil (IsOwn from)))

own-folders : (from : Folder) → All (IsOwn from) (folders_of from)
unfolding folders_of
own-folders (Model k) = All-cons (IsOwn (Model k)) (Model k) (Parts ∷ P ∷ []) (λ document is. is) (own-library (Model k))
own-folders Parts = own-library Parts
own-folders P = own-library P

own-behind : (from : Folder) (before behind : List Folder) → All (IsOwn from) (before ++ behind) → All (IsOwn from) behind
own-behind from [] behind own = own
own-behind from (first ∷ before) behind own = own-behind from before behind (All-tail (IsOwn from) first (before ++ behind) own)

own-reached : (known : Map) (from : Folder) (name : List ℕ) (document : ℕ) → IsReached known name (folders_of from) (Model document) → from ≡ Model document
own-reached known from name document reached =
    All-head (IsOwn from) (Model document) reached.behind (own-behind from reached.before (Model document ∷ reached.behind) (subst (All (IsOwn from)) reached.order (own-folders from))) document refl

pub documents_apart : DocumentsApart
documents_apart = record {
  present = λ known from name found document is. own-reached known from name document ((finds_exactly.present known from name (file_in (Model document) found)).0 is).1;
  unknown = λ known from name document is. own-reached known from name document ((finds_exactly.unknown known from name (Model document)).0 is).0;
}

standing-step : (file : FileId) (behind : Found) (text : Text) (folder : Folder) → behind ≢ Unknown folder → found_or file behind (Some text) ≢ Unknown folder
standing-step file behind None folder rest = rest
standing-step file behind (Some lines) folder rest = λ found. cc

standing-among : (known : Map) (shelf : FileId → Text) (name : List ℕ) (folders : List Folder) (folder : Folder) → find_among (standing known shelf) name folders ≢ Unknown folder
unfolding standing
standing-among known shelf name [] folder = λ found. cc
standing-among known shelf name (first ∷ folders) folder =
    standing-step (file_in first name) (find_among (standing known shelf) name folders) (unwrap_or (known (file_in first name)) (shelf (file_in first name))) folder (standing-among known shelf name folders folder)

pub nothing_unknown : NothingUnknown
unfolding find
nothing_unknown known shelf from name folder = standing-among known shelf name (folders_of from) folder
