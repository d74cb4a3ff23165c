-- A text outside the dirt of an edit is the same, and its names find the same, outside the dirt.
use Rattle.std.proofs.Common.{◌≡◌, ◌≢◌, ◌||◌, ℕ, Bool, true, false, List, [], ◌∷◌, Option, Some, None, ap, refl, sym, ◌∙◌, subst, inl, inr, option_map, unwrap_or, arith, tests}
use Rattle.std.specs.List.{Contains}
use Rattle.std.specs.Option.{is_some}
use Rattle.ld_names.specs.Finding.{FindsExactly, IsFileEquality}
use Rattle.ld_names.specs.Standing.{Found, Known, Map, Present, Text, file_in, find, find_among, folders_of, found_or, known_map, same_file}
use Rattle.ld_names.specs.declared.file.FileId.{FileId}
use Rattle.ld_names.specs.declared.file.Folder.{Folder}
use Rattle.ld_texts.specs.EditLaws.{EditLaws}
use Rattle.ld_texts.specs.Editing.{AreKnown, edited, files_in, names}
use Rattle.ld_texts.specs.Known.{AreDistinct, file_at as known_file, id_of, lines_at}
use Rattle.ld_texts.specs.Laws.{NumbersAgree}
use Rattle.ld_texts.specs.Learning.{Apply}
use Rattle.ld_texts.specs.declared.edit.Edit.{Edit}
use Rattle.ld_texts.specs.declared.edit.Edit.TheVariants.{Set, Insert, Delete, New, Restore, Drop, Move}
use Rattle.ld_graph.specs.Agreeing.{graph_change, editing_of, items_of_known, names_among, number_in}
use Rattle.ld_graph.specs.AgreeingLaws.{CleanTextsStay, FindsClean, IsDirtied, ItemsLaws, StaysClean, number_found}
use Rattle.ld_graph.specs.Changing.{IsChanged, NamesText}
use Rattle.ld_graph.specs.Items.{found, presence, web_of}
use Rattle.ld_graph.specs.Laws.{OthersStay, OutsideDirt}
use Rattle.ld_graph.specs.Seen.{changed_by}
use Rattle.ld_graph.specs.Web.{Refers}
use Rattle.ld_graph.proofs.FoundBy.{contains_found}
use Rattle.ld_graph.proofs.Listed.{here, there}

-- ---- the same look-ups

-- a look-up asks of the files whether they are known, and then whether they are there
said-or : (file : FileId) (behind : Found) (one other : Option Text) → option_map (λ (text : Text). is_some text) one ≡ option_map (λ (text : Text). is_some text) other → found_or file behind one ≡ found_or file behind other
said-or file behind None None same = refl
said-or file behind None (Some text) same = cc
said-or file behind (Some text) None same = cc
said-or file behind (Some None) (Some None) same = refl
said-or file behind (Some None) (Some (Some lines)) same = cc
said-or file behind (Some (Some lines)) (Some None) same = cc
said-or file behind (Some (Some lines)) (Some (Some others)) same = refl

abbrev SaySame : Map → Map → List ℕ → Folder → Type 0
SaySame map other name folder = option_map (λ (text : Text). is_some text) (map (file_in folder name)) ≡ option_map (λ (text : Text). is_some text) (other (file_in folder name))

among-same : (map other : Map) (name : List ℕ) (folders : List Folder) → ((folder : Folder) → Contains folders folder → SaySame map other name folder) → find_among map name folders ≡ find_among other name folders
among-same map other name [] same = refl
among-same map other name (folder ∷ folders) same =
    said-or (file_in folder name) (find_among map name folders) (map (file_in folder name)) (other (file_in folder name)) (same folder (here folder folders))
    ∙ ap (λ behind. found_or (file_in folder name) behind (other (file_in folder name))) (among-same map other name folders (λ one c. same one (there one folder folders c)))

find-same : (map other : Map) (from : Folder) (name : List ℕ) → ((folder : Folder) → Contains (folders_of from) folder → SaySame map other name folder) → find map from name ≡ find other from name
unfolding find
find-same map other from name same = among-same map other name (folders_of from) same

stable : (one other : Bool) → (Some one ≢ Some other → ⊥) → one ≡ other
stable true true not = refl
stable false false not = refl
stable true false not = absurd (not (λ e. cc))
stable false true not = absurd (not (λ e. cc))

pub edit-changes : ItemsLaws → (known : Known) (edit : Edit) → AreKnown known (files_in edit) → IsChanged (items_of_known known) (items_of_known (edited known edit)) (changed_by (editing_of known edit))
unfolding graph_change
edit-changes laws known edit are = (laws.change known (Apply edit 0) are).changed

module _ (numbers : NumbersAgree) (files : IsFileEquality) (known : Known) (distinct : AreDistinct known) where
  -- ---- the files that an edit names are changed

  number-same : (text : ℕ) (file other : FileId) → known_file known text ≡ Some file → same_file other file ≡ true → number_in known other ≡ text
  number-same text file other at same = ap (λ one. number_in known one) ((files.same other file).0 same) ∙ ap (λ o. unwrap_or o 0) (numbers.number known file text distinct at)

  one-changed : (text : ℕ) (file other : FileId) → known_file known text ≡ Some file → (same_file other file || false) ≡ true → Contains (number_in known other ∷ []) text
  one-changed text file other at named = let same : same_file other file ≡ true = grind (arith, tests, named) in subst (λ n. Contains (n ∷ []) text) (sym (number-same text file other at same)) (here text [])

  either-changed : (text : ℕ) (file from to : FileId) → known_file known text ≡ Some file → (same_file from file || (same_file to file || false)) ≡ true → Contains (number_in known from ∷ number_in known to ∷ []) text
  either-changed text file from to at named = by (same_file from file) refl
    where
      by : (b : Bool) → same_file from file ≡ b → Contains (number_in known from ∷ number_in known to ∷ []) text
      by true is = subst (λ n. Contains (n ∷ number_in known to ∷ []) text) (sym (number-same text file from at is)) (here text (number_in known to ∷ []))
      by false is =
          let same : (same_file to file || false) ≡ true = grind (arith, tests, named, is) in
          there text (number_in known from) (number_in known to ∷ []) (one-changed text file to at same)

  named-changed : (edit : Edit) (text : ℕ) (file : FileId) → known_file known text ≡ Some file → names edit file ≡ true → Contains (changed_by (editing_of known edit)) text
  named-changed (Set one line bytes) text file at named = one-changed text file one at named
  named-changed (Insert one line bytes) text file at named = one-changed text file one at named
  named-changed (Delete one line) text file at named = one-changed text file one at named
  named-changed (New one) text file at named = one-changed text file one at named
  named-changed (Restore one lines) text file at named = one-changed text file one at named
  named-changed (Drop one) text file at named = one-changed text file one at named
  named-changed (Move from to) text file at named = either-changed text file from to at named

module _ (numbers : NumbersAgree) (files : IsFileEquality) (lookups : FindsExactly) (laws : ItemsLaws) (edits : EditLaws) (stay : OthersStay) (known : Known) (edit : Edit) (distinct : AreDistinct known) (are : AreKnown known (files_in edit)) (text : ℕ) (file : FileId) (at : known_file known text ≡ Some file) (clean : IsDirtied known edit text → ⊥) where
  same-text : known_map (edited known edit) file ≡ known_map known file
  same-text = by (names edit file) refl
    where
      by : (named : Bool) → names edit file ≡ named → known_map (edited known edit) file ≡ known_map known file
      by false is = (edits known edit).0.others file is
      by true is = absurd (clean (inl ([], tt, inl (named-changed numbers files known distinct edit text file at is))))

  there-is : (all : Known) (id : ℕ) (one : FileId) → known_file all id ≡ Some one → presence (items_of_known all) id ≡ Some (is_some (lines_at all id))
  there-is all id one is = (laws.agree all).presence id ∙ ap (option_map (λ (f : FileId). is_some (lines_at all id))) is

  module _ (lines : List (List ℕ)) (stands : lines_at known text ≡ Some lines) (name : List ℕ) (named : Contains (names_among lines) name) where
    names-text : (folder : Folder) → Contains (folders_of file.folder) folder → (other : ℕ) → id_of known (file_in folder name) ≡ Some other → NamesText (items_of_known known) text other
    names-text folder looks other is = record {
      from = file;
      file = file_in folder name;
      names = names_among lines;
      from_is = (laws.agree known).file text ∙ at;
      file_is = (laws.agree known).file other ∙ numbers.file known (file_in folder name) other is;
      names_are = (laws.agree known).names text ∙ ap (option_map names_among) stands;
      named = named;
      looked_in = looks;
    }

    say-same : (folder : Folder) → Contains (folders_of file.folder) folder → SaySame (known_map (edited known edit)) (known_map known) name folder
    say-same folder looks = by (id_of known (file_in folder name)) refl
      where
        said : (all : Known) (number : Option ℕ) → id_of all (file_in folder name) ≡ number → option_map (λ (t : Text). is_some t) (known_map all (file_in folder name)) ≡ option_map (λ id. is_some (lines_at all id)) number
        said all number is = ap (option_map (λ (t : Text). is_some t)) (numbers.map all (file_in folder name) ∙ ap (option_map (lines_at all)) is) ∙ of number
          where
            of : (one : Option ℕ) → option_map (λ (t : Text). is_some t) (option_map (lines_at all) one) ≡ option_map (λ id. is_some (lines_at all id)) one
            of None = refl
            of (Some id) = refl

        by : (number : Option ℕ) → id_of known (file_in folder name) ≡ number → SaySame (known_map (edited known edit)) (known_map known) name folder
        by None is = said (edited known edit) None ((edits known edit).0.id (file_in folder name) ∙ is) ∙ sym (said known None is)
        by (Some other) is =
            let found = numbers.file known (file_in folder name) other is in
            let before = there-is known other (file_in folder name) found in
            let after = there-is (edited known edit) other (file_in folder name) ((edits known edit).0.file other ∙ found) in
            let same : is_some (lines_at known other) ≡ is_some (lines_at (edited known edit) other) =
            stable (is_some (lines_at known other)) (is_some (lines_at (edited known edit) other)) (λ differ. clean (inl ([], tt, inr (other, (λ e. differ (sym before ∙ e ∙ after)), names-text folder looks other is)))) in
            said (edited known edit) (Some other) ((edits known edit).0.id (file_in folder name) ∙ is) ∙ ap Some (sym same) ∙ sym (said known (Some other) is)

    refers : (other : ℕ) → found (items_of_known known) file.folder name ≡ Some other → Refers (web_of (items_of_known known)) text other
    refers other is =
        subst (λ children. Contains (unwrap_or children []) other) (sym ((laws.agree known).children text file lines at stands))
        (contains_found (found (items_of_known known) file.folder) (names_among lines) name other named is)

    find-clean : (target : FileId) → find (known_map known) file.folder name ≡ Present target → (other : ℕ) × (id_of known target ≡ Some other) × (IsDirtied known edit other → ⊥)
    find-clean target is = by (id_of known target) refl
      where
        outside : OutsideDirt (items_of_known known) (items_of_known (edited known edit)) (changed_by (editing_of known edit)) text
        outside = stay (items_of_known known) (items_of_known (edited known edit)) (changed_by (editing_of known edit)) text (edit-changes laws known edit are) clean

        by : (number : Option ℕ) → id_of known target ≡ number → (other : ℕ) × (id_of known target ≡ Some other) × (IsDirtied known edit other → ⊥)
        by None none = let stands = ((lookups.present (known_map known) file.folder name target).0 is).2 in absurd (grind (arith, tests, stands.1, numbers.map known target, none))
        by (Some other) some =
            let found-is : found (items_of_known known) file.folder name ≡ Some other = (laws.agree known).found file.folder name ∙ ap (number_found known) is ∙ some in
            (other, some, outside.clean other (subst (λ children. Contains (unwrap_or children []) other) outside.children (refers other found-is)))

  finds-clean : (lines : List (List ℕ)) → lines_at known text ≡ Some lines → FindsClean known edit file.folder lines
  finds-clean lines stands = record { finds = λ name named. find-same (known_map (edited known edit)) (known_map known) file.folder name (say-same lines stands name named); clean = λ name target named is. find-clean lines stands name named target is }

  stays-clean : StaysClean known edit text file
  stays-clean = record { same = same-text; finds = finds-clean }

pub clean_texts_stay : NumbersAgree → IsFileEquality → FindsExactly → ItemsLaws → EditLaws → OthersStay → CleanTextsStay
clean_texts_stay numbers files lookups laws edits stay known edit text file distinct are at clean = stays-clean numbers files lookups laws edits stay known edit distinct are text file at clean
