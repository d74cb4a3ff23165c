-- The main model of a file is the first of the known texts, and every number stays.
use Rattle.std.proofs.Common.{◌≡◌, ◌++◌, ℕ, true, List, [], ◌∷◌, Option, Some, None, Result, Ok, Err, refl, ap, sym, subst, ◌∙◌, append_assoc, append-nil, arith, tests}
use Rattle.ld_io.specs.Shelf.{Files}
use Rattle.ld_mpd.specs.Blocks.{text_blocks, text_of}
use Rattle.ld_mpd.specs.Laws.{TextStands}
use Rattle.ld_names.specs.Finding.{IsFileEquality}
use Rattle.ld_names.specs.Standing.{file_in, Known, known_map, same_file}
use Rattle.ld_names.specs.declared.file.FileId.{FileId}
use Rattle.ld_names.specs.declared.file.Folder.TheVariants.{Model}
use Rattle.ld_texts.specs.EditLaws.{EditLaws}
use Rattle.ld_texts.specs.Known.{id_of}
use Rattle.ld_texts.specs.Laws.{LearningNumbers}
use Rattle.ld_texts.specs.Learning.{limit_passed}
use Rattle.ld_texts.specs.declared.change.Over.{Over}
use Rattle.ld_texts.specs.declared.edit.Edit.{Edit}
use Rattle.ld_engine.specs.Editing.{Edits, EndsEdit}
use Rattle.ld_engine.specs.Laws.{MainIsFirst}
use Rattle.ld_engine.specs.Learning.{LearnsBy, Wanting, learning_by}
use Rattle.ld_engine.specs.Loading.{BeginsWith, Blocks, load, main_of, unless_passed}
use Rattle.ld_engine.specs.declared.editing.EditError.{EditError}
use Rattle.ld_engine.specs.declared.editing.EditError.TheVariants as error
use Rattle.ld_engine.specs.declared.limits.Limits.{Limits}
use Rattle.ld_engine.proofs.Grown.{learning-keeps}
use Rattle.ld_engine.proofs.Loaded.{ok-same}

some-same : {a b : FileId} → Some a ≡ Some b → a ≡ b
some-same is = cc

-- ---- loading adds behind what is known

module _ (limits : Limits) where
  load-adds : (known loaded : Known) (texts : Blocks) → load limits known texts ≡ Ok loaded → (more : Known) × (loaded ≡ known ++ more)
  load-adds known loaded [] is = ([], sym (ok-same is) ∙ sym (append-nil known))
  load-adds known loaded (text ∷ texts) is =
      by (λ loads. load-adds (known ++ (file_in (Model 1) text.0, Some text.1) ∷ []) loaded texts loads) (limit_passed limits.texts limits.total_weight known (Some text.1)) is
    where
      by : (load limits (known ++ (file_in (Model 1) text.0, Some text.1) ∷ []) texts ≡ Ok loaded → (more : Known) × (loaded ≡ (known ++ (file_in (Model 1) text.0, Some text.1) ∷ []) ++ more)) → (passed : Option Over) → unless_passed passed (load limits (known ++ (file_in (Model 1) text.0, Some text.1) ∷ []) texts) ≡ Ok loaded → (more : Known) × (loaded ≡ known ++ more)
      by further None loads =
          let rest = further loads in
          ((file_in (Model 1) text.0, Some text.1) ∷ rest.0, rest.1 ∙ append_assoc known ((file_in (Model 1) text.0, Some text.1) ∷ []) rest.0)
      by further (Some over) loads = absurd (cc)

  load-begins : (text : List ℕ × List (List ℕ)) (texts : Blocks) (known : Known) → load limits [] (text ∷ texts) ≡ Ok known → BeginsWith (file_in (Model 1) text.0) text.1 known
  load-begins text texts known is = by (limit_passed limits.texts limits.total_weight [] (Some text.1)) is
    where
      by : (passed : Option Over) → unless_passed passed (load limits ((file_in (Model 1) text.0, Some text.1) ∷ []) texts) ≡ Ok known → BeginsWith (file_in (Model 1) text.0) text.1 known
      by None loads = load-adds ((file_in (Model 1) text.0, Some text.1) ∷ []) known texts loads
      by (Some over) loads = absurd (cc)

pub main-begins : TextStands → (limits : Limits) (own bytes : List ℕ) (known : Known) (main : FileId) → load limits [] (text_blocks own bytes) ≡ Ok known → main_of (text_blocks own bytes) ≡ Some main → BeginsWith main (text_of own bytes) known
main-begins stands limits own bytes known main loads is =
    let first = stands own bytes in
    let same : file_in (Model 1) first.0 ≡ main = some-same (sym (ap main_of first.2) ∙ is) in
    subst (λ file. BeginsWith file (text_of own bytes) known) same (load-begins limits (first.0, text_of own bytes) first.1 known (subst (λ texts. load limits [] texts ≡ Ok known) first.2 loads))

-- ---- the first file has number 0

first-number : (file : FileId) (lines : List (List ℕ)) (rest : Known) → same_file file file ≡ true → id_of ((file, Some lines) ∷ rest) file ≡ Some 0
unfolding id_of
first-number file lines rest same = grind (arith, tests, same)

first-text : (file : FileId) (lines : List (List ℕ)) (rest : Known) → same_file file file ≡ true → known_map ((file, Some lines) ∷ rest) file ≡ Some (Some lines)
unfolding known_map
first-text file lines rest same = rw same refl

pub begins-says : IsFileEquality → (file : FileId) (lines : List (List ℕ)) (known : Known) → BeginsWith file lines known → (id_of known file ≡ Some 0) × (known_map known file ≡ Some (Some lines))
begins-says equality file lines known (rest, is) =
    let same : same_file file file ≡ true = (equality.same file file).1 refl in
    (ap (λ all. id_of all file) is ∙ first-number file lines rest same, ap (λ all. known_map all file) is ∙ first-text file lines rest same)

begins-grown : (wants : Wanting) (old new : Known) → LearnsBy wants old new → (file : FileId) (lines : List (List ℕ)) → BeginsWith file lines old → BeginsWith file lines new
begins-grown wants old new (entries, grown, are) file lines (rest, is) = (rest ++ entries, grown ∙ ap (λ known. known ++ entries) is)

-- ---- every number stays

module _ (numbers : LearningNumbers) (file : FileId) (id : ℕ) where
  more-known : (old entries : Known) → id_of old file ≡ Some id → id_of (old ++ entries) file ≡ Some id
  more-known old [] is = ap (λ known. id_of known file) (append-nil old) ∙ is
  more-known old (entry ∷ entries) is =
      ap (λ known. id_of known file) (sym (append_assoc old (entry ∷ []) entries)) ∙ more-known (old ++ entry ∷ []) entries ((numbers old entry.0 entry.1).old_id file id is)

  learnt-number : (limits : Limits) (files : Files) (wants : Wanting) (known : Known) → id_of known file ≡ Some id → id_of (learning_by limits files wants known).known file ≡ Some id
  learnt-number limits files wants known is = learning-keeps limits files wants (λ all. id_of all file ≡ Some id) (λ all other text next told. (numbers all other text).old_id file id) known is

  module _ (laws : EditLaws) (limits : Limits) (edit : Edit) (known new : Known) where
    same-number : new ≡ known → id_of known file ≡ Some id → id_of new file ≡ Some id
    same-number same is = ap (λ all. id_of all file) same ∙ is

    ended-number : (result : Result Unit EditError) → EndsEdit limits edit known new result → id_of known file ≡ Some id → id_of new file ≡ Some id
    ended-number (Ok done) ends is = ap (λ all. id_of all file) ends.1.1 ∙ (laws known edit).0.id file ∙ is
    ended-number (Err (error.Refused why)) ends is = same-number ends.1.1 is
    ended-number (Err error.ReadFault) ends is = same-number ends.0 is
    ended-number (Err (error.TooBig big)) ends is = same-number ends.0 is
    ended-number (Err (error.Full over)) ends is = same-number ends.0 is
    ended-number (Err error.Memory) ends is = same-number ends.0 is

  edited-number : EditLaws → (limits : Limits) (edit : Edit) (old new : Known) (result : Result Unit EditError) → Edits limits edit old new result → id_of old file ≡ Some id → id_of new file ≡ Some id
  edited-number laws limits edit old new result edits is =
      let (entries, grown, are) = edits.learns in
      ended-number laws limits edit edits.known new result edits.ends (ap (λ all. id_of all file) grown ∙ more-known old entries is)

pub main-is-first : TextStands → IsFileEquality → LearningNumbers → EditLaws → MainIsFirst
main-is-first stands equality numbers laws = record {
  loaded = main-begins stands;
  says = begins-says equality;
  grown = begins-grown;
  learnt = λ limits files wants known file id. learnt-number numbers file id limits files wants known;
  edits = λ limits edit old new result edits file id. edited-number numbers file id laws limits edit old new result edits;
}
