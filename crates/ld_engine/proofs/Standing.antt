-- Learning leaves the texts as they stand.
use Rattle.std.proofs.Common.{◌≡◌, ◌++◌, ℕ, zero, suc, Bool, true, false, cond, List, [], ◌∷◌, length, Option, Some, None, Result, Ok, Err, refl, ap, sym, ◌∙◌}
use Rattle.std.specs.Prelude.{nat_lt, option_map, slice_get, ⊤}
use Rattle.ld_io.specs.Shelf.{Files}
use Rattle.ld_names.specs.Finding.{FindsExactly, LearningStays}
use Rattle.ld_names.specs.Standing.{Absent, find, Found, Known, known_map, Present, standing, Text, Unknown}
use Rattle.ld_names.specs.declared.file.FileId.{FileId}
use Rattle.ld_names.specs.declared.file.Folder.{Folder}
use Rattle.ld_line.specs.Reading.{line_of}
use Rattle.ld_line.specs.declared.line.Line.{Line}
use Rattle.ld_line.specs.declared.line.Line.TheVariants as line
use Rattle.ld_texts.specs.Known.{file_at, id_of, lines_at}
use Rattle.ld_texts.specs.Laws.{NumbersAgree}
use Rattle.ld_texts.specs.Learning.{weight_passed}
use Rattle.ld_texts.specs.Reach.{file_reaches, going_on, line_reaches, lines_in, lines_reach, reach, Reached, reached_by, Reaches, texts_reach, wanted, wanted_in, Wants, with_found}
use Rattle.ld_texts.specs.declared.change.Over.{Over}
use Rattle.ld_engine.specs.Laws.{LearningStands}
use Rattle.ld_engine.specs.Learning.{bytes_on, fetched, learning_by, Stop, text_by, text_on, TooBig, unless_over, wanted_for, Wanting}
use Rattle.ld_engine.specs.declared.limits.Limits.{Limits}
use Rattle.ld_engine.proofs.Grown.{learning-keeps}

-- ---- What is wanted is not known.

module _ (known : Known) where
  abbrev IsNew : Reached → Type 0
  IsNew (Wants file) = known_map known file ≡ None
  IsNew (Reaches texts) = ⊤

  going-new : (further : List ℕ → Reached) → ((texts : List ℕ) → IsNew (further texts)) → (reached : Reached) → IsNew reached → IsNew (going_on further reached)
  going-new further all (Wants file) new = new
  going-new further all (Reaches texts) new = all texts

  number-new : (texts : List ℕ) (id : Option ℕ) → IsNew (with_found texts id)
  number-new texts None = tt
  number-new texts (Some id) = tt

  module _ (finds : FindsExactly) where
    name-new : (from : Folder) (texts name : List ℕ) (found : Found) → find (known_map known) from name ≡ found → IsNew (reached_by known texts name found)
    name-new from texts name (Present file) is = number-new texts (id_of known file)
    name-new from texts name Absent is = tt
    name-new from texts name (Unknown folder) is = ((finds.unknown (known_map known) from name folder).0 is).1

    line-new : (from : Folder) (texts : List ℕ) (l : Line) → IsNew (line_reaches known from texts l)
    line-new from texts (line.Ref word placement (Some name)) = name-new from texts name (find (known_map known) from name) refl
    line-new from texts l = tt

    lines-new : (from : Folder) (texts : List ℕ) (lines : List (List ℕ)) → IsNew (lines_reach known from texts lines)
    lines-new from texts [] = tt
    lines-new from texts (l ∷ lines) =
        going-new (λ more. lines_reach known from more lines) (λ more. lines-new from more lines) (line_reaches known from texts (line_of l)) (line-new from texts (line_of l))

    file-new : (texts : List ℕ) (file : Option FileId) (text : Text) → IsNew (file_reaches known texts file text)
    file-new texts None text = tt
    file-new texts (Some file) text = lines-new file.folder texts (lines_in text)

    texts-new : (left place : ℕ) (texts : List ℕ) → IsNew (texts_reach left known place texts)
    texts-new zero place texts = tt
    texts-new (suc left) place texts = by (texts-new left (suc place)) (slice_get texts place)
      where
        by : ((more : List ℕ) → IsNew (texts_reach left known (suc place) more)) → (at : Option ℕ) → IsNew (elim at [ None ↦ Reaches texts | Some id ↦ going_on (texts_reach left known (suc place)) (file_reaches known texts (file_at known id) (lines_at known id)) ])
        by further None = tt
        by further (Some id) = going-new (texts_reach left known (suc place)) further (file_reaches known texts (file_at known id) (lines_at known id)) (file-new texts (file_at known id) (lines_at known id))

    reach-new : NumbersAgree → (root : FileId) → IsNew (reach known root)
    unfolding reach
    reach-new numbers root = by (id_of known root) refl
      where
        by : (id : Option ℕ) → id_of known root ≡ id → IsNew (elim id [ None ↦ Wants root | Some id ↦ texts_reach (length known) known 0 (id ∷ []) ])
        by None none = numbers.map known root ∙ ap (option_map (lines_at known)) none
        by (Some id) some = texts-new (length known) 0 (id ∷ [])

  wanted-is : (file : FileId) (reached : Reached) → wanted_in reached ≡ Some file → IsNew reached → known_map known file ≡ None
  wanted-is file (Wants other) is new = let same : other ≡ file = cc in ap (known_map known) (sym same) ∙ new
  wanted-is file (Reaches texts) is new = absurd (cc)

wanted-new : NumbersAgree → FindsExactly → (root : FileId) (known : Known) (file : FileId) → wanted known root ≡ Some file → known_map known file ≡ None
wanted-new numbers finds root known file is = wanted-is known file (reach known root) is (reach-new known finds numbers root)

-- ---- What is fetched is what the shelf has.

under-is : (passed : Option Over) (text given : Text) → unless_over passed text ≡ Ok given → given ≡ text
under-is None text given is = cc
under-is (Some over) text given is = absurd (cc)

small-is : (big : Bool) (stop : Stop) (fits : Result Text Stop) (given : Text) → cond big (Err stop) fits ≡ Ok given → fits ≡ Ok given
small-is true stop fits given is = absurd (cc)
small-is false stop fits given is = is

fetched-is : (limits : Limits) (known : Known) (file : FileId) (bytes : Option (List ℕ)) (text : Text) → fetched limits known file bytes ≡ Ok text → text ≡ text_by file bytes
fetched-is limits known file None text is = under-is (weight_passed limits.total_weight known None) None text is
fetched-is limits known file (Some bytes) text is =
    let passed : Option Over = weight_passed limits.total_weight known (text_by file (Some bytes)) in
    under-is passed (text_by file (Some bytes)) text (small-is (nat_lt limits.file_bytes (length bytes)) (TooBig file) (unless_over passed (text_by file (Some bytes))) text is)

-- ---- So learning leaves the texts as they stand.

-- what is wanted is not known
abbrev pub WantsNew : Wanting → Type 0
WantsNew wants = (known : Known) (file : FileId) → wants known ≡ Some file → known_map known file ≡ None

module _ (stays : LearningStays) (limits : Limits) (files : Files) (wants : Wanting) (new : WantsNew wants) where
  abbrev Stands : Known → Known → Type 0
  Stands old now = (file : FileId) → standing (known_map now) (text_on files) file ≡ standing (known_map old) (text_on files) file

  step-stands : (old known : Known) (next : FileId) (text : Text) → wants known ≡ Some next → fetched limits known next (bytes_on files next) ≡ Ok text → Stands old known → Stands old (known ++ (next, text) ∷ [])
  step-stands old known next text is told stood file =
      let same : text ≡ text_on files next = fetched-is limits known next (bytes_on files next) text told in
      ap (λ t. standing (known_map (known ++ (next, t) ∷ [])) (text_on files) file) same
      ∙ stays known (text_on files) next file (new known next is) ∙ stood file

  pub learning_by-stands : (known : Known) → Stands known (learning_by limits files wants known).known
  learning_by-stands known = learning-keeps limits files wants (Stands known) (step-stands known) known (λ file. refl)

pub learning-stands : NumbersAgree → FindsExactly → LearningStays → LearningStands
learning-stands numbers finds stays limits files root known = learning_by-stands stays limits files (wanted_for root) (wanted-new numbers finds root) known
