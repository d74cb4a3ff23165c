-- Loading a model: the text blocks of its file become known files beside the model, in order (MPD Language Extension).
-- The limits are this project's own.
use Rattle.std.specs.Prelude.{◌≡◌, ◌++◌, ℕ, List, [], ◌∷◌, Option, Some, None, Result, Ok, Err, ⊤}
use Rattle.ld_names.specs.Standing.{file_in, Known}
use Rattle.ld_names.specs.declared.file.FileId.{FileId}
use Rattle.ld_names.specs.declared.file.Folder.TheVariants.{Model}
use Rattle.ld_texts.specs.Known.{id_of}
use Rattle.ld_texts.specs.Learning.{limit_passed}
use Rattle.ld_texts.specs.declared.change.LearnError.{LearnError}
use Rattle.ld_texts.specs.declared.change.LearnError.TheVariants.{Full as Refused, Memory as NoMemory}
use Rattle.ld_texts.specs.declared.change.Over.{Over}
use Rattle.ld_engine.specs.declared.limits.Limits.{Limits}
use Rattle.ld_engine.specs.declared.loading.LoadError.{LoadError}
use Rattle.ld_engine.specs.declared.loading.LoadError.TheVariants.{Full, Memory}

-- text blocks, each by its name and its lines
abbrev pub Blocks : Type 0
Blocks = List (List ℕ × List (List ℕ))

-- what is loaded, unless a limit is passed
abbrev pub unless_passed : Option Over → Result Known Over → Result Known Over
unless_passed None loaded = loaded
unless_passed (Some over) loaded = Err over

-- what is known once texts are loaded one after another, or the limit that the first one that does not fit would pass
abbrev pub load : Limits → Known → Blocks → Result Known Over
load limits known [] = Ok known
load limits known (text ∷ texts) =
    unless_passed (limit_passed limits.texts limits.total_weight known (Some text.1)) (load limits (known ++ (file_in (Model 1) text.0, Some text.1) ∷ []) texts)

-- the main model is the first text
abbrev pub main_of : Blocks → Option FileId
main_of [] = None
main_of (text ∷ texts) = Some (file_in (Model 1) text.0)

-- all texts are loaded, and the answer is the main model; or a limit is passed, or memory is lacking, and nothing is
-- known
abbrev pub Loads : Limits → Blocks → Known → Result FileId LoadError → Type 0
Loads limits texts known (Ok main) = (load limits [] texts ≡ Ok known) × (main_of texts ≡ Some main)
Loads limits texts known (Err (Full over)) = (load limits [] texts ≡ Err over) × (known ≡ [])
Loads limits texts known (Err Memory) = known ≡ []

-- the same, where what was loaded before a refusal is still known
abbrev pub LoadsUpTo : Limits → Blocks → Known → Result FileId LoadError → Type 0
LoadsUpTo limits texts known (Ok main) = (load limits [] texts ≡ Ok known) × (main_of texts ≡ Some main)
LoadsUpTo limits texts known (Err (Full over)) = load limits [] texts ≡ Err over
LoadsUpTo limits texts known (Err Memory) = ⊤

-- texts are loaded behind what is known
abbrev pub LoadsBehind : Limits → Known → Blocks → Known → Result Unit LoadError → Type 0
LoadsBehind limits old texts new (Ok done) = load limits old texts ≡ Ok new
LoadsBehind limits old texts new (Err (Full over)) = load limits old texts ≡ Err over
LoadsBehind limits old texts new (Err Memory) = ⊤

-- what a refusal to keep a file means
abbrev pub load_refused : LearnError → LoadError
load_refused (Refused over) = Full over
load_refused NoMemory = Memory

-- the file is the first that is known, and it is there with these lines
abbrev pub BeginsWith : FileId → List (List ℕ) → Known → Type 0
BeginsWith file lines known = (rest : Known) × (known ≡ (file, Some lines) ∷ rest)

-- no file beside the model has the name of one of these texts
abbrev pub AreNew : Known → Blocks → Type 0
AreNew known [] = ⊤
AreNew known (text ∷ texts) = (id_of known (file_in (Model 1) text.0) ≡ None) × AreNew known texts
