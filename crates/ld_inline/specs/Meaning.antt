-- What an inlined text is read as: its lines as the only text there is, expanded in the main colour (File Format 1.0.2,
-- Back Face Culling Language Extension), and its steps.
use Rattle.std.specs.Prelude.{◌≡◌, ◌≤◌, ℕ, All, List, [], ◌∷◌, length, map, Some, Ok}
use Rattle.ld_names.specs.Standing.{file_in}
use Rattle.ld_names.specs.declared.file.Folder.TheVariants.{Model}
use Rattle.ld_names.specs.declared.file.TextId.{TextId}
use Rattle.ld_line.specs.Cut.{lines_of}
use Rattle.ld_colour.specs.Table.{Counting}
use Rattle.ld_colour.specs.declared.colour.Colour.TheVariants.{Main}
use Rattle.ld_entry.specs.Answers.{answer, outcome_counts}
use Rattle.ld_entry.specs.Lawful.{IsLawfulEntry}
use Rattle.ld_entry.specs.NumberedTexts.{known_texts, NumberedTexts}
use Rattle.ld_entry.specs.declared.entry.Entry.{Entry}
use Rattle.ld_steps.specs.Parts.{step_parts}
use Rattle.ld_steps.specs.declared.step.StepPart.{StepPart}
use Rattle.ld_inline.specs.Flat.{flat, Flat, shape_of, shapes_of}

-- these lines as the one text there is, under a name in the model's folder
abbrev pub only_text : List ℕ → List (List ℕ) → NumberedTexts
only_text name lines = known_texts ((file_in (Model 1) name, Some lines) ∷ [])

abbrev pub first_text : TextId
first_text = record { 0 = 0 }

-- texts whose first one is answered, on a way of one file, with these entries, but for their sources, and these steps
pub record ReadsAs (meaning : Flat) (texts : NumberedTexts) (most : ℕ) : Type 0 where
  pub entries : List Entry
  pub answered : answer texts 1 most first_text Main ≡ Ok entries
  pub same_entries : map shape_of entries ≡ map Some meaning.shapes
  pub same_steps : step_parts (texts.lines first_text) (outcome_counts texts 1 first_text Main) ≡ meaning.steps

-- what bytes mean, where the entries are lawful and all drawn ones may be answered
abbrev pub MeansFlat : List Entry → List StepPart → Counting → List ℕ → Type 0
MeansFlat entries steps table bytes =
    All IsLawfulEntry entries → (name : List ℕ) (most : ℕ) → length (shapes_of entries) ≤ most → ReadsAs (flat entries steps table) (only_text name (lines_of bytes)) most
