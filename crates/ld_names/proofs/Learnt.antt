-- What learning a file changes of what is known.
use Rattle.std.proofs.Common.{◌≡◌, Bool, true, false, cond, [], ◌∷◌, ◌++◌, Option, Some, None, refl, ap, sym, ◌∙◌}
use Rattle.std.specs.Map.{lookup}
use Rattle.std.specs.Option.{option_or, unwrap_or}
use Rattle.ld_names.specs.declared.file.FileId.{FileId}
use Rattle.ld_names.specs.Finding.{LearningAdds, LearningKeeps, LearningStays}
use Rattle.ld_names.specs.Standing.{Known, Text, known_map, same_file, standing}
use Rattle.ld_names.proofs.Same.{same_file-true}

lookup-push : (test : FileId → Bool) (known : Known) (learnt : FileId) (text : Text) → lookup test (known ++ (learnt, text) ∷ []) ≡ option_or (lookup test known) (cond (test learnt) (Some text) None)
lookup-push test [] learnt text = refl
lookup-push test (first ∷ known) learnt text =
    elim (test first.0) as (λ b. cond b (Some first.1) (lookup test (known ++ (learnt, text) ∷ [])) ≡ option_or (cond b (Some first.1) (lookup test known)) (cond (test learnt) (Some text) None)) [ true ↦ refl | false ↦ lookup-push test known learnt text ]

pub learning_adds : LearningAdds
unfolding known_map
learning_adds known learnt text file = lookup-push (same_file file) known learnt text

pub learning_keeps : LearningKeeps
learning_keeps known learnt text file old is =
    learning_adds known learnt text file ∙ ap (λ (now : Option Text). option_or now (cond (same_file file learnt) (Some text) None)) is

stands : (shelf : FileId → Text) (learnt file : FileId) (now : Option Text) (same : Bool) → same_file file learnt ≡ same → unwrap_or (option_or now (cond same (Some (shelf learnt)) None)) (shelf file) ≡ unwrap_or now (shelf file)
stands shelf learnt file (Some text) same is = refl
stands shelf learnt file None true is = ap shelf (sym (same_file-true file learnt is))
stands shelf learnt file None false is = refl

pub learning_stays : LearningStays
unfolding standing
learning_stays known shelf learnt file unknown =
    ap Some (ap (λ text. unwrap_or text (shelf file)) (learning_adds known learnt (shelf learnt) file) ∙ stands shelf learnt file (known_map known file) (same_file file learnt) refl)
