-- Printed steps and statements are read as those.
use Rattle.std.proofs.Common.{◌≡◌, ℕ, ℤ, Bool, true, false, List, [], ◌∷◌, ◌++◌, cond, codes, bytes_eq, refl, ap, ◌∙◌}
use Rattle.std.specs.List.{All, list_all}
use Rattle.std.proofs.lemmas.Bool.{and_from}
use Rattle.std.proofs.lemmas.List.Elements.{All-nil, All-cons}
use Rattle.ld_num.specs.Text.{PrintsNumerals, dec_text}
use Rattle.ld_line.specs.declared.line.Angles.{Angles}
use Rattle.ld_line.specs.declared.line.BfcWord.TheVariants.{Certify, Clip, NoClip}
use Rattle.ld_line.specs.declared.line.Winding.TheVariants.{Ccw}
use Rattle.ld_line.specs.declared.line.Line.TheVariants.{Bfc, Rot, Step}
use Rattle.ld_line.specs.declared.line.RotWord.{RotWord}
use Rattle.ld_line.specs.declared.line.RotWord.TheVariants.{Abs, Rel, Add, End}
use Rattle.ld_line.specs.Field.{after_fields}
use Rattle.ld_line.specs.Meta.{meta_of, rotation_line, rotation_of, rotation_by}
use Rattle.ld_line.specs.Numbers.{numbers_of}
use Rattle.ld_line.specs.Reading.{line_in, line_of}
use Rattle.ld_line.specs.Word.{is_word, spaced}
use Rattle.ld_line.specs.Printing.{AreAngles, IsDec, IsTurn, angle_words, bfc_line, rotation_words, step_words, turn_words}
use Rattle.ld_line.proofs.Words.{fields_spaced}
use Rattle.ld_line.proofs.Drawn.{dec_is_word, numbers_again}

abbrev angle_values : Angles → List ℤ
angle_values a = a.x ∷ a.y ∷ a.z ∷ []

angles_are_decs : (a : Angles) → AreAngles a → All IsDec (angle_values a)
angles_are_decs a h =
    All-cons IsDec a.x (a.y ∷ a.z ∷ []) h.0 (All-cons IsDec a.y (a.z ∷ []) h.1 (All-cons IsDec a.z [] h.2 (All-nil IsDec)))

-- a line of type 0 by its words
meta_again : (words : List (List ℕ)) → list_all is_word words ≡ true → line_of (spaced (codes "0" ∷ words)) ≡ meta_of words
unfolding line_of
meta_again words h =
    ap (λ ws. line_in ws (after_fields 1 (spaced (codes "0" ∷ words)))) (fields_spaced (codes "0" ∷ words) h)

turn_with : PrintsNumerals → (a : Angles) (word : List ℕ) → AreAngles a → is_word word ≡ true → list_all is_word (codes "0" ∷ codes "ROTSTEP" ∷ (angle_words a ++ word ∷ [])) ≡ true
turn_with law a word h w =
    and_from _ _ (dec_is_word law a.x h.0) (and_from _ _ (dec_is_word law a.y h.1) (and_from _ _ (dec_is_word law a.z h.2) (and_from _ _ w refl)))

pub rotation_words_are : PrintsNumerals → (word : RotWord) → IsTurn word → list_all is_word (rotation_words word) ≡ true
rotation_words_are law (Abs a) h = turn_with law a (codes "ABS") h refl
rotation_words_are law (Rel a) h = turn_with law a (codes "REL") h refl
rotation_words_are law (Add a) h = turn_with law a (codes "ADD") h refl
rotation_words_are law End h = refl

-- more than one word is not END alone
same_at : {A : Type 0} (b : Bool) (x : A) (y : A) → cond (cond b false false) x y ≡ y
same_at true x y = refl
same_at false x y = refl

turn_again : PrintsNumerals → (a : Angles) (word : List ℕ) → AreAngles a → rotation_of (angle_words a ++ word ∷ []) ≡ rotation_by a (word ∷ [])
turn_again law a word h =
    same_at (bytes_eq (dec_text a.x) (codes "END")) (Rot End) (rotation_line (numbers_of 3 (angle_words a ++ word ∷ [])) (word ∷ []))
    ∙ ap (λ r. rotation_line r (word ∷ [])) (front (dec_text a.x) (dec_text a.y) (dec_text a.z) word ∙ numbers_again law (angle_values a) (angles_are_decs a h))
  where
    front : (x y z w : List ℕ) → numbers_of 3 (x ∷ y ∷ z ∷ w ∷ []) ≡ numbers_of 3 (x ∷ y ∷ z ∷ [])
    front x y z w = refl

pub rotation_again : PrintsNumerals → (word : RotWord) → IsTurn word → line_of (spaced (rotation_words word)) ≡ Rot word
rotation_again law (Abs a) h = meta_again (codes "ROTSTEP" ∷ turn_words (Abs a)) (rotation_words_are law (Abs a) h) ∙ turn_again law a (codes "ABS") h
rotation_again law (Rel a) h = meta_again (codes "ROTSTEP" ∷ turn_words (Rel a)) (rotation_words_are law (Rel a) h) ∙ turn_again law a (codes "REL") h
rotation_again law (Add a) h = meta_again (codes "ROTSTEP" ∷ turn_words (Add a)) (rotation_words_are law (Add a) h) ∙ turn_again law a (codes "ADD") h
rotation_again law End h = meta_again (codes "ROTSTEP" ∷ codes "END" ∷ []) refl

pub step_again : line_of (spaced step_words) ≡ Step
step_again = meta_again (codes "STEP" ∷ []) refl

pub certify_again : line_of (spaced (bfc_line (codes "CERTIFY" ∷ codes "CCW" ∷ []))) ≡ Bfc (Certify Ccw)
certify_again = meta_again (codes "BFC" ∷ codes "CERTIFY" ∷ codes "CCW" ∷ []) refl

pub clip_again : line_of (spaced (bfc_line (codes "CLIP" ∷ []))) ≡ Bfc Clip
clip_again = meta_again (codes "BFC" ∷ codes "CLIP" ∷ []) refl

pub no_clip_again : line_of (spaced (bfc_line (codes "NOCLIP" ∷ []))) ≡ Bfc NoClip
no_clip_again = meta_again (codes "BFC" ∷ codes "NOCLIP" ∷ []) refl
