-- Lines of type 2 to 5 refer to nothing.
use Rattle.std.proofs.Common.{◌≡◌, ◌*◌, ◌⊎◌, ◌∙◌, ℕ, ℤ, true, List, [], ◌∷◌, Option, Some, None, Result, Ok, Err, ap, arith, inl, inr, refl, subst, sym, tests}
use Rattle.ld_num.specs.declared.dec.NumError.{NumError}
use Rattle.ld_num.specs.declared.dec.NumError.TheVariants.{NotANumber, OutOfRange}
use Rattle.std.proofs.lemmas.Bool.{and_parts}
use Rattle.ld_names.specs.Normal.{is_blank}
use Rattle.ld_names.specs.Standing.{Known}
use Rattle.ld_names.specs.declared.file.Folder.{Folder}
use Rattle.ld_line.specs.Colour.{colour_word}
use Rattle.ld_line.specs.Field.{after_fields, fields}
use Rattle.ld_line.specs.Kind.{points_in}
use Rattle.ld_line.specs.Numbers.{numbers_of}
use Rattle.ld_line.specs.Reading.{draw_of, drawn, line_in, line_of}
use Rattle.ld_line.specs.Word.{FieldsOfWords, is_word}
use Rattle.ld_line.specs.declared.line.Kind.{Kind}
use Rattle.ld_line.specs.declared.line.Kind.TheVariants.{Line2, Tri, Quad, Opt}
use Rattle.ld_texts.specs.Reach.{Reaches, line_reaches}
use Rattle.ld_engine.specs.Going.{begins_drawn, is_drawn_type, line_step}

module _ (known : Known) (from : Folder) (texts : List ℕ) where
  drawn-one : (kind : Kind) (colour : Option ℕ) (numbers : Result (List ℤ) NumError) → line_reaches known from texts (drawn kind colour numbers) ≡ Reaches texts
  drawn-one kind None numbers = refl
  drawn-one kind (Some colour) (Err NotANumber) = refl
  drawn-one kind (Some colour) (Err OutOfRange) = refl
  drawn-one kind (Some colour) (Ok numbers) = refl

  drawn-fields : (kind : Kind) (behind : List (List ℕ)) → line_reaches known from texts (draw_of kind behind) ≡ Reaches texts
  drawn-fields kind [] = refl
  drawn-fields kind (colour ∷ behind) = drawn-one kind (colour_word colour) (numbers_of (3 * points_in kind) behind)

  by-byte : (byte : ℕ) (behind : List (List ℕ)) (rest : List ℕ) → (byte ≡ 50) ⊎ ((byte ≡ 51) ⊎ ((byte ≡ 52) ⊎ (byte ≡ 53))) → line_reaches known from texts (line_in ((byte ∷ []) ∷ behind) rest) ≡ Reaches texts
  by-byte byte behind rest (inl is) = subst (λ b. line_reaches known from texts (line_in ((b ∷ []) ∷ behind) rest) ≡ Reaches texts) (sym is) (drawn-fields Line2 behind)
  by-byte byte behind rest (inr (inl is)) = subst (λ b. line_reaches known from texts (line_in ((b ∷ []) ∷ behind) rest) ≡ Reaches texts) (sym is) (drawn-fields Tri behind)
  by-byte byte behind rest (inr (inr (inl is))) = subst (λ b. line_reaches known from texts (line_in ((b ∷ []) ∷ behind) rest) ≡ Reaches texts) (sym is) (drawn-fields Quad behind)
  by-byte byte behind rest (inr (inr (inr is))) = subst (λ b. line_reaches known from texts (line_in ((b ∷ []) ∷ behind) rest) ≡ Reaches texts) (sym is) (drawn-fields Opt behind)

  one-of : (byte : ℕ) → is_drawn_type (byte ∷ []) ≡ true → (byte ≡ 50) ⊎ ((byte ≡ 51) ⊎ ((byte ≡ 52) ⊎ (byte ≡ 53)))
  one-of byte is = grind (arith, tests)

  by-type : (kind : List ℕ) (behind : List (List ℕ)) (rest : List ℕ) → is_drawn_type kind ≡ true → line_reaches known from texts (line_in (kind ∷ behind) rest) ≡ Reaches texts
  by-type [] behind rest is = cc
  by-type (byte ∷ []) behind rest is = by-byte byte behind rest (one-of byte is)
  by-type (byte ∷ more ∷ bytes) behind rest is = cc

pub drawn_reaches : (line kind : List ℕ) (behind : List (List ℕ)) → fields line ≡ kind ∷ behind → is_drawn_type kind ≡ true → (known : Known) (from : Folder) (texts : List ℕ) → line_step from line texts known ≡ Reaches texts
unfolding line_of
drawn_reaches line kind behind there is known from texts =
    ap (λ all. line_reaches known from texts (line_in all (after_fields 1 line))) there ∙ by-type known from texts kind behind (after_fields 1 line) is

type_word : (byte : ℕ) → (byte ≡ 50) ⊎ ((byte ≡ 51) ⊎ ((byte ≡ 52) ⊎ (byte ≡ 53))) → is_word (byte ∷ []) ≡ true
type_word byte (inl is) = subst (λ b. is_word (b ∷ []) ≡ true) (sym is) refl
type_word byte (inr (inl is)) = subst (λ b. is_word (b ∷ []) ≡ true) (sym is) refl
type_word byte (inr (inr (inl is))) = subst (λ b. is_word (b ∷ []) ≡ true) (sym is) refl
type_word byte (inr (inr (inr is))) = subst (λ b. is_word (b ∷ []) ≡ true) (sym is) refl

pub begun_reaches : FieldsOfWords → (line : List ℕ) → begins_drawn line ≡ true → (known : Known) (from : Folder) (texts : List ℕ) → line_step from line texts known ≡ Reaches texts
begun_reaches law [] is known from texts = cc
begun_reaches law (byte ∷ []) is known from texts = cc
begun_reaches law (byte ∷ next ∷ bytes) is known from texts =
    let both = and_parts (is_drawn_type (byte ∷ [])) (is_blank next) is in
    drawn_reaches (byte ∷ next ∷ bytes) (byte ∷ []) (fields bytes) (law.more (byte ∷ []) next bytes (type_word byte (one-of known from texts byte both.0)) both.1) both.0 known from texts
