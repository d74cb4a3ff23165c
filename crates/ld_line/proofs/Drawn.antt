-- A drawn line is read as that drawing.
use Rattle.std.proofs.Common.{◌≡◌, ◌<◌, ◌*◌, ℕ, ℤ, true, List, [], ◌∷◌, length, take, map, Some, Ok, refl, ap, sym, ◌∙◌, arith}
use Rattle.std.specs.List.{All, flat_map, list_all}
use Rattle.std.proofs.lemmas.Bool.{and_parts, and_from}
use Rattle.std.proofs.lemmas.Bool.Decides.{nat_tests}
use Rattle.std.proofs.lemmas.List.Elements.{All-nil, All-cons, All-head, All-tail, All-append, All-take}
use Rattle.ld_num.specs.Text.{PrintsNumerals, dec_text, is_numeral_byte}
use Rattle.ld_num.specs.declared.point.Point.{Point}
use Rattle.ld_line.specs.declared.line.Kind.{Kind}
use Rattle.ld_line.specs.declared.line.Kind.TheVariants.{Line2, Tri, Quad, Opt}
use Rattle.ld_line.specs.declared.line.Line.TheVariants.{Draw}
use Rattle.ld_line.specs.Colour.{colour_word}
use Rattle.ld_line.specs.Field.{after_fields}
use Rattle.ld_line.specs.Kind.{points_in}
use Rattle.ld_line.specs.Numbers.{numbers_of, onto_numbers, points_of}
use Rattle.ld_line.specs.Reading.{draw_of, drawn, line_in, line_of}
use Rattle.ld_line.specs.Word.{is_plain, is_word, spaced}
use Rattle.ld_line.specs.Printing.{AreShown, IsDec, IsPoint, coordinates, draw_words, kind_word, origin, point_words}
use Rattle.ld_line.proofs.Words.{fields_spaced}

-- ---- words

numeric_is_plain : (b : ℕ) → is_numeral_byte b ≡ true → is_plain b ≡ true
numeric_is_plain b h = grind (arith, nat_tests)

numerics_are_plain : (bs : List ℕ) → list_all is_numeral_byte bs ≡ true → list_all is_plain bs ≡ true
numerics_are_plain [] h = refl
numerics_are_plain (b ∷ bs) h = and_from _ _ (numeric_is_plain b (and_parts _ _ h).0) (numerics_are_plain bs (and_parts _ _ h).1)

numerals_are_word : (bs : List ℕ) → 0 < length bs → list_all is_numeral_byte bs ≡ true → is_word bs ≡ true
numerals_are_word [] some h = absurd (omega arith)
numerals_are_word (b ∷ bs) some h = and_from _ _ (numeric_is_plain b (and_parts _ _ h).0) (numerics_are_plain bs (and_parts _ _ h).1)

pub dec_is_word : PrintsNumerals → (value : ℤ) → IsDec value → is_word (dec_text value) ≡ true
dec_is_word law value h = numerals_are_word (dec_text value) (law.some value h) (law.plain value h)

pub dec_words : PrintsNumerals → (values : List ℤ) → All IsDec values → list_all is_word (map dec_text values) ≡ true
dec_words law [] h = refl
dec_words law (value ∷ values) h = and_from _ _ (dec_is_word law value (All-head IsDec value values h)) (dec_words law values (All-tail IsDec value values h))

point_is_decs : (point : Point) → IsPoint point → All IsDec (coordinates point)
point_is_decs point h =
    All-cons IsDec point.x (point.y ∷ point.z ∷ []) h.0 (All-cons IsDec point.y (point.z ∷ []) h.1 (All-cons IsDec point.z [] h.2 (All-nil IsDec)))

points_are_decs : (points : List Point) → All IsPoint points → All IsDec (flat_map coordinates points)
points_are_decs [] h = All-nil IsDec
points_are_decs (point ∷ points) h =
    All-append IsDec (coordinates point) (flat_map coordinates points) (point_is_decs point (All-head IsPoint point points h)) (points_are_decs points (All-tail IsPoint point points h))

kind_is_word : (kind : Kind) → is_word (kind_word kind) ≡ true
kind_is_word Line2 = refl
kind_is_word Tri = refl
kind_is_word Quad = refl
kind_is_word Opt = refl

used_are_decs : (kind : Kind) (points : List Point) → AreShown kind points → All IsDec (flat_map coordinates (take (points_in kind) points))
used_are_decs kind points shown = points_are_decs (take (points_in kind) points) (All-take IsPoint (points_in kind) points shown.in_range)

pub draw_words_are : PrintsNumerals → (kind : Kind) (colour : List ℕ) (points : List Point) → is_word colour ≡ true → AreShown kind points → list_all is_word (draw_words kind colour points) ≡ true
draw_words_are law kind colour points word shown =
    and_from _ _ (kind_is_word kind) (and_from _ _ word (dec_words law (flat_map coordinates (take (points_in kind) points)) (used_are_decs kind points shown)))

-- ---- numbers

pub numbers_again : PrintsNumerals → (values : List ℤ) → All IsDec values → numbers_of (length values) (map dec_text values) ≡ Ok values
numbers_again law [] h = refl
numbers_again law (value ∷ values) h =
    ap (λ r. onto_numbers r (numbers_of (length values) (map dec_text values))) (law.read_back value (All-head IsDec value values h)) ∙ ap (onto_numbers (Ok value)) (numbers_again law values (All-tail IsDec value values h))

-- ---- points

abbrev Used : Kind → List Point → Type 0
Used kind points =
    let values = flat_map coordinates (take (points_in kind) points) in
    (length values ≡ 3 * points_in kind) × (points_of values ≡ points)

used_points : (kind : Kind) (points : List Point) → AreShown kind points → Used kind points
used_points kind [] s = absurd (omega (arith, s.four))
used_points kind (a ∷ []) s = absurd (omega (arith, s.four))
used_points kind (a ∷ b ∷ []) s = absurd (omega (arith, s.four))
used_points kind (a ∷ b ∷ c ∷ []) s = absurd (omega (arith, s.four))
used_points kind (a ∷ b ∷ c ∷ d ∷ e ∷ points) s = absurd (omega (arith, s.four))
used_points Line2 (a ∷ b ∷ c ∷ d ∷ []) s =
    let third : origin ≡ c = sym (s.unused 0 origin (omega arith)) in
    let fourth : origin ≡ d = sym (s.unused 1 origin (omega arith)) in
    (refl, ap (λ p. a ∷ b ∷ p ∷ origin ∷ []) third ∙ ap (λ p. a ∷ b ∷ c ∷ p ∷ []) fourth)
used_points Tri (a ∷ b ∷ c ∷ d ∷ []) s =
    let fourth : origin ≡ d = sym (s.unused 0 origin (omega arith)) in (refl, ap (λ p. a ∷ b ∷ c ∷ p ∷ []) fourth)
used_points Quad (a ∷ b ∷ c ∷ d ∷ []) s = (refl, refl)
used_points Opt (a ∷ b ∷ c ∷ d ∷ []) s = (refl, refl)

-- ---- the line

by_kind : (kind : Kind) (more : List (List ℕ)) (rest : List ℕ) → line_in (kind_word kind ∷ more) rest ≡ draw_of kind more
by_kind Line2 more rest = refl
by_kind Tri more rest = refl
by_kind Quad more rest = refl
by_kind Opt more rest = refl

pub draw_again : PrintsNumerals → (kind : Kind) (colour : List ℕ) (number : ℕ) (points : List Point) → is_word colour ≡ true → colour_word colour ≡ Some number → AreShown kind points → line_of (spaced (draw_words kind colour points)) ≡ Draw kind number points
unfolding line_of
draw_again law kind colour number points word is shown =
    let bytes = spaced (draw_words kind colour points) in
    let rest = after_fields 1 bytes in
    let values = flat_map coordinates (take (points_in kind) points) in
    let used = used_points kind points shown in
    let numbers : numbers_of (3 * points_in kind) (map dec_text values) ≡ Ok values = ap (λ n. numbers_of n (map dec_text values)) (sym used.0) ∙ numbers_again law values (used_are_decs kind points shown) in
    ap (λ words. line_in words rest) (fields_spaced (draw_words kind colour points) (draw_words_are law kind colour points word shown))
    ∙ by_kind kind (colour ∷ point_words (points_in kind) points) rest
    ∙ ap (λ n. drawn kind n (numbers_of (3 * points_in kind) (map dec_text values))) is
    ∙ ap (drawn kind (Some number)) numbers
    ∙ ap (Draw kind number) used.1
