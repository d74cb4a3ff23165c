-- What the lines of an inlined text are read as.
use Rattle.std.proofs.Common.{◌≡◌, ◌<◌, ◌+◌, ◌-◌, ◌^◌, ◌==◌, ◌&&◌, ℕ, Bool, true, false, not, List, [], ◌∷◌, ◌++◌, map, take, drop, Option, Some, None, refl, ap, sym, ◌∙◌, subst, arith, codes, unwrap_or}
use Rattle.std.specs.Prelude.{All, IfSome, replicate}
use Rattle.std.specs.List.{flat_map, fold, list_all}
use Rattle.std.proofs.lemmas.Bool.{and_from, and_parts, le-leb, ltb-true, ne_eqb, not-true}
use Rattle.std.proofs.lemmas.List.{map-append}
use Rattle.std.proofs.lemmas.List.Elements.{All-cons, All-drop, All-head, All-nil, All-tail, All-take}
use Rattle.ld_num.specs.Text.{dec_text}
use Rattle.ld_num.specs.declared.point.Point.{Point}
use Rattle.ld_line.specs.Colour.{colour_word}
use Rattle.ld_line.specs.Cut.{lines_of}
use Rattle.ld_line.specs.Kind.{points_in}
use Rattle.ld_line.specs.Printing.{AreShown, ColoursAgain, DrawnAgain, IsPoint, StepsAgain, bfc_line, coordinates, draw_words, kind_word, origin}
use Rattle.ld_line.specs.Reading.{line_of}
use Rattle.ld_line.specs.Word.{LinesOfTexts, is_one_line, is_word, spaced}
use Rattle.ld_line.specs.declared.line.BfcWord.TheVariants.{Certify, Clip, NoClip}
use Rattle.ld_line.specs.declared.line.Kind.{Kind}
use Rattle.ld_line.specs.declared.line.Kind.TheVariants.{Line2, Tri, Quad, Opt}
use Rattle.ld_line.specs.declared.line.Line.{Line}
use Rattle.ld_line.specs.declared.line.Line.TheVariants.{Bfc, Draw, Rot, Step}
use Rattle.ld_line.specs.declared.line.RotWord.{RotWord}
use Rattle.ld_line.specs.declared.line.Winding.{Winding}
use Rattle.ld_line.specs.declared.line.Winding.TheVariants.{Ccw, Cw}
use Rattle.ld_colour.specs.Colour.{colour_of, is_code, is_direct, is_lawful}
use Rattle.ld_colour.specs.Table.{Counting, FindsRgb, rgb_in}
use Rattle.ld_colour.specs.Rgb.{IsRgb}
use Rattle.ld_colour.specs.declared.colour.Colour.{Colour}
use Rattle.ld_colour.specs.declared.colour.Colour.TheVariants.{Main, Edge, Code, EdgeOf, Direct}
use Rattle.ld_entry.specs.Lawful.{IsLawfulEntry, zero_point}
use Rattle.ld_entry.specs.declared.entry.Entry.{Entry}
use Rattle.ld_entry.specs.declared.entry.Entry.TheVariants.{Drawn, Part}
use Rattle.ld_steps.specs.Parts.{entries_in}
use Rattle.ld_steps.specs.declared.step.StepPart.{StepPart}
use Rattle.ld_steps.specs.declared.step.Turn.{Turn}
use Rattle.ld_inline.specs.Flat.{flat_colour, flat_points}
use Rattle.ld_inline.specs.Inside.Shown.{AreFourPoints, AreShownSteps, IsShown, IsShownColour, IsShownRotation}
use Rattle.ld_inline.specs.Text.{Words, clip_lines, written_colour, drawn_words, entries_lines, entry_lines, stands_behind, step_rotation, stepped_words, steps_lines, written_text, written_points}

-- what is known of how words and lines are read
pub record Reads : Type 0 where
  pub lines : LinesOfTexts
  pub colours : ColoursAgain
  pub drawn : DrawnAgain
  pub steps : StepsAgain

-- ---- Colours.

-- red, green and blue of an edge colour as it is written
abbrev pub edge_value : Counting → ℕ → ℕ
edge_value table code = unwrap_or (rgb_in table (EdgeOf code)) 0

-- the number of a written colour
abbrev pub colour_number : Counting → Colour → ℕ
colour_number table Main = 16
colour_number table Edge = 24
colour_number table (Code code) = code
colour_number table (EdgeOf code) = 0x2000000 + edge_value table code
colour_number table (Direct value) = 0x2000000 + value

value_fits : (o : Option ℕ) → IfSome o IsRgb → unwrap_or o 0 < 2 ^ 24
value_fits None fits = omega arith
value_fits (Some value) fits = fits

-- a lawful colour that Rust holds
abbrev IsColour : Colour → Type 0
IsColour colour = (is_lawful colour ≡ true) × IsShownColour colour

colour_is_word : (r : Reads) (table : Counting) (colour : Colour) → IsColour colour → is_word (written_colour table colour) ≡ true
colour_is_word r table Main is = refl
colour_is_word r table Edge is = refl
colour_is_word r table (Code code) is = r.colours.decimal_word code is.1
colour_is_word r table (EdgeOf code) is = r.colours.direct_word (edge_value table code)
colour_is_word r table (Direct value) is = r.colours.direct_word value

colour_is_number : (r : Reads) (table : Counting) → FindsRgb table → (colour : Colour) → IsColour colour → colour_word (written_colour table colour) ≡ Some (colour_number table colour)
unfolding colour_word
colour_is_number r table finds Main is = refl
colour_is_number r table finds Edge is = refl
colour_is_number r table finds (Code code) is = r.colours.decimal_colour code is.1
colour_is_number r table finds (EdgeOf code) is = r.colours.direct_colour (edge_value table code) (value_fits (rgb_in table (EdgeOf code)) (finds (EdgeOf code) is.0))
colour_is_number r table finds (Direct value) is = r.colours.direct_colour value (ltb-true value (2 ^ 24) is.0)

code_again : (code : ℕ) → is_code code ≡ true → colour_of code ≡ Code code
unfolding colour_of
code_again code is =
    let parts = and_parts (not (code == 16) && not (code == 24)) (not (is_direct code)) is in
    let first = and_parts (not (code == 16)) (not (code == 24)) parts.0 in
    let main : (code == 16) ≡ false = not-true _ first.0 in
    let edge : (code == 24) ≡ false = not-true _ first.1 in
    let direct : is_direct code ≡ false = not-true _ parts.1 in
    rw (main, edge, direct) refl

direct_again : (value : ℕ) → value < 2 ^ 24 → colour_of (0x2000000 + value) ≡ Direct value
unfolding colour_of
direct_again value fits =
    let main : (0x2000000 + value == 16) ≡ false = ne_eqb _ 16 (λ e. omega arith) in
    let edge : (0x2000000 + value == 24) ≡ false = ne_eqb _ 24 (λ e. omega arith) in
    let direct : is_direct (0x2000000 + value) ≡ true = and_from _ _ (le-leb 0x2000000 (0x2000000 + value) (omega arith)) (le-leb (0x2000000 + value) 0x2FFFFFF (omega arith)) in
    let same : 0x2000000 + value - 0x2000000 ≡ value = omega arith in
    rw (main, edge, direct) (ap Direct same)

pub colour_again : (table : Counting) → FindsRgb table → (colour : Colour) → IsColour colour → colour_of (colour_number table colour) ≡ flat_colour table colour
unfolding colour_of
colour_again table finds Main is = refl
colour_again table finds Edge is = refl
colour_again table finds (Code code) is = code_again code is.0
colour_again table finds (EdgeOf code) is = direct_again (edge_value table code) (value_fits (rgb_in table (EdgeOf code)) (finds (EdgeOf code) is.0))
colour_again table finds (Direct value) is = direct_again value (ltb-true value (2 ^ 24) is.0)

-- ---- Points.

abbrev IsOrigin : Point → Type 0
IsOrigin point = point ≡ origin

unused_are : (kind : Kind) (a b c d : Point) → drop (points_in kind) (a ∷ b ∷ c ∷ d ∷ []) ≡ replicate (4 - points_in kind) zero_point → All IsOrigin (drop (points_in kind) (a ∷ b ∷ c ∷ d ∷ []))
unused_are Line2 a b c d zero =
    let first : c ≡ origin = cc in
    let second : d ≡ origin = cc in
    All-cons IsOrigin c (d ∷ []) first (All-cons IsOrigin d [] second (All-nil IsOrigin))
unused_are Tri a b c d zero = let only : d ≡ origin = cc in All-cons IsOrigin d [] only (All-nil IsOrigin)
unused_are Quad a b c d zero = All-nil IsOrigin
unused_are Opt a b c d zero = All-nil IsOrigin

four_are : (a b c d : Point) → IsPoint a → IsPoint b → IsPoint c → IsPoint d → All IsPoint (a ∷ b ∷ c ∷ d ∷ [])
four_are a b c d p q r s = All-cons IsPoint a (b ∷ c ∷ d ∷ []) p (All-cons IsPoint b (c ∷ d ∷ []) q (All-cons IsPoint c (d ∷ []) r (All-cons IsPoint d [] s (All-nil IsPoint))))

-- the written points are the used ones of the flat points, which can be written
pub record AreWritten (kind : Kind) (winding : Winding) (points : List Point) : Type 0 where
  pub used : written_points kind winding points ≡ take (points_in kind) (flat_points kind winding points)
  pub shown : AreShown kind (flat_points kind winding points)

written_four : (kind : Kind) (winding : Winding) (a b c d : Point) → All IsPoint (a ∷ b ∷ c ∷ d ∷ []) → drop (points_in kind) (a ∷ b ∷ c ∷ d ∷ []) ≡ replicate (4 - points_in kind) zero_point → AreWritten kind winding (a ∷ b ∷ c ∷ d ∷ [])
written_four Tri Cw a b c d all zero =
    record { used = refl; shown = record { four = refl; in_range = four_are c b a d (all 2 origin (omega arith)) (all 1 origin (omega arith)) (all 0 origin (omega arith)) (all 3 origin (omega arith)); unused = unused_are Tri a b c d zero } }
written_four Quad Cw a b c d all zero =
    record { used = refl; shown = record { four = refl; in_range = four_are d c b a (all 3 origin (omega arith)) (all 2 origin (omega arith)) (all 1 origin (omega arith)) (all 0 origin (omega arith)); unused = All-nil IsOrigin } }
written_four Line2 winding a b c d all zero = record { used = refl; shown = record { four = refl; in_range = all; unused = unused_are Line2 a b c d zero } }
written_four Opt winding a b c d all zero = record { used = refl; shown = record { four = refl; in_range = all; unused = unused_are Opt a b c d zero } }
written_four Tri Ccw a b c d all zero = record { used = refl; shown = record { four = refl; in_range = all; unused = unused_are Tri a b c d zero } }
written_four Quad Ccw a b c d all zero = record { used = refl; shown = record { four = refl; in_range = all; unused = unused_are Quad a b c d zero } }

points_written : (kind : Kind) (winding : Winding) (points : List Point) → AreFourPoints points → drop (points_in kind) points ≡ replicate (4 - points_in kind) zero_point → AreWritten kind winding points
points_written kind winding [] four zero = absurd (omega (arith, four.0))
points_written kind winding (a ∷ []) four zero = absurd (omega (arith, four.0))
points_written kind winding (a ∷ b ∷ []) four zero = absurd (omega (arith, four.0))
points_written kind winding (a ∷ b ∷ c ∷ []) four zero = absurd (omega (arith, four.0))
points_written kind winding (a ∷ b ∷ c ∷ d ∷ e ∷ points) four zero = absurd (omega (arith, four.0))
points_written kind winding (a ∷ b ∷ c ∷ d ∷ []) four zero = written_four kind winding a b c d four.1 zero

-- ---- Lines.

pub All-range : (P : Entry → Type 0) (entries : List Entry) (step : StepPart) → All P entries → All P (entries_in entries step)
All-range P entries step all = All-take P (step.end - step.first) (drop step.first entries) (All-drop P step.first entries all)

abbrev pub said_clip : Bool → Bool → List Line
said_clip true false = Bfc NoClip ∷ []
said_clip false true = Bfc Clip ∷ []
said_clip stands wanted = []

abbrev pub said_entry : Counting → Bool → Entry → List Line
said_entry table stands (Drawn kind certified clip winding colour source points) = said_clip stands (certified && clip) ++ Draw kind (colour_number table colour) (flat_points kind winding points) ∷ []
said_entry table stands (Part file colour source) = []

abbrev pub said_entries : Counting → Bool → List Entry → List Line
said_entries table stands [] = []
said_entries table stands (entry ∷ entries) = said_entry table stands entry ++ said_entries table (stands_behind stands entry) entries

abbrev pub said_rotation : Option RotWord → Line
said_rotation None = Step
said_rotation (Some word) = Rot word

abbrev pub said_steps : Counting → List Entry → List Turn → Bool → List StepPart → List Line
said_steps table entries view stands [] = []
said_steps table entries view stands (step ∷ steps) =
    said_entries table stands (entries_in entries step) ++ said_rotation (step_rotation view step.view) ∷ said_steps table entries step.view (fold stands_behind stands (entries_in entries step)) steps

abbrev pub said : Counting → List Entry → List StepPart → List Line
said table entries steps = Bfc (Certify Ccw) ∷ said_steps table entries [] true steps

-- words of lines, and what they say
pub record Say (lines : List Words) (says : List Line) : Type 0 where
  pub one_line : list_all is_one_line (map spaced lines) ≡ true
  pub read : map line_of (map spaced lines) ≡ says

say_none : Say [] []
say_none = record { one_line = refl; read = refl }

list_all-append : (xs ys : List (List ℕ)) → list_all is_one_line xs ≡ true → list_all is_one_line ys ≡ true → list_all is_one_line (xs ++ ys) ≡ true
list_all-append [] ys hx hy = hy
list_all-append (x ∷ xs) ys hx hy =
    let parts = and_parts (is_one_line x) (list_all is_one_line xs) hx in and_from _ _ parts.0 (list_all-append xs ys parts.1 hy)

say_append : (lines more : List Words) (says says_more : List Line) → Say lines says → Say more says_more → Say (lines ++ more) (says ++ says_more)
say_append lines more says says_more s t =
    record {
      one_line = subst (λ ls. list_all is_one_line ls ≡ true) (sym (map-append spaced lines more)) (list_all-append (map spaced lines) (map spaced more) s.one_line t.one_line);
      read = ap (map line_of) (map-append spaced lines more) ∙ map-append line_of (map spaced lines) (map spaced more) ∙ ap (λ ls. ls ++ map line_of (map spaced more)) s.read ∙ ap (λ ls. says ++ ls) t.read;
    }

module _ (r : Reads) where
  say_line : (words : Words) (line : Line) (more : List Words) (says : List Line) → list_all is_word words ≡ true → line_of (spaced words) ≡ line → Say more says → Say (words ∷ more) (line ∷ says)
  say_line words line more says are reads s =
      record { one_line = and_from _ _ (r.lines.spaced words are) s.one_line; read = ap (λ l. l ∷ map line_of (map spaced more)) reads ∙ ap (λ ls. line ∷ ls) s.read }

  say_clip : (stands wanted : Bool) → Say (clip_lines stands wanted) (said_clip stands wanted)
  say_clip true true = say_none
  say_clip true false = say_line _ (Bfc NoClip) [] [] refl r.steps.no_clip say_none
  say_clip false true = say_line _ (Bfc Clip) [] [] refl r.steps.clip say_none
  say_clip false false = say_none

  say_rotation : (rotation : Option RotWord) → IsShownRotation rotation → (more : List Words) (says : List Line) → Say more says → Say (stepped_words rotation ∷ more) (said_rotation rotation ∷ says)
  say_rotation None shown more says s = say_line _ Step more says refl r.steps.step s
  say_rotation (Some word) shown more says s = say_line _ (Rot word) more says (r.steps.words word shown) (r.steps.rotation word shown) s

  module _ (table : Counting) (finds : FindsRgb table) where
    drawn_same : (kind : Kind) (winding : Winding) (colour : Colour) (points : List Point) → AreWritten kind winding points → drawn_words table kind winding colour points ≡ draw_words kind (written_colour table colour) (flat_points kind winding points)
    drawn_same kind winding colour points written = ap (λ ps. kind_word kind ∷ written_colour table colour ∷ map dec_text (flat_map coordinates ps)) written.used

    say_entry : (stands : Bool) (entry : Entry) → IsShown entry → IsLawfulEntry entry → Say (entry_lines table stands entry) (said_entry table stands entry)
    say_entry stands (Part file colour source) shown lawful = say_none
    say_entry stands (Drawn kind certified clip winding colour source points) shown lawful =
        let written = points_written kind winding points shown.1 lawful.1 in
        let colours : IsColour colour = (lawful.0, shown.0) in
        let words = draw_words kind (written_colour table colour) (flat_points kind winding points) in
        let is_word_colour = colour_is_word r table colour colours in
        let drawn : Say (words ∷ []) (Draw kind (colour_number table colour) (flat_points kind winding points) ∷ []) = say_line words (Draw kind (colour_number table colour) (flat_points kind winding points)) [] [] (r.drawn.words kind (written_colour table colour) (flat_points kind winding points) is_word_colour written.shown) (r.drawn.line kind (written_colour table colour) (colour_number table colour) (flat_points kind winding points) is_word_colour (colour_is_number r table finds colour colours) written.shown) say_none in
        say_append (clip_lines stands (certified && clip)) (drawn_words table kind winding colour points ∷ []) (said_clip stands (certified && clip)) (Draw kind (colour_number table colour) (flat_points kind winding points) ∷ []) (say_clip stands (certified && clip))
        (subst (λ ws. Say (ws ∷ []) (Draw kind (colour_number table colour) (flat_points kind winding points) ∷ [])) (sym (drawn_same kind winding colour points written)) drawn)

    say_entries : (stands : Bool) (entries : List Entry) → All IsShown entries → All IsLawfulEntry entries → Say (entries_lines table stands entries) (said_entries table stands entries)
    say_entries stands [] shown lawful = say_none
    say_entries stands (entry ∷ entries) shown lawful =
        say_append (entry_lines table stands entry) (entries_lines table (stands_behind stands entry) entries) (said_entry table stands entry) (said_entries table (stands_behind stands entry) entries) (say_entry stands entry (All-head IsShown entry entries shown) (All-head IsLawfulEntry entry entries lawful)) (say_entries (stands_behind stands entry) entries (All-tail IsShown entry entries shown) (All-tail IsLawfulEntry entry entries lawful))

    say_steps : (entries : List Entry) (view : List Turn) (stands : Bool) (steps : List StepPart) → All IsShown entries → All IsLawfulEntry entries → AreShownSteps view steps → Say (steps_lines table entries view stands steps) (said_steps table entries view stands steps)
    say_steps entries view stands [] shown lawful turns = say_none
    say_steps entries view stands (step ∷ steps) shown lawful turns =
        let behind = fold stands_behind stands (entries_in entries step) in
        say_append (entries_lines table stands (entries_in entries step)) (stepped_words (step_rotation view step.view) ∷ steps_lines table entries step.view behind steps) (said_entries table stands (entries_in entries step)) (said_rotation (step_rotation view step.view) ∷ said_steps table entries step.view behind steps)
        (say_entries stands (entries_in entries step) (All-range IsShown entries step shown) (All-range IsLawfulEntry entries step lawful))
        (say_rotation (step_rotation view step.view) turns.0 (steps_lines table entries step.view behind steps) (said_steps table entries step.view behind steps) (say_steps entries step.view behind steps shown lawful turns.1))

    pub text_says : (entries : List Entry) (steps : List StepPart) → All IsShown entries → All IsLawfulEntry entries → AreShownSteps [] steps → map line_of (lines_of (written_text table entries steps)) ≡ said table entries steps
    unfolding written_text
    text_says entries steps shown lawful turns =
        let lines = bfc_line (codes "CERTIFY" ∷ codes "CCW" ∷ []) ∷ steps_lines table entries [] true steps in
        let s : Say lines (said table entries steps) = say_line (bfc_line (codes "CERTIFY" ∷ codes "CCW" ∷ [])) (Bfc (Certify Ccw)) (steps_lines table entries [] true steps) (said_steps table entries [] true steps) refl r.steps.certify (say_steps entries [] true steps shown lawful turns) in
        ap (map line_of) (r.lines.back (map spaced lines) s.one_line refl) ∙ s.read
