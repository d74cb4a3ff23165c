-- What lines drew, one line after another.
use Rattle.std.proofs.Common.{◌≡◌, ℕ, Bool, true, false, not, ◌||◌, cond, List, [], ◌∷◌, ◌++◌, None, Some, ap, refl, sym, ◌∙◌}
use Rattle.std.proofs.lemmas.Cmp.{and_equiv, int_eq_equiv, lists_equiv, nat_eq_equiv, on_equiv}
use Rattle.std.specs.Cmp.{IsEquivalence}
use Rattle.std.proofs.lemmas.List.Folds.{list_any-append}
use Rattle.std.specs.List.{list_any}
use Rattle.ld_line.specs.Reading.{line_of}
use Rattle.ld_line.specs.declared.line.Line.{Line}
use Rattle.ld_line.specs.declared.line.Line.TheVariants.{Draw}
use Rattle.ld_check.specs.Geometry.{same_point}
use Rattle.ld_check.specs.Inside.Drawn.{drawing_of, same_drawing, shown}
use Rattle.ld_check.specs.Lines.{draws_same, kind_place}
use Rattle.ld_check.specs.declared.drawing.Drawing.{Drawing}

same_point-equiv : IsEquivalence same_point
same_point-equiv = and_equiv (and_equiv (on_equiv (λ p. p.x) int_eq_equiv) (on_equiv (λ p. p.y) int_eq_equiv)) (on_equiv (λ p. p.z) int_eq_equiv)

same_drawing-equiv : IsEquivalence same_drawing
same_drawing-equiv = and_equiv (and_equiv (on_equiv (λ drawing. kind_place drawing.kind) nat_eq_equiv) (on_equiv (λ drawing. drawing.colour) nat_eq_equiv)) (on_equiv (λ drawing. drawing.points) (lists_equiv same_point-equiv))

-- a line that draws nothing is like no line
like_none : (line other : Line) → drawing_of line ≡ None → draws_same line other ≡ false
like_none (Draw kind colour points) other is = cc
like_none line other is = refl

pub none_repeated : (line : Line) → drawing_of line ≡ None → (lines : List (List ℕ)) → false ≡ list_any (λ earlier. draws_same line (line_of earlier)) lines
none_repeated line is [] = refl
none_repeated line is (first ∷ lines) = rw (like_none line (line_of first) is) (none_repeated line is lines)

pub shown_of : (line : Line) (drawing : Drawing) → drawing_of line ≡ Some drawing → line ≡ shown drawing
shown_of (Draw kind colour points) drawing is = let same : record { kind = kind; colour = colour; points = points } ≡ drawing = cc in ap shown same
shown_of line drawing is = cc

-- an insertion under an equality that is that of drawings
module _ (eq : Drawing → Drawing → Bool) (equal : (drawing other : Drawing) → eq drawing other ≡ same_drawing drawing other) (old : List Drawing) (lines : List (List ℕ)) (drew : (drawing : Drawing) → list_any (same_drawing drawing) old ≡ list_any (λ line. draws_same (shown drawing) (line_of line)) lines) where
  same : (drawing : Drawing) (keys : List Drawing) → list_any (eq drawing) keys ≡ list_any (same_drawing drawing) keys
  same drawing keys = ap (λ e. list_any e keys) (λ i other. equal drawing other i)

  pub repeated : (line : Line) (drawing : Drawing) (added : Bool) → drawing_of line ≡ Some drawing → added ≡ not (list_any (eq drawing) old) → not added ≡ list_any (λ earlier. draws_same line (line_of earlier)) lines
  repeated line drawing added is new =
      ap not new ∙ twice (list_any (eq drawing) old) ∙ same drawing old ∙ drew drawing ∙ ap (λ other. list_any (λ earlier. draws_same other (line_of earlier)) lines) (sym (shown_of line drawing is))
    where
      twice : (b : Bool) → not (not b) ≡ b
      twice true = refl
      twice false = refl

  pub drawn_more : (line : Line) (drawing : Drawing) (new : List Drawing) (bytes : List ℕ) → drawing_of line ≡ Some drawing → line ≡ line_of bytes → ((other : Drawing) → list_any (eq other) new ≡ cond (eq drawing other) true (list_any (eq other) old))
      → (other : Drawing) → list_any (same_drawing other) new ≡ list_any (λ line. draws_same (shown other) (line_of line)) (lines ++ bytes ∷ [])
  drawn_more line drawing new bytes is says updates other =
      sym (same other new) ∙ updates other ∙ ap (λ b. cond b true (list_any (eq other) old)) (equal drawing other ∙ same_drawing-equiv.symm drawing other) ∙ ap (λ b. cond (same_drawing other drawing) true b) (same other old ∙ drew other) ∙ swapped (same_drawing other drawing) (list_any (λ line. draws_same (shown other) (line_of line)) lines) ∙ ap (λ l. list_any (λ line. draws_same (shown other) (line_of line)) lines || (draws_same (shown other) l || false)) (sym (shown_of line drawing is) ∙ says) ∙ sym (list_any-append (λ line. draws_same (shown other) (line_of line)) lines (bytes ∷ []))
    where
      swapped : (a b : Bool) → cond a true b ≡ (b || (a || false))
      swapped true true = refl
      swapped true false = refl
      swapped false true = refl
      swapped false false = refl
