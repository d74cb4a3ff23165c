-- The findings of what a line says by itself, put together.
use Rattle.std.proofs.Common.{◌≡◌, ℕ, Bool, List, ◌++◌, ap, append_assoc, refl, ◌∙◌}
use Rattle.ld_line.specs.declared.line.Line.{Line}
use Rattle.ld_check.specs.Findings.{found}
use Rattle.ld_check.specs.Geometry.{has_equal_points, is_bent_quad, is_straight_triangle, is_uneven_quad}
use Rattle.ld_check.specs.Inside.AtLine.{said_findings}
use Rattle.ld_check.specs.Lines.{is_malformed, is_out_of_range, is_singular_reference, is_unnamed}
use Rattle.ld_check.specs.declared.finding.Finding.{Finding}

eight : (old f201 f202 f203 f301 f302 f303 f304 f305 : List Finding) → (((((((old ++ f201) ++ f202) ++ f203) ++ f301) ++ f302) ++ f303) ++ f304) ++ f305 ≡ old ++ (f201 ++ f202 ++ f203 ++ f301 ++ f302 ++ f303 ++ f304 ++ f305)
eight old f201 f202 f203 f301 f302 f303 f304 f305 = simp append_assoc

-- one note more
noted : (number rule : ℕ) (now last whole : List Finding) (b holds : Bool) → b ≡ holds → now ≡ last ++ found number (rule, b) → last ≡ whole → now ≡ whole ++ found number (rule, holds)
noted number rule now last whole b holds is made so = made ∙ ap (λ list. list ++ found number (rule, b)) so ∙ ap (λ b. whole ++ found number (rule, b)) is

-- what a line says by itself, note by note
pub said_each : (number : ℕ) (line : Line) (old : List Finding) {n201 n202 n203 n301 n302 n303 n304 n305 : List Finding} {b201 b202 b203 b301 b302 b303 b304 b305 : Bool}
    → b201 ≡ is_malformed line
    → b202 ≡ is_out_of_range line
    → b203 ≡ is_unnamed line
    → b301 ≡ has_equal_points line
    → b302 ≡ is_straight_triangle line
    → b303 ≡ is_bent_quad line
    → b304 ≡ is_uneven_quad line
    → b305 ≡ is_singular_reference line
    → n201 ≡ old ++ found number (201, b201)
    → n202 ≡ n201 ++ found number (202, b202)
    → n203 ≡ n202 ++ found number (203, b203)
    → n301 ≡ n203 ++ found number (301, b301)
    → n302 ≡ n301 ++ found number (302, b302)
    → n303 ≡ n302 ++ found number (303, b303)
    → n304 ≡ n303 ++ found number (304, b304)
    → n305 ≡ n304 ++ found number (305, b305)
    → n305 ≡ old ++ said_findings number line
said_each number line old s201 s202 s203 s301 s302 s303 s304 s305 e201 e202 e203 e301 e302 e303 e304 e305 =
    noted number 305 _ _ _ _ _ s305 e305 (noted number 304 _ _ _ _ _ s304 e304 (noted number 303 _ _ _ _ _ s303 e303 (noted number 302 _ _ _ _ _ s302 e302 (noted number 301 _ _ _ _ _ s301 e301 (noted number 203 _ _ _ _ _ s203 e203 (noted number 202 _ _ _ _ _ s202 e202 (noted number 201 _ _ _ _ _ s201 e201 refl))))))) ∙ eight old (found number (201, is_malformed line)) (found number (202, is_out_of_range line)) (found number (203, is_unnamed line)) (found number (301, has_equal_points line)) (found number (302, is_straight_triangle line)) (found number (303, is_bent_quad line)) (found number (304, is_uneven_quad line)) (found number (305, is_singular_reference line))
