-- Lines of type 2 to 5 by their first field.
use Rattle.std.proofs.Common.{◌≡◌, ℕ, Bool, true, false, List, Some, None, cond, bytes_eq, codes, refl}
use Rattle.ld_line.specs.declared.line.Kind.{Kind}
use Rattle.ld_line.specs.declared.line.Kind.TheVariants.{Line2, Tri, Quad, Opt}
use Rattle.ld_line.specs.declared.line.Line.{Line}
use Rattle.ld_line.specs.declared.line.Line.TheVariants.{Malformed}
use Rattle.ld_line.specs.Kind.{kind_in}
use Rattle.ld_line.specs.Reading.{draw_of}

drawn_if : (is_line is_tri is_quad is_opt : Bool) (kind : Kind) (draw : Kind → Line) → cond is_line (Some Line2) (cond is_tri (Some Tri) (cond is_quad (Some Quad) (cond is_opt (Some Opt) None))) ≡ Some kind → cond is_line (draw Line2) (cond is_tri (draw Tri) (cond is_quad (draw Quad) (cond is_opt (draw Opt) Malformed))) ≡ draw kind
drawn_if true is_tri is_quad is_opt kind draw is = cc
drawn_if false true is_quad is_opt kind draw is = cc
drawn_if false false true is_opt kind draw is = cc
drawn_if false false false true kind draw is = cc
drawn_if false false false false kind draw is = absurd (cc)

malformed_if : (is_line is_tri is_quad is_opt : Bool) (draw : Kind → Line) → cond is_line (Some Line2) (cond is_tri (Some Tri) (cond is_quad (Some Quad) (cond is_opt (Some Opt) None))) ≡ None → cond is_line (draw Line2) (cond is_tri (draw Tri) (cond is_quad (draw Quad) (cond is_opt (draw Opt) Malformed))) ≡ Malformed
malformed_if true is_tri is_quad is_opt draw is = absurd (cc)
malformed_if false true is_quad is_opt draw is = absurd (cc)
malformed_if false false true is_opt draw is = absurd (cc)
malformed_if false false false true draw is = absurd (cc)
malformed_if false false false false draw is = refl

-- what stands behind the type in the definition, by the type's kind
abbrev pub by_type : List ℕ → List (List ℕ) → Line
by_type type fields =
    cond (bytes_eq type (codes "2")) (draw_of Line2 fields) (cond (bytes_eq type (codes "3")) (draw_of Tri fields) (cond (bytes_eq type (codes "4")) (draw_of Quad fields) (cond (bytes_eq type (codes "5")) (draw_of Opt fields) Malformed)))

pub some_kind : (type : List ℕ) (fields : List (List ℕ)) (kind : Kind) → kind_in type ≡ Some kind → by_type type fields ≡ draw_of kind fields
some_kind type fields kind is =
    drawn_if (bytes_eq type (codes "2")) (bytes_eq type (codes "3")) (bytes_eq type (codes "4")) (bytes_eq type (codes "5")) kind (λ k. draw_of k fields) is

pub no_kind : (type : List ℕ) (fields : List (List ℕ)) → kind_in type ≡ None → by_type type fields ≡ Malformed
no_kind type fields is =
    malformed_if (bytes_eq type (codes "2")) (bytes_eq type (codes "3")) (bytes_eq type (codes "4")) (bytes_eq type (codes "5")) (λ k. draw_of k fields) is
