-- Lawful colours stay lawful.
use Rattle.std.proofs.Common.{◌≡◌, ◌-◌, ℕ, Bool, true, false, refl, arith, nat_le, nat_lt, ◌^◌, ◌&&◌, ◌==◌, if◌then◌else◌}
use Rattle.std.proofs.lemmas.Bool.{leb-true, lt-ltb}
use Rattle.ld_colour.specs.declared.colour.Colour.{Colour}
use Rattle.ld_colour.specs.declared.colour.Colour.TheVariants.{Main, Edge, Code, EdgeOf, Direct}
use Rattle.ld_colour.specs.Colour.{colour_of, edge, is_direct, is_lawful, under}
use Rattle.ld_colour.specs.Laws.{LawfulColours}

right_of : (a b : Bool) → (a && b) ≡ true → b ≡ true
right_of true b e = e
right_of false b e = cc

value_fits : (word : ℕ) → is_direct word ≡ true → nat_lt (word - 0x2000000) (2 ^ 24) ≡ true
value_fits word e =
    let most = leb-true word 0x2FFFFFF (right_of (nat_le 0x2000000 word) (nat_le word 0x2FFFFFF) e) in
    lt-ltb (word - 0x2000000) (2 ^ 24) (omega (arith, most))

by_tests : (word : ℕ) (main edges direct : Bool) → (word == 16) ≡ main → (word == 24) ≡ edges → is_direct word ≡ direct → is_lawful (if main then Main else if edges then Edge else if direct then Direct (word - 0x2000000) else Code word) ≡ true
by_tests word true edges direct m e d = refl
by_tests word false true direct m e d = refl
by_tests word false false true m e d = value_fits word d
by_tests word false false false m e d = rw (m, e, d) refl

of_words : (word : ℕ) → is_lawful (colour_of word) ≡ true
unfolding colour_of
of_words word = by_tests word (word == 16) (word == 24) (is_direct word) refl refl refl

edges : (a : Colour) → is_lawful a ≡ true → is_lawful (edge a) ≡ true
edges Main lawful = refl
edges Edge lawful = refl
edges (Code code) lawful = lawful
edges (EdgeOf code) lawful = lawful
edges (Direct value) lawful = refl

inherited : (a current : Colour) → is_lawful a ≡ true → is_lawful current ≡ true → is_lawful (under a current) ≡ true
inherited Main current a_lawful lawful = lawful
inherited Edge current a_lawful lawful = edges current lawful
inherited (Code code) current a_lawful lawful = a_lawful
inherited (EdgeOf code) current a_lawful lawful = a_lawful
inherited (Direct value) current a_lawful lawful = a_lawful

pub lawful : LawfulColours
lawful = record { of_words = of_words; edges = edges; inherited = inherited }
