-- Laws of colours and of their inheritance.
use Rattle.std.specs.Prelude.{◌≡◌, ℕ, true}
use Rattle.ld_colour.specs.declared.colour.Colour.{Colour}
use Rattle.ld_colour.specs.declared.colour.Colour.TheVariants.{Main}
use Rattle.ld_colour.specs.Colour.{colour_of, edge, is_lawful, under}

pub record UnderLaws : Type 0 where
  pub associative : (a b c : Colour) → under a (under b c) ≡ under (under a b) c
  pub left_unit : (a : Colour) → under Main a ≡ a
  pub right_unit : (a : Colour) → under a Main ≡ a

pub record LawfulColours : Type 0 where
  pub of_words : (word : ℕ) → is_lawful (colour_of word) ≡ true
  pub edges : (a : Colour) → is_lawful a ≡ true → is_lawful (edge a) ≡ true
  pub inherited : (a current : Colour) → is_lawful a ≡ true → is_lawful current ≡ true → is_lawful (under a current) ≡ true
