-- One word of clap's walk, at a command of arguments with one value each.
use Rattle.std.proofs.Common.{◌≡◌, ℕ, ◌+◌, ◌==◌, Bool, true, false, not, ◌&&◌, refl, sym, min, List, [], ◌∷◌, ◌++◌, map, Option, Some, None, true≢false}
use Rattle.std.specs.Str.{bytes_eq}
use Rattle.clap.specs.Lexer.{long_of, short_of, usize_max}
use Rattle.clap.specs.Simple.{Shape}
use Rattle.clap.specs.Takes.{settle_passes, turn_passes}
use Rattle.clap.specs.Walk.{Held, Rule, Walk, arg_by_id, arg_by_index, arg_by_long, idle, nothing_held, option, settled_rows, walk_from, walked}
use Rattle.ld_words.specs.Words.{Named, Word, is_argument}
use Rattle.ld_words.proofs.Rows.{as_row, has_name, has_row-named, single, used-named}

-- between two arguments: those before are rows, and the last one waits to be used
abbrev pub held_at : List Named → Named → Held
held_at ps p = record { rows = map as_row ps; pending = Some (p.0, p.1 ∷ []); skip = 0 }

abbrev pub at : List Named → Named → ℕ → Walk
at ps p place = record { held = held_at ps p; waiting = idle; position = place; is_trailing = false; stopped = None }

-- after the name of an option
abbrev pub opened : List Named → Word → ℕ → Walk
opened ps name place = record {
  held = record { rows = map as_row ps; pending = Some (name, []); skip = 0 };
  waiting = option name;
  position = place;
  is_trailing = false;
  stopped = None;
}

-- the command has an argument of this id
pub record Has (c : List Rule) (id : Word) : Type 0 where
  pub long : Option Word
  pub index : Option ℕ
  pub found : arg_by_id c id ≡ Some (single id long index)

pub record HasOption (c : List Rule) (name : Word) : Type 0 where
  pub long : Word
  pub is : long_of name ≡ Some (long, None)
  pub apart : bytes_eq name (45 ∷ 45 ∷ []) ≡ false
  pub found : arg_by_id c name ≡ Some (single name (Some long) None)
  pub by_long : arg_by_long c long ≡ Some (single name (Some long) None)
  pub itself : bytes_eq name name ≡ true

pub record HasPlace (c : List Rule) (id : Word) (place : ℕ) : Type 0 where
  pub found : arg_by_id c id ≡ Some (single id None (Some place))
  pub by_index : arg_by_index c place ≡ Some (single id None (Some place))
  pub fits : min (place + 1) usize_max ≡ place + 1

pub named_option : (c : List Rule) (name : Word) → HasOption c name → Has c name
named_option c name h = record { long = Some h.long; index = None; found = h.found }

pub named_place : (c : List Rule) (id : Word) (place : ℕ) → HasPlace c id place → Has c id
named_place c id place h = record { long = None; index = Some place; found = h.found }

pub not_true : (b : Bool) → not b ≡ true → b ≡ false
not_true true e = absurd (true≢false (sym e))
not_true false e = refl

-- the pending argument becomes a row
pub settled-at : (c : List Rule) (ps : List Named) (p : Named) → Has c p.0 → has_name p.0 ps ≡ false
    → settled_rows c (Some (p.0, p.1 ∷ [])) (map as_row ps) ≡ map as_row (ps ++ p ∷ [])
settled-at c ps p h fresh = rw h.found (used-named p.0 p.1 h.long h.index ps fresh)

pub settles : (c : List Rule) (again : Bool) (ps : List Named) (p : Named) → Has c p.0 → has_name p.0 ps ≡ false
    → settle_passes c again (held_at ps p) ≡ true
settles c again ps p h fresh = rw (h.found, has_row-named p.0 ps, fresh) refl

no_short : (x : ℕ) (xs : Word) → not (x == 45) ≡ true → short_of (x ∷ xs) ≡ None
no_short x xs plain = rw (not_true (x == 45) plain) refl

never : (b : Bool) → (b && false) ≡ false
never true = refl
never false = refl

-- ---- a positional word

pub first_word : (c : List Rule) (id w : Word) → HasPlace c id 1 → is_argument w ≡ true → walked c [] (walk_from nothing_held) w ≡ at [] (id, w) 2
unfolding walked
first_word c id [] h plain = absurd (true≢false (sym plain))
first_word c id (x ∷ xs) h plain = rw (not_true (x == 45) plain, no_short x xs plain, h.by_index) refl

pub place_word : (c : List Rule) (ps : List Named) (p : Named) (id w : Word) (place : ℕ) → HasPlace c id place → is_argument w ≡ true → Has c p.0 → has_name p.0 ps ≡ false
    → walked c [] (at ps p place) w ≡ at (ps ++ p ∷ []) (id, w) (place + 1)
unfolding walked
place_word c ps p id [] place h plain has fresh = absurd (true≢false (sym plain))
place_word c ps p id (x ∷ xs) place h plain has fresh = rw (not_true (x == 45) plain, no_short x xs plain, h.by_index, never (bytes_eq p.0 id), settled-at c ps p has fresh, h.fits) refl

-- ---- an option and its value

pub name_word : (c : List Rule) (ps : List Named) (p : Named) (name : Word) (place : ℕ) → HasOption c name → Has c p.0 → has_name p.0 ps ≡ false
    → walked c [] (at ps p place) name ≡ opened (ps ++ p ∷ []) name place
unfolding walked
name_word c ps p name place h has fresh = rw (h.apart, h.is, h.by_long, settled-at c ps p has fresh) refl

pub value_word : (c : List Rule) (ps : List Named) (name w : Word) (place : ℕ) → HasOption c name → is_argument w ≡ true
    → walked c [] (opened ps name place) w ≡ at ps (name, w) place
unfolding walked
value_word c ps name [] place h plain = absurd (true≢false (sym plain))
value_word c ps name (x ∷ xs) place h plain = rw (not_true (x == 45) plain, no_short x xs plain, h.found, h.itself) refl

-- ---- the same words pass

pub first_passes : (s : Shape) (id w : Word) → HasPlace s.rules id 1 → is_argument w ≡ true → turn_passes s [] (walk_from nothing_held) w ≡ true
first_passes s id [] h plain = absurd (true≢false (sym plain))
first_passes s id (x ∷ xs) h plain = rw (not_true (x == 45) plain, no_short x xs plain, h.by_index) refl

pub place_passes : (s : Shape) (ps : List Named) (p : Named) (id w : Word) (place : ℕ) → HasPlace s.rules id place → is_argument w ≡ true → Has s.rules p.0 → has_name p.0 ps ≡ false
    → turn_passes s [] (at ps p place) w ≡ true
place_passes s ps p id [] place h plain has fresh = absurd (true≢false (sym plain))
place_passes s ps p id (x ∷ xs) place h plain has fresh = rw (not_true (x == 45) plain, no_short x xs plain, h.by_index, never (bytes_eq p.0 id), settles s.rules s.args_override_self ps p has fresh) refl

pub name_passes : (s : Shape) (ps : List Named) (p : Named) (name : Word) (place : ℕ) → HasOption s.rules name → Has s.rules p.0 → has_name p.0 ps ≡ false
    → turn_passes s [] (at ps p place) name ≡ true
name_passes s ps p name place h has fresh = rw (h.apart, h.is, h.by_long, settles s.rules s.args_override_self ps p has fresh) refl

pub value_passes : (s : Shape) (ps : List Named) (name w : Word) (place : ℕ) → HasOption s.rules name → is_argument w ≡ true
    → turn_passes s [] (opened ps name place) w ≡ true
value_passes s ps name [] place h plain = absurd (true≢false (sym plain))
value_passes s ps name (x ∷ xs) place h plain = rw (not_true (x == 45) plain, no_short x xs plain) refl
