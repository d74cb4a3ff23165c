-- Rows of clap that are names with one value each.
use Rattle.std.proofs.Common.{◌≡◌, ◌∙◌, ℕ, Bool, cond, true, false, ◌||◌, refl, sym, ap, List, [], ◌∷◌, ◌++◌, map, Option, Some, None, true≢false, append-nil}
use Rattle.std.specs.List.{find, list_any}
use Rattle.std.specs.Str.{bytes_eq}
use Rattle.std.proofs.lemmas.List.{map-append}
use Rattle.clap.specs.Walk.{Row, Rule, at_row, first_of, has_row, more_values, used}
use Rattle.clap.specs.declared.builder.action.ArgAction.TheVariants.{Set}
use Rattle.clap.specs.declared.builder.value_parser.Reading.TheVariants.{AsWritten}
use Rattle.clap.specs.declared.builder.value_parser.ValueParser.TheVariants as vp
use Rattle.clap.specs.declared.parser.matches.ValueSource.TheVariants.{CommandLine}
use Rattle.ld_words.specs.Words.{Named, Word, value_of}

-- a filled argument with one value a use
abbrev pub single : Word → Option Word → Option ℕ → Rule
single id long index = record {
  id = id;
  long = long;
  aliases = [];
  short = None;
  short_aliases = [];
  index = index;
  action = Some Set;
  range = Some (record { start_inclusive = 1; end_inclusive = 1 });
  value_names = 0;
  defaults = [];
  missing = [];
  trailing_var_arg = false;
  parser = Some vp.String;
  ignore_case = false;
  required = false;
  is_simple = true;
  is_free = true;
}

abbrev pub as_row : Named → Row
as_row p = record {
  id = p.0;
  values = p.1 ∷ [];
  count = None;
  source = Some CommandLine;
  reading = AsWritten;
}

abbrev pub has_name : Word → List Named → Bool
has_name id ps = list_any (λ p. bytes_eq p.0 id) ps

pub neither : (a b : Bool) → (a || b) ≡ false → (a ≡ false) × (b ≡ false)
neither true b e = absurd (true≢false e)
neither false b e = (refl, e)

pub has_row-named : (id : Word) (ps : List Named) → has_row id (map as_row ps) ≡ has_name id ps
has_row-named id [] = refl
has_row-named id (p ∷ ps) = ap (λ b. bytes_eq p.0 id || b) (has_row-named id ps)

at_row-none : (id : Word) (change : Row → List Row) (missing : List Row) (ps : List Named) → has_name id ps ≡ false
    → at_row id change missing (map as_row ps) ≡ map as_row ps ++ missing
at_row-none id change missing [] none = refl
at_row-none id change missing (p ∷ ps) none =
    let here = neither (bytes_eq p.0 id) (has_name id ps) none in
    rw here.0 (ap (λ rs. as_row p ∷ rs) (at_row-none id change missing ps here.1))

-- a first use joins at the end
pub used-named : (id v : Word) (long : Option Word) (index : Option ℕ) (ps : List Named) → has_name id ps ≡ false
    → used (single id long index) (v ∷ []) (map as_row ps) ≡ map as_row (ps ++ (id, v) ∷ [])
used-named id v long index ps none =
    let gone : at_row id (λ _. []) [] (map as_row ps) ≡ map as_row ps = at_row-none id (λ _. []) [] ps none ∙ append-nil (map as_row ps) in
    rw gone (at_row-none id (more_values CommandLine (v ∷ [])) (as_row (id, v) ∷ []) ps none ∙ sym (map-append as_row ps ((id, v) ∷ [])))

pub first_of-named : (id : Word) (ps : List Named) → first_of id (map as_row ps) ≡ value_of id ps
first_of-named id [] = refl
first_of-named id (p ∷ ps) = go (bytes_eq p.0 id) (first_of-named id ps)
  where
    go : (b : Bool) → first_of id (map as_row ps) ≡ value_of id ps
        → Rattle.std.specs.Option.option_and_then (λ (r : Row). Rattle.std.specs.Prelude.slice_get r.values 0) (cond b (Some (as_row p)) (find (λ (r : Row). bytes_eq r.id id) (map as_row ps)))
        ≡ cond b (Some p.1) (value_of id ps)
    go true e = refl
    go false e = e

pub has_name-append : (id : Word) (ps qs : List Named) → has_name id (ps ++ qs) ≡ (has_name id ps || has_name id qs)
has_name-append id [] qs = refl
has_name-append id (p ∷ ps) qs = go (bytes_eq p.0 id) (has_name-append id ps qs)
  where
    go : (b : Bool) → has_name id (ps ++ qs) ≡ (has_name id ps || has_name id qs) → (b || has_name id (ps ++ qs)) ≡ ((b || has_name id ps) || has_name id qs)
    go true e = refl
    go false e = e
