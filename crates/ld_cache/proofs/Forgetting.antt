-- The kept expansions as the dirty ones are forgotten one after another.
use Rattle.std.proofs.Common.{◌≡◌, ℕ, ◌+◌, ◌<◌, ◌≤◌, Bool, true, false, List, Option, None, if◌then◌else◌, get_or, length, map, set, sym, ◌∙◌, ap, subst, refl, arith, inl, inr}
use Rattle.std.specs.List.{range_with_len}
use Rattle.std.proofs.lemmas.Bool.{cases_eq, cases_lt}
use Rattle.std.proofs.lemmas.List.{ext_get_or, get_or-set_other, get_or-set_same, get_or_past, length-set}
use Rattle.std.proofs.lemmas.List.FromFn.{get_or-map-range_with_len, length-map-range_with_len}
use Rattle.ld_entry.specs.declared.entry.Expansion.{Expansion}
use Rattle.ld_graph.specs.Dirt.{is_dirty}
use Rattle.ld_cache.specs.Kept.{Cached, left_of, without_dirty}

-- those before a number are gone through
pub record AreForgotten (dirty : List Bool) (old new : Cached) (reached : ℕ) : Type 0 where
  pub size : length new.kept ≡ length old.kept
  pub blocks : new.blocks ≡ old.blocks
  pub before : (text : ℕ) → text < reached → get_or new.kept text None ≡ left_of dirty old.kept text
  pub behind : (text : ℕ) → reached ≤ text → get_or new.kept text None ≡ get_or old.kept text None

pub none-forgotten : (dirty : List Bool) (old : Cached) → AreForgotten dirty old old 0
none-forgotten dirty old = record { size = refl; blocks = refl; before = λ text h. absurd (omega (arith, h)); behind = λ text h. refl }

left-dirty : (dirty : List Bool) (kept : List (Option Expansion)) (text : ℕ) → is_dirty dirty (record { 0 = text }) ≡ true → left_of dirty kept text ≡ None
left-dirty dirty kept text e = rw e refl

left-clean : (dirty : List Bool) (kept : List (Option Expansion)) (text : ℕ) → is_dirty dirty (record { 0 = text }) ≡ false → left_of dirty kept text ≡ get_or kept text None
left-clean dirty kept text e = rw e refl

-- one more, which is not dirty
pub clean-passed : (dirty : List Bool) (old new : Cached) (reached : ℕ) → is_dirty dirty (record { 0 = reached }) ≡ false → AreForgotten dirty old new reached → AreForgotten dirty old new (reached + 1)
clean-passed dirty old new reached clean so =
    record {
      size = so.size;
      blocks = so.blocks;
      before = λ text h. elim (cases_lt text reached) [
        | inl below ↦ so.before text below
        | inr past ↦
            let e : reached ≡ text = omega (arith, h, past) in
            subst (λ (t : ℕ). get_or new.kept t None ≡ left_of dirty old.kept t) e (so.behind reached (omega arith) ∙ sym (left-clean dirty old.kept reached clean))
      ];
      behind = λ text h. so.behind text (omega (arith, h));
    }

-- one more, which is dirty
pub dirty-passed : (dirty : List Bool) (old new after : Cached) (reached : ℕ) → is_dirty dirty (record { 0 = reached }) ≡ true → after.kept ≡ set new.kept reached None → after.blocks ≡ new.blocks → AreForgotten dirty old new reached → AreForgotten dirty old after (reached + 1)
dirty-passed dirty old new after reached stale kept blocks so =
    let here : get_or after.kept reached None ≡ None = ap (λ all. get_or all reached None) kept ∙ gone new.kept reached in
    let other : (text : ℕ) → (text ≡ reached → ⊥) → get_or after.kept text None ≡ get_or new.kept text None =
    (λ text apart. ap (λ all. get_or all text None) kept ∙ get_or-set_other new.kept reached text None None apart) in
    record {
      size = ap length kept ∙ (length-set new.kept reached None ∙ so.size);
      blocks = blocks ∙ so.blocks;
      before = λ text h. elim (cases_eq text reached) [
        | inl e ↦ ap (λ t. get_or after.kept t None) e ∙ (here ∙ (sym (left-dirty dirty old.kept reached stale) ∙ ap (left_of dirty old.kept) (sym e)))
        | inr apart ↦ other text apart ∙ so.before text (omega (arith, h, apart))
      ];
      behind = λ text h. other text (λ e. omega (arith, h, e)) ∙ so.behind text (omega (arith, h));
    }
  where
    gone : (kept : List (Option Expansion)) (at : ℕ) → get_or (set kept at None) at None ≡ None
    gone kept at =
        elim (cases_lt at (length kept)) [
          | inl below ↦ get_or-set_same kept at None None below
          | inr past ↦ get_or_past (set kept at None) at None (omega (arith, past, length-set kept at None))
        ]

-- nothing is kept of those that were not gone through
pub all-forgotten : (dirty : List Bool) (old new : Cached) (reached : ℕ) → ((text : ℕ) → reached ≤ text → get_or old.kept text None ≡ None) → AreForgotten dirty old new reached → new ≡ without_dirty old dirty
all-forgotten dirty old new reached none so =
    let left = map (left_of dirty old.kept) (range_with_len 0 (length old.kept)) in
    let size : length left ≡ length old.kept = length-map-range_with_len (left_of dirty old.kept) 0 (length old.kept) in
    let never : (text : ℕ) → get_or old.kept text None ≡ None → left_of dirty old.kept text ≡ None = (λ text e. nothing dirty old.kept text e) in
    let same : new.kept ≡ left = ext_get_or None new.kept left (so.size ∙ sym size)
    (λ text h.
    let at : get_or left text None ≡ left_of dirty old.kept text = get_or-map-range_with_len (left_of dirty old.kept) 0 (length old.kept) text text None (omega (arith, h, so.size)) (omega arith) in
    elim (cases_lt text reached) [
      | inl below ↦ so.before text below ∙ sym at
      | inr past ↦ so.behind text past ∙ (none text past ∙ sym (at ∙ never text (none text past)))
    ]) in
    ap (λ kept. record { kept = kept; blocks = new.blocks }) same ∙ ap (λ blocks. record { kept = left; blocks = blocks }) so.blocks
  where
    choose : (b : Bool) (x : Option Expansion) → x ≡ None → (if b then None else x) ≡ None
    choose true x e = refl
    choose false x e = e

    nothing : (dirty : List Bool) (kept : List (Option Expansion)) (text : ℕ) → get_or kept text None ≡ None → left_of dirty kept text ≡ None
    nothing dirty kept text e = choose (is_dirty dirty (record { 0 = text })) (get_or kept text None) e

pub length_without : (cache : Cached) (dirty : List Bool) → length (without_dirty cache dirty).kept ≡ length cache.kept
length_without cache dirty = length-map-range_with_len (left_of dirty cache.kept) 0 (length cache.kept)
