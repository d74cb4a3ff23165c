use Rattle.std.proofs.Common.{◌≡◌, ℕ, zero, suc, List, Option, None, Some, get_or, refl, sym, ◌∙◌, ap}
use Rattle.std.specs.Prelude.{replicate}
use Rattle.ld_cache.specs.Kept.{kept_of, nothing_kept}
use Rattle.ld_entry.specs.declared.entry.Expansion.{Expansion}
use Rattle.ld_work.proofs.tests.expanded.Goals as goal

abbrev nothing : Option Expansion
nothing = None

none-kept : (texts text : ℕ) → get_or (replicate texts nothing) text nothing ≡ nothing
none-kept zero text = refl
none-kept (suc texts) zero = refl
none-kept (suc texts) (suc text) = none-kept texts text

pub expand_text-requires-clause-kept : goal.expand_text-requires-clause-kept
expand_text-requires-clause-kept c = λ text expansion is.
    let none : kept_of c.in_ok-cache.cache text ≡ None = ap (λ cache. kept_of cache text) c.in_ok-cache.ensures ∙ none-kept 2 text.0 in
    absurd (let e = sym none ∙ is in cc)
