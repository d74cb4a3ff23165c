-- The limits of words in the grammar are those of a workspace.
use Rattle.std.proofs.Common.{◌≡◌, ℕ, true, None, refl}
use Rattle.std.specs.Cmp.Derive.{both_true}
use Rattle.std.proofs.lemmas.Bool.{le-leb}
use Rattle.ld_engine.specs.Limits.{bad_limit, is_between}
use Rattle.ld_words.specs.Words.{Intent, IsBetween, IsBounded, most_cache, most_depth, most_entries}
use Rattle.ld_cmd.specs.Output.{limits_of}

between : (low high number : ℕ) → IsBetween low high number → is_between low high number ≡ true
between low high number is = both_true (le-leb low number is.0) (le-leb number high is.1)

pub limits_are_good : (intent : Intent) → IsBounded intent → bad_limit (limits_of intent.options) ≡ None
limits_are_good intent is =
    rw (between 1 most_entries intent.options.max_entries is.max_entries) (rw (between 1 most_depth intent.options.max_depth is.max_depth) (rw (between 0 most_cache intent.options.cache is.cache) refl))
