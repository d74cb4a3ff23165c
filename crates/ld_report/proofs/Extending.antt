-- Texts that are appended to, piece by piece.
use Rattle.std.proofs.Common.{◌≡◌, ℕ, List, [], ◌++◌, ap, append-nil, append_assoc, sym, ◌∙◌}
use Rattle.ld_report.specs.Extending.{Extends}

pub same : (old new : List ℕ) → new ≡ old → Extends old new
same old new is = record { more = []; is = is ∙ sym (append-nil old) }

pub appended : (old text new : List ℕ) → new ≡ old ++ text → Extends old new
appended old text new is = record { more = text; is = is }

pub after : (old text middle new : List ℕ) → middle ≡ old ++ text → Extends middle new → Extends old new
after old text middle new is extends = record { more = text ++ extends.more; is = extends.is ∙ ap (λ list. list ++ extends.more) is ∙ append_assoc old text extends.more }

pub through : (old middle new : List ℕ) → Extends old middle → Extends middle new → Extends old new
through old middle new first second = after old first.more middle new first.is second

-- one text more
pub put : {before whole new : List ℕ} (text : List ℕ) → new ≡ before ++ text → before ≡ whole → new ≡ whole ++ text
put text is so = is ∙ ap (λ list. list ++ text) so

pub ruleset extending = (same, appended, after)
