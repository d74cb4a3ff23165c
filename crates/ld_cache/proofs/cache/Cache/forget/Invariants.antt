use Rattle.ld_cache.proofs.Forgetting.{AreForgotten}
use Rattle.ld_cache.proofs.cache.Cache.forget.Given as goal

abbrev pub invariant-loop-text : goal.invariant-loop-text
invariant-loop-text l = AreForgotten l.dirty l.initial.self l.self l.text
