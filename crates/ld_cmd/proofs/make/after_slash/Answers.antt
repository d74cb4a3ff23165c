use Rattle.std.proofs.Common.{◌≡◌, ℕ, cond, List, [], ◌∷◌, refl, tests, arith}
use Rattle.std.specs.List.{list_any}
use Rattle.ld_cmd.specs.Output.{after_slash, is_slash}
use Rattle.ld_cmd.proofs.make.after_slash.Goals as goal

after_slash-none : (word : List ℕ) → cond (list_any is_slash word) (after_slash word) word ≡ after_slash word
after_slash-none [] = refl
after_slash-none (byte ∷ bytes) = grind (arith, tests)

pub loop-first-init : goal.loop-first-init
loop-first-init c = after_slash-none c.args.word.now
