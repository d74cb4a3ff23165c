-- The places of ranks.
use Rattle.std.specs.Prelude.{◌≡◌, ◌||◌, ℕ, Option}
use Rattle.std.specs.Option.{option_map}
use Rattle.ld_check.specs.Order.{is_below}
use Rattle.ld_check.specs.declared.order.Rank.{Rank}
use Rattle.ld_check.specs.declared.order.Rank.TheVariants.{Help, Bfc, Category, Keywords, CommandLine, History}

abbrev pub rank_place : Rank → ℕ
rank_place Help = 1
rank_place Bfc = 2
rank_place Category = 3
rank_place Keywords = 4
rank_place CommandLine = 5
rank_place History = 6

abbrev pub place_of_rank : Option Rank → Option ℕ
place_of_rank rank = option_map rank_place rank

-- what is below one of two ranks is below the higher
abbrev pub IsHigher : Option Rank → Option Rank → Option Rank → Type 0
IsHigher first second higher = (rank : Option ℕ) → is_below rank (place_of_rank higher) ≡ (is_below rank (place_of_rank first) || is_below rank (place_of_rank second))
