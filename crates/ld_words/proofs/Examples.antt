-- The definition at words that are written out.
use Rattle.std.proofs.Common.{◌≡◌, ◌==◌, ℕ, List, Option, Some, None, refl, codes}
use Rattle.std.specs.List.{slice_split}
use Rattle.ld_line.specs.Colour.{colour_word}
use Rattle.ld_line.specs.Digits.{decimal_number}
use Rattle.ld_words.specs.Words.{Intent, Options, intent_of, Show, Replay, Generate}
use Rattle.ld_words.specs.declared.listing.Listing.TheVariants as listing

-- what words with a space between each two ask for
abbrev asks : List ℕ → Option Intent
asks line = intent_of (slice_split (λ byte. byte == 32) line)

abbrev defaults : Options
defaults = record { colours = None; main = 16; workers = 4; max_entries = 2000000; max_depth = 32; cache = 524288 }

faces : asks (codes "faces m.ldr") ≡ Some (record { task = Show listing.Faces (codes "m.ldr"); options = defaults })
unfolding intent_of
faces = refl

all_options : asks (codes "check a.dat --main 0x1f --cache 0 --colours faces --workers 16 --max-depth 1 --max-entries 0000000009")
    ≡ Some (record {
      task = Show listing.Check (codes "a.dat");
      options = record { colours = Some (codes "faces"); main = 31; workers = 16; max_entries = 9; max_depth = 1; cache = 0 };
    })
unfolding intent_of colour_word decimal_number
all_options = refl

replay : asks (codes "replay m.mpd s.txt --cache 0") ≡ Some (record { task = Replay (codes "m.mpd") (codes "s.txt"); options = record defaults { cache = 0 } })
unfolding intent_of decimal_number
replay = refl

gen : asks (codes "gen 0000100000") ≡ Some (record { task = Generate 100000; options = defaults })
unfolding intent_of decimal_number
gen = refl

too_many : asks (codes "gen 100001") ≡ None
unfolding intent_of decimal_number
too_many = refl

twice : asks (codes "faces m.ldr --main 4 --main 4") ≡ None
unfolding intent_of colour_word
twice = refl

before_the_file : asks (codes "faces --main 4 m.ldr") ≡ None
unfolding intent_of
before_the_file = refl

with_equals : asks (codes "faces m.ldr --main=4") ≡ None
unfolding intent_of
with_equals = refl

two_files : asks (codes "faces m.ldr n.ldr") ≡ None
unfolding intent_of
two_files = refl
