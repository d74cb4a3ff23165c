-- The command of clap that reads the words, and what its values ask for (this project's own).
use Rattle.std.specs.Prelude.{Option, Some, None, codes, option_map}
use Rattle.clap.specs.Walk.{Rule}
use Rattle.clap.specs.Simple.{App, new_app, new_rule, with_rule}
use Rattle.ld_words.specs.Words.{Intent, Task, Word, options_from, task_of}

abbrev pub option_rule : Word → Word → Rule
option_rule name long = record (new_rule name) { long = Some long }

abbrev pub with_option : Word → Word → App → App
with_option name long app = with_rule app (option_rule name long)

abbrev pub ldraw_places : App
ldraw_places = with_rule (with_rule (with_rule (new_app (codes "ldraw")) (new_rule (codes "command"))) (new_rule (codes "word"))) (new_rule (codes "second"))

abbrev pub ldraw : App
ldraw = with_option (codes "--cache") (codes "cache")
    (with_option (codes "--max-depth") (codes "max-depth")
    (with_option (codes "--max-entries") (codes "max-entries")
    (with_option (codes "--workers") (codes "workers")
    (with_option (codes "--main") (codes "main")
    (with_option (codes "--colours") (codes "colours") ldraw_places)))))

abbrev pub task_from : Option Word → Option Word → Option Word → Option Task
task_from (Some command) (Some word) second = task_of command word second
task_from _ _ _ = None

-- what is asked for, by what gives each name its value
abbrev pub intent_from : (Word → Option Word) → Option Intent
intent_from value = option_map (λ task. record { task = task; options = options_from value })
    (task_from (value (codes "command")) (value (codes "word")) (value (codes "second")))
