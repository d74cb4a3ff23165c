-- What the code's values say.
use Rattle.std.specs.Prelude.{option_map}
use Rattle.ld_words.specs.declared.request.Options.{Options as Held}
use Rattle.ld_words.specs.declared.request.Task.{Task as Kept}
use Rattle.ld_words.specs.declared.request.Task.TheVariants as kept
use Rattle.ld_words.specs.declared.request.Request.{Request}
use Rattle.ld_words.specs.Words.{Options, Intent, Task, Show, Replay, Generate}

abbrev pub task_shown : Kept → Task
task_shown (kept.Show what file) = Show what file.now
task_shown (kept.Replay file script) = Replay file.now script.now
task_shown (kept.Generate count) = Generate count

abbrev pub options_shown : Held → Options
options_shown o = record {
  colours = option_map (λ file. file.now) o.colours;
  main = o.main;
  workers = o.workers;
  max_entries = o.max_entries;
  max_depth = o.max_depth;
  cache = o.cache;
}

abbrev pub intent_shown : Request → Intent
intent_shown r = record { task = task_shown r.task; options = options_shown r.options }
