-- What a graph that agrees with texts says of them, as their expansion sees them.
use Rattle.std.specs.Prelude.{◌≡◌, ℕ, suc}
use Rattle.ld_names.specs.declared.file.TextId.{TextId}
use Rattle.ld_texts.specs.Known.{file_at}
use Rattle.ld_texts.specs.Learning.{Texts}
use Rattle.ld_entry.specs.Heights.{height, Refers}
use Rattle.ld_entry.specs.NumberedTexts.{known_texts}
use Rattle.ld_graph.specs.Agreeing.{Agrees}
use Rattle.ld_graph.specs.Items.{web_of}
use Rattle.ld_graph.specs.Moving.{target_of}
use Rattle.ld_graph.specs.Seen.{Graph}
use Rattle.ld_graph.specs.Web.{height as height_by_web}

abbrev pub height_in : Graph → TextId → ℕ
height_in graph text = height_by_web (web_of graph.items) (suc graph.depth) text.0

-- the heights of what is referred to are those by its lines, and so are the texts at which moves end
pub record AgreesWith (graph : Graph) (depth : ℕ) (texts : Texts) : Type 0 where
  pub items : Agrees graph texts
  pub heights : (text other : TextId) → Refers (known_texts texts.known) text other → height_in graph other ≡ height (suc depth) (known_texts texts.known) other
  pub targets : (text : TextId) → target_of texts.known text (file_at texts.known text.0) ≡ (known_texts texts.known).target text
