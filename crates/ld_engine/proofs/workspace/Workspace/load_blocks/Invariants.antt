use Rattle.std.proofs.Common.{◌≡◌, true, length, map, bytes_eq}
use Rattle.std.specs.List.{IsDistinct, list_all}
use Rattle.std.specs.Vec.Iter.{into_iter_items}
use Rattle.ld_mpd.specs.Blocks.{are_inside, texts_in}
use Rattle.ld_engine.specs.Loading.{AreNew, load}
use Rattle.ld_engine.proofs.workspace.Workspace.load_blocks.Given as goal

abbrev pub invariant-loop-block : goal.invariant-loop-block
invariant-loop-block l = record {
  limits : l.self.limits ≡ l.fn.self.limits;
  so_far : load l.fn.self.limits l.self.texts.known (texts_in (into_iter_items l.rest)) ≡ load l.fn.self.limits l.fn.self.texts.known (texts_in l.fn.blocks.items);
  new : AreNew l.self.texts.known (texts_in (into_iter_items l.rest));
  different : IsDistinct bytes_eq (map (λ text. text.0) (texts_in (into_iter_items l.rest)));
  clean : list_all (λ text. are_inside text.1) (texts_in (into_iter_items l.rest)) ≡ true;
}

abbrev pub decreases-loop-block : goal.decreases-loop-block
decreases-loop-block l = length (into_iter_items l.rest)
