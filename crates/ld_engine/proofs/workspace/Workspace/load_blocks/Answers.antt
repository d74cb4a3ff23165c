use Rattle.std.proofs.Common.{◌≡◌, [], ◌∷◌, ℕ, true, List, map, bytes_eq, ap, sym, subst, ◌∙◌, Ok}
use Rattle.std.specs.List.{IsDistinct, list_all}
use Rattle.std.specs.Vec.Iter.{into_iter_items}
use Rattle.ld_mpd.specs.Blocks.{are_inside, texts_in}
use Rattle.ld_mpd.specs.declared.block.Block.{Block}
use Rattle.ld_engine.specs.Loading.{AreNew, load}
use Rattle.ld_engine.specs.declared.limits.Limits.{Limits}
use Rattle.ld_engine.proofs.Loaded.{clean-behind, different-behind, new-behind, one-more}
use Rattle.ld_engine.proofs.workspace.Workspace.load_blocks.Goals as goal

pub loop-block-preserved : goal.loop-block-preserved
loop-block-preserved c =
    let i = c.loop-block.invariant in
    let e = c.in_default-load_block.ensures in
    let block = c.in-Some.block in
    let text : List ℕ × List (List ℕ) = (block.name, block.lines) in
    let old = c.loop-block.self.texts.known in
    let mid = c.load_block.new.self.texts.known in
    let rest = texts_in (into_iter_items c.next.new.self) in
    let here : into_iter_items c.loop-block.rest ≡ block ∷ into_iter_items c.next.new.self = c.in-Some.ensures.cases.0 in
    let loads : load c.args.self.now.limits old (texts_in (block ∷ [])) ≡ Ok mid = subst (λ (l : Limits). load l old (texts_in (block ∷ [])) ≡ Ok mid) i.limits e.loads in
    let new : AreNew old (texts_in (block ∷ into_iter_items c.next.new.self)) = subst (λ (bs : List Block). AreNew old (texts_in bs)) here i.new in
    let different : IsDistinct bytes_eq (map (λ text. text.0) (texts_in (block ∷ into_iter_items c.next.new.self))) = subst (λ (bs : List Block). IsDistinct bytes_eq (map (λ text. text.0) (texts_in bs))) here i.different in
    let clean : list_all (λ text. are_inside text.1) (texts_in (block ∷ into_iter_items c.next.new.self)) ≡ true = subst (λ (bs : List Block). list_all (λ text. are_inside text.1) (texts_in bs) ≡ true) here i.clean in
    record {
      limits = e.limits ∙ i.limits;
      so_far = sym (one-more c.args.self.now.limits old text rest block.is_data mid loads) ∙ ap (λ (bs : List Block). load c.args.self.now.limits old (texts_in bs)) (sym here) ∙ i.so_far;
      new = new-behind c.args.self.now.limits old text rest c.learning_law.ensures c.file_laws.ensures.same block.is_data mid loads new different;
      different = different-behind c.args.self.now.limits old text rest block.is_data different;
      clean = clean-behind c.args.self.now.limits old text rest block.is_data clean;
    }
