use Rattle.std.proofs.Common.{◌≡◌, Some, ap, sym, subst, ◌∙◌}
use Rattle.std.specs.Option.{option_copied}
use Rattle.ld_mpd.specs.Blocks.{text_blocks, texts_in}
use Rattle.ld_names.specs.Standing.{Known}
use Rattle.ld_names.specs.declared.file.FileId.{FileId}
use Rattle.ld_texts.specs.Known.{file_at}
use Rattle.ld_texts.specs.Learning.{Texts}
use Rattle.ld_engine.specs.Loading.{AreNew, main_of}
use Rattle.ld_engine.proofs.Loaded.{all-loaded, all-new, main-some, main-there, some-copied}
use Rattle.ld_engine.proofs.workspace.Workspace.load_texts.Goals as goal

pub load_blocks-requires-clause-new : goal.load_blocks-requires-clause-new
load_blocks-requires-clause-new c = subst (λ (known : Known). AreNew known (texts_in c.in_ok-blocks.blocks.items)) (sym c.requires.nothing_known) (all-new c.number_law.ensures (texts_in c.in_ok-blocks.blocks.items))

pub unwrap-requires : goal.unwrap-requires
unwrap-requires c =
    let known : c.texts.result.now.known ≡ c.load_blocks.new.self.texts.known = ap (λ (t : Texts). t.known) c.texts.ensures.texts in
    let found : option_copied c.file.result ≡ main_of (text_blocks c.args.own.now c.args.bytes.now) =
    c.file.ensures ∙ ap (λ (k : Known). file_at k 0) known ∙ main-there c.learning_law.ensures c.block_laws.ensures.stands c.block_laws.ensures.texts c.args.self.now.limits c.args.own.now c.args.bytes.now c.in_ok-blocks.blocks.items c.args.self.now.texts.known c.load_blocks.new.self.texts.known c.in_ok-blocks.ensures.ok c.requires.nothing_known c.in_default.ensures.loads in
    some-copied c.file.result (main_of (text_blocks c.args.own.now c.args.bytes.now)) found (main-some c.learning_law.ensures c.block_laws.ensures.stands c.block_laws.ensures.texts c.args.self.now.limits c.args.own.now c.args.bytes.now c.in_ok-blocks.blocks.items c.args.self.now.texts.known c.load_blocks.new.self.texts.known c.in_ok-blocks.ensures.ok c.requires.nothing_known c.in_default.ensures.loads)

pub returns-clause-loads : goal.returns-clause-loads
returns-clause-loads c =
    let known : c.texts.result.now.known ≡ c.load_blocks.new.self.texts.known = ap (λ (t : Texts). t.known) c.texts.ensures.texts in
    let found : option_copied c.file.result ≡ main_of (text_blocks c.args.own.now c.args.bytes.now) =
    c.file.ensures ∙ ap (λ (k : Known). file_at k 0) known ∙ main-there c.learning_law.ensures c.block_laws.ensures.stands c.block_laws.ensures.texts c.args.self.now.limits c.args.own.now c.args.bytes.now c.in_ok-blocks.blocks.items c.args.self.now.texts.known c.load_blocks.new.self.texts.known c.in_ok-blocks.ensures.ok c.requires.nothing_known c.in_default.ensures.loads in (
      all-loaded c.learning_law.ensures c.block_laws.ensures.stands c.block_laws.ensures.texts c.args.self.now.limits c.args.own.now c.args.bytes.now c.in_ok-blocks.blocks.items c.args.self.now.texts.known c.load_blocks.new.self.texts.known c.in_ok-blocks.ensures.ok c.requires.nothing_known c.in_default.ensures.loads,
      sym found ∙ ap option_copied c.unwrap.ensures ∙ sym (ap (λ (f : FileId). Some f) c.in_ok-copy.ensures),
    )
