use Rattle.std.proofs.Common.{◌≡◌, ap, ◌∙◌, rules}
use Rattle.ld_line.specs.Cut.{lines_from}
use Rattle.ld_mpd.specs.Blocks.{blocks_of, has_text}
use Rattle.ld_mpd.proofs.Firsts.{firsts-start}
use Rattle.ld_mpd.proofs.Texts.{blocks_have_text}
use Rattle.ld_mpd.proofs.cutting.split.Goals as goal

pub loop-line-init : goal.loop-line-init
loop-line-init c = record {
  blocks = firsts-start c.args.own.now c.args.bytes.now (lines_from c.unmarked.result.now) (lines_from c.in_ok-rest.rest.now) _ _ c.new-found.ensures.none c.unmarked.ensures.lines c.in_ok-rest.ensures.blocks (c.in_ok-rest.ensures.left c.args.own.now);
  seen = c.in_ok-rest.ensures.seen;
}

pub returns-clause-text : goal.returns-clause-text
returns-clause-text c =
    let blocks : c.loop-line.found.blocks.items ≡ blocks_of c.args.own.now c.args.bytes.now = search rules in
    ap has_text blocks ∙ blocks_have_text c.args.own.now c.args.bytes.now
