use Rattle.std.proofs.Common.{◌≡◌, ◌++◌, ap, codes, ◌∙◌, take}
use Rattle.std.specs.List.{flat_map}
use Rattle.ld_line.specs.Kind.{points_in}
use Rattle.ld_colour.specs.Table.{counting, rgb_in}
use Rattle.ld_texts.specs.Known.{file_at}
use Rattle.ld_report.specs.Entries.{entry_text}
use Rattle.ld_report.specs.Pieces.{certified_text, clip_text, colour_text, kind_text, numbered_text, point_text, rgb_text, source_text, winding_text}
use Rattle.ld_report.proofs.Extending.{after, appended, same, through}
use Rattle.ld_report.proofs.Lines.{drawn_line, part_line}
use Rattle.ld_report.proofs.entry.append_entry.Goals as goal

pub returns-in_ok-end_line-in-Drawn-clause-ok : goal.returns-in_ok-end_line-in-Drawn-clause-ok
unfolding entry_text
returns-in_ok-end_line-in-Drawn-clause-ok c =
    let d = c.in-Drawn in
    let old = c.args.into.now.items in
    let known = c.args.texts.now.known in
    let colour = colour_text d.colour in
    let rgb = rgb_text (rgb_in (counting c.args.table.now) d.colour) in
    let culling = codes " " ++ certified_text d.certified ++ codes " " ++ clip_text d.clip ++ codes " " ++ winding_text d.winding ++ codes " " in
    let points = take (points_in d.kind) d.points in
    let head : c.print_head.new.into.items ≡ old ++ (kind_text d.kind ++ codes " " ++ colour ++ codes " " ++ rgb) = c.in_ok-print_head-in-Drawn.ensures.ok ∙ ap (λ word. old ++ (word ++ colour ++ codes " " ++ rgb)) c.kind_text.ensures in
    let culled : c.extend_from_slice.new.self.items ≡ c.print_head.new.into.items ++ culling = c.in_ok-extend_from_slice-in-Drawn.ensures.items ∙ ap (λ words. c.print_head.new.into.items ++ words) c.culling_words.ensures in
    let pointed : c.print_points.new.into.items ≡ c.extend_from_slice.new.self.items ++ flat_map (λ point. point_text point ++ codes " ") points = c.in_ok-print_points-in-Drawn.ensures.ok ∙ ap (λ count. c.extend_from_slice.new.self.items ++ flat_map (λ point. point_text point ++ codes " ") (take count d.points)) c.points.ensures in
    let ended : c.end_line.new.into.items ≡ c.print_points.new.into.items ++ (source_text known d.source ++ codes "\n") = c.in_ok-end_line-in-Drawn.ensures.ok in
    let line = drawn_line old (kind_text d.kind) colour rgb (certified_text d.certified) (clip_text d.clip) (winding_text d.winding) points (source_text known d.source) in
    rw d.is (ended ∙ ap (λ text. text ++ (source_text known d.source ++ codes "\n")) (pointed ∙ ap (λ text. text ++ flat_map (λ point. point_text point ++ codes " ") points) (culled ∙ ap (λ text. text ++ culling) head)) ∙ line)

pub returns-in_ok-end_line-in-Part-clause-ok : goal.returns-in_ok-end_line-in-Part-clause-ok
unfolding entry_text
returns-in_ok-end_line-in-Part-clause-ok c =
    let d = c.in-Part in
    let old = c.args.into.now.items in
    let source = source_text c.args.texts.now.known d.source in
    let file = numbered_text (file_at c.args.texts.now.known d.file.0) in
    let line = part_line old (colour_text d.colour) (rgb_text (rgb_in (counting c.args.table.now) d.colour)) file source in
    rw d.is (c.in_ok-end_line-in-Part.ensures.ok ∙ ap (λ text. text ++ (source ++ codes "\n")) (c.in_ok-print_part-in-Part.ensures.ok ∙ ap (λ text. text ++ (codes " " ++ file ++ codes " at ")) c.in_ok-print_head-in-Part.ensures.ok) ∙ line)

pub returns-in_ok-end_line-in-Drawn-clause-keeps : goal.returns-in_ok-end_line-in-Drawn-clause-keeps
returns-in_ok-end_line-in-Drawn-clause-keeps c = appended _ _ _ (returns-in_ok-end_line-in-Drawn-clause-ok c)

pub returns-in_ok-end_line-in-Part-clause-keeps : goal.returns-in_ok-end_line-in-Part-clause-keeps
returns-in_ok-end_line-in-Part-clause-keeps c = appended _ _ _ (returns-in_ok-end_line-in-Part-clause-ok c)

pub returns-in_err-print_head-in-Drawn-clause-keeps : goal.returns-in_err-print_head-in-Drawn-clause-keeps
returns-in_err-print_head-in-Drawn-clause-keeps c = c.in_err-print_head-in-Drawn.ensures.keeps

pub returns-in_err-extend_from_slice-in-Drawn-clause-keeps : goal.returns-in_err-extend_from_slice-in-Drawn-clause-keeps
returns-in_err-extend_from_slice-in-Drawn-clause-keeps c = through _ _ _ c.in_ok-print_head-in-Drawn.ensures.keeps (same _ _ c.in_err-extend_from_slice-in-Drawn.ensures.items)

pub returns-in_err-print_points-in-Drawn-clause-keeps : goal.returns-in_err-print_points-in-Drawn-clause-keeps
returns-in_err-print_points-in-Drawn-clause-keeps c = through _ _ _ c.in_ok-print_head-in-Drawn.ensures.keeps (after _ _ _ _ c.in_ok-extend_from_slice-in-Drawn.ensures.items c.in_err-print_points-in-Drawn.ensures.keeps)

pub returns-in_err-end_line-in-Drawn-clause-keeps : goal.returns-in_err-end_line-in-Drawn-clause-keeps
returns-in_err-end_line-in-Drawn-clause-keeps c = through _ _ _ c.in_ok-print_head-in-Drawn.ensures.keeps (after _ _ _ _ c.in_ok-extend_from_slice-in-Drawn.ensures.items (through _ _ _ c.in_ok-print_points-in-Drawn.ensures.keeps c.in_err-end_line-in-Drawn.ensures.keeps))

pub returns-in_err-print_head-in-Part-clause-keeps : goal.returns-in_err-print_head-in-Part-clause-keeps
returns-in_err-print_head-in-Part-clause-keeps c = c.in_err-print_head-in-Part.ensures.keeps

pub returns-in_err-print_part-in-Part-clause-keeps : goal.returns-in_err-print_part-in-Part-clause-keeps
returns-in_err-print_part-in-Part-clause-keeps c = through _ _ _ c.in_ok-print_head-in-Part.ensures.keeps c.in_err-print_part-in-Part.ensures.keeps

pub returns-in_err-end_line-in-Part-clause-keeps : goal.returns-in_err-end_line-in-Part-clause-keeps
returns-in_err-end_line-in-Part-clause-keeps c = through _ _ _ c.in_ok-print_head-in-Part.ensures.keeps (through _ _ _ c.in_ok-print_part-in-Part.ensures.keeps c.in_err-end_line-in-Part.ensures.keeps)
