use Rattle.std.proofs.Common.{◌≡◌, ◌-◌, ◌++◌, ◌&&◌, ◌||◌, [], ◌∷◌, not, nat_lt, drop, ap, subst, sym, take, ◌∙◌}
use Rattle.std.specs.List.{list_any}
use Rattle.ld_line.specs.Reading.{line_of}
use Rattle.ld_check.specs.Findings.{found}
use Rattle.ld_check.specs.Inside.AtLine.{header_findings, said_findings, written_findings}
use Rattle.ld_check.specs.Inside.Drawn.{HasDrawn}
use Rattle.ld_check.specs.Inside.Passing.{IsPassed, header_rank}
use Rattle.ld_check.specs.Inside.Ranking.{place_of_rank}
use Rattle.ld_check.specs.Order.{is_below, is_body, is_statement, rank_of}
use Rattle.ld_check.specs.Lines.{draws_same}
use Rattle.ld_check.specs.Text.{said}
use Rattle.ld_check.proofs.Listed.{listed}
use Rattle.ld_check.proofs.Passing.{any_more, one_more, out_of_order, passed_more, size_before}
use Rattle.ld_check.proofs.checking.check_read_line.Goals as goal

pub returns : goal.returns
returns c lines at passed =
    let number = c.args.number in
    let bytes = c.args.bytes.now in
    let before = take (number - 1) lines in
    let says : c.args.line.now ≡ line_of bytes = c.requires.line in
    let more : take number lines ≡ before ++ bytes ∷ [] = one_more lines number bytes c.requires.number at in
    let size = size_before lines number bytes c.requires.number at in
    let rank : place_of_rank c.rank-rank.result ≡ header_rank number c.args.passed.now bytes (line_of bytes) = c.rank-rank.ensures ∙ ap (λ line. header_rank number c.args.passed.now bytes line) says in
    let over : not (list_any (said is_body) (take number lines)) ≡ not (c.args.passed.now.has_body || is_body (line_of bytes)) = ap (λ taken. not (list_any (said is_body) taken)) more ∙ ap not (any_more (said is_body) before bytes ∙ ap (λ b. b || is_body (line_of bytes)) (sym passed.body)) in
    let own = is_body c.args.line.now && not c.args.passed.now.has_body && not c.args.passed.now.has_statement in
    let lacks : own ≡ (is_body (line_of bytes) && not (list_any (said is_body) before) && not (list_any (said is_statement) before)) = ap (λ line. is_body line && not c.args.passed.now.has_body && not c.args.passed.now.has_statement) says ∙ ap (λ b. is_body (line_of bytes) && not b && not c.args.passed.now.has_statement) passed.body ∙ ap (λ b. is_body (line_of bytes) && not (list_any (said is_body) before) && not b) passed.statement in
    let below = is_below (place_of_rank c.rank-rank.result) (place_of_rank c.args.passed.now.highest) in
    let earlier = list_any (λ earlier. is_below (rank_of bytes) (rank_of earlier)) (drop 5 before) in
    let late : below ≡ (nat_lt 5 number && not (list_any (said is_body) (take number lines)) && earlier) = ap (λ place. is_below place (place_of_rank c.args.passed.now.highest)) rank ∙ out_of_order (nat_lt 5 number) c.args.passed.now.has_body (is_body (line_of bytes)) (rank_of bytes) (place_of_rank c.args.passed.now.highest) earlier (λ none. passed.highest none (rank_of bytes)) ∙ ap (λ b. nat_lt 5 number && b && earlier) (sym over) in
    let repeated : c.in_ok-draw.field-0 ≡ list_any (λ earlier. draws_same (line_of bytes) (line_of earlier)) before = c.in_ok-draw.ensures.repeated before passed.drawn ∙ ap (λ line. list_any (λ earlier. draws_same line (line_of earlier)) before) says in
    let old = c.args.into.now.items in
    let header : c.check_header.new.into.items ≡ old ++ header_findings c.args.file.now bytes number = c.in_ok-check_header.ensures in
    let place : c.check_place.new.into.items ≡ (c.check_header.new.into.items ++ found number (107, own)) ++ found number (108, below) = c.in_ok-check_place.ensures in
    let said : c.check_said.new.into.items ≡ c.check_place.new.into.items ++ said_findings number (line_of bytes) = c.in_ok-check_said.ensures ∙ ap (λ line. c.check_place.new.into.items ++ said_findings number line) says in
    let written : c.check_written.new.into.items ≡ c.note.new.into.items ++ written_findings number bytes (line_of bytes) = c.in_ok-check_written.ensures ∙ ap (λ line. c.note.new.into.items ++ written_findings number bytes line) says in
    let all : c.check_written.new.into.items ≡ (((((old ++ header_findings c.args.file.now bytes number) ++ found number (107, own)) ++ found number (108, below)) ++ said_findings number (line_of bytes)) ++ found number (306, c.in_ok-draw.field-0)) ++ written_findings number bytes (line_of bytes) = written ∙ ap (λ list. list ++ written_findings number bytes (line_of bytes)) (c.in_ok-note.ensures ∙ ap (λ list. list ++ found number (306, c.in_ok-draw.field-0)) (said ∙ ap (λ list. list ++ said_findings number (line_of bytes)) (place ∙ ap (λ list. (list ++ found number (107, own)) ++ found number (108, below)) header))) in
    let drawn : HasDrawn c.note-2.new.self.drawings (before ++ bytes ∷ []) = subst (λ drawings. HasDrawn drawings (before ++ bytes ∷ [])) (sym c.note-2.ensures.drawings) (c.in_ok-draw.ensures.drawn before bytes says passed.drawn) in
    let body = c.note-2.ensures.body ∙ ap (λ line. c.args.passed.now.has_body || is_body line) says in
    let statement = c.note-2.ensures.statement ∙ ap (λ line. c.args.passed.now.has_statement || is_statement line) says in
    (all ∙ listed c.args.file.now lines number bytes old own below c.in_ok-draw.field-0 at lacks late repeated, subst (λ taken. IsPassed c.note-2.new.self taken) (sym more) (passed_more c.args.passed.now c.note-2.new.self before bytes number c.rank-rank.result drawn size rank body statement c.note-2.ensures.highest passed))
