-- Lines that are ended by CR LF are read as those lines, and no line holds a line feed.
use Rattle.std.proofs.Common.{◌≡◌, ◌-◌, ◌==◌, ℕ, zero, suc, Bool, true, false, not, List, [], ◌∷◌, ◌++◌, cond, length, take, get_or, map, refl, ap, sym, ◌∙◌, arith, append_assoc}
use Rattle.std.specs.List.{All, list_all, onto_first, slice_index, slice_split}
use Rattle.std.specs.Str.Lines.{strip_carriage_return}
use Rattle.std.proofs.lemmas.Bool.{and_parts, and_from, not-true, not_from_false, or_parts, eq-eqb}
use Rattle.std.proofs.lemmas.List.{take_at, length_push, get_or_push}
use Rattle.std.proofs.lemmas.List.Folds.{list_all-append}
use Rattle.std.proofs.lemmas.List.Elements.{All-weaker}
use Rattle.std.proofs.lemmas.List.Splits.{slice_split_at}
use Rattle.std.proofs.lemmas.List.Sums.{AllPass-from_list_all}
use Rattle.ld_names.specs.Normal.{is_blank}
use Rattle.ld_line.specs.Cut.{cut, is_line_feed, lines_of, without_empty_end, without_mark}
use Rattle.ld_line.proofs.Cuts.{cut-more}
use Rattle.ld_line.specs.Word.{ended, is_one_line, is_plain, is_word, spaced}

no_feeds : (line : List ℕ) → is_one_line line ≡ true → All (λ b. is_line_feed b ≡ false) line
no_feeds line h = All-weaker (λ b. not (b == 10) ≡ true) (λ b. is_line_feed b ≡ false) (λ b k. not-true _ k) line (AllPass-from_list_all (λ b. not (b == 10)) line h)

-- one carriage return goes
stripped : (line : List ℕ) → strip_carriage_return (line ++ 13 ∷ []) ≡ line
stripped line =
    let size : length (line ++ 13 ∷ []) - 1 ≡ length line = omega (arith, length_push line 13) in
    let last : (get_or (line ++ 13 ∷ []) (length (line ++ 13 ∷ []) - 1) 0 == 13) ≡ true = eq-eqb _ _ (get_or_push line 13 0 _ (sym size)) in
    rw (last, size) (take_at line (13 ∷ []) (length line) refl)

first_cut : (line rest : List ℕ) → is_one_line line ≡ true → slice_split is_line_feed ((line ++ 13 ∷ 10 ∷ []) ++ rest) ≡ (line ++ 13 ∷ []) ∷ slice_split is_line_feed rest
first_cut line rest h =
    let before : is_one_line (line ++ 13 ∷ []) ≡ true = list_all-append (λ b. not (b == 10)) line (13 ∷ []) ∙ and_from _ _ h refl in
    let whole : (line ++ 13 ∷ 10 ∷ []) ++ rest ≡ (line ++ 13 ∷ []) ++ 10 ∷ rest = append_assoc line (13 ∷ 10 ∷ []) rest ∙ sym (append_assoc line (13 ∷ []) (10 ∷ rest)) in
    ap (slice_split is_line_feed) whole ∙ slice_split_at is_line_feed (line ++ 13 ∷ []) 10 rest (no_feeds _ before) refl

cut_ended : (lines : List (List ℕ)) → list_all is_one_line lines ≡ true → cut (ended lines) ≡ lines
cut_ended [] h = refl
cut_ended (line ∷ lines) h =
    cut-more ((line ++ 13 ∷ 10 ∷ []) ++ ended lines) (line ++ 13 ∷ []) (ended lines) (first_cut line (ended lines) (and_parts _ _ h).0) ∙ ap (λ l. l ∷ cut (ended lines)) (stripped line) ∙ ap (λ ls. line ∷ ls) (cut_ended lines (and_parts _ _ h).1)

pub lines_back : (lines : List (List ℕ)) → list_all is_one_line lines ≡ true → without_mark (ended lines) ≡ ended lines → lines_of (ended lines) ≡ lines
unfolding lines_of
lines_back lines h mark = ap cut mark ∙ cut_ended lines h

plain_is_no_feed : (b : ℕ) → is_plain b ≡ true → not (b == 10) ≡ true
plain_is_no_feed b h = not_from_false _ (or_parts (is_blank b) (b == 10) (not-true _ h)).1

plain_is_one_line : (word : List ℕ) → list_all is_plain word ≡ true → is_one_line word ≡ true
plain_is_one_line [] h = refl
plain_is_one_line (b ∷ word) h = and_from _ _ (plain_is_no_feed b (and_parts _ _ h).0) (plain_is_one_line word (and_parts _ _ h).1)

word_is_one_line : (word : List ℕ) → is_word word ≡ true → is_one_line word ≡ true
word_is_one_line [] h = refl
word_is_one_line (b ∷ word) h = plain_is_one_line (b ∷ word) h

pub spaced_is_one_line : (words : List (List ℕ)) → list_all is_word words ≡ true → is_one_line (spaced words) ≡ true
spaced_is_one_line [] h = refl
spaced_is_one_line (word ∷ []) h = word_is_one_line word (and_parts _ _ h).0
spaced_is_one_line (word ∷ next ∷ words) h =
    list_all-append (λ b. not (b == 10)) word (32 ∷ spaced (next ∷ words)) ∙ and_from _ _ (word_is_one_line word (and_parts _ _ h).0) (spaced_is_one_line (next ∷ words) (and_parts _ _ h).1)

-- ---- no line holds a line feed

onto_first_one_line : (b : ℕ) (pieces : List (List ℕ)) → not (b == 10) ≡ true → list_all is_one_line pieces ≡ true → list_all is_one_line (onto_first b pieces) ≡ true
onto_first_one_line b [] kept h = and_from _ _ (and_from _ _ kept refl) refl
onto_first_one_line b (piece ∷ pieces) kept h =
    and_from _ _ (and_from _ _ kept (and_parts _ _ h).0) (and_parts _ _ h).1

pieces_one_line : (bytes : List ℕ) → list_all is_one_line (slice_split is_line_feed bytes) ≡ true
pieces_one_line [] = refl
pieces_one_line (b ∷ bytes) =
    let P : Bool → Type 0 = λ feed. b == 10 ≡ feed → list_all is_one_line (cond feed ([] ∷ slice_split is_line_feed bytes) (onto_first b (slice_split is_line_feed bytes))) ≡ true in
    let cases : (feed : Bool) → P feed = λ feed. elim feed as P [ true ↦ λ is. pieces_one_line bytes | false ↦ λ is. onto_first_one_line b (slice_split is_line_feed bytes) (not_from_false _ is) (pieces_one_line bytes) ] in
    cases (b == 10) refl

kept_one_line : (pieces : List (List ℕ)) → list_all is_one_line pieces ≡ true → list_all is_one_line (without_empty_end pieces) ≡ true
kept_one_line [] h = refl
kept_one_line (last ∷ []) h =
    elim (length last == 0) as (λ b. list_all is_one_line (cond b [] (last ∷ [])) ≡ true) [ true ↦ refl | false ↦ h ]
kept_one_line (piece ∷ next ∷ pieces) h =
    and_from _ _ (and_parts _ _ h).0 (kept_one_line (next ∷ pieces) (and_parts _ _ h).1)

taken_one_line : (n : ℕ) (line : List ℕ) → is_one_line line ≡ true → is_one_line (take n line) ≡ true
taken_one_line zero line h = refl
taken_one_line (suc n) [] h = refl
taken_one_line (suc n) (b ∷ line) h = and_from _ _ (and_parts _ _ h).0 (taken_one_line n line (and_parts _ _ h).1)

stripped_one_line : (line : List ℕ) → is_one_line line ≡ true → is_one_line (strip_carriage_return line) ≡ true
stripped_one_line line h =
    elim (slice_index line (length line - 1) == 13) as (λ b. is_one_line (cond b (take (length line - 1) line) line) ≡ true) [ true ↦ taken_one_line (length line - 1) line h | false ↦ h ]

lines_one_line : (pieces : List (List ℕ)) → list_all is_one_line pieces ≡ true → list_all is_one_line (map strip_carriage_return pieces) ≡ true
lines_one_line [] h = refl
lines_one_line (piece ∷ pieces) h = and_from _ _ (stripped_one_line piece (and_parts _ _ h).0) (lines_one_line pieces (and_parts _ _ h).1)

pub lines_of_one_line : (bytes : List ℕ) → list_all is_one_line (lines_of bytes) ≡ true
unfolding lines_of
lines_of_one_line bytes =
    let pieces = slice_split is_line_feed (without_mark bytes) in
    lines_one_line (without_empty_end pieces) (kept_one_line pieces (pieces_one_line (without_mark bytes)))
