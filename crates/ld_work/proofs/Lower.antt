-- What the expansion of a low text reads rests on what is kept of lower ones.
use Rattle.std.proofs.Common.{◌≡◌, ◌≤◌, ◌<◌, ◌+◌, ◌&&◌, ◌||◌, ◌==◌, ℕ, zero, suc, Bool, true, false, cond, List, [], ◌∷◌, ◌++◌, length, Option, Some, None, refl, ap, sym, ◌∙◌, subst, arith}
use Rattle.std.specs.Prelude.{nat_le, option_to_list, ⊤}
use Rattle.std.specs.List.{Contains, list_any}
use Rattle.std.specs.Option.{is_some}
use Rattle.std.proofs.lemmas.List.{append_assoc}
use Rattle.std.proofs.lemmas.List.Elements.{Contains-append_right}
use Rattle.ld_names.specs.declared.file.TextId.{TextId}
use Rattle.ld_line.specs.declared.line.Line.{Line}
use Rattle.ld_line.specs.declared.line.Line.TheVariants.{Ref}
use Rattle.ld_entry.specs.Carrying.{Outcome}
use Rattle.ld_entry.specs.Heights.{found_among, found_by, height, Refers}
use Rattle.ld_entry.specs.Laws.{LowerLaw}
use Rattle.ld_entry.specs.NumberedTexts.{NumberedTexts}
use Rattle.ld_entry.specs.declared.entry.Expansion.{Expansion}
use Rattle.ld_cache.specs.Kept.{Cached, kept_of}
use Rattle.ld_work.specs.Inside.Working.{below_with}
use Rattle.ld_work.specs.Reads.{Basis, Below, counted, has_end, is_given, lines_read, reads_below, reads_entered, reads_found, reads_within}
use Rattle.ld_work.specs.declared.bounds.Bounds.{Bounds}

-- two counts of what is read below lines are the same
abbrev AllSame : (Line → ℕ) → (Line → ℕ) → List Line → Type 0
AllSame f g [] = ⊤
AllSame f g (line ∷ lines) = (f line ≡ g line) × AllSame f g lines

lines-same : (f g : Line → ℕ) (most : ℕ) (before : List Outcome) (gives : List (List Outcome)) (lines : List Line) → AllSame f g lines → lines_read f (counted most before gives lines) ≡ lines_read g (counted most before gives lines)
lines-same f g most before [] [] same = refl
lines-same f g most before [] (line ∷ lines) same = refl
lines-same f g most before (own ∷ rest) [] same = refl
lines-same f g most before (own ∷ rest) (line ∷ lines) same =
    by (has_end most before) (lines-same f g most (before ++ own) rest lines same.1)
  where
    by : (b : Bool) → lines_read f (counted most (before ++ own) rest lines) ≡ lines_read g (counted most (before ++ own) rest lines) → lines_read f (cond b [] (line ∷ counted most (before ++ own) rest lines)) ≡ lines_read g (cond b [] (line ∷ counted most (before ++ own) rest lines))
    by true behind = refl
    by false behind = ap (λ n. suc (n + lines_read f (counted most (before ++ own) rest lines))) same.0 ∙ ap (λ n. suc (g line + n)) behind

first-found : (texts : NumberedTexts) (text : TextId) (name : List ℕ) (file : TextId) (lines : List Line) (before : List TextId) → texts.found text name ≡ Some file → Contains (before ++ (option_to_list (texts.found text name) ++ found_among texts text lines)) file
first-found texts text name file lines before is =
    subst (λ o. Contains (before ++ (option_to_list o ++ found_among texts text lines)) file) (sym is) (Contains-append_right before (file ∷ found_among texts text lines) file (0, omega arith, refl))

module _ (lower : LowerLaw) (texts : NumberedTexts) (bounds : Bounds) (cache other : Cached) where
  abbrev h : TextId → ℕ
  h text = height (suc bounds.depth) texts text

  abbrev basis : Basis
  basis = record { texts = texts; bounds = bounds; cache = cache }

  abbrev basis' : Basis
  basis' = record { texts = texts; bounds = bounds; cache = other }

  -- below a number
  abbrev BelowSame : ℕ → Below → Below → Type 0
  BelowSame n None None = ⊤
  BelowSame n (Some below) (Some below') = (way : List TextId) (file : TextId) → h file < n → below way file ≡ below' way file
  BelowSame n below below' = ⊥

  module _ (text : TextId) (low : h text ≤ bounds.depth) (same : (file : TextId) → h file < h text → kept_of cache file ≡ kept_of other file) where
    given-same : (way : List TextId) (file : TextId) → h file < h text → is_given basis way file ≡ is_given basis' way file
    given-same way file less = ap (λ (e : Option Expansion). is_some e && nat_le (length way + h file) bounds.depth) (same file less)

    entered-same : (below below' : Below) → BelowSame (h text) below below' → (way : List TextId) (file : TextId) → h file < h text → reads_entered basis below way file ≡ reads_entered basis' below' way file
    entered-same None None counts way file less = refl
    entered-same None (Some below') counts way file less = absurd counts
    entered-same (Some below) None counts way file less = absurd counts
    entered-same (Some below) (Some below') counts way file less =
        ap (λ (b : Bool). cond (list_any (λ on. on.0 == file.0) way || b) 0 (below way file)) (given-same way file less)
        ∙ ap (λ (n : ℕ). cond (list_any (λ on. on.0 == file.0) way || is_given basis' way file) 0 n) (counts way file less)

    line-same : (below below' : Below) → BelowSame (h text) below below' → (way : List TextId) (line : Line) (before : List TextId) (lines : List Line) → found_by texts text ≡ before ++ found_among texts text (line ∷ lines) → reads_below basis below way text line ≡ reads_below basis' below' way text line
    line-same below below' counts way (Ref word placement (Some name)) before lines at = by (texts.found text name) refl
      where
        by : (found : Option TextId) → texts.found text name ≡ found → reads_found basis below (way ++ text ∷ []) found ≡ reads_found basis' below' (way ++ text ∷ []) found
        by None is = refl
        by (Some file) is =
            let refers : Refers texts text file = subst (λ all. Contains all file) (sym at) (first-found texts text name file lines before is) in
            entered-same below below' counts (way ++ text ∷ []) file (lower texts bounds.depth text file refers low)
    line-same below below' counts way line before lines at = refl

    rest-at : (line : Line) (lines : List Line) (before : List TextId) → found_by texts text ≡ before ++ found_among texts text (line ∷ lines) → (more : List TextId) × (found_by texts text ≡ more ++ found_among texts text lines)
    rest-at (Ref word placement (Some name)) lines before at = (before ++ option_to_list (texts.found text name), at ∙ sym (append_assoc before (option_to_list (texts.found text name)) (found_among texts text lines)))
    rest-at line lines before at = (before, at)

    all-same : (below below' : Below) → BelowSame (h text) below below' → (way : List TextId) (lines : List Line) (before : List TextId) → found_by texts text ≡ before ++ found_among texts text lines → AllSame (reads_below basis below way text) (reads_below basis' below' way text) lines
    all-same below below' counts way [] before at = tt
    all-same below below' counts way (line ∷ lines) before at =
        let rest = rest-at line lines before at in
        (line-same below below' counts way line before lines at, all-same below below' counts way lines rest.0 rest.1)

  pub reads-same : (left : ℕ) (way : List TextId) (text : TextId) → h text ≤ bounds.depth → ((file : TextId) → h file < h text → kept_of cache file ≡ kept_of other file) → reads_within basis left way text ≡ reads_within basis' left way text
  unfolding reads_within
  reads-same zero way text low same =
      lines-same (reads_below basis None way text) (reads_below basis' None way text) bounds.entries [] _ (texts.lines text) (all-same text low same None None tt way (texts.lines text) [] refl)
  reads-same (suc left) way text low same =
      lines-same (reads_below basis (below_with basis (suc left)) way text) (reads_below basis' (below_with basis' (suc left)) way text) bounds.entries [] _ (texts.lines text) (all-same text low same (below_with basis (suc left)) (below_with basis' (suc left)) (λ longer file less. reads-same left longer file (omega arith) (λ next lower_still. same next (omega arith))) way (texts.lines text) [] refl)
