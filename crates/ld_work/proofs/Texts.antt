-- Texts that are parsed.
use Rattle.std.proofs.Common.{◌≡◌, ◌+◌, ◌++◌, Bool, true, false, cond, ℕ, suc, [], ◌∷◌, take, Some, None, refl, ap, sym, subst, ◌∙◌, arith}
use Rattle.std.specs.Prelude.{slice_get}
use Rattle.std.specs.BTreeMap.{get, is_at}
use Rattle.std.specs.Ordering.{nat_cmp}
use Rattle.std.proofs.lemmas.Map.Lookups.{exact_unsigned}
use Rattle.std.proofs.lemmas.Map.Views.{tells_apart}
use Rattle.ld_entry.specs.NumberedTexts.{NumberedTexts}
use Rattle.ld_work.specs.Inside.Parsing.{AreParsed, IsAt, IsParsedText, parsed_lines}
use Rattle.ld_work.specs.declared.line.ParsedLine.{ParsedLine}
use Rattle.ld_work.specs.declared.parsed.ParsedText.{ParsedText}
use Rattle.ld_work.specs.declared.parsed.ParsedTexts.{ParsedTexts}
use Rattle.ld_work.proofs.Parsing.{take-next}

module _ (texts : NumberedTexts) (parsed : ParsedText) (is : IsParsedText texts parsed) where
  -- one line more
  pub parsed-more : (new : ParsedText) (line : ParsedLine) → slice_get (parsed_lines texts parsed.cursor.text) parsed.cursor.before ≡ Some line → new.cursor.text ≡ parsed.cursor.text → new.cursor.before ≡ parsed.cursor.before + 1 → IsAt texts new.cursor → new.lines.items ≡ parsed.lines.items ++ line ∷ [] → IsParsedText texts new
  parsed-more new line there same more at grown =
      let number : new.cursor.before ≡ suc parsed.cursor.before = omega arith in
      record {
        at = at;
        lines = grown ∙ ap (λ ls. ls ++ line ∷ []) is.lines
            ∙ sym (take-next (parsed_lines texts parsed.cursor.text) parsed.cursor.before line there)
            ∙ ap (λ n. take n (parsed_lines texts parsed.cursor.text)) (sym number) ∙ ap (λ t. take new.cursor.before (parsed_lines texts t)) (sym same);
      }

-- a text is put among others
pub put-is : (texts : NumberedTexts) (old new : ParsedTexts) (parsed : ParsedText) → ((q : ℕ) → get nat_cmp new.texts q ≡ cond (is_at (nat_cmp parsed.cursor.text.0) q) (Some parsed) (get nat_cmp old.texts q)) → AreParsed texts old → IsParsedText texts parsed → AreParsed texts new
put-is texts old new parsed updates are is q other at = by (is_at (nat_cmp parsed.cursor.text.0) q) refl (sym (updates q) ∙ at)
  where
    by : (same : Bool) → is_at (nat_cmp parsed.cursor.text.0) q ≡ same → cond same (Some parsed) (get nat_cmp old.texts q) ≡ Some other → (other.cursor.text ≡ record { 0 = q }) × IsParsedText texts other
    by true same got =
        let this : parsed ≡ other = cc in
        let here : parsed.cursor.text.0 ≡ q = tells_apart exact_unsigned parsed.cursor.text.0 q same in
        (ap (λ (p : ParsedText). p.cursor.text) (sym this) ∙ ap (λ n. record { 0 = n }) here, subst (IsParsedText texts) this is)
    by false differ got = are q other got

-- and taken out
pub taken-out : (texts : NumberedTexts) (old new : ParsedTexts) (text : ℕ) → ((q : ℕ) → get nat_cmp new.texts q ≡ cond (is_at (nat_cmp text) q) None (get nat_cmp old.texts q)) → AreParsed texts old → AreParsed texts new
taken-out texts old new text updates are q other at = by (is_at (nat_cmp text) q) (sym (updates q) ∙ at)
  where
    by : (same : Bool) → cond same None (get nat_cmp old.texts q) ≡ Some other → (other.cursor.text ≡ record { 0 = q }) × IsParsedText texts other
    by true got = cc
    by false got = are q other got
