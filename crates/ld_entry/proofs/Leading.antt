-- Among known texts, references lead to the part at which moves end.
use Rattle.std.proofs.Common.{◌≡◌, ◌≤◌, ◌<◌, ℕ, zero, suc, Bool, true, false, cond, List, [], ◌∷◌, ◌++◌, map, length, Option, Some, None, option_map, refl, ap, sym, ◌∙◌, subst, arith}
use Rattle.std.specs.Prelude.{option_and_then, slice_get, unwrap_or}
use Rattle.std.specs.List.{Contains, list_any}
use Rattle.ld_names.specs.Finding.{FindsExactly, FindStays, IsFileEquality}
use Rattle.ld_names.specs.Standing.{Absent, find, Found, Known, known_map, Present, same_file, Text, Unknown}
use Rattle.ld_names.specs.declared.file.FileId.{FileId}
use Rattle.ld_names.specs.declared.file.TextId.{TextId}
use Rattle.ld_line.specs.Moved.{is_part, last_moved, moved_line, moved_name, moved_to, name_in, name_on, other_than, part_found, target, text_of}
use Rattle.ld_line.specs.Reading.{line_of}
use Rattle.ld_line.specs.declared.line.Line.{Line}
use Rattle.ld_line.specs.declared.line.Line.TheVariants.{Ref}
use Rattle.ld_texts.specs.Laws.{NumbersAgree}
use Rattle.ld_entry.proofs.Found.{numbered}
use Rattle.ld_entry.proofs.Heights.{found_among-more}
use Rattle.ld_entry.proofs.Maps.{some-same}
use Rattle.ld_entry.proofs.Reached.{files-at, number-of}
use Rattle.ld_entry.proofs.Standing.{number_of}
use Rattle.ld_entry.specs.Heights.{found_among, LeadsBy, Refers}
use Rattle.ld_entry.specs.Laws.{TargetLaw}
use Rattle.ld_entry.specs.NumberedTexts.{found_from, known_files, known_texts, lines_of_file, NumberedTexts, standing_lines, target_from, text_id_of}

-- ---- The name on a line is that of a reference.

module _ (texts : NumberedTexts) (text next : TextId) (name : List ℕ) (finds : texts.found text name ≡ Some next) where
  first-refers : (line : Line) (lines : List Line) → name_in line ≡ Some name → Contains (found_among texts text (line ∷ lines)) next
  first-refers (Ref word placement (Some own)) lines is =
      let same : texts.found text own ≡ Some next = ap (texts.found text) (some-same is) ∙ finds in
      rw same (0, omega arith, refl)
  first-refers (Ref word placement None) lines is = cc
  first-refers line lines is = cc

  line-refers : (lines : List (List ℕ)) (index : ℕ) → option_and_then (λ line. name_in (line_of line)) (slice_get lines index) ≡ Some name → Contains (found_among texts text (map line_of lines)) next
  line-refers [] index is = cc
  line-refers (line ∷ lines) zero is = first-refers (line_of line) (map line_of lines) is
  line-refers (line ∷ lines) (suc index) is = found_among-more texts text next (line_of line) (map line_of lines) (line-refers lines index is)

  number-refers : (lines : List (List ℕ)) (number : Option ℕ) → option_and_then (name_on lines) number ≡ Some name → Contains (found_among texts text (map line_of lines)) next
  number-refers lines None is = cc
  number-refers lines (Some zero) is = cc
  number-refers lines (Some (suc index)) is = line-refers lines index is

module _ (finds : FindsExactly) (stays : FindStays) (equality : IsFileEquality) (known : Known) where
  -- ---- One move.

  abbrev IsNumber : FileId → TextId → Type 0
  IsNumber file text = text_id_of (known_files known) (Present file) ≡ Some text

  name-refers : (text : TextId) (file : FileId) (next : TextId) (name : List ℕ) → slice_get (known_files known) text.0 ≡ Some file → (known_texts known).found text name ≡ Some next → moved_name file.folder (text_of (known_map known) file) ≡ Some name → Refers (known_texts known) text next
  name-refers text file next name at found is =
      subst (λ lines. Contains (found_among (known_texts known) text lines) next) (sym (ap (lines_of_file (known_map known)) at)) (by (known_map known file) is)
    where
      by : (said : Option Text) → moved_name file.folder (unwrap_or said None) ≡ Some name → Contains (found_among (known_texts known) text (map line_of (standing_lines said))) next
      by None is = cc
      by (Some None) is = cc
      by (Some (Some lines)) is = number-refers (known_texts known) text next name found lines (moved_line file.folder lines) is

  part-is : (found : Found) (next : FileId) → part_found (known_map known) found ≡ Some next → found ≡ Present next
  part-is (Present file) next is = by (is_part file.folder (text_of (known_map known) file)) is
    where
      by : (part : Bool) → cond part (Some file) None ≡ Some next → Present file ≡ Present next
      by true is = ap Present (some-same is)
      by false is = cc
  part-is Absent next is = cc
  part-is (Unknown folder) next is = cc

  move-refers : (text : TextId) (file next : FileId) → slice_get (known_files known) text.0 ≡ Some file → moved_to (known_map known) file ≡ Some next → (number : TextId) × IsNumber next number × Refers (known_texts known) text number
  unfolding moved_to
  move-refers text file next at is = by (moved_name file.folder (text_of (known_map known) file)) refl is
    where
      by : (name : Option (List ℕ)) → moved_name file.folder (text_of (known_map known) file) ≡ name → option_and_then (λ name. part_found (known_map known) (find (known_map known) file.folder name)) name ≡ Some next → (number : TextId) × IsNumber next number × Refers (known_texts known) text number
      by None moved is = cc
      by (Some name) moved is =
          let found = part-is (find (known_map known) file.folder name) next is in
          let there = ((finds.present (known_map known) file.folder name next).0 found).2 in
          let number = number_of finds stays equality known next (Some there.0) there.1 in
          let here : (known_texts known).found text name ≡ Some number.0 = ap (found_from (known_map known) (known_files known) name) at ∙ ap (text_id_of (known_files known)) found ∙ number.1 in
          (number.0, number.1, name-refers text file number.0 name at here moved)

  -- ---- All moves.

  -- a file's number, to which at most so many references lead from a text
  abbrev Leads : ℕ → TextId → FileId → Type 0
  Leads most text file = (number : TextId) × IsNumber file number × ((rest : List TextId) × LeadsBy (known_texts known) rest text number × (length rest ≤ most))

  abbrev onward : ℕ → List FileId → FileId → Option FileId → FileId
  onward more passed last next = elim next [ None ↦ last | Some file ↦ last_moved more (known_map known) (passed ++ file ∷ []) file ]

  new-leads : (more : ℕ) (passed : List FileId) (last next : FileId) (text : TextId) → Leads (suc more) text last → Leads (suc more) text (last_moved more (known_map known) (passed ++ next ∷ []) next) → (has : Bool) → Leads (suc more) text (onward more passed last (cond has None (Some next)))
  new-leads more passed last next text here further true = here
  new-leads more passed last next text here further false = further

  last-leads : (more : ℕ) (passed : List FileId) (last : FileId) (text : TextId) → IsNumber last text → Leads more text (last_moved more (known_map known) passed last)
  last-leads zero passed last text number = (text, number, ([], refl, omega arith))
  last-leads (suc more) passed last text number = by (moved_to (known_map known) last) refl (λ next. last-leads more (passed ++ next ∷ []) next)
    where
      by : (next : Option FileId) → moved_to (known_map known) last ≡ next → ((next : FileId) (to : TextId) → IsNumber next to → Leads more to (last_moved more (known_map known) (passed ++ next ∷ []) next)) → Leads (suc more) text (onward more passed last (option_and_then (other_than passed) next))
      by None moved further = (text, number, ([], refl, omega arith))
      by (Some next) moved further =
          let move = move-refers text last next (numbered equality (known_files known) last text number) moved in
          let rest = further next move.0 move.1 in
          new-leads more passed last next text (text, number, ([], refl, omega arith)) (rest.0, rest.1, (move.0 ∷ rest.2.0, (move.2, rest.2.1), omega (arith, rest.2.2))) (list_any (same_file next) passed)

pub leads : FindsExactly → FindStays → IsFileEquality → NumbersAgree → TargetLaw
unfolding target
leads finds stays equality numbers known text distinct = by (slice_get (known_files known) text.0) refl
  where
    by : (file : Option FileId) → slice_get (known_files known) text.0 ≡ file → (rest : List TextId) × LeadsBy (known_texts known) rest text (target_from (known_map known) (known_files known) text file) × (length rest < 64)
    by None at = ([], refl, omega arith)
    by (Some file) at =
        let number = number-of known file ∙ ap (option_map (λ n. let id : TextId = record { 0 = n } in id)) (numbers.number known file text.0 distinct (sym (files-at known text.0) ∙ at)) in
        let last = last-leads finds stays equality known 63 (file ∷ []) file text number in
        let is : target_from (known_map known) (known_files known) text (Some file) ≡ last.0 = ap (λ id. unwrap_or id text) last.1 in
        (last.2.0, subst (LeadsBy (known_texts known) last.2.0 text) (sym is) last.2.1, omega (arith, last.2.2))
