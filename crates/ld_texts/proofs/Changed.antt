-- A text is taken, changed and put back: that is the edit.
use Rattle.std.proofs.Common.{◌≡◌, ◌≤◌, ◌<◌, ◌+◌, ◌-◌, ◌^◌, ℕ, false, List, [], length, Some, None, sym, ap, refl, ◌∙◌, option_map, arith, slice_set}
use Rattle.std.specs.List.{insert}
use Rattle.std.specs.Map.{set_value}
use Rattle.std.specs.Option.{is_some}
use Rattle.std.proofs.Math.ListN.{set}
use Rattle.std.proofs.lemmas.List.Sums.{get_or-le-sum_by, sum_by-insert, sum_by-set}
use Rattle.ld_names.specs.declared.file.FileId.{FileId}
use Rattle.ld_names.specs.Standing.{Known, Text, same_file}
use Rattle.ld_texts.specs.Known.{id_of, lines_at, weight_of, weight_of_lines, weight_of_text}
use Rattle.ld_texts.specs.Editing.{edited, misses, refusal_of, refused_if, text_of}
use Rattle.ld_texts.specs.Inside.Kept.{IsWithin}
use Rattle.ld_texts.specs.Inside.Placed.{with_text_at}
use Rattle.ld_texts.specs.declared.edit.Edit.TheVariants.{Set, Insert, Restore, Move}
use Rattle.ld_texts.specs.declared.edit.EditRefusal.TheVariants.{FileThere}
use Rattle.ld_texts.proofs.Placed.{id_of-lt-length, id_of-with_text_at, lines_at-le-weight_of, lines_at-with_text_at, text_of-is, with_text_at_twice, written_at}
use Rattle.ld_texts.proofs.Refused.{fits, inside, option_or_none, refused_if-none}

-- the lines of a file go and come back changed
pub altered : (known taken : Known) (file : FileId) (id : ℕ) (text : Text) (old new : List (List ℕ)) (change : List (List ℕ) → List (List ℕ)) → id_of known file ≡ Some id → text ≡ lines_at known id → text ≡ Some old → taken ≡ with_text_at known id None → new ≡ change old → set_value (same_file file) known (option_map change (text_of known file)) ≡ with_text_at taken id (Some new)
altered known taken file id text old new change place had was takes changed =
    written_at known file id (option_map change (text_of known file)) place
    ∙ ap (λ text. with_text_at known id (option_map change text)) (text_of-is known file id place ∙ sym had ∙ was)
    ∙ ap (λ lines. with_text_at known id (Some lines)) (sym changed)
    ∙ sym (with_text_at_twice known id None (Some new))
    ∙ ap (λ texts. with_text_at texts id (Some new)) (sym takes)

-- a text that fits with its lines before and after the edit leaves room for sums
set_small : (old : List (List ℕ)) (place : ℕ) (text : List ℕ) (known after : ℕ) → place < length old → weight_of_lines old ≤ known → weight_of_lines (set old place text) ≤ after → known < 2 ^ 37 → after < 2 ^ 37 → weight_of_lines old + length text < 2 ^ 63
set_small old place text known after inside before behind small fits =
    omega (arith, sum_by-set (λ l. length l + 32) old place text [] inside, get_or-le-sum_by (λ l. length l + 32) old place [] inside)

insert_small : (old : List (List ℕ)) (place : ℕ) (text : List ℕ) (known after : ℕ) → weight_of_lines old ≤ known → weight_of_lines (insert old place text) ≤ after → known < 2 ^ 37 → after < 2 ^ 37 → weight_of_lines old + length text < 2 ^ 63
insert_small old place text known after before behind small fits = omega (arith, sum_by-insert (λ l. length l + 32) old place text)

set-misses : (max_weight : ℕ) (known : Known) (file : FileId) (line : ℕ) (put : List ℕ) → refusal_of max_weight known (Set file line put) ≡ None → misses 0 line (text_of known file) ≡ None
set-misses max_weight known file line put free = (option_or_none _ _ (option_or_none _ _ free).0).1

module _ (known taken : Known) (file : FileId) (id : ℕ) (text : Text) (old : List (List ℕ)) (line : ℕ) (put : List ℕ) (weighed max_files max_weight : ℕ) (place : id_of known file ≡ Some id) (had : text ≡ lines_at known id) (was : text ≡ Some old) (takes : taken ≡ with_text_at known id None) (within : IsWithin known weighed max_files max_weight) where
  there : text_of known file ≡ Some old
  there = text_of-is known file id place ∙ sym had ∙ was

  old-light : weight_of_lines old ≤ weight_of known
  old-light = omega (arith, ap weight_of_text (sym had ∙ was), lines_at-le-weight_of known id)

  new-light : (new : List (List ℕ)) (after : Known) → after ≡ with_text_at taken id (Some new) → weight_of_lines new ≤ weight_of after
  new-light new after turns =
      let stands = lines_at-with_text_at known id (Some new) (id_of-lt-length known file id place) in
      let whole : after ≡ with_text_at known id (Some new) = turns ∙ ap (λ texts. with_text_at texts id (Some new)) takes ∙ with_text_at_twice known id None (Some new) in
      rw whole (omega (arith, ap weight_of_text stands, lines_at-le-weight_of (with_text_at known id (Some new)) id))

  pub set_room : refusal_of max_weight known (Set file line put) ≡ None → weight_of_lines old + length put < 2 ^ 63
  set_room free =
      let new = slice_set old (line - 1) put in
      let turns = altered known taken file id text old new (λ lines. slice_set lines (line - 1) put) place had was takes refl in
      let line_in : (0 < line) × (line ≤ length old + 0) = inside 0 line (text_of known file) old (set-misses max_weight known file line put free) there in
      set_small old (line - 1) put (weight_of known) (weight_of (edited known (Set file line put))) (omega (arith, line_in.0, line_in.1)) old-light (new-light new _ turns) (omega (arith, within.fits, within.light)) (omega (arith, fits max_weight known (Set file line put) free, within.light))

  pub insert_room : refusal_of max_weight known (Insert file line put) ≡ None → weight_of_lines old + length put < 2 ^ 63
  insert_room free =
      let new = insert old (line - 1) put in
      let turns = altered known taken file id text old new (λ lines. insert lines (line - 1) put) place had was takes refl in
      insert_small old (line - 1) put (weight_of known) (weight_of (edited known (Insert file line put))) old-light (new-light new _ turns) (omega (arith, within.fits, within.light)) (omega (arith, fits max_weight known (Insert file line put) free, within.light))

-- a file that is not there is absent at its number
pub absent_at : (known : Known) (file : FileId) (id : ℕ) → refused_if (is_some (text_of known file)) FileThere ≡ None → id_of known file ≡ Some id → lines_at known id ≡ None
absent_at known file id free is = sym (text_of-is known file id is) ∙ none (text_of known file) (refused_if-none (is_some (text_of known file)) FileThere free)
  where
    none : (text : Text) → is_some text ≡ false → text ≡ None
    none None lacks = refl
    none (Some lines) lacks = absurd (cc)

-- lines that are brought back weigh no more than all may
pub restored_light : (max_weight : ℕ) (known : Known) (file : FileId) (lines : List (List ℕ)) (id : ℕ) → id_of known file ≡ Some id → refusal_of max_weight known (Restore file lines) ≡ None → weight_of_lines lines ≤ max_weight
restored_light max_weight known file lines id is free =
    let after = with_text_at known id (Some lines) in
    let whole : weight_of after ≤ max_weight = rw (← written_at known file id (Some lines) is) (fits max_weight known (Restore file lines) free) in
    omega (arith, whole, ap weight_of_text (lines_at-with_text_at known id (Some lines) (id_of-lt-length known file id is)), lines_at-le-weight_of after id)

-- the lines of a file are taken and given to another
pub moved : (known taken : Known) (source target : FileId) (from to : ℕ) (text : Text) → id_of known source ≡ Some from → id_of known target ≡ Some to → taken ≡ with_text_at known from None → text ≡ lines_at known from → edited known (Move source target) ≡ with_text_at taken to text
moved known taken source target from to text has gets takes is =
    ap (λ texts. set_value (same_file target) texts (text_of known source)) (written_at known source from None has ∙ sym takes)
    ∙ written_at taken target to (text_of known source) (ap (λ texts. id_of texts target) takes ∙ id_of-with_text_at known from None target ∙ gets)
    ∙ ap (with_text_at taken to) (text_of-is known source from has ∙ sym is)
