-- What a change of texts changes of their items.
use Rattle.std.proofs.Common.{◌≡◌, ◌≢◌, ◌<◌, ◌++◌, ◌==◌, ◌⊎◌, ◌-◌, ℕ, zero, suc, Bool, true, false, cond, List, [], ◌∷◌, length, map, Option, Some, None, IsSome, IfSome, ap, refl, sym, ◌∙◌, subst, inl, inr, nat_lt, option_and_then, option_map, position, slice_get, slice_set, get_or, unwrap_or, arith, tests}
use Rattle.std.specs.List.{Contains, insert, remove}
use Rattle.std.specs.Map.{set_value}
use Rattle.std.specs.Option.{is_none, is_some, option_map_or, option_or}
use Rattle.std.proofs.lemmas.Bool.{cases_Bool}
use Rattle.std.proofs.lemmas.List.{map-append}
use Rattle.std.proofs.lemmas.Map.{keys-set_value}
use Rattle.ld_names.specs.declared.file.FileId.{FileId}
use Rattle.ld_names.specs.Standing.{Known, Text, same_file}
use Rattle.ld_texts.specs.Editing.{edited, overweight, refusal_of, refused_if, text_of}
use Rattle.ld_texts.specs.Known.{file_at as known_file, files_of as known_files, id_of, lines_at}
use Rattle.ld_texts.specs.Laws.{LearningNumbers, NumbersAgree}
use Rattle.ld_texts.specs.Learning.{Apply, IsApt, Learn, Ready}
use Rattle.ld_texts.specs.declared.edit.Edit.{Edit}
use Rattle.ld_texts.specs.declared.edit.Edit.TheVariants.{Set, Insert, Delete, New, Restore, Drop, Move}
use Rattle.ld_texts.specs.declared.edit.EditRefusal.{EditRefusal}
use Rattle.ld_texts.specs.declared.edit.EditRefusal.TheVariants.{FileThere, NoFile}
use Rattle.ld_graph.specs.Agreeing.{graph_change, editing_of, item_of, items_of_known, left_file, names_of, number_in, written_file}
use Rattle.ld_graph.specs.AgreeingLaws.{ChangesItems, EditsTexts, ItemsLaws}
use Rattle.ld_graph.specs.Changing.{IsChanged, IsMore}
use Rattle.ld_graph.specs.Items.{Item, Items, Names, files_of, number_of, presence, with_names_at}
use Rattle.ld_graph.specs.Seen.{IsEditOf}
use Rattle.ld_graph.proofs.Agreed.{count-is, files-is, items_agree, number-is}
use Rattle.ld_graph.proofs.Listed.{here, there}

position-cons : {X : Type 0} (test : X → Bool) (x : X) (xs : List X) → position test (x ∷ xs) ≡ cond (test x) (Some 0) (option_map suc (position test xs))
position-cons test x xs = grind (arith, tests)

-- ---- one text is another

module _ (file : FileId) (text : Text) where
  with : Known → Known
  with known = set_value (same_file file) known text

  files-set : (known : Known) → known_files (set_value (same_file file) known text) ≡ known_files known
  files-set known = keys-set_value (same_file file) known text

  names-cons : (item : Item) (items : Items) (id : ℕ) (names : Names) → with_names_at (item ∷ items) (suc id) names ≡ item ∷ with_names_at items id names
  names-cons item items id names = by (slice_get items id)
    where
      by : (at : Option Item) → option_map_or (λ (one : Item). slice_set (item ∷ items) (suc id) (one.0, names)) at (item ∷ items) ≡ item ∷ option_map_or (λ (one : Item). slice_set items id (one.0, names)) at items
      by None = refl
      by (Some one) = refl

  items-set : (known : Known) (id : ℕ) → position (same_file file) (known_files known) ≡ Some id → items_of_known (set_value (same_file file) known text) ≡ with_names_at (items_of_known known) id (names_of text)
  unfolding items_of_known
  items-set [] id is = cc
  items-set (entry ∷ known) id is = by (same_file file entry.0) (position (same_file file) (known_files known)) refl (λ k at. items-set known k at) (sym (position-cons (same_file file) entry.0 (known_files known)) ∙ is)
    where
      by : (same : Bool) (place : Option ℕ) → position (same_file file) (known_files known) ≡ place → ((k : ℕ) → position (same_file file) (known_files known) ≡ Some k → map item_of (set_value (same_file file) known text) ≡ with_names_at (map item_of known) k (names_of text)) → cond same (Some 0) (option_map suc place) ≡ Some id → map item_of (cond same ((entry.0, text) ∷ known) (entry ∷ set_value (same_file file) known text)) ≡ with_names_at (item_of entry ∷ map item_of known) id (names_of text)
      by true place at rest e = ap (λ o. with_names_at (item_of entry ∷ map item_of known) (unwrap_or o 0) (names_of text)) e
      by false None at rest e = cc
      by false (Some k) at rest e =
          ap (λ items. item_of entry ∷ items) (rest k at) ∙ sym (names-cons (item_of entry) (map item_of known) k (names_of text))
          ∙ ap (λ o. with_names_at (item_of entry ∷ map item_of known) (unwrap_or o 0) (names_of text)) e

  lines-set : (known : Known) (id : ℕ) → position (same_file file) (known_files known) ≡ Some id → lines_at (set_value (same_file file) known text) id ≡ text
  unfolding lines_at
  lines-set [] id is = cc
  lines-set (entry ∷ known) id is = by (same_file file entry.0) (position (same_file file) (known_files known)) refl (λ k at. lines-set known k at) (sym (position-cons (same_file file) entry.0 (known_files known)) ∙ is)
    where
      by : (same : Bool) (place : Option ℕ) → position (same_file file) (known_files known) ≡ place → ((k : ℕ) → position (same_file file) (known_files known) ≡ Some k → option_and_then (λ (one : FileId × Text). one.1) (slice_get (set_value (same_file file) known text) k) ≡ text) → cond same (Some 0) (option_map suc place) ≡ Some id → option_and_then (λ (one : FileId × Text). one.1) (slice_get (cond same ((entry.0, text) ∷ known) (entry ∷ set_value (same_file file) known text)) id) ≡ text
      by true place at rest e = sym (ap (λ o. option_and_then (λ (one : FileId × Text). one.1) (slice_get ((entry.0, text) ∷ known) (unwrap_or o 0))) e)
      by false None at rest e = cc
      by false (Some k) at rest e = sym (ap (λ o. option_and_then (λ (one : FileId × Text). one.1) (slice_get (entry ∷ set_value (same_file file) known text) (unwrap_or o 0))) e) ∙ rest k at

  pub id-set : (known : Known) (other : FileId) → id_of (set_value (same_file file) known text) other ≡ id_of known other
  unfolding id_of
  id-set known other = ap (position (same_file other)) (files-set known)

  text-set : (known : Known) (id : ℕ) → id_of known file ≡ Some id → text_of (set_value (same_file file) known text) file ≡ text
  unfolding id_of
  text-set known id is = ap (option_and_then (lines_at (set_value (same_file file) known text))) (id-set known file ∙ is) ∙ lines-set known id is

  items-with : (known : Known) → IsSome (id_of known file) → items_of_known (set_value (same_file file) known text) ≡ with_names_at (items_of_known known) (number_in known file) (names_of text)
  unfolding id_of
  items-with known is = by (id_of known file) refl is
    where
      by : (number : Option ℕ) → id_of known file ≡ number → IsSome number → items_of_known (set_value (same_file file) known text) ≡ with_names_at (items_of_known known) (number_in known file) (names_of text)
      by None is some = cc
      by (Some id) is some = items-set known id is ∙ ap (λ o. with_names_at (items_of_known known) (unwrap_or o 0) (names_of text)) (sym is)

  pub text-with : (known : Known) → IsSome (id_of known file) → text_of (set_value (same_file file) known text) file ≡ text
  text-with known is = by (id_of known file) refl is
    where
      by : (number : Option ℕ) → id_of known file ≡ number → IsSome number → text_of (set_value (same_file file) known text) file ≡ text
      by None is some = cc
      by (Some id) is some = text-set known id is

-- ---- which texts stay

get-kept : {X : Type 0} (xs ys : List X) (k : ℕ) (x : X) → slice_get xs k ≡ Some x → slice_get (xs ++ ys) k ≡ Some x
get-kept [] ys k x is = cc
get-kept (first ∷ xs) ys zero x is = is
get-kept (first ∷ xs) ys (suc k) x is = get-kept xs ys k x is

get-push : {X : Type 0} (xs : List X) (x : X) (k : ℕ) → (k ≡ length xs → ⊥) → slice_get xs k ≡ slice_get (xs ++ x ∷ []) k
get-push [] x zero other = absurd (other refl)
get-push [] x (suc k) other = refl
get-push (first ∷ xs) x zero other = refl
get-push (first ∷ xs) x (suc k) other = get-push xs x k (λ e. other (ap suc e))

get-past : {X : Type 0} (xs : List X) → slice_get xs (length xs) ≡ None
get-past [] = refl
get-past (first ∷ xs) = get-past xs

get-set : {X : Type 0} (xs : List X) (at : ℕ) (x : X) (k : ℕ) → (k ≡ at → ⊥) → slice_get xs k ≡ slice_get (slice_set xs at x) k
get-set [] at x k other = refl
get-set (first ∷ xs) zero x zero other = absurd (other refl)
get-set (first ∷ xs) zero x (suc k) other = refl
get-set (first ∷ xs) (suc at) x zero other = refl
get-set (first ∷ xs) (suc at) x (suc k) other = get-set xs at x k (λ e. other (ap suc e))

get-names : (items : Items) (at : ℕ) (names : Names) (k : ℕ) → (k ≡ at → ⊥) → slice_get items k ≡ slice_get (with_names_at items at names) k
get-names items at names k other = by (slice_get items at)
  where
    by : (one : Option Item) → slice_get items k ≡ slice_get (option_map_or (λ (item : Item). slice_set items at (item.0, names)) one items) k
    by None = refl
    by (Some one) = get-set items at (one.0, names) k other

or-other : (text at : ℕ) (B : Type 0) → ((text ≡ at → ⊥) → B) → Contains (at ∷ []) text ⊎ B
or-other text at B same =
    elim (cases_Bool (text == at)) [ inl eq ↦ inl (subst (λ n. Contains (at ∷ []) n) (grind (arith, tests, eq)) (here at [])) | inr ne ↦ inr (same (λ e. grind (arith, tests, ne, e))) ]

or-others : (text at more : ℕ) (B : Type 0) → ((text ≡ at → ⊥) → (text ≡ more → ⊥) → B) → Contains (at ∷ more ∷ []) text ⊎ B
or-others text at more B same =
    elim (or-other text at (Contains (more ∷ []) text ⊎ B) (λ a. or-other text more B (λ b. same a b))) [
      | inl here-is ↦ inl (subst (λ n. Contains (at ∷ more ∷ []) n) (only here-is) (here at (more ∷ [])))
      | inr (inl there-is) ↦ inl (there text at (more ∷ []) there-is)
      | inr (inr b) ↦ inr b
    ]
  where
    only : Contains (at ∷ []) text → at ≡ text
    only c = one c.0 c.1 c.2
      where
        one : (k : ℕ) → k < length (at ∷ []) → get_or (at ∷ []) k text ≡ text → at ≡ text
        one zero lt e = e
        one (suc k) lt e = absurd (omega arith)

-- ---- edits

-- where each file has its number, it is enough that the other texts are the same
changed-by : (before after : Items) (changed : List ℕ) → files_of after ≡ files_of before → ((text : ℕ) → Contains changed text ⊎ (slice_get before text ≡ slice_get after text)) → IsChanged before after changed
changed-by before after changed same others = record { others = others; files = λ text file is. ap (λ files. slice_get files text) same ∙ is; numbers = λ file. inl (ap (position (same_file file)) (sym same)) }

-- a file that an edit writes alone
one-changes : (known : Known) (file : FileId) (text : Text) → IsSome (id_of known file) → IsChanged (items_of_known known) (items_of_known (set_value (same_file file) known text)) (number_in known file ∷ [])
one-changes known file text is =
    changed-by (items_of_known known) (items_of_known (set_value (same_file file) known text)) (number_in known file ∷ [])
    (files-is (set_value (same_file file) known text) ∙ files-set file text known ∙ sym (files-is known))
    (λ id. or-other id (number_in known file) (slice_get (items_of_known known) id ≡ slice_get (items_of_known (set_value (same_file file) known text)) id) (λ other. get-names (items_of_known known) (number_in known file) (names_of text) id other ∙ ap (λ items. slice_get items id) (sym (items-with file text known is))))

one-edits : (known : Known) (file : FileId) (text : Text) → IsSome (id_of known file) → items_of_known (set_value (same_file file) known text) ≡ with_names_at (items_of_known known) (number_in known file) (names_of (text_of (set_value (same_file file) known text) file))
one-edits known file text is = items-with file text known is ∙ ap (λ one. with_names_at (items_of_known known) (number_in known file) (names_of one)) (sym (text-with file text known is))

-- what one file's other text changes
record OneChange (known : Known) (file : FileId) (text : Text) : Type 0 where
  items : items_of_known (set_value (same_file file) known text) ≡ with_names_at (items_of_known known) (number_in known file) (names_of (text_of (set_value (same_file file) known text) file))
  changed : IsChanged (items_of_known known) (items_of_known (set_value (same_file file) known text)) (number_in known file ∷ [])

one-change : (known : Known) (file : FileId) (text : Text) → IsSome (id_of known file) → OneChange known file text
one-change known file text is = record { items = one-edits known file text is; changed = one-changes known file text is }

module _ (known : Known) (from to : FileId) (from-is : IsSome (id_of known from)) (to-is : IsSome (id_of known to)) where
  left : Known
  left = set_value (same_file from) known None

  moved : Known
  moved = edited known (Move from to)

  number-left : number_in left to ≡ number_in known to
  unfolding left
  number-left = ap (λ o. unwrap_or o 0) (id-set from None known to)

  items-left : items_of_known left ≡ with_names_at (items_of_known known) (number_in known from) None
  unfolding left
  items-left = items-with from None known from-is

  there-left : IsSome (id_of left to)
  unfolding left
  there-left = subst (λ o. IsSome o) (sym (id-set from None known to)) to-is

  moved-edits : items_of_known moved ≡ with_names_at (with_names_at (items_of_known known) (number_in known from) None) (number_in known to) (names_of (text_of moved to))
  unfolding moved left
  moved-edits = one-edits left to (text_of known from) there-left ∙ ap (λ n. with_names_at (items_of_known left) n (names_of (text_of moved to))) number-left ∙ ap (λ items. with_names_at items (number_in known to) (names_of (text_of moved to))) items-left

  moved-files : files_of (items_of_known moved) ≡ files_of (items_of_known known)
  unfolding moved left
  moved-files = files-is moved ∙ files-set to (text_of known from) left ∙ files-set from None known ∙ sym (files-is known)

  moved-others : (id : ℕ) → (id ≡ number_in known from → ⊥) → (id ≡ number_in known to → ⊥) → slice_get (items_of_known known) id ≡ slice_get (items_of_known moved) id
  moved-others id not-from not-to =
      get-names (items_of_known known) (number_in known from) None id not-from
      ∙ get-names (with_names_at (items_of_known known) (number_in known from) None) (number_in known to) (names_of (text_of moved to)) id not-to
      ∙ ap (λ items. slice_get items id) (sym moved-edits)

  moved-changes : IsChanged (items_of_known known) (items_of_known moved) (number_in known from ∷ number_in known to ∷ [])
  moved-changes = changed-by (items_of_known known) (items_of_known moved) (number_in known from ∷ number_in known to ∷ []) moved-files (λ id. or-others id (number_in known from) (number_in known to) (slice_get (items_of_known known) id ≡ slice_get (items_of_known moved) id) (moved-others id))

module _ (numbers : LearningNumbers) (known : Known) (file : FileId) (text : Text) (unknown : id_of known file ≡ None) where
  learnt : Known
  learnt = known ++ (file, text) ∷ []

  items-learnt : items_of_known learnt ≡ items_of_known known ++ (file, names_of text) ∷ []
  unfolding learnt items_of_known
  items-learnt = map-append item_of known ((file, text) ∷ [])

  files-learnt : files_of (items_of_known learnt) ≡ files_of (items_of_known known) ++ file ∷ []
  files-learnt = ap files_of items-learnt ∙ map-append (λ (item : Item). item.0) (items_of_known known) ((file, names_of text) ∷ [])

  number-learnt : (other : FileId) → number_of (items_of_known learnt) other ≡ option_or (id_of known other) (cond (same_file other file) (Some (length known)) None)
  unfolding learnt
  number-learnt other = number-is learnt other ∙ (numbers known file text).id other

  nothing-there : presence (items_of_known known) (length known) ≡ None
  nothing-there = ap (option_map (λ (item : Item). is_some item.1)) (ap (slice_get (items_of_known known)) (sym (count-is known)) ∙ get-past (items_of_known known))

  learnt-number : (other : FileId) → (number_of (items_of_known known) other ≡ number_of (items_of_known learnt) other) ⊎ ((id : ℕ) × (number_of (items_of_known known) other ≡ None) × (number_of (items_of_known learnt) other ≡ Some id) × (presence (items_of_known known) id ≡ None))
  learnt-number other = by (id_of known other) refl (same_file other file) refl
    where
      by : (number : Option ℕ) → id_of known other ≡ number → (same : Bool) → same_file other file ≡ same → (number_of (items_of_known known) other ≡ number_of (items_of_known learnt) other) ⊎ ((id : ℕ) × (number_of (items_of_known known) other ≡ None) × (number_of (items_of_known learnt) other ≡ Some id) × (presence (items_of_known known) id ≡ None))
      by (Some id) is same e = inl (number-is known other ∙ is ∙ sym (number-learnt other ∙ ap (λ (o : Option ℕ). option_or o (cond (same_file other file) (Some (length known)) None)) is))
      by None is false e = inl (number-is known other ∙ is ∙ sym (number-learnt other ∙ ap (λ (o : Option ℕ). option_or o (cond (same_file other file) (Some (length known)) None)) is ∙ ap (λ b. cond b (Some (length known)) None) e))
      by None is true e = inr (length known, number-is known other ∙ is, number-learnt other ∙ ap (λ (o : Option ℕ). option_or o (cond (same_file other file) (Some (length known)) None)) is ∙ ap (λ b. cond b (Some (length known)) None) e, nothing-there)

  learnt-other : (id : ℕ) → (id ≡ length (items_of_known known) → ⊥) → slice_get (items_of_known known) id ≡ slice_get (items_of_known learnt) id
  learnt-other id other = get-push (items_of_known known) (file, names_of text) id other ∙ ap (λ items. slice_get items id) (sym items-learnt)

  learnt-changes : IsChanged (items_of_known known) (items_of_known learnt) (length (items_of_known known) ∷ [])
  learnt-changes = record { others = λ id. or-other id (length (items_of_known known)) (slice_get (items_of_known known) id ≡ slice_get (items_of_known learnt) id) (learnt-other id); files = λ id one is. ap (λ files. slice_get files id) files-learnt ∙ get-kept (files_of (items_of_known known)) (file ∷ []) id one is; numbers = learnt-number }

  learnt-more : IsMore (items_of_known known) (items_of_known learnt)
  unfolding learnt
  learnt-more = record { items = λ id item is. ap (λ items. slice_get items id) items-learnt ∙ get-kept (items_of_known known) ((file, names_of text) ∷ []) id item is; kept = λ other id is. number-is learnt other ∙ (numbers known file text).old_id other id (sym (number-is known other) ∙ is) }

-- ---- the laws

changes : LearningNumbers → (known : Known) (ready : Ready) → IsApt known ready → ChangesItems known ready
unfolding graph_change learnt moved left
changes numbers known (Learn file text) apt = record { items = items-learnt numbers known file text apt; changed = learnt-changes numbers known file text apt }
changes numbers known (Apply (Set file line text) room) apt = let one = one-change known file (option_map (λ lines. slice_set lines (line - 1) text) (text_of known file)) apt.0 in record { items = one.items; changed = one.changed }
changes numbers known (Apply (Insert file line text) room) apt = let one = one-change known file (option_map (λ lines. insert lines (line - 1) text) (text_of known file)) apt.0 in record { items = one.items; changed = one.changed }
changes numbers known (Apply (Delete file line) room) apt = let one = one-change known file (option_map (λ lines. remove lines (line - 1)) (text_of known file)) apt.0 in record { items = one.items; changed = one.changed }
changes numbers known (Apply (New file) room) apt = let one = one-change known file (Some []) apt.0 in record { items = one.items; changed = one.changed }
changes numbers known (Apply (Restore file lines) room) apt = let one = one-change known file (Some lines) apt.0 in record { items = one.items; changed = one.changed }
changes numbers known (Apply (Drop file) room) apt = let one = one-change known file None apt.0 in record { items = one.items; changed = one.changed }
changes numbers known (Apply (Move from to) room) apt = record { items = moved-edits known from to apt.0 apt.1.0; changed = moved-changes known from to apt.0 apt.1.0 }

number-within : NumbersAgree → (known : Known) (file : FileId) → IsSome (id_of known file) → number_in known file < length (items_of_known known)
number-within agree known file is = by (id_of known file) refl is
  where
    by : (number : Option ℕ) → id_of known file ≡ number → IsSome number → unwrap_or number 0 < length (items_of_known known)
    by None at some = cc
    by (Some id) at some = let lt : nat_lt id (length known) ≡ true = sym (agree.there known id) ∙ ap is_some (agree.file known file id at) in grind (arith, tests, lt, count-is known)

file-of-number : NumbersAgree → (known : Known) (file : FileId) → IsSome (id_of known file) → known_file known (number_in known file) ≡ Some file
file-of-number agree known file is = by (id_of known file) refl is
  where
    by : (number : Option ℕ) → id_of known file ≡ number → IsSome number → known_file known (unwrap_or number 0) ≡ Some file
    by None at some = cc
    by (Some id) at some = agree.file known file id at

never-both : (text : Text) (over : Option EditRefusal) → option_or (option_or (refused_if (is_none text) NoFile) (refused_if (is_some text) FileThere)) over ≡ None → ⊥
never-both None over is = cc
never-both (Some lines) over is = cc

moves-apart : NumbersAgree → (max_weight : ℕ) (known : Known) (from to : FileId) → IsSome (id_of known from) → IsSome (id_of known to) → refusal_of max_weight known (Move from to) ≡ None → Some (number_in known from) ≢ Some (number_in known to)
moves-apart agree max_weight known from to from-is to-is fits same =
    let files : Some from ≡ Some to = sym (file-of-number agree known from from-is) ∙ ap (λ o. known_file known (unwrap_or o 0)) same ∙ file-of-number agree known to to-is in
    never-both (text_of known from) (overweight max_weight known (edited known (Move from to))) (ap (λ o. option_or (option_or (refused_if (is_none (text_of known from)) NoFile) (refused_if (is_some (text_of known (unwrap_or o from))) FileThere)) (overweight max_weight known (edited known (Move from to)))) files ∙ fits)

edits-one : NumbersAgree → (known : Known) (edit : Edit) → IsSome (id_of known (written_file edit)) → left_file edit ≡ None → IsEditOf (items_of_known known) (editing_of known edit)
edits-one agree known edit is one = record { text = number-within agree known (written_file edit) is; gone = subst (λ o. IfSome (option_map (number_in known) o) (λ gone. gone < length (items_of_known known))) (sym one) tt; differ = subst (λ o. option_map (number_in known) o ≢ Some (number_in known (written_file edit))) (sym one) (λ e. cc) }

edits : NumbersAgree → EditsTexts
edits agree max_weight known (Set file line text) are fits = edits-one agree known (Set file line text) are.0 refl
edits agree max_weight known (Insert file line text) are fits = edits-one agree known (Insert file line text) are.0 refl
edits agree max_weight known (Delete file line) are fits = edits-one agree known (Delete file line) are.0 refl
edits agree max_weight known (New file) are fits = edits-one agree known (New file) are.0 refl
edits agree max_weight known (Restore file lines) are fits = edits-one agree known (Restore file lines) are.0 refl
edits agree max_weight known (Drop file) are fits = edits-one agree known (Drop file) are.0 refl
edits agree max_weight known (Move from to) are fits = record { text = number-within agree known to are.1.0; gone = number-within agree known from are.0; differ = moves-apart agree max_weight known from to are.0 are.1.0 fits }

pub items_laws : NumbersAgree → LearningNumbers → ItemsLaws
unfolding learnt
items_laws agree numbers = record { agree = items_agree agree; change = changes numbers; learning = learnt-more numbers; edits = edits agree }
