-- References, heights and targets by lines are those of the graph; and what the dirt lacks agrees.
use Rattle.std.proofs.Common.{◌≡◌, ◌<◌, ◌++◌, ◌↔◌, ◌&&◌, ℕ, zero, suc, max, Bool, true, false, not, List, [], ◌∷◌, Option, Some, None, map, refl, ap, sym, subst, ◌∙◌, length, get_or, nat_lt, option_and_then, option_map, slice_get, unwrap_or, arith, tests}
use Rattle.std.specs.Prelude.{option_to_list}
use Rattle.std.specs.List.{Contains, cons_option, filter_map}
use Rattle.std.specs.Option.{is_some}
use Rattle.std.proofs.lemmas.Option.{slice_get-map}
use Rattle.ld_names.specs.Finding.{FindsExactly}
use Rattle.ld_names.specs.Standing.{Absent, Found, Known, Present, Unknown, find, known_map}
use Rattle.ld_names.specs.declared.file.FileId.{FileId}
use Rattle.ld_names.specs.declared.file.TextId.{TextId}
use Rattle.ld_names.specs.declared.file.Folder.{Folder}
use Rattle.ld_line.specs.Moved.{name_in, target}
use Rattle.ld_line.specs.Reading.{line_of}
use Rattle.ld_line.specs.declared.line.Line.{Line}
use Rattle.ld_line.specs.declared.line.Line.TheVariants.{Blank, Comment, Org, Bfc, Step, Rot, Ref, Draw, Malformed, OutOfRange}
use Rattle.ld_texts.specs.Known.{AreDistinct, file_at, id_of, lines_at}
use Rattle.ld_texts.specs.EditLaws.{EditLaws}
use Rattle.ld_texts.specs.Editing.{AreKnown, edited, files_in}
use Rattle.ld_texts.specs.Laws.{NumbersAgree}
use Rattle.ld_texts.specs.declared.edit.Edit.{Edit}
use Rattle.ld_entry.specs.Heights.{LeadsBy, Refers, found_among, found_by, height as height_by_lines, tallest as tallest_by_lines}
use Rattle.ld_entry.specs.NumberedTexts.{found_from, known_files, known_texts, lines_of_file, NumberedTexts, standing_lines, target_from, text_id_of}
use Rattle.ld_entry.specs.Laws.{AgreementLaw, MapsLaw, TargetLaw}
use Rattle.ld_entry.specs.Agreement.{FindsSameFiles, FoundInside, MapsAgree}
use Rattle.ld_graph.specs.Agreeing.{items_of_known, names_among}
use Rattle.ld_graph.specs.AgreeingLaws.{CleanTextsStay, FindsClean, IsDirtied, ItemsLaws, StaysClean, number_found}
use Rattle.ld_graph.specs.Dirt.{is_dirty}
use Rattle.ld_graph.specs.Items.{found}
use Rattle.ld_graph.specs.Moving.{target_of}
use Rattle.ld_graph.specs.Web.{IsWalk, Refers as RefersBy, children_of, end_of, height, over_children, tallest}
use Rattle.ld_cache.specs.GraphLaws.{CleanTextsAgree, GraphsAgree, HeightsAgree, TargetsAgree, is_clean, known_web}

abbrev text_id : ℕ → TextId
text_id id = record { 0 = id }

-- ---- what lines find

line-finds : (texts : NumberedTexts) (text : TextId) (line : Line) (lines : List Line) → found_among texts text (line ∷ lines) ≡ option_to_list (option_and_then (texts.found text) (name_in line)) ++ found_among texts text lines
line-finds texts text Blank lines = refl
line-finds texts text Comment lines = refl
line-finds texts text (Org part) lines = refl
line-finds texts text (Bfc word) lines = refl
line-finds texts text Step lines = refl
line-finds texts text (Rot word) lines = refl
line-finds texts text (Ref colour placement None) lines = refl
line-finds texts text (Ref colour placement (Some name)) lines = refl
line-finds texts text (Draw kind colour points) lines = refl
line-finds texts text Malformed lines = refl
line-finds texts text OutOfRange lines = refl

file-is : (known : Known) (id : ℕ) → slice_get (known_files known) id ≡ file_at known id
unfolding file_at
file-is known id = slice_get-map (λ entry. entry.0) known id

number-is : (known : Known) (target : Found) → text_id_of (known_files known) target ≡ option_map text_id (number_found known target)
unfolding id_of
number-is known (Present file) = refl
number-is known Absent = refl
number-is known (Unknown folder) = refl

module _ (numbers : NumbersAgree) (lookups : FindsExactly) (laws : ItemsLaws) (known : Known) (distinct : AreDistinct known) where
  finds : (text : TextId) (file : FileId) (name : List ℕ) → file_at known text.0 ≡ Some file → (known_texts known).found text name ≡ option_map text_id (found (items_of_known known) file.folder name)
  finds text file name at =
      ap (found_from (known_map known) (known_files known) name) (file-is known text.0 ∙ at) ∙ number-is known (find (known_map known) file.folder name)
      ∙ ap (option_map text_id) (sym ((laws.agree known).found file.folder name))

  put-found : (target : Option ℕ) (rest : List ℕ) → option_to_list (option_map text_id target) ++ map text_id rest ≡ map text_id (cons_option target rest)
  put-found None rest = refl
  put-found (Some id) rest = refl

  lines-find : (text : TextId) (file : FileId) → file_at known text.0 ≡ Some file → (lines : List (List ℕ)) → found_among (known_texts known) text (map line_of lines) ≡ map text_id (filter_map (found (items_of_known known) file.folder) (names_among lines))
  lines-find text file at [] = refl
  lines-find text file at (line ∷ lines) =
      line-finds (known_texts known) text (line_of line) (map line_of lines)
      ∙ by (name_in (line_of line))
      ∙ ap (λ behind. option_to_list (option_map text_id (option_and_then (found (items_of_known known) file.folder) (name_in (line_of line)))) ++ behind) (lines-find text file at lines)
      ∙ put-found (option_and_then (found (items_of_known known) file.folder) (name_in (line_of line))) (filter_map (found (items_of_known known) file.folder) (names_among lines))
      ∙ ap (map text_id) (put-name (name_in (line_of line)))
    where
      by : (name : Option (List ℕ)) → option_to_list (option_and_then ((known_texts known).found text) name) ++ found_among (known_texts known) text (map line_of lines) ≡ option_to_list (option_map text_id (option_and_then (found (items_of_known known) file.folder) name)) ++ found_among (known_texts known) text (map line_of lines)
      by None = refl
      by (Some name) = ap (λ (target : Option TextId). option_to_list target ++ found_among (known_texts known) text (map line_of lines)) (finds text file name at)

      put-name : (name : Option (List ℕ)) → cons_option (option_and_then (found (items_of_known known) file.folder) name) (filter_map (found (items_of_known known) file.folder) (names_among lines)) ≡ filter_map (found (items_of_known known) file.folder) (cons_option name (names_among lines))
      put-name None = refl
      put-name (Some name) = refl

  file-there : (text : ℕ) (lines : List (List ℕ)) → lines_at known text ≡ Some lines → (file : FileId) × (file_at known text ≡ Some file)
  file-there text lines stands = by (file_at known text) refl
    where
      by : (file : Option FileId) → file_at known text ≡ file → (one : FileId) × (file_at known text ≡ Some one)
      by None none = let within = numbers.present known text lines stands in absurd (grind (arith, tests, ap is_some none, numbers.there known text, within))
      by (Some file) is = (file, is)

  lines-of : (text : TextId) (lines : List (List ℕ)) → lines_at known text.0 ≡ Some lines → (file : FileId) → file_at known text.0 ≡ Some file → (known_texts known).lines text ≡ map line_of lines
  lines-of text lines stands file at =
      ap (lines_of_file (known_map known)) (file-is known text.0 ∙ at)
      ∙ ap (λ all. map line_of (standing_lines all)) (numbers.map known file ∙ ap (option_map (lines_at known)) (numbers.number known file text.0 distinct at) ∙ ap Some stands)

  children-of : (text : TextId) (file : FileId) → file_at known text.0 ≡ Some file → (lines : List (List ℕ)) → lines_at known text.0 ≡ Some lines → found_by (known_texts known) text ≡ map text_id (filter_map (found (items_of_known known) file.folder) (names_among lines))
  children-of text file at lines stands = ap (found_among (known_texts known) text) (lines-of text lines stands file at) ∙ lines-find text file at lines

  refers-is : (text : TextId) (lines : List (List ℕ)) → lines_at known text.0 ≡ Some lines → found_by (known_texts known) text ≡ map text_id (unwrap_or (children_of (known_web known) text.0) [])
  refers-is text lines stands =
      let there-is = file-there text.0 lines stands in
      children-of text there-is.0 there-is.1 lines stands ∙ ap (λ children. map text_id (unwrap_or children [])) (sym ((laws.agree known).children text.0 there-is.0 lines there-is.1 stands))

  -- ---- heights

  found-stands : (from : Folder) (name : List ℕ) (id : ℕ) → found (items_of_known known) from name ≡ Some id → (lines : List (List ℕ)) × (lines_at known id ≡ Some lines)
  found-stands from name id is = by (find (known_map known) from name) refl
    where
      by : (target : Found) → find (known_map known) from name ≡ target → (lines : List (List ℕ)) × (lines_at known id ≡ Some lines)
      by Absent seen = let no : Some id ≡ None = sym is ∙ (laws.agree known).found from name ∙ ap (number_found known) seen in cc
      by (Unknown folder) seen = let no : Some id ≡ None = sym is ∙ (laws.agree known).found from name ∙ ap (number_found known) seen in cc
      by (Present file) seen =
          let number : id_of known file ≡ Some id = sym (sym is ∙ (laws.agree known).found from name ∙ ap (number_found known) seen) in
          let stands = ((lookups.present (known_map known) from name file).0 seen).2 in
          let same : Some (lines_at known id) ≡ Some (Some stands.0) = sym (numbers.map known file ∙ ap (option_map (lines_at known)) number) ∙ stands.1 in
          (stands.0, ap (λ o. unwrap_or o None) same)

  tall-same : (f : ℕ → ℕ) (g : TextId → ℕ) → ((id : ℕ) (lines : List (List ℕ)) → lines_at known id ≡ Some lines → f id ≡ g (text_id id)) → (from : Folder) (names : List (List ℕ)) → tallest f (filter_map (found (items_of_known known) from) names) ≡ tallest_by_lines g (map text_id (filter_map (found (items_of_known known) from) names))
  tall-same f g same from [] = refl
  tall-same f g same from (name ∷ names) = by (found (items_of_known known) from name) refl (tall-same f g same from names)
    where
      by : (target : Option ℕ) → found (items_of_known known) from name ≡ target → tallest f (filter_map (found (items_of_known known) from) names) ≡ tallest_by_lines g (map text_id (filter_map (found (items_of_known known) from) names)) → tallest f (cons_option target (filter_map (found (items_of_known known) from) names)) ≡ tallest_by_lines g (map text_id (cons_option target (filter_map (found (items_of_known known) from) names)))
      by None is rest = rest
      by (Some id) is rest =
          let stands = found-stands from name id is in
          ap (λ n. max n (tallest f (filter_map (found (items_of_known known) from) names))) (same id stands.0 stands.1) ∙ ap (λ n. max (g (text_id id)) n) rest

  height-is : (bound : ℕ) (text : TextId) (lines : List (List ℕ)) → lines_at known text.0 ≡ Some lines → height (known_web known) bound text.0 ≡ height_by_lines bound (known_texts known) text
  unfolding height height_by_lines
  height-is zero text lines stands = refl
  height-is (suc bound) text lines stands =
      let there-is = file-there text.0 lines stands in
      ap (over_children (height (known_web known) bound)) ((laws.agree known).children text.0 there-is.0 lines there-is.1 stands)
      ∙ ap suc (tall-same (height (known_web known) bound) (height_by_lines bound (known_texts known)) (λ id all is. height-is bound (text_id id) all is) there-is.0.folder (names_among lines))
      ∙ sym (ap (λ children. suc (tallest_by_lines (height_by_lines bound (known_texts known)) children)) (children-of text there-is.0 there-is.1 lines stands))

  no-height : (bound : ℕ) (text : TextId) → lines_at known text.0 ≡ None → height (known_web known) bound text.0 ≡ 0
  unfolding height
  no-height zero text none = refl
  no-height (suc bound) text none = ap (over_children (height (known_web known) bound)) ((laws.agree known).childless text.0 none)

  heights_agree : HeightsAgree known
  heights_agree = record { refers = refers-is; present = height-is; absent = no-height }

  -- ---- targets

  target-is : (text : TextId) → target_of known text (file_at known text.0) ≡ (known_texts known).target text
  target-is text = by (file_at known text.0) refl
    where
      either : (file : FileId) (number : Option ℕ) → id_of known (target (known_map known) file) ≡ number → text_id (unwrap_or number text.0) ≡ unwrap_or (option_map text_id number) text
      either file None is = refl
      either file (Some id) is = refl

      by : (file : Option FileId) → file_at known text.0 ≡ file → target_of known text file ≡ (known_texts known).target text
      by None none = sym (ap (target_from (known_map known) (known_files known) text) (file-is known text.0 ∙ none))
      by (Some file) at =
          either file (id_of known (target (known_map known) file)) refl
          ∙ ap (λ number. unwrap_or number text) (sym (number-is known (Present (target (known_map known) file))))
          ∙ sym (ap (target_from (known_map known) (known_files known) text) (file-is known text.0 ∙ at))

  no-lines : (text : TextId) → lines_at known text.0 ≡ None → (known_texts known).lines text ≡ []
  no-lines text none = ap (lines_of_file (known_map known)) (file-is known text.0) ∙ by (file_at known text.0) refl
    where
      by : (file : Option FileId) → file_at known text.0 ≡ file → lines_of_file (known_map known) file ≡ []
      by None is = refl
      by (Some file) at = ap (λ all. map line_of (standing_lines all)) (numbers.map known file ∙ ap (option_map (lines_at known)) (numbers.number known file text.0 distinct at) ∙ ap Some none)

  contains-number : (ids : List ℕ) (text : TextId) → Contains (map text_id ids) text → Contains ids text.0
  contains-number [] text c = absurd (omega (arith, c.1))
  contains-number (id ∷ ids) text c = at c.0 c.1 c.2 (λ d. contains-number ids text d)
    where
      at : (k : ℕ) → k < length (text_id id ∷ map text_id ids) → get_or (text_id id ∷ map text_id ids) k text ≡ text → (Contains (map text_id ids) text → Contains ids text.0) → Contains (id ∷ ids) text.0
      at zero lt is rest = (zero, omega arith, ap (λ t. t.0) is)
      at (suc k) lt is rest = let behind = rest (k, omega arith, is) in (suc behind.0, omega (arith, behind.1), behind.2)

  refers-on : (text next : TextId) → Refers (known_texts known) text next → RefersBy (known_web known) text.0 next.0
  refers-on text next refers = by (lines_at known text.0) refl
    where
      by : (lines : Option (List (List ℕ))) → lines_at known text.0 ≡ lines → RefersBy (known_web known) text.0 next.0
      by None none = let c = subst (λ lines. Contains (found_among (known_texts known) text lines) next) (no-lines text none) refers in absurd (omega (arith, c.1))
      by (Some lines) stands = contains-number (unwrap_or (children_of (known_web known) text.0) []) next (subst (λ children. Contains children next) (refers-is text lines stands) refers)

  walk-on : (rest : List TextId) (text other : TextId) → LeadsBy (known_texts known) rest text other → (walk : List ℕ) × IsWalk (known_web known) text.0 walk × (end_of text.0 walk ≡ other.0)
  walk-on [] text other leads = ([], tt, ap (λ t. t.0) leads)
  walk-on (next ∷ rest) text other leads = let behind = walk-on rest next other leads.1 in (next.0 ∷ behind.0, (refers-on text next leads.0, behind.1), behind.2)

  targets_agree : TargetLaw → TargetsAgree known
  targets_agree leads = record { same = target-is; reached = λ text. let on = leads known text distinct in let walk = walk-on on.0 text ((known_texts known).target text) on.1 in (walk.0, walk.1, walk.2 ∙ ap (λ t. t.0) (sym (target-is text))) }

-- ---- the texts that the dirt lacks

here : {X : Type 0} (x : X) (xs : List X) → Contains (x ∷ xs) x
here x xs = (zero, omega arith, refl)

behind-name : (one : Option (List ℕ)) (names : List (List ℕ)) (name : List ℕ) → Contains names name → Contains (cons_option one names) name
behind-name None names name c = c
behind-name (Some first) names name c = (suc c.0, omega (arith, c.1), c.2)

module _ (numbers : NumbersAgree) (cleans : CleanTextsStay) (edits : EditLaws) (known : Known) (edit : Edit) (dirty : List Bool) (distinct : AreDistinct known) (are : AreKnown known (files_in edit)) (exact : (text : TextId) → (is_dirty dirty text ≡ true) ↔ IsDirtied known edit text.0) where
  inside : TextId → Bool
  inside text = is_clean known dirty text

  clean-of : (within lacks : Bool) → (within && not lacks) ≡ true → (within ≡ true) × (lacks ≡ false)
  clean-of true false is = (refl, refl)
  clean-of true true is = cc
  clean-of false lacks is = cc

  not-dirtied : (text : TextId) → is_dirty dirty text ≡ false → IsDirtied known edit text.0 → ⊥
  not-dirtied text lacks dirtied = let both : true ≡ false = sym ((exact text).1 dirtied) ∙ lacks in cc

  not-marked : (text : TextId) → (IsDirtied known edit text.0 → ⊥) → is_dirty dirty text ≡ false
  not-marked text clean = by (is_dirty dirty text) refl
    where
      by : (marked : Bool) → is_dirty dirty text ≡ marked → is_dirty dirty text ≡ false
      by false is = is
      by true is = absurd (clean ((exact text).0 is))

  found-inside : (file : FileId) (lines : List (List ℕ)) → FindsClean known edit file.folder lines → (name : List ℕ) → Contains (names_among lines) name → FoundInside inside (known_files known) (find (known_map known) file.folder name)
  unfolding inside
  found-inside file lines finds name named = by (find (known_map known) file.folder name) refl
    where
      by : (target : Found) → find (known_map known) file.folder name ≡ target → FoundInside (is_clean known dirty) (known_files known) target
      by Absent is = tt
      by (Unknown folder) is = tt
      by (Present one) is =
          let clean = finds.clean name one named is in
          let within : nat_lt clean.0 (length known) ≡ true = sym (numbers.there known clean.0) ∙ ap is_some (numbers.file known one clean.0 clean.1) in
          (text_id clean.0, number-is known (Present one) ∙ ap (option_map text_id) clean.1, ap (λ w. w && not (is_dirty dirty (text_id clean.0))) within ∙ ap not (not-marked (text_id clean.0) clean.2))

  line-same : (file : FileId) (line : Line) (lines : List Line) → ((name : List ℕ) → name_in line ≡ Some name → (find (known_map (edited known edit)) file.folder name ≡ find (known_map known) file.folder name) × FoundInside inside (known_files known) (find (known_map known) file.folder name)) → FindsSameFiles inside (known_map known) (known_map (edited known edit)) (known_files known) file.folder lines → FindsSameFiles inside (known_map known) (known_map (edited known edit)) (known_files known) file.folder (line ∷ lines)
  line-same file Blank lines same rest = rest
  line-same file Comment lines same rest = rest
  line-same file (Org part) lines same rest = rest
  line-same file (Bfc word) lines same rest = rest
  line-same file Step lines same rest = rest
  line-same file (Rot word) lines same rest = rest
  line-same file (Ref colour placement None) lines same rest = rest
  line-same file (Ref colour placement (Some name)) lines same rest = let both = same name refl in (both.0, both.1, rest)
  line-same file (Draw kind colour points) lines same rest = rest
  line-same file Malformed lines same rest = rest
  line-same file OutOfRange lines same rest = rest

  lines-same : (file : FileId) (lines : List (List ℕ)) → ((name : List ℕ) → Contains (names_among lines) name → (find (known_map (edited known edit)) file.folder name ≡ find (known_map known) file.folder name) × FoundInside inside (known_files known) (find (known_map known) file.folder name)) → FindsSameFiles inside (known_map known) (known_map (edited known edit)) (known_files known) file.folder (map line_of lines)
  lines-same file [] same = tt
  lines-same file (line ∷ lines) same =
      line-same file (line_of line) (map line_of lines)
      (λ name is. same name (subst (λ one. Contains (cons_option one (names_among lines)) name) (sym is) (here name (names_among lines))))
      (lines-same file lines (λ name c. same name (behind-name (name_in (line_of line)) (names_among lines) name c)))

  file-of : (text : TextId) → nat_lt text.0 (length known) ≡ true → (file : FileId) × (file_at known text.0 ≡ Some file)
  file-of text within = by (file_at known text.0) refl
    where
      by : (file : Option FileId) → file_at known text.0 ≡ file → (one : FileId) × (file_at known text.0 ≡ Some one)
      by None none = let no : false ≡ true = sym (ap is_some none) ∙ numbers.there known text.0 ∙ within in cc
      by (Some file) is = (file, is)

  same-finds : (text : TextId) (file : FileId) → file_at known text.0 ≡ Some file → StaysClean known edit text.0 file → FindsSameFiles inside (known_map known) (known_map (edited known edit)) (known_files known) file.folder (lines_of_file (known_map known) (Some file))
  same-finds text file at stays = subst (λ all. FindsSameFiles inside (known_map known) (known_map (edited known edit)) (known_files known) file.folder (map line_of (standing_lines all))) (sym (numbers.map known file ∙ ap (option_map (lines_at known)) (numbers.number known file text.0 distinct at))) (by (lines_at known text.0) refl)
    where
      by : (lines : Option (List (List ℕ))) → lines_at known text.0 ≡ lines → FindsSameFiles inside (known_map known) (known_map (edited known edit)) (known_files known) file.folder (map line_of (standing_lines (Some lines)))
      by None is = tt
      by (Some lines) is = let finds = stays.finds lines is in lines-same file lines (λ name named. (finds.finds name named, found-inside file lines finds name named))

  maps-agree : MapsAgree inside (known_map known) (known_map (edited known edit)) (known_files known) (known_files (edited known edit))
  unfolding inside
  maps-agree text is =
      let both = clean-of (nat_lt text.0 (length known)) (is_dirty dirty text) is in
      let there-is = file-of text both.0 in
      let stays = cleans known edit text.0 there-is.0 distinct are there-is.1 (not-dirtied text both.1) in
      record {
        file = there-is.0;
        at = file-is known text.0 ∙ there-is.1;
        at_other = file-is (edited known edit) text.0 ∙ (edits known edit).0.file text.0 ∙ there-is.1;
        number = number-is (edited known edit) (Present there-is.0) ∙ ap (option_map text_id) ((edits known edit).0.id there-is.0) ∙ sym (number-is known (Present there-is.0));
        lines = stays.same;
        finds = same-finds text there-is.0 there-is.1 stays;
      }

  texts_agree : MapsLaw → AgreementLaw → CleanTextsAgree known edit dirty
  unfolding inside
  texts_agree maps agreement =
      let agree = maps (is_clean known dirty) (known_map known) (known_map (edited known edit)) (known_files known) (known_files (edited known edit)) maps-agree in
      record { agree = agree; expansions = agreement.expansions (is_clean known dirty) (known_texts known) (known_texts (edited known edit)) agree }

pub graphs_agree : NumbersAgree → FindsExactly → ItemsLaws → TargetLaw → CleanTextsStay → EditLaws → MapsLaw → AgreementLaw → GraphsAgree
graphs_agree numbers lookups laws target-leads cleans edits maps agreement = record {
  heights = heights_agree numbers lookups laws;
  targets = λ known distinct. targets_agree numbers lookups laws known distinct target-leads;
  dirt = λ known edit dirty distinct are exact. texts_agree numbers cleans edits known edit dirty distinct are exact maps agreement;
}
