-- Where nothing is wanted a name is found unless it is absent.
use Rattle.std.proofs.Common.{◌≡◌, ◌≢◌, ℕ, zero, suc, Bool, List, [], ◌∷◌, Option, Some, None, refl, ap, sym, subst, ◌∙◌}
use Rattle.std.specs.Prelude.{option_map, slice_get, unwrap_or}
use Rattle.ld_names.specs.Finding.{Exactly, FindsExactly, FindStays}
use Rattle.ld_names.specs.Standing.{Absent, find, Found, Known, known_map, Present, standing, Text, Unknown}
use Rattle.ld_names.specs.declared.file.FileId.{FileId}
use Rattle.ld_names.specs.declared.file.Folder.{Folder}
use Rattle.ld_names.specs.declared.file.TextId.{TextId}
use Rattle.ld_num.specs.declared.point.Placement.{Placement}
use Rattle.ld_line.specs.declared.line.Line.{Line}
use Rattle.ld_line.specs.declared.line.Line.TheVariants as line
use Rattle.ld_texts.specs.Known.{AreDistinct, file_at, id_of, lines_at}
use Rattle.ld_texts.specs.Laws.{NumbersAgree}
use Rattle.ld_entry.specs.Learnt.{WantsNothing}
use Rattle.ld_entry.specs.NumberedTexts.{found_from, known_files, known_texts, standing_texts, text_id_of}
use Rattle.ld_engine.specs.Laws.{IsFoundUnlessAbsent, IsReached}
use Rattle.ld_engine.proofs.Gone.{has-at}
use Rattle.ld_engine.proofs.Numbered.{files-at, number-of}
use Rattle.ld_engine.proofs.Settled.{inside, root-known, root-settles}

-- ---- No folder is unknown.

abbrev IsAsked : Known → Folder → List ℕ → Type 0
IsAsked known from name = (folder : Folder) → find (known_map known) from name ≢ Unknown folder

module _ (within : TextId → Bool) (known : Known) (text : TextId) (file : FileId) where
  behind : (l : Line) (lines : List Line) → WantsNothing within known text file (l ∷ lines) → WantsNothing within known text file lines
  behind (line.Ref word placement (Some name)) lines nothing = nothing.2
  behind (line.Ref word placement None) lines nothing = nothing
  behind line.Blank lines nothing = nothing
  behind line.Comment lines nothing = nothing
  behind (line.Org part) lines nothing = nothing
  behind (line.Bfc word) lines nothing = nothing
  behind line.Step lines nothing = nothing
  behind (line.Rot word) lines nothing = nothing
  behind (line.Draw kind word points) lines nothing = nothing
  behind line.Malformed lines nothing = nothing
  behind line.OutOfRange lines nothing = nothing

  asked-at : (word : ℕ) (placement : Placement) (name : List ℕ) (lines : List Line) (before : ℕ) → WantsNothing within known text file lines → slice_get lines before ≡ Some (line.Ref word placement (Some name)) → IsAsked known file.folder name
  asked-at word placement name [] before nothing at = absurd (cc)
  asked-at word placement name (l ∷ lines) zero nothing at =
      let same : l ≡ line.Ref word placement (Some name) = cc in
      let here : WantsNothing within known text file (line.Ref word placement (Some name) ∷ lines) = subst (λ l. WantsNothing within known text file (l ∷ lines)) same nothing in here.0
  asked-at word placement name (l ∷ lines) (suc before) nothing at =
      asked-at word placement name lines before (behind l lines nothing) at

module _ (numbers : NumbersAgree) (finds : FindsExactly) (more : FindStays) where
  asked : (known : Known) (root file : FileId) (text : TextId) (name : List ℕ) → AreDistinct known → IsReached known root file text name → IsAsked known file.folder name
  asked known root file text name distinct is =
      let id = root-known numbers known distinct root is.reached is.reaches in
      let closed = (root-settles numbers known distinct root id.0 is.reached is.reaches id.1).1 text (has-at is.reached is.place text.0 is.is_reached) in
      let same : closed.0 ≡ file = (let both : Some closed.0 ≡ Some file = sym closed.1 ∙ files-at known text.0 ∙ is.is_file in cc) in
      asked-at (inside is.reached) known text file is.word is.placement name ((known_texts known).lines text) is.before (subst (λ f. WantsNothing (inside is.reached) known text f ((known_texts known).lines text)) same closed.2) is.refers

  -- ---- What is found has a number.

  some-none : {A : Type 0} (x : A) → Some x ≡ None → ⊥
  some-none x is = cc

  numbered : (known : Known) (file : FileId) (lines : List (List ℕ)) → known_map known file ≡ Some (Some lines) → text_id_of (known_files known) (Present file) ≢ None
  numbered known file lines there none = by (id_of known file) refl
    where
      by : (id : Option ℕ) → id_of known file ≡ id → ⊥
      by None is = some-none (Some lines) (sym there ∙ numbers.map known file ∙ ap (option_map (lines_at known)) is)
      by (Some id) is = some-none {A = TextId} (record { 0 = id }) (sym (number-of known file ∙ ap (option_map (λ n. record { 0 = n })) is) ∙ none)

  by-found : (known : Known) (from : Folder) (name : List ℕ) (found : Found) → find (known_map known) from name ≡ found → IsAsked known from name → Exactly (text_id_of (known_files known) found ≡ None) (found ≡ Absent)
  by-found known from name (Present file) is asked =
      let there = ((finds.present (known_map known) from name file).0 is).2 in
      (λ none. absurd (numbered known file there.0 there.1 none), λ absent. absurd (cc))
  by-found known from name Absent is asked = (λ none. refl, λ absent. refl)
  by-found known from name (Unknown folder) is asked = absurd (asked folder is)

  found-at : (known : Known) (file : FileId) (text : TextId) (name : List ℕ) → file_at known text.0 ≡ Some file → (known_texts known).found text name ≡ text_id_of (known_files known) (find (known_map known) file.folder name)
  found-at known file text name is = ap (found_from (known_map known) (known_files known) name) (files-at known text.0 ∙ is)

  known-unless-absent : (known : Known) (root file : FileId) (text : TextId) (name : List ℕ) → AreDistinct known → IsReached known root file text name → Exactly ((known_texts known).found text name ≡ None) (find (known_map known) file.folder name ≡ Absent)
  known-unless-absent known root file text name distinct is =
      let exactly = by-found known file.folder name (find (known_map known) file.folder name) refl (asked known root file text name distinct is) in
      subst (λ found. Exactly (found ≡ None) (find (known_map known) file.folder name ≡ Absent)) (sym (found-at known file text name is.is_file)) exactly

  -- ---- And so it stands.

  says-more : (known : Known) (shelf : FileId → Text) (file : FileId) (text : Text) → known_map known file ≡ Some text → standing (known_map known) shelf file ≡ Some text
  unfolding standing
  says-more known shelf file text is = ap (λ o. Some (unwrap_or o (shelf file))) is

  stands-unless-absent : (known : Known) (shelf : FileId → Text) (root file : FileId) (text : TextId) (name : List ℕ) → AreDistinct known → IsReached known root file text name → Exactly ((standing_texts known shelf).found text name ≡ None) (find (standing (known_map known) shelf) file.folder name ≡ Absent)
  stands-unless-absent known shelf root file text name distinct is =
      let exactly = by-found known file.folder name (find (known_map known) file.folder name) refl (asked known root file text name distinct is) in
      let stays : find (standing (known_map known) shelf) file.folder name ≡ find (known_map known) file.folder name = more.more (known_map known) (standing (known_map known) shelf) file.folder name (says-more known shelf) (asked known root file text name distinct is) in
      let found : (standing_texts known shelf).found text name ≡ text_id_of (known_files known) (find (standing (known_map known) shelf) file.folder name) = ap (found_from (standing (known_map known) shelf) (known_files known) name) (files-at known text.0 ∙ is.is_file) in
      subst (λ f. Exactly (f ≡ None) (find (standing (known_map known) shelf) file.folder name ≡ Absent)) (sym found) (subst (λ f. Exactly (text_id_of (known_files known) f ≡ None) (f ≡ Absent)) (sym stays) exactly)

  pub found-unless-absent : IsFoundUnlessAbsent
  found-unless-absent = record { known = known-unless-absent; standing = stands-unless-absent }
