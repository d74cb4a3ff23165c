-- Where nothing is wanted, the known texts agree with the texts as they stand.
use Rattle.std.proofs.Common.{◌≡◌, ◌+◌, ◌<◌, ℕ, zero, suc, Bool, true, false, not, cond, List, [], ◌∷◌, length, Some, None, option_map, refl, ap, sym, ◌∙◌, subst, arith}
use Rattle.std.specs.Prelude.{slice_get, unwrap_or}
use Rattle.std.specs.List.{position_or_len}
use Rattle.std.proofs.lemmas.Bool.{lt-ltb}
use Rattle.ld_names.specs.Finding.{FindsExactly, FindStays, IsFileEquality}
use Rattle.ld_names.specs.Standing.{Absent, find, Found, Known, known_map, Map, Present, same_file, standing, Text, Unknown}
use Rattle.ld_names.specs.declared.file.FileId.{FileId}
use Rattle.ld_names.specs.declared.file.Folder.{Folder}
use Rattle.ld_names.specs.declared.file.TextId.{TextId}
use Rattle.ld_line.specs.declared.line.Line.{Line}
use Rattle.ld_line.specs.declared.line.Line.TheVariants.{Ref}
use Rattle.ld_entry.proofs.Agreement.{agrees}
use Rattle.ld_entry.proofs.Maps.{maps-agree}
use Rattle.ld_entry.specs.Agreement.{Agree, FindsSameFiles, FoundInside, MapsAgree}
use Rattle.ld_entry.specs.Laws.{StandingLaw}
use Rattle.ld_entry.specs.Learnt.{FindsInside, IsClosed, WantsNothing}
use Rattle.ld_entry.specs.NumberedTexts.{found_from, known_files, known_texts, lines_of_file, text_id_of, standing_texts}

-- a known file stands as it is known
standing-known : (known : Map) (shelf : FileId → Text) (file : FileId) (text : Text) → known file ≡ Some text → standing known shelf file ≡ Some text
unfolding standing
standing-known known shelf file text is = ap (λ o. Some (unwrap_or o (shelf file))) is

module _ (finds : FindsExactly) (stays : FindStays) (equality : IsFileEquality) where
  -- a file that has a number is known
  known_at : (known : Known) (n : ℕ) (file : FileId) → slice_get (known_files known) n ≡ Some file → (text : Text) × (known_map known file ≡ Some text)
  unfolding known_map
  known_at [] n file is = cc
  known_at (first ∷ known) zero file is =
      let same : file ≡ first.0 = cc in
      (first.1, ap (λ b. cond b (Some first.1) (known_map known file)) ((equality.same file first.0).1 same))
  known_at (first ∷ known) (suc n) file is = by (same_file file first.0) (known_at known n file is)
    where
      by : (b : Bool) → (text : Text) × (known_map known file ≡ Some text) → (text : Text) × (cond b (Some first.1) (known_map known file) ≡ Some text)
      by true rest = (first.1, refl)
      by false rest = rest

  -- a known file has a number
  placed : (known : Known) (file : FileId) (text : Text) → known_map known file ≡ Some text → position_or_len (same_file file) (known_files known) < length (known_files known)
  unfolding known_map
  placed [] file text is = cc
  placed (first ∷ known) file text is = by (same_file file first.0) is (λ rest. placed known file text rest)
    where
      by : (b : Bool) → cond b (Some first.1) (known_map known file) ≡ Some text → (known_map known file ≡ Some text → position_or_len (same_file file) (known_files known) < length (known_files known)) → cond (not b) (1 + position_or_len (same_file file) (known_files known)) 0 < suc (length (known_files known))
      by true is rest = omega arith
      by false is rest = let below = rest is in omega arith

  pub number_of : (known : Known) (file : FileId) (text : Text) → known_map known file ≡ Some text → (number : TextId) × (text_id_of (known_files known) (Present file) ≡ Some number)
  number_of known file text is =
      let place = position_or_len (same_file file) (known_files known) in
      (record { 0 = place }, ap (λ b. option_map (λ n. let id : TextId = record { 0 = n } in id) (cond b (Some place) None)) (lt-ltb place (length (known_files known)) (placed known file text is)))

  finds-same : (inside : TextId → Bool) (known : Known) (shelf : FileId → Text) (text : TextId) (file : FileId) → slice_get (known_files known) text.0 ≡ Some file → (lines : List Line) → WantsNothing inside known text file lines → FindsSameFiles inside (known_map known) (standing (known_map known) shelf) (known_files known) file.folder lines
  finds-same inside known shelf text file at [] nothing = tt
  finds-same inside known shelf text file at (Ref word placement (Some name) ∷ lines) nothing =
      let map = known_map known in
      let here : (known_texts known).found text name ≡ text_id_of (known_files known) (find map file.folder name) = ap (found_from map (known_files known) name) at in
      let same = stays.more map (standing map shelf) file.folder name (λ other said. standing-known map shelf other said) nothing.0 in
      (same, found-inside known file.folder name (find map file.folder name) refl (subst (FindsInside inside) here nothing.1), finds-same inside known shelf text file at lines nothing.2)
    where
      found-inside : (known : Known) (folder : Folder) (name : List ℕ) (found : Found) → find (known_map known) folder name ≡ found → FindsInside inside (text_id_of (known_files known) found) → FoundInside inside (known_files known) found
      found-inside known folder name (Present file) is within =
          let there = ((finds.present (known_map known) folder name file).0 is).2 in
          let number = number_of known file (Some there.0) there.1 in
          (number.0, number.1, subst (FindsInside inside) number.1 within)
      found-inside known folder name Absent is within = tt
      found-inside known folder name (Unknown other) is within = tt
  finds-same inside known shelf text file at (line ∷ lines) nothing = finds-same inside known shelf text file at lines nothing

  maps-same : (inside : TextId → Bool) (known : Known) (shelf : FileId → Text) → IsClosed inside known → MapsAgree inside (known_map known) (standing (known_map known) shelf) (known_files known) (known_files known)
  maps-same inside known shelf learnt text within =
      let closed = learnt text within in
      let there = known_at known text.0 closed.0 closed.1 in
      record {
        file = closed.0;
        at = closed.1;
        at_other = closed.1;
        number = refl;
        lines = standing-known (known_map known) shelf closed.0 there.0 there.1 ∙ sym there.1;
        finds = finds-same inside known shelf text closed.0 closed.1 (lines_of_file (known_map known) (Some closed.0)) (subst (WantsNothing inside known text closed.0) (ap (lines_of_file (known_map known)) closed.1) closed.2);
      }

  agree : (inside : TextId → Bool) (known : Known) (shelf : FileId → Text) → IsClosed inside known → Agree inside (known_texts known) (standing_texts known shelf)
  agree inside known shelf learnt = maps-agree equality inside (known_map known) (standing (known_map known) shelf) (known_files known) (known_files known) (maps-same inside known shelf learnt)

  pub stands : StandingLaw
  stands = record {
    outcomes = λ inside known shelf learnt. agrees.outcomes inside (known_texts known) (standing_texts known shelf) (agree inside known shelf learnt);
    answers = λ inside known shelf learnt. agrees.answers inside (known_texts known) (standing_texts known shelf) (agree inside known shelf learnt);
    expansions = λ inside known shelf learnt. agrees.expansions inside (known_texts known) (standing_texts known shelf) (agree inside known shelf learnt);
    counts = λ inside known shelf learnt. agrees.counts inside (known_texts known) (standing_texts known shelf) (agree inside known shelf learnt);
  }
