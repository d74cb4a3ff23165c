-- Text blocks that are loaded one after another.
use Rattle.std.proofs.Common.{◌≡◌, ◌<◌, ◌++◌, ◌&&◌, ℕ, Bool, true, false, bytes_eq, cond, List, [], ◌∷◌, length, map, Option, Some, None, Result, Ok, Err, refl, ap, sym, subst, ◌∙◌, arith, true≢false, Bor}
use Rattle.std.specs.List.{AllByRecursion, IsDistinct, list_all}
use Rattle.std.specs.Option.{is_some, IsSome, option_copied, option_or}
use Rattle.std.proofs.lemmas.Bool.{le-ltb}
use Rattle.std.proofs.lemmas.List.{length-append}
use Rattle.std.proofs.lemmas.Map.Keys.{IsDistinct-head, IsDistinct-tail}
use Rattle.std.proofs.lemmas.Slice.Eq.{bytes_eq-Decides}
use Rattle.ld_names.specs.Finding.{IsFileEquality}
use Rattle.ld_names.specs.Standing.{file_in, Known, same_file}
use Rattle.ld_names.specs.declared.file.FileId.{FileId}
use Rattle.ld_names.specs.declared.file.Folder.TheVariants.{Model}
use Rattle.ld_mpd.specs.Blocks.{are_inside, blocks_of, text_blocks, text_of, texts_in}
use Rattle.ld_mpd.specs.Laws.{TextsAmongBlocks, TextStands}
use Rattle.ld_mpd.specs.declared.block.Block.{Block}
use Rattle.ld_texts.specs.Known.{file_at, id_of}
use Rattle.ld_texts.specs.Laws.{LearningNumbers, NumbersAgree}
use Rattle.ld_texts.specs.Learning.{GivesUnless, Learn, limit_passed}
use Rattle.ld_texts.specs.declared.change.LearnError.{LearnError}
use Rattle.ld_texts.specs.declared.change.LearnError.TheVariants.{Full as Refused, Memory as NoMemory}
use Rattle.ld_texts.specs.declared.change.Over.{Over}
use Rattle.ld_engine.specs.Loading.{AreNew, Blocks, load, load_refused, LoadsBehind, main_of, unless_passed}
use Rattle.ld_engine.specs.declared.limits.Limits.{Limits}

abbrev pub ok : Known → Result Known Over
ok known = Ok known

pub ok-same : {a b : Known} → ok a ≡ ok b → a ≡ b
ok-same is = cc

-- the texts among a block and what stands behind it
abbrev pub behind : Bool → (List ℕ × List (List ℕ)) → Blocks → Blocks
behind is_data text more = cond is_data more (text ∷ more)

-- a text that does not fit, or for which memory is lacking
pub refusal-loads : (limits : Limits) (known new : Known) (block : Block) (error : LearnError) (file : FileId) (max_files max_weight : ℕ) → max_files ≡ limits.texts → max_weight ≡ limits.total_weight → block.is_data ≡ false → GivesUnless (limit_passed max_files max_weight known (Some block.lines)) (Learn file (Some block.lines)) (Err error) → LoadsBehind limits known (texts_in (block ∷ [])) new (Err (load_refused error))
refusal-loads limits known new block (Refused over) file max_files max_weight files weight is_text passed =
    let text : List ℕ × List (List ℕ) = (block.name, block.lines) in
    let full : limit_passed limits.texts limits.total_weight known (Some block.lines) ≡ Some over =
    sym (ap (λ n. limit_passed n limits.total_weight known (Some block.lines)) files) ∙ sym (ap (λ w. limit_passed max_files w known (Some block.lines)) weight) ∙ passed in
    ap (λ b. load limits known (cond b [] (text ∷ []))) is_text ∙ ap (λ o. unless_passed o (load limits (known ++ (file_in (Model 1) text.0, Some text.1) ∷ []) [])) full
refusal-loads limits known new block NoMemory file max_files max_weight files weight is_text passed = tt

module _ (limits : Limits) (old : Known) (text : List ℕ × List (List ℕ)) (more : Blocks) where
  abbrev next : Known
  next = old ++ (file_in (Model 1) text.0, Some text.1) ∷ []

  text-loaded : (mid : Known) → load limits old (text ∷ []) ≡ Ok mid → (mid ≡ next) × (load limits old (text ∷ more) ≡ load limits mid more)
  text-loaded mid is = by (limit_passed limits.texts limits.total_weight old (Some text.1)) is
    where
      by : (passed : Option Over) → unless_passed passed (Ok next) ≡ Ok mid → (mid ≡ next) × (unless_passed passed (load limits next more) ≡ load limits mid more)
      by None is = (sym (ok-same is), ap (λ known. load limits known more) (ok-same is))
      by (Some over) is = absurd (cc)

  text-full : (over : Over) → load limits old (text ∷ []) ≡ Err over → load limits old (text ∷ more) ≡ Err over
  text-full over is = by (limit_passed limits.texts limits.total_weight old (Some text.1)) is
    where
      by : (passed : Option Over) → unless_passed passed (Ok next) ≡ Err over → unless_passed passed (load limits next more) ≡ Err over
      by None is = absurd (cc)
      by (Some full) is = is

  -- a block is loaded, and then the blocks behind it
  pub one-more : (is_data : Bool) (mid : Known) → load limits old (behind is_data text []) ≡ Ok mid → load limits old (behind is_data text more) ≡ load limits mid more
  one-more true mid is = ap (λ known. load limits known more) (ok-same is)
  one-more false mid is = (text-loaded mid is).1

  pub one-full : (is_data : Bool) (over : Over) → load limits old (behind is_data text []) ≡ Err over → load limits old (behind is_data text more) ≡ Err over
  one-full true over is = absurd (cc)
  one-full false over is = text-full over is

  pub new-head : (is_data : Bool) → AreNew old (behind is_data text more) → AreNew old (behind is_data text [])
  new-head true new = tt
  new-head false new = (new.0, tt)

  pub clean-head : (is_data : Bool) → list_all (λ text. are_inside text.1) (behind is_data text more) ≡ true → list_all (λ text. are_inside text.1) (behind is_data text []) ≡ true
  clean-head true clean = refl
  clean-head false clean = by (are_inside text.1) (list_all (λ text. are_inside text.1) more) clean
    where
      by : (a b : Bool) → (a && b) ≡ true → (a && true) ≡ true
      by true b is = refl
      by false b is = is

  pub clean-behind : (is_data : Bool) → list_all (λ text. are_inside text.1) (behind is_data text more) ≡ true → list_all (λ text. are_inside text.1) more ≡ true
  clean-behind true clean = clean
  clean-behind false clean = by (are_inside text.1) (list_all (λ text. are_inside text.1) more) clean
    where
      by : (a b : Bool) → (a && b) ≡ true → b ≡ true
      by true b is = is
      by false b is = cc

  pub different-behind : (is_data : Bool) → IsDistinct bytes_eq (map (λ text. text.0) (behind is_data text more)) → IsDistinct bytes_eq (map (λ text. text.0) more)
  different-behind true different = different
  different-behind false different = IsDistinct-tail bytes_eq text.0 (map (λ text. text.0) more) different

  still-new : LearningNumbers → IsFileEquality → (texts : Blocks) → AreNew old texts → AllByRecursion (λ name. bytes_eq text.0 name ≡ false) (map (λ text. text.0) texts) → AreNew next texts
  still-new numbers files [] new others = tt
  still-new numbers files (other ∷ texts) new others = (unknown, still-new numbers files texts new.1 others.1)
    where
      file : FileId
      file = file_in (Model 1) other.0

      by : (same : Bool) → same_file file (file_in (Model 1) text.0) ≡ same → option_or (id_of old file) (cond same (Some (length old)) None) ≡ None
      by true is =
          let equal : other.0 ≡ text.0 = ap (λ (f : FileId). f.name) ((files.same file (file_in (Model 1) text.0)).0 is) in
          absurd (true≢false (sym ((bytes_eq-Decides text.0 other.0).1 (sym equal)) ∙ others.0))
      by false is = ap (λ o. option_or o None) new.0

      unknown : id_of next file ≡ None
      unknown = (numbers old (file_in (Model 1) text.0) (Some text.1)).id file ∙ by (same_file file (file_in (Model 1) text.0)) refl

  -- the other texts are still new
  pub new-behind : LearningNumbers → IsFileEquality → (is_data : Bool) (mid : Known) → load limits old (behind is_data text []) ≡ Ok mid → AreNew old (behind is_data text more) → IsDistinct bytes_eq (map (λ text. text.0) (behind is_data text more)) → AreNew mid more
  new-behind numbers files true mid is new different = subst (λ known. AreNew known more) (ok-same is) new
  new-behind numbers files false mid is new different = subst (λ known. AreNew known more) (sym (text-loaded mid is).0) (still-new numbers files more new.1 (IsDistinct-head bytes_eq text.0 (map (λ text. text.0) more) different))

-- nothing that is not known has a number
none-known : NumbersAgree → (file : FileId) → id_of [] file ≡ None
none-known numbers file = by (id_of [] file) refl
  where
    by : (found : Option ℕ) → id_of [] file ≡ found → found ≡ None
    by None is = refl
    by (Some id) is = absurd (true≢false (sym (ap is_some (numbers.file [] file id is)) ∙ numbers.there [] id ∙ le-ltb id 0 (omega arith)))

pub all-new : NumbersAgree → (texts : Blocks) → AreNew [] texts
all-new numbers [] = tt
all-new numbers (text ∷ texts) = (none-known numbers (file_in (Model 1) text.0), all-new numbers texts)

-- ---- The main model.

module _ (numbers : LearningNumbers) (limits : Limits) (main : FileId) where
  first-stays : (old new : Known) (texts : Blocks) → 0 < length old → file_at old 0 ≡ Some main → load limits old texts ≡ Ok new → file_at new 0 ≡ Some main
  first-stays old new [] some first is = ap (λ known. file_at known 0) (sym (ok-same is)) ∙ first
  first-stays old new (text ∷ texts) some first is = by (λ known more kept. first-stays known new texts more kept) (limit_passed limits.texts limits.total_weight old (Some text.1)) is
    where
      by : ((known : Known) → 0 < length known → file_at known 0 ≡ Some main → load limits known texts ≡ Ok new → file_at new 0 ≡ Some main) → (passed : Option Over) → unless_passed passed (load limits (old ++ (file_in (Model 1) text.0, Some text.1) ∷ []) texts) ≡ Ok new → file_at new 0 ≡ Some main
      by further None is =
          let count = length-append old ((file_in (Model 1) text.0, Some text.1) ∷ []) in
          let more : 0 < length (old ++ (file_in (Model 1) text.0, Some text.1) ∷ []) = omega arith in
          further (old ++ (file_in (Model 1) text.0, Some text.1) ∷ []) more ((numbers old (file_in (Model 1) text.0) (Some text.1)).old_file 0 some ∙ first) is
      by further (Some over) is = absurd (cc)

-- the first text has number 0
pub main-first : LearningNumbers → (limits : Limits) (text : List ℕ × List (List ℕ)) (texts : Blocks) (known : Known) → load limits [] (text ∷ texts) ≡ Ok known → file_at known 0 ≡ Some (file_in (Model 1) text.0)
main-first numbers limits text texts known is = by (limit_passed limits.texts limits.total_weight [] (Some text.1)) is
  where
    main : FileId
    main = file_in (Model 1) text.0

    by : (passed : Option Over) → unless_passed passed (load limits ((main, Some text.1) ∷ []) texts) ≡ Ok known → file_at known 0 ≡ Some main
    by None is = first-stays numbers limits main ((main, Some text.1) ∷ []) known texts (omega arith) (numbers [] main (Some text.1)).new_file is
    by (Some over) is = absurd (cc)

-- ---- What the loading of a whole file comes to.

module _ (numbers : LearningNumbers) (laws : TextStands) (among : TextsAmongBlocks) (limits : Limits) (own bytes : List ℕ) (blocks : List Block) (old known : Known) (is : blocks ≡ blocks_of own bytes) (nothing : old ≡ []) (loads : load limits old (texts_in blocks) ≡ Ok known) where
  pub all-loaded : load limits [] (text_blocks own bytes) ≡ Ok known
  all-loaded = ap (load limits []) (among own bytes ∙ sym (ap texts_in is)) ∙ sym (ap (λ k. load limits k (texts_in blocks)) nothing) ∙ loads

  pub main-there : file_at known 0 ≡ main_of (text_blocks own bytes)
  main-there =
      let stands = laws own bytes in
      main-first numbers limits (stands.0, text_of own bytes) stands.1 known (subst (λ texts. load limits [] texts ≡ Ok known) stands.2 all-loaded)
      ∙ sym (ap main_of stands.2)

  pub main-some : IsSome (main_of (text_blocks own bytes))
  main-some = let stands = laws own bytes in subst (λ texts. IsSome (main_of texts)) (sym stands.2) refl

pub some-copied : {A : Type 0} (found : Option (Bor A)) (main : Option A) → option_copied found ≡ main → IsSome main → IsSome found
some-copied None None is some = some
some-copied None (Some main) is some = absurd (cc)
some-copied (Some found) main is some = refl
