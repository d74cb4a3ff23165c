-- The main model of a file is there.
use Rattle.std.proofs.Common.{◌≡◌, ℕ, List, [], Some, Ok, refl, sym, subst}
use Rattle.std.specs.Option.{IsSome}
use Rattle.ld_mpd.specs.Blocks.{text_blocks, text_of}
use Rattle.ld_mpd.specs.Laws.{TextStands}
use Rattle.ld_names.specs.Finding.{IsFileEquality, IsThere, LearningKeeps}
use Rattle.ld_names.specs.Standing.{Known, known_map}
use Rattle.ld_names.specs.declared.file.FileId.{FileId}
use Rattle.ld_engine.specs.Laws.{MainIsThere}
use Rattle.ld_engine.specs.Loading.{load, main_of}
use Rattle.ld_engine.specs.declared.limits.Limits.{Limits}
use Rattle.ld_engine.proofs.First.{begins-says, main-begins}
use Rattle.ld_engine.proofs.Grown.{learning-keeps}

module _ (stands : TextStands) (equality : IsFileEquality) where
  one-main : (own bytes : List ℕ) → IsSome (main_of (text_blocks own bytes))
  one-main own bytes = subst (λ texts. IsSome (main_of texts)) (sym (stands own bytes).2) refl

  loaded-there : (limits : Limits) (own bytes : List ℕ) (known : Known) (main : FileId) → load limits [] (text_blocks own bytes) ≡ Ok known → main_of (text_blocks own bytes) ≡ Some main → IsThere (known_map known) main
  loaded-there limits own bytes known main loads is =
      (text_of own bytes, (begins-says equality main (text_of own bytes) known (main-begins stands limits own bytes known main loads is)).1)

  pub main-is-there : LearningKeeps → MainIsThere
  main-is-there keeps = record {
    one = one-main;
    there = loaded-there;
    stays = λ limits files wants known file there. (there.0, learning-keeps limits files wants (λ all. known_map all file ≡ Some (Some there.0)) (λ all next text is told holds. keeps all next text file (Some there.0) holds) known there.1);
  }
