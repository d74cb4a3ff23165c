use Rattle.std.proofs.Common.{◌≡◌, ◌∙◌, ◌∷◌, false, ⊎_elim, sym, ap, subst, rules, true≢false}
use Rattle.std.specs.List.{Contains}
use Rattle.ld_names.specs.Standing.{same_folder}
use Rattle.ld_graph.proofs.Folders.{same_folder-refl}
use Rattle.ld_graph.proofs.Listed.{first_or, there}
use Rattle.ld_graph.proofs.node.looks_in.Goals as goal

pub loop-other-preserved : goal.loop-other-preserved
loop-other-preserved c =
    let differ : same_folder c.in-Some.other.now c.args.folder ≡ false = search rules in
    let cases : c.loop-other.rest.now ≡ c.in-Some.other.now ∷ c.in-Some.more.now = c.in-Some.ensures.cases.0 in
    let h = c.loop-other.invariant in (
      λ r. h.0 (rw cases (there c.args.folder c.in-Some.other.now c.in-Some.more.now r)),
      λ r. ⊎_elim
          (λ same. absurd (true≢false (sym (ap (λ f. same_folder f c.args.folder) same ∙ same_folder-refl c.args.folder) ∙ differ)))
          (λ rest. rest)
          (first_or c.args.folder c.in-Some.other.now c.in-Some.more.now (subst (λ xs. Contains xs c.args.folder) cases (h.1 r))),
    )
