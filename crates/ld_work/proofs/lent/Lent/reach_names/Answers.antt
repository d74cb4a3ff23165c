use Rattle.std.proofs.Common.{◌≡◌, ◌+◌, Some, None, ap, sym, ◌∙◌, subst, arith, rules}
use Rattle.std.specs.Prelude.{slice_get}
use Rattle.std.specs.Option.{option_copied, unwrap_or}
use Rattle.ld_entry.specs.NumberedTexts.{known_texts}
use Rattle.ld_work.specs.Inside.Reaching.{ArePresent, names_listed, names_reach, with_text}
use Rattle.ld_work.proofs.Reaching.{found-there, listed-at, listed-few, name-next, none-behind, past-all, present-with}
use Rattle.ld_work.proofs.lent.Lent.reach_names.Goals as goal
use Rattle.ld_work.proofs.lent.Lent.reach_names.Goals.{in-Some-found+in_ok-insert, in_default-found}

pub returns-in_default-clause-exactly : goal.returns-in_default-clause-exactly
returns-in_default-clause-exactly c =
    let known = c.args.reader.now.texts.known in
    let none : slice_get (names_listed known c.args.text) c.loop-index.index ≡ None = sym (listed-at known c.args.text c.args.self.now.graph.now.items c.loop-index.index (c.items_law.ensures.agree known) c.requires.may.items) ∙ sym c.name.ensures ∙ ap option_copied c.in_default.is in
    ap (names_reach (known_texts known) c.args.text c.loop-index.texts.keys) (sym (none-behind (names_listed known c.args.text) c.loop-index.index none)) ∙ c.loop-index.invariant.goes

pub returns-clause-exactly : goal.returns-clause-exactly
returns-clause-exactly c =
    let known = c.args.reader.now.texts.known in
    let few = listed-few known c.args.text in
    let end : c.unwrap_or-index-end.result ≡ _ = c.unwrap_or-index-end.ensures ∙ ap (λ o. unwrap_or o 0) c.len.ensures in
    ap (names_reach (known_texts known) c.args.text c.loop-index.texts.keys) (sym (past-all (names_listed known c.args.text) c.loop-index.index (omega arith))) ∙ c.loop-index.invariant.goes

pub loop-index-preserved : goal.loop-index-preserved
loop-index-preserved c =
    let known = c.args.reader.now.texts.known in
    let at : slice_get (names_listed known c.args.text) c.loop-index.index ≡ Some c.in-Some.name.now = sym (listed-at known c.args.text c.args.self.now.graph.now.items c.loop-index.index (c.items_law.ensures.agree known) c.requires.may.items) ∙ sym c.name.ensures ∙ ap option_copied c.in-Some.is in
    elim c.match-found.branch [
      | in-Some-found+in_ok-insert w ↦
          (let found : (known_texts known).found c.args.text c.in-Some.name.now ≡ Some w.in-Some-found.found = search rules in
          let keys : c.match-found.texts.keys ≡ with_text c.loop-index.texts.keys (Some w.in-Some-found.found) = search rules in
          record {
            goes = name-next known c.args.text c.loop-index.texts.keys c.match-found.texts.keys _ c.loop-index.index (c.loop-index.index + 1) c.in-Some.name.now (omega arith) at (keys ∙ ap (with_text c.loop-index.texts.keys) (sym found)) c.loop-index.invariant.goes;
            present = present-with known c.loop-index.texts.keys c.match-found.texts.keys w.in-Some-found.found.0 keys c.loop-index.invariant.present (found-there c.number_law.ensures c.lookup_law.ensures.finds known c.args.text c.in-Some.name.now w.in-Some-found.found found);
          })
      | in_default-found w ↦
          (let found : (known_texts known).found c.args.text c.in-Some.name.now ≡ None = search rules in
          let keys : c.match-found.texts.keys ≡ c.loop-index.texts.keys = search rules in
          record {
            goes = name-next known c.args.text c.loop-index.texts.keys c.match-found.texts.keys _ c.loop-index.index (c.loop-index.index + 1) c.in-Some.name.now (omega arith) at (keys ∙ ap (with_text c.loop-index.texts.keys) (sym found)) c.loop-index.invariant.goes;
            present = subst (ArePresent known) (sym keys) c.loop-index.invariant.present;
          })
    ]
