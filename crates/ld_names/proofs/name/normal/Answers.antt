use Rattle.std.proofs.Common.{◌≡◌, ◌∙◌, ap, cond, map, rules, subst, sym, Err, List, Ok, Result, ℕ}
use Rattle.std.specs.Result.{IsOk, is_ok}
use Rattle.ld_names.specs.Normal.{GivesName, lower, normal_of}
use Rattle.ld_names.specs.declared.name.NameError.{NameError}
use Rattle.ld_names.specs.declared.name.NameError.TheVariants.{Control, Memory}
use Rattle.ld_names.proofs.Trim.{normal_of-again, normal_of-relative}
use Rattle.ld_names.proofs.name.normal.Goals.{After-from_vec}
use Rattle.ld_names.proofs.name.normal.Goals as goal

pub returns-then-controlled : goal.returns-then-controlled
returns-then-controlled c =
    let is = normal_of-relative c.args.text.now c.trimmed-text.result.now c.trimmed-text.ensures (search rules) (search rules) (search rules) in
    sym (is ∙ ap (λ b. cond b (Err Control) (Ok (map lower c.trimmed-text.result.now))) (sym (c.if-controlled.ensures)))

gives_memory : (result wanted : Result (List ℕ) NameError) → result ≡ Err Memory → IsOk wanted → GivesName result wanted
gives_memory result wanted is ok = subst (λ (r : Result (List ℕ) NameError). GivesName r wanted) (sym is) ok

pub returns-in_err-bytes : goal.returns-in_err-bytes
returns-in_err-bytes c =
    let is = normal_of-relative c.args.text.now c.trimmed-text.result.now c.trimmed-text.ensures (search rules) (search rules) (search rules) in
    let ok : IsOk (normal_of c.args.text.now) = ap is_ok (is ∙ ap (λ b. cond b (Err Control) (Ok (map lower c.trimmed-text.result.now))) (sym (c.if-controlled.ensures))) in
    gives_memory c.from_residual.result (normal_of c.args.text.now) (search rules) ok

form : (c : After-from_vec) → normal_of c.args.text.now ≡ Ok c.from_vec.result
form c =
    let is = normal_of-relative c.args.text.now c.trimmed-text.result.now c.trimmed-text.ensures (search rules) (search rules) (search rules) in
    is ∙ ap (λ b. cond b (Err Control) (Ok (map lower c.trimmed-text.result.now))) (sym (c.if-controlled.ensures)) ∙ ap Ok (sym (c.from_vec.ensures ∙ c.in_ok-bytes.ensures))

pub returns : goal.returns
returns c = sym (form c)

pub invariant_of-result : goal.invariant_of-result
invariant_of-result c = normal_of-again c.args.text.now c.from_vec.result (form c)
