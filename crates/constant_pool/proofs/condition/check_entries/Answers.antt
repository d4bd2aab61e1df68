use Rattle.std.proofs.Common.{◌≡◌, ◌∙◌, subst, true, false, take, map}
use Rattle.std.specs.List.{list_all}
use Rattle.std.proofs.lemmas.List.{take_all}
use Rattle.std.proofs.lemmas.List.Folds.{list_all-map, list_all_at}
use Rattle.std.proofs.lemmas.Result.{err_from_is_err_and}
use Rattle.constant_pool.specs.View.{entry_of}
use Rattle.constant_pool.proofs.condition.check_entries.Goals as goal

pub returns-in_err-check : goal.returns-in_err-check
returns-in_err-check g c =
    let met = g.C.Condition.is_met c.args.condition.now in
    let constants = c.args.constants.now in
    let p = err_from_is_err_and c.from_residual.result c.from_residual.ensures.1 in
    let here : met (entry_of c.constant-item.result) ≡ false = c.in_err-check.ensures.0 in
    let found : list_all met (map entry_of constants) ≡ false = list_all-map met entry_of constants ∙ list_all_at (λ x. met (entry_of x)) constants c.constants.constant-index c.constant-item.result c.constants-test.true (subst (λ x. met (entry_of x) ≡ false) c.constant-item.is here) in
    rw (p.1, p.2) (found, c.in_err-check.ensures.1)

pub returns : goal.returns
returns g c =
    let met = g.C.Condition.is_met c.args.condition.now in
    let constants = c.args.constants.now in
    let whole : take c.constants.constant-index constants ≡ constants = take_all c.constants.constant-index constants c.constants-test.false in
    list_all-map met entry_of constants ∙ subst (λ l. list_all (λ x. met (entry_of x)) l ≡ true) whole c.constants.invariant
