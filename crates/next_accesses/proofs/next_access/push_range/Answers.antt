use Rattle.std.proofs.Common.{◌≡◌, ◌++◌, sym, ap, subst, ◌∙◌}
use Rattle.std.proofs.lemmas.List.{append-nil}
use Rattle.std.proofs.lemmas.Result.{on_ok_weaker}
use Rattle.next_accesses.specs.element_ranges.Ranges.{actions_if}
use Rattle.next_accesses.proofs.next_access.push_range.Goals as goal

pub returns-in-Some : goal.returns-in-Some
returns-in-Some c = on_ok_weaker c.push_elements.result (λ h. h ∙ ap (λ o. c.args.found.now.items ++ actions_if o) (sym c.in-Some.is)) c.push_elements.ensures

pub returns-in-None : goal.returns-in-None
returns-in-None c = sym (append-nil c.args.found.now.items) ∙ ap (λ o. c.args.found.now.items ++ actions_if o) (sym c.in-None.is)
