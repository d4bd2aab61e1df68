use Rattle.std.proofs.Common.{◌++◌, ◌+◌, sym, ap, append_assoc, ◌∙◌, List, ℕ, map, take}
use Rattle.search.specs.declared.run_outcomes.outcomes.Outcome.{Outcome}
use Rattle.search.specs.run_outcomes.Outcomes.{told_by}
use Rattle.search.specs.search_reports.Reports.{outcome_text, outcome_texts}
use Rattle.search.proofs.search_reports.OutcomeTexts.{one_more}
use Rattle.search.proofs.search_reports.outcomes.push_each.Goals as goal

pub loop-at-preserved : goal.loop-at-preserved
loop-at-preserved c =
    let at = c.loop-at.at in
    let before = map told_by (take at c.args.outcomes.now) in
    let outcome = c.index-outcomes-at.result in
    c.in_ok-push_outcome.ensures
    ∙ ap (λ (l : List ℕ). l ++ outcome_text (at + 1) (told_by outcome)) c.loop-at.invariant
    ∙ append_assoc c.args.text.now.items (outcome_texts 1 before) (outcome_text (at + 1) (told_by outcome))
    ∙ ap (λ (o : Outcome). c.args.text.now.items ++ (outcome_texts 1 before ++ outcome_text (at + 1) (told_by o))) c.index-outcomes-at.is
    ∙ ap (λ (l : List ℕ). c.args.text.now.items ++ l) (sym (one_more c.args.outcomes.now at outcome c.loop-at-test.true))
