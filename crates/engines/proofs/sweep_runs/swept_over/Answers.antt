use Rattle.std.proofs.Common.{◌≡◌, ◌++◌, ◌∙◌, ℕ, List, Bool, ap, map, subst, sym, vec_items}
use Rattle.std.specs.Prelude.{is_some, unwrap_or}
use Rattle.std.specs.Arc.{arc_value}
use Rattle.race_sweeps.specs.race_sweeping.Swept.{AreAccepted}
use Rattle.sweeps.specs.Policies.{RunsBy}
use Rattle.sweeps.specs.Tallies.{Same, same_in}
use Rattle.sweeps.specs.Texts.{sweep_text}
use Rattle.sweeps.specs.declared.policy_runs.SeededPolicy.{SeededPolicy}
use Rattle.engines.specs.OutcomeFiles.{AreOutcomeFiles}
use Rattle.engines.specs.RecordForms.{record_form, recorded_as}
use Rattle.engines.specs.Sweeps.{SweepsBy, seeded_policy}
use Rattle.engines.proofs.sweep_runs.swept_over.Goals as goal

pub runs_swept-requires-after_bounds : goal.runs_swept-requires-after_bounds
runs_swept-requires-after_bounds g c = λ κs bounds.
    let of = c.requires.of in
    subst (λ (r : RunsBy). AreAccepted r.trees) (sym (c.new-runs-2.ensures ∙ c.new-runs.ensures)) (of.files, of.accepted)

pub returns : goal.returns
returns g c =
    let task = c.args.task in
    let options = task.options.now in
    let sweep = task.sweep.now in
    let runs_swept = c.in_ok-swept.swept in
    let swept = runs_swept.report in
    let lines = runs_swept.lines.items in
    let schedules = map vec_items c.in_ok-schedules.schedules.items in
    let told = recorded_as c.limits-limits.result (record_form task.given options.as_version) (map vec_items c.args.files.now) in
    let by : SeededPolicy → ℕ → RunsBy = λ policy budget. record { policy = policy; trees = arc_value c.args.verified.now; limits = c.limits-limits.result; budget = budget } in
    let runs : c.new-runs-2.result ≡ by (seeded_policy sweep.policy) (unwrap_or options.options.budget 10000000) =
    c.new-runs-2.ensures
    ∙ (c.new-runs.ensures
    ∙ (ap (λ p. by p c.sweep_budget-budget.result) c.seeded_policy-policy.ensures
    ∙ ap (by (seeded_policy sweep.policy)) c.sweep_budget-budget.ensures))
    in
    record {
      limits = c.limits-limits.result;
      chosen = c.limits-limits.ensures;
      swept = swept;
      lines = lines;
      sweeps = subst (λ (r : RunsBy). SweepsBy sweep.for_race r (g.P.Watch.may_stop c.args.watch.now) task.wanted.now sweep.seeds.first sweep.seeds.last swept lines) runs
          c.in_ok-swept.ensures;
      told =
          c.in_ok-text.ensures
          ∙ (ap (λ p. lines ++ sweep_text p swept.first c.as_str.result.now swept.tally swept.end) c.seeded_policy-policy.ensures
          ∙ ap (λ (words : List ℕ). lines ++ sweep_text (seeded_policy sweep.policy) swept.first words swept.tally swept.end) (c.as_str.ensures.value ∙ c.in_ok-words.ensures));
      spelled =
          subst (λ (same : List Same). AreOutcomeFiles (is_some options.record) told same schedules) c.same-same.ensures
          (subst (λ (asked : Bool). AreOutcomeFiles asked told (map same_in c.same-same.result.now) schedules) c.is_some-is_recorded.ensures c.in_ok-schedules.ensures);
      ended = c.of_sweep-status.ensures;
    }
