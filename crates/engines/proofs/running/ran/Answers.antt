use Rattle.std.proofs.Common.{ap, arith, map, vec_items, subst, sym, ◌++◌, ◌∙◌}
use Rattle.std.proofs.lemmas.List.{length-map}
use Rattle.std.specs.Prelude.{IfSome, IsTrue, is_some, unwrap_or}
use Rattle.std.specs.Option.{option_map}
use Rattle.model.specs.Schedule.{events_of}
use Rattle.schedule.specs.Joined.{RecordedFile}
use Rattle.engines.specs.RecordForms.{record_form, recorded_as}
use Rattle.engines.specs.Stopped.{run_text}
use Rattle.engines.specs.Theorem.{raced_status}
use Rattle.engines.proofs.RacedRunLemmas.{told_before, was_recorded}
use Rattle.engines.proofs.RunLemmas.{by_one, few_files}
use Rattle.engines.proofs.TheoremLemmas.{record_is}
use Rattle.engines.proofs.running.ran.Goals as goal

pub tell_growth-requires : goal.tell_growth-requires
tell_growth-requires g c = omega (arith, few_files (map vec_items c.args.files.now) c.args.verified c.requires, length-map c.args.files.now vec_items)

pub outcome_of-requires : goal.outcome_of-requires
outcome_of-requires g c = omega (arith, few_files (map vec_items c.args.files.now) c.args.verified c.requires, length-map c.args.files.now vec_items)

pub behind_races-requires : goal.behind_races-requires
behind_races-requires g c =
    was_recorded (map vec_items c.args.files.now) c.args.verified c.requires (is_some c.args.options.now.seconds) c.limits-limits.result (unwrap_or c.args.options.now.options.budget 4294967295)
    c.in_ok-recorded.recorded c.in_ok-recorded.ensures.recorded

pub returns-clause-run : goal.returns-clause-run
returns-clause-run g c =
    let run = c.in_ok-recorded.recorded in
    let within = c.in_ok-recorded.ensures.recorded in
    let whole = c.in_ok-whole.ensures in
    let options = c.args.options.now in
    by_one c.behind_races.result _ _ (λ outcome behind. record {
      trees = c.args.verified;
      accepted = c.requires;
      limits = c.limits-limits.result;
      chosen = c.limits-limits.ensures;
      events = events_of run.schedule;
      report = run.report;
      end = run.end;
      spent = within.0;
      of_budget = within.1;
      recorded = record_is c.args.verified c.limits-limits.result within.0 (events_of run.schedule) run.report run.end within.2.3;
      as_asked = c.in_ok-recorded.ensures.as_asked;
      lines = behind.lines;
      has_race = behind.has_race;
      raced = told_before options.races c.args.verified (is_some options.seconds) c.limits-limits.result (unwrap_or options.options.budget 4294967295) run within behind.lines behind.has_race behind.raced;
      told = behind.text ∙ ap (λ l. behind.lines ++ l) (whole.told ∙ ap (λ b. run_text b run.report run.end) c.budget-budget.ensures);
      ended = behind.status ∙ ap (λ s. raced_status s behind.has_race) (whole.same.1 ∙ c.in_ok-outcome.ensures.ended);
      spelled =
          subst (λ file. IfSome (option_map vec_items file) (λ bytes. RecordedFile bytes (recorded_as c.limits-limits.result (record_form c.args.given options.as_version) (map vec_items c.args.files.now)) (events_of run.schedule)))
          (sym (behind.file ∙ whole.same.0)) c.in_ok-outcome.ensures.spelled;
    }) c.behind_races.ensures

pub returns-clause-asked : goal.returns-clause-asked
returns-clause-asked g c =
    by_one c.behind_races.result _ _
    (λ outcome behind asked. subst (λ file. IsTrue (is_some file)) (sym (behind.file ∙ c.in_ok-whole.ensures.same.0)) (c.in_ok-outcome.ensures.asked (c.is_some.ensures ∙ asked)))
    c.behind_races.ensures
