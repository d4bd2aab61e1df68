use Rattle.std.proofs.Common.{arith, map, refl, subst, sym, vec_items}
use Rattle.std.specs.Prelude.{IfOk, IfSome, IsTrue, is_some}
use Rattle.std.specs.Option.{option_map}
use Rattle.schedule.specs.Joined.{RecordedFile}
use Rattle.engines.specs.Continuations.{whole_budget}
use Rattle.engines.specs.RecordForms.{record_form, recorded_as}
use Rattle.std.proofs.lemmas.List.{length-map}
use Rattle.std.specs.Arc.{arc_value}
use Rattle.model.specs.Schedule.{events_of}
use Rattle.program_runs.specs.continued_runs.Continuing.{GoesOn}
use Rattle.program_runs.specs.declared.continued_runs.run.Continued.TheVariants.{Whole, Part}
use Rattle.engines.proofs.RunLemmas.{by_three, few_files}
use Rattle.engines.proofs.continuing.ran_on.Goals as goal

pub outcome_of-requires : goal.outcome_of-requires
outcome_of-requires g c = omega (arith, few_files (map vec_items c.args.files.now) (arc_value c.args.verified) c.requires, length-map c.args.files.now vec_items)

pub outcome_of-requires-in-Part : goal.outcome_of-requires-in-Part
outcome_of-requires-in-Part g c = omega (arith, few_files (map vec_items c.args.files.now) (arc_value c.args.verified) c.requires, length-map c.args.files.now vec_items)

pub returns-in-Whole-clause-run : goal.returns-in-Whole-clause-run
returns-in-Whole-clause-run g c =
    let events = events_of c.args.schedule.now in
    let goes = subst (λ budget. GoesOn (arc_value c.args.verified) events c.args.limits budget c.in_ok-run.field-0) c.budget.ensures c.in_ok-run.ensures in
    let run = c.in-Whole.run' in
    by_three c.outcome_of.result _ _ _ _ (λ outcome told ended spelled bytes options gives_up same opened past. record {
      trees = arc_value c.args.verified;
      events = events;
      limits = c.args.limits;
      gives_up = gives_up;
      opened = opened;
      continued = Whole run;
      goes_on = subst (GoesOn (arc_value c.args.verified) events c.args.limits (whole_budget c.args.then_run.now)) c.in-Whole.is goes;
      report = run.report;
      end = run.end;
      whole = events_of run.schedule;
      comes_to = (refl, refl, refl);
      told = told;
      ended = ended;
      goes_past = past;
      spelled =
          subst (λ n. IfSome (option_map vec_items outcome.file) (λ file. RecordedFile file (recorded_as c.args.limits (record_form n c.args.then_run.now.as_version) (map vec_items c.args.files.now)) (events_of run.schedule)))
          (sym same) spelled;
    }) c.outcome_of.ensures.told c.outcome_of.ensures.ended c.outcome_of.ensures.spelled

pub returns-in-Part-clause-run : goal.returns-in-Part-clause-run
returns-in-Part-clause-run g c =
    let events = events_of c.args.schedule.now in
    let goes = subst (λ budget. GoesOn (arc_value c.args.verified) events c.args.limits budget c.in_ok-run.field-0) c.budget.ensures c.in_ok-run.ensures in
    by_three c.outcome_of-in-Part.result _ _ _ _ (λ outcome told ended spelled bytes options gives_up same opened past. record {
      trees = arc_value c.args.verified;
      events = events;
      limits = c.args.limits;
      gives_up = gives_up;
      opened = opened;
      continued = Part c.in-Part.report c.in-Part.end;
      goes_on = subst (GoesOn (arc_value c.args.verified) events c.args.limits (whole_budget c.args.then_run.now)) c.in-Part.is goes;
      report = c.in-Part.report;
      end = c.in-Part.end;
      whole = events;
      comes_to = (refl, refl, refl);
      told = told;
      ended = ended;
      goes_past = past;
      spelled =
          subst (λ n. IfSome (option_map vec_items outcome.file) (λ file. RecordedFile file (recorded_as c.args.limits (record_form n c.args.then_run.now.as_version) (map vec_items c.args.files.now)) events)) (sym same)
          spelled;
    }) c.outcome_of-in-Part.ensures.told c.outcome_of-in-Part.ensures.ended c.outcome_of-in-Part.ensures.spelled

pub returns-in-Whole-clause-asked : goal.returns-in-Whole-clause-asked
returns-in-Whole-clause-asked g c =
    subst (λ recorded. IfOk c.outcome_of.result (λ outcome. IsTrue recorded → IsTrue (is_some outcome.file))) c.is_some-is_recorded.ensures c.outcome_of.ensures.asked

pub returns-in-Part-clause-asked : goal.returns-in-Part-clause-asked
returns-in-Part-clause-asked g c =
    subst (λ recorded. IfOk c.outcome_of-in-Part.result (λ outcome. IsTrue recorded → IsTrue (is_some outcome.file))) c.is_some-is_recorded.ensures c.outcome_of-in-Part.ensures.asked
