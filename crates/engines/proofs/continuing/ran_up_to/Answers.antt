use Rattle.std.proofs.Common.{◌<◌, ◌^◌, arith, length, map, subst, sym, vec_items}
use Rattle.std.specs.Prelude.{IfSome}
use Rattle.std.specs.Arc.{arc_value}
use Rattle.std.specs.Option.{option_map}
use Rattle.std.proofs.lemmas.List.{length-map}
use Rattle.machine.specs.machine_replay.Replays.{IsReplay}
use Rattle.model.specs.Classes.{Program}
use Rattle.model.specs.Schedule.{events_of}
use Rattle.schedule.specs.Joined.{RecordedFile}
use Rattle.engines.specs.RecordForms.{record_form, recorded_as}
use Rattle.engines.proofs.RunLemmas.{few_files}
use Rattle.engines.proofs.TheoremLemmas.{replay_is}
use Rattle.engines.proofs.continuing.ran_up_to.Goals as goal

pub recorded_file-requires : goal.recorded_file-requires
recorded_file-requires g c =
    let given = c.args.opened.now in
    subst (λ all. length all < 2 ^ 32) (sym c.as_slice.ensures.value)
    (omega (arith, few_files (map vec_items given.files.items) (arc_value given.verified) c.requires, length-map given.files.items vec_items))

pub returns-clause-run : goal.returns-clause-run
returns-clause-run g c = λ bytes options same opened few.
    let given = c.args.opened.now in
    let events = events_of given.schedule in
    let ran = c.in_ok-report in
    let version = c.args.then_run.now.as_version in
    let over = subst (λ all. IfSome (option_map vec_items c.in_ok-file.file) (λ file. RecordedFile file (recorded_as given.limits (record_form c.args.given version) (map vec_items all)) events))
    c.as_slice.ensures.value c.in_ok-file.ensures.spelled in
    record {
      trees = arc_value given.verified;
      events = events;
      limits = given.limits;
      opened = opened;
      few = few;
      report = ran.report;
      end = ran.end;
      replayed =
          replay_is (arc_value given.verified) events given.limits ran.report ran.end
          (subst (λ (t : Program). IsReplay t events given.limits ran.report ran.end) c.deref.ensures ran.ensures);
      told = c.in_ok-text.ensures.text;
      ended = c.in_ok-text.ensures.status;
      spelled =
          subst (λ n. IfSome (option_map vec_items c.in_ok-file.file) (λ file. RecordedFile file (recorded_as given.limits (record_form n version) (map vec_items given.files.items)) events))
          (sym same) over;
    }
