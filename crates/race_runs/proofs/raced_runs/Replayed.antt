-- A machine that has gone through a schedule with a finder beside it has replayed it, and its races are told.
use Rattle.std.proofs.Common.{◌≡◌, ℕ, List, [], ◌∷◌, Some, false, suc, length, arith, refl, sym, ap, subst, ◌∙◌}
use Rattle.std.specs.Prelude.{not, ◌==◌}
use Rattle.std.proofs.lemmas.Bool.Decides.{nat_tests}
use Rattle.model.specs.declared.end.End.{End}
use Rattle.model.specs.declared.event.Event.{Event}
use Rattle.model.specs.declared.limits.Limits.{Limits}
use Rattle.model.specs.declared.report.Report.{Report}
use Rattle.model.specs.Classes.{Program}
use Rattle.model.specs.LimitStands.{bounds_of}
use Rattle.model.specs.State.{StateOf}
use Rattle.run_laws.specs.soundness.Runs.{IsNoEventWrong}
use Rattle.run_laws.specs.word_reports.Reports.{AreReportsOfWords}
use Rattle.machine.specs.declared.machine.Stopped.{Stopped}
use Rattle.machine.specs.Machines.{MachineOf}
use Rattle.machine.specs.schedule_runs.Done.{HasGone}
use Rattle.machine.specs.machine_replay.Replays.{EndFits, IsReplay}
use Rattle.machine.specs.machine_replay.Shown.{IsOpened, Tells}
use Rattle.machine.proofs.machine_replay.Replayed.{fits, operands_found, told_of}
use Rattle.race_places.specs.named_actions.Names.{AreApart}
use Rattle.field_names.specs.named_fields.Fields.{names_of}
use Rattle.run_races.specs.declared.told_races.Race.{Race}
use Rattle.run_races.specs.race_finder.Found.{HasWatched}
use Rattle.run_races.specs.named_races.Named.{AreRacesNamed}
use Rattle.race_runs.specs.declared.finder.Finder.{Finder}
use Rattle.race_runs.specs.declared.raced_runs.RacedRun.{RacedRun}
use Rattle.race_runs.specs.race_lines.Lines.{AreRaceLines}
use Rattle.race_runs.specs.raced_runs.Going.{HasRaced, HasRacedOn, RacesThrough}
use Rattle.race_runs.specs.raced_runs.Raced.{IsRacedRun, is_any}

pub any_told : (told : List Race) → not (length told == 0) ≡ is_any told
any_told [] = refl
any_told (race ∷ told) = let some : (suc (length told) == 0) ≡ false = grind (arith, nat_tests) in ap not some

-- the events that were done, as a replay
module _ (files : List (List ℕ)) (trees : Program) (m : MachineOf) (schedule : List Event) (n : ℕ) (why : Stopped) (r : Report) (end : End)
    (reported : AreReportsOfWords) (sound : IsNoEventWrong) (gone : HasGone m files trees [] schedule n why) (tells : Tells trees m n why r end) where
  abbrev replayed : IsReplay trees schedule m.limits r end
  replayed =
      let has = gone.done.run in
      let state = has.lead.state in
      let same = reported files trees gone.done.accepted.linkable m.limits.frames has.at state has.lead.are in
      let on = tells.reports (bounds_of m.limits) _ has.at gone.done.program has.shown in
      let quiet = tells.quiet_is trees m.limits.frames has.at on.threads ∙ same.quiet in
      record {
        front = gone.front;
        left = gone.left;
        events_are = gone.schedule_is;
        state = state;
        reached = has.lead.reached;
        within = has.lead.within;
        printed = on.printed ∙ ap (λ (w : StateOf ℕ). w.world.printed) has.lead.are.are;
        threads = on.threads ∙ same.ends;
        count = on.count ∙ gone.count;
        means = same.report gone.front end has.lead.reached ∙ ap Some (told_of trees m.limits.frames has.at gone.front n r gone.count on end);
        ended = subst (EndFits trees (bounds_of m.limits) state gone.front gone.left) (sym tells.end_is)
            (fits trees (bounds_of m.limits) state gone.front why n tells.quiet gone.left gone.count quiet gone.ends);
        found = operands_found sound files trees gone.done.accepted m.limits.frames schedule;
      }

module _ (trees : Program) (old new : MachineOf) (before after : Finder) (schedule : List Event) (result : ℕ × Stopped) (r : RacedRun)
    (reported : AreReportsOfWords) (sound : IsNoEventWrong) (named : AreRacesNamed) (apart : AreApart (names_of trees)) (opened : IsOpened trees old.limits old)
    (tables : before.tables.linked.now ≡ trees) (none : HasWatched [] before.races.detector before.races.told.races.keys)
    (goes : RacesThrough result schedule old new before after) (tells : Tells trees new result.0 result.1 r.report r.end)
    (any : r.has_race ≡ is_any after.races.told.races.keys) (spelled : AreRaceLines trees after.races.told.races.keys r.lines.items) where
  began : HasRaced opened.files trees old before []
  began = record { done = opened.done; tables = tables; run = []; of_run = tt; watched = none }

  on : HasRacedOn opened.files trees [] schedule new after result.0 result.1
  on = goes.1 opened.files trees [] began

  -- the replay, and the races of the events that it did
  pub is_raced_run : IsRacedRun trees schedule old.limits r
  is_raced_run =
      subst (λ (l : Limits). IsRacedRun trees schedule l r) (ap (λ (m : MachineOf). m.limits) goes.0)
      (record {
        replay = replayed opened.files trees new schedule result.0 result.1 r.report r.end reported sound on.gone tells;
        told = after.races.told.races.keys;
        races = named trees new.limits.frames on.gone.front apart on.raced.run on.raced.of_run after.races.told.races.keys on.raced.watched.told;
        has_race = any;
        spelled = spelled;
      })
