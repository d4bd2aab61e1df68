-- A replay of a record that doesn't want memory does all its events, so its races are those of the run.
use Rattle.std.proofs.Common.{◌≡◌, ◌⊎◌, ◌++◌, ◌∙◌, ℕ, true, false, List, [], ◌∷◌, Some, None, inl, inr, ap, refl, subst, sym}
use Rattle.std.specs.Prelude.{IsTrue, IsFalse}
use Rattle.std.specs.Arc.{arc_value}
use Rattle.std.proofs.lemmas.List.{append-nil}
use Rattle.model.specs.declared.end.End.{End}
use Rattle.model.specs.declared.end.End.TheVariants as ends
use Rattle.model.specs.declared.event.Event.{Event}
use Rattle.model.specs.declared.limits.Limits.{Limits}
use Rattle.model.specs.declared.report.Report.{Report}
use Rattle.model.specs.Accepted.{IsAccepted}
use Rattle.model.specs.Classes.{Program}
use Rattle.model.specs.LimitStands.{Bounds}
use Rattle.model.specs.Schedule.{events_of}
use Rattle.model.specs.State.{State}
use Rattle.data_races.specs.Races.{HasRace}
use Rattle.machine.specs.machine_replay.Replays.{EndFits, IsReplay}
use Rattle.program_runs.specs.declared.worlds.records.Recorded.{Recorded}
use Rattle.program_runs.specs.recorded_replays.Same.{DoRecordsReplay, ShowTheSame, WantsMemory, end_of_replay}
use Rattle.program_runs.specs.worlds.Records.{IsRecorded}
use Rattle.run_races.specs.declared.told_races.Race.{Race}
use Rattle.run_races.specs.named_races.Named.{AreRaces}
use Rattle.race_runs.specs.declared.raced_runs.RacedRun.{RacedRun}
use Rattle.race_runs.specs.raced_runs.Raced.{IsRacedRun, is_any}
use Rattle.recorded_races.specs.record_races.Told.{AreRacesTold, WasRecorded}

-- ---- all events were done

module _ (trees : Program) (bounds : Bounds) (state : State) (front left : List Event) where
  at_end : (end is : End) → end ≡ is → EndFits trees bounds state front left end → EndFits trees bounds state front left is
  at_end end is e = subst (EndFits trees bounds state front left) e

  none_left : (recorded end : End) → end ≡ end_of_replay recorded → EndFits trees bounds state front left end → left ≡ []
  none_left ends.Quiet end e fits = (at_end end ends.Quiet e fits).0
  none_left ends.Schedule end e fits = (at_end end ends.Schedule e fits).0
  none_left (ends.NotEnabled i) end e fits = (at_end end ends.Schedule e fits).0
  none_left (ends.Refused i why) end e fits = (at_end end ends.Schedule e fits).0
  none_left ends.Budget end e fits = (at_end end ends.Schedule e fits).0

all_done : DoRecordsReplay → (files : List (List ℕ)) (trees : Program) → IsAccepted files trees → (limits : Limits) (budget : ℕ) (events : List Event)
    → (recorded : Report) (end : End) → IsRecorded trees limits budget events recorded end
    → (replayed : Report) (its_end : End) (replay : IsReplay trees events limits replayed its_end) → (WantsMemory its_end → ⊥) → replay.front ≡ events
all_done replays files trees accepted limits budget events recorded end is replayed its_end replay never = by (replays files trees accepted limits budget events recorded end is replayed its_end replay)
  where
    by : WantsMemory its_end ⊎ (ShowTheSame replayed recorded × (its_end ≡ end_of_replay end)) → replay.front ≡ events
    by (inl wants) = absurd (never wants)
    by (inr same) =
        let none = none_left trees _ replay.state replay.front replay.left end its_end same.1 replay.ended in
        sym (replay.events_are ∙ ap (λ l. replay.front ++ l) none ∙ append-nil replay.front)

-- ---- their races

is_raced : (trees : Program) (frames : ℕ) (events : List Event) (told : List Race) → AreRaces trees frames events told → IsTrue (is_any told)
    → HasRace trees frames events
is_raced trees frames events [] are any = let bad : false ≡ true = any in absurd cc
is_raced trees frames events (race ∷ races) are any = let is = are.each 0 race refl in (is.i, is.j, is.is)

is_free : (trees : Program) (frames : ℕ) (events : List Event) (told : List Race) → AreRaces trees frames events told → IsFalse (is_any told)
    → HasRace trees frames events → ⊥
is_free trees frames events [] are none race =
    let second = are.all race.0 race.1 race.2 in
    let bad : None ≡ Some second.race = second.at in
    absurd cc
is_free trees frames events (first ∷ races) are none race = let bad : true ≡ false = none in absurd cc

pub races_told : DoRecordsReplay → (r : Recorded) → WasRecorded r → (run : RacedRun) → IsRacedRun (arc_value r.verified) (events_of r.schedule) r.limits run
    → (WantsMemory run.end → ⊥) → AreRacesTold (arc_value r.verified) r.limits.frames (events_of r.schedule) run.lines.items run.has_race
races_told replays r was run is never =
    let trees = arc_value r.verified in
    let events = events_of r.schedule in
    let whole = all_done replays was.files trees was.accepted r.limits was.budget events r.report r.end was.recorded run.report run.end is.replay never in
    let are : AreRaces trees r.limits.frames events is.told = subst (λ (l : List Event). AreRaces trees r.limits.frames l is.told) whole is.races in
    record {
      races = is.told;
      told = are;
      spelled = is.spelled;
      raced = λ any. is_raced trees r.limits.frames events is.told are (sym is.has_race ∙ any);
      free = λ none race. is_free trees r.limits.frames events is.told are (sym is.has_race ∙ none) race;
    }
