-- What is told of the races of a replay, in the words of the theorem; when the engine of races answers a fault, and what is written then.
use Rattle.std.proofs.Common.{◌≡◌, ◌∙◌, ◌++◌, List, [], ◌∷◌, Option, Some, None, Bool, true, false, inl, refl, sym, ℕ}
use Rattle.std.specs.Prelude.{IsTrue, IsFalse}
use Rattle.model.specs.declared.device.DeviceFault.{DeviceFault}
use Rattle.model.specs.declared.device.DeviceFault.TheVariants as devices
use Rattle.model.specs.declared.event.Event.{Event}
use Rattle.model.specs.declared.limits.Limits.{Limits}
use Rattle.model.specs.Classes.{Program}
use Rattle.data_races.specs.Races.{HasRace}
use Rattle.run_races.specs.declared.told_races.Race.{Race}
use Rattle.run_races.specs.named_races.Named.{AreRaces}
use Rattle.race_runs.specs.declared.raced_runs.RacedRun.{RacedRun}
use Rattle.race_runs.specs.raced_runs.Raced.{IsRacedRun, is_any}
use Rattle.engines.specs.Devices.{fault_of}
use Rattle.engines.specs.GivenPlaces.{told_status, told_text}
use Rattle.engines.specs.Opening.{IsKeptBy, IsOpened}
use Rattle.engines.specs.Races.{IsUnraced, RacesPart}
use Rattle.engines.specs.Theorem.{IsRaced, raced_status}
use Rattle.engines.specs.declared.fault.Fault.{Fault}
use Rattle.engines.specs.declared.fault.Fault.TheVariants as faults
use Rattle.engines.specs.declared.recording.Conditions.{Conditions}
use Rattle.engines.specs.declared.status.Status.{Status}
use Rattle.engines.proofs.TheoremLemmas.{end_fits}

-- ---- the races of a replay

is_raced : (trees : Program) (frames : ℕ) (events : List Event) (told : List Race) → AreRaces trees frames events told → IsTrue (is_any told)
    → HasRace trees frames events
is_raced trees frames events [] are any = let bad : false ≡ true = any in absurd cc
is_raced trees frames events (race ∷ races) are any = let is = are.each 0 race refl in (is.i, is.j, is.is)

is_free : (trees : Program) (frames : ℕ) (events : List Event) (told : List Race) → AreRaces trees frames events told → IsFalse (is_any told)
    → HasRace trees frames events → ⊥
is_free trees frames events [] are none race =
    let second = are.all race.0 race.1 race.2 in
    let bad : None ≡ Some second.race = second.at in
    absurd cc
is_free trees frames events (first ∷ races) are none race = let bad : true ≡ false = none in absurd cc

pub raced : (bytes : List ℕ) (files : List (List ℕ)) (options : Conditions) (trees : Program) (events : List Event) (limits : Limits) (gives_up : Bool)
    → IsOpened bytes files options trees events limits gives_up → (run : RacedRun) → IsRacedRun trees events limits run
    → (text : List ℕ) (status : Status) → text ≡ run.lines.items ++ told_text gives_up run.report run.end
    → status ≡ raced_status (told_status gives_up run.report run.end) run.has_race → IsRaced bytes files options text status
raced bytes files options trees events limits gives_up opened run is text status text_is ended = record {
  trees = trees;
  events = events;
  limits = limits;
  gives_up = gives_up;
  opened = opened;
  report = run.report;
  end = run.end;
  replayed = record {
    done = is.replay.front;
    left = is.replay.left;
    events_are = is.replay.events_are;
    reports = record {
      state = is.replay.state;
      reached = is.replay.reached;
      within = is.replay.within;
      printed = is.replay.printed;
      threads = is.replay.threads;
      count = is.replay.count;
      means = is.replay.means;
    };
    ended = end_fits trees limits is.replay.state is.replay.front is.replay.left run.end is.replay.ended;
    found = is.replay.found;
  };
  races = is.told;
  told = is.races;
  lines = run.lines.items;
  spelled = is.spelled;
  text_is = text_is;
  has_race = run.has_race;
  raced = λ any. is_raced trees limits.frames is.replay.front is.told is.races (sym is.has_race ∙ any);
  free = λ none race. is_free trees limits.frames is.replay.front is.told is.races (sym is.has_race ∙ none) race;
  ended = ended;
}

-- ---- faults

-- nothing is written where nothing is run
pub kept_is_unraced : (fault : Fault) (left : Option (List ℕ)) (lefts : List (Option (List ℕ))) (options : Conditions)
    (held : Option (List ℕ)) → IsKeptBy left lefts options fault → IsUnraced left lefts options held held fault
kept_is_unraced faults.Device left lefts options held kept = inl refl
kept_is_unraced faults.Memory left lefts options held kept = inl refl
kept_is_unraced (faults.Schedule fault) left lefts options held kept = (refl, kept)
kept_is_unraced (faults.Text fault) left lefts options held kept = (refl, kept)
kept_is_unraced (faults.Place missing) left lefts options held kept = (refl, kept)
kept_is_unraced (faults.Refusal refusal) left lefts options held kept = (refl, kept)

-- where a device fails, or there is no memory for what it does, a part may be written
pub part_is_unraced : (fault : DeviceFault) (left : Option (List ℕ)) (lefts : List (Option (List ℕ))) (options : Conditions)
    (old new : Option (List ℕ)) → RacesPart left lefts options old new → IsUnraced left lefts options old new (fault_of fault)
part_is_unraced devices.Device left lefts options old new part = part
part_is_unraced devices.Memory left lefts options old new part = part
