-- The races that are computed are those of the run.
use Rattle.std.proofs.Common.{◌≡◌, sym, subst, ℕ, List}
use Rattle.model.specs.declared.event.Event.{Event}
use Rattle.model.specs.Classes.{Program}
use Rattle.data_races.specs.Races.{actions_of_run, memory_order}
use Rattle.data_races.specs.RaceTest.{races_of}
use Rattle.data_races.specs.race_examples.Raced.{frames, events_at, AreRacing, racing_events}
use Rattle.data_races.proofs.Decided.{In, in_map, from_map, has_from_in, in_from_at, races_only, races_each}

pub raced : (files : Program) (events : List Event) (pairs : List (ℕ × ℕ)) → racing_events files events ≡ pairs → AreRacing files events pairs
raced files events pairs is =
    let run = actions_of_run files frames events in
    let found = races_of (memory_order files) run in
    record {
      each = λ i j race.
          has_from_in (events_at run (i, j)) pairs
          (subst (λ (ps : List (ℕ × ℕ)). In (events_at run (i, j)) ps) is (in_map (events_at run) (i, j) found (races_each (memory_order files) run i j race)));
      only = λ pair h.
          let g = from_map (events_at run) pair found (subst (λ (ps : List (ℕ × ℕ)). In pair ps) (sym is) (in_from_at pair pairs h.0 h.1)) in
          (g.0.0, g.0.1, races_only (memory_order files) run g.0 g.1, g.2);
    }
