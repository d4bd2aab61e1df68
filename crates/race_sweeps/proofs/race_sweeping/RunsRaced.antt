-- Runs of a sweep for a race, one after another.
use Rattle.std.proofs.Common.{◌≡◌, ◌≤◌, ◌<◌, ◌+◌, ◌^◌, ℕ, suc, Bool, true, false, List, [], ◌∷◌, ◌++◌, length, refl, sym, ap, subst, ◌∙◌, arith, add-zero}
use Rattle.std.specs.Prelude.{IsTrue}
use Rattle.std.specs.Arc.{arc_value}
use Rattle.std.proofs.lemmas.List.{length-append}
use Rattle.model.specs.declared.limits.Limits.{Limits}
use Rattle.model.specs.Accepted.{IsAccepted}
use Rattle.model.specs.Classes.{Program}
use Rattle.model.specs.Schedule.{events_of}
use Rattle.program_runs.specs.declared.worlds.records.Recorded.{Recorded}
use Rattle.program_runs.specs.worlds.Records.{IsRecorded}
use Rattle.recorded_races.specs.declared.record_races.RecordRaces.{RecordRaces}
use Rattle.recorded_races.specs.record_races.Told.{AreRacesTold, WasRecorded}
use Rattle.sweeps.specs.declared.shown.Ran.{Ran}
use Rattle.sweeps.specs.declared.sweeping.SweepEnd.{SweepEnd}
use Rattle.sweeps.specs.declared.sweeping.SweepEnd.TheVariants as ends
use Rattle.sweeps.specs.Policies.{IsRunWith, RunsBy}
use Rattle.sweeps.specs.Shown.{shown_by, shown_in}
use Rattle.sweeps.specs.Sweeps.{AreRuns}
use Rattle.sweeps.specs.Tallies.{TallyOf, tally_of, with_run}
use Rattle.sweeps.proofs.Tallying.{one_more}
use Rattle.race_sweeps.specs.declared.race_sweeping.RaceSweep.{RaceSweep}
use Rattle.race_sweeps.specs.race_sweeping.Swept.{AreAccepted, EndsAtRace, HasRacedRun, NoneRaces, Races, SweepsForRace, TellsRaces, last_end}

-- ---- one run

pub was_recorded : (by : RunsBy) (seed : ℕ) (r : Recorded) → AreAccepted by.trees → IsRunWith by seed r → WasRecorded r
was_recorded by seed r accepted is =
    let of = is.recorded in
    record {
      files = accepted.0;
      accepted = subst (λ (t : Program). IsAccepted accepted.0 t) (sym of.0) accepted.1;
      budget = by.budget;
      recorded = subst (λ (t : Program). IsRecorded t r.limits by.budget (events_of r.schedule) r.report r.end) (sym of.0)
          (subst (λ (l : Limits). IsRecorded by.trees l by.budget (events_of r.schedule) r.report r.end) (sym of.1) of.3);
    }

pub has_raced_run : (by : RunsBy) (seed : ℕ) (old new : TallyOf) (r : Recorded) (ran : Ran) (told : RecordRaces) → IsRunWith by seed r
    → shown_in ran.shown ≡ shown_by r → events_of ran.schedule ≡ events_of r.schedule → ran.events ≡ r.report.events
    → new ≡ with_run (shown_in ran.shown) (events_of ran.schedule) ran.events seed old
    → AreRacesTold (arc_value r.verified) r.limits.frames (events_of r.schedule) told.lines.items told.has_race → HasRacedRun by seed told old new
has_raced_run by seed old new r ran told is shown events count e races =
    record {
      run = r;
      is = is;
      counted =
          e
          ∙ (ap (λ s. with_run s (events_of ran.schedule) ran.events seed old) shown
          ∙ (ap (λ l. with_run (shown_by r) l ran.events seed old) events ∙ ap (λ n. with_run (shown_by r) (events_of r.schedule) n seed old) count));
      races = subst (λ (t : Program). AreRacesTold t by.limits.frames (events_of r.schedule) told.lines.items told.has_race) is.recorded.0
          (subst (λ (l : Limits). AreRacesTold (arc_value r.verified) l.frames (events_of r.schedule) told.lines.items told.has_race) is.recorded.1 races);
    }

-- of what runs are stays
pub raced_run_by : (one other : RunsBy) → one ≡ other → {seed : ℕ} {told : RecordRaces} {old new : TallyOf} → HasRacedRun one seed told old new → HasRacedRun other seed told old new
raced_run_by one other same {seed} {told} {old} {new} h = subst (λ (by : RunsBy). HasRacedRun by seed told old new) same h

-- ---- those before it

-- so many runs have been done, none of which has a race
pub record HasSweptFree (by : RunsBy) (first seed : ℕ) (t : TallyOf) : Type 0 where
  pub runs : List Recorded
  pub are : AreRuns (IsRunWith by) first runs
  pub count : first + length runs ≡ seed
  pub tally_is : t ≡ tally_of first runs
  pub none : NoneRaces by runs

pub begins : (by : RunsBy) (first : ℕ) (t : TallyOf) → t ≡ tally_of first [] → HasSweptFree by first first t
begins by first t e = record { runs = []; are = tt; count = add-zero first; tally_is = e; none = tt }

runs_with : (by : RunsBy) (first : ℕ) (runs : List Recorded) (r : Recorded) → AreRuns (IsRunWith by) first runs → IsRunWith by (first + length runs) r
    → AreRuns (IsRunWith by) first (runs ++ r ∷ [])
runs_with by first [] r h is = (subst (λ n. IsRunWith by n r) (add-zero first) is, tt)
runs_with by first (x ∷ runs) r h is =
    let number : first + suc (length runs) ≡ suc first + length runs = omega arith in
    (h.0, runs_with by (suc first) runs r h.1 (subst (λ n. IsRunWith by n r) number is))

none_with : (by : RunsBy) (runs : List Recorded) (r : Recorded) → NoneRaces by runs → (Races by r → ⊥) → NoneRaces by (runs ++ r ∷ [])
none_with by [] r h lacks = (lacks, tt)
none_with by (x ∷ runs) r h lacks = (h.0, none_with by runs r h.1 lacks)

pub few_runs : (by : RunsBy) (first seed : ℕ) (t : TallyOf) → HasSweptFree by first seed t → seed < 2 ^ 64 → t.runs < 2 ^ 64
few_runs by first seed t h less = let runs : t.runs ≡ length h.runs = ap (λ (x : TallyOf). x.runs) h.tally_is in omega (arith, runs, h.count, less)

-- ---- what a sweep comes to

module _ (by : RunsBy) (first seed : ℕ) (told : RecordRaces) (old new : TallyOf) (h : HasSweptFree by first seed old) (one : HasRacedRun by seed told old new) where
  are_more : AreRuns (IsRunWith by) first (h.runs ++ one.run ∷ [])
  are_more = runs_with by first h.runs one.run h.are (subst (λ n. IsRunWith by n one.run) (sym h.count) one.is)

  tally_more : new ≡ tally_of first (h.runs ++ one.run ∷ [])
  tally_more =
      one.counted
      ∙ (ap (with_run (shown_by one.run) (events_of one.run.schedule) one.run.report.events seed) h.tally_is
      ∙ (ap (λ n. with_run (shown_by one.run) (events_of one.run.schedule) one.run.report.events n (tally_of first h.runs)) (sym h.count) ∙ one_more first h.runs one.run))

  pub swept_on : told.has_race ≡ false → HasSweptFree by first (seed + 1) new
  swept_on free =
      record {
        runs = h.runs ++ one.run ∷ [];
        are = are_more;
        count = let count : length (h.runs ++ one.run ∷ []) ≡ length h.runs + 1 = length-append h.runs (one.run ∷ []) in omega (arith, count, h.count);
        tally_is = tally_more;
        none = none_with by h.runs one.run h.none (one.races.free free);
      }

  module _ (may_stop : Bool) (last : ℕ) (s : RaceSweep) (first_is : s.report.first ≡ first) (tally_is : s.report.tally ≡ new) (races_are : s.races ≡ told) where
    ended : (end : SweepEnd) → s.report.end ≡ end → EndsAtRace end may_stop (first + length h.runs) last (Races by one.run) → SweepsForRace by may_stop first last s
    ended end end_is so =
        record {
          before = h.runs;
          run = one.run;
          are = are_more;
          none = h.none;
          first_is = first_is;
          tally_is = tally_is ∙ tally_more;
          races = subst (TellsRaces by one.run) (sym races_are) one.races;
          ends = subst (λ (e : SweepEnd). EndsAtRace e may_stop (first + length h.runs) last (Races by one.run)) (sym end_is) so;
        }

    pub found_by : told.has_race ≡ true → seed ≤ last → s.report.end ≡ ends.Found → SweepsForRace by may_stop first last s
    found_by it le end_is = ended ends.Found end_is (omega (arith, h.count, le), one.races.raced it)

    pub gave_up_by : told.has_race ≡ false → seed < last → IsTrue may_stop → s.report.end ≡ ends.GaveUp → SweepsForRace by may_stop first last s
    gave_up_by it less may end_is = ended ends.GaveUp end_is (may, omega (arith, h.count, less), one.races.free it)

    pub last_by : seed ≡ last → s.report.end ≡ last_end told.has_race → SweepsForRace by may_stop first last s
    last_by all end_is = by_race told.has_race refl
      where
        by_race : (x : Bool) → told.has_race ≡ x → SweepsForRace by may_stop first last s
        by_race true it = found_by it (omega (arith, all)) (end_is ∙ ap last_end it)
        by_race false it = ended ends.Done (end_is ∙ ap last_end it) (h.count ∙ all, one.races.free it)
