-- Runs of a sweep, one after another.
use Rattle.std.proofs.Common.{◌≡◌, ◌≤◌, ◌<◌, ◌+◌, ◌^◌, ℕ, suc, Bool, true, false, List, [], ◌∷◌, ◌++◌, length, refl, sym, ap, subst, ◌∙◌, arith, add-zero}
use Rattle.std.specs.Prelude.{IsTrue}
use Rattle.std.proofs.lemmas.List.{length-append}
use Rattle.model.specs.Schedule.{events_of}
use Rattle.program_runs.specs.declared.worlds.records.Recorded.{Recorded}
use Rattle.search.specs.declared.run_outcomes.wanted.Wanted.{Wanted}
use Rattle.sweeps.specs.declared.shown.Ran.{Ran}
use Rattle.sweeps.specs.declared.sweeping.SweepEnd.{SweepEnd}
use Rattle.sweeps.specs.declared.sweeping.SweepEnd.TheVariants as ends
use Rattle.sweeps.specs.declared.sweeping.SweepReport.{SweepReport}
use Rattle.sweeps.specs.Shown.{IsShownWanted, shown_by, shown_in}
use Rattle.sweeps.specs.Policies.{IsRunWith, RunsBy}
use Rattle.sweeps.specs.Sweeps.{AreRuns, EndsSo, HasRun, NoneShows, Shows, Sweeps, last_end}
use Rattle.sweeps.specs.Tallies.{TallyOf, tally_of, with_run}
use Rattle.sweeps.proofs.Tallying.{one_more}

-- so many runs have been done, none of which shows what is wanted
pub record HasSwept (IsRun : ℕ → Recorded → Type 0) (want : Wanted) (first seed : ℕ) (t : TallyOf) : Type 0 where
  pub runs : List Recorded
  pub are : AreRuns IsRun first runs
  pub count : first + length runs ≡ seed
  pub tally_is : t ≡ tally_of first runs
  pub none : NoneShows want runs

pub begins : (IsRun : ℕ → Recorded → Type 0) (want : Wanted) (first : ℕ) (t : TallyOf) → t ≡ tally_of first [] → HasSwept IsRun want first first t
begins IsRun want first t e = record { runs = []; are = tt; count = add-zero first; tally_is = e; none = tt }

runs_with : (IsRun : ℕ → Recorded → Type 0) (first : ℕ) (runs : List Recorded) (r : Recorded) → AreRuns IsRun first runs → IsRun (first + length runs) r
    → AreRuns IsRun first (runs ++ r ∷ [])
runs_with IsRun first [] r h is = (subst (λ n. IsRun n r) (add-zero first) is, tt)
runs_with IsRun first (x ∷ runs) r h is =
    let number : first + suc (length runs) ≡ suc first + length runs = omega arith in
    (h.0, runs_with IsRun (suc first) runs r h.1 (subst (λ n. IsRun n r) number is))

none_with : (want : Wanted) (runs : List Recorded) (r : Recorded) → NoneShows want runs → (Shows want r → ⊥) → NoneShows want (runs ++ r ∷ [])
none_with want [] r h lacks = (lacks, tt)
none_with want (x ∷ runs) r h lacks = (h.0, none_with want runs r h.1 lacks)

module _ (IsRun : ℕ → Recorded → Type 0) (want : Wanted) (first seed : ℕ) (old new : TallyOf) (h : HasSwept IsRun want first seed old) (r : Recorded) (is : IsRun seed r)
    (e : new ≡ with_run (shown_by r) (events_of r.schedule) r.report.events seed old) where
  pub are_more : AreRuns IsRun first (h.runs ++ r ∷ [])
  are_more = runs_with IsRun first h.runs r h.are (subst (λ n. IsRun n r) (sym h.count) is)

  pub tally_more : new ≡ tally_of first (h.runs ++ r ∷ [])
  tally_more =
      e
      ∙ (ap (with_run (shown_by r) (events_of r.schedule) r.report.events seed) h.tally_is
      ∙ (ap (λ n. with_run (shown_by r) (events_of r.schedule) r.report.events n (tally_of first h.runs)) (sym h.count) ∙ one_more first h.runs r))

  pub goes_on : (Shows want r → ⊥) → HasSwept IsRun want first (seed + 1) new
  goes_on lacks = record {
    runs = h.runs ++ r ∷ [];
    are = are_more;
    count = let count : length (h.runs ++ r ∷ []) ≡ length h.runs + 1 = length-append h.runs (r ∷ []) in omega (arith, count, h.count);
    tally_is = tally_more;
    none = none_with want h.runs r h.none lacks;
  }

-- ---- a run, as it is told of

module _ (IsRun : ℕ → Recorded → Type 0) (want : Wanted) (seed : ℕ) (old new : TallyOf) (r : Recorded) (ran : Ran) (is : IsRun seed r)
    (shown : shown_in ran.shown ≡ shown_by r) (events : events_of ran.schedule ≡ events_of r.schedule) (count : ran.events ≡ r.report.events)
    (e : new ≡ with_run (shown_in ran.shown) (events_of ran.schedule) ran.events seed old)
    (b : Bool) (wanted : (IsTrue b → IsShownWanted want (shown_in ran.shown)) × (IsShownWanted want (shown_in ran.shown) → IsTrue b)) where
  pub has_run : HasRun IsRun want seed b old new
  has_run = record {
    run = r;
    is = is;
    counted =
        e
        ∙ (ap (λ s. with_run s (events_of ran.schedule) ran.events seed old) shown
        ∙ (ap (λ l. with_run (shown_by r) l ran.events seed old) events ∙ ap (λ n. with_run (shown_by r) (events_of r.schedule) n seed old) count));
    shows = λ it. subst (IsShownWanted want) shown (wanted.0 it);
    lacks = λ it shows. let is_so : b ≡ true = wanted.1 (subst (IsShownWanted want) (sym shown) shows) in let bad : true ≡ false = sym is_so ∙ it in cc;
  }

-- of what runs are stays
pub has_run_by : (one other : RunsBy) → one ≡ other → {want : Wanted} {seed : ℕ} {b : Bool} {old new : TallyOf} → HasRun (IsRunWith one) want seed b old new
    → HasRun (IsRunWith other) want seed b old new
has_run_by one other same {want} {seed} {b} {old} {new} h = subst (λ (by : RunsBy). HasRun (IsRunWith by) want seed b old new) same h

-- ---- what a sweep comes to

module _ (IsRun : ℕ → Recorded → Type 0) (may_stop : Bool) (want : Wanted) (first last seed : ℕ) (old new : TallyOf) (h : HasSwept IsRun want first seed old)
    (b : Bool) (one : HasRun IsRun want seed b old new) where
  pub swept_on : b ≡ false → HasSwept IsRun want first (seed + 1) new
  swept_on it = goes_on IsRun want first seed old new h one.run one.is one.counted (one.lacks it)

  module _ (report : SweepReport) (first_is : report.first ≡ first) (tally_is : report.tally ≡ new) where
    pub found_by : b ≡ true → seed ≤ last → report.end ≡ ends.Found → Sweeps IsRun may_stop want first last report
    found_by it le end_is = record {
      runs = h.runs ++ one.run ∷ [];
      are = are_more IsRun want first seed old new h one.run one.is one.counted;
      first_is = first_is;
      tally_is = tally_is ∙ tally_more IsRun want first seed old new h one.run one.is one.counted;
      ends = subst (λ (end : SweepEnd). EndsSo end may_stop want first last (h.runs ++ one.run ∷ [])) (sym end_is)
          (h.runs, one.run, refl, omega (arith, h.count, le), h.none, one.shows it);
    }

    count_more : length (h.runs ++ one.run ∷ []) ≡ length h.runs + 1
    count_more = length-append h.runs (one.run ∷ [])

    pub gave_up_by : b ≡ false → seed < last → IsTrue may_stop → report.end ≡ ends.GaveUp → Sweeps IsRun may_stop want first last report
    gave_up_by it less may end_is = record {
      runs = h.runs ++ one.run ∷ [];
      are = are_more IsRun want first seed old new h one.run one.is one.counted;
      first_is = first_is;
      tally_is = tally_is ∙ tally_more IsRun want first seed old new h one.run one.is one.counted;
      ends = subst (λ (end : SweepEnd). EndsSo end may_stop want first last (h.runs ++ one.run ∷ [])) (sym end_is)
          (may, omega (arith, count_more), omega (arith, count_more, h.count, less), none_with want h.runs one.run h.none (one.lacks it));
    }

    pub done_by : b ≡ false → seed ≡ last → report.end ≡ ends.Done → Sweeps IsRun may_stop want first last report
    done_by it all end_is = record {
      runs = h.runs ++ one.run ∷ [];
      are = are_more IsRun want first seed old new h one.run one.is one.counted;
      first_is = first_is;
      tally_is = tally_is ∙ tally_more IsRun want first seed old new h one.run one.is one.counted;
      ends = subst (λ (end : SweepEnd). EndsSo end may_stop want first last (h.runs ++ one.run ∷ [])) (sym end_is)
          (omega (arith, count_more, h.count, all), none_with want h.runs one.run h.none (one.lacks it));
    }

    pub last_by : seed ≡ last → report.end ≡ last_end b → Sweeps IsRun may_stop want first last report
    last_by all end_is = by b refl
      where
        by : (x : Bool) → b ≡ x → Sweeps IsRun may_stop want first last report
        by true it = found_by it (omega (arith, all)) (end_is ∙ ap last_end it)
        by false it = done_by it all (end_is ∙ ap last_end it)

pub few_runs : (IsRun : ℕ → Recorded → Type 0) (want : Wanted) (first seed : ℕ) (t : TallyOf) → HasSwept IsRun want first seed t → seed < 2 ^ 64 → t.runs < 2 ^ 64
few_runs IsRun want first seed t h less = let runs : t.runs ≡ length h.runs = ap (λ (x : TallyOf). x.runs) h.tally_is in omega (arith, runs, h.count, less)
