-- A world goes on by what a burst came to, or stays.
use Rattle.std.proofs.Common.{◌≡◌, ◌≤◌, ◌+◌, ℕ, List, ◌++◌, None, true, false, length, replicate, refl, sym, ap, subst}
use Rattle.model.specs.declared.event.Event.{Event}
use Rattle.model.specs.LimitStands.{bounds_of, inflated}
use Rattle.machine_state.proofs.shown_runs.Same.{shown_still}
use Rattle.machine.specs.declared.machine.Stopped.TheVariants as stopped
use Rattle.machine.specs.Machines.{MachineOf}
use Rattle.machine.specs.Tops.{plain, AdvancesTop}
use Rattle.machine.specs.schedule_runs.Done.{HasDone}
use Rattle.program_runs.specs.declared.worlds.commits.ThreadBurst.{ThreadBurst}
use Rattle.program_runs.specs.declared.worlds.commits.Commit.TheVariants as commit
use Rattle.program_runs.specs.worlds.Worlds.{WorldOf, Holds}
use Rattle.program_runs.specs.worlds.Commits.{CanCommit, Commits}
use Rattle.program_runs.proofs.worlds.Repeating.{goes_on}

-- ---- a burst

module _ (w : WorldOf) (h : Holds w) (out : ThreadBurst) (new : MachineOf) where
  abbrev t : ℕ
  t = out.thread

  abbrev k : ℕ
  k = out.burst.steps

  -- it has advanced
  module _ (none : w.end ≡ None) (room : length w.events + k ≤ w.budget) (a : AdvancesTop out.burst t true w.machine new) (events : List Event) (are : events ≡ w.events ++ replicate k (plain t)) where
    pub committed_holds : Holds (record w { events = events; machine = new })
    committed_holds = goes_on w h none (plain t) k k stopped.Most new a.1 events are room

    committed : Commits commit.Committed w out (record w { events = events; machine = new })
    committed =
        record {
          could = record { at = a.0.0; room = room; goes_on = none };
          events = are;
          top = a.0.1;
          rest = ap (λ (m : MachineOf). record w { events = events; machine = m }) a.1.1;
        }

    pub committed_at : (old : WorldOf) → w ≡ old → Commits commit.Committed old out (record w { events = events; machine = new })
    committed_at old same = subst (λ o. Commits commit.Committed o out (record w { events = events; machine = new })) same committed

  -- it has not
  module _ (a : AdvancesTop out.burst t false w.machine new) (events : List Event) (are : events ≡ w.events) where
    still_done : HasDone (record w.machine { shared = new.shared }) h.files w.trees w.events
    still_done =
        record {
          accepted = h.done.accepted;
          program = h.done.program;
          run = record {
            at = h.done.run.at;
            lead = h.done.run.lead;
            shown = shown_still w.trees w.machine.program (bounds_of w.machine.limits) (inflated w.trees w.machine.limits.frames w.events) w.machine.shared new.shared h.done.run.at h.done.run.shown a.2;
          };
        }

    pub stale_holds : Holds (record w { events = events; machine = new })
    unfolding still_done
    stale_holds =
        subst (λ es. Holds (record w { events = es; machine = new })) (sym are)
        (subst (λ (m : MachineOf). Holds (record w { machine = m })) (sym a.1) (record { files = h.files; done = still_done; within = h.within; fits = h.fits }))

    stale : Commits commit.Stale w out (record w { events = events; machine = new })
    stale = (
      λ can. a.0 can.at,
      record {
        rest = λ i. record w { events = are i; machine = a.1 i };
        shared = a.2;
      },
    )

    pub stale_at : (old : WorldOf) → w ≡ old → Commits commit.Stale old out (record w { events = events; machine = new })
    stale_at old same = subst (λ o. Commits commit.Stale o out (record w { events = events; machine = new })) same stale

-- ---- no burst is taken

module _ (w : WorldOf) (out : ThreadBurst) (no : CanCommit w out → ⊥) where
  untouched : Commits commit.Stale w out w
  untouched = (no, record { rest = refl; shared = record { rest = refl; stacks = refl } })

  pub untouched_at : (old : WorldOf) → w ≡ old → Commits commit.Stale old out old
  untouched_at old same = subst (λ o. Commits commit.Stale o out o) same untouched
