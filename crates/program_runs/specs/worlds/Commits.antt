-- Bursts of the threads of a world (own; JVMS 2.6; JLS 17).
use Rattle.std.specs.Prelude.{◌≡◌, ◌⊎◌, ◌<◌, ◌≤◌, ◌+◌, ◌++◌, ℕ, Option, Some, None, length, replicate}
use Rattle.thread_stacks.specs.Stacks.{ShownFrame}
use Rattle.machine_instructions.specs.local_instructions.Local.{with_running}
use Rattle.machine_state.specs.state_events.Whole.{IsSame}
use Rattle.machine.specs.Machines.{MachineOf}
use Rattle.machine.specs.Tops.{HasTop, CopiesTop, IsAtStart, plain}
use Rattle.program_runs.specs.declared.worlds.commits.ThreadBurst.{ThreadBurst}
use Rattle.program_runs.specs.declared.worlds.commits.Commit.{Commit}
use Rattle.program_runs.specs.declared.worlds.commits.Commit.TheVariants as commit
use Rattle.program_runs.specs.worlds.Worlds.{WorldOf}

-- ---- checked out

-- none of the threads from a number up to another runs, with no exception pending, and has a frame of a method on top
abbrev pub HasNone : MachineOf → (from to : ℕ) → Type 0
HasNone m from to = (u : ℕ) → from ≤ u → u < to → (shown : ShownFrame) → HasTop m u shown → ⊥

-- a burst of no instruction, at the frame on top of the first such thread from a number up to another
abbrev pub CopiesFirst : MachineOf → (from to : ℕ) → Option ThreadBurst → Type 0
CopiesFirst m from to (Some out) = (from ≤ out.thread) × (out.thread < to) × CopiesTop m out.thread (Some out.burst) × HasNone m from out.thread
CopiesFirst m from to None = HasNone m from to

-- Of the first one in rotation: there is none between the number at which the rotation begins and it, or, where it lies below that number,
-- none from there up and none below it.
abbrev pub ChecksOut : MachineOf → (from : ℕ) → Option ThreadBurst → Type 0
ChecksOut m from (Some out) =
    (out.thread < length m.shared.threads.threads)
    × CopiesTop m out.thread (Some out.burst)
    × (((from ≤ out.thread) × HasNone m from out.thread)
    ⊎ ((out.thread < from) × HasNone m from (length m.shared.threads.threads) × HasNone m 0 out.thread))
ChecksOut m from None = HasNone m 0 (length m.shared.threads.threads)

-- ---- committed

-- The thread runs, with no exception pending, and the frame on top is of a method with the burst's code and stands where the burst started;
-- the budget leaves as many events as the burst has steps; and there is no end.
pub record CanCommit (w : WorldOf) (out : ThreadBurst) : Type 0 where
  pub at : IsAtStart w.machine out.thread out.burst
  pub room : length w.events + out.burst.steps ≤ w.budget
  pub goes_on : w.end ≡ None

-- The frame is where the burst has come to, and its steps are events of the thread, recorded behind those before. All else is what the
-- world's invariant says: the machine shows where its events lead.
pub record IsCommitted (old : WorldOf) (out : ThreadBurst) (new : WorldOf) : Type 0 where
  pub could : CanCommit old out
  pub events : new.events ≡ old.events ++ replicate out.burst.steps (plain out.thread)
  pub top : HasTop new.machine out.thread (with_running could.at.shown out.burst.current.frame)
  pub rest : new ≡ record old { events = new.events; machine = record old.machine { shared = new.machine.shared } }

-- nothing has changed
pub record IsStill (old new : WorldOf) : Type 0 where
  pub rest : new ≡ record old { machine = record old.machine { shared = new.machine.shared } }
  pub shared : IsSame old.machine.shared new.machine.shared

abbrev pub Commits : Commit → (old : WorldOf) → ThreadBurst → (new : WorldOf) → Type 0
Commits commit.Committed old out new = IsCommitted old out new
Commits commit.Stale old out new = (CanCommit old out → ⊥) × IsStill old new
