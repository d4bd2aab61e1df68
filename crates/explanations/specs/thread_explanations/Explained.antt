-- What is told of the threads of a run (own): each that did not end normally has its line of the report, and what it is about below it.
use Rattle.std.specs.Prelude.{◌≡◌, ℕ, suc, List, [], ◌∷◌, ◌++◌, codes, length, map}
use Rattle.std.specs.List.{flat_map}
use Rattle.model.specs.declared.end.End.{End}
use Rattle.model.specs.declared.event.Event.{Event}
use Rattle.model.specs.declared.limits.Limits.{Limits}
use Rattle.model.specs.declared.report.EndState.{EndState}
use Rattle.model.specs.declared.report.Report.{Report}
use Rattle.model.specs.Classes.{Program}
use Rattle.model.specs.Report.{ThreadEnd, Ended, Threw, Blocked, Waiting, Joining, Initialising, Runnable, end_state_of, line, thread_line}
use Rattle.linked_code.specs.declared.program.LinkedProgram.{LinkedProgram}
use Rattle.listings.specs.printed_names.Printed.{printed}
use Rattle.machine_state.specs.declared.state.Shared.{Shared}
use Rattle.machine.specs.Machines.{MachineOf}
use Rattle.machine.specs.machine_replay.Replays.{IsReplay}
use Rattle.machine.specs.schedule_runs.Done.{HasDone}
use Rattle.explanations.specs.thread_explanations.Cycles.{AreCycles}
use Rattle.explanations.specs.thread_explanations.Deadlocks.{deadlock_words}
use Rattle.explanations.specs.thread_explanations.Waits.{waits_of}

-- lines that are indented by two spaces, without control characters
abbrev pub indented : List (List ℕ) → List ℕ
indented lines = flat_map (λ words. line (codes "  " ++ printed words)) lines

-- of a thread: nothing where it ended normally, and else its line of the report, with these lines below it
abbrev pub told_of : (t : ℕ) → ThreadEnd → (below : List (List ℕ)) → List ℕ
told_of t Ended below = []
told_of t (Threw name) below = thread_line t (Threw name) ++ indented below
told_of t Blocked below = thread_line t Blocked ++ indented below
told_of t Waiting below = thread_line t Waiting ++ indented below
told_of t Joining below = thread_line t Joining ++ indented below
told_of t Initialising below = thread_line t Initialising ++ indented below
told_of t Runnable below = thread_line t Runnable ++ indented below

-- of threads that are numbered from t, with the lines that stand below each
abbrev pub told_of_all : (t : ℕ) → List ThreadEnd → (below : ℕ → List (List ℕ)) → List ℕ
told_of_all t [] below = []
told_of_all t (end ∷ ends) below = told_of t end (below t) ++ told_of_all (suc t) ends below

-- Of all threads, whatever stands below their lines; and then a line for each deadlock: for all cycles of threads that wait for each
-- other by what they share, and for nothing else.
abbrev pub Explains : LinkedProgram → Shared → List EndState → (text : List ℕ) → Type 0
Explains p shared ends text =
    let waits = waits_of p shared ends in
    (below : ℕ → List (List ℕ)) × (cycles : List (List ℕ)) × AreCycles waits cycles
    × (text ≡ told_of_all 0 (map end_state_of ends) below ++ flat_map (λ (cycle : List ℕ). line (deadlock_words waits ends cycle)) cycles)

-- the machine did as many of the events as the report says, under these limits, and shows where they led
pub record IsAfter (trees : Program) (events : List Event) (limits : Limits) (r : Report) (m : MachineOf) : Type 0 where
  pub files : List (List ℕ)
  pub limits_are : m.limits ≡ limits
  pub front : List Event
  pub left : List Event
  pub events_are : events ≡ front ++ left
  pub count : r.events ≡ length front
  pub done : HasDone m files trees front

-- Of the events of a schedule as many are done as a replay does, and the threads are told as its report has them.
abbrev pub ExplainsRun : Program → List Event → Limits → (text : List ℕ) → Type 0
ExplainsRun trees events limits text =
    (report : Report) × (end : End) × IsReplay trees events limits report end
    × (m : MachineOf) × IsAfter trees events limits report m × Explains m.program m.shared report.threads.items text
