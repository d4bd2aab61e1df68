-- Deadlocks in words (own).
use Rattle.std.specs.Prelude.{ℕ, List, [], ◌∷◌, ◌++◌, ◌&&◌, ◌==◌, Option, Some, None, Bool, true, false, codes, slice_get, if◌then◌else◌}
use Rattle.std.specs.List.{flat_map, list_any}
use Rattle.std.specs.Option.{option_map_or}
use Rattle.machine.specs.machine_reports.Told.{is_runnable}
use Rattle.model.specs.declared.report.EndState.{EndState}
use Rattle.model.specs.Report.{end_state_of}
use Rattle.traces.specs.Lines.{thread_words}
use Rattle.explanations.specs.declared.thread_explanations.awaited.Awaited.{Awaited}
use Rattle.explanations.specs.declared.thread_explanations.awaited.Awaited.TheVariants.{Nothing, Monitor, MonitorAgain, Notification, End, Class}
use Rattle.explanations.specs.declared.thread_explanations.waits.Wait.{Wait}
use Rattle.explanations.specs.thread_explanations.Cycles.{next_of}

-- ---- whether an interrupt may end it (JLS 17.2.3)

abbrev pub is_end : Awaited → Bool
is_end (End object) = true
is_end Nothing = false
is_end (Monitor object) = false
is_end (MonitorAgain object) = false
is_end (Notification object) = false
is_end (Class class) = false

-- a thread waits for the end of another one
abbrev pub joins : List Wait → (thread : ℕ) → Bool
joins waits thread = option_map_or (λ (wait : Wait). is_end wait.awaited) (slice_get waits thread) false

-- one of the cycle does, and some thread goes on
abbrev pub may_be_ended : List Wait → List EndState → List ℕ → Bool
may_be_ended waits ends cycle = list_any (joins waits) cycle && list_any (λ (end : EndState). is_runnable (end_state_of end)) ends

-- ---- the words

abbrev pub next_words : (thread : ℕ) → Option ℕ → List ℕ
next_words thread None = []
next_words thread (Some next) = if next == thread then codes "itself" else thread_words next

-- for which thread a thread waits
abbrev pub wait_words : List Wait → (thread : ℕ) → List ℕ
wait_words waits thread = thread_words thread ++ (codes " waits for " ++ next_words thread (next_of waits thread))

-- each of a cycle
abbrev pub cycle_words : List Wait → List ℕ → List ℕ
cycle_words waits [] = []
cycle_words waits (first ∷ others) = wait_words waits first ++ flat_map (λ (thread : ℕ). codes ", " ++ wait_words waits thread) others

abbrev pub deadlock_words : List Wait → List EndState → List ℕ → List ℕ
deadlock_words waits ends cycle =
    codes "deadlock" ++ ((if may_be_ended waits ends cycle then codes " that an interrupt may end" else []) ++ (codes ": " ++ cycle_words waits cycle))
