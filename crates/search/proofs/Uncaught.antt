-- Threads that have ended with an exception, by their statuses.
use Rattle.std.proofs.Common.{◌≡◌, ℕ, ◌+◌, ◌<◌, List, length, Bool, true, false, Option, Some, None, refl, sym, ap, ◌∙◌, arith}
use Rattle.std.specs.Prelude.{slice_get}
use Rattle.std.proofs.lemmas.Bool.{false≢true, true≢false}
use Rattle.std.proofs.lemmas.Option.{same_Some, slice_get_within, slice_get-get_or, get_or_from_slice_get}
use Rattle.model.specs.declared.event.Event.{Event}
use Rattle.model.specs.Classes.{Program}
use Rattle.model.specs.Meaning.{thread_end}
use Rattle.model.specs.Names.{Name}
use Rattle.model.specs.Report.{Threw}
use Rattle.model.specs.Run.{run}
use Rattle.model.specs.State as state
use Rattle.model.specs.State.{Thread, ThreadStatus, State, StateOf, new_thread}
use Rattle.search_laws.proofs.Ends.{class_at, thrown_of, end_at, at_end}
use Rattle.heap.specs.java_threads.Table.{thread_at}
use Rattle.machine.specs.Machines.{MachineOf}
use Rattle.machine.specs.schedule_runs.Done.{HasDone}
use Rattle.search.specs.Kinds.{HasUncaught}
use Rattle.search.specs.StateKinds.{TellsState, has_thrown}

-- ---- a state

module _ (files : Program) (frames : ℕ) (s : State) where
  ended_by_exception : (t : ℕ) (status : ThreadStatus) → has_thrown status ≡ true → (class : Name) × (thread_end files frames s t status ≡ Threw class)
  ended_by_exception t state.Running e = absurd (false≢true e)
  ended_by_exception t (state.Waiting object count) e = absurd (false≢true e)
  ended_by_exception t (state.Relock object count cause) e = absurd (false≢true e)
  ended_by_exception t (state.Ended None) e = absurd (false≢true e)
  ended_by_exception t (state.Ended (Some exception)) e = (class_at s.world exception, refl)

  uncaught_at : (t : ℕ) (thread : Thread) → slice_get s.world.threads t ≡ Some thread → has_thrown thread.status ≡ true → HasUncaught files frames s
  uncaught_at t thread is thrown =
      let none : 0 + t ≡ t = omega arith in
      let end = ended_by_exception t thread.status thrown in
      (t, end.0, at_end files frames s 0 s.world.threads t thread is ∙ ap Some (ap (λ n. thread_end files frames s n thread.status) none ∙ end.1))

  -- a thread that has thrown, by its status
  record ThrownIn : Type 0 where
    t : ℕ
    thread : Thread
    is : slice_get s.world.threads t ≡ Some thread
    thrown : has_thrown thread.status ≡ true

  thrown_in : HasUncaught files frames s → ThrownIn
  thrown_in uncaught =
      let end = end_at files frames s 0 s.world.threads uncaught.0 (Threw uncaught.1) uncaught.2 in
      let how = thrown_of files frames s (0 + uncaught.0) (end.0).status uncaught.1 end.1.1 in
      record { t = uncaught.0; thread = end.0; is = end.1.0; thrown = ap has_thrown how.status_is }

-- ---- a machine

-- its threads are those of the state
threads_same : (m : MachineOf) (files : List (List ℕ)) (trees : Program) (events : List Event) (s : State) → HasDone m files trees events
    → run trees m.limits.frames events ≡ Some s → m.shared.threads.threads ≡ s.world.threads
threads_same m files trees events s done reached =
    let has = done.run in
    let is : has.lead.state ≡ s = same_Some has.lead.state s (sym has.lead.reached ∙ reached) in
    has.shown.represents.world_is.threads ∙ (ap (λ (w : StateOf ℕ). w.world.threads) has.lead.are.are ∙ ap (λ (x : State). x.world.threads) is)

abbrev pub HasThrownAt : List Thread → ℕ → Bool → Type 0
HasThrownAt threads t told = has_thrown (thread_at threads t).status ≡ told

module _ (m : MachineOf) where
  pub tells_uncaught : (t : ℕ) → t < length m.shared.threads.threads → HasThrownAt m.shared.threads.threads t true → (trees : Program)
      → TellsState trees m HasUncaught true
  tells_uncaught t lt thrown trees files events s done reached =
      let threads = m.shared.threads.threads in
      let is : slice_get threads t ≡ Some (thread_at threads t) = slice_get-get_or threads t (new_thread 0) lt in (
        λ e. uncaught_at trees m.limits.frames s t (thread_at threads t) (ap (λ (l : List Thread). slice_get l t) (sym (threads_same m files trees events s done reached)) ∙ is) thrown,
        λ e. absurd (true≢false e),
      )

  pub tells_none_uncaught : ((t : ℕ) → t < length m.shared.threads.threads → HasThrownAt m.shared.threads.threads t false) → (trees : Program)
      → TellsState trees m HasUncaught false
  tells_none_uncaught none trees files events s done reached = (
    λ e. absurd (false≢true e),
    λ e uncaught.
        let threads = m.shared.threads.threads in
        let one = thrown_in trees m.limits.frames s uncaught in
        let is : slice_get threads one.t ≡ Some one.thread = ap (λ (l : List Thread). slice_get l one.t) (threads_same m files trees events s done reached) ∙ one.is in
        let own : thread_at threads one.t ≡ one.thread = get_or_from_slice_get threads one.t one.thread (new_thread 0) is in
        true≢false (sym one.thrown ∙ (ap (λ (th : Thread). has_thrown th.status) (sym own) ∙ none one.t (slice_get_within threads one.t one.thread is))),
  )
