-- How a thread stands that runs, by what is on top of its stack.
use Rattle.std.proofs.Common.{◌≡◌, ◌==◌, ℕ, List, [], ◌∷◌, Option, Some, None, true, false, length, sym, ap, subst, ◌∙◌}
use Rattle.std.proofs.Math.Dec.{eqb-suc-zero}
use Rattle.std.proofs.lemmas.Bool.{true≢false}
use Rattle.model.specs.ReferenceTypes.{ReferenceType}
use Rattle.model.specs.Classes.{Program}
use Rattle.model.specs.LimitStands.{Bounds}
use Rattle.model.specs.Operands.{words}
use Rattle.model.specs.Report as report
use Rattle.model.specs.State as model
use Rattle.model.specs.State.{Running, StackOf, StateOf, Thread, WorldOf}
use Rattle.model.specs.Step.{thread_at, initialisation_event, pending_event, going_event}
use Rattle.heap.specs.java_threads.Table.{thread_at as row_at}
use Rattle.run_laws.specs.word_reports.Reports.{held_end_of}
use Rattle.linked_code.specs.declared.program.LinkedProgram.{LinkedProgram}
use Rattle.linked_code.specs.Numbers.{IsClassAt}
use Rattle.machine_state.specs.linked_frames.Frames.{event_of}
use Rattle.thread_stacks.specs.declared.entry.Phase.{Phase}
use Rattle.thread_stacks.specs.declared.entry.Top.TheVariants as top
use Rattle.thread_stacks.specs.Stacks.{ShownEntry, Invocation, Initialisation, top_of}
use Rattle.machine_state.specs.shown_stacks.Shown.{ShowsStack, phase_of}
use Rattle.machine_state.specs.declared.state.Shared.{Shared}
use Rattle.machine_state.specs.Shown.{IsLent}
use Rattle.machine.specs.thread_standings.Parts.{end_by, StandsBeginning, StandsInitialising, StandsAtFrame, StandsPending, StandsGoing, StandsRunning}
use Rattle.machine.proofs.thread_standings.Enabled.{ends_on, pending_enabled}
use Rattle.machine_threads.specs.declared.waiting_instructions.kinds.Standing.{Standing}
use Rattle.machine_threads.specs.declared.waiting_instructions.kinds.Standing.TheVariants as standing
use Rattle.machine_threads.specs.waiting_instructions.Waits.{IsEnd}

module _ (trees : Program) (p : LinkedProgram) (bounds : Bounds) (inflated : List ℕ) (t : ℕ) (shared : Shared) (stack : List ShownEntry)
    (state : StateOf ℕ) (own : StackOf ℕ)
    (lent : IsLent trees p bounds inflated t shared stack state own) where
  -- the row of the thread is the thread
  pub row_is : row_at shared.threads.threads t ≡ thread_at state.world t
  row_is = ap (λ (threads : List Thread). row_at threads t) lent.represents.world_is.threads

-- ---- an exception is pending

module _ (trees : Program) (p : LinkedProgram) (t exception : ℕ) (thrown : Option ReferenceType) (world : WorldOf ℕ) where
  pub pending_over_none : (result : Standing) (stack : List ShownEntry) (own : StackOf ℕ) → ShowsStack trees p stack own
      → true ≡ (length stack == 0) → IsEnd trees result (held_end_of words trees world t [])
      → IsEnd trees result (end_by (pending_event words trees t exception thrown world own) (held_end_of words trees world t own))
  pending_over_none result [] [] s e h = h
  pending_over_none result [] (entry ∷ rest) s e h = absurd s
  pending_over_none result (shown ∷ others) own s e h = absurd (true≢false (e ∙ eqb-suc-zero (length others)))

  pub pending_over_some : (stack : List ShownEntry) (own : StackOf ℕ) → ShowsStack trees p stack own → false ≡ (length stack == 0)
      → IsEnd trees standing.Runnable (end_by (pending_event words trees t exception thrown world own)
      (held_end_of words trees world t own))
  pending_over_some [] own s e = absurd (true≢false (sym e))
  pending_over_some (shown ∷ others) [] s e = absurd s
  pending_over_some (shown ∷ others) (entry ∷ rest) s e = ends_on trees _ _ (pending_enabled trees t exception thrown world entry rest)

pub goes_by : (p : LinkedProgram) (shared : Shared) (stack : List ShownEntry) (t frames exception : ℕ) (result : Standing)
    → Some exception ≡ (row_at shared.threads.threads t).pending → StandsPending p shared stack t result
    → StandsRunning p shared stack t frames result
goes_by p shared stack t frames exception result is stands trees bounds inflated state own program lent =
    subst (λ (o : Option ℕ). IsEnd trees result (end_by (going_event words trees frames (event_of t) state.world own o) (held_end_of words trees state.world t own)))
    (is ∙ ap (λ (thread : Thread). thread.pending) (row_is trees p bounds inflated t shared stack state own lent))
    (stands exception _ trees bounds inflated state own program lent)

pub goes_on : (p : LinkedProgram) (shared : Shared) (stack : List ShownEntry) (t frames : ℕ) (result : Standing)
    → None ≡ (row_at shared.threads.threads t).pending → StandsGoing p shared stack t frames result
    → StandsRunning p shared stack t frames result
goes_on p shared stack t frames result is stands trees bounds inflated state own program lent =
    subst (λ (o : Option ℕ). IsEnd trees result (end_by (going_event words trees frames (event_of t) state.world own o) (held_end_of words trees state.world t own)))
    (is ∙ ap (λ (thread : Thread). thread.pending) (row_is trees p bounds inflated t shared stack state own lent))
    (stands trees bounds inflated state own program lent)

-- ---- by what is on top

module _ (p : LinkedProgram) (shared : Shared) (t frames : ℕ) (result : Standing) where
  pub begins : (stack : List ShownEntry) → top.Empty ≡ top_of stack → StandsBeginning p shared t frames result
      → StandsGoing p shared stack t frames result
  begins [] e stands trees bounds inflated state [] program lent = stands trees bounds inflated state [] program lent
  begins [] e stands trees bounds inflated state (entry ∷ rest) program lent = absurd lent.shows_stack
  begins (Invocation f ∷ others) e stands trees bounds inflated state own program lent = absurd cc
  begins (Initialisation n ph ∷ others) e stands trees bounds inflated state own program lent = absurd cc

  pub runs_frame : (row_at shared.threads.threads t).status ≡ Running → (row_at shared.threads.threads t).pending ≡ None
      → (stack : List ShownEntry) → top.Invocation ≡ top_of stack → StandsAtFrame p shared stack t frames result
      → StandsGoing p shared stack t frames result
  runs_frame runs goes_on [] e stands trees bounds inflated state own program lent = absurd cc
  runs_frame runs goes_on (Initialisation n ph ∷ others) e stands trees bounds inflated state own program lent = absurd cc
  runs_frame runs goes_on (Invocation f ∷ others) e stands trees bounds inflated state [] program lent = absurd lent.shows_stack
  runs_frame runs goes_on (Invocation f ∷ others) e stands trees bounds inflated state (model.Initialisation class phase ∷ rest) program lent = absurd lent.shows_stack.0
  runs_frame runs goes_on (Invocation f ∷ others) e stands trees bounds inflated state (model.Invocation frame ∷ rest) program lent =
      let is = row_is trees p bounds inflated t shared (Invocation f ∷ others) state (model.Invocation frame ∷ rest) lent in
      stands trees bounds inflated state frame rest program lent
      (record {
        rest = rest;
        stack = lent.is_own;
        runs = sym (ap (λ (thread : Thread). thread.status) is) ∙ runs;
        pending = sym (ap (λ (thread : Thread). thread.pending) is) ∙ goes_on;
      })

  pub initialises : (number : ℕ) (at : Phase) (stack : List ShownEntry) → top.Initialisation number at ≡ top_of stack
      → StandsInitialising p shared t number at result
      → StandsGoing p shared stack t frames result
  initialises number at [] e stands trees bounds inflated state own program lent = absurd cc
  initialises number at (Invocation f ∷ others) e stands trees bounds inflated state own program lent = absurd cc
  initialises number at (Initialisation n ph ∷ others) e stands trees bounds inflated state [] program lent = absurd lent.shows_stack
  initialises number at (Initialisation n ph ∷ others) e stands trees bounds inflated state (model.Invocation frame ∷ rest) program lent = absurd lent.shows_stack.0
  initialises number at (Initialisation n ph ∷ others) e stands trees bounds inflated state (model.Initialisation class phase ∷ rest) program lent =
      let same : n ≡ number = cc in
      let phase_same : ph ≡ at = cc in
      let phase_is : phase ≡ phase_of at = sym lent.shows_stack.0.1 ∙ ap phase_of phase_same in
      subst (λ (f : model.Phase). IsEnd trees result (end_by (initialisation_event words trees frames t class f state.world rest) report.Initialising)) (sym phase_is)
      (stands trees bounds state.world program lent.represents class rest (subst (λ k. IsClassAt trees k class) same lent.shows_stack.0.0) frames)
