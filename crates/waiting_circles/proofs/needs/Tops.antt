-- What a thread needs, by what is on top of its stack.
use Rattle.std.proofs.Common.{◌≡◌, ℕ, List, [], ◌∷◌, Option, Some, None, sym, ap, subst, ◌∙◌}
use Rattle.std.specs.Prelude.{slice_get}
use Rattle.std.specs.Option.{option_and_then}
use Rattle.model.specs.Classes.{Program}
use Rattle.model.specs.LimitStands.{Bounds}
use Rattle.model.specs.Operands.{words}
use Rattle.model.specs.Sites.{MeaningOf, Site}
use Rattle.model.specs.State as model
use Rattle.model.specs.State.{Running, FrameOf, StackOf, StateOf, Thread}
use Rattle.model.specs.Step.{thread_at}
use Rattle.heap.specs.java_threads.Table.{thread_at as row_at}
use Rattle.search_laws.specs.Waits.{meant_need, site_need, body_need, stack_need, going_need, status_need}
use Rattle.linked_code.specs.Numbers.{IsClassAt}
use Rattle.linked_code.specs.declared.instruction.LinkedInstruction.{LinkedInstruction}
use Rattle.linked_code.specs.declared.method.LinkedCode.{LinkedCode}
use Rattle.linked_code.specs.declared.program.LinkedProgram.{LinkedProgram}
use Rattle.thread_stacks.specs.declared.entry.Phase.{Phase}
use Rattle.thread_stacks.specs.declared.entry.Top.TheVariants as top
use Rattle.thread_stacks.specs.Stacks.{ShownEntry, Invocation, Initialisation, top_of}
use Rattle.machine_state.specs.declared.state.Shared.{Shared}
use Rattle.machine_state.specs.Shown.{IsProgram, IsLent}
use Rattle.machine_state.specs.linked_frames.Frames.{IsRunning}
use Rattle.machine_state.specs.shown_stacks.Shown.{phase_of}
use Rattle.machine.proofs.thread_standings.Tops.{row_is}
use Rattle.machine.proofs.thread_standings.States.{lent_of, no_stack}
use Rattle.waiting_circles.specs.declared.needs.kinds.Need.{Need as TheNeed}
use Rattle.waiting_circles.specs.Needs.{IsNeed, NeedsAtFrame, NeedsBeginning, NeedsInPhase, NeedsGoing, NeedsRunning, NeedsThere, NeedsNext}

-- ---- at an instruction

module _ (trees : Program) (p : LinkedProgram) (bounds : Bounds) (inflated : List ℕ) (t : ℕ) (old : Shared) (from : List ShownEntry)
    (state : StateOf ℕ) (frame : FrameOf ℕ) (rest : StackOf ℕ) (code : LinkedCode) (site : Site) (meaning : MeaningOf ℕ)
    (instruction : LinkedInstruction) (frames : ℕ)
    (is : IsRunning trees p bounds inflated t old from state frame rest code site meaning instruction) where
  pub at_instruction : stack_need words trees frames t state.world (model.Invocation frame ∷ rest) ≡ meant_need words trees frames t state.world frame rest site meaning
  at_instruction =
      ap (option_and_then (body_need words trees frames t state.world frame rest)) is.stands.at.is_body
      ∙ ap (option_and_then (site_need words trees frames t state.world frame rest)) is.stands.at.stands
      ∙ ap (option_and_then (meant_need words trees frames t state.world frame rest site)) is.stands.at.means

-- ---- by what is on top

module _ (p : LinkedProgram) (shared : Shared) (t frames : ℕ) (result : Option TheNeed) where
  pub begins : (stack : List ShownEntry) → top.Empty ≡ top_of stack → NeedsBeginning p shared t frames result
      → NeedsGoing p shared stack t frames result
  begins [] e needs trees bounds inflated state [] program lent = needs trees bounds inflated state [] program lent
  begins [] e needs trees bounds inflated state (entry ∷ rest) program lent = absurd lent.shows_stack
  begins (Invocation f ∷ others) e needs trees bounds inflated state own program lent = absurd cc
  begins (Initialisation n ph ∷ others) e needs trees bounds inflated state own program lent = absurd cc

  pub runs_frame : (row_at shared.threads.threads t).status ≡ Running → (row_at shared.threads.threads t).pending ≡ None
      → (stack : List ShownEntry) → top.Invocation ≡ top_of stack → NeedsAtFrame p shared stack t frames result
      → NeedsGoing p shared stack t frames result
  runs_frame runs goes_on [] e needs trees bounds inflated state own program lent = absurd cc
  runs_frame runs goes_on (Initialisation n ph ∷ others) e needs trees bounds inflated state own program lent = absurd cc
  runs_frame runs goes_on (Invocation f ∷ others) e needs trees bounds inflated state [] program lent = absurd lent.shows_stack
  runs_frame runs goes_on (Invocation f ∷ others) e needs trees bounds inflated state (model.Initialisation class phase ∷ rest) program lent = absurd lent.shows_stack.0
  runs_frame runs goes_on (Invocation f ∷ others) e needs trees bounds inflated state (model.Invocation frame ∷ rest) program lent =
      let is = row_is trees p bounds inflated t shared (Invocation f ∷ others) state (model.Invocation frame ∷ rest) lent in
      needs trees bounds inflated state frame rest program lent
      (record {
        rest = rest;
        stack = lent.is_own;
        runs = sym (ap (λ (thread : Thread). thread.status) is) ∙ runs;
        pending = sym (ap (λ (thread : Thread). thread.pending) is) ∙ goes_on;
      })

  pub initialises : (number : ℕ) (at : Phase) (stack : List ShownEntry) → top.Initialisation number at ≡ top_of stack
      → NeedsInPhase p shared t number at result
      → NeedsGoing p shared stack t frames result
  initialises number at [] e needs trees bounds inflated state own program lent = absurd cc
  initialises number at (Invocation f ∷ others) e needs trees bounds inflated state own program lent = absurd cc
  initialises number at (Initialisation n ph ∷ others) e needs trees bounds inflated state [] program lent = absurd lent.shows_stack
  initialises number at (Initialisation n ph ∷ others) e needs trees bounds inflated state (model.Invocation frame ∷ rest) program lent = absurd lent.shows_stack.0
  initialises number at (Initialisation n ph ∷ others) e needs trees bounds inflated state (model.Initialisation class phase ∷ rest) program lent =
      let same : n ≡ number = cc in
      let phase_same : ph ≡ at = cc in
      let phase_is : phase ≡ phase_of at = sym lent.shows_stack.0.1 ∙ ap phase_of phase_same in
      subst (λ (f : model.Phase). IsNeed trees result (stack_need words trees frames t state.world (model.Initialisation class f ∷ rest))) (sym phase_is)
      (needs trees bounds state.world program lent.represents class rest (subst (λ k. IsClassAt trees k class) same lent.shows_stack.0.0) frames)

-- ---- by what the thread is about

module _ (p : LinkedProgram) (shared : Shared) (stack : List ShownEntry) (t frames : ℕ) (result : Option TheNeed) where
  pub goes_by : (exception : ℕ) → Some exception ≡ (row_at shared.threads.threads t).pending → NeedsRunning p shared stack t frames None
  goes_by exception is trees bounds inflated state own program lent =
      ap (going_need words trees frames t state.world own)
      (sym (is ∙ ap (λ (thread : Thread). thread.pending) (row_is trees p bounds inflated t shared stack state own lent)))

  pub goes_on : None ≡ (row_at shared.threads.threads t).pending → NeedsGoing p shared stack t frames result
      → NeedsRunning p shared stack t frames result
  goes_on is needs trees bounds inflated state own program lent =
      subst (λ (o : Option ℕ). IsNeed trees result (going_need words trees frames t state.world own o))
      (is ∙ ap (λ (thread : Thread). thread.pending) (row_is trees p bounds inflated t shared stack state own lent))
      (needs trees bounds inflated state own program lent)

  pub with_status : (status : model.ThreadStatus) → status ≡ (row_at shared.threads.threads t).status
      → ((trees : Program) (bounds : Bounds) (inflated : List ℕ) (state : StateOf ℕ) (own : StackOf ℕ) → IsProgram trees p
      → IsLent trees p bounds inflated t shared stack state own → IsNeed trees result (status_need words trees frames t state.world own status))
      → NeedsThere p shared stack t frames result
  with_status status is needs trees bounds inflated state own program lent =
      subst (λ (s : model.ThreadStatus). IsNeed trees result (status_need words trees frames t state.world own s))
      (is ∙ ap (λ (thread : Thread). thread.status) (row_is trees p bounds inflated t shared stack state own lent))
      (needs trees bounds inflated state own program lent)

  -- in a state that is shown
  pub there : Some stack ≡ slice_get shared.stacks.items t → NeedsThere p shared stack t frames result → NeedsNext p shared t frames result
  there e needs trees bounds inflated state program shown =
      let own = lent_of trees p bounds inflated shared state shown t stack e in
      subst (IsNeed trees result)
      (sym (ap (option_and_then (λ s. status_need words trees frames t state.world s (thread_at state.world t).status)) own.1.is_own))
      (needs trees bounds inflated state own.0 program own.1)

pub nowhere : (p : LinkedProgram) (shared : Shared) (t frames : ℕ) → None ≡ slice_get shared.stacks.items t → NeedsNext p shared t frames None
nowhere p shared t frames e trees bounds inflated state program shown =
    ap (option_and_then (λ s. status_need words trees frames t state.world s (thread_at state.world t).status))
    (no_stack trees p bounds inflated shared state shown t e)
