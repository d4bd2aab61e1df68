-- A thread that is seen before its event stands in the state where it is seen to stand.
use Rattle.std.proofs.Common.{◌≡◌, ℕ, zero, suc, List, [], ◌∷◌, ◌++◌, length, Option, Some, None, true, refl, sym, ap, subst, ◌∙◌}
use Rattle.std.specs.Prelude.{slice_get, unwrap_or}
use Rattle.std.specs.Option.{option_map}
use Rattle.std.proofs.lemmas.Option.{slice_get-map}
use Rattle.model.specs.declared.event.Event.{Event}
use Rattle.model.specs.Classes.{Program}
use Rattle.model.specs.Operands.{word_of}
use Rattle.model.specs.State as model
use Rattle.model.specs.State.{StackOf, State, StateOf}
use Rattle.model.specs.Words.{map_stack, words_of}
use Rattle.linked_code.specs.declared.program.LinkedProgram.{LinkedProgram}
use Rattle.thread_stacks.specs.Stacks.{ShownEntry, Invocation, Initialisation}
use Rattle.machine_state.specs.shown_stacks.Shown.{ShowsStack, offset_at}
use Rattle.machine_state.specs.state_events.Whole.{ShowsStacks}
use Rattle.machine.specs.Machines.{MachineOf}
use Rattle.machine.specs.schedule_runs.Done.{HasDone}
use Rattle.traces.specs.declared.traced_events.frames.FrameBefore.{FrameBefore}
use Rattle.traces.specs.traced_events.Places.{IsSeen, IsSeenIf, IsSeenOf, Sees}
use Rattle.traces.specs.declared.form.Form.{Form}
use Rattle.traces.specs.Lines.{AddsLine, IsLine}
use Rattle.program_runs.specs.traced_runs.Traces.{TellsIf, stack_at}

-- ---- on top of its stack

sees : (trees : Program) (p : LinkedProgram) (shown : List ShownEntry) (stack : StackOf ℕ) (frame : Option FrameBefore) (class : Option ℕ)
    → ShowsStack trees p shown stack → IsSeen p shown frame class
    → Sees trees frame class stack
sees trees p [] [] frame class shows seen = seen
sees trees p (Invocation shown ∷ others) (model.Invocation on_top ∷ stack) frame class shows seen = (
  record { method = shown.method; offset = offset_at p shown.method shown.place; entered = shown.entered },
  seen.0,
  seen.1,
  shows.0.method,
  sym shows.0.offset,
)
sees trees p (Initialisation number at ∷ others) (model.Initialisation on_top phase ∷ stack) frame class shows seen = (number, seen.0, seen.1, shows.0.0)
sees trees p (Invocation shown ∷ others) (model.Initialisation on_top phase ∷ stack) frame class shows seen = absurd shows.0
sees trees p (Initialisation number at ∷ others) (model.Invocation on_top ∷ stack) frame class shows seen = absurd shows.0
sees trees p [] (entry ∷ stack) frame class shows seen = absurd shows
sees trees p (shown ∷ others) [] frame class shows seen = absurd shows

-- of any thread, one that is not there included
pub seen_at : (trees : Program) (p : LinkedProgram) (shown : List (List ShownEntry)) (stacks : List (StackOf ℕ)) (t : ℕ)
    (frame : Option FrameBefore) (class : Option ℕ) → ShowsStacks trees p shown stacks
    → IsSeenIf p (slice_get shown t) frame class → Sees trees frame class (unwrap_or (slice_get stacks t) [])
seen_at trees p [] [] t frame class shows seen = seen
seen_at trees p (shown ∷ others) (stack ∷ stacks) zero frame class shows seen = sees trees p shown stack frame class shows.0 seen
seen_at trees p (shown ∷ others) (stack ∷ stacks) (suc t) frame class shows seen = seen_at trees p others stacks t frame class shows.1 seen
seen_at trees p [] (stack ∷ stacks) t frame class shows seen = absurd shows
seen_at trees p (shown ∷ others) [] t frame class shows seen = absurd shows

-- ---- words and values

-- a line tells no word
line_of_values : {A B : Type 0} (f : A → B) (form : Form) (trees : Program) (n t : ℕ) (stack : StackOf A) (line : List ℕ)
    → IsLine form trees n t (map_stack f stack) line → IsLine form trees n t stack line
line_of_values f form trees n t [] line is = is
line_of_values f form trees n t (model.Invocation frame ∷ stack) line is = is
line_of_values f form trees n t (model.Initialisation class phase ∷ stack) line is = is

mapped_or : {A B : Type 0} (f : A → B) (found : Option (StackOf A))
    → unwrap_or (option_map (map_stack f) found) [] ≡ map_stack f (unwrap_or found [])
mapped_or f None = refl
mapped_or f (Some stack) = refl

pub stack_of_words : (state : State) (t : ℕ) → stack_at (words_of state) t ≡ map_stack word_of (stack_at state t)
stack_of_words state t = ap (λ (o : Option (StackOf ℕ)). unwrap_or o []) (slice_get-map (map_stack word_of) state.stacks t) ∙ mapped_or word_of (slice_get state.stacks t)

-- ---- the line of the next event

module _ (form : Form) (trees : Program) (m : MachineOf) (files : List (List ℕ)) (done : List Event) (has : HasDone m files trees done)
    (n : ℕ) (count : length done ≡ n) (event : Event) where
  -- where it is said of whatever stack is seen, it is said of the thread's own
  pub own_line : (frame : Option FrameBefore) (class : Option ℕ) → IsSeenOf m.program m.shared event.thread frame class → (old new : List ℕ)
      → ((stack : StackOf ℕ) → Sees trees frame class stack → AddsLine form trees n event.thread stack old new)
      → (line : List ℕ) × (new ≡ old ++ line) × TellsIf true form trees m.limits.frames done event line
  own_line frame class seen old new adds =
      let lead = has.run.lead in
      let at = has.run.at in
      let t = event.thread in
      let added = adds (stack_at at t) (seen_at trees m.program m.shared.stacks.items at.stacks t frame class has.run.shown.stacks seen) in
      let words : stack_at at t ≡ map_stack word_of (stack_at lead.state t) = ap (λ (s : StateOf ℕ). stack_at s t) lead.are.are ∙ stack_of_words lead.state t in
      let by_words : IsLine form trees n t (map_stack word_of (stack_at lead.state t)) added.0 = subst (λ (stack : StackOf ℕ). IsLine form trees n t stack added.0) words added.2 in
      let by_values : IsLine form trees n t (stack_at lead.state t) added.0 = line_of_values word_of form trees n t (stack_at lead.state t) added.0 by_words in
      (added.0, added.1, (lead.state, lead.reached, subst (λ (k : ℕ). IsLine form trees k t (stack_at lead.state t) added.0) (sym count) by_values))
