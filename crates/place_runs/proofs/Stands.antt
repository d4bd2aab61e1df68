-- Where the frame on top of a thread is seen to stand it stands in the state that is shown.
use Rattle.std.proofs.Common.{◌≡◌, ℕ, zero, suc, List, [], ◌∷◌, Bool, true, false, Option, Some, None, refl, sym, ap, subst, ◌∙◌}
use Rattle.std.specs.Prelude.{◌&&◌, is_none, slice_get, unwrap_or}
use Rattle.std.specs.Option.{option_map}
use Rattle.model.specs.declared.event.Event.{Event}
use Rattle.model.specs.Classes.{Program}
use Rattle.model.specs.Operands.{word_of}
use Rattle.model.specs.State as model
use Rattle.model.specs.State.{StackOf, State, StateOf, Thread, ThreadStatus}
use Rattle.model.specs.Words.{map_stack, words_of}
use Rattle.model.specs.Worlds.{thread_at}
use Rattle.run_laws.specs.interleavings.Local.{is_going}
use Rattle.heap.specs.java_threads.Table.{thread_at as row_of_thread}
use Rattle.linked_code.specs.declared.program.LinkedProgram.{LinkedProgram}
use Rattle.thread_stacks.specs.Stacks.{ShownEntry, Invocation, Initialisation}
use Rattle.machine_state.specs.shown_stacks.Shown.{ShowsStack, offset_at}
use Rattle.machine_state.specs.declared.state.Shared.{Shared}
use Rattle.machine_state.specs.state_events.Whole.{ShowsStacks}
use Rattle.machine.specs.Machines.{MachineOf}
use Rattle.machine.specs.schedule_runs.Done.{HasDone}
use Rattle.machine.specs.top_frames.Tops.{GoesOnIf}
use Rattle.program_runs.specs.traced_runs.Traces.{stack_at}
use Rattle.place_runs.proofs.Kept.{stack_of_words}
use Rattle.place_texts.specs.Places.{PlaceOf}
use Rattle.code_places.specs.declared.points.Point.{Point}
use Rattle.code_places.specs.Points.{all_points, is_point}
use Rattle.place_runs.specs.Standing.{is_at, is_on_top}
use Rattle.place_runs.specs.Shown.{IsTopAt, has_point}
use Rattle.place_runs.proofs.Pointed.{pointed}

-- ---- a stack

module _ (trees : Program) (p : LinkedProgram) (place : PlaceOf) (points : List Point) (are : points ≡ all_points trees place) where
  seen : (shown : List ShownEntry) (stack : StackOf ℕ) (result : Bool) → ShowsStack trees p shown stack → IsTopAt p points shown result
      → result ≡ is_on_top trees place stack
  seen [] [] result shows top = top
  seen (Invocation shown ∷ others) (model.Invocation on_top ∷ stack) result shows top =
      top
      ∙ ap (λ (l : List Point). has_point l shown.method (offset_at p shown.method shown.place)) are
      ∙ ap (has_point (all_points trees place) shown.method) (sym shows.0.offset)
      ∙ pointed trees place on_top.place.offset shown.method on_top.method shows.0.method
  seen (Initialisation number at ∷ others) (model.Initialisation on_top phase ∷ stack) result shows top = top
  seen (Invocation shown ∷ others) (model.Initialisation on_top phase ∷ stack) result shows top = absurd shows.0
  seen (Initialisation number at ∷ others) (model.Invocation on_top ∷ stack) result shows top = absurd shows.0
  seen [] (entry ∷ stack) result shows top = absurd shows
  seen (shown ∷ others) [] result shows top = absurd shows

-- of a thread that is there, and of one that isn't
abbrev pub IsTopIf : LinkedProgram → List Point → Option (List ShownEntry) → Bool → Type 0
IsTopIf p points (Some stack) result = IsTopAt p points stack result
IsTopIf p points None result = result ≡ false

module _ (trees : Program) (p : LinkedProgram) (place : PlaceOf) (points : List Point) (are : points ≡ all_points trees place) where
  seen_at : (shown : List (List ShownEntry)) (stacks : List (StackOf ℕ)) (t : ℕ) (result : Bool) → ShowsStacks trees p shown stacks
      → IsTopIf p points (slice_get shown t) result → result ≡ is_on_top trees place (unwrap_or (slice_get stacks t) [])
  seen_at [] [] t result shows top = top
  seen_at (shown ∷ others) (stack ∷ stacks) zero result shows top = seen trees p place points are shown stack result shows.0 top
  seen_at (shown ∷ others) (stack ∷ stacks) (suc t) result shows top = seen_at others stacks t result shows.1 top
  seen_at [] (stack ∷ stacks) t result shows top = absurd shows
  seen_at (shown ∷ others) [] t result shows top = absurd shows

-- ---- words and values

on_words : {A B : Type 0} (f : A → B) (trees : Program) (place : PlaceOf) (stack : StackOf A) → is_on_top trees place (map_stack f stack) ≡ is_on_top trees place stack
on_words f trees place [] = refl
on_words f trees place (model.Invocation frame ∷ stack) = refl
on_words f trees place (model.Initialisation class phase ∷ stack) = refl

-- ---- whether a thread goes on

no_none : {A : Type 0} (pending : Option A) → (pending ≡ None → ⊥) → is_none pending ≡ false
no_none None differs = absurd (differs refl)
no_none (Some x) differs = refl

not_going : (status : ThreadStatus) (pending : Option ℕ) → ((status ≡ model.Running) × (pending ≡ None) → ⊥) → is_going status pending ≡ false
not_going model.Running pending h = no_none pending (λ none. h (refl, none))
not_going (model.Waiting object count) pending h = refl
not_going (model.Relock object count cause) pending h = refl
not_going (model.Ended exception) pending h = refl

going : (threads : List Thread) (t : ℕ) (b : Bool) → GoesOnIf b threads t → b ≡ is_going (row_of_thread threads t).status (row_of_thread threads t).pending
going threads t true h =
    sym (ap (λ (s : ThreadStatus). is_going s (row_of_thread threads t).pending) h.0 ∙ ap (λ (o : Option ℕ). is_going model.Running o) h.1)
going threads t false h = sym (not_going (row_of_thread threads t).status (row_of_thread threads t).pending h)

-- ---- a thread of a machine

module _ (m : MachineOf) (t : ℕ) (points : List Point) (files : List (List ℕ)) (trees : Program) (done : List Event) (has : HasDone m files trees done) (place : PlaceOf)
    (are : points ≡ all_points trees place) where
  on_top : (result : Bool) → IsTopIf m.program points (slice_get m.shared.stacks.items t) result → result ≡ is_on_top trees place (unwrap_or (slice_get has.run.lead.state.stacks t) [])
  on_top result top =
      let at = has.run.at in
      let state = has.run.lead.state in
      let words : stack_at at t ≡ map_stack word_of (stack_at state t) = ap (λ (s : StateOf ℕ). stack_at s t) has.run.lead.are.are ∙ stack_of_words state t in
      seen_at trees m.program place points are m.shared.stacks.items at.stacks t result has.run.shown.stacks top
      ∙ ap (is_on_top trees place) words ∙ on_words word_of trees place (stack_at state t)

  goes : (b : Bool) → GoesOnIf b m.shared.threads.threads t → b ≡ is_going (thread_at has.run.lead.state.world t).status (thread_at has.run.lead.state.world t).pending
  goes b h =
      let at = has.run.at in
      let state = has.run.lead.state in
      let row : row_of_thread m.shared.threads.threads t ≡ thread_at at.world t = ap (λ (threads : List Thread). row_of_thread threads t) has.run.shown.represents.world_is.threads in
      let same : thread_at at.world t ≡ thread_at state.world t = ap (λ (s : StateOf ℕ). thread_at s.world t) has.run.lead.are.are in
      going m.shared.threads.threads t b h
      ∙ ap (λ (thread : Thread). is_going thread.status thread.pending) (row ∙ same)

  pub stands : (b top : Bool) → GoesOnIf b m.shared.threads.threads t → IsTopIf m.program points (slice_get m.shared.stacks.items t) top
      → (b && top) ≡ is_at trees place has.run.lead.state t
  stands b top h is = ap (λ x. x && top) (goes b h) ∙ ap (λ x. is_going (thread_at has.run.lead.state.world t).status (thread_at has.run.lead.state.world t).pending && x) (on_top top is)

  pub no_stack : slice_get m.shared.stacks.items t ≡ None → false ≡ is_at trees place has.run.lead.state t
  no_stack none =
      let top : IsTopIf m.program points (slice_get m.shared.stacks.items t) false = subst (λ (o : Option (List ShownEntry)). IsTopIf m.program points o false) (sym none) refl in
      let state = has.run.lead.state in
      sym (ap (λ x. is_going (thread_at state.world t).status (thread_at state.world t).pending && x) (sym (on_top false top)) ∙ and_false (is_going (thread_at state.world t).status (thread_at state.world t).pending))
    where
      and_false : (b : Bool) → (b && false) ≡ false
      and_false true = refl
      and_false false = refl
