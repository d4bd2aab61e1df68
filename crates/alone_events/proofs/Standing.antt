-- What is seen of a thread is so in the state to which a run led.
use Rattle.std.proofs.Common.{◌≡◌, ℕ, zero, suc, List, [], ◌∷◌, length, map, Some, None, refl, sym, ap, ◌∙◌, subst}
use Rattle.std.specs.Prelude.{slice_get}
use Rattle.std.proofs.lemmas.List.{length-map}
use Rattle.std.proofs.lemmas.Option.{same_Some, none-some}
use Rattle.model.specs.declared.event.Event.{Event}
use Rattle.model.specs.declared.value.Value.{Value}
use Rattle.model.specs.Classes.{Program}
use Rattle.model.specs.LimitStands.{Bounds, inflated}
use Rattle.model.specs.Operands.{word_of}
use Rattle.model.specs.State as model
use Rattle.model.specs.State.{Thread, Running, Frame, StackOf, State, StateOf}
use Rattle.model.specs.Words.{map_stack}
use Rattle.model.specs.Worlds.{thread_at}
use Rattle.heap.specs.java_threads.Table.{thread_at as row_at}
use Rattle.linked_code.specs.declared.program.LinkedProgram.{LinkedProgram}
use Rattle.thread_stacks.specs.Stacks.{ShownFrame, ShownEntry, Invocation, Initialisation, IsTopFrame}
use Rattle.machine_state.specs.declared.state.Shared.{Shared}
use Rattle.machine_state.specs.shown_stacks.Shown.{ShowsStack}
use Rattle.machine_state.specs.shown_runs.Runs.{HasRun}
use Rattle.machine_state.specs.state_events.Whole.{AreStacksLent, HasOwn}
use Rattle.machine_state.proofs.state_events.Places.{set_same}
use Rattle.alone_events.specs.declared.seen.Seen.{Seen}
use Rattle.alone_events.specs.Seen.{RunsInFrame}

get_map : {A B : Type 0} (f : A → B) (xs : List A) (k : ℕ) (y : B) → slice_get (map f xs) k ≡ Some y → (x : A) × ((slice_get xs k ≡ Some x) × (f x ≡ y))
get_map f [] k y e = absurd (none-some y e)
get_map f (x ∷ xs) zero y e = (x, (refl, same_Some (f x) y e))
get_map f (x ∷ xs) (suc k) y e = get_map f xs k y e

module _ (trees : Program) (p : LinkedProgram) where
  as_long : (shown : List ShownEntry) (stack : StackOf ℕ) → ShowsStack trees p shown stack → length shown ≡ length stack
  as_long [] [] h = refl
  as_long (s ∷ shown) (e ∷ stack) h = ap suc (as_long shown stack h.1)
  as_long [] (e ∷ stack) h = absurd h
  as_long (s ∷ shown) [] h = absurd h

  -- ---- a stack with a frame on top

  pub record StandsIn (state : State) (t : ℕ) (s : Seen) : Type 0 where
    pub frame : Frame
    pub below : StackOf Value
    pub there : slice_get state.stacks t ≡ Some (model.Invocation frame ∷ below)
    pub status : (thread_at state.world t).status ≡ Running
    pub pending : (thread_at state.world t).pending ≡ None
    pub entries : s.entries ≡ suc (length below)
    pub entered : s.entered ≡ frame.entered

  module _ (bounds : Bounds) (shared : Shared) (events : List Event) (has : HasRun trees p bounds shared events) (lend : AreStacksLent) (t : ℕ) (s : Seen)
      (r : RunsInFrame shared t s) where
    abbrev state : State
    state = has.lead.state

    own : HasOwn trees p bounds (inflated trees bounds.frames events) t shared r.stack has.at
    own =
        lend trees p bounds (inflated trees bounds.frames events) shared has.at has.shown t r.stack r.is_stack r.stack shared
        (record { rest = refl; stacks = sym (set_same shared.stacks.items t r.stack r.is_stack) })

    row_is : row_at shared.threads.threads t ≡ thread_at state.world t
    row_is = ap (λ (threads : List Thread). row_at threads t) (own.lends.represents.world_is.threads ∙ ap (λ (w : StateOf ℕ). w.world.threads) has.lead.are.are)

    by_stack : (v : StackOf Value) (shown : List ShownEntry) → slice_get state.stacks t ≡ Some v → ShowsStack trees p shown (map_stack word_of v)
        → IsTopFrame shown (Some r.is_in.shown) → s.entries ≡ length shown → StandsIn state t s
    by_stack [] [] there shows top count = absurd cc
    by_stack [] (entry ∷ others) there shows top count = absurd shows
    by_stack (e ∷ below) [] there shows top count = absurd shows
    by_stack (e ∷ below) (Initialisation class phase ∷ others) there shows top count = absurd cc
    by_stack (model.Initialisation class phase ∷ below) (Invocation shown ∷ others) there shows top count = absurd shows.0
    by_stack (model.Invocation frame ∷ below) (Invocation shown ∷ others) there shows top count =
        record {
          frame = frame;
          below = below;
          there = there;
          status = sym (ap (λ (thread : Thread). thread.status) row_is) ∙ r.goes.0;
          pending = sym (ap (λ (thread : Thread). thread.pending) row_is) ∙ r.goes.1;
          entries = count ∙ ap suc (as_long others (map_stack word_of below) shows.1 ∙ length-map below _);
          entered = r.is_in.entered ∙ (ap (λ (f : ShownFrame). f.entered) (same_Some r.is_in.shown shown top) ∙ sym shows.0.entered);
        }

    pub stands_in : StandsIn state t s
    stands_in =
        let w = ap (λ (a : StateOf ℕ). slice_get a.stacks t) (sym has.lead.are.are) ∙ own.is in
        let v = get_map (map_stack word_of) state.stacks t own.own w in
        by_stack v.0 r.stack v.1.0 (subst (ShowsStack trees p r.stack) (sym v.1.1) own.lends.shows_stack) r.is_in.top r.is_in.entries
