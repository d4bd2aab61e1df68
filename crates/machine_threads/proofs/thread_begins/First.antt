-- The first frame of a thread, in the world in which it has begun.
use Rattle.std.proofs.Common.{◌≡◌, ℕ, zero, suc, List, [], ◌∷◌, Option, Some, None, Bool, true, false, if◌then◌else◌, Ok, Err, length, refl, sym, ap, ◌∙◌, arith, inl, inr}
use Rattle.std.specs.Prelude.{slice_set, slice_index_or, nat_lt}
use Rattle.std.proofs.lemmas.Bool.{false≢true, lt-ltb}
use Rattle.model.specs.Operands.{words}
use Rattle.model.specs.Classes.{Program}
use Rattle.model.specs.State.{FrameOf, Invocation, StackOf, WorldOf, Thread, new_thread}
use Rattle.model.specs.Outcomes.{StackOverflow, Cost}
use Rattle.model.specs.LimitStands.{Bounds}
use Rattle.model.specs.Worlds.{with_begun, with_entry, entry_cost, may_enter}
use Rattle.model.specs.Step.{SteppedOf, NotEnabled, WrongKind, Next, PartOf, part, enabled_if, raised, entering, pushed}
use Rattle.linked_code.specs.declared.program.LinkedProgram.{LinkedProgram}
use Rattle.thread_stacks.specs.Stacks.{ShownEntry}
use Rattle.machine_state.specs.declared.answers.Effect.{Effect}
use Rattle.machine_state.specs.declared.answers.Effect.TheVariants as effect
use Rattle.machine_state.specs.declared.refusals.EventRefusal.{EventRefusal}
use Rattle.machine_state.specs.declared.state.Shared.{Shared}
use Rattle.machine_state.specs.Shown.{Represents}
use Rattle.machine_state.specs.Events.{AreStacksAdded, IsDone}
use Rattle.machine_state.specs.Instructions.{Does}
use Rattle.machine_threads.specs.thread_begins.First.{begun_by}

-- ---- a step, and the same one of a thread that has begun then

abbrev then_begun : ℕ → SteppedOf (PartOf ℕ) → SteppedOf (PartOf ℕ)
then_begun t NotEnabled = NotEnabled
then_begun t WrongKind = WrongKind
then_begun t (Next cost next) = Next cost (part (with_begun next.world t) next.stack)

enabled_begun : (t : ℕ) (b : Bool) (cost : Cost) (next : PartOf ℕ)
    → then_begun t (enabled_if b (Next cost next)) ≡ enabled_if b (Next cost (part (with_begun next.world t) next.stack))
enabled_begun t true cost next = refl
enabled_begun t false cost next = refl

entering_begun : (t : ℕ) (world : WorldOf ℕ) (frame : FrameOf ℕ) (entered : Option ℕ)
    → then_begun t (entering t world [] frame entered) ≡ entering t (with_begun world t) [] frame entered
entering_begun t world frame None = refl
entering_begun t world frame (Some object) = enabled_begun t (may_enter world t object) (entry_cost world object) (part (with_entry world t object) (Invocation frame ∷ []))

-- the stack is empty after it
abbrev is_empty : StackOf ℕ → Bool
is_empty [] = true
is_empty (entry ∷ stack) = false

abbrev leaves_empty : SteppedOf (PartOf ℕ) → Bool
leaves_empty NotEnabled = false
leaves_empty WrongKind = false
leaves_empty (Next cost next) = is_empty next.stack

enabled_leaves : (b : Bool) (cost : Cost) (world : WorldOf ℕ) (frame : FrameOf ℕ)
    → leaves_empty (enabled_if b (Next cost (part world (Invocation frame ∷ [])))) ≡ false
enabled_leaves true cost world frame = refl
enabled_leaves false cost world frame = refl

entering_leaves : (t : ℕ) (world : WorldOf ℕ) (frame : FrameOf ℕ) (entered : Option ℕ)
    → leaves_empty (entering t world [] frame entered) ≡ false
entering_leaves t world frame None = refl
entering_leaves t world frame (Some object) = enabled_leaves (may_enter world t object) (entry_cost world object) (with_entry world t object) frame

some_room : (frames : ℕ) → (frames ≡ 0 → ⊥) → nat_lt 0 frames ≡ true
some_room zero h = absurd (h refl)
some_room (suc n) h = lt-ltb 0 (suc n) (omega arith)

length_set : {A : Type 0} (xs : List A) (k : ℕ) (x : A) → length (slice_set xs k x) ≡ length xs
length_set [] k x = refl
length_set (y ∷ ys) zero x = refl
length_set (y ∷ ys) (suc k) x = ap suc (length_set ys k x)

-- ---- what is shown

abbrev begun_threads : ℕ → List Thread → List Thread
begun_threads t threads = slice_set threads t (record (slice_index_or threads t (new_thread 0)) { begun = true })

begun_shown : (trees : Program) (p : LinkedProgram) (bounds : Bounds) (t : ℕ) (new : Shared) (world : WorldOf ℕ)
    → Represents trees p bounds new world
    → Represents trees p bounds (begun_by effect.Done t new) (with_begun world t)
begun_shown trees p bounds t new world r =
    record {
      world_is = record {
        objects = r.world_is.objects;
        counted = r.world_is.counted;
        monitors = r.world_is.monitors;
        statics = r.world_is.statics;
        statuses = r.world_is.statuses;
        ready = r.world_is.ready;
        threads = ap (begun_threads t) r.world_is.threads;
        printed = r.world_is.printed;
        interned = r.world_is.interned;
        unnamed = r.world_is.unnamed;
      };
      limits = record {
        opening = r.limits.opening;
        objects = r.limits.objects;
        cells = r.limits.cells;
        monitors = r.limits.monitors;
        threads = r.limits.threads;
      };
    }

still_added : (t : ℕ) (old new : Shared) → AreStacksAdded old new → AreStacksAdded old (begun_by effect.Done t new)
still_added t old new (inl h) = inl (record { stacks = h.stacks; threads = length_set new.threads.threads t _ ∙ h.threads })
still_added t old new (inr h) = inr (record { stacks = h.stacks; threads = length_set new.threads.threads t _ ∙ h.threads })

-- ---- the call

module _ (trees : Program) (p : LinkedProgram) (bounds : Bounds) (inflated : List ℕ) (world : WorldOf ℕ) (t frames : ℕ) (frame : FrameOf ℕ)
    (old : Shared) (from : List ShownEntry) where
  abbrev called : SteppedOf (PartOf ℕ)
  called = pushed words trees frames t world world [] [] frame

  abbrev begins : SteppedOf (PartOf ℕ)
  begins = pushed words trees frames t world (with_begun world t) [] [] frame

  module _ (some : frames ≡ 0 → ⊥) where
    enters : (after : WorldOf ℕ) → pushed words trees frames t world after [] [] frame ≡ entering t after [] frame frame.entered
    enters after = ap (λ b. if b then entering t after [] frame frame.entered else raised words trees t StackOverflow world []) (some_room frames some)

    is_begun : then_begun t called ≡ begins
    is_begun = ap (then_begun t) (enters world) ∙ entering_begun t world frame frame.entered ∙ sym (enters (with_begun world t))

    not_raised : (other : SteppedOf (PartOf ℕ)) → leaves_empty other ≡ true → called ≡ other → ⊥
    not_raised other empty e = false≢true (sym (ap leaves_empty (enters world) ∙ entering_leaves t world frame frame.entered) ∙ ap leaves_empty e ∙ empty)

    done : (new : Shared) (to : List ShownEntry) → IsDone trees p bounds inflated world called old new to
        → IsDone trees p bounds inflated world begins old (begun_by effect.Done t new) to
    done new to d =
        record {
          cost = d.cost;
          next = part (with_begun d.next.world t) d.next.stack;
          is = sym is_begun ∙ ap (then_begun t) d.is;
          becomes = record {
            within = d.becomes.within;
            there = d.becomes.there;
            represents = begun_shown trees p bounds t new d.next.world d.becomes.represents;
            stack = d.becomes.stack;
            flags = d.becomes.flags;
            others = still_added t old new d.becomes.others;
          };
        }

    pub begun : (told : Effect) (new : Shared) (to : List ShownEntry)
        → Does trees p bounds inflated t world [] called (Ok told) old new from to
        → Does trees p bounds inflated t world [] begins (Ok told) old (begun_by told t new) from to
    begun effect.Done new to d = done new to d
    begun effect.NotEnabled new to d = (sym is_begun ∙ ap (then_begun t) d.0, d.1)
    begun (effect.Raises fault) new to d = absurd (not_raised _ refl d.0)
    begun (effect.Throws thrown) new to d = absurd (not_raised _ refl d.0)
    begun effect.Interrupts new to d = absurd (not_raised _ refl d.0)

    pub refused : (told : EventRefusal) (new : Shared) (to : List ShownEntry)
        → Does trees p bounds inflated t world [] called (Err told) old new from to
        → Does trees p bounds inflated t world [] begins (Err told) old new from to
    refused told new to d =
        (record { cost = d.0.cost; next = part (with_begun d.0.next.world t) d.0.next.stack; is = sym is_begun ∙ ap (then_begun t) d.0.is; may = d.0.may }, d.1)
