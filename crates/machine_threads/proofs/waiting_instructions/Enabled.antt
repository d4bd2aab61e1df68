-- When events are enabled: by the limit of frames, and by the monitor that a new frame enters.
use Rattle.std.proofs.Common.{◌≡◌, ◌<◌, ◌≤◌, ℕ, List, ◌∷◌, Option, Some, None, Bool, true, false, if◌then◌else◌, refl, sym, ap, ◌∙◌, arith}
use Rattle.std.proofs.lemmas.Bool.{le-ltb, lt-ltb}
use Rattle.model.specs.Operands.{words}
use Rattle.model.specs.Classes.{Program}
use Rattle.model.specs.LimitStands.{Bounds}
use Rattle.model.specs.Outcomes.{OutcomeOf, Goes, Raises, Throws, Interrupts, Calls, Returns, Waits, StackOverflow}
use Rattle.model.specs.State.{FrameOf, StackOf, WorldOf, Invocation}
use Rattle.model.specs.Worlds.{may_enter, with_entry, entry_cost}
use Rattle.model.specs.Frames as frames
use Rattle.model.specs.Step.{SteppedOf, Next, PartOf, part, is_enabled_by, enabled_if, raised, entering, pushed, become}
use Rattle.linked_code.specs.declared.program.LinkedProgram.{LinkedProgram}
use Rattle.thread_stacks.specs.Stacks.{ShownEntry, frame_count}
use Rattle.machine_state.specs.shown_stacks.Shown.{ShowsStack}
use Rattle.machine_state.proofs.shown_stacks.Laws.{counted}
use Rattle.machine_state.specs.declared.state.Shared.{Shared}
use Rattle.machine_state.specs.Shown.{Represents}
use Rattle.machine_state.specs.invocations.Entering.{may_begin, SaysMayBegin}
use Rattle.machine_threads.specs.declared.waiting_instructions.kinds.Standing.{Standing}
use Rattle.machine_threads.specs.declared.waiting_instructions.kinds.Standing.TheVariants as standing
use Rattle.machine_threads.specs.waiting_instructions.Held.{StandsBy}
use Rattle.machine_threads.proofs.waiting_instructions.Quick.{stays_enabled}

-- ---- a new frame

pub overflows : (trees : Program) (limit t : ℕ) (world after : WorldOf ℕ) (own rest : StackOf ℕ) (frame : FrameOf ℕ) → limit ≤ frames.frame_count own
    → is_enabled_by (pushed words trees limit t world after own rest frame) ≡ true
overflows trees limit t world after own rest frame full =
    ap (λ b. is_enabled_by (if b then entering t after rest frame frame.entered else raised words trees t StackOverflow world own)) (le-ltb (frames.frame_count own) limit full)

entering_enabled : (t : ℕ) (world : WorldOf ℕ) (rest : StackOf ℕ) (frame : FrameOf ℕ) (entered : Option ℕ)
    → is_enabled_by (entering t world rest frame entered) ≡ may_begin world t entered
entering_enabled t world rest frame None = refl
entering_enabled t world rest frame (Some object) = by (may_enter world t object)
  where
    by : (b : Bool) → is_enabled_by (enabled_if b (Next (entry_cost world object) (part (with_entry world t object) (Invocation frame
        ∷ rest)))) ≡ b
    by true = refl
    by false = refl

-- where there is room, by its monitor
pub entering_is : (trees : Program) (limit t : ℕ) (world : WorldOf ℕ) (own rest : StackOf ℕ) (frame : FrameOf ℕ) → frames.frame_count own < limit
    → is_enabled_by (pushed words trees limit t world world own rest frame) ≡ may_begin world t frame.entered
entering_is trees limit t world own rest frame room =
    ap (λ b. is_enabled_by (if b then entering t world rest frame frame.entered else raised words trees t StackOverflow world own)) (lt-ltb (frames.frame_count own) limit room)
    ∙ entering_enabled t world rest frame frame.entered

-- whether the thread may enter, by the locks that are kept
pub may_is : (trees : Program) (p : LinkedProgram) (bounds : Bounds) (world : WorldOf ℕ) (shared : Shared)
    → Represents trees p bounds shared world → (t : ℕ) (entered : Option ℕ) (answer : Bool) → SaysMayBegin answer t entered shared.heap
    → may_begin world t entered ≡ answer
may_is trees p bounds world shared represents t entered answer says = (λ i. may_begin (record world { monitors = sym represents.world_is.monitors i }) t entered) ∙ sym (says world)

pub count_is : (trees : Program) (p : LinkedProgram) (stack : List ShownEntry) (own : StackOf ℕ) → ShowsStack trees p stack own
    → (count : ℕ) → count ≡ frame_count stack → count ≡ frames.frame_count own
count_is trees p stack own shows count e = e ∙ counted trees p stack own shows

-- ---- at a limit of no frame

-- every outcome is enabled
pub unlimited : (trees : Program) (t : ℕ) (world : WorldOf ℕ) (frame : FrameOf ℕ) (rest : StackOf ℕ) (outcome : OutcomeOf ℕ)
    → is_enabled_by (become words trees 0 t world frame rest outcome) ≡ true
unlimited trees t world frame rest (Goes cost after slots to) = refl
unlimited trees t world frame rest (Raises fault) = refl
unlimited trees t world frame rest (Throws exception) = refl
unlimited trees t world frame rest Interrupts = refl
unlimited trees t world frame rest (Calls callee under) = overflows trees 0 t world world (Invocation frame ∷ rest) _ callee (omega arith)
unlimited trees t world frame rest (Returns after results) = stays_enabled trees 0 t world frame rest (Returns after results) tt
unlimited trees t world frame rest (Waits cost after under) = refl

-- so the event says there whether the instruction itself may be done
pub may_by : (trees : Program) (t : ℕ) (world : WorldOf ℕ) (frame : FrameOf ℕ) (rest : StackOf ℕ) (outcome : OutcomeOf ℕ) (may b : Bool)
    → is_enabled_by (enabled_if may (become words trees 0 t world frame rest outcome)) ≡ b → may ≡ b
may_by trees t world frame rest outcome true b h = sym (unlimited trees t world frame rest outcome) ∙ h
may_by trees t world frame rest outcome false b h = h

-- ---- how a thread stands

-- at an event that is the same
pub stands_same : (result : Standing) (limit : ℕ) (f g : ℕ → SteppedOf (PartOf ℕ)) → ((n : ℕ) → f n ≡ g n) → StandsBy result limit f
    → StandsBy result limit g
stands_same standing.Runnable limit f g same h = ap is_enabled_by (sym (same limit)) ∙ h
stands_same standing.Blocked limit f g same h = (ap is_enabled_by (sym (same limit)) ∙ h.0, ap is_enabled_by (sym (same 0)) ∙ h.1)
stands_same standing.Joining limit f g same h = (ap is_enabled_by (sym (same limit)) ∙ h.0, ap is_enabled_by (sym (same 0)) ∙ h.1)
stands_same standing.Ended limit f g same h = absurd h
stands_same (standing.Threw class) limit f g same h = absurd h
stands_same standing.Waiting limit f g same h = absurd h
stands_same standing.Initialising limit f g same h = absurd h
