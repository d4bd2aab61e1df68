-- Which events are enabled.
use Rattle.std.proofs.Common.{◌≡◌, ℕ, zero, suc, List, [], ◌∷◌, Option, Some, None, Bool, true, false, not, if◌then◌else◌, refl, sym, ap, subst, ◌∙◌, arith}
use Rattle.std.specs.Prelude.{nat_lt, slice_get}
use Rattle.std.specs.Option.{option_and_then}
use Rattle.std.proofs.lemmas.Bool.{lt-ltb}
use Rattle.model.specs.declared.class_file.ExceptionEntry.{ExceptionEntry}
use Rattle.model.specs.Names.{Name, java_lang_error, initialiser_of}
use Rattle.model.specs.ReferenceTypes.{ReferenceType, ClassType}
use Rattle.model.specs.Types.{is_object_of}
use Rattle.model.specs.Classes.{Program, Body, body_of}
use Rattle.model.specs.ClassInitialisation.{Look, IsReady, IsNew, IsHeld, HasFailed, is_held, look_at, look_by, status_of}
use Rattle.model.specs.ClassInitialisation as initialisation
use Rattle.model.specs.Monitors as monitors
use Rattle.model.specs.Operands.{words}
use Rattle.model.specs.Outcomes.{Cost, StackOverflow, IllegalMonitorState}
use Rattle.model.specs.Frames.{frame_count}
use Rattle.model.specs.Report as report
use Rattle.model.specs.Report.{ThreadEnd}
use Rattle.model.specs.State.{FrameOf, Invocation, Initialisation, Super, End, Erroneous, Monitor, StackOf, StackEntryOf, StateOf, WakeCause, Notified, Interrupted, Running, WorldOf}
use Rattle.model.specs.Worlds.{is_done, may_enter, entry_cost, with_entry, with_exit, with_monitors, with_status, is_owner}
use Rattle.model.specs.Step as step
use Rattle.model.specs.Step.{SteppedOf, NotEnabled, WrongKind, Next, PartOf, part, is_enabled_by, settled, with_part, enabled_if, needing, needing_class, entering, pushed, leaving, unwound, failed, handler_in, initialiser_event, before, initialisation_event, pending_event, after_wait, relock_event, thread_event, thread_at}
use Rattle.run_laws.specs.word_reports.Reports.{may_step_of}
use Rattle.machine_state.specs.linked_frames.Frames.{event_of}
use Rattle.machine.specs.thread_standings.Parts.{end_by, call_may_begin}
use Rattle.machine_threads.specs.declared.waiting_instructions.kinds.Standing.{Standing}
use Rattle.machine_threads.specs.declared.waiting_instructions.kinds.Standing.TheVariants as standing
use Rattle.machine_threads.specs.waiting_instructions.Waits.{IsEnd}

-- ---- what an enabled event says

pub ends_on : (trees : Program) (x : SteppedOf (PartOf ℕ)) (w : ThreadEnd) → is_enabled_by x ≡ true
    → IsEnd trees standing.Runnable (end_by x w)
ends_on trees x w e = ap (λ b. if b then report.Runnable else w) e

pub ends_off : (trees : Program) (result : Standing) (x : SteppedOf (PartOf ℕ)) (w : ThreadEnd) → is_enabled_by x ≡ false
    → IsEnd trees result w → IsEnd trees result (end_by x w)
ends_off trees result x w e h = subst (λ b. IsEnd trees result (if b then report.Runnable else w)) (sym e) h

pub ends_waiting : (trees : Program) (x : SteppedOf (PartOf ℕ)) (w : ThreadEnd) → is_enabled_by x ≡ false → end_by x w ≡ w
ends_waiting trees x w e = ap (λ b. if b then report.Runnable else w) e

-- ---- the whole event of a thread

settled_same : (t : ℕ) (x : SteppedOf (PartOf ℕ)) → is_enabled_by (settled t x) ≡ is_enabled_by x
settled_same t NotEnabled = refl
settled_same t WrongKind = refl
settled_same t (Next cost next) = refl

part_same : (state : StateOf ℕ) (t : ℕ) (x : SteppedOf (PartOf ℕ)) → is_enabled_by (with_part state t x) ≡ is_enabled_by x
part_same state t NotEnabled = refl
part_same state t WrongKind = refl
part_same state t (Next cost next) = refl

pub may_is : (trees : Program) (frames : ℕ) (state : StateOf ℕ) (t : ℕ) (own : StackOf ℕ) → slice_get state.stacks t ≡ Some own
    → may_step_of words trees frames state t
    ≡ is_enabled_by (thread_event words trees frames (event_of t) state.world own (thread_at state.world t).status)
may_is trees frames state t own e =
    ap (λ (o : Option (StackOf ℕ)). is_enabled_by (step.event_of words trees frames state (event_of t) o)) e
    ∙ part_same state t (settled t (thread_event words trees frames (event_of t) state.world own (thread_at state.world t).status))
    ∙ settled_same t (thread_event words trees frames (event_of t) state.world own (thread_at state.world t).status)

-- ---- conditions

enabled_next : (b : Bool) (cost : Cost) (next : PartOf ℕ) → is_enabled_by (enabled_if b (Next cost next)) ≡ b
enabled_next true cost next = refl
enabled_next false cost next = refl

-- ---- classes

needed : (trees : Program) (t : ℕ) (class : Name) (l : Look) (world : WorldOf ℕ) (stack : StackOf ℕ) (rest : SteppedOf (PartOf ℕ))
    → is_enabled_by rest ≡ true
    → is_enabled_by (needing words trees t class l world stack rest) ≡ not (is_held l)
needed trees t class IsReady world stack rest e = e
needed trees t class IsNew world stack rest e = refl
needed trees t class IsHeld world stack rest e = refl
needed trees t class HasFailed world stack rest e = refl

needed_class : (trees : Program) (t : ℕ) (o : Option Name) (world : WorldOf ℕ) (stack : StackOf ℕ) (rest : SteppedOf (PartOf ℕ))
    → is_enabled_by rest ≡ true
    → is_enabled_by (needing_class words trees t o world stack rest) ≡ not (is_held (look_at t world o))
needed_class trees t None world stack rest e = e
needed_class trees t (Some class) world stack rest e = needed trees t class (look_by t (status_of world class)) world stack rest e

-- the initialiser enters no monitor
unentered : (trees : Program) (frames t : ℕ) (world : WorldOf ℕ) (stack : StackOf ℕ) (frame : FrameOf ℕ) → frame.entered ≡ None
    → is_enabled_by (pushed words trees frames t world world stack stack frame) ≡ true
unentered trees frames t world stack frame none = by (nat_lt (frame_count stack) frames)
  where
    by : (b : Bool) → is_enabled_by (if b then entering t world stack frame frame.entered else step.raised words trees t StackOverflow world stack)
        ≡ true
    by true = ap (λ (o : Option ℕ). is_enabled_by (entering t world stack frame o)) none
    by false = refl

initialiser_enabled : (trees : Program) (frames t : ℕ) (class : Name) (world : WorldOf ℕ) (stack : StackOf ℕ) (o : Option Body)
    → is_enabled_by (initialiser_event words trees frames t (initialiser_of class) world stack o) ≡ true
initialiser_enabled trees frames t class world stack None = refl
initialiser_enabled trees frames t class world stack (Some body) = unentered trees frames t world stack _ refl

pub super_enabled : (trees : Program) (frames t : ℕ) (class : Name) (world : WorldOf ℕ) (rest : StackOf ℕ) (o : Option Name)
    → before trees class ≡ o
    → is_enabled_by (initialisation_event words trees frames t class Super world rest) ≡ not (is_held (look_at t world o))
super_enabled trees frames t class world rest o e =
    needed_class trees t (before trees class) world (Initialisation class Super ∷ rest) _
    (initialiser_enabled trees frames t class world (Initialisation class End ∷ rest) (body_of trees (initialiser_of class)))
    ∙ ap (λ p. not (is_held (look_at t world p))) e

-- ---- the first call of a thread

pub push_enabled : (trees : Program) (frames t : ℕ) (world after : WorldOf ℕ) (frame : FrameOf ℕ) (locks : List Monitor) → locks ≡ after.monitors
    → call_may_begin locks t frames frame.entered ≡ is_enabled_by (pushed words trees frames t world after [] [] frame)
push_enabled trees zero t world after frame locks e = refl
push_enabled trees (suc n) t world after frame locks e =
    let room : nat_lt 0 (suc n) ≡ true = lt-ltb 0 (suc n) (omega arith) in
    by frame.entered ∙ sym (ap (λ b. is_enabled_by (if b then entering t after [] frame frame.entered else step.raised words trees t StackOverflow world [])) room)
  where
    by : (o : Option ℕ) → call_may_begin locks t (suc n) o ≡ is_enabled_by (entering t after [] frame o)
    by None = refl
    by (Some object) =
        ap (λ (ms : List Monitor). is_done (monitors.enter object t ms).answer) e
        ∙ sym (enabled_next (may_enter after t object) (entry_cost after object) (part (with_entry after t object) (Invocation frame ∷ [])))

-- ---- a pending exception

left : (trees : Program) (t : ℕ) (o : Option ℕ) (world : WorldOf ℕ) (rest stack : StackOf ℕ) → is_enabled_by (leaving words trees t o world rest stack) ≡ true
left trees t None world rest stack = refl
left trees t (Some object) world rest stack = by (is_owner world t object)
  where
    by : (b : Bool) → is_enabled_by (if b then step.on_to (with_exit world t object) rest else step.raised words trees t IllegalMonitorState world
        stack) ≡ true
    by true = refl
    by false = refl

unwinds : (trees : Program) (t exception : ℕ) (world : WorldOf ℕ) (frame : FrameOf ℕ) (stack : StackOf ℕ) (o : Option ExceptionEntry)
    → is_enabled_by (unwound words trees t exception world frame stack o) ≡ true
unwinds trees t exception world frame stack None = left trees t frame.entered world stack stack
unwinds trees t exception world frame stack (Some entry) = refl

fails : (trees : Program) (t exception : ℕ) (b : Bool) (world : WorldOf ℕ) (stack : StackOf ℕ)
    → is_enabled_by (failed words trees t exception b world stack) ≡ true
fails trees t exception true world stack = refl
fails trees t exception false world stack = refl

pub pending_enabled : (trees : Program) (t exception : ℕ) (thrown : Option ReferenceType) (world : WorldOf ℕ) (entry : StackEntryOf ℕ)
    (stack : StackOf ℕ)
    → is_enabled_by (pending_event words trees t exception thrown world (entry ∷ stack)) ≡ true
pending_enabled trees t exception thrown world (Invocation frame) stack =
    unwinds trees t exception world frame stack (option_and_then (handler_in trees frame.place.offset thrown) (body_of trees frame.method))
pending_enabled trees t exception thrown world (Initialisation class phase) stack =
    fails trees t exception (is_object_of trees (ClassType java_lang_error) thrown) (initialisation.with_class_status world class Erroneous) stack

-- ---- a thread that has left a wait set

goes_on : (trees : Program) (t : ℕ) (cause : WakeCause) (b : Bool) (world : WorldOf ℕ) (stack : StackOf ℕ)
    → is_enabled_by (enabled_if b (after_wait words trees t cause world stack)) ≡ b
goes_on trees t Notified true world stack = refl
goes_on trees t Interrupted true world stack = refl
goes_on trees t cause false world stack = refl

pub relock_enabled : (trees : Program) (t object count : ℕ) (cause : WakeCause) (world : WorldOf ℕ) (stack : StackOf ℕ)
    (locks : List Monitor) → locks ≡ world.monitors
    → is_done (monitors.relock object t count locks).answer ≡ is_enabled_by (relock_event words trees t object count cause world stack)
relock_enabled trees t object count cause world stack locks e =
    ap (λ (ms : List Monitor). is_done (monitors.relock object t count ms).answer) e
    ∙ sym (goes_on trees t cause (is_done (monitors.relock object t count world.monitors).answer) (with_status (with_monitors world (monitors.relock object t count world.monitors)) t Running) stack)
