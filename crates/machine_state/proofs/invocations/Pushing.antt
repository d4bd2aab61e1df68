-- A new frame on a stack, by whether there is room for it and what becomes of its monitor.
use Rattle.std.proofs.Common.{◌≡◌, ◌<◌, ◌≤◌, ℕ, List, [], ◌∷◌, Option, Some, None, Bool, true, false, if◌then◌else◌, Result, Ok, Err, length, take, drop, reverse, refl, sym, ap, subst, ◌∙◌, inl}
use Rattle.std.specs.Result.{IsErrAnd}
use Rattle.std.proofs.lemmas.Bool.{false≢true, le-ltb, lt-ltb}
use Rattle.model.specs.Names.{Member}
use Rattle.model.specs.Classes.{Program, Body}
use Rattle.model.specs.Operands.{words}
use Rattle.model.specs.State.{FrameOf, Invocation, StackOf, WorldOf}
use Rattle.model.specs.Outcomes.{StackOverflow}
use Rattle.model.specs.LimitStands.{Bounds}
use Rattle.model.specs.Worlds.{may_enter}
use Rattle.model.specs.Frames as frames
use Rattle.model.specs.Frames.{frame_with, at_call}
use Rattle.model.specs.Step.{SteppedOf, Next, PartOf, part, enabled_if, raised, entering, pushed}
use Rattle.heap.specs.Heap.{Heap}
use Rattle.heap.specs.monitor_events.Events.{Enters}
use Rattle.machine_state.specs.limits_at_words.FatLocks.{IsOneOf}
use Rattle.linked_code.specs.declared.program.LinkedProgram.{LinkedProgram}
use Rattle.thread_stacks.specs.declared.entry.Callee.{Callee}
use Rattle.thread_stacks.specs.Stacks as shown
use Rattle.thread_stacks.specs.Stacks.{ShownEntry, frame_count, begun, called}
use Rattle.machine_state.specs.shown_stacks.Shown.{ShowsStack, IsCallee}
use Rattle.machine_state.proofs.shown_stacks.Laws.{counted, begin, call}
use Rattle.machine_state.specs.declared.answers.MachineException.TheVariants as exception
use Rattle.machine_state.specs.declared.answers.Effect.{Effect}
use Rattle.machine_state.specs.declared.answers.Effect.TheVariants as effect
use Rattle.machine_state.specs.declared.refusals.EventRefusal.{EventRefusal}
use Rattle.machine_state.specs.declared.refusals.EventRefusal.TheVariants as refusal
use Rattle.machine_state.specs.declared.state.Shared.{Shared}
use Rattle.machine_state.specs.Events.{MayBeRefused}
use Rattle.machine_state.specs.Memory.{takes_shared, shown_counts, takes_memory}
use Rattle.machine_state.proofs.Memory.{or_left, refused_if, grown_by_one, takes_by_growth}
use Rattle.machine_state.specs.Instructions.{Does}
use Rattle.machine_state.specs.entries.Entered.{IsShared, EntersIn}
use Rattle.machine_state.proofs.entries.Entering.{entries_shown}
use Rattle.machine_state.specs.invocations.Entering.{IsThere, may_begin, begin_cost, with_begin, SaysMayBegin, EntersBy, EntersFor}

-- the object whose monitor is entered is there
one_is_there : (world : WorldOf ℕ) (heap : Heap) (entered : Option ℕ) → IsThere entered heap
    → IsOneOf (begin_cost world entered) (length heap.locks.monitors)
one_is_there world heap None there = tt
one_is_there world heap (Some object) there = there

entering_is : (t : ℕ) (world : WorldOf ℕ) (rest : StackOf ℕ) (frame : FrameOf ℕ) (entered : Option ℕ)
    → entering t world rest frame entered ≡ enabled_if (may_begin world t entered)
    (Next (begin_cost world entered) (part (with_begin world t entered) (Invocation frame ∷ rest)))
entering_is t world rest frame None = refl
entering_is t world rest frame (Some object) = refl

-- a monitor that no other thread owns is entered
module _ (trees : Program) (p : LinkedProgram) (bounds : Bounds) (inflated : List ℕ) (world : WorldOf ℕ) (old : Shared)
    (s : IsShared trees p bounds inflated old world) (t object : ℕ) where
  entered_by : (did : Bool) (heap : Heap) → EntersIn trees p bounds inflated world t object (Ok did) old (record old { heap = heap })
      → may_enter world t object ≡ true
      → EntersBy trees p bounds inflated world (Ok tt) t (Some object) old (record old { heap = heap })
  entered_by true heap e may = (e.1, refl)
  entered_by false heap e may = absurd (false≢true (sym e.0 ∙ may))

  pub enters_ok : (entered : Option ℕ) → entered ≡ Some object → (did : Bool) (heap : Heap) → Enters (Ok did) object t old.heap heap
      → may_begin world t entered ≡ true
      → EntersBy trees p bounds inflated world (Ok tt) t entered old (record old { heap = heap })
  enters_ok entered is did heap e =
      subst (λ o. may_begin world t o ≡ true → EntersBy trees p bounds inflated world (Ok tt) t o old (record old { heap = heap })) (sym is)
      (entered_by did heap (entries_shown trees p bounds inflated world old (record old { heap = heap }) s t object (Ok did) e refl))

module _ (trees : Program) (p : LinkedProgram) (bounds : Bounds) (inflated : List ℕ) (world : WorldOf ℕ) (old : Shared)
    (s : IsShared trees p bounds inflated old world)
    (t limit : ℕ) (from : List ShownEntry) (own rest : StackOf ℕ) (shows : ShowsStack trees p from own) (frame : FrameOf ℕ) where
  abbrev stepped : SteppedOf (PartOf ℕ)
  stepped = pushed words trees limit t world world own rest frame

  abbrev after : PartOf ℕ
  after = part (with_begin world t frame.entered) (Invocation frame ∷ rest)

  abbrev next : SteppedOf (PartOf ℕ)
  next = Next (begin_cost world frame.entered) after

  abbrev takes : Bool
  takes = takes_memory world (shown_counts from) (begin_cost world frame.entered) after

  abbrev Comes : Result Effect EventRefusal → Shared → List ShownEntry → Type 0
  Comes result new to = Does trees p bounds inflated t world own stepped result old new from to

  -- there are as many frames as may be
  pub overflows : (count : ℕ) → count ≡ frame_count from → limit ≤ count → Comes (Ok (effect.Raises exception.StackOverflow)) old from
  overflows count is full = (
    ap (λ b. if b then entering t world rest frame frame.entered else raised words trees t StackOverflow world own)
        (le-ltb (frames.frame_count own) limit (subst (λ n. limit ≤ n) (is ∙ counted trees p from own shows) full)),
    record { shared = refl; stack = refl },
  )

  -- there is room
  module _ (count : ℕ) (is : count ≡ frame_count from) (room : count < limit) where
    pushes : stepped ≡ enabled_if (may_begin world t frame.entered) next
    pushes =
        ap (λ b. if b then entering t world rest frame frame.entered else raised words trees t StackOverflow world own)
        (lt-ltb (frames.frame_count own) limit (subst (λ n. n < limit) (is ∙ counted trees p from own shows) room))
        ∙ entering_is t world rest frame frame.entered

    -- whether the thread may enter, by the locks that are kept
    may_is : (answer : Bool) → SaysMayBegin answer t frame.entered old.heap → may_begin world t frame.entered ≡ answer
    may_is answer says = (λ i. may_begin (record world { monitors = sym s.represents.world_is.monitors i }) t frame.entered) ∙ sym (says world)

    pub waits : SaysMayBegin false t frame.entered old.heap → Comes (Ok effect.NotEnabled) old from
    waits says = (pushes ∙ ap (λ b. enabled_if b next) (may_is false says), record { shared = refl; stack = refl })

    module _ (says : SaysMayBegin true t frame.entered old.heap) where
      goes : stepped ≡ next
      goes = pushes ∙ ap (λ b. enabled_if b next) (may_is true says)

      refused : (told : EventRefusal) (new : Shared) (to : List ShownEntry)
          → MayBeRefused trees bounds inflated world (begin_cost world frame.entered) takes told → new ≡ old → to ≡ from → Comes (Err told) new to
      refused told new to may same kept = (record { cost = begin_cost world frame.entered; next = _; is = goes; may = may }, record { shared = same; stack = kept })

      -- there is no memory for the frame, which is one more
      pub lacks : length rest ≡ length own → (result : Result Effect EventRefusal) → IsErrAnd result (λ told. told ≡ refusal.Memory) → (to : List ShownEntry) → to ≡ from
          → Comes result old to
      lacks level (Ok u) e to kept = absurd e
      lacks level (Err told) e to kept =
          refused told old to
          (subst (MayBeRefused trees bounds inflated world (begin_cost world frame.entered) takes) (sym e)
          (takes_by_growth world (shown_counts from) (begin_cost world frame.entered) after (grown_by_one trees p from own shows (Invocation frame) rest level)))
          refl kept

      -- the entry is refused
      pub forbidden : (told : EventRefusal) (new : Shared) (to : List ShownEntry) → EntersFor (Err told) t frame.entered old new → to ≡ from
          → Comes (Err told) new to
      forbidden told new to e kept =
          let by : EntersBy trees p bounds inflated world (Err told) t frame.entered old new = e trees p bounds inflated world s (may_is true says) in
          refused told new to
          (refused_if trees bounds inflated world (begin_cost world frame.entered) (takes_shared (begin_cost world frame.entered)) takes (or_left _ _) told by.0)
          by.1 kept

      pub done : IsThere frame.entered old.heap → (new : Shared) (to : List ShownEntry) → EntersFor (Ok tt) t frame.entered old new
          → ShowsStack trees p to (Invocation frame ∷ rest) → Comes (Ok effect.Done) new to
      done there new to e shown =
          let by : EntersBy trees p bounds inflated world (Ok tt) t frame.entered old new = e trees p bounds inflated world s (may_is true says) in
          record {
            cost = begin_cost world frame.entered;
            next = _;
            is = goes;
            becomes = record {
              within = by.0.within;
              there = one_is_there world old.heap frame.entered there;
              represents = by.0.represents;
              stack = shown;
              flags = by.0.flags;
              others = inl (record { stacks = ap (λ (h : Shared). h.stacks.items) by.1; threads = ap (λ (h : Shared). length h.threads.threads) by.1 });
            };
          }

-- ---- the stack after a call

called_shown : (trees : Program) (p : LinkedProgram) (from : List ShownEntry) (frame : FrameOf ℕ) (rest : StackOf ℕ)
    → ShowsStack trees p from (Invocation frame ∷ rest)
    → (callee : Callee) (method : Member) (body : Body) → IsCallee trees p callee method body → (count : ℕ)
    → ShowsStack trees p (called callee count from)
    (Invocation (frame_with words method (reverse (take count frame.place.slots.stack)) callee.entered body) ∷ Invocation (at_call frame (drop count frame.place.slots.stack)) ∷ rest)
called_shown trees p [] frame rest s callee method body is count = absurd s
called_shown trees p (shown.Invocation f ∷ others) frame rest s callee method body is count = call trees p f others frame rest s callee method body is count
called_shown trees p (shown.Initialisation class phase ∷ others) frame rest s callee method body is count = absurd s.0

same_shown : (trees : Program) (p : LinkedProgram) (to from : List ShownEntry) (own : StackOf ℕ) → to ≡ from → ShowsStack trees p from own
    → ShowsStack trees p to own
same_shown trees p to from own same s = subst (λ (st : List ShownEntry). ShowsStack trees p st own) (sym same) s

-- the frame of a callee over its caller
pub calls_shown : (trees : Program) (p : LinkedProgram) (from to : List ShownEntry) (frame : FrameOf ℕ) (rest : StackOf ℕ)
    → ShowsStack trees p from (Invocation frame ∷ rest)
    → (callee : Callee) (method : Member) (body : Body) → IsCallee trees p callee method body → (count : ℕ) → to ≡ called callee count from
    → ShowsStack trees p to
    (Invocation (frame_with words method (reverse (take count frame.place.slots.stack)) callee.entered body) ∷ Invocation (at_call frame (drop count frame.place.slots.stack)) ∷ rest)
calls_shown trees p from to frame rest s callee method body is count same =
    same_shown trees p to (called callee count from) _ same (called_shown trees p from frame rest s callee method body is count)

-- the frame of a method that no frame calls
pub first_shown : (trees : Program) (p : LinkedProgram) (from to : List ShownEntry) (own : StackOf ℕ) → ShowsStack trees p from own
    → (callee : Callee) (method : Member) (body : Body) → IsCallee trees p callee method body → (arguments : List ℕ)
    → to ≡ shown.Invocation (begun callee arguments) ∷ from
    → ShowsStack trees p to (Invocation (frame_with words method arguments callee.entered body) ∷ own)
first_shown trees p from to own s callee method body is arguments same =
    same_shown trees p to (shown.Invocation (begun callee arguments) ∷ from) (Invocation (frame_with words method arguments callee.entered body) ∷ own) same (begin trees p callee method body is arguments, s)
