use Rattle.std.proofs.Common.{◌≡◌, ◌<◌, ℕ, List, [], ◌∷◌, ◌++◌, Bool, true, false, Option, Some, None, Result, Ok, Err, is_some, length, length-append, take, drop, nat_le, refl, sym, ap, subst, inr, arith, ◌∙◌}
use Rattle.std.specs.Prelude.{if◌then◌else◌}
use Rattle.std.specs.Result.{IsErrAnd}
use Rattle.std.proofs.lemmas.Bool.{lt-leb, le-leb}
use Rattle.model.specs.declared.end.RunCause.{RunCause}
use Rattle.model.specs.declared.end.RunCause.TheVariants as cause
use Rattle.model.specs.BuiltInMethods.{object_of, start_by, with_started}
use Rattle.model.specs.Classes.{Program}
use Rattle.model.specs.LimitStands.{Bounds}
use Rattle.model.specs.Operands.{words}
use Rattle.model.specs.Outcomes.{Makes, Fills, Starts}
use Rattle.model.specs.State.{Invocation, FrameOf, StackOf, StateOf, WorldOf}
use Rattle.model.specs.Worlds.{thread_of}
use Rattle.model.specs.Step.{part, become}
use Rattle.heap.specs.declared.java_threads.refusal.ThreadRefusal.{ThreadRefusal}
use Rattle.heap.specs.declared.java_threads.refusal.ThreadRefusal.TheVariants as refusal
use Rattle.heap.specs.java_threads.Table.{ThreadTable, IsAdded}
use Rattle.run_laws.specs.word_operands.Receivers.{is_any}
use Rattle.linked_code.specs.declared.method.BuiltInMethod.TheVariants as method
use Rattle.linked_code.specs.declared.program.LinkedProgram.{LinkedProgram}
use Rattle.thread_stacks.specs.Stacks.{ShownEntry}
use Rattle.machine_state.specs.shown_stacks.Shown.{ShowsStack}
use Rattle.machine_state.specs.declared.answers.Effect.{Effect}
use Rattle.machine_state.specs.declared.refusals.EventRefusal.{EventRefusal}
use Rattle.machine_state.specs.declared.refusals.EventRefusal.TheVariants as event
use Rattle.machine_state.specs.Instructions.{Does}
use Rattle.machine_state.specs.declared.state.Shared.{Shared}
use Rattle.machine_state.specs.Refusals.{of_threads}
use Rattle.machine_state.specs.Shown.{Represents}
use Rattle.machine_state.specs.Events.{limit_of, MayBeRefused}
use Rattle.heap.specs.monitor_events.Lives.{StartsBy}
use Rattle.heap.specs.monitor_events.Tables.{ThreadsBecome}
use Rattle.machine_state.proofs.entries.Changing.{threads_shown}
use Rattle.machine_instructions.specs.thread_methods.Called.{IsCalling}
use Rattle.machine_instructions.proofs.thread_methods.Calls.{gone_on, went, says, same_object, refused}
use Rattle.machine_instructions.proofs.thread_methods.lives.start.Goals as goal

-- the limit of threads
module _ (trees : Program) (p : LinkedProgram) (bounds : Bounds) (inflated : List ℕ) (world : WorldOf ℕ) (old : Shared)
    (r : Represents trees p bounds old world) where
  full_is : nat_le bounds.threads (length world.threads) ≡ nat_le old.threads.limit (length old.threads.threads)
  full_is = λ i. nat_le (sym r.limits.threads i) (length (sym r.world_is.threads i))

  abbrev limit : Bool → Option RunCause
  limit full = if full then Some cause.Threads else None

  may_refuse : (told : ThreadRefusal) (object : ℕ) (new : ThreadTable) → IsAdded (Err told) object old.threads new
      → MayBeRefused trees bounds inflated world Starts true (of_threads told) × (new ≡ old.threads)
  may_refuse refusal.Threads object new h = (ap limit (full_is ∙ le-leb old.threads.limit (length old.threads.threads) h.0), h.1)
  may_refuse refusal.Memory object new h = (refl, h.1)

  none_stands : length old.threads.threads < old.threads.limit → limit_of trees bounds inflated world Starts ≡ None
  none_stands h = ap limit (full_is ∙ lt-leb old.threads.limit (length old.threads.threads) h)

-- there is no memory for its stack, whether it is started or was before
module _ (trees : Program) (p : LinkedProgram) (bounds : Bounds) (inflated : List ℕ) (t : ℕ) (old : Shared) (from : List ShownEntry) (state : StateOf ℕ) (frame : FrameOf ℕ) (rest : StackOf ℕ) (count next offset : ℕ)
    (is : IsCalling trees p bounds inflated t old from state frame rest method.ThreadStart count next offset) (frames object : ℕ)
    (result : Result Effect EventRefusal) (wants : IsErrAnd result (λ told. told ≡ event.Memory)) where
  lacks : (started : Bool) → Does trees p bounds inflated t state.world (Invocation frame ∷ rest)
      (become words trees frames t state.world frame rest (start_by started offset object state.world frame.place.slots (drop count frame.place.slots.stack)))
      result old old from from
  lacks true = refused trees p bounds inflated t old from state frame rest method.ThreadStart count next offset is old _ (Makes 0) _ refl event.Memory refl refl result wants
  lacks false = refused trees p bounds inflated t old from state frame rest method.ThreadStart count next offset is old _ Starts _ refl event.Memory refl refl result wants

pub returns-in_err-spare : goal.returns-in_err-spare
returns-in_err-spare c = λ t p trees bounds inflated state frame rest offset is frames.
    let object = object_of words (take c.args.operands frame.place.slots.stack) 0 in
    lacks trees p bounds inflated t c.args.shared.now c.args.stack.now state frame rest c.args.operands c.args.next offset is frames object
    c.from_residual.result c.from_residual.ensures.1 (is_some (thread_of state.world object))

pub returns-in_err-started : goal.returns-in_err-started
returns-in_err-started c = λ t p trees bounds inflated state frame rest offset is frames.
    let old = c.args.shared.now in
    let object = object_of words (take c.args.operands frame.place.slots.stack) 0 in
    let new = record old { threads = c.start.new.threads } in
    let h = c.in_err-started.ensures in
    let started = says trees p bounds inflated t c.args.shared.now c.args.stack.now state frame rest method.ThreadStart c.args.operands c.args.next offset is is_any is.arguments c.object.result c.object.ensures (λ world object. is_some (thread_of world object)) false (h.0 state.world) in
    let told = c.in_err-started.field-0.0 in
    let may = may_refuse trees p bounds inflated state.world old is.lent.represents told c.object.result new.threads h.1 in
    refused trees p bounds inflated t c.args.shared.now c.args.stack.now state frame rest method.ThreadStart c.args.operands c.args.next offset is new _ Starts _ (λ i. become words trees frames t state.world frame rest (start_by (sym started i) offset object state.world frame.place.slots (drop c.args.operands frame.place.slots.stack))) (of_threads told) may.0 (λ i. record old { threads = may.1 i })
    c.from_residual-in_err-started.result c.from_residual-in_err-started.ensures.1

pub returns-then-not-started : goal.returns-then-not-started
returns-then-not-started c = λ t p trees bounds inflated state frame rest offset is frames.
    let old = c.args.shared.now in
    let object = object_of words (take c.args.operands frame.place.slots.stack) 0 in
    let h = subst (λ b. StartsBy (Ok b) c.object.result old.threads c.start.new.threads) c.if-not-started.true c.in_ok-started.ensures in
    let started = says trees p bounds inflated t c.args.shared.now c.args.stack.now state frame rest method.ThreadStart c.args.operands c.args.next offset is is_any is.arguments c.object.result c.object.ensures (λ world object. is_some (thread_of world object)) true (h.0 state.world) in
    ((λ i. become words trees frames t state.world frame rest (start_by (sym started i) offset object state.world frame.place.slots (drop c.args.operands frame.place.slots.stack))), record { shared = λ i. record old { threads = h.1 i }; stack = refl })

pub returns : goal.returns
returns c = λ t p trees bounds inflated state frame rest offset is frames.
    let old = c.args.shared.now in
    let object = object_of words (take c.args.operands frame.place.slots.stack) 0 in
    let h = subst (λ b. StartsBy (Ok b) c.object.result old.threads c.start.new.threads) c.if-not-started.false c.in_ok-started.ensures in
    let started = says trees p bounds inflated t c.args.shared.now c.args.stack.now state frame rest method.ThreadStart c.args.operands c.args.next offset is is_any is.arguments c.object.result c.object.ensures (λ world object. is_some (thread_of world object)) false (h.0 state.world) in
    let is_object : c.object.result ≡ object = sym (same_object trees p bounds inflated t c.args.shared.now c.args.stack.now state frame rest method.ThreadStart c.args.operands c.args.next offset is 0 is_any is.arguments c.object.result c.object.ensures) in
    let b : ThreadsBecome (λ world. with_started world object) old.threads c.start.new.threads =
    subst (λ o. ThreadsBecome (λ world. with_started world o) old.threads c.start.new.threads) is_object h.1
    in
    let r = threads_shown trees p bounds state.world old (record old { threads = c.start.new.threads }) is.lent.represents (λ world. with_started world object) b refl in
    record {
      cost = Starts;
      next = part (with_started state.world object) (gone_on trees p bounds inflated t c.args.shared.now c.args.stack.now state frame rest method.ThreadStart c.args.operands c.args.next offset is []);
      is = λ i. become words trees frames t state.world frame rest (start_by (sym started i) offset object state.world frame.place.slots (drop c.args.operands frame.place.slots.stack));
      becomes = record {
        within = none_stands trees p bounds inflated state.world old is.lent.represents h.2;
        there = tt;
        represents = record {
          world_is = record {
            objects = r.world_is.objects;
            counted = r.world_is.counted;
            monitors = r.world_is.monitors;
            statics = r.world_is.statics;
            statuses = r.world_is.statuses;
            ready = r.world_is.ready;
            threads = r.world_is.threads;
            printed = r.world_is.printed;
            interned = r.world_is.interned;
            unnamed = r.world_is.unnamed;
          };
          limits = record {
            opening = r.limits.opening;
            objects = r.limits.objects;
            cells = r.limits.cells;
            monitors = r.limits.monitors;
            threads = r.limits.threads;
          };
        };
        stack = subst (λ s. ShowsStack trees p s (gone_on trees p bounds inflated t c.args.shared.now c.args.stack.now state frame rest method.ThreadStart c.args.operands c.args.next offset is [])) (sym c.go_on.ensures) (went trees p bounds inflated t c.args.shared.now c.args.stack.now state frame rest method.ThreadStart c.args.operands c.args.next offset is []);
        flags = refl;
        others = inr (record {
          stacks = c.add.ensures ∙ ap (λ s. old.stacks.items ++ s ∷ []) c.new-empty.ensures;
          threads = ap (λ (w : WorldOf ℕ). length w.threads) (b.world state.world) ∙ length-append old.threads.threads _ ∙ omega arith;
        });
      };
    }
