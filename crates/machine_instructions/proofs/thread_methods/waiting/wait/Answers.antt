use Rattle.std.proofs.Common.{ℕ, List, Bool, true, false, Ok, Err, length, drop, take, refl, sym, subst, inl, ◌∷◌, ◌≡◌, ◌<◌, ◌∙◌}
use Rattle.std.proofs.lemmas.Bool.{true≢false}
use Rattle.model.specs.BuiltInMethods.{object_of, wait_by, waiting}
use Rattle.model.specs.Classes.{Program}
use Rattle.model.specs.Operands.{words}
use Rattle.model.specs.Outcomes.{Joins}
use Rattle.model.specs.State.{WorldOf, FrameOf, StackOf, Invocation}
use Rattle.model.specs.Worlds.{is_owner, thread_at}
use Rattle.model.specs.Frames.{at_call}
use Rattle.model.specs.Step.{SteppedOf, PartOf, part, become}
use Rattle.model.specs.LimitStands.{Bounds}
use Rattle.run_laws.specs.word_operands.Receivers.{is_any}
use Rattle.linked_code.specs.declared.method.BuiltInMethod.TheVariants as method
use Rattle.machine_state.specs.declared.state.Shared.{Shared}
use Rattle.machine_state.specs.Refusals.{of_monitors}
use Rattle.heap.specs.monitor_events.Events.{WaitsBy}
use Rattle.machine_state.specs.shown_stacks.Shown.{ShowsStack}
use Rattle.linked_code.specs.declared.program.LinkedProgram.{LinkedProgram}
use Rattle.machine_state.specs.entries.Entered.{IsTaken, WaitsIn}
use Rattle.machine_state.proofs.entries.Entering.{waits_shown}
use Rattle.machine_instructions.proofs.thread_methods.Calls.{same_object, stayed, says_over, row_is, as_many, refused}
use Rattle.machine_instructions.proofs.thread_methods.WaitSets.{one_waits}
use Rattle.machine_instructions.proofs.thread_methods.waiting.wait.Goals as goal

-- by whether the thread is the owner, and whether it is interrupted
abbrev waited : Program → ℕ → ℕ → WorldOf ℕ → FrameOf ℕ → StackOf ℕ → (count object : ℕ) → (owner interrupted : Bool) → SteppedOf (PartOf ℕ)
waited trees frames t world frame rest count object owner interrupted =
    become words trees frames t world frame rest (wait_by owner interrupted t object world (drop count frame.place.slots.stack))

pub returns-then-not-is_owner : goal.returns-then-not-is_owner
returns-then-not-is_owner c = λ p trees bounds inflated state frame rest offset is frames.
    let object = object_of words (take c.args.operands frame.place.slots.stack) 0 in
    let owner = sym c.if-not-is_owner.true ∙ says_over trees p bounds inflated c.args.thread c.args.shared.now c.args.stack.now state frame rest method.ObjectWait c.args.operands c.args.next offset is is_any is.arguments c.object-object.result c.object-object.ensures (λ world object. is_owner world c.args.thread object) c.is_owner.result (c.is_owner.ensures state.world) in
    ((λ i. waited trees frames c.args.thread state.world frame rest c.args.operands object (sym owner i) (thread_at state.world c.args.thread).interrupted), record { shared = refl; stack = refl })

pub returns-then-interrupted : goal.returns-then-interrupted
returns-then-interrupted c = λ p trees bounds inflated state frame rest offset is frames.
    let object = object_of words (take c.args.operands frame.place.slots.stack) 0 in
    let owner = sym c.if-not-is_owner.false ∙ says_over trees p bounds inflated c.args.thread c.args.shared.now c.args.stack.now state frame rest method.ObjectWait c.args.operands c.args.next offset is is_any is.arguments c.object-object.result c.object-object.ensures (λ world object. is_owner world c.args.thread object) c.is_owner.result (c.is_owner.ensures state.world) in
    let interrupted = sym c.if-interrupted.true ∙ c.interrupted.ensures ∙ row_is trees p bounds inflated c.args.thread c.args.shared.now c.args.stack.now state frame rest method.ObjectWait c.args.operands c.args.next offset is (λ row. row.interrupted) in
    ((λ i. waited trees frames c.args.thread state.world frame rest c.args.operands object (sym owner i) (sym interrupted i)), record { shared = refl; stack = refl })

pub returns-in_err-wait : goal.returns-in_err-wait
returns-in_err-wait c = λ p trees bounds inflated state frame rest offset is frames.
    let old = c.args.shared.now in
    let new = record old { heap = c.wait.new.heap; threads = c.wait.new.threads } in
    let object = object_of words (take c.args.operands frame.place.slots.stack) 0 in
    let is_object : c.object-object.result ≡ object = sym (same_object trees p bounds inflated c.args.thread c.args.shared.now c.args.stack.now state frame rest method.ObjectWait c.args.operands c.args.next offset is 0 is_any is.arguments c.object-object.result c.object-object.ensures) in
    let owner = sym c.if-not-is_owner.false ∙ says_over trees p bounds inflated c.args.thread c.args.shared.now c.args.stack.now state frame rest method.ObjectWait c.args.operands c.args.next offset is is_any is.arguments c.object-object.result c.object-object.ensures (λ world object. is_owner world c.args.thread object) c.is_owner.result (c.is_owner.ensures state.world) in
    let interrupted = sym c.if-interrupted.false ∙ c.interrupted.ensures ∙ row_is trees p bounds inflated c.args.thread c.args.shared.now c.args.stack.now state frame rest method.ObjectWait c.args.operands c.args.next offset is (λ row. row.interrupted) in
    let becomes : waited trees frames c.args.thread state.world frame rest c.args.operands object (is_owner state.world c.args.thread object) (thread_at state.world c.args.thread).interrupted
    ≡ waited trees frames c.args.thread state.world frame rest c.args.operands object true false =
    λ i. waited trees frames c.args.thread state.world frame rest c.args.operands object (sym owner i) (sym interrupted i)
    in
    let told = c.in_err-wait.field-0.0 in
    let w =
    waits_shown trees p bounds inflated state.world old new (record { represents = is.lent.represents; flags = is.lent.flags; counted = is.lent.counted }) c.args.thread object (Err told)
    (subst (λ o. WaitsBy (Err told) o c.args.thread old.heap new.heap old.threads new.threads) is_object c.in_err-wait.ensures) refl
    in
    refused trees p bounds inflated c.args.thread c.args.shared.now c.args.stack.now state frame rest method.ObjectWait c.args.operands c.args.next offset is new _ (Joins object) _ becomes (of_monitors told) w.1.may w.1.same c.from_residual.result c.from_residual.ensures.1

-- the owner joins
module _ (trees : Program) (p : LinkedProgram) (bounds : Bounds) (inflated : List ℕ) (world : WorldOf ℕ) (t object : ℕ) (old new : Shared)
    (own : is_owner world t object ≡ true) where
  joins : (joined : Bool) → WaitsIn trees p bounds inflated world t object (Ok joined) old new
      → IsTaken trees p bounds inflated world (Joins object) (waiting world t object) old new
  joins true w = w.1
  joins false w = absurd (true≢false (sym own ∙ w.0))

pub returns : goal.returns
returns c = λ p trees bounds inflated state frame rest offset is frames.
    let old = c.args.shared.now in
    let new = record old { heap = c.wait.new.heap; threads = c.wait.new.threads } in
    let object = object_of words (take c.args.operands frame.place.slots.stack) 0 in
    let is_object : c.object-object.result ≡ object = sym (same_object trees p bounds inflated c.args.thread c.args.shared.now c.args.stack.now state frame rest method.ObjectWait c.args.operands c.args.next offset is 0 is_any is.arguments c.object-object.result c.object-object.ensures) in
    let owner = sym c.if-not-is_owner.false ∙ says_over trees p bounds inflated c.args.thread c.args.shared.now c.args.stack.now state frame rest method.ObjectWait c.args.operands c.args.next offset is is_any is.arguments c.object-object.result c.object-object.ensures (λ world object. is_owner world c.args.thread object) c.is_owner.result (c.is_owner.ensures state.world) in
    let interrupted = sym c.if-interrupted.false ∙ c.interrupted.ensures ∙ row_is trees p bounds inflated c.args.thread c.args.shared.now c.args.stack.now state frame rest method.ObjectWait c.args.operands c.args.next offset is (λ row. row.interrupted) in
    let becomes : waited trees frames c.args.thread state.world frame rest c.args.operands object (is_owner state.world c.args.thread object) (thread_at state.world c.args.thread).interrupted
    ≡ waited trees frames c.args.thread state.world frame rest c.args.operands object true false =
    λ i. waited trees frames c.args.thread state.world frame rest c.args.operands object (sym owner i) (sym interrupted i)
    in
    let joined = c.in_ok-wait.field-0 in
    let w =
    waits_shown trees p bounds inflated state.world old new (record { represents = is.lent.represents; flags = is.lent.flags; counted = is.lent.counted }) c.args.thread object (Ok joined)
    (subst (λ o. WaitsBy (Ok joined) o c.args.thread old.heap new.heap old.threads new.threads) is_object c.in_ok-wait.ensures) refl
    in
    let taken = joins trees p bounds inflated state.world c.args.thread object old new (sym owner) joined w in
    record {
      cost = Joins object;
      next = part (waiting state.world c.args.thread object) (Invocation (at_call frame (drop c.args.operands frame.place.slots.stack)) ∷ rest);
      is = becomes;
      becomes = record {
        within = taken.within;
        there = subst (λ o. o < length old.heap.locks.monitors) (sym c.object-object.ensures ∙ is_object) c.requires.there;
        represents = taken.represents;
        stack = subst (λ s. ShowsStack trees p s (Invocation (at_call frame (drop c.args.operands frame.place.slots.stack)) ∷ rest)) (sym c.stay.ensures) (stayed trees p bounds inflated c.args.thread c.args.shared.now c.args.stack.now state frame rest method.ObjectWait c.args.operands c.args.next offset is);
        flags = taken.flags;
        others = inl (record { stacks = refl; threads = as_many trees p bounds inflated c.args.thread c.args.shared.now c.args.stack.now state frame rest method.ObjectWait c.args.operands c.args.next offset is (waiting state.world c.args.thread object) new taken.represents (one_waits state.world c.args.thread object) });
      };
    }
