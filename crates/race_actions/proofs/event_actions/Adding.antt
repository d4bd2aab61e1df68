-- What is added to the actions of an event, part by part.
use Rattle.std.proofs.Common.{zero, suc, ◌<◌, ◌≤◌, length, arith, ◌≡◌, ℕ, List, [], ◌∷◌, ◌++◌, Option, Some, None, refl, sym, ap, subst, ◌∙◌}
use Rattle.std.specs.Prelude.{slice_get}
use Rattle.std.proofs.lemmas.List.{append_assoc}
use Rattle.std.proofs.lemmas.Option.{same_Some, none-some}
use Rattle.model.specs.declared.value.Value.{Value}
use Rattle.model.specs.Classes.{Program}
use Rattle.model.specs.LimitStands.{Bounds}
use Rattle.model.specs.Monitors.{monitor_at}
use Rattle.model.specs.Operands.{values, word_of}
use Rattle.model.specs.Opening.{opening}
use Rattle.model.specs.ReferenceTypes.{ReferenceType}
use Rattle.model.specs.State.{Monitor, Thread, StackOf, State, types_of}
use Rattle.model.specs.WellTyped.{IsWellTyped, AreThreadsTyped}
use Rattle.model.specs.Words.{map_stack, words_of}
use Rattle.model.specs.Worlds.{waiters_of}
use Rattle.run_laws.proofs.interleavings.Reduction.{opened, run_typed}
use Rattle.event_laws.specs.event_changes.Changes.{AreThreadsAdded}
use Rattle.heap.specs.java_threads.Table.{thread_at}
use Rattle.linked_code.specs.declared.program.LinkedProgram.{LinkedProgram}
use Rattle.thread_stacks.specs.Stacks.{ShownEntry}
use Rattle.machine_state.specs.declared.state.Shared.{Shared}
use Rattle.race_places.specs.declared.run_actions.Action.{Action}
use Rattle.next_accesses.specs.next_access.Next.{IsReached, AreAccesses, TellsNext}
use Rattle.state_actions.specs.wait_ends.Ends.{threads_of}
use Rattle.race_actions.specs.declared.event_actions.EventActions.{EventActions}
use Rattle.race_actions.specs.declared.looking.EventBefore.{EventBefore}
use Rattle.race_actions.specs.looking.Known.{KnowsEvent}
use Rattle.race_actions.specs.event_actions.Told.{KnowsThread, LooksAt, TellsActions}
use Rattle.race_actions.proofs.looking.Events.{shown_of}
use Rattle.race_actions.proofs.event_actions.Telling.{mapped_at}

-- ---- lists

pub three_added : (old one two three a b c : List Action) → one ≡ old ++ a → two ≡ one ++ b → three ≡ two ++ c → three ≡ old ++ (a ++ b ++ c)
three_added old one two three a b c e f g =
    g ∙ ap (λ l. l ++ c) (f ∙ ap (λ l. l ++ b) e ∙ append_assoc old a b) ∙ append_assoc old (a ++ b) c

pub found_added : (old one two three a b c : List Action) → one ≡ old ++ a → two ≡ one ++ b → three ≡ two ++ c → three ≡ old ++ (a ++ (b ++ c))
found_added old one two three a b c e f g = three_added old one two three a b c e f g ∙ ap (λ l. old ++ l) (append_assoc a b c)

pub four_added : (old one two three four a b c d : List Action) → one ≡ old ++ a → two ≡ one ++ b → three ≡ two ++ c → four ≡ three ++ d → four ≡ old ++ (a ++ b ++ c ++ d)
four_added old one two three four a b c d e f g h =
    h ∙ ap (λ l. l ++ d) (three_added old one two three a b c e f g) ∙ append_assoc old (a ++ b ++ c) d

-- ---- before the event

pub thread_known : (trees : Program) (p : LinkedProgram) (shared : Shared) (t : ℕ) (stack : List ShownEntry) → Some stack ≡ slice_get shared.stacks.items t
    → (before : EventBefore) → KnowsEvent trees p shared t stack before → KnowsThread trees p shared t (Some before)
thread_known trees p shared t stack there before knows other at =
    (before, refl, subst (λ (l : List ShownEntry). KnowsEvent trees p shared t l before) (same_Some stack other (there ∙ at)) knows)

pub no_thread : (trees : Program) (p : LinkedProgram) (shared : Shared) (t : ℕ) → None ≡ slice_get shared.stacks.items t → (told : Option EventBefore) → KnowsThread trees p shared t told
no_thread trees p shared t none told stack at = absurd (none-some stack (none ∙ at))

pub looks_at : (trees : Program) (p : LinkedProgram) (shared : Shared) (t : ℕ) (e : EventActions) (told : Option EventBefore) → KnowsThread trees p shared t told → e.before ≡ told
    → (accesses : List Action) → e.accesses.items ≡ accesses → TellsNext trees p shared t accesses
    → (object : ℕ) → object ≡ (thread_at shared.threads.threads t).object → e.waiting.items ≡ threads_of (monitor_at shared.heap.locks.monitors object).waiters → LooksAt trees p shared t e
looks_at trees p shared t e told knows is accesses accesses_are tells object object_is waiting bounds state own reached at =
    let shown = shown_of trees p shared.stacks.items (words_of state).stacks reached.shown.stacks t (map_stack word_of own) (mapped_at (map_stack word_of) state.stacks t own at) in
    let k = knows shown.0 shown.1 in
    let world_is = reached.shown.represents.world_is in
    record {
      before = k.0;
      is = is ∙ k.1;
      known = k.2 shown.1 bounds state reached;
      accesses = subst (λ l. AreAccesses trees bounds.frames state t l) (sym accesses_are) (tells bounds state reached);
      waiting =
          waiting
          ∙ ap (λ (l : List Monitor). threads_of (monitor_at l object).waiters) world_is.monitors
          ∙ ap (λ n. threads_of (waiters_of state.world n)) (object_is ∙ ap (λ (ts : List Thread). (thread_at ts t).object) world_is.threads);
      p = p;
      shared = shared;
      reached = reached;
    }

-- ---- it was not looked at, or there is no such thread

pub not_looked : (e : EventActions) (shared : Shared) (t : ℕ) (told : List Action) → e.before ≡ None → TellsActions e shared t told
not_looked e shared t told none trees bounds state looked p event same cost next steps after = absurd (none-some looked.before (sym none ∙ looked.is))

-- there is no such thread, so it was not looked at an event of it
below : {A : Type 0} (l : List A) (k : ℕ) (x : A) → slice_get l k ≡ Some x → k < length l
below [] k x e = absurd (none-some x e)
below (y ∷ ys) zero x e = omega arith
below (y ∷ ys) (suc k) x e = let h = below ys k x e in omega arith

there_at : {A : Type 0} (l : List A) (k : ℕ) → k < length l → (x : A) × (slice_get l k ≡ Some x)
there_at [] k h = absurd (omega arith)
there_at (y ∷ ys) zero h = (y, refl)
there_at (y ∷ ys) (suc k) h = there_at ys k (omega arith)

as_many : (files : Program) (objects : List ReferenceType) (threads : List Thread) (stacks : List (StackOf Value)) → AreThreadsTyped files objects threads stacks
    → length stacks ≡ length threads
as_many files objects [] [] h = refl
as_many files objects [] (stack ∷ stacks) h = absurd h
as_many files objects (thread ∷ threads) [] h = absurd h
as_many files objects (thread ∷ threads) (stack ∷ stacks) h = ap suc (as_many files objects threads stacks h.1)

counted : (trees : Program) (p : LinkedProgram) (bounds : Bounds) (shared : Shared) (state : State) → IsReached trees p bounds shared state
    → length state.stacks ≡ length state.world.threads
counted trees p bounds shared state reached =
    let typed : IsWellTyped trees state = run_typed reached.files trees reached.accepted bounds.frames reached.events (opening values trees) state (opened reached.files trees reached.accepted bounds.frames) reached.reached in
    as_many trees (types_of state.world.heap) state.world.threads state.stacks typed.threads

pub nobody_looked : AreThreadsAdded → (e : EventActions) (shared : Shared) (t : ℕ) (told : List Action) → None ≡ slice_get shared.stacks.items t → TellsActions e shared t told
nobody_looked added e shared t told none trees bounds state looked p event same cost next steps after =
    let own = looked.known.own in
    let adds = added.of_values trees bounds.frames state event cost next own steps (subst (λ (n : ℕ). slice_get state.stacks n ≡ Some own) (sym same) looked.known.own_is) in
    let kept : length state.world.threads ≤ length next.world.threads = adds.kept in
    let was = below state.stacks t own looked.known.own_is in
    let old_many = counted trees looked.p bounds looked.shared state looked.reached in
    let new_many = counted trees p bounds shared next after in
    let at = there_at next.stacks t (omega (arith, was, kept, old_many, new_many)) in
    let shown = shown_of trees p shared.stacks.items (words_of next).stacks after.shown.stacks t (map_stack word_of at.0) (mapped_at (map_stack word_of) next.stacks t at.0 at.1) in
    absurd (none-some shown.0 (none ∙ shown.1))
