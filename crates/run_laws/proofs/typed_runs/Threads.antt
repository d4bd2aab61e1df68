-- Threads before and after an event: those that stay as they are but for waking, and one that is changed.
use Rattle.std.proofs.Common.{◌≡◌, ℕ, zero, suc, List, [], ◌∷◌, Bool, true, false, ◌==◌, ◌&&◌, ◌++◌, Some, None, refl, sym, ap, ◌∙◌, subst}
use Rattle.std.specs.Prelude.{slice_get, slice_set, slice_index_or}
use Rattle.std.specs.Option.{option_map_or}
use Rattle.std.specs.List.{list_all}
use Rattle.std.proofs.lemmas.Bool.{false≢true, and_parts, and_from, eqb-true, eq-eqb}
use Rattle.std.proofs.lemmas.Option.{same_Some}
use Rattle.model.specs.Classes.{Program}
use Rattle.model.specs.ReferenceTypes.{ReferenceType}
use Rattle.model.specs.State.{Monitor, ThreadStatus, Running, Thread}
use Rattle.model.specs.Monitors.{unlocked}
use Rattle.model.specs.Worlds.{no_thread}
use Rattle.model.specs.WellTyped.{is_waiting_for, is_waiter, are_distinct, are_wait_sets}
use Rattle.run_laws.proofs.laws.Lists.{all_weaken}
use Rattle.run_laws.proofs.typed_runs.Changes.{Moved, Same, Wakes, Kept, Still, Started, Go}

-- ---- lists

pub get_set_at : {A : Type 0} (xs : List A) (k : ℕ) (old new : A) → slice_get xs k ≡ Some old → slice_get (slice_set xs k new) k ≡ Some new
get_set_at [] k old new e = absurd cc
get_set_at (y ∷ ys) zero old new e = refl
get_set_at (y ∷ ys) (suc k) old new e = get_set_at ys k old new e

pub get_set_other : {A : Type 0} (xs : List A) (k j : ℕ) (new : A) → (k ≡ j → ⊥) → slice_get (slice_set xs k new) j ≡ slice_get xs j
get_set_other [] k j new n = refl
get_set_other (y ∷ ys) zero zero new n = absurd (n refl)
get_set_other (y ∷ ys) zero (suc j) new n = refl
get_set_other (y ∷ ys) (suc k) zero new n = refl
get_set_other (y ∷ ys) (suc k) (suc j) new n = get_set_other ys k j new (λ e. n (ap suc e))

pub set_none : {A : Type 0} (xs : List A) (k j : ℕ) (new : A) → slice_get xs j ≡ None → slice_get (slice_set xs k new) j ≡ None
set_none [] k j new e = e
set_none (y ∷ ys) k zero new e = absurd cc
set_none (y ∷ ys) zero (suc j) new e = e
set_none (y ∷ ys) (suc k) (suc j) new e = set_none ys k j new e

-- ---- threads that stay

pub moved_trans : (a b c : ThreadStatus) → Moved a b → Moved b c → Moved a c
moved_trans a b c (Same e) m = subst (λ s. Moved s c) e m
moved_trans a b c (Wakes o n k w was is) (Same e) = Wakes o n k w was (e ∙ is)
moved_trans a b c (Wakes o n k w was is) (Wakes o2 n2 k2 w2 was2 is2) = absurd cc

pub moved_running : (a b : ThreadStatus) → Moved a b → a ≡ Running → b ≡ Running
moved_running a b (Same e) q = e ∙ q
moved_running a b (Wakes o n k w was is) q = absurd cc

pub kept_self : (thread : Thread) → Kept thread thread
kept_self thread = record { pending = refl; status = Same refl }

pub kept_trans : (a b c : Thread) → Kept a b → Kept b c → Kept a c
kept_trans a b c x y =
    record { pending = y.pending ∙ x.pending; status = moved_trans a.status b.status c.status x.status y.status }

-- a thread that is still there, with its object, pending exception and status, but for waking
pub record Stays (after : List Thread) (u : ℕ) (before : Thread) : Type 0 where
  pub thread : Thread
  pub there : slice_get after u ≡ Some thread
  pub object : thread.object ≡ before.object
  pub kept : Kept before thread

-- all do, and there are no others
pub record AllStay (before after : List Thread) : Type 0 where
  pub still : (u : ℕ) (thread : Thread) → slice_get before u ≡ Some thread → Stays after u thread
  pub none : (u : ℕ) → slice_get before u ≡ None → slice_get after u ≡ None

pub stay_self : (threads : List Thread) → AllStay threads threads
stay_self threads =
    record { still = λ u thread e. record { thread = thread; there = e; object = refl; kept = kept_self thread }; none = λ u e. e }

pub stay_trans : (a b c : List Thread) → AllStay a b → AllStay b c → AllStay a c
stay_trans a b c x y = record { still = still; none = λ u e. y.none u (x.none u e) }
  where
    still : (u : ℕ) (thread : Thread) → slice_get a u ≡ Some thread → Stays c u thread
    still u thread e =
        let s = x.still u thread e in
        let z = y.still u s.thread s.there in
        record { thread = z.thread; there = z.there; object = z.object ∙ s.object; kept = kept_trans thread s.thread z.thread s.kept z.kept }

pub go_of : (files : Program) (objects : List ReferenceType) (t : ℕ) (a b : List Thread) → AllStay a b → Go files objects t a b
go_of files objects t a b x = record { still = still; started = started }
  where
    still : (u : ℕ) (thread : Thread) → slice_get a u ≡ Some thread → Still t b u thread
    still u thread e =
        let s = x.still u thread e in
        record { thread = s.thread; there = s.there; object = s.object; kept = λ q. s.kept }

    started : (u : ℕ) (thread : Thread) → slice_get a u ≡ None → slice_get b u ≡ Some thread → Started files objects thread
    started u thread n e = let none : slice_get b u ≡ None = x.none u n in absurd cc

-- ---- one thread is changed

-- any thread, whose pending exception and status stay
pub set_stays : (threads : List Thread) (k : ℕ) (new : Thread) → new.object ≡ (slice_index_or threads k no_thread).object
    → Kept (slice_index_or threads k no_thread) new → AllStay threads (slice_set threads k new)
set_stays threads k new o q = record { still = still threads k o q; none = λ u e. set_none threads k u new e }
  where
    still : (threads : List Thread) (k : ℕ) → new.object ≡ (slice_index_or threads k no_thread).object
        → Kept (slice_index_or threads k no_thread) new → (u : ℕ) (thread : Thread) → slice_get threads u ≡ Some thread
        → Stays (slice_set threads k new) u thread
    still [] k o q u thread e = absurd cc
    still (x ∷ xs) zero o q zero thread e =
        let same : x ≡ thread = cc in
        record { thread = new; there = refl; object = o ∙ ap (λ (th : Thread). th.object) same; kept = subst (λ th. Kept th new) same q }
    still (x ∷ xs) zero o q (suc u) thread e = record { thread = thread; there = e; object = refl; kept = kept_self thread }
    still (x ∷ xs) (suc k) o q zero thread e = record { thread = thread; there = e; object = refl; kept = kept_self thread }
    still (x ∷ xs) (suc k) o q (suc u) thread e =
        let s = still xs k o q u thread e in record { thread = s.thread; there = s.there; object = s.object; kept = s.kept }

-- the thread that moves
pub own_go : (files : Program) (objects : List ReferenceType) (t : ℕ) (threads : List Thread) (old new : Thread)
    → slice_get threads t ≡ Some old → new.object ≡ old.object → Go files objects t threads (slice_set threads t new)
own_go files objects t threads old new there o = record { still = λ u thread e. still u thread e (u == t) refl; started = started }
  where
    still : (u : ℕ) (thread : Thread) → slice_get threads u ≡ Some thread → (b : Bool) → (u == t) ≡ b
        → Still t (slice_set threads t new) u thread
    still u thread e true q =
        let same : u ≡ t = eqb-true u t q in
        let old_is : thread ≡ old = same_Some thread old (sym e ∙ (ap (slice_get threads) same ∙ there)) in
        record {
          thread = new;
          there = ap (slice_get (slice_set threads t new)) same ∙ get_set_at threads t old new there;
          object = o ∙ ap (λ (th : Thread). th.object) (sym old_is);
          kept = λ n. absurd (false≢true (sym n ∙ q));
        }
    still u thread e false q =
        record {
          thread = thread;
          there = get_set_other threads t u new (λ s. false≢true (sym q ∙ eq-eqb u t (sym s))) ∙ e;
          object = refl;
          kept = λ n. kept_self thread;
        }

    started : (u : ℕ) (thread : Thread) → slice_get threads u ≡ None → slice_get (slice_set threads t new) u ≡ Some thread
        → Started files objects thread
    started u thread n e = let none : slice_get (slice_set threads t new) u ≡ None = set_none threads t u new n in absurd cc

-- ---- who waits

-- the thread of a number waits for an object
abbrev pub waits : List Thread → ℕ → ℕ → Bool
waits threads object u = option_map_or (λ (thread : Thread). is_waiting_for object thread.status) (slice_get threads u) false

-- who waited does so still
pub wait_sets_weaken : (xs ys : List Thread) → ((object u : ℕ) → waits xs object u ≡ true → waits ys object u ≡ true) → (k : ℕ)
    (ms : List Monitor) → are_wait_sets xs k ms ≡ true → are_wait_sets ys k ms ≡ true
wait_sets_weaken xs ys w k [] h = refl
wait_sets_weaken xs ys w k (m ∷ ms) h =
    let a = and_parts _ _ h in
    let b = and_parts _ _ a.0 in
    and_from _ _ (and_from _ _ (all_weaken (is_waiter xs k) (is_waiter ys k) m.waiters (λ waiter q. w k waiter.thread q) b.0) b.1) (wait_sets_weaken xs ys w (suc k) ms a.1)

pub set_waits : (threads : List Thread) (k : ℕ) (new : Thread)
    → ((object : ℕ) → is_waiting_for object (slice_index_or threads k no_thread).status ≡ true → is_waiting_for object new.status ≡ true)
    → (object u : ℕ) → waits threads object u ≡ true → waits (slice_set threads k new) object u ≡ true
set_waits [] k new w object u h = h
set_waits (x ∷ xs) zero new w object zero h = w object h
set_waits (x ∷ xs) zero new w object (suc u) h = h
set_waits (x ∷ xs) (suc k) new w object zero h = h
set_waits (x ∷ xs) (suc k) new w object (suc u) h = set_waits xs k new w object u h

-- a monitor that keeps its waiters
pub wait_sets_set : (threads : List Thread) (k : ℕ) (ms : List Monitor) (r : ℕ) (m : Monitor)
    → m.waiters ≡ (slice_index_or ms r unlocked).waiters → are_wait_sets threads k ms ≡ true
    → are_wait_sets threads k (slice_set ms r m) ≡ true
wait_sets_set threads k [] r m e h = refl
wait_sets_set threads k (x ∷ ms) zero m e h =
    let a = and_parts _ _ h in
    and_from _ _ (subst (λ ws. (list_all (is_waiter threads k) ws && are_distinct ws) ≡ true) (sym e) a.0) a.1
wait_sets_set threads k (x ∷ ms) (suc r) m e h =
    let a = and_parts _ _ h in and_from _ _ a.0 (wait_sets_set threads (suc k) ms r m e a.1)

-- a new monitor
pub wait_sets_new : (threads : List Thread) (k : ℕ) (ms : List Monitor) → are_wait_sets threads k ms ≡ true
    → are_wait_sets threads k (ms ++ unlocked ∷ []) ≡ true
wait_sets_new threads k [] h = refl
wait_sets_new threads k (m ∷ ms) h = let a = and_parts _ _ h in and_from _ _ a.0 (wait_sets_new threads (suc k) ms a.1)
