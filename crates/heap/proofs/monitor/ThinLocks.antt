-- Entering and leaving by a thin lock.
use Rattle.std.proofs.Common.{◌≡◌, ℕ, ◌-◌, ◌<◌, ◌≤◌, List, Bool, true, false, refl, ap, arith}
use Rattle.std.specs.Prelude.{◌==◌, ◌&&◌, nat_lt, not, None, [], ◌∷◌, if◌then◌else◌}
use Rattle.std.proofs.lemmas.Bool.{eqb-true, eq-eqb}
use Rattle.std.proofs.lemmas.Bool.Decides.{nat_tests}
use Rattle.heap.specs.declared.lock_word.lock.Lock.{Lock}
use Rattle.heap.specs.declared.lock_word.lock.Lock.TheVariants.{Unlocked, Thin, Fat}
use Rattle.heap.specs.declared.lock_word.lock.TryEnter.TheVariants as try_enter
use Rattle.heap.specs.declared.lock_word.lock.TryExit.TheVariants as try_exit
use Rattle.heap.specs.lock_word.Words.{HasRoomFor}
use Rattle.heap.specs.lock_word.Locking.{entering, lock_entered, leaving, lock_left}
use Rattle.model.specs.State.{Monitor}
use Rattle.model.specs.declared.monitor_answer.MonitorAnswer.TheVariants.{Done, Held}
use Rattle.model.specs.Monitors.{owns, owned, unlocked, monitor_enter, monitor_exit, monitor_relock, monitor_wait}
use Rattle.heap.specs.monitor.Locks.{is_at_most_entries}
use Rattle.heap.specs.monitor.Words.{monitor_of, is_fat_lock}

pub below_differ : (a b : ℕ) → a < b → (a == b) ≡ false
below_differ a b h = grind (arith, nat_tests)

-- ---- what an answer of the lock says of its owner and its entries

pub entered_tests : (a b : Bool) → try_enter.Entered ≡ (if a then (if b then try_enter.Entered else try_enter.Full)
    else try_enter.Held)
    → (a ≡ true) × (b ≡ true)
entered_tests true true e = (refl, refl)
entered_tests true false e = cc
entered_tests false b e = cc

pub full_tests : (a b : Bool) → try_enter.Full ≡ (if a then (if b then try_enter.Entered else try_enter.Full)
    else try_enter.Held)
    → (a ≡ true) × (b ≡ false)
full_tests true true e = cc
full_tests true false e = (refl, refl)
full_tests false b e = cc

pub held_test : (a b : Bool) → try_enter.Held ≡ (if a then (if b then try_enter.Entered else try_enter.Full)
    else try_enter.Held)
    → a ≡ false
held_test true true e = cc
held_test true false e = cc
held_test false b e = refl

pub left_test : (a : Bool) → try_exit.Left ≡ (if a then try_exit.Left else try_exit.NotOwner) → a ≡ true
left_test true e = refl
left_test false e = cc

pub not_owner_test : (a : Bool) → try_exit.NotOwner ≡ (if a then try_exit.Left else try_exit.NotOwner) → a ≡ false
not_owner_test true e = cc
not_owner_test false e = refl

-- ---- a thread enters

pub record Enters (t : List Monitor) (thread : ℕ) (l : Lock) : Type 0 where
  pub thin : is_fat_lock l ≡ false
  pub still : is_fat_lock (lock_entered thread l) ≡ false
  pub answer : Done ≡ (monitor_enter thread (monitor_of t l)).answer
  pub after : monitor_of t (lock_entered thread l) ≡ (monitor_enter thread (monitor_of t l)).after
  pub small : (owns thread (monitor_of t l).owner && ((monitor_of t l).count == 256)) ≡ false
  pub few : is_at_most_entries thread (monitor_of t l) ≡ false

pub enters : (t : List Monitor) (thread : ℕ) (l : Lock) → try_enter.Entered ≡ entering thread l → Enters t thread l
enters t thread Unlocked e = record { thin = refl; still = refl; answer = refl; after = refl; small = refl; few = refl }
enters t thread (Thin owner entries) e =
    let tests : ((owner == thread) ≡ true) × (nat_lt entries 256 ≡ true) =
    entered_tests (owner == thread) (nat_lt entries 256) e in
    let same : (owner == thread) ≡ true = tests.0 in
    let room_left : nat_lt entries 256 ≡ true = tests.1 in
    let below : entries < 256 = grind (arith, nat_tests) in
    let it : owner ≡ thread = eqb-true owner thread same in
    let not_last : (entries == 256) ≡ false = below_differ entries 256 below in
    let not_most : (entries == 4294967295) ≡ false = below_differ entries 4294967295 (omega arith) in
    record {
      thin = refl;
      still = rw (same, room_left) refl;
      answer = rw same refl;
      after = rw (same, room_left, it) refl;
      small = rw (same, not_last) refl;
      few = rw (same, not_most) refl;
    }
enters t thread (Fat i) e = cc

-- another thread owns the lock
pub record Holds (t : List Monitor) (thread : ℕ) (l : Lock) : Type 0 where
  pub answer : Held ≡ (monitor_enter thread (monitor_of t l)).answer
  pub after : monitor_of t l ≡ (monitor_enter thread (monitor_of t l)).after
  pub other : owns thread (monitor_of t l).owner ≡ false

pub holds : (t : List Monitor) (thread : ℕ) (l : Lock) → try_enter.Held ≡ entering thread l → Holds t thread l
holds t thread Unlocked e = cc
holds t thread (Thin owner entries) e =
    let other : (owner == thread) ≡ false = held_test (owner == thread) (nat_lt entries 256) e in
    record { answer = rw other refl; after = rw other refl; other = other }
holds t thread (Fat i) e = cc

-- an owner enters for the 257th time
pub record Overflows (t : List Monitor) (thread : ℕ) (l : Lock) : Type 0 where
  pub thin : is_fat_lock l ≡ false
  pub answer : Done ≡ (monitor_enter thread (monitor_of t l)).answer
  pub after : owned unlocked thread 257 ≡ (monitor_enter thread (monitor_of t l)).after
  pub last : (owns thread (monitor_of t l).owner && ((monitor_of t l).count == 256)) ≡ true
  pub few : is_at_most_entries thread (monitor_of t l) ≡ false

pub overflows : (t : List Monitor) (thread : ℕ) (l : Lock) → HasRoomFor (lock_entered thread l)
    → try_enter.Full ≡ entering thread l
    → Overflows t thread l
overflows t thread Unlocked room e = cc
overflows t thread (Thin owner entries) room e =
    let tests : ((owner == thread) ≡ true) × (nat_lt entries 256 ≡ false) =
    full_tests (owner == thread) (nat_lt entries 256) e in
    let same : (owner == thread) ≡ true = tests.0 in
    let no_room : nat_lt entries 256 ≡ false = tests.1 in
    let above : 256 ≤ entries = grind (arith, nat_tests) in
    let fits : HasRoomFor (Thin owner entries) = rw (same, no_room) at room in
    let all : entries ≡ 256 = omega (arith, fits.2) in
    rw all (record {
      thin = refl;
      answer = rw same refl;
      after = rw same refl;
      last = rw same refl;
      few = rw same refl;
    })
overflows t thread (Fat i) room e = cc

-- ---- a thread leaves

pub record Leaves (t : List Monitor) (thread : ℕ) (l : Lock) : Type 0 where
  pub thin : is_fat_lock l ≡ false
  pub still : is_fat_lock (lock_left thread l) ≡ false
  pub answer : Done ≡ (monitor_exit thread (monitor_of t l)).answer
  pub after : monitor_of t (lock_left thread l) ≡ (monitor_exit thread (monitor_of t l)).after

pub still_thin : (more : Bool) (owner left : ℕ) → is_fat_lock (if more then Thin owner left else Unlocked) ≡ false
still_thin true owner left = refl
still_thin false owner left = refl

pub none_left : (entries : ℕ) → ((entries - 1) == 0) ≡ not (nat_lt 1 entries)
none_left entries = grind (arith, nat_tests)

pub left_after : (t : List Monitor) (more none : Bool) (owner left : ℕ) → none ≡ not more
    → monitor_of t (if more then Thin owner left else Unlocked) ≡ (if none then unlocked else owned unlocked owner left)
left_after t true true owner left e = cc
left_after t true false owner left e = refl
left_after t false true owner left e = refl
left_after t false false owner left e = cc

pub leaves : (t : List Monitor) (thread : ℕ) (l : Lock) → try_exit.Left ≡ leaving thread l → Leaves t thread l
leaves t thread Unlocked e = cc
leaves t thread (Thin owner entries) e =
    let same : (owner == thread) ≡ true = left_test (owner == thread) e in
    record {
      thin = refl;
      still = rw same (still_thin (nat_lt 1 entries) owner (entries - 1));
      answer = rw same refl;
      after = rw same (left_after t (nat_lt 1 entries) ((entries - 1) == 0) owner (entries - 1) (none_left entries));
    }
leaves t thread (Fat i) e = cc

-- the thread isn't the owner
pub owns_not : (t : List Monitor) (thread : ℕ) (l : Lock) → try_exit.NotOwner ≡ leaving thread l
    → owns thread (monitor_of t l).owner ≡ false
owns_not t thread Unlocked e = refl
owns_not t thread (Thin owner entries) e = not_owner_test (owner == thread) e
owns_not t thread (Fat i) e = cc

-- ---- a thread enters again

pub relocks : (t : List Monitor) (thread count : ℕ) (l : Lock) → l ≡ Unlocked
    → owned unlocked thread count ≡ (monitor_relock thread count (monitor_of t l)).after
relocks t thread count l e = rw e refl

-- ---- the lock is fat

pub fat_entering : (thread i : ℕ) (l : Lock) → try_enter.Fat i ≡ entering thread l → Fat i ≡ l
fat_entering thread i Unlocked e = cc
fat_entering thread i (Thin owner entries) e = absurd (not_fat (owner == thread) (nat_lt entries 256) e)
  where
    not_fat : (a b : Bool) → try_enter.Fat i ≡ (if a then (if b then try_enter.Entered else try_enter.Full)
        else try_enter.Held) → ⊥
    not_fat true true e = cc
    not_fat true false e = cc
    not_fat false b e = cc
fat_entering thread i (Fat j) e = let same : i ≡ j = cc in ap Fat same

pub fat_leaving : (thread i : ℕ) (l : Lock) → try_exit.Fat i ≡ leaving thread l → Fat i ≡ l
fat_leaving thread i Unlocked e = cc
fat_leaving thread i (Thin owner entries) e = absurd (not_fat (owner == thread) e)
  where
    not_fat : (a : Bool) → try_exit.Fat i ≡ (if a then try_exit.Left else try_exit.NotOwner) → ⊥
    not_fat true e = cc
    not_fat false e = cc
fat_leaving thread i (Fat j) e = let same : i ≡ j = cc in ap Fat same

-- ---- an owner waits

pub record Waits (t : List Monitor) (thread : ℕ) (l : Lock) (entries : ℕ) : Type 0 where
  pub answer : Done ≡ (monitor_wait thread (monitor_of t l)).answer
  pub after : record { owner = None; count = 0; waiters = record { thread = thread; count = entries } ∷ [] }
      ≡ (monitor_wait thread (monitor_of t l)).after
  pub joins : owns thread (monitor_of t l).owner ≡ true

pub waits : (t : List Monitor) (thread owner entries count : ℕ) → owner ≡ thread → count ≡ entries
    → Waits t thread (Thin owner entries) count
waits t thread owner entries count e f =
    let same : (owner == thread) ≡ true = eq-eqb owner thread e in
    record { answer = rw same refl; after = rw (same, f) refl; joins = same }
