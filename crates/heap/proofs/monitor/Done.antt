-- A call is done, or refused: what is shown of the lock that it names, said of all of them.
use Rattle.std.proofs.Common.{◌≡◌, ℕ, ◌+◌, ◌<◌, ◌≤◌, List, [], ◌∷◌, ◌++◌, length, get_or, set, map, Bool, true, false}
use Rattle.std.proofs.Common.{refl, sym, ◌∙◌, ap, ◌-◌, Option, Some, None, subst, arith}
use Rattle.std.specs.List.{remove}
use Rattle.std.specs.Prelude.{◌==◌, nat_le, not, ◌&&◌, if◌then◌else◌, Result, Ok, Err, IfOk, OnOk, IfErr}
use Rattle.std.proofs.lemmas.Bool.Decides.{nat_tests}
use Rattle.std.proofs.lemmas.List.{set-get_or, length-map}
use Rattle.heap.specs.declared.lock_word.lock.Lock.{Lock}
use Rattle.heap.specs.declared.lock_word.lock.Lock.TheVariants.{Fat}
use Rattle.heap.specs.lock_word.Words.{Word}
use Rattle.model.specs.State.{Monitor}
use Rattle.model.specs.declared.monitor_answer.MonitorAnswer.{MonitorAnswer}
use Rattle.model.specs.declared.monitor_answer.MonitorAnswer.TheVariants.{Done, Held, NotOwner}
use Rattle.model.specs.Monitors.{Answered, answers_done, owned, owns, released, unlocked, monitor_at, with_answered}
use Rattle.model.specs.Monitors.{as_entrant, relock_from, monitor_enter}
use Rattle.heap.specs.declared.monitor.call.Call.{Call}
use Rattle.heap.specs.declared.monitor.call.Call.TheVariants.{Enter, Exit, Wait, Notify, NotifyAll, WakeAll, Interrupt}
use Rattle.heap.specs.declared.monitor.call.Call.TheVariants.{Relock}
use Rattle.heap.specs.monitor.Locks.{Locks, object_of, answered, answered_by, KeptUnlessDone, is_count_full_by}
use Rattle.heap.specs.monitor.Locks.{inflates, inflates_in, is_table_full, is_count_full, is_at_most_entries, fat_count}
use Rattle.heap.specs.monitor.Locks.{is_fat_at, IsDone, Answers}
use Rattle.heap.specs.declared.monitor.refusal.MonitorRefusal.{MonitorRefusal}
use Rattle.heap.specs.declared.monitor.refusal.MonitorRefusal.TheVariants.{LockCount}
use Rattle.heap.specs.monitor.Words.{monitor_of, monitors_of, is_fat_lock, is_fat_word, lock_at, AreSound, locks_of}
use Rattle.heap.proofs.monitor.Sound.{monitor_at-monitors_of, is_fat_at-map, count_by-map, locks_thin, locks_record}
use Rattle.heap.proofs.monitor.Sound.{locks_inflated, sound_inflated}

pub answered_is : (call : Call) (ms : List Monitor)
    → answered call ms ≡ with_answered (object_of call) ms (answered_by call (monitor_at ms (object_of call)))
answered_is (Enter object thread) ms = refl
answered_is (Exit object thread) ms = refl
answered_is (Wait object thread) ms = refl
answered_is (Notify object thread pick) ms = refl
answered_is (NotifyAll object thread) ms = refl
answered_is (WakeAll object) ms = refl
answered_is (Interrupt object thread) ms = refl
answered_is (Relock object thread count) ms = refl

-- the monitor that a call names
abbrev pub named : Call → List Monitor → List Word → Monitor
named call t ws = monitor_of t (lock_at ws (object_of call))

pub inflates_is : (call : Call) (t : List Monitor) (ws : List Word) (n : ℕ) → object_of call < length ws
    → inflates_in call (locks_of t ws n) ≡ inflates call (named call t ws)
inflates_is call t ws n h = ap (inflates call) (monitor_at-monitors_of t ws (object_of call) h)

pub full_is : (call : Call) (t : List Monitor) (ws : List Word) (n : ℕ) → object_of call < length ws
    → is_count_full call (locks_of t ws n) ≡ is_count_full_by call (named call t ws)
full_is call t ws n h = ap (is_count_full_by call) (monitor_at-monitors_of t ws (object_of call) h)

pub answers_is : (call : Call) (t : List Monitor) (ws : List Word) → object_of call < length ws
    → answered call (monitors_of t ws) ≡ with_answered (object_of call) (monitors_of t ws)
    (answered_by call (named call t ws))
answers_is call t ws h =
    answered_is call (monitors_of t ws) ∙ ap (λ (m : Monitor). with_answered (object_of call) (monitors_of t ws)
    (answered_by call m)) (monitor_at-monitors_of t ws (object_of call) h)

pub fat_count_is : (t : List Monitor) (ws : List Word) (n : ℕ) → AreSound t ws n
    → fat_count (locks_of t ws n) ≡ length t
fat_count_is t ws n s = count_by-map ws ∙ s.counted

-- a thin lock is written, or nothing
pub done_thin : (call : Call) (t : List Monitor) (ws : List Word) (n : ℕ) (w : Word)
    → object_of call < length ws → is_fat_lock (lock_at ws (object_of call)) ≡ false → is_fat_lock w.lock ≡ false
    → Done ≡ (answered_by call (named call t ws)).answer → monitor_of t w.lock
    ≡ (answered_by call (named call t ws)).after
    → inflates call (named call t ws) ≡ false → is_count_full_by call (named call t ws) ≡ false
    → IsDone Done call (locks_of t ws n) (locks_of t (set ws (object_of call) w) n)
done_thin call t ws n w h was is ans after small few =
    let e : answered call (monitors_of t ws) ≡ with_answered (object_of call) (monitors_of t ws)
    (answered_by call (named call t ws)) = answers_is call t ws h in
    let calm : inflates_in call (locks_of t ws n) ≡ false = inflates_is call t ws n h ∙ small in
    rw (locks_thin t ws n (object_of call) w was is) (record {
      answers = ans ∙ sym (ap (λ (x : Answered (List Monitor)). x.answer) e);
      monitors = ap (λ (m : Monitor). set (monitors_of t ws) (object_of call) m) after
          ∙ sym (ap (λ (x : Answered (List Monitor)). x.after) e);
      fat = rw calm refl;
      limit = refl;
      kept = tt;
      table = rw calm refl;
      count = full_is call t ws n h ∙ few;
    })

-- ---- whether the table is full

pub all_three : (a b c : Bool) → a ≡ true → b ≡ false → c ≡ true → (a && (not b && c)) ≡ true
all_three a b c p q r = rw (p, q, r) refl

pub not_third : (a b c : Bool) → c ≡ false → (a && (not b && c)) ≡ false
not_third true true c r = refl
not_third true false c r = r
not_third false b c r = refl

pub not_second : (a b c : Bool) → b ≡ true → (a && (not b && c)) ≡ false
not_second true b c q = rw q refl
not_second false b c q = refl

pub nat_le-true : (a b : ℕ) → a ≤ b → nat_le a b ≡ true
nat_le-true a b h = grind (arith, nat_tests)

pub nat_le-false : (a b : ℕ) → b < a → nat_le a b ≡ false
nat_le-false a b h = grind (arith, nat_tests)

pub table_full : (call : Call) (t : List Monitor) (ws : List Word) (n : ℕ)
    → AreSound t ws n → object_of call < length ws → is_fat_lock (lock_at ws (object_of call)) ≡ false
    → inflates call (named call t ws) ≡ true → n ≤ length t
    → is_table_full call (locks_of t ws n) ≡ true
table_full call t ws n s h was joins full =
    all_three (inflates_in call (locks_of t ws n)) (is_fat_at (locks_of t ws n) (object_of call))
    (nat_le n (fat_count (locks_of t ws n)))
    (inflates_is call t ws n h ∙ joins) (is_fat_at-map ws (object_of call) h ∙ was)
    (nat_le-true n _ (rw (fat_count_is t ws n s) full))

pub table_free : (call : Call) (t : List Monitor) (ws : List Word) (n : ℕ)
    → AreSound t ws n → length t < n → is_table_full call (locks_of t ws n) ≡ false
table_free call t ws n s room =
    not_third (inflates_in call (locks_of t ws n)) (is_fat_at (locks_of t ws n) (object_of call))
    (nat_le n (fat_count (locks_of t ws n)))
    (nat_le-false n _ (rw (fat_count_is t ws n s) room))

pub table_thick : (call : Call) (t : List Monitor) (ws : List Word) (n i : ℕ)
    → object_of call < length ws → lock_at ws (object_of call) ≡ Fat i → is_table_full call (locks_of t ws n) ≡ false
table_thick call t ws n i h e =
    not_second (inflates_in call (locks_of t ws n)) (is_fat_at (locks_of t ws n) (object_of call))
    (nat_le n (fat_count (locks_of t ws n)))
    (is_fat_at-map ws (object_of call) h ∙ ap is_fat_lock e)

-- what isn't done leaves the monitor as it is
abbrev pub MonitorKept : MonitorAnswer → Monitor → Monitor → Type 0
MonitorKept Done old new = Unit {0}
MonitorKept answer old new = new ≡ old

pub as_owner_kept : (b : Bool) (m after : Monitor)
    → MonitorKept (if b then answers_done after else record { answer = NotOwner; after = m }).answer
    m (if b then answers_done after else record { answer = NotOwner; after = m }).after
as_owner_kept true m after = tt
as_owner_kept false m after = refl

pub entrant_kept : (thread : ℕ) (owner : Option ℕ) (m free again : Monitor)
    → MonitorKept (as_entrant thread owner m (answers_done free) (answers_done again)).answer
    m (as_entrant thread owner m (answers_done free) (answers_done again)).after
entrant_kept thread None m free again = tt
entrant_kept thread (Some owner) m free again = by_test (owner == thread)
  where
    by_test : (b : Bool) → MonitorKept (if b then answers_done again else record { answer = Held; after = m }).answer
        m (if b then answers_done again else record { answer = Held; after = m }).after
    by_test true = tt
    by_test false = refl

pub relock_kept : (owner : Option ℕ) (m free : Monitor)
    → MonitorKept (relock_from owner m (answers_done free)).answer m (relock_from owner m (answers_done free)).after
relock_kept None m free = tt
relock_kept (Some owner) m free = refl

pub monitor_kept : (call : Call) (m : Monitor) → MonitorKept (answered_by call m).answer m (answered_by call m).after
monitor_kept (Enter object thread) m = entrant_kept thread m.owner m (owned m thread 1) (owned m thread (m.count + 1))
monitor_kept (Exit object thread) m = as_owner_kept (owns thread m.owner) m (released m (m.count - 1))
monitor_kept (Wait object thread) m = as_owner_kept (owns thread m.owner) m
    (record { owner = None; count = 0; waiters = m.waiters ++ record { thread = thread; count = m.count } ∷ [] })
monitor_kept (Notify object thread pick) m = as_owner_kept (owns thread m.owner) m
    (record m { waiters = remove m.waiters pick })
monitor_kept (NotifyAll object thread) m = as_owner_kept (owns thread m.owner) m (record m { waiters = [] })
monitor_kept (WakeAll object) m = tt
monitor_kept (Interrupt object thread) m = tt
monitor_kept (Relock object thread count) m = relock_kept m.owner m (owned m thread count)

pub record_kept : (answer : MonitorAnswer) (t : List Monitor) (ws : List Word) (n i : ℕ) (m : Monitor)
    → MonitorKept answer (monitor_at t i) m → KeptUnlessDone answer (locks_of t ws n) (locks_of (set t i m) ws n)
record_kept Done t ws n i m k = tt
record_kept Held t ws n i m k = ap (λ (u : List Monitor). locks_of u ws n) (ap (set t i) k ∙ set-get_or t i unlocked)
record_kept NotOwner t ws n i m k = ap (λ (u : List Monitor). locks_of u ws n)
    (ap (set t i) k ∙ set-get_or t i unlocked)

-- the record of a fat lock is written
pub fat_stays : (b : Bool) (fs : List Bool) (o : ℕ) → get_or fs o false ≡ true → fs ≡ (if b then set fs o true else fs)
fat_stays true fs o e = sym (ap (set fs o) (sym e) ∙ set-get_or fs o false)
fat_stays false fs o e = refl

pub done_record : (call : Call) (answer : MonitorAnswer) (t : List Monitor) (ws : List Word) (n i : ℕ)
    → AreSound t ws n → object_of call < length ws → lock_at ws (object_of call) ≡ Fat i
    → answer ≡ (answered_by call (monitor_at t i)).answer → is_count_full_by call (monitor_at t i) ≡ false
    → IsDone answer call (locks_of t ws n) (locks_of (set t i (answered_by call (monitor_at t i)).after) ws n)
done_record call answer t ws n i s h e ans few =
    let it : named call t ws ≡ monitor_at t i = ap (monitor_of t) e in
    let all : answered call (monitors_of t ws) ≡ with_answered (object_of call) (monitors_of t ws)
    (answered_by call (monitor_at t i)) =
    answers_is call t ws h ∙ ap (λ (m : Monitor). with_answered (object_of call) (monitors_of t ws)
    (answered_by call m)) it in
    let same : KeptUnlessDone answer (locks_of t ws n) (locks_of (set t i (answered_by call (monitor_at t i)).after) ws
    n) =
    record_kept answer t ws n i (answered_by call (monitor_at t i)).after
    (subst (λ (a : MonitorAnswer). MonitorKept a (monitor_at t i) (answered_by call (monitor_at t i)).after) (sym ans)
    (monitor_kept call (monitor_at t i))) in
    let shown = locks_record t ws n (object_of call) i (answered_by call (monitor_at t i)).after s h e in
    rw (locks_record t ws n (object_of call) i (answered_by call (monitor_at t i)).after s h e) (record {
      answers = ans ∙ sym (ap (λ (x : Answered (List Monitor)). x.answer) all);
      monitors = sym (ap (λ (x : Answered (List Monitor)). x.after) all);
      fat = fat_stays (inflates_in call (locks_of t ws n)) (map is_fat_word ws) (object_of call)
          (is_fat_at-map ws (object_of call) h ∙ ap is_fat_lock e);
      limit = refl;
      kept = subst (λ (v : Locks). KeptUnlessDone answer (locks_of t ws n) v) shown same;
      table = table_thick call t ws n i h e;
      count = full_is call t ws n h ∙ ap (is_count_full_by call) it ∙ few;
    })

-- a lock is inflated
pub done_inflated : (call : Call) (t : List Monitor) (ws : List Word) (n : ℕ) (w : Word)
    → AreSound t ws n → object_of call < length ws → w.lock ≡ Fat (length t) → length t < n
    → Done ≡ (answered_by call (named call t ws)).answer
    → inflates call (named call t ws) ≡ true → is_count_full_by call (named call t ws) ≡ false
    → IsDone Done call (locks_of t ws n) (locks_of (t ++ (answered_by call (named call t ws)).after ∷ [])
    (set ws (object_of call) w) n)
done_inflated call t ws n w s h is room ans joins few =
    let e : answered call (monitors_of t ws) ≡ with_answered (object_of call) (monitors_of t ws)
    (answered_by call (named call t ws)) = answers_is call t ws h in
    let grows : inflates_in call (locks_of t ws n) ≡ true = inflates_is call t ws n h ∙ joins in
    rw (locks_inflated t ws n (object_of call) w (answered_by call (named call t ws)).after s is) (record {
      answers = ans ∙ sym (ap (λ (x : Answered (List Monitor)). x.answer) e);
      monitors = sym (ap (λ (x : Answered (List Monitor)). x.after) e);
      fat = rw grows refl;
      limit = refl;
      kept = tt;
      table = table_free call t ws n s room;
      count = full_is call t ws n h ∙ few;
    })

-- ---- the same, by what a body knows

pub in_range : (t : List Monitor) (ws : List Word) (n o : ℕ) (v : Locks) → locks_of t ws n ≡ v → o < length v.monitors
    → o < length ws
in_range t ws n o v e h = rw (← e, length-map ws (λ (word : Word). monitor_of t word.lock)) at h

pub record_done : (call : Call) (answer : MonitorAnswer) (t u : List Monitor) (ws xs : List Word) (n i : ℕ) (v : Locks)
    → locks_of t ws n ≡ v → AreSound t ws n → object_of call < length v.monitors → xs ≡ ws
    → Fat i ≡ lock_at xs (object_of call)
    → answer ≡ (answered_by call (monitor_at t i)).answer → u ≡ set t i (answered_by call (monitor_at t i)).after
    → is_count_full_by call (monitor_at t i) ≡ false
    → IsDone answer call v (locks_of u ws n)
record_done call answer t u ws xs n i v e s h same fat ans after few =
    let at : lock_at ws (object_of call) ≡ Fat i = ap (λ (x : List Word). lock_at x (object_of call)) (sym same)
    ∙ sym fat in
    rw (← e, after) (done_record call answer t ws n i s (in_range t ws n (object_of call) v e h) at ans few)

abbrev pub lock_is : (ws xs : List Word) (o : ℕ) (l : Lock) → xs ≡ ws → l ≡ lock_at xs o → lock_at ws o ≡ l
lock_is ws xs o l same is = ap (λ (x : List Word). lock_at x o) (sym same) ∙ sym is

pub thin_done : (call : Call) (t : List Monitor) (ws xs : List Word) (n : ℕ) (v : Locks) (l : Lock) (w : Word)
    → locks_of t ws n ≡ v → object_of call < length v.monitors → xs ≡ ws → l ≡ lock_at xs (object_of call)
    → is_fat_lock l ≡ false
    → is_fat_lock w.lock ≡ false
    → Done ≡ (answered_by call (monitor_of t l)).answer → monitor_of t w.lock
    ≡ (answered_by call (monitor_of t l)).after
    → inflates call (monitor_of t l) ≡ false → is_count_full_by call (monitor_of t l) ≡ false
    → IsDone Done call v (locks_of t (set ws (object_of call) w) n)
thin_done call t ws xs n v l w e h same is was new ans after small few =
    let at : lock_at ws (object_of call) ≡ l = lock_is ws xs (object_of call) l same is in
    let it : named call t ws ≡ monitor_of t l = ap (monitor_of t) at in
    rw (← e) (done_thin call t ws n w (in_range t ws n (object_of call) v e h) (ap is_fat_lock at ∙ was) new
    (ans ∙ sym (ap (λ (m : Monitor). (answered_by call m).answer) it))
    (after ∙ sym (ap (λ (m : Monitor). (answered_by call m).after) it))
    (ap (inflates call) it ∙ small) (ap (is_count_full_by call) it ∙ few))

pub inflated_done : (call : Call) (t u : List Monitor) (ws xs : List Word) (n : ℕ) (v : Locks) (l : Lock) (w : Word)
    → locks_of t ws n ≡ v → AreSound t ws n → object_of call < length v.monitors → xs ≡ ws
    → l ≡ lock_at xs (object_of call)
    → w.lock ≡ Fat (length t) → length t < n
    → Done ≡ (answered_by call (monitor_of t l)).answer → u ≡ t ++ (answered_by call (monitor_of t l)).after ∷ []
    → inflates call (monitor_of t l) ≡ true → is_count_full_by call (monitor_of t l) ≡ false
    → IsDone Done call v (locks_of u (set ws (object_of call) w) n)
inflated_done call t u ws xs n v l w e s h same is new room ans after joins few =
    let at : lock_at ws (object_of call) ≡ l = lock_is ws xs (object_of call) l same is in
    let it : named call t ws ≡ monitor_of t l = ap (monitor_of t) at in
    rw (← e, after, ← it) (done_inflated call t ws n w s (in_range t ws n (object_of call) v e h) new room
    (ans ∙ sym (ap (λ (m : Monitor). (answered_by call m).answer) it))
    (ap (inflates call) it ∙ joins) (ap (is_count_full_by call) it ∙ few))

pub full_table : (call : Call) (t : List Monitor) (ws xs : List Word) (n : ℕ) (v : Locks) (l : Lock)
    → locks_of t ws n ≡ v → AreSound t ws n → object_of call < length v.monitors → xs ≡ ws
    → l ≡ lock_at xs (object_of call)
    → is_fat_lock l ≡ false
    → inflates call (monitor_of t l) ≡ true → n ≤ length t → is_table_full call v ≡ true
full_table call t ws xs n v l e s h same is was joins full =
    let at : lock_at ws (object_of call) ≡ l = lock_is ws xs (object_of call) l same is in
    let it : named call t ws ≡ monitor_of t l = ap (monitor_of t) at in
    rw (← e) (table_full call t ws n s (in_range t ws n (object_of call) v e h) (ap is_fat_lock at ∙ was)
    (ap (inflates call) it ∙ joins) full)

pub inflated_sound : (t u : List Monitor) (ws xs : List Word) (n o : ℕ) (v : Locks) (l : Lock) (w : Word) (m : Monitor)
    → locks_of t ws n ≡ v → AreSound t ws n → o < length v.monitors → xs ≡ ws → l ≡ lock_at xs o → is_fat_lock l ≡ false
    → w.lock ≡ Fat (length t) → length t < n
    → u ≡ t ++ m ∷ [] → AreSound u (set ws o w) n
inflated_sound t u ws xs n o v l w m e s h same is was new room after =
    rw after (sound_inflated t ws n o w m s (in_range t ws n o v e h) (ap is_fat_lock (lock_is ws xs o l same is) ∙ was)
    new room)

-- what a fat lock's monitor answers to a thread that enters
pub fat_entered : (r : Result MonitorAnswer MonitorRefusal) (o thread : ℕ) (t u : List Monitor) (ws xs : List Word)
    (n i : ℕ) (v : Locks)
    → locks_of t ws n ≡ v → AreSound t ws n → o < length v.monitors → xs ≡ ws → Fat i ≡ lock_at xs o
    → IfOk r (λ a. a ≡ (monitor_enter thread (monitor_at t i)).answer)
    → OnOk r (u ≡ set t i (monitor_enter thread (monitor_at t i)).after)
    → OnOk r (is_at_most_entries thread (monitor_at t i) ≡ false)
    → IfErr r (λ e. (e ≡ LockCount) × (is_at_most_entries thread (monitor_at t i) ≡ true) × (u ≡ t))
    → Answers r (Enter o thread) v (locks_of u ws n)
fat_entered (Ok a) o thread t u ws xs n i v e s h same fat ans after few refused =
    record_done (Enter o thread) a t u ws xs n i v e s h same fat ans after few
fat_entered (Err refusal) o thread t u ws xs n i v e s h same fat ans after few refused =
    let at : lock_at ws o ≡ Fat i = lock_is ws xs o (Fat i) same fat in
    let full : is_count_full (Enter o thread) (locks_of t ws n) ≡ true =
    full_is (Enter o thread) t ws n (in_range t ws n o v e h)
    ∙ ap (λ (l : Lock). is_at_most_entries thread (monitor_of t l)) at ∙ refused.1 in
    rw (refused.0, refused.2, ← e) (full, refl)

pub needs_room : (call : Call) (t : List Monitor) (ws xs : List Word) (n : ℕ) (v : Locks) (l : Lock)
    → locks_of t ws n ≡ v → object_of call < length v.monitors → xs ≡ ws → l ≡ lock_at xs (object_of call)
    → is_fat_lock l ≡ false
    → inflates call (monitor_of t l) ≡ true → (inflates_in call v && not (is_fat_at v (object_of call))) ≡ true
needs_room call t ws xs n v l e h same is was joins =
    let at : lock_at ws (object_of call) ≡ l = lock_is ws xs (object_of call) l same is in
    let there : object_of call < length ws = in_range t ws n (object_of call) v e h in
    let grows : inflates_in call (locks_of t ws n) ≡ true = inflates_is call t ws n there
    ∙ ap (λ (k : Lock). inflates call (monitor_of t k)) at ∙ joins in
    let thin : is_fat_at (locks_of t ws n) (object_of call) ≡ false = is_fat_at-map ws (object_of call) there
    ∙ ap is_fat_lock at ∙ was in
    rw (← e) (both (inflates_in call (locks_of t ws n)) (is_fat_at (locks_of t ws n) (object_of call)) grows thin)
  where
    both : (a b : Bool) → a ≡ true → b ≡ false → (a && not b) ≡ true
    both a b p q = rw (p, q) refl
