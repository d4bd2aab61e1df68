-- Monitors that are written, and read again.
use Rattle.std.proofs.Common.{◌≡◌, ℕ, ◌+◌, ◌<◌, List, [], ◌∷◌, ◌++◌, length, take, set, refl, sym, ◌∙◌, ap, subst, Option, Some, None, Bool, true, false, Ok, arith, length-append, append_assoc}
use Rattle.std.specs.Prelude.{slice_get, ◌==◌, if◌then◌else◌}
use Rattle.std.proofs.lemmas.Bool.{eq-eqb}
use Rattle.std.proofs.lemmas.List.{get_or-set_same, set-set, set-get_or, take_more}
use Rattle.std.proofs.lemmas.Option.{get_or_from_slice_get}
use Rattle.model.specs.State.{Monitor, Waiter}
use Rattle.model.specs.Monitors.{Answered, answers_done, unlocked, owned, owns, monitor_at, monitor_relock, monitor_wait, relock_from}
use Rattle.model.specs.declared.monitor_answer.MonitorAnswer.TheVariants.{Done}
use Rattle.heap.specs.declared.monitor.call.Call.TheVariants.{Relock, Wait, WakeAll}
use Rattle.heap.specs.monitor.Locks.{Locks, IsDone, is_fat_at}
use Rattle.heap.specs.Heap.{Heap, HandsOn}
use Rattle.kept_parts.specs.Objects.{owner_code, waiters_row, with_monitor, with_monitor_at, joined, Enters, Joins, Inflates, AreWaitersRead, IsOwnerRead, IsMonitorRead}

-- ---- rows

waiters_push : (ws : List Waiter) (w : Waiter) → waiters_row (ws ++ w ∷ []) ≡ waiters_row ws ++ w.thread ∷ w.count ∷ []
waiters_push [] w = refl
waiters_push (x ∷ ws) w = ap (λ (ns : List ℕ). x.thread ∷ x.count ∷ ns) (waiters_push ws w)

-- one more member is written
pub one_written : (ws : List Waiter) (pick : ℕ) (w : Waiter) (start before mid after : List ℕ) → pick < length ws → slice_get ws pick ≡ Some w
    → before ≡ start ++ waiters_row (take pick ws) → mid ≡ before ++ w.thread ∷ [] → after ≡ mid ++ w.count ∷ []
    → after ≡ start ++ waiters_row (take (pick + 1) ws)
one_written ws pick w start before mid after h at is first second =
    let more : take (pick + 1) ws ≡ take pick ws ++ w ∷ [] = take_more ws pick w h ∙ ap (λ (x : Waiter). take pick ws ++ x ∷ []) (get_or_from_slice_get ws pick w w at) in
    second
    ∙ ap (λ (ns : List ℕ). ns ++ w.count ∷ []) first
    ∙ append_assoc before (w.thread ∷ []) (w.count ∷ [])
    ∙ ap (λ (ns : List ℕ). ns ++ w.thread ∷ w.count ∷ []) is
    ∙ append_assoc start (waiters_row (take pick ws)) (w.thread ∷ w.count ∷ [])
    ∙ ap (λ (ns : List ℕ). start ++ ns) (sym (waiters_push (take pick ws) w) ∙ ap waiters_row (sym more))

-- ---- locks

abbrev locks_with : List Monitor → List Bool → ℕ → Locks
locks_with monitors fat limit = record { monitors = monitors; fat = fat; limit = limit }

locks_are : (l : Locks) (ms : List Monitor) (fat : List Bool) (limit : ℕ) → l.monitors ≡ ms → l.fat ≡ fat → l.limit ≡ limit → l ≡ locks_with ms fat limit
locks_are l ms fat limit a b c =
    ap (λ (x : List Monitor). locks_with x l.fat l.limit) a
    ∙ ap (λ (x : List Bool). locks_with ms x l.limit) b
    ∙ ap (λ (x : ℕ). locks_with ms fat x) c

abbrev bare : List Waiter → Monitor
bare ws = record { owner = None; count = 0; waiters = ws }

-- what was written to an object last stands
written_again : (object : ℕ) (m n : Monitor) (fat : Bool) (old : Heap)
    → with_monitor object n fat (with_monitor object m fat old) ≡ with_monitor object n fat old
written_again object m n fat old =
    ap (λ (l : Locks). record old { locks = l })
    (locks_are (with_monitor object n fat (with_monitor object m fat old)).locks (set old.locks.monitors object n) (set old.locks.fat object fat) old.locks.limit
    (set-set old.locks.monitors object m n) (set-set old.locks.fat object fat fat) refl)

written_beside : (object : ℕ) (m n : Monitor) (fat : Bool) (old : Heap)
    → with_monitor_at object n (with_monitor object m fat old) ≡ with_monitor object n fat old
written_beside object m n fat old =
    ap (λ (ms : List Monitor). record old { locks = locks_with ms (set old.locks.fat object fat) old.locks.limit }) (set-set old.locks.monitors object m n)

pub read_back : (object : ℕ) (m : Monitor) (fat : Bool) (old new : Heap) → object < length old.locks.monitors → new ≡ with_monitor object m fat old
    → monitor_at new.locks.monitors object ≡ m
read_back object m fat old new there is =
    ap (λ (h : Heap). monitor_at h.locks.monitors object) is ∙ get_or-set_same old.locks.monitors object m unlocked there

-- what stands there already
pub unwritten : (object : ℕ) (m : Monitor) (fat : Bool) (old : Heap) → monitor_at old.locks.monitors object ≡ m → is_fat_at old.locks object ≡ fat
    → old ≡ with_monitor object m fat old
unwritten object m fat old is flag =
    sym (ap (λ (l : Locks). record old { locks = l })
    (locks_are (with_monitor object m fat old).locks old.locks.monitors old.locks.fat old.locks.limit
    (ap (λ (x : Monitor). set old.locks.monitors object x) (sym is) ∙ set-get_or old.locks.monitors object unlocked)
    (ap (λ (b : Bool). set old.locks.fat object b) (sym flag) ∙ set-get_or old.locks.fat object false) refl))

-- ---- calls

free_of : (o : Option ℕ) (m : Monitor) (free : Answered Monitor) → Done ≡ (relock_from o m free).answer → (o ≡ None) × (relock_from o m free ≡ free)
free_of None m free h = (refl, refl)
free_of (Some thread) m free h = absurd (cc)

pub entered : (object thread count : ℕ) (old new : Heap) → object < length old.locks.monitors → HandsOn (Ok Done) (Relock object thread count) old new
    → Enters object thread count old new
entered object thread count old new there h =
    let m : Monitor = monitor_at old.locks.monitors object in
    let d : IsDone Done (Relock object thread count) old.locks new.locks = h.answers in
    let f : (m.owner ≡ None) × (monitor_relock thread count m ≡ answers_done (owned m thread count)) = free_of m.owner m (answers_done (owned m thread count)) d.answers in
    record {
      there = there;
      free = f.0;
      after = h.rest ∙ ap (λ (l : Locks). record old { locks = l })
          (locks_are new.locks (set old.locks.monitors object (owned m thread count)) old.locks.fat old.locks.limit
          (d.monitors ∙ ap (λ (a : Answered Monitor). set old.locks.monitors object a.after) f.1) d.fat d.limit);
    }

same_number : (n : ℕ) → (n == n) ≡ true
same_number n = eq-eqb n n refl

wait_owned : (m : Monitor) (thread count : ℕ) → (monitor_wait thread (owned m thread count)).after ≡ joined thread count m
wait_owned m thread count = rw (same_number thread) refl

fat_owned : (thread : ℕ) (xs ys : List Bool) → (if owns thread (Some thread) then xs else ys) ≡ xs
fat_owned thread xs ys = rw (same_number thread) refl

pub waits : (object thread count : ℕ) (old mid new : Heap) → Enters object thread count old mid → HandsOn (Ok Done) (Wait object thread) mid new
    → Joins object thread count old new
waits object thread count old mid new e h =
    let m : Monitor = monitor_at old.locks.monitors object in
    let ms : List Monitor = old.locks.monitors in
    let between : Heap = with_monitor_at object (owned m thread count) old in
    let g : HandsOn (Ok Done) (Wait object thread) between new = subst (λ (x : Heap). HandsOn (Ok Done) (Wait object thread) x new) e.after h in
    let d : IsDone Done (Wait object thread) between.locks new.locks = g.answers in
    let read : monitor_at (set ms object (owned m thread count)) object ≡ owned m thread count = get_or-set_same ms object (owned m thread count) unlocked e.there in
    record {
      there = e.there;
      free = e.free;
      after = g.rest ∙ ap (λ (l : Locks). record old { locks = l })
          (locks_are new.locks (set ms object (joined thread count m)) (set old.locks.fat object true) old.locks.limit
          (d.monitors
          ∙ ap (λ (x : Monitor). set (set ms object (owned m thread count)) object (monitor_wait thread x).after) read
          ∙ ap (λ (x : Monitor). set (set ms object (owned m thread count)) object x) (wait_owned m thread count)
          ∙ set-set ms object (owned m thread count) (joined thread count m))
          (d.fat
          ∙ ap (λ (x : Monitor). if owns thread x.owner then set old.locks.fat object true else old.locks.fat) read
          ∙ fat_owned thread (set old.locks.fat object true) old.locks.fat)
          d.limit);
    }

pub wakes : (object thread count : ℕ) (old mid new : Heap) → Joins object thread count old mid → HandsOn (Ok Done) (WakeAll object) mid new
    → Inflates object old new
wakes object thread count old mid new j h =
    let m : Monitor = joined thread count (monitor_at old.locks.monitors object) in
    let ms : List Monitor = old.locks.monitors in
    let between : Heap = with_monitor object m true old in
    let g : HandsOn (Ok Done) (WakeAll object) between new = subst (λ (x : Heap). HandsOn (Ok Done) (WakeAll object) x new) j.after h in
    let d : IsDone Done (WakeAll object) between.locks new.locks = g.answers in
    let read : monitor_at (set ms object m) object ≡ m = get_or-set_same ms object m unlocked j.there in
    record {
      there = j.there;
      after = g.rest ∙ ap (λ (l : Locks). record old { locks = l })
          (locks_are new.locks (set ms object unlocked) (set old.locks.fat object true) old.locks.limit
          (d.monitors
          ∙ ap (λ (x : Monitor). set (set ms object m) object (record x { waiters = [] })) read
          ∙ set-set ms object m unlocked)
          d.fat d.limit);
    }

-- ---- wait sets

pub none_read : (object : ℕ) (row : List ℕ) (old new : Heap) → Inflates object old new → AreWaitersRead object true 0 row row old new
none_read object row old new h = record { waiters = []; many = refl; row_is = refl; after = h.after }

pub one_read : (object count thread entries : ℕ) (row first second third : List ℕ) (old mid new : Heap) → object < length old.locks.monitors
    → AreWaitersRead object true count row first old mid → first ≡ thread ∷ second → second ≡ entries ∷ third → Joins object thread entries mid new
    → AreWaitersRead object true (count + 1) row third old new
one_read object count thread entries row first second third old mid new there a f s j =
    let w : Waiter = record { thread = thread; count = entries } in
    let read : monitor_at mid.locks.monitors object ≡ bare a.waiters = read_back object (bare a.waiters) true old mid there a.after in
    record {
      waiters = a.waiters ++ w ∷ [];
      many = omega (arith, a.many, length-append a.waiters (w ∷ []));
      row_is = a.row_is
          ∙ ap (λ (ns : List ℕ). waiters_row a.waiters ++ ns) (f ∙ ap (λ (ns : List ℕ). thread ∷ ns) s)
          ∙ sym (append_assoc (waiters_row a.waiters) (thread ∷ entries ∷ []) third)
          ∙ ap (λ (ns : List ℕ). ns ++ third) (sym (waiters_push a.waiters w));
      after = j.after
          ∙ ap (λ (x : Monitor). with_monitor object (joined thread entries x) true mid) read
          ∙ ap (λ (h : Heap). with_monitor object (bare (a.waiters ++ w ∷ [])) true h) a.after
          ∙ written_again object (bare a.waiters) (bare (a.waiters ++ w ∷ [])) true old;
    }

pub no_waiters : (object : ℕ) (row : List ℕ) (old : Heap) → monitor_at old.locks.monitors object ≡ unlocked → is_fat_at old.locks object ≡ false
    → AreWaitersRead object false 0 row row old old
no_waiters object row old free thin = record { waiters = []; many = refl; row_is = refl; after = unwritten object unlocked false old free thin }

-- ---- owners

pub owner_entered : (object thread word count : ℕ) (old new : Heap) → word ≡ thread + 1 → Enters object thread count old new → IsOwnerRead object word count old new
owner_entered object thread word count old new is e = record { owner = Some thread; word_is = is; after = e.after }

pub no_owner : (object word count : ℕ) (old : Heap) → word ≡ 0 → count ≡ 0 → (monitor_at old.locks.monitors object).owner ≡ None
    → (monitor_at old.locks.monitors object).count ≡ 0 → IsOwnerRead object word count old old
no_owner object word count old is zero none nothing =
    let m : Monitor = monitor_at old.locks.monitors object in
    let same : record m { owner = None; count = count } ≡ m =
    ap (λ (o : Option ℕ). record m { owner = o; count = count }) (sym none) ∙ ap (λ (n : ℕ). record m { count = n }) (zero ∙ sym nothing) in
    record {
      owner = None;
      word_is = is;
      after = sym (ap (λ (ms : List Monitor). record old { locks = locks_with ms old.locks.fat old.locks.limit })
          (ap (λ (x : Monitor). set old.locks.monitors object x) same ∙ set-get_or old.locks.monitors object unlocked));
    }

pub monitor_read : (object word count many : ℕ) (fat : Bool) (row first second third rest : List ℕ) (old mid new : Heap)
    → object < length old.locks.monitors → row ≡ word ∷ first → first ≡ count ∷ second → second ≡ many ∷ third
    → AreWaitersRead object fat many third rest old mid → IsOwnerRead object word count mid new
    → IsMonitorRead object fat row rest old new
monitor_read object word count many fat row first second third rest old mid new there f s t a o =
    let read : monitor_at mid.locks.monitors object ≡ bare a.waiters = read_back object (bare a.waiters) fat old mid there a.after in
    let m : Monitor = record { owner = o.owner; count = count; waiters = a.waiters } in
    record {
      monitor = m;
      row_is = f
          ∙ ap (λ (ns : List ℕ). word ∷ ns) (s ∙ ap (λ (ns : List ℕ). count ∷ ns) (t ∙ ap (λ (ns : List ℕ). many ∷ ns) a.row_is))
          ∙ ap (λ (n : ℕ). n ∷ count ∷ many ∷ (waiters_row a.waiters ++ rest)) o.word_is
          ∙ ap (λ (n : ℕ). owner_code o.owner ∷ count ∷ n ∷ (waiters_row a.waiters ++ rest)) (sym a.many);
      after = o.after
          ∙ ap (λ (x : Monitor). with_monitor_at object (record x { owner = o.owner; count = count }) mid) read
          ∙ ap (λ (h : Heap). with_monitor_at object m h) a.after
          ∙ written_beside object (bare a.waiters) m fat old;
    }
