-- The fields of a thread, set one after another; an object, read part by part.
use Rattle.std.proofs.Common.{◌≡◌, ℕ, ◌+◌, ◌<◌, List, [], ◌∷◌, ◌++◌, length, set, refl, sym, ◌∙◌, ap, Bool, true, false, arith, append-nil}
use Rattle.std.proofs.lemmas.List.{get_or-set_same, set-set}
use Rattle.std.proofs.Math.Seq.{get_or-append_seam, set-append_seam}
use Rattle.model.specs.State.{Monitor, Thread, new_thread}
use Rattle.model.specs.Monitors.{monitor_at, unlocked}
use Rattle.heap.specs.monitor.Locks.{Locks, is_fat_at}
use Rattle.heap.specs.Heap.{Object, Heap, with_object}
use Rattle.heap.specs.declared.kind.ObjectKind.{ObjectKind}
use Rattle.heap.specs.java_threads.Table.{ThreadTable, thread_at, with_thread}
use Rattle.heap.specs.java_threads.Statuses.{status_of}
use Rattle.kept_parts.specs.declared.thread_rows.Fields.{Fields}
use Rattle.kept_parts.specs.Objects.{kind_row, monitor_row, opened, with_kept, with_monitor, IsMonitorRead, IsObjectRead}
use Rattle.kept_parts.specs.Threads.{thread_of}

-- ---- threads

-- a thread was written, and is changed once more
then : (old mid new : ThreadTable) (t : ℕ) (x : Thread) (f : Thread → Thread) → t < length old.threads → mid ≡ with_thread old t x
    → new ≡ with_thread mid t (f (thread_at mid.threads t)) → new ≡ with_thread old t (f x)
then old mid new t x f there is step =
    let read : thread_at mid.threads t ≡ x = ap (λ (a : ThreadTable). thread_at a.threads t) is ∙ get_or-set_same old.threads t x (new_thread 0) there in
    step
    ∙ ap (λ (y : Thread). with_thread mid t (f y)) read
    ∙ ap (λ (a : ThreadTable). with_thread a t (f x)) is
    ∙ ap (λ (ts : List Thread). record old { threads = ts }) (set-set old.threads t x (f x))

pub fields_set : (old a b c new : ThreadTable) (t : ℕ) (f : Fields) → t < length old.threads → (thread_at old.threads t).object ≡ f.object
    → a ≡ with_thread old t (record (thread_at old.threads t) { begun = f.begun })
    → b ≡ with_thread a t (record (thread_at a.threads t) { pending = f.pending })
    → c ≡ with_thread b t (record (thread_at b.threads t) { interrupted = f.interrupted })
    → new ≡ with_thread c t (record (thread_at c.threads t) { status = status_of f.status })
    → new ≡ with_thread old t (thread_of f)
fields_set old a b c new t f there object first second third fourth =
    let x : Thread = record (thread_at old.threads t) { begun = f.begun } in
    let two : b ≡ with_thread old t (record x { pending = f.pending }) = then old a b t x (λ (y : Thread). record y { pending = f.pending }) there first second in
    let three : c ≡ with_thread old t (record x { pending = f.pending; interrupted = f.interrupted }) =
    then old b c t (record x { pending = f.pending }) (λ (y : Thread). record y { interrupted = f.interrupted }) there two third in
    then old c new t (record x { pending = f.pending; interrupted = f.interrupted }) (λ (y : Thread). record y { status = status_of f.status }) there three fourth
    ∙ ap (λ (n : ℕ). with_thread old t (record (thread_of f) { object = n })) object

pub thread_added : (old mid new : ThreadTable) (t object : ℕ) (f : Fields) → t ≡ length old.threads
    → mid ≡ record old { threads = old.threads ++ new_thread object ∷ [] } → new ≡ with_thread mid t (thread_of f)
    → new ≡ record old { threads = old.threads ++ thread_of f ∷ [] }
thread_added old mid new t object f at is step =
    step
    ∙ ap (λ (a : ThreadTable). with_thread a t (thread_of f)) is
    ∙ ap (λ (ts : List Thread). record old { threads = ts })
    (ap (λ (n : ℕ). set (old.threads ++ new_thread object ∷ []) n (thread_of f)) at ∙ set-append_seam old.threads (new_thread object) [] (thread_of f))

-- ---- objects

opened_locks : (b : Bool) (count : ℕ) (h : Heap) → (opened b count h).locks ≡ h.locks
opened_locks false count h = refl
opened_locks true count h = refl

abbrev bare : ObjectKind → List ℕ → Object
bare kind words = record { kind = kind; words = words }

abbrev locks_with : List Monitor → List Bool → ℕ → Locks
locks_with monitors fat limit = record { monitors = monitors; fat = fat; limit = limit }

-- the locks, after an object was added
locks_after : (opening : Bool) (o : Object) (old mid : Heap) → mid ≡ opened opening (length old.objects + 1) (with_kept o unlocked false old)
    → mid.locks ≡ (with_kept o unlocked false old).locks
locks_after opening o old mid is = ap (λ (h : Heap). h.locks) is ∙ opened_locks opening (length old.objects + 1) (with_kept o unlocked false old)

pub added_there : (opening : Bool) (o : Object) (object : ℕ) (old mid : Heap) → mid ≡ opened opening (length old.objects + 1) (with_kept o unlocked false old)
    → object ≡ length old.locks.monitors → object < length mid.locks.monitors
added_there opening o object old mid is at =
    let long : length mid.locks.monitors ≡ length (old.locks.monitors ++ unlocked ∷ []) = ap (λ (l : Locks). length l.monitors) (locks_after opening o old mid is) in
    omega (arith, long, at, length-push old.locks.monitors unlocked)
  where
    length-push : (ms : List Monitor) (m : Monitor) → length (ms ++ m ∷ []) ≡ length ms + 1
    length-push [] m = refl
    length-push (x ∷ ms) m = omega (arith, length-push ms m)

pub added_free : (opening : Bool) (o : Object) (object : ℕ) (old mid : Heap) → mid ≡ opened opening (length old.objects + 1) (with_kept o unlocked false old)
    → object ≡ length old.locks.monitors → monitor_at mid.locks.monitors object ≡ unlocked
added_free opening o object old mid is at =
    ap (λ (l : Locks). monitor_at l.monitors object) (locks_after opening o old mid is)
    ∙ ap (λ (n : ℕ). monitor_at (old.locks.monitors ++ unlocked ∷ []) n) at
    ∙ get_or-append_seam old.locks.monitors unlocked [] unlocked

pub added_thin : (opening : Bool) (o : Object) (object : ℕ) (old mid : Heap) → mid ≡ opened opening (length old.objects + 1) (with_kept o unlocked false old)
    → object ≡ length old.locks.fat → is_fat_at mid.locks object ≡ false
added_thin opening o object old mid is at =
    ap (λ (l : Locks). is_fat_at l object) (locks_after opening o old mid is)
    ∙ ap (λ (n : ℕ). is_fat_at (locks_with (old.locks.monitors ++ unlocked ∷ []) (old.locks.fat ++ false ∷ []) old.locks.limit) n) at
    ∙ get_or-append_seam old.locks.fat false [] false

locks_last : (locks : Locks) (object : ℕ) (m : Monitor) (fat : Bool) → object ≡ length locks.monitors → object ≡ length locks.fat
    → locks_with (set (locks.monitors ++ unlocked ∷ []) object m) (set (locks.fat ++ false ∷ []) object fat) locks.limit
    ≡ locks_with (locks.monitors ++ m ∷ []) (locks.fat ++ fat ∷ []) locks.limit
locks_last locks object m fat a b =
    ap (λ (ms : List Monitor). locks_with ms (set (locks.fat ++ false ∷ []) object fat) locks.limit)
    (ap (λ (n : ℕ). set (locks.monitors ++ unlocked ∷ []) n m) a ∙ set-append_seam locks.monitors unlocked [] m)
    ∙ ap (λ (bs : List Bool). locks_with (locks.monitors ++ m ∷ []) bs locks.limit)
    (ap (λ (n : ℕ). set (locks.fat ++ false ∷ []) n fat) b ∙ set-append_seam locks.fat false [] fat)

kept_last : (opening : Bool) (count object : ℕ) (o : Object) (m : Monitor) (fat : Bool) (old : Heap) → object ≡ length old.locks.monitors
    → object ≡ length old.locks.fat
    → with_monitor object m fat (opened opening count (with_kept o unlocked false old)) ≡ opened opening count (with_kept o m fat old)
kept_last false count object o m fat old a b =
    ap (λ (l : Locks). record old { objects = old.objects ++ o ∷ []; locks = l }) (locks_last old.locks object m fat a b)
kept_last true count object o m fat old a b =
    ap (λ (l : Locks). record old { objects = old.objects ++ o ∷ []; locks = l; opening = count; counted = 0 }) (locks_last old.locks object m fat a b)

-- an object of which no cell counts
pub none_counted : (o : Object) (old new : Heap) → new ≡ with_object old o 0 → new ≡ with_kept o unlocked false old
none_counted o old new is = is ∙ ap (λ (n : ℕ). record (with_kept o unlocked false old) { counted = n }) (omega arith)

pub object_read : (opening fat : Bool) (object count : ℕ) (kind : ObjectKind) (words row first second third rest : List ℕ) (old mid new : Heap)
    → object ≡ length old.locks.monitors → object ≡ length old.locks.fat
    → row ≡ kind_row kind ++ first → first ≡ count ∷ second → second ≡ words ++ third → length words ≡ count
    → mid ≡ opened opening (length old.objects + 1) (with_kept (bare kind words) unlocked false old)
    → IsMonitorRead object fat third rest mid new → rest ≡ []
    → IsObjectRead opening fat row old new
object_read opening fat object count kind words row first second third rest old mid new a b k c w many added m done =
    record {
      object = bare kind words;
      monitor = m.monitor;
      row_is = k
          ∙ ap (λ (ns : List ℕ). kind_row kind ++ ns) (c ∙ ap (λ (n : ℕ). n ∷ second) (sym many))
          ∙ ap (λ (ns : List ℕ). kind_row kind ++ length words ∷ ns)
          (w ∙ ap (λ (ns : List ℕ). words ++ ns) (m.row_is ∙ ap (λ (ns : List ℕ). monitor_row m.monitor ++ ns) done ∙ append-nil (monitor_row m.monitor)));
      after = m.after
          ∙ ap (λ (h : Heap). with_monitor object m.monitor fat h) added
          ∙ kept_last opening (length old.objects + 1) object (bare kind words) m.monitor fat old a b;
    }
