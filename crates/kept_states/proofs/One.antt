-- A row of a state stands for one state, but for which locks are inflated; and it goes on to stand for it.
use Rattle.std.proofs.Common.{◌≡◌, ℕ, List, [], ◌∷◌, refl, sym, ◌∙◌, ap, subst, Bool, arith}
use Rattle.model.specs.State.{Monitor, Thread}
use Rattle.heap.specs.monitor.Locks.{Locks}
use Rattle.heap.specs.Heap.{Object, Heap}
use Rattle.heap.specs.java_threads.Table.{ThreadTable}
use Rattle.thread_stacks.specs.Stacks.{ShownEntry}
use Rattle.word_table.specs.Lists.{StandsFor, Grows}
use Rattle.kept_parts.specs.Rows.{flags_row}
use Rattle.kept_parts.specs.Threads.{IsThreadRow}
use Rattle.kept_parts.specs.Heaps.{AreObjects}
use Rattle.kept_parts.proofs.Codes.{head_is, tail_is, flags_one, thread_one}
use Rattle.kept_parts.proofs.Kept.{stands_one, objects_stand_one, objects_stay}
use Rattle.machine_state.specs.declared.state.ClassStatus.{ClassStatus}
use Rattle.machine_state.specs.declared.state.ClassStatus.TheVariants as status
use Rattle.machine_state.specs.declared.state.Shared.{Shared}
use Rattle.machine_state.specs.same_states.Same.{AreAlike}
use Rattle.kept_states.specs.declared.numbered.GlobalNumbers.{GlobalNumbers}
use Rattle.kept_states.specs.Rows.{status_code, statuses_row}
use Rattle.kept_states.specs.States.{AreThreads, globals_row, IsStateRow, AreFat, AreTheSame}

-- ---- how far classes are

status_one : (a b : ClassStatus) → status_code a ≡ status_code b → a ≡ b
status_one status.NotInitialised status.NotInitialised h = refl
status_one status.NotInitialised status.Initialised h = absurd (omega (arith, h))
status_one status.NotInitialised status.Erroneous h = absurd (omega (arith, h))
status_one status.NotInitialised (status.InProgress u) h = absurd (omega (arith, h))
status_one status.Initialised status.NotInitialised h = absurd (omega (arith, h))
status_one status.Initialised status.Initialised h = refl
status_one status.Initialised status.Erroneous h = absurd (omega (arith, h))
status_one status.Initialised (status.InProgress u) h = absurd (omega (arith, h))
status_one status.Erroneous status.NotInitialised h = absurd (omega (arith, h))
status_one status.Erroneous status.Initialised h = absurd (omega (arith, h))
status_one status.Erroneous status.Erroneous h = refl
status_one status.Erroneous (status.InProgress u) h = absurd (omega (arith, h))
status_one (status.InProgress t) status.NotInitialised h = absurd (omega (arith, h))
status_one (status.InProgress t) status.Initialised h = absurd (omega (arith, h))
status_one (status.InProgress t) status.Erroneous h = absurd (omega (arith, h))
status_one (status.InProgress t) (status.InProgress u) h = let same : t ≡ u = omega (arith, h) in ap (λ (n : ℕ). status.InProgress n) same

statuses_one : (xs ys : List ClassStatus) → statuses_row xs ≡ statuses_row ys → xs ≡ ys
statuses_one [] [] h = refl
statuses_one [] (y ∷ ys) h = absurd (cc)
statuses_one (x ∷ xs) [] h = absurd (cc)
statuses_one (x ∷ xs) (y ∷ ys) h =
    let first : x ≡ y = status_one x y (head_is (status_code x) (status_code y) (statuses_row xs) (statuses_row ys) h) in
    let rest : xs ≡ ys = statuses_one xs ys (tail_is (status_code x) (status_code y) (statuses_row xs) (statuses_row ys) h) in
    cc

-- ---- threads

threads_one : (parts : List (List ℕ)) (numbers : List ℕ) (ts us : List Thread) (ss rs : List (List ShownEntry))
    → AreThreads parts numbers ts ss → AreThreads parts numbers us rs → (ts ≡ us) × (ss ≡ rs)
threads_one parts [] [] [] [] [] a b = (refl, refl)
threads_one parts (number ∷ numbers) (t ∷ ts) (u ∷ us) (s ∷ ss) (r ∷ rs) a b =
    let rows : a.0.0 ≡ b.0.0 = stands_one parts number a.0.0 b.0.0 a.0.1 b.0.1 in
    let again : IsThreadRow a.0.0 u r = subst (λ (row : List ℕ). IsThreadRow row u r) (sym rows) b.0.2 in
    let first : (t ≡ u) × (s ≡ r) = thread_one a.0.0 t u s r a.0.2 again in
    let rest : (ts ≡ us) × (ss ≡ rs) = threads_one parts numbers ts us ss rs a.1 b.1 in
    let t_is : t ≡ u = first.0 in
    let s_is : s ≡ r = first.1 in
    let ts_are : ts ≡ us = rest.0 in
    let ss_are : ss ≡ rs = rest.1 in
    (cc, cc)
threads_one parts [] [] us [] (r ∷ rs) a b = absurd b
threads_one parts [] [] (u ∷ us) [] rs a b = absurd b
threads_one parts [] (t ∷ ts) us ss rs a b = absurd a
threads_one parts [] ts us (s ∷ ss) rs a b = absurd a
threads_one parts (number ∷ numbers) [] us ss rs a b = absurd a
threads_one parts (number ∷ numbers) ts us [] rs a b = absurd a
threads_one parts (number ∷ numbers) ts [] ss rs a b = absurd b
threads_one parts (number ∷ numbers) ts us ss [] a b = absurd b

pub threads_stay : (old new : List (List ℕ)) → Grows old new → (numbers : List ℕ) (ts : List Thread) (ss : List (List ShownEntry))
    → AreThreads old numbers ts ss → AreThreads new numbers ts ss
threads_stay old new grows [] [] [] a = tt
threads_stay old new grows (number ∷ numbers) (t ∷ ts) (s ∷ ss) a =
    ((a.0.0, grows.kept number a.0.0 a.0.1, a.0.2), threads_stay old new grows numbers ts ss a.1)
threads_stay old new grows [] (t ∷ ts) ss a = absurd a
threads_stay old new grows [] [] (s ∷ ss) a = absurd a
threads_stay old new grows (number ∷ numbers) [] ss a = absurd a
threads_stay old new grows (number ∷ numbers) (t ∷ ts) [] a = absurd a

-- ---- a state

pub row_stays : (old new : List (List ℕ)) (row : List ℕ) (s : Shared) → Grows old new → IsStateRow old row s → IsStateRow new row s
row_stays old new row s grows is = record {
  globals = is.globals;
  heap = is.heap;
  threads = is.threads;
  row_is = is.row_is;
  numbers = is.numbers;
  globals_are = grows.kept is.globals (globals_row s is.numbers) is.globals_are;
  each_is = record {
    statics = grows.kept is.numbers.statics s.statics.items is.each_is.statics;
    statuses = grows.kept is.numbers.statuses (statuses_row s.statuses.items) is.each_is.statuses;
    ready = grows.kept is.numbers.ready (flags_row s.ready.items) is.each_is.ready;
    printed = grows.kept is.numbers.printed s.printed.items is.each_is.printed;
    interned = grows.kept is.numbers.interned s.interned.items is.each_is.interned;
  };
  objects = is.objects;
  heap_is = grows.kept is.heap is.objects is.heap_is;
  objects_are = objects_stay old new grows is.objects s.heap.objects s.heap.locks.monitors is.objects_are;
  threads_are = threads_stay old new grows is.threads s.threads.threads s.stacks.items is.threads_are;
}

-- what both have the same, but for which locks are inflated
pub record AreNearlyTheSame (one other : Shared) : Type 0 where
  pub alike : AreAlike one other
  pub opening : one.heap.opening ≡ other.heap.opening
  pub counted : one.heap.counted ≡ other.heap.counted
  pub object_limit : one.heap.object_limit ≡ other.heap.object_limit
  pub cell_limit : one.heap.cell_limit ≡ other.heap.cell_limit
  pub monitor_limit : one.heap.locks.limit ≡ other.heap.locks.limit
  pub thread_limit : one.threads.limit ≡ other.threads.limit
  pub ready : one.ready.items ≡ other.ready.items

-- the twelve words beside objects and threads
record AreWords (one other : Shared) (n m : GlobalNumbers) : Type 0 where
  opening : one.heap.opening ≡ other.heap.opening
  counted : one.heap.counted ≡ other.heap.counted
  object_limit : one.heap.object_limit ≡ other.heap.object_limit
  cell_limit : one.heap.cell_limit ≡ other.heap.cell_limit
  monitor_limit : one.heap.locks.limit ≡ other.heap.locks.limit
  thread_limit : one.threads.limit ≡ other.threads.limit
  statics : n.statics ≡ m.statics
  statuses : n.statuses ≡ m.statuses
  ready : n.ready ≡ m.ready
  printed : n.printed ≡ m.printed
  interned : n.interned ≡ m.interned
  unnamed : one.unnamed ≡ other.unnamed

words_one : (one other : Shared) (n m : GlobalNumbers) → globals_row one n ≡ globals_row other m → AreWords one other n m
words_one one other n m h =
    let h1 = tail_is _ _ _ _ h in
    let h2 = tail_is _ _ _ _ h1 in
    let h3 = tail_is _ _ _ _ h2 in
    let h4 = tail_is _ _ _ _ h3 in
    let h5 = tail_is _ _ _ _ h4 in
    let h6 = tail_is _ _ _ _ h5 in
    let h7 = tail_is _ _ _ _ h6 in
    let h8 = tail_is _ _ _ _ h7 in
    let h9 = tail_is _ _ _ _ h8 in
    let h10 = tail_is _ _ _ _ h9 in
    let h11 = tail_is _ _ _ _ h10 in
    record {
      opening = head_is _ _ _ _ h;
      counted = head_is _ _ _ _ h1;
      object_limit = head_is _ _ _ _ h2;
      cell_limit = head_is _ _ _ _ h3;
      monitor_limit = head_is _ _ _ _ h4;
      thread_limit = head_is _ _ _ _ h5;
      statics = head_is _ _ _ _ h6;
      statuses = head_is _ _ _ _ h7;
      ready = head_is _ _ _ _ h8;
      printed = head_is _ _ _ _ h9;
      interned = head_is _ _ _ _ h10;
      unnamed = head_is _ _ _ _ h11;
    }

-- what stands for both at numbers that are the same
stands_at : (parts : List (List ℕ)) (n m : ℕ) (xs ys : List ℕ) → n ≡ m → StandsFor parts n xs → StandsFor parts m ys → xs ≡ ys
stands_at parts n m xs ys same a b = stands_one parts n xs ys a (subst (λ (k : ℕ). StandsFor parts k ys) (sym same) b)

objects_at : (parts : List (List ℕ)) (numbers others : List ℕ) (os ps : List Object) (ms ns : List Monitor) → numbers ≡ others
    → AreObjects parts numbers os ms → AreObjects parts others ps ns → (os ≡ ps) × (ms ≡ ns)
objects_at parts numbers others os ps ms ns same a b =
    objects_stand_one parts numbers os ps ms ns a (subst (λ (ks : List ℕ). AreObjects parts ks ps ns) (sym same) b)

threads_at : (parts : List (List ℕ)) (numbers others : List ℕ) (ts us : List Thread) (ss rs : List (List ShownEntry)) → numbers ≡ others
    → AreThreads parts numbers ts ss → AreThreads parts others us rs → (ts ≡ us) × (ss ≡ rs)
threads_at parts numbers others ts us ss rs same a b =
    threads_one parts numbers ts us ss rs a (subst (λ (ks : List ℕ). AreThreads parts ks us rs) (sym same) b)

-- two states of one row
pub rows_one : (parts : List (List ℕ)) (row : List ℕ) (one other : Shared) → IsStateRow parts row one → IsStateRow parts row other
    → AreNearlyTheSame one other
rows_one parts row one other a b =
    let rows : a.globals ∷ a.heap ∷ a.threads ≡ b.globals ∷ b.heap ∷ b.threads = sym a.row_is ∙ b.row_is in
    let globals : a.globals ≡ b.globals = head_is _ _ _ _ rows in
    let rest : a.heap ∷ a.threads ≡ b.heap ∷ b.threads = tail_is _ _ _ _ rows in
    let heap : a.heap ≡ b.heap = head_is _ _ _ _ rest in
    let threads : a.threads ≡ b.threads = tail_is _ _ _ _ rest in
    let words : AreWords one other a.numbers b.numbers =
    words_one one other a.numbers b.numbers (stands_at parts a.globals b.globals (globals_row one a.numbers) (globals_row other b.numbers) globals a.globals_are b.globals_are) in
    let numbers : a.objects ≡ b.objects = stands_at parts a.heap b.heap a.objects b.objects heap a.heap_is b.heap_is in
    let objects : (one.heap.objects ≡ other.heap.objects) × (one.heap.locks.monitors ≡ other.heap.locks.monitors) =
    objects_at parts a.objects b.objects one.heap.objects other.heap.objects one.heap.locks.monitors other.heap.locks.monitors numbers a.objects_are b.objects_are in
    let stacks : (one.threads.threads ≡ other.threads.threads) × (one.stacks.items ≡ other.stacks.items) =
    threads_at parts a.threads b.threads one.threads.threads other.threads.threads one.stacks.items other.stacks.items threads a.threads_are b.threads_are in
    record {
      alike = record {
        objects = objects.0;
        monitors = objects.1;
        statics = stands_at parts a.numbers.statics b.numbers.statics one.statics.items other.statics.items words.statics a.each_is.statics b.each_is.statics;
        statuses = statuses_one one.statuses.items other.statuses.items (stands_at parts a.numbers.statuses b.numbers.statuses (statuses_row one.statuses.items) (statuses_row other.statuses.items) words.statuses a.each_is.statuses b.each_is.statuses);
        threads = stacks.0;
        printed = stands_at parts a.numbers.printed b.numbers.printed one.printed.items other.printed.items words.printed a.each_is.printed b.each_is.printed;
        interned = stands_at parts a.numbers.interned b.numbers.interned one.interned.items other.interned.items words.interned a.each_is.interned b.each_is.interned;
        unnamed = words.unnamed;
        stacks = stacks.1;
      };
      opening = words.opening;
      counted = words.counted;
      object_limit = words.object_limit;
      cell_limit = words.cell_limit;
      monitor_limit = words.monitor_limit;
      thread_limit = words.thread_limit;
      ready = flags_one one.ready.items other.ready.items (stands_at parts a.numbers.ready b.numbers.ready (flags_row one.ready.items) (flags_row other.ready.items) words.ready a.each_is.ready b.each_is.ready);
    }

-- so they are alike
pub rows_alike : (parts : List (List ℕ)) (row : List ℕ) (one other : Shared) → IsStateRow parts row one → IsStateRow parts row other → AreAlike one other
rows_alike parts row one other a b = (rows_one parts row one other a b).alike

abbrev locks_of : List Monitor → List Bool → ℕ → Locks
locks_of monitors fat limit = record { monitors = monitors; fat = fat; limit = limit }

abbrev heap_of : List Object → Locks → (opening counted object_limit cell_limit : ℕ) → Heap
heap_of objects locks opening counted object_limit cell_limit =
    record { objects = objects; locks = locks; opening = opening; counted = counted; object_limit = object_limit; cell_limit = cell_limit }

abbrev table_of : List Thread → ℕ → ThreadTable
table_of threads limit = record { threads = threads; limit = limit }

heap_is : (one other : Heap) → one.objects ≡ other.objects → one.locks.monitors ≡ other.locks.monitors → one.locks.fat ≡ other.locks.fat
    → one.locks.limit ≡ other.locks.limit → one.opening ≡ other.opening → one.counted ≡ other.counted → one.object_limit ≡ other.object_limit → one.cell_limit ≡ other.cell_limit
    → one ≡ other
heap_is one other a b c d e k f g =
    let locks : one.locks ≡ other.locks =
    ap (λ (x : List Monitor). locks_of x one.locks.fat one.locks.limit) b
    ∙ ap (λ (x : List Bool). locks_of other.locks.monitors x one.locks.limit) c
    ∙ ap (λ (x : ℕ). locks_of other.locks.monitors other.locks.fat x) d in
    ap (λ (x : List Object). heap_of x one.locks one.opening one.counted one.object_limit one.cell_limit) a
    ∙ ap (λ (x : Locks). heap_of other.objects x one.opening one.counted one.object_limit one.cell_limit) locks
    ∙ ap (λ (x : ℕ). heap_of other.objects other.locks x one.counted one.object_limit one.cell_limit) e
    ∙ ap (λ (x : ℕ). heap_of other.objects other.locks other.opening x one.object_limit one.cell_limit) k
    ∙ ap (λ (x : ℕ). heap_of other.objects other.locks other.opening other.counted x one.cell_limit) f
    ∙ ap (λ (x : ℕ). heap_of other.objects other.locks other.opening other.counted other.object_limit x) g

threads_are_one : (one other : ThreadTable) → one.threads ≡ other.threads → one.limit ≡ other.limit → one ≡ other
threads_are_one one other a b = ap (λ (x : List Thread). table_of x one.limit) a ∙ ap (λ (x : ℕ). table_of other.threads x) b

-- and the same, where the same locks are inflated
pub states_one : (parts : List (List ℕ)) (row : List ℕ) (fat : ℕ) (one other : Shared) → IsStateRow parts row one → IsStateRow parts row other
    → AreFat parts fat one → AreFat parts fat other
    → AreTheSame one other
states_one parts row fat one other a b f g =
    let near : AreNearlyTheSame one other = rows_one parts row one other a b in
    let flags : one.heap.locks.fat ≡ other.heap.locks.fat =
    flags_one one.heap.locks.fat other.heap.locks.fat (stands_one parts fat (flags_row one.heap.locks.fat) (flags_row other.heap.locks.fat) f g) in
    record {
      heap = heap_is one.heap other.heap near.alike.objects near.alike.monitors flags near.monitor_limit near.opening near.counted near.object_limit near.cell_limit;
      statics = near.alike.statics;
      statuses = near.alike.statuses;
      ready = near.ready;
      threads = threads_are_one one.threads other.threads near.alike.threads near.thread_limit;
      printed = near.alike.printed;
      interned = near.alike.interned;
      unnamed = near.alike.unnamed;
      stacks = near.alike.stacks;
    }
