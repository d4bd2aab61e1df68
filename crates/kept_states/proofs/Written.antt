-- What is written of a state, and read again.
use Rattle.std.proofs.Common.{◌≡◌, ℕ, zero, suc, ◌+◌, ◌<◌, List, [], ◌∷◌, ◌++◌, length, take, get_or, refl, sym, ◌∙◌, ap, subst, Option, Some, None, Result, Ok, Err, Bor, arith, append_assoc, append-nil}
use Rattle.std.specs.Prelude.{slice_get, IfSome, OnOk, IfOk}
use Rattle.std.proofs.lemmas.List.{take_more, take_all, get_or_read}
use Rattle.model.specs.State.{Thread, new_thread}
use Rattle.heap.specs.java_threads.Table.{ThreadTable, thread_at}
use Rattle.thread_stacks.specs.Stacks.{ShownEntry}
use Rattle.word_table.specs.Lists.{StandsFor, Grows, IsWritten}
use Rattle.kept_parts.specs.Rows.{flags_row}
use Rattle.kept_parts.specs.Heaps.{AreBefore, IsHeapKept, IsHeapWritten}
use Rattle.heap.specs.Heap.{Heap}
use Rattle.kept_parts.specs.declared.heap_rows.NumberedHeap.{NumberedHeap}
use Rattle.kept_parts.specs.Threads.{IsThreadRow, IsThreadPushed, IsThreadRead}
use Rattle.kept_parts.proofs.Kept.{objects_stay}
use Rattle.machine_state.specs.declared.state.Shared.{Shared}
use Rattle.kept_states.specs.declared.numbered.GlobalNumbers.{GlobalNumbers}
use Rattle.kept_states.specs.declared.numbered.Numbered.{Numbered}
use Rattle.kept_states.specs.declared.globals.Globals.{Globals}
use Rattle.kept_states.specs.Rows.{statuses_row}
use Rattle.kept_states.specs.States.{AreThreads, AreThreadsBehind, IsThreadWritten, AreThreadsPushed, IsThreadAdded, globals_row, AreGlobals, AreNumbersWritten, AreGlobalsWritten, IsStateRow, IsSharedRead}
use Rattle.kept_states.specs.Kept.{IsNumbered, IsThreadSame, IsState, IsStateAdded, IsRowMade}
use Rattle.kept_states.specs.declared.states.KeptStates.{KeptStates}
use Rattle.kept_states.proofs.One.{threads_stay}

pub on_ok : {T E : Type 0} (r : Result T E) (P Q : Type 0) → (P → Q) → OnOk r P → OnOk r Q
on_ok (Ok x) P Q step h = step h
on_ok (Err e) P Q step h = tt

pub if_ok : {T E : Type 0} (r : Result T E) (P Q : T → Type 0) → ((x : T) → P x → Q x) → IfOk r P → IfOk r Q
if_ok (Ok x) P Q step h = step x h
if_ok (Err e) P Q step h = tt

pub on_ok_both : {T E : Type 0} (r : Result T E) (P Q R : Type 0) → (P → Q → R) → OnOk r P → OnOk r Q → OnOk r R
on_ok_both (Ok x) P Q R step h k = step h k
on_ok_both (Err e) P Q R step h k = tt

pub if_ok_three : {T E : Type 0} (r : Result T E) (P Q R S : T → Type 0) → ((x : T) → P x → Q x → R x → S x) → IfOk r P → IfOk r Q → IfOk r R → IfOk r S
if_ok_three (Ok x) P Q R S step h k l = step x h k l
if_ok_three (Err e) P Q R S step h k l = tt

pub grows_on : (a b c : List (List ℕ)) → Grows a b → Grows b c → Grows a c
grows_on a b c f g = record { kept = λ number words stands. g.kept number words (f.kept number words stands) }

pub grows_not : (a : List (List ℕ)) → Grows a a
grows_not a = record { kept = λ number words stands. stands }

-- the number of words that are the same before
pub same_written : (parts : List (List ℕ)) (number : ℕ) (xs ys : List ℕ) → StandsFor parts number xs → xs ≡ ys → IsWritten ys number parts parts
same_written parts number xs ys stands same = record { grows = grows_not parts; stands = subst (λ (zs : List ℕ). StandsFor parts number zs) same stands }

-- ---- a state before

globals_stay : (old new : List (List ℕ)) (numbers : GlobalNumbers) (s : Shared) → Grows old new → AreGlobals old numbers s → AreGlobals new numbers s
globals_stay old new numbers s grows a = record {
  statics = grows.kept numbers.statics s.statics.items a.statics;
  statuses = grows.kept numbers.statuses (statuses_row s.statuses.items) a.statuses;
  ready = grows.kept numbers.ready (flags_row s.ready.items) a.ready;
  printed = grows.kept numbers.printed s.printed.items a.printed;
  interned = grows.kept numbers.interned s.interned.items a.interned;
}

pub numbered_stays : (old new : List (List ℕ)) (n : Numbered) → Grows old new → IsNumbered old n → IsNumbered new n
numbered_stays old new n grows is = record {
  globals = grows.kept n.globals (globals_row n.shared n.numbers) is.globals;
  each = globals_stay old new n.numbers n.shared grows is.each;
  heap = grows.kept n.heap n.objects.items is.heap;
  objects = objects_stay old new grows n.objects.items n.shared.heap.objects n.shared.heap.locks.monitors is.objects;
  threads = threads_stay old new grows n.threads.items n.shared.threads.threads n.shared.stacks.items is.threads;
  fat = grows.kept n.fat (flags_row n.shared.heap.locks.fat) is.fat;
}

abbrev pub AreKeptBefore : List (List ℕ) → Option (Bor Numbered) → Type 0
AreKeptBefore parts before = IfSome before (λ (b : Bor Numbered). IsNumbered parts b.now)

pub before_stays : (old new : List (List ℕ)) (before : Option (Bor Numbered)) → Grows old new → AreKeptBefore old before → AreKeptBefore new before
before_stays old new None grows b = tt
before_stays old new (Some n) grows b = numbered_stays old new n.now grows b

-- what is the same as before keeps its number

pub statics_same : (parts : List (List ℕ)) (before : Numbered) (s : Shared) → IsNumbered parts before → before.shared.statics.items ≡ s.statics.items
    → IsWritten s.statics.items before.numbers.statics parts parts
statics_same parts before s is same = same_written parts before.numbers.statics before.shared.statics.items s.statics.items is.each.statics same

pub statuses_same : (parts : List (List ℕ)) (before : Numbered) (s : Shared) → IsNumbered parts before → before.shared.statuses.items ≡ s.statuses.items
    → IsWritten (statuses_row s.statuses.items) before.numbers.statuses parts parts
statuses_same parts before s is same =
    same_written parts before.numbers.statuses (statuses_row before.shared.statuses.items) (statuses_row s.statuses.items) is.each.statuses (ap statuses_row same)

pub ready_same : (parts : List (List ℕ)) (before : Numbered) (s : Shared) → IsNumbered parts before → before.shared.ready.items ≡ s.ready.items
    → IsWritten (flags_row s.ready.items) before.numbers.ready parts parts
ready_same parts before s is same =
    same_written parts before.numbers.ready (flags_row before.shared.ready.items) (flags_row s.ready.items) is.each.ready (ap flags_row same)

pub printed_same : (parts : List (List ℕ)) (before : Numbered) (s : Shared) → IsNumbered parts before → before.shared.printed.items ≡ s.printed.items
    → IsWritten s.printed.items before.numbers.printed parts parts
printed_same parts before s is same = same_written parts before.numbers.printed before.shared.printed.items s.printed.items is.each.printed same

pub interned_same : (parts : List (List ℕ)) (before : Numbered) (s : Shared) → IsNumbered parts before → before.shared.interned.items ≡ s.interned.items
    → IsWritten s.interned.items before.numbers.interned parts parts
interned_same parts before s is same = same_written parts before.numbers.interned before.shared.interned.items s.interned.items is.each.interned same

pub globals_same : (parts : List (List ℕ)) (before : Numbered) (s : Shared) (numbers : GlobalNumbers) → IsNumbered parts before
    → globals_row before.shared before.numbers ≡ globals_row s numbers → IsWritten (globals_row s numbers) before.globals parts parts
globals_same parts before s numbers is same =
    same_written parts before.globals (globals_row before.shared before.numbers) (globals_row s numbers) is.globals same

pub heap_is_before : (parts : List (List ℕ)) (n : Numbered) (h : NumberedHeap) → IsNumbered parts n → h.objects.now ≡ n.objects.items
    → h.heap.now ≡ n.shared.heap → h.number ≡ n.heap → AreBefore parts h
heap_is_before parts n h is objects heap number = record {
  are = subst (λ (ns : List ℕ). IsHeapKept parts ns h.heap.now) (sym objects) (subst (λ (x : Heap). IsHeapKept parts n.objects.items x) (sym heap) is.objects);
  stands = subst (λ (ns : List ℕ). StandsFor parts h.number ns) (sym objects) (subst (λ (k : ℕ). StandsFor parts k n.objects.items) (sym number) is.heap);
}

-- ---- threads

-- the thread of a number in a list
has_at : (parts : List (List ℕ)) (ns : List ℕ) (ts : List Thread) (ss : List (List ShownEntry)) (i n : ℕ) → AreThreads parts ns ts ss
    → slice_get ns i ≡ Some n → i < length ts
    → (row : List ℕ) × StandsFor parts n row × IsThreadRow row (thread_at ts i) (get_or ss i [])
has_at parts (x ∷ ns) (t ∷ ts) (s ∷ ss) zero n a h there =
    let number : x ≡ n = cc in
    (a.0.0, subst (λ (k : ℕ). StandsFor parts k a.0.0) number a.0.1, a.0.2)
has_at parts (x ∷ ns) (t ∷ ts) (s ∷ ss) (suc i) n a h there = has_at parts ns ts ss i n a.1 h (omega (arith, there))
has_at parts [] [] [] i n a h there = absurd (omega (arith, there))
has_at parts [] [] (s ∷ ss) i n a h there = absurd a
has_at parts [] (t ∷ ts) ss i n a h there = absurd a
has_at parts (x ∷ ns) [] ss i n a h there = absurd a
has_at parts (x ∷ ns) (t ∷ ts) [] i n a h there = absurd a

pub same_thread : (parts : List (List ℕ)) (s : Shared) (thread number : ℕ) (before : Numbered) → IsNumbered parts before
    → IsThreadSame s thread before number → IsThreadWritten s thread number parts parts
same_thread parts s thread number before n same =
    let had : (row : List ℕ) × StandsFor parts number row × IsThreadRow row (thread_at before.shared.threads.threads thread) (get_or before.shared.stacks.items thread []) =
    has_at parts before.threads.items before.shared.threads.threads before.shared.stacks.items thread number n.threads same.number_is same.there in
    record {
      grows = grows_not parts;
      has = (
        had.0,
        had.1,
        subst (λ (t : Thread). IsThreadRow had.0 t (get_or s.stacks.items thread [])) same.thread_is
            (subst (λ (k : List ShownEntry). IsThreadRow had.0 (thread_at before.shared.threads.threads thread) k) same.stack_is had.2),
      );
    }

pub thread_written : (s : Shared) (thread number : ℕ) (row : List ℕ) (stack : List ShownEntry) (old new : List (List ℕ))
    → IsThreadPushed [] row (thread_at s.threads.threads thread) stack → stack ≡ get_or s.stacks.items thread [] → IsWritten row number old new
    → IsThreadWritten s thread number old new
thread_written s thread number row stack old new p is w = record {
  grows = w.grows;
  has = (
    p.words,
    w.stands ∙ ap (λ (r : List ℕ). Some r) p.new_is,
    subst (λ (k : List ShownEntry). IsThreadRow p.words (thread_at s.threads.threads thread) k) is p.is_row,
  );
}

threads_more : (parts : List (List ℕ)) (ns : List ℕ) (ts : List Thread) (ss : List (List ShownEntry)) (n : ℕ) (t : Thread) (s : List ShownEntry)
    → AreThreads parts ns ts ss → ((row : List ℕ) × StandsFor parts n row × IsThreadRow row t s)
    → AreThreads parts (ns ++ n ∷ []) (ts ++ t ∷ []) (ss ++ s ∷ [])
threads_more parts [] [] [] n t s a has = (has, tt)
threads_more parts (x ∷ ns) (u ∷ ts) (r ∷ ss) n t s a has = (a.0, threads_more parts ns ts ss n t s a.1 has)
threads_more parts [] [] (r ∷ ss) n t s a has = absurd a
threads_more parts [] (u ∷ ts) ss n t s a has = absurd a
threads_more parts (x ∷ ns) [] ss n t s a has = absurd a
threads_more parts (x ∷ ns) (u ∷ ts) [] n t s a has = absurd a

pub none_pushed : (s : Shared) (words : List ℕ) (parts : List (List ℕ)) → AreThreadsPushed s 0 words words parts parts
none_pushed s words parts = record { grows = grows_not parts; numbers = []; after_is = sym (append-nil words); are = tt }

pub one_pushed : (s : Shared) (count number : ℕ) (before mid after : List ℕ) (old parts new : List (List ℕ)) → count < length s.threads.threads
    → length s.stacks.items ≡ length s.threads.threads → AreThreadsPushed s count before mid old parts → IsThreadWritten s count number parts new
    → after ≡ mid ++ number ∷ [] → AreThreadsPushed s (count + 1) before after old new
one_pushed s count number before mid after old parts new there even p w is =
    let ts : take (count + 1) s.threads.threads ≡ take count s.threads.threads ++ thread_at s.threads.threads count ∷ [] =
    take_more s.threads.threads count (new_thread 0) there in
    let ss : take (count + 1) s.stacks.items ≡ take count s.stacks.items ++ get_or s.stacks.items count [] ∷ [] =
    take_more s.stacks.items count [] (omega (arith, there, even)) in
    let stay : AreThreads new p.numbers (take count s.threads.threads) (take count s.stacks.items) =
    threads_stay parts new w.grows p.numbers (take count s.threads.threads) (take count s.stacks.items) p.are in
    record {
      grows = grows_on old parts new p.grows w.grows;
      numbers = p.numbers ++ number ∷ [];
      after_is = is ∙ ap (λ (ns : List ℕ). ns ++ number ∷ []) p.after_is ∙ append_assoc before p.numbers (number ∷ []);
      are = rw (ts, ss) (threads_more new p.numbers (take count s.threads.threads) (take count s.stacks.items) number
          (thread_at s.threads.threads count) (get_or s.stacks.items count []) stay w.has);
    }

-- ---- threads that are read

pub first_read : (parts : List (List ℕ)) (number limit : ℕ) (row : List ℕ) (threads : ThreadTable) (stack : List ShownEntry)
    → StandsFor parts number row → IsThreadRead row (record { threads = []; limit = limit }) threads stack
    → AreThreads parts (number ∷ []) threads.threads (stack ∷ [])
first_read parts number limit row threads stack stands r =
    subst (λ (ts : ThreadTable). AreThreads parts (number ∷ []) ts.threads (stack ∷ [])) (sym r.after) ((row, stands, r.is_row), tt)

one_behind : (parts : List (List ℕ)) (number : ℕ) (numbers : List ℕ) (old new : ThreadTable) (stacks after : List (List ShownEntry))
    → AreThreads parts numbers old.threads stacks → IsThreadAdded parts number old stacks new after
    → AreThreads parts (numbers ++ number ∷ []) new.threads after
one_behind parts number numbers old new stacks after a added =
    subst (λ (ss : List (List ShownEntry)). AreThreads parts (numbers ++ number ∷ []) new.threads ss) (sym added.stacks_are)
    (subst (λ (ts : ThreadTable). AreThreads parts (numbers ++ number ∷ []) ts.threads (stacks ++ added.stack ∷ [])) (sym added.read.after)
    (threads_more parts numbers old.threads stacks number added.read.thread added.stack a (added.row, added.stands, added.read.is_row)))

pub none_behind : (parts : List (List ℕ)) (ts : List Thread) (ss : List (List ShownEntry)) → AreThreadsBehind parts [] ts ss ts ss
none_behind parts ts ss numbers a = subst (λ (ns : List ℕ). AreThreads parts ns ts ss) (sym (append-nil numbers)) a

pub one_added : (parts : List (List ℕ)) (at number other : ℕ) (others : List ℕ) (ts : List Thread) (ss : List (List ShownEntry)) (old new : ThreadTable)
    (stacks after : List (List ShownEntry)) → at < length others → number ≡ get_or others at other
    → AreThreadsBehind parts (take at others) ts ss old.threads stacks → IsThreadAdded parts number old stacks new after
    → AreThreadsBehind parts (take (at + 1) others) ts ss new.threads after
one_added parts at number other others ts ss old new stacks after there is behind added numbers a =
    let more : take at others ++ number ∷ [] ≡ take (at + 1) others = ap (λ (n : ℕ). take at others ++ n ∷ []) is ∙ sym (take_more others at other there) in
    let whole : (numbers ++ take at others) ++ number ∷ [] ≡ numbers ++ take (at + 1) others =
    append_assoc numbers (take at others) (number ∷ []) ∙ ap (λ (ns : List ℕ). numbers ++ ns) more in
    subst (λ (ns : List ℕ). AreThreads parts ns new.threads after) whole
    (one_behind parts number (numbers ++ take at others) old new stacks after (behind numbers a) added)

pub all_read : (parts : List (List ℕ)) (main : ℕ) (numbers others : List ℕ) (old : List Thread) (stack : List ShownEntry) (new : List Thread)
    (stacks : List (List ShownEntry)) → numbers ≡ main ∷ others → AreThreads parts (main ∷ []) old (stack ∷ [])
    → AreThreadsBehind parts others old (stack ∷ []) new stacks → AreThreads parts numbers new stacks
all_read parts main numbers others old stack new stacks is first behind = subst (λ (ns : List ℕ). AreThreads parts ns new stacks) (sym is) (behind (main ∷ []) first)

-- ---- a state

pub row_made : (s : Shared) (heap : ℕ) (objects two row : List ℕ) (a b c d : List (List ℕ)) (globals : ℕ) → AreGlobalsWritten s globals a b
    → IsHeapWritten s.heap heap objects b c → two ≡ globals ∷ heap ∷ [] → AreThreadsPushed s (length s.threads.threads) two row c d
    → length s.stacks.items ≡ length s.threads.threads → IsStateRow d row s
row_made s heap objects two row a b c d globals g h is t even =
    let later : Grows b d = grows_on b c d h.grows t.grows in
    record {
      globals = globals;
      heap = heap;
      threads = t.numbers;
      row_is = t.after_is ∙ ap (λ (ns : List ℕ). ns ++ t.numbers) is;
      numbers = g.numbers;
      globals_are = later.kept globals (globals_row s g.numbers) g.stands;
      each_is = globals_stay b d g.numbers s later g.each;
      objects = objects;
      heap_is = t.grows.kept heap objects h.stands;
      objects_are = objects_stay c d t.grows objects s.heap.objects s.heap.locks.monitors h.are;
      threads_are = rw (take_all (length s.threads.threads) s.threads.threads (omega arith), take_all (length s.threads.threads) s.stacks.items (omega (arith, even))) at t.are;
    }

pub row_of : (parts : List (List ℕ)) (row : List ℕ) (n : Numbered) → row ≡ n.globals ∷ n.heap ∷ n.threads.items → IsNumbered parts n
    → IsStateRow parts row n.shared
row_of parts row n is m = record {
  globals = n.globals;
  heap = n.heap;
  threads = n.threads.items;
  row_is = is;
  numbers = n.numbers;
  globals_are = m.globals;
  each_is = m.each;
  objects = n.objects.items;
  heap_is = m.heap;
  objects_are = m.objects;
  threads_are = m.threads;
}

pub all_written : (s : Shared) (numbers : GlobalNumbers) (a b c d e f : List (List ℕ)) → IsWritten s.statics.items numbers.statics a b
    → IsWritten (statuses_row s.statuses.items) numbers.statuses b c → IsWritten (flags_row s.ready.items) numbers.ready c d
    → IsWritten s.printed.items numbers.printed d e → IsWritten s.interned.items numbers.interned e f → AreNumbersWritten s numbers a f
all_written s numbers a b c d e f statics statuses ready printed interned =
    let fourth : Grows d f = grows_on d e f printed.grows interned.grows in
    let third : Grows c f = grows_on c d f ready.grows fourth in
    let second : Grows b f = grows_on b c f statuses.grows third in
    record {
      grows = grows_on a b f statics.grows second;
      each = record {
        statics = second.kept numbers.statics s.statics.items statics.stands;
        statuses = third.kept numbers.statuses (statuses_row s.statuses.items) statuses.stands;
        ready = fourth.kept numbers.ready (flags_row s.ready.items) ready.stands;
        printed = interned.grows.kept numbers.printed s.printed.items printed.stands;
        interned = interned.stands;
      };
    }

pub globals_written : (s : Shared) (numbers : GlobalNumbers) (number : ℕ) (a b c : List (List ℕ)) → AreNumbersWritten s numbers a b
    → IsWritten (globals_row s numbers) number b c → AreGlobalsWritten s number a c
globals_written s numbers number a b c n w = record {
  grows = grows_on a b c n.grows w.grows;
  numbers = numbers;
  stands = w.stands;
  each = globals_stay b c numbers s w.grows n.each;
}

-- the row that was read is that of the state
pub globals_read : (g : Globals) (objects threads fat row : List ℕ) (parts : List (List ℕ)) (s : Shared)
    → row ≡ g.opening ∷ g.counted ∷ g.limits.objects ∷ g.limits.cells ∷ g.limits.monitors ∷ g.limits.threads ∷ g.numbers.statics ∷ g.numbers.statuses ∷ g.numbers.ready ∷ g.numbers.printed ∷ g.numbers.interned ∷ g.unnamed ∷ []
    → IsSharedRead parts g objects threads fat s → row ≡ globals_row s g.numbers
globals_read g objects threads fat row parts s is r =
    is ∙ sym (rw (r.heap.opening_is, r.heap.counted_is, r.heap.objects_limited, r.heap.cells_limited, r.heap.monitors_limited, r.limit, r.unnamed) refl)

pub numbered_read : (parts : List (List ℕ)) (n : Numbered) (g : Globals) (row objects threads fat : List ℕ) → StandsFor parts n.globals row
    → row ≡ g.opening ∷ g.counted ∷ g.limits.objects ∷ g.limits.cells ∷ g.limits.monitors ∷ g.limits.threads ∷ g.numbers.statics ∷ g.numbers.statuses ∷ g.numbers.ready ∷ g.numbers.printed ∷ g.numbers.interned ∷ g.unnamed ∷ []
    → StandsFor parts n.heap objects → StandsFor parts n.fat fat → IsSharedRead parts g objects threads fat n.shared → n.numbers ≡ g.numbers
    → n.objects.items ≡ objects → n.threads.items ≡ threads → IsNumbered parts n
numbered_read parts n g row objects threads fat globals is heap flags r numbers os ts =
    let same : row ≡ globals_row n.shared n.numbers =
    globals_read g objects threads fat row parts n.shared is r ∙ ap (λ (m : GlobalNumbers). globals_row n.shared m) (sym numbers) in
    record {
      globals = globals ∙ ap (λ (ws : List ℕ). Some ws) same;
      each = subst (λ (m : GlobalNumbers). AreGlobals parts m n.shared) (sym numbers) r.each;
      heap = heap ∙ ap (λ (ws : List ℕ). Some ws) (sym os);
      objects = subst (λ (ns : List ℕ). IsHeapKept parts ns n.shared.heap) (sym os) r.heap.are;
      threads = subst (λ (ns : List ℕ). AreThreads parts ns n.shared.threads.threads n.shared.stacks.items) (sym ts) r.threads_are;
      fat = flags ∙ ap (λ (ws : List ℕ). Some ws) r.heap.fat_is;
    }

-- ---- what is kept

pub state_read : (k : KeptStates) (number fat : ℕ) (row : List ℕ) (n : Numbered) → StandsFor k.states number row → slice_get k.fat.items number ≡ Some fat
    → row ≡ n.globals ∷ n.heap ∷ n.threads.items → n.fat ≡ fat → IsNumbered k.parts n → IsState k number n.shared
state_read k number fat row n stands flags is same m = record {
  row = row;
  row_is = stands;
  is = row_of k.parts row n is m;
  fat = fat;
  fat_is = flags;
  are_fat = subst (λ (f : ℕ). StandsFor k.parts f (flags_row n.shared.heap.locks.fat)) same m.fat;
}

pub state_added : (s : Shared) (number flags : ℕ) (old new : KeptStates) → IsWritten (flags_row s.heap.locks.fat) flags old.parts new.parts
    → number ≡ length old.states → new.states ≡ old.states ++ old.state.items ∷ [] → new.fat.items ≡ old.fat.items ++ flags ∷ []
    → IsStateAdded number s old new
state_added s number flags old new w is states fat = record {
  number_is = is;
  parts = w.grows;
  states = states;
  flags = flags;
  fat = fat;
  are_fat = w.stands;
}

pub made : (s : Shared) (heap globals : ℕ) (objects two : List ℕ) (b c : List (List ℕ)) (old new : KeptStates) → AreGlobalsWritten s globals old.parts b
    → IsHeapWritten s.heap heap objects b c → two ≡ globals ∷ heap ∷ [] → AreThreadsPushed s (length s.threads.threads) two new.state.items c new.parts
    → length s.stacks.items ≡ length s.threads.threads → new.states ≡ old.states → new.fat.items ≡ old.fat.items → IsRowMade s old new
made s heap globals objects two b c old new g h is t even states fat = record {
  keeps = record {
    parts = grows_on old.parts b new.parts g.grows (grows_on b c new.parts h.grows t.grows);
    states = states;
    fat = fat;
  };
  row = row_made s heap objects two new.state.items old.parts b c new.parts globals g h is t even;
}

-- a stack that was read at its place
pub stack_read : (xs : List (List ShownEntry)) (i : ℕ) (x : List ShownEntry) → i < length xs → x ≡ get_or xs i x → get_or xs i [] ≡ x
stack_read xs i x h e = sym (get_or_read xs i x h e [])
