-- The numbers of the objects of a heap, one after another.
use Rattle.std.proofs.Common.{◌≡◌, ℕ, zero, suc, ◌+◌, ◌<◌, ◌≤◌, List, [], ◌∷◌, ◌++◌, length, take, get_or, refl, sym, ◌∙◌, ap, subst, Option, Some, None, Bool, true, false, arith, append_assoc}
use Rattle.std.specs.Prelude.{slice_get, IfSome}
use Rattle.std.proofs.lemmas.List.{take_more, take_all, map-append}
use Rattle.std.proofs.lemmas.Option.{get_or_from_slice_get, slice_get-get_or}
use Rattle.model.specs.declared.limits.Limits.{Limits}
use Rattle.model.specs.State.{Monitor}
use Rattle.model.specs.Monitors.{monitor_at, unlocked}
use Rattle.heap.specs.declared.kind.ObjectKind.TheVariants as kind
use Rattle.heap.specs.Heap.{Object, Heap, IsSameAt}
use Rattle.word_table.specs.Lists.{StandsFor, Grows, IsWritten}
use Rattle.kept_parts.specs.Rows.{flag_code, flags_row}
use Rattle.kept_parts.specs.Objects.{object_row, opened, with_kept}
use Rattle.kept_parts.specs.declared.heap_rows.NumberedHeap.{NumberedHeap}
use Rattle.kept_parts.specs.Heaps.{AreObjects, AreFirst, AreBefore, AreNumbered, GoOn, IsHeapKept, IsHeapRead, IsHeapWritten, IsNumberRead}
use Rattle.kept_parts.proofs.Kept.{objects_stay}

some_is : {A : Type 0} (x y : A) → Some x ≡ Some y → x ≡ y
some_is x y h = cc

-- ---- one more

pub objects_more : (parts : List (List ℕ)) (ns : List ℕ) (os : List Object) (ms : List Monitor) (n : ℕ) (o : Object) (m : Monitor)
    → AreObjects parts ns os ms → StandsFor parts n (object_row o m) → AreObjects parts (ns ++ n ∷ []) (os ++ o ∷ []) (ms ++ m ∷ [])
objects_more parts [] [] [] n o m a s = (s, tt)
objects_more parts (x ∷ ns) (p ∷ os) (q ∷ ms) n o m a s = (a.0, objects_more parts ns os ms n o m a.1 s)
objects_more parts [] [] (q ∷ ms) n o m a s = absurd a
objects_more parts [] (p ∷ os) ms n o m a s = absurd a
objects_more parts (x ∷ ns) [] ms n o m a s = absurd a
objects_more parts (x ∷ ns) (p ∷ os) [] n o m a s = absurd a

pub objects_at : (parts : List (List ℕ)) (ns : List ℕ) (os : List Object) (ms : List Monitor) (i n : ℕ) (o : Object)
    → AreObjects parts ns os ms → slice_get ns i ≡ Some n → slice_get os i ≡ Some o → StandsFor parts n (object_row o (monitor_at ms i))
objects_at parts (x ∷ ns) (p ∷ os) (q ∷ ms) zero n o a hn ho =
    let object : p ≡ o = some_is p o ho in
    let number : x ≡ n = some_is x n hn in
    subst (λ (k : ℕ). StandsFor parts k (object_row o q)) number (subst (λ (r : Object). StandsFor parts x (object_row r q)) object a.0)
objects_at parts (x ∷ ns) (p ∷ os) (q ∷ ms) (suc i) n o a hn ho = objects_at parts ns os ms i n o a.1 hn ho
objects_at parts [] [] [] i n o a hn ho = absurd (nothing i hn)
  where
    nothing : (i : ℕ) → slice_get [] i ≡ Some n → ⊥
    nothing zero h = cc
    nothing (suc i) h = cc
objects_at parts [] [] (q ∷ ms) i n o a hn ho = absurd a
objects_at parts [] (p ∷ os) ms i n o a hn ho = absurd a
objects_at parts (x ∷ ns) [] ms i n o a hn ho = absurd a
objects_at parts (x ∷ ns) (p ∷ os) [] i n o a hn ho = absurd a

pub first_more : (parts : List (List ℕ)) (numbers : List ℕ) (at n : ℕ) (o : Object) (heap : Heap) → at < length heap.objects
    → length heap.locks.monitors ≡ length heap.objects → slice_get heap.objects at ≡ Some o → AreFirst parts numbers at heap
    → StandsFor parts n (object_row o (monitor_at heap.locks.monitors at)) → AreFirst parts (numbers ++ n ∷ []) (at + 1) heap
first_more parts numbers at n o heap there monitors is a s =
    let os : take (at + 1) heap.objects ≡ take at heap.objects ++ o ∷ [] =
    take_more heap.objects at o there ∙ ap (λ (x : Object). take at heap.objects ++ x ∷ []) (get_or_from_slice_get heap.objects at o o is) in
    let ms : take (at + 1) heap.locks.monitors ≡ take at heap.locks.monitors ++ monitor_at heap.locks.monitors at ∷ [] =
    take_more heap.locks.monitors at unlocked (omega (arith, there, monitors)) in
    rw (os, ms) (objects_more parts numbers (take at heap.objects) (take at heap.locks.monitors) n o (monitor_at heap.locks.monitors at) a s)

-- ---- an object that is written, or is the same in a heap before

pub blank : Object
blank = record { kind = kind.Ints; words = [] }

pub object_there : (heap : Heap) (at : ℕ) → at < length heap.objects → slice_get heap.objects at ≡ Some (get_or heap.objects at blank)
object_there heap at h = slice_get-get_or heap.objects at blank h

pub first_stays : (old new : List (List ℕ)) (numbers : List ℕ) (at : ℕ) (heap : Heap) → Grows old new → AreFirst old numbers at heap → AreFirst new numbers at heap
first_stays old new numbers at heap grows a = objects_stay old new grows numbers (take at heap.objects) (take at heap.locks.monitors) a

pub one_written : (heap : Heap) (at number : ℕ) (numbers more row : List ℕ) (old new : List (List ℕ)) → at < length heap.objects
    → length heap.locks.monitors ≡ length heap.objects → AreFirst old numbers at heap
    → ((o : Object) → slice_get heap.objects at ≡ Some o → row ≡ [] ++ object_row o (monitor_at heap.locks.monitors at))
    → IsWritten row number old new → more ≡ numbers ++ number ∷ []
    → AreNumbered heap at (at + 1) more old new
one_written heap at number numbers more row old new there monitors a rows w is =
    let o : Object = get_or heap.objects at blank in
    let stands : StandsFor new number (object_row o (monitor_at heap.locks.monitors at)) = w.stands ∙ ap (λ (r : List ℕ). Some r) (rows o (object_there heap at there)) in
    record {
      grows = w.grows;
      from = omega arith;
      within = omega (arith, there);
      first = subst (λ (ns : List ℕ). AreFirst new ns (at + 1) heap) (sym is)
          (first_more new numbers at number o heap there monitors (object_there heap at there) (first_stays old new numbers at heap w.grows a) stands);
    }

pub one_same : (parts : List (List ℕ)) (heap : Heap) (before : NumberedHeap) (at number : ℕ) (numbers more : List ℕ) → at < length heap.objects
    → length heap.locks.monitors ≡ length heap.objects → AreBefore parts before → IsSameAt at heap before.heap.now → AreFirst parts numbers at heap
    → slice_get before.objects.now at ≡ Some number → more ≡ numbers ++ number ∷ []
    → AreFirst parts more (at + 1) heap
one_same parts heap before at number numbers more there monitors b same a get is =
    let o : Object = get_or heap.objects at blank in
    let here : slice_get heap.objects at ≡ Some o = object_there heap at there in
    let stands : StandsFor parts number (object_row o (monitor_at before.heap.now.locks.monitors at)) =
    objects_at parts before.objects.now before.heap.now.objects before.heap.now.locks.monitors at number o b.are get (sym same.objects ∙ here) in
    subst (λ (ns : List ℕ). AreFirst parts ns (at + 1) heap) (sym is)
    (first_more parts numbers at number o heap there monitors here a
    (subst (λ (m : Monitor). StandsFor parts number (object_row o m)) (sym same.monitors) stands))

pub goes_on : (heap : Heap) (before : NumberedHeap) (object at number : ℕ) (old numbers more : List ℕ) → at < length heap.objects
    → length heap.locks.monitors ≡ length heap.objects → IsSameAt at heap before.heap.now → GoOn heap (Some before) object at old numbers
    → slice_get before.objects.now at ≡ Some number → more ≡ numbers ++ number ∷ []
    → GoOn heap (Some before) object (at + 1) old more
goes_on heap before object at number old numbers more there monitors same g get is = record {
  from = omega (arith, g.from);
  within = omega (arith, there);
  first = λ parts b a. one_same parts heap before at number numbers more there monitors b same (g.first parts b a) get is;
}

pub goes_nowhere : (heap : Heap) (before : Option NumberedHeap) (object : ℕ) (numbers : List ℕ) → object ≤ length heap.objects
    → GoOn heap before object object numbers numbers
goes_nowhere heap before object numbers within = record { from = omega arith; within = within; first = λ parts b a. a }

-- ---- all of them

pub grows_on : (a b c : List (List ℕ)) → Grows a b → Grows b c → Grows a c
grows_on a b c f g = record { kept = λ number words stands. g.kept number words (f.kept number words stands) }

pub grows_not : (a : List (List ℕ)) → Grows a a
grows_not a = record { kept = λ number words stands. stands }

pub before_stays : (old new : List (List ℕ)) (before : Option NumberedHeap) → Grows old new → IfSome before (AreBefore old) → IfSome before (AreBefore new)
before_stays old new None grows b = tt
before_stays old new (Some h) grows b = record {
  are = objects_stay old new grows h.objects.now h.heap.now.objects h.heap.now.locks.monitors b.are;
  stands = grows.kept h.number h.objects.now b.stands;
}

pub all_first : (parts : List (List ℕ)) (numbers : List ℕ) (count : ℕ) (heap : Heap) → length heap.objects ≤ count → length heap.locks.monitors ≡ length heap.objects
    → AreFirst parts numbers count heap → IsHeapKept parts numbers heap
all_first parts numbers count heap h monitors a =
    rw (take_all count heap.objects h, take_all count heap.locks.monitors (omega (arith, h, monitors))) at a

pub heap_written : (heap : Heap) (number : ℕ) (numbers : List ℕ) (old mid new : List (List ℕ)) → Grows old mid → IsHeapKept mid numbers heap
    → IsWritten numbers number mid new → IsHeapWritten heap number numbers old new
heap_written heap number numbers old mid new g k w = record {
  grows = grows_on old mid new g w.grows;
  are = objects_stay mid new w.grows numbers heap.objects heap.locks.monitors k;
  stands = w.stands;
}

-- ---- flags

pub flag_more : (fat : List Bool) (at : ℕ) (start before after : List ℕ) → at < length fat → before ≡ start ++ flags_row (take at fat)
    → after ≡ before ++ flag_code (get_or fat at false) ∷ [] → after ≡ start ++ flags_row (take (at + 1) fat)
flag_more fat at start before after h is step =
    let more : flags_row (take (at + 1) fat) ≡ flags_row (take at fat) ++ flag_code (get_or fat at false) ∷ [] =
    ap flags_row (take_more fat at false h) ∙ map-append flag_code (take at fat) (get_or fat at false ∷ []) in
    step
    ∙ ap (λ (ns : List ℕ). ns ++ flag_code (get_or fat at false) ∷ []) is
    ∙ append_assoc start (flags_row (take at fat)) (flag_code (get_or fat at false) ∷ [])
    ∙ ap (λ (ns : List ℕ). start ++ ns) (sym more)

-- ---- read again

-- the first so many objects are there
pub record AreRead (parts : List (List ℕ)) (limits : Limits) (opening place : ℕ) (numbers fat : List ℕ) (heap : Heap) : Type 0 where
  pub are : AreObjects parts (take place numbers) heap.objects heap.locks.monitors
  pub fat_is : take place fat ≡ flags_row heap.locks.fat
  pub many : length heap.objects ≡ place
  pub fat_many : length heap.locks.fat ≡ place
  pub below : place ≤ opening → heap.opening ≡ place
  pub above : opening ≤ place → heap.opening ≡ opening
  pub counted_is : heap.counted ≡ 0
  pub objects_limited : heap.object_limit ≡ limits.objects
  pub cells_limited : heap.cell_limit ≡ limits.cells
  pub monitors_limited : heap.locks.limit ≡ limits.monitors

pub none_read : (parts : List (List ℕ)) (limits : Limits) (opening : ℕ) (numbers fat : List ℕ) (heap : Heap)
    → heap ≡ record { objects = []; locks = record { monitors = []; fat = []; limit = limits.monitors }; opening = 0; counted = 0; object_limit = limits.objects; cell_limit = limits.cells }
    → AreRead parts limits opening 0 numbers fat heap
none_read parts limits opening numbers fat heap is =
    subst (λ (h : Heap). AreRead parts limits opening 0 numbers fat h) (sym is) (record {
      are = tt;
      fat_is = refl;
      many = refl;
      fat_many = refl;
      below = λ h. refl;
      above = λ h. omega (arith, h);
      counted_is = refl;
      objects_limited = refl;
      cells_limited = refl;
      monitors_limited = refl;
    })

length_push : {A : Type 0} (xs : List A) (x : A) → length (xs ++ x ∷ []) ≡ length xs + 1
length_push [] x = refl
length_push (y ∷ xs) x = omega (arith, length_push xs x)

-- what is read of the heap, whether the object belongs to the opening state or not
record AreSo (parts : List (List ℕ)) (limits : Limits) (place : ℕ) (numbers fat : List ℕ) (heap : Heap) : Type 0 where
  pub are : AreObjects parts (take place numbers) heap.objects heap.locks.monitors
  pub fat_is : take place fat ≡ flags_row heap.locks.fat
  pub many : length heap.objects ≡ place
  pub fat_many : length heap.locks.fat ≡ place

so_more : (parts : List (List ℕ)) (limits : Limits) (place number word : ℕ) (numbers fat row : List ℕ) (is_fat : Bool) (o : Object) (m : Monitor) (old : Heap) (opening : ℕ)
    → AreRead parts limits opening place numbers fat old → place < length numbers → length fat ≡ length numbers
    → number ≡ get_or numbers place 0 → word ≡ get_or fat place 0 → StandsFor parts number row → row ≡ object_row o m → word ≡ flag_code is_fat
    → AreSo parts limits (place + 1) numbers fat (with_kept o m is_fat old)
so_more parts limits place number word numbers fat row is_fat o m old opening a there even n w stands row_is flag =
    let ns : take (place + 1) numbers ≡ take place numbers ++ number ∷ [] = take_more numbers place 0 there ∙ ap (λ (x : ℕ). take place numbers ++ x ∷ []) (sym n) in
    let fs : take (place + 1) fat ≡ take place fat ++ word ∷ [] = take_more fat place 0 (omega (arith, there, even)) ∙ ap (λ (x : ℕ). take place fat ++ x ∷ []) (sym w) in
    record {
      are = rw ns (objects_more parts (take place numbers) old.objects old.locks.monitors number o m a.are (stands ∙ ap (λ (r : List ℕ). Some r) row_is));
      fat_is = fs
          ∙ ap (λ (xs : List ℕ). xs ++ word ∷ []) a.fat_is
          ∙ ap (λ (x : ℕ). flags_row old.locks.fat ++ x ∷ []) flag
          ∙ sym (map-append flag_code old.locks.fat (is_fat ∷ []));
      many = length_push old.objects o ∙ ap (λ (k : ℕ). k + 1) a.many;
      fat_many = length_push old.locks.fat is_fat ∙ ap (λ (k : ℕ). k + 1) a.fat_many;
    }

pub one_opening : (parts : List (List ℕ)) (limits : Limits) (opening place number word : ℕ) (numbers fat : List ℕ) (old new : Heap)
    → AreRead parts limits opening place numbers fat old → place < length numbers → length fat ≡ length numbers
    → number ≡ get_or numbers place 0 → word ≡ get_or fat place 0 → place < opening → IsNumberRead parts number true word old new
    → AreRead parts limits opening (place + 1) numbers fat new
one_opening parts limits opening place number word numbers fat old new a there even n w early r =
    let then : Heap = opened true (length old.objects + 1) (with_kept r.read.object r.read.monitor r.is_fat old) in
    let so : AreSo parts limits (place + 1) numbers fat (with_kept r.read.object r.read.monitor r.is_fat old) =
    so_more parts limits place number word numbers fat r.row r.is_fat r.read.object r.read.monitor old opening a there even n w r.stands r.read.row_is r.fat_is in
    subst (λ (h : Heap). AreRead parts limits opening (place + 1) numbers fat h) (sym r.read.after) (record {
      are = so.are;
      fat_is = so.fat_is;
      many = so.many;
      fat_many = so.fat_many;
      below = λ h. omega (arith, a.many);
      above = λ h. omega (arith, a.many, h, early);
      counted_is = refl;
      objects_limited = a.objects_limited;
      cells_limited = a.cells_limited;
      monitors_limited = a.monitors_limited;
    })

pub one_behind : (parts : List (List ℕ)) (limits : Limits) (opening place number word : ℕ) (numbers fat : List ℕ) (old new : Heap)
    → AreRead parts limits opening place numbers fat old → place < length numbers → length fat ≡ length numbers
    → number ≡ get_or numbers place 0 → word ≡ get_or fat place 0 → opening ≤ place → IsNumberRead parts number false word old new
    → AreRead parts limits opening (place + 1) numbers fat new
one_behind parts limits opening place number word numbers fat old new a there even n w late r =
    let so : AreSo parts limits (place + 1) numbers fat (with_kept r.read.object r.read.monitor r.is_fat old) =
    so_more parts limits place number word numbers fat r.row r.is_fat r.read.object r.read.monitor old opening a there even n w r.stands r.read.row_is r.fat_is in
    subst (λ (h : Heap). AreRead parts limits opening (place + 1) numbers fat h) (sym r.read.after) (record {
      are = so.are;
      fat_is = so.fat_is;
      many = so.many;
      fat_many = so.fat_many;
      below = λ h. absurd (omega (arith, h, late));
      above = λ h. a.above late;
      counted_is = a.counted_is;
      objects_limited = a.objects_limited;
      cells_limited = a.cells_limited;
      monitors_limited = a.monitors_limited;
    })

pub all_read : (parts : List (List ℕ)) (limits : Limits) (opening place : ℕ) (numbers fat : List ℕ) (heap : Heap)
    → AreRead parts limits opening place numbers fat heap → length numbers ≤ place → length fat ≡ length numbers → opening ≤ length numbers
    → IsHeapRead parts limits opening 0 numbers fat heap
all_read parts limits opening place numbers fat heap a all even within = record {
  are = rw (take_all place numbers all) at a.are;
  fat_is = sym (take_all place fat (omega (arith, all, even))) ∙ a.fat_is;
  opening_is = a.above (omega (arith, all, within));
  counted_is = a.counted_is;
  objects_limited = a.objects_limited;
  cells_limited = a.cells_limited;
  monitors_limited = a.monitors_limited;
}
