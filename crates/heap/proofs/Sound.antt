-- What a heap keeps, after one more object.
use Rattle.std.proofs.Common.{◌≡◌, ℕ, ◌+◌, ◌-◌, subst, ◌<◌, ◌≤◌, ◌^◌, List, [], ◌∷◌, ◌++◌, length, refl, sym, ◌∙◌, ap}
use Rattle.std.proofs.Common.{arith, length-append}
use Rattle.std.specs.Prelude.{replicate}
use Rattle.std.proofs.lemmas.List.{length-replicate}
use Rattle.heap.specs.monitor.Locks.{Locks}
use Rattle.model.specs.Monitors.{unlocked}
use Rattle.heap.specs.declared.kind.ObjectKind.{ObjectKind}
use Rattle.heap.specs.declared.layout.Entry.{Entry}
use Rattle.heap.specs.Heap.{Object, Heap, made, fresh, with_lock, with_object, IsAllocated, IsOpened}
use Rattle.heap.specs.Layout.{objects_of, heap_of, AreLaid, IsSound}
use Rattle.heap.proofs.Laid.{entry, laid-push, length-objects_of, objects_of-push}

-- the length of the cells with so many more
pub length_more : (cells : List ℕ) (count : ℕ) → length (cells ++ replicate count 0) ≡ length cells + count
length_more cells count = length-append cells (replicate count 0)
    ∙ ap (λ (n : ℕ). length cells + n) (length-replicate count 0)

pub length_pushed : {A : Type 0} (xs : List A) (x : A) → length (xs ++ x ∷ []) ≡ length xs + 1
length_pushed xs x = length-append xs (x ∷ [])

pub sound_pushed : (es : List Entry) (kind : ObjectKind) (n count monitors opening counted limit cell_limit more : ℕ)
    → IsSound es n monitors opening counted limit cell_limit → count < 2 ^ 32 → length es < opening + limit
    → counted + more ≤ cell_limit
    → IsSound (es ++ entry kind n ∷ []) (n + count) (monitors + 1) opening (counted + more) limit cell_limit
sound_pushed es kind n count monitors opening counted limit cell_limit more s small room cells = record {
  laid = laid-push es kind n count s.laid small;
  monitored = omega (arith, s.monitored, length_pushed es (entry kind n));
  opened = omega (arith, s.opened, length_pushed es (entry kind n));
  opening_fits = s.opening_fits;
  objects_fit = omega (arith, room, length_pushed es (entry kind n));
  limit_fits = s.limit_fits;
  cells_fit = cells;
}

pub sound_opened : (es : List Entry) (kind : ObjectKind) (n count monitors opening counted limit cell_limit : ℕ)
    → IsSound es n monitors opening counted limit cell_limit → count < 2 ^ 32 → length es < 294967295
    → IsSound (es ++ entry kind n ∷ []) (n + count) (monitors + 1) (length es + 1) 0 limit cell_limit
sound_opened es kind n count monitors opening counted limit cell_limit s small room = record {
  laid = laid-push es kind n count s.laid small;
  monitored = omega (arith, s.monitored, length_pushed es (entry kind n));
  opened = omega (arith, length_pushed es (entry kind n));
  opening_fits = omega (arith, room);
  objects_fit = omega (arith, length_pushed es (entry kind n));
  limit_fits = s.limit_fits;
  cells_fit = omega arith;
}

-- ---- the room that is left

pub made_is : (es : List Entry) (cells : List ℕ) (locks : Locks) (opening counted limit cell_limit : ℕ)
    → made (heap_of es cells locks opening counted limit cell_limit) ≡ length es - opening
made_is es cells locks opening counted limit cell_limit = ap (λ (n : ℕ). n - opening) (length-objects_of es cells)

pub objects_left : (es : List Entry) (cells : List ℕ) (locks : Locks) (opening counted limit cell_limit : ℕ)
    → IsSound es (length cells) (length locks.monitors) opening counted limit cell_limit
    → (limit - (length es - opening)) + made (heap_of es cells locks opening counted limit cell_limit) ≡ limit
objects_left es cells locks opening counted limit cell_limit s =
    omega (arith, s.opened, s.objects_fit, made_is es cells locks opening counted limit cell_limit)

-- ---- one more object is shown

pub with_fresh : (es : List Entry) (cells : List ℕ) (locks : Locks) (opening counted limit cell_limit : ℕ)
    (kind : ObjectKind) (count more : ℕ)
    → AreLaid es (length cells)
    → heap_of (es ++ entry kind (length cells) ∷ []) (cells ++ replicate count 0) (with_lock locks) opening
    (counted + more) limit cell_limit
    ≡ with_object (heap_of es cells locks opening counted limit cell_limit) (fresh kind count) more
with_fresh es cells locks opening counted limit cell_limit kind count more laid =
    ap (λ (os : List Object). record {
      objects = os;
      locks = with_lock locks;
      opening = opening;
      counted = counted + more;
      object_limit = limit;
      cell_limit = cell_limit;
    })
    (objects_of-push es kind cells (replicate count 0) laid)

pub allocated : (es : List Entry) (cells : List ℕ) (locks : Locks) (opening counted limit cell_limit : ℕ)
    (kind : ObjectKind) (count more reference : ℕ)
    (old : Heap)
    → heap_of es cells locks opening counted limit cell_limit ≡ old → IsSound es (length cells) (length locks.monitors)
    opening counted limit cell_limit
    → reference ≡ length old.objects → made old < old.object_limit → old.counted + more ≤ old.cell_limit
    → IsAllocated reference kind count more old (heap_of (es ++ entry kind (length cells) ∷ []) (cells
    ++ replicate count 0) (with_lock locks) opening (counted + more) limit cell_limit)
allocated es cells locks opening counted limit cell_limit kind count more reference old v s r few room =
    let left : made (heap_of es cells locks opening counted limit cell_limit) < limit =
    subst (λ (h : Heap). made h < h.object_limit) (sym v) few in
    let is : reference ≡ length (objects_of es cells) = subst (λ (h : Heap). reference ≡ length h.objects) (sym v) r in
    rw (← v) (record {
      answer = is;
      fits = omega (
        arith,
        is,
        length-objects_of es cells,
        s.opened,
        s.opening_fits,
        s.limit_fits,
        left,
        made_is es
            cells locks opening counted limit cell_limit,
      );
      opened = omega (arith, s.opened, length-objects_of es cells);
      objects = left;
      cells = subst (λ (h : Heap). h.counted + more ≤ h.cell_limit) (sym v) room;
      after = with_fresh es cells locks opening counted limit cell_limit kind count more s.laid;
    })

pub allocated_sound : (es : List Entry) (cells : List ℕ) (locks : Locks) (opening counted limit cell_limit : ℕ)
    (kind : ObjectKind) (count more : ℕ)
    (old : Heap)
    → heap_of es cells locks opening counted limit cell_limit ≡ old → IsSound es (length cells) (length locks.monitors)
    opening counted limit cell_limit
    → count < 2 ^ 32 → made old < old.object_limit → old.counted + more ≤ old.cell_limit
    → IsSound (es ++ entry kind (length cells)
    ∷ []) (length (cells ++ replicate count 0)) (length ((with_lock locks).monitors)) opening
    (counted + more) limit cell_limit
allocated_sound es cells locks opening counted limit cell_limit kind count more old v s small few room =
    let left : made (heap_of es cells locks opening counted limit cell_limit) < limit =
    subst (λ (h : Heap). made h < h.object_limit) (sym v) few in
    let fit : counted + more ≤ cell_limit = subst (λ (h : Heap). h.counted + more ≤ h.cell_limit) (sym v) room in
    rw (length_more cells count, length_pushed locks.monitors unlocked) (
    sound_pushed es kind (length cells) count (length locks.monitors) opening counted limit cell_limit more s small
    (omega (arith, s.opened, left, made_is es cells locks opening counted limit cell_limit))
    fit
    )

pub opened : (es : List Entry) (cells : List ℕ) (locks : Locks) (opening counted limit cell_limit : ℕ)
    (kind : ObjectKind) (count reference : ℕ)
    (old : Heap)
    → heap_of es cells locks opening counted limit cell_limit ≡ old → IsSound es (length cells) (length locks.monitors)
    opening counted limit cell_limit
    → reference ≡ length old.objects → length old.objects < 294967295
    → IsOpened reference kind count old (heap_of (es ++ entry kind (length cells) ∷ []) (cells
    ++ replicate count 0) (with_lock locks) (reference + 1) 0 limit cell_limit)
opened es cells locks opening counted limit cell_limit kind count reference old v s r few =
    let left : length (objects_of es cells) < 294967295 = subst (λ (h : Heap). length h.objects < 294967295) (sym v) few
    in
    let is : reference ≡ length (objects_of es cells) = subst (λ (h : Heap). reference ≡ length h.objects) (sym v) r in
    rw (← v) (record {
      answer = is;
      fits = omega (arith, is, left);
      after =
          ap (λ (os : List Object). record {
            objects = os;
            locks = with_lock locks;
            opening = reference + 1;
            counted = 0;
            object_limit = limit;
            cell_limit = cell_limit;
          })
          (objects_of-push es kind cells (replicate count 0) s.laid)
          ∙ ap (λ (n : ℕ). record (with_object (heap_of es cells locks opening counted limit cell_limit)
          (fresh kind count) 0) { opening = n + 1; counted = 0 }) is;
    })

pub opened_sound : (es : List Entry) (cells : List ℕ) (locks : Locks) (opening counted limit cell_limit : ℕ)
    (kind : ObjectKind) (count reference : ℕ) (old : Heap)
    → heap_of es cells locks opening counted limit cell_limit ≡ old → IsSound es (length cells) (length locks.monitors)
    opening counted limit cell_limit
    → count < 2 ^ 32 → reference ≡ length old.objects → length old.objects < 294967295
    → IsSound (es ++ entry kind (length cells)
    ∷ []) (length (cells ++ replicate count 0)) (length ((with_lock locks).monitors)) (reference + 1) 0 limit cell_limit
opened_sound es cells locks opening counted limit cell_limit kind count reference old v s small r few =
    let left : length (objects_of es cells) < 294967295 = subst (λ (h : Heap). length h.objects < 294967295) (sym v) few
    in
    let is : reference ≡ length es = subst (λ (h : Heap). reference ≡ length h.objects) (sym v) r
    ∙ length-objects_of es cells in
    rw (length_more cells count, length_pushed locks.monitors unlocked, is) (
    sound_opened es kind (length cells) count (length locks.monitors) opening counted limit cell_limit s small
    (omega (arith, left, length-objects_of es cells))
    )
