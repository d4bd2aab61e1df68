-- What a heap keeps, after one more object whose words are given.
use Rattle.std.proofs.Common.{◌≡◌, ℕ, ◌+◌, subst, ◌<◌, ◌≤◌, ◌^◌, List, [], ◌∷◌, ◌++◌, length, sym, ◌∙◌, ap, arith}
use Rattle.std.proofs.Common.{length-append}
use Rattle.heap.specs.monitor.Locks.{Locks}
use Rattle.model.specs.Monitors.{unlocked}
use Rattle.heap.specs.declared.kind.ObjectKind.{ObjectKind}
use Rattle.heap.specs.declared.layout.Entry.{Entry}
use Rattle.heap.specs.Heap.{Object, Heap, made, with_lock, with_object}
use Rattle.heap.specs.Layout.{objects_of, heap_of, AreLaid, IsSound}
use Rattle.heap.proofs.Laid.{entry, length-objects_of, objects_of-push}
use Rattle.heap.proofs.Sound.{length_pushed, sound_pushed, sound_opened, made_is}

-- an object of these words
abbrev pub of_words : ObjectKind → List ℕ → Object
of_words kind words = record { kind = kind; words = words }

pub with_words : (es : List Entry) (cells words : List ℕ) (locks : Locks) (opening counted limit cell_limit : ℕ)
    (kind : ObjectKind) (more : ℕ) (old : Heap)
    → heap_of es cells locks opening counted limit cell_limit ≡ old → AreLaid es (length cells)
    → heap_of (es ++ entry kind (length cells) ∷ []) (cells ++ words) (with_lock locks) opening
    (counted + more) limit cell_limit
    ≡ with_object old (of_words kind words) more
with_words es cells words locks opening counted limit cell_limit kind more old v laid =
    ap (λ (os : List Object). record {
      objects = os;
      locks = with_lock locks;
      opening = opening;
      counted = counted + more;
      object_limit = limit;
      cell_limit = cell_limit;
    })
    (objects_of-push es kind cells words laid)
    ∙ ap (λ (h : Heap). with_object h (of_words kind words) more) v

pub with_opening_words : (es : List Entry) (cells words : List ℕ) (locks : Locks) (opening counted limit cell_limit : ℕ)
    (kind : ObjectKind)
    (reference : ℕ) (old : Heap)
    → heap_of es cells locks opening counted limit cell_limit ≡ old → AreLaid es (length cells)
    → reference ≡ length old.objects
    → heap_of (es ++ entry kind (length cells) ∷ []) (cells ++ words) (with_lock locks) (reference + 1) 0 limit
    cell_limit
    ≡ record (with_object old (of_words kind words) 0) { opening = length old.objects + 1; counted = 0 }
with_opening_words es cells words locks opening counted limit cell_limit kind reference old v laid is =
    ap (λ (h : Heap). record h { opening = reference + 1; counted = 0 }) (with_words es cells words locks opening counted
    limit cell_limit kind 0 old v laid)
    ∙ ap (λ (n : ℕ). record (with_object old (of_words kind words) 0) { opening = n + 1; counted = 0 }) is

pub with_words_sound : (es : List Entry) (cells words : List ℕ) (locks : Locks) (opening counted limit cell_limit : ℕ)
    (kind : ObjectKind) (more : ℕ) (old : Heap)
    → heap_of es cells locks opening counted limit cell_limit ≡ old → IsSound es (length cells) (length locks.monitors)
    opening counted limit cell_limit
    → length words < 2 ^ 32 → made old < old.object_limit → old.counted + more ≤ old.cell_limit
    → IsSound (es ++ entry kind (length cells) ∷ []) (length (cells ++ words)) (length ((with_lock locks).monitors))
    opening (counted + more) limit cell_limit
with_words_sound es cells words locks opening counted limit cell_limit kind more old v s small few room =
    let left : made (heap_of es cells locks opening counted limit cell_limit) < limit =
    subst (λ (h : Heap). made h < h.object_limit) (sym v) few in
    let fit : counted + more ≤ cell_limit = subst (λ (h : Heap). h.counted + more ≤ h.cell_limit) (sym v) room in
    rw (length-append cells words, length_pushed locks.monitors unlocked) (
    sound_pushed es kind (length cells) (length words) (length locks.monitors) opening counted limit
    cell_limit more s small
    (omega (arith, s.opened, left, made_is es cells locks opening counted limit cell_limit))
    fit
    )

pub with_opening_sound : (es : List Entry) (cells words : List ℕ) (locks : Locks) (opening counted limit cell_limit : ℕ)
    (kind : ObjectKind)
    (reference : ℕ) (old : Heap)
    → heap_of es cells locks opening counted limit cell_limit ≡ old → IsSound es (length cells) (length locks.monitors)
    opening counted limit cell_limit
    → length words < 2 ^ 32 → reference ≡ length old.objects → length old.objects < 294967295
    → IsSound (es ++ entry kind (length cells) ∷ []) (length (cells ++ words)) (length ((with_lock locks).monitors))
    (reference + 1) 0 limit cell_limit
with_opening_sound es cells words locks opening counted limit cell_limit kind reference old v s small r few =
    let left : length (objects_of es cells) < 294967295 = subst (λ (h : Heap). length h.objects < 294967295) (sym v) few
    in
    let is : reference ≡ length es = subst (λ (h : Heap). reference ≡ length h.objects) (sym v) r
    ∙ length-objects_of es cells in
    rw (length-append cells words, length_pushed locks.monitors unlocked, is) (
    sound_opened es kind (length cells) (length words) (length locks.monitors) opening counted limit cell_limit s small
    (omega (arith, left, length-objects_of es cells))
    )
