-- The words of objects in the list of all cells.
use Rattle.std.proofs.Common.{◌≡◌, ℕ, zero, suc, ◌+◌, ◌-◌, ◌<◌, ◌≤◌, ◌^◌, List, [], ◌∷◌, ◌++◌, length, get_or, set}
use Rattle.std.proofs.Common.{take, drop, refl, sym, ◌∙◌, ap, Option, Some, None, arith, length-append, length-drop}
use Rattle.std.proofs.Common.{add-one}
use Rattle.std.specs.Prelude.{slice_get, slice_range, slice_set, option_map}
use Rattle.std.proofs.Math.Nat.{sub_self}
use Rattle.std.proofs.Math.Seq.{take-set-lt, take-length, drop-append_seam}
use Rattle.std.proofs.lemmas.List.{take-append-le, drop-append-le, length-set, length-take, set_past, get_or-take}
use Rattle.std.proofs.lemmas.List.{get_or-drop, get_or_past, drop-set-lt, drop-set-add, take-set-le}
use Rattle.heap.specs.declared.kind.ObjectKind.{ObjectKind}
use Rattle.heap.specs.declared.layout.Entry.{Entry}
use Rattle.heap.specs.Elements.{stored}
use Rattle.heap.specs.Heap.{Object, words_at, word_at, changed, with_word, put_field, put_element, kind_of}
use Rattle.heap.specs.Layout.{first_start, object_of, objects_of, AreLaid, start_at, entry_kind}

-- ---- parts of the list of cells

pub length-range : (cells : List ℕ) (from to : ℕ) → to ≤ length cells → length (slice_range cells from to) ≡ to - from
length-range cells from to h = omega (arith, length-take (to - from) (drop from cells), length-drop from cells)

pub range_short : (cells : List ℕ) (from to : ℕ) → length (slice_range cells from to) ≤ to - from
range_short cells from to = omega (arith, length-take (to - from) (drop from cells))

pub range_empty : (cells : List ℕ) (at : ℕ) → slice_range cells at at ≡ []
range_empty cells at = ap (λ (n : ℕ). take n (drop at cells)) (sub_self at)

pub range-append : (cells new : List ℕ) (from to : ℕ) → from ≤ to → to ≤ length cells
    → slice_range (cells ++ new) from to ≡ slice_range cells from to
range-append cells new from to up h =
    let start : from ≤ length cells = omega arith in
    let room : to - from ≤ length (drop from cells) = omega (arith, length-drop from cells) in
    ap (λ (xs : List ℕ). take (to - from) xs) (drop-append-le from cells new start)
    ∙ take-append-le (to - from) (drop from cells) new room

pub range_new : (cells new : List ℕ) → slice_range (cells ++ new) (length cells) (length (cells ++ new)) ≡ new
range_new cells new =
    let count : length (cells ++ new) - length cells ≡ length new = omega (arith, length-append cells new) in
    rw (count, drop-append_seam cells new) (take-length new)

pub range_at : (cells : List ℕ) (from to k : ℕ) → from + k < to
    → get_or (slice_range cells from to) k 0 ≡ get_or cells (from + k) 0
range_at cells from to k h = get_or-take (to - from) (drop from cells) k 0 (omega arith) ∙ get_or-drop from cells k 0

pub range_past : (cells : List ℕ) (from to k : ℕ) → to ≤ from + k → get_or (slice_range cells from to) k 0 ≡ 0
range_past cells from to k h = get_or_past (slice_range cells from to) k 0 (omega (arith, range_short cells from to))

pub range-set_before : (cells : List ℕ) (i w from to : ℕ) → i < from
    → slice_range (set cells i w) from to ≡ slice_range cells from to
range-set_before cells i w from to h = ap (λ (xs : List ℕ). take (to - from) xs) (drop-set-lt from cells i w h)

pub range-set_after : (cells : List ℕ) (d w from to : ℕ) → to ≤ from + d
    → slice_range (set cells (from + d) w) from to ≡ slice_range cells from to
range-set_after cells d w from to h =
    ap (λ (xs : List ℕ). take (to - from) xs) (drop-set-add from cells d w)
    ∙ take-set-le (to - from) (drop from cells) d w (omega arith)

pub range-set_in : (cells : List ℕ) (k w from to : ℕ) → from + k < to
    → slice_range (set cells (from + k) w) from to ≡ set (slice_range cells from to) k w
range-set_in cells k w from to h =
    ap (λ (xs : List ℕ). take (to - from) xs) (drop-set-add from cells k w)
    ∙ take-set-lt (to - from) (drop from cells) k w (omega arith)

-- ---- where objects begin

pub first_le_end : (es : List Entry) (n : ℕ) → AreLaid es n → first_start es n ≤ n
first_le_end [] n h = omega arith
first_le_end (e ∷ es) n h = omega (arith, h.0, first_le_end es n h.2)

pub laid-drop : (k : ℕ) (es : List Entry) (n : ℕ) → AreLaid es n → AreLaid (drop k es) n
laid-drop zero es n h = h
laid-drop (suc k) [] n h = tt
laid-drop (suc k) (e ∷ es) n h = laid-drop k es n h.2

pub start_le_end : (es : List Entry) (n r : ℕ) → AreLaid es n → start_at es n r ≤ n
start_le_end es n r h = first_le_end (drop r es) n (laid-drop r es n h)

pub first_le_start : (es : List Entry) (n r : ℕ) → AreLaid es n → first_start es n ≤ start_at es n r
first_le_start es n zero h = omega arith
first_le_start [] n (suc r) h = omega arith
first_le_start (e ∷ es) n (suc r) h = omega (arith, h.0, first_le_start es n r h.2)

pub start_le_suc : (es : List Entry) (n r : ℕ) → AreLaid es n → start_at es n r ≤ start_at es n (suc r)
start_le_suc [] n zero h = omega arith
start_le_suc [] n (suc r) h = omega arith
start_le_suc (e ∷ es) n zero h = h.0
start_le_suc (e ∷ es) n (suc r) h = start_le_suc es n r h.2

pub suc_lt_start : (es : List Entry) (n r : ℕ) → AreLaid es n → start_at es n (suc r) < start_at es n r + 2 ^ 32
suc_lt_start [] n zero h = omega arith
suc_lt_start [] n (suc r) h = omega arith
suc_lt_start (e ∷ es) n zero h = h.1
suc_lt_start (e ∷ es) n (suc r) h = suc_lt_start es n r h.2

pub start_le_next : (es : List Entry) (n r : ℕ) → AreLaid es n → start_at es n r ≤ start_at es n (r + 1)
start_le_next es n r h = rw (add-one r) (start_le_suc es n r h)

pub next_lt_start : (es : List Entry) (n r : ℕ) → AreLaid es n → start_at es n (r + 1) < start_at es n r + 2 ^ 32
next_lt_start es n r h = rw (add-one r) (suc_lt_start es n r h)

-- ---- the objects

pub length-objects_of : (es : List Entry) (cells : List ℕ) → length (objects_of es cells) ≡ length es
length-objects_of [] cells = refl
length-objects_of (e ∷ es) cells = ap suc (length-objects_of es cells)

pub kind-objects_of : (es : List Entry) (cells : List ℕ) (r : ℕ)
    → option_map kind_of (slice_get (objects_of es cells) r) ≡ option_map entry_kind (slice_get es r)
kind-objects_of [] cells r = refl
kind-objects_of (e ∷ es) cells zero = refl
kind-objects_of (e ∷ es) cells (suc r) = kind-objects_of es cells r

-- ---- one more object

abbrev pub entry : ObjectKind → ℕ → Entry
entry kind start = record { kind = kind; start = start }

pub first_start-push : (es : List Entry) (kind : ObjectKind) (n m : ℕ)
    → first_start (es ++ entry kind n ∷ []) m ≡ first_start es n
first_start-push [] kind n m = refl
first_start-push (e ∷ es) kind n m = refl

pub laid-push : (es : List Entry) (kind : ObjectKind) (n k : ℕ) → AreLaid es n → k < 2 ^ 32
    → AreLaid (es ++ entry kind n ∷ []) (n + k)
laid-push [] kind n k h small = (omega arith, omega (arith, small), tt)
laid-push (e ∷ es) kind n k h small = (
  rw (first_start-push es kind n (n + k)) h.0,
  rw (first_start-push es kind n (n + k)) h.1,
  laid-push es kind n k h.2 small,
)

pub objects_of-push : (es : List Entry) (kind : ObjectKind) (cells new : List ℕ) → AreLaid es (length cells)
    → objects_of (es ++ entry kind (length cells) ∷ []) (cells ++ new) ≡ objects_of es cells
    ++ record { kind = kind; words = new } ∷ []
objects_of-push [] kind cells new h = rw (range_new cells new) refl
objects_of-push (e ∷ es) kind cells new h =
    let next : first_start es (length cells) ≤ length cells = first_le_end es (length cells) h.2 in
    rw (
      first_start-push es kind (length cells) (length (cells ++ new)),
      range-append cells new e.start
          (first_start es (length cells)) h.0 next,
      objects_of-push es kind cells new h.2,
    ) refl

-- ---- words read

pub words_at_suc : (es : List Entry) (cells : List ℕ) (r : ℕ)
    → words_at (objects_of es cells) r ≡ slice_range cells (start_at es (length cells) r)
    (start_at es (length cells) (suc r))
words_at_suc [] cells zero = sym (range_empty cells (length cells))
words_at_suc [] cells (suc r) = sym (range_empty cells (length cells))
words_at_suc (e ∷ es) cells zero = refl
words_at_suc (e ∷ es) cells (suc r) = words_at_suc es cells r

pub words_at_range : (es : List Entry) (cells : List ℕ) (r : ℕ)
    → words_at (objects_of es cells) r ≡ slice_range cells (start_at es (length cells) r)
    (start_at es (length cells) (r + 1))
words_at_range es cells r = rw (add-one r) (words_at_suc es cells r)

pub length-words_at : (es : List Entry) (cells : List ℕ) (r : ℕ) → AreLaid es (length cells)
    → length (words_at (objects_of es cells) r) + start_at es (length cells) r ≡ start_at es (length cells) (r + 1)
length-words_at es cells r h =
    let is : length (words_at (objects_of es cells) r) ≡ start_at es (length cells) (r + 1) - start_at es (length cells)
    r =
    ap (λ (ws : List ℕ). length ws) (words_at_range es cells r)
    ∙ length-range cells (start_at es (length cells) r) (start_at es (length cells) (r + 1))
    (start_le_end es (length cells) (r + 1) h) in
    omega (arith, is, start_le_next es (length cells) r h)

pub word_there : (es : List Entry) (cells : List ℕ) (r k p : ℕ) → p ≡ start_at es (length cells) r + k
    → p < start_at es (length cells) (r + 1)
    → word_at (objects_of es cells) r k ≡ get_or cells p 0
word_there es cells r k p is h =
    ap (λ (ws : List ℕ). get_or ws k 0) (words_at_range es cells r)
    ∙ range_at cells (start_at es (length cells) r) (start_at es (length cells) (r + 1)) k (omega (arith, is, h))
    ∙ ap (λ (i : ℕ). get_or cells i 0) (sym is)

pub word_not_there : (es : List Entry) (cells : List ℕ) (r k : ℕ)
    → start_at es (length cells) (r + 1) ≤ start_at es (length cells) r + k
    → word_at (objects_of es cells) r k ≡ 0
word_not_there es cells r k h =
    ap (λ (ws : List ℕ). get_or ws k 0) (words_at_range es cells r)
    ∙ range_past cells (start_at es (length cells) r) (start_at es (length cells) (r + 1)) k h

-- ---- words written

pub changed_suc : (o : Object) (os : List Object) (r : ℕ) (f : Object → Object) (x : Option Object)
    → changed (o ∷ os) (suc r) f x ≡ o ∷ changed os r f x
changed_suc o os r f None = refl
changed_suc o os r f (Some x) = refl

pub objects_of-set_before : (es : List Entry) (cells : List ℕ) (i w : ℕ) → AreLaid es (length cells)
    → i < first_start es (length cells)
    → objects_of es (set cells i w) ≡ objects_of es cells
objects_of-set_before [] cells i w h lt = refl
objects_of-set_before (e ∷ es) cells i w h lt =
    let later : i < first_start es (length cells) = omega (arith, lt, h.0) in
    rw (
      length-set cells i w,
      range-set_before cells i w e.start (first_start es (length cells)) lt,
      objects_of-set_before es cells i w h.2 later,
    ) refl

pub set_at_suc : (es : List Entry) (cells : List ℕ) (r k p w : ℕ) → AreLaid es (length cells)
    → p ≡ start_at es (length cells) r + k
    → p < start_at es (length cells) (suc r)
    → objects_of es (set cells p w) ≡ put_field (objects_of es cells) r k w
set_at_suc [] cells zero k p w h is lt = absurd (omega (arith, is, lt))
set_at_suc [] cells (suc r) k p w h is lt = absurd (omega (arith, is, lt))
set_at_suc (e ∷ es) cells zero k p w h is lt =
    let inside : e.start + k < first_start es (length cells) = omega (arith, is, lt) in
    rw (
      is,
      length-set cells (e.start + k) w,
      range-set_in cells k w e.start (first_start es (length cells)) inside,
      objects_of-set_before es cells (e.start + k) w h.2 inside,
    ) refl
set_at_suc (e ∷ es) cells (suc r) k p w h is lt =
    let past : first_start es (length cells) ≤ p = omega (arith, is, first_le_start es (length cells) r h.2) in
    let at : e.start + (p - e.start) ≡ p = omega (arith, h.0, past) in
    let head : slice_range (set cells p w) e.start (first_start es (length cells))
    ≡ slice_range cells e.start (first_start es (length cells)) =
    ap (λ (i : ℕ). slice_range (set cells i w) e.start (first_start es (length cells))) (sym at)
    ∙ range-set_after cells (p - e.start) w e.start (first_start es (length cells)) (omega (arith, at, past)) in
    rw (length-set cells p w, head, set_at_suc es cells r k p w h.2 is lt) (sym (changed_suc _ _ _ _ _))

pub field_there : (es : List Entry) (cells : List ℕ) (r k p w : ℕ) → AreLaid es (length cells)
    → p ≡ start_at es (length cells) r + k
    → p < start_at es (length cells) (r + 1)
    → objects_of es (set cells p w) ≡ put_field (objects_of es cells) r k w
field_there es cells r k p w h is lt = set_at_suc es cells r k p w h is (rw (add-one r) at lt)

pub field_past : (os : List Object) (r k w : ℕ) → length (words_at os r) ≤ k → put_field os r k w ≡ os
field_past [] r k w h = refl
field_past (o ∷ os) zero k w h = rw (set_past o.words k w h) refl
field_past (o ∷ os) (suc r) k w h = changed_suc o os r (with_word k w) (slice_get os r)
    ∙ ap (λ (t : List Object). o ∷ t) (field_past os r k w h)

pub field_not_there : (es : List Entry) (cells : List ℕ) (r k w : ℕ) → AreLaid es (length cells)
    → start_at es (length cells) (r + 1) ≤ start_at es (length cells) r + k
    → put_field (objects_of es cells) r k w ≡ objects_of es cells
field_not_there es cells r k w h past = field_past (objects_of es cells) r k w
    (omega (arith, length-words_at es cells r h, past))

pub element_by : (os : List Object) (r k w : ℕ) (kind : ObjectKind) (o : Option Object)
    → option_map kind_of o ≡ Some kind
    → changed os r (λ (a : Object). with_word k (stored a.kind w) a) o ≡ changed os r (with_word k (stored kind w)) o
element_by os r k w kind None h = absurd (cc)
element_by os r k w kind (Some a) h =
    let e : a.kind ≡ kind = cc in
    ap (λ (q : ObjectKind). slice_set os r (with_word k (stored q w) a)) e

pub element_field : (os : List Object) (r k w : ℕ) (kind : ObjectKind) → option_map kind_of (slice_get os r) ≡ Some kind
    → put_element os r k w ≡ put_field os r k (stored kind w)
element_field os r k w kind h = element_by os r k w kind (slice_get os r) h

pub unchanged_by : (os : List Object) (r : ℕ) (f : Object → Object) (o : Option Object) → option_map kind_of o ≡ None
    → changed os r f o ≡ os
unchanged_by os r f None h = refl
unchanged_by os r f (Some a) h = absurd (cc)

pub element_nowhere : (os : List Object) (r k w : ℕ) → option_map kind_of (slice_get os r) ≡ None
    → put_element os r k w ≡ os
element_nowhere os r k w h = unchanged_by os r (λ (a : Object). with_word k (stored a.kind w) a) (slice_get os r) h
