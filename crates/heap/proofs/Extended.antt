-- Words that an object gets behind those that it has, put in among the cells of all objects.
use Rattle.std.proofs.Common.{◌≡◌, ℕ, zero, suc, ◌+◌, ◌-◌, ◌<◌, ◌≤◌, ◌^◌, List, [], ◌∷◌, ◌++◌, length, map, take, drop, get_or, refl, sym, ap, subst, ◌∙◌, arith, length-append, length-drop, add-one}
use Rattle.std.specs.Prelude.{All, slice_get, slice_range, slice_set}
use Rattle.std.proofs.lemmas.List.Elements.{All-nil, All-cons}
use Rattle.std.proofs.Math.Seq.{take-append_seam, take-append-add, drop-append-add}
use Rattle.std.proofs.lemmas.List.{drop-append-le, get_or-drop, take-append-drop, length-take, length-map}
use Rattle.heap.specs.declared.layout.Entry.{Entry}
use Rattle.heap.specs.monitor.Locks.{Locks}
use Rattle.heap.specs.Heap.{Object, Heap, words_at, changed, extended, with_more, with_words}
use Rattle.heap.specs.Layout.{first_start, object_of, objects_of, AreLaid, start_at, heap_of, IsSound, later, moved, inserted}
use Rattle.heap.proofs.Laid.{range-append, first_le_start, first_le_end, start_le_end, length-objects_of, length-words_at, changed_suc}

-- ---- entries that are moved, one after another

module _ (f : Entry → Entry) (d : Entry) where
  pub step : (es : List Entry) (k : ℕ) → k < length es
      → take (suc k) (slice_set es k (f (get_or es k d))) ++ map f (drop (suc k) (slice_set es k (f (get_or es k d)))) ≡ take k es ++ map f (drop k es)
  step [] k h = absurd (omega (arith, h))
  step (e ∷ es) zero h = refl
  step (e ∷ es) (suc k) h = ap (λ l. e ∷ l) (step es k (omega (arith, h)))

pub rest_kept : (es : List Entry) (k : ℕ) (y : Entry) → drop (suc k) (slice_set es k y) ≡ drop (suc k) es
rest_kept [] k y = refl
rest_kept (e ∷ es) zero y = refl
rest_kept (e ∷ es) (suc k) y = rest_kept es k y

pub drop_next : (es fs : List Entry) (k : ℕ) → drop k es ≡ drop k fs → drop (suc k) es ≡ drop (suc k) fs
drop_next es fs k e = drop_suc es k ∙ ap (λ l. drop 1 l) e ∙ sym (drop_suc fs k)
  where
    drop_suc : (es : List Entry) (k : ℕ) → drop (suc k) es ≡ drop 1 (drop k es)
    drop_suc [] zero = refl
    drop_suc [] (suc k) = refl
    drop_suc (e ∷ es) zero = refl
    drop_suc (e ∷ es) (suc k) = drop_suc es k

-- one that is left is as it was
pub one_left : (es fs : List Entry) (k : ℕ) (d : Entry) → drop k es ≡ drop k fs → get_or es k d ≡ get_or fs k d
one_left es fs k d e =
    let at : k + 0 ≡ k = omega arith in
    ap (λ n. get_or es n d) (sym at)
    ∙ (sym (get_or-drop k es 0 d) ∙ (ap (λ l. get_or l 0 d) e ∙ (get_or-drop k fs 0 d ∙ ap (λ n. get_or fs n d) at)))

-- each begins at the end at most
pub all_fit : (es : List Entry) (end count most : ℕ) → AreLaid es end → end + count < most → All (λ (e : Entry). e.start + count < most) es
all_fit [] end count most laid h = All-nil (λ (f : Entry). f.start + count < most)
all_fit (e ∷ es) end count most laid h =
    let low : e.start + count < most = omega (arith, h, laid.0, first_le_end es end laid.2) in
    All-cons (λ (f : Entry). f.start + count < most) e es low (all_fit es end count most laid.2 h)

-- as many cells more
pub inserted_count : (cells : List ℕ) (place : ℕ) (words : List ℕ) → length (inserted cells place words) ≡ length cells + length words
inserted_count cells place words =
    omega (
      arith,
      length-append (take place cells) (words ++ drop place cells),
      length-append words (drop place cells),
      length-append (take place cells) (drop place cells),
      ap length (take-append-drop place cells),
    )

-- ---- parts of the cells

module _ (front back words : List ℕ) where
  abbrev all : List ℕ
  all = front ++ (words ++ back)

  all_count : length all ≡ length (front ++ back) + length words
  all_count =
      omega (arith, length-append front (words ++ back), length-append words back, length-append front back)

  -- behind the place
  range_later : (from to : ℕ) → length front ≤ from
      → slice_range all (from + length words) (to + length words) ≡ slice_range (front ++ back) from to
  range_later from to h =
      let at : from + length words ≡ length front + (length words + (from - length front)) = omega (arith, h) in
      let same : from ≡ length front + (from - length front) = omega (arith, h) in
      let count : (to + length words) - (from + length words) ≡ to - from = omega arith in
      let one : drop (from + length words) all ≡ drop (from - length front) back =
      ap (λ n. drop n all) at
      ∙ (drop-append-add front (words ++ back) (length words + (from - length front)) ∙ drop-append-add words back (from - length front)) in
      let other : drop from (front ++ back) ≡ drop (from - length front) back =
      ap (λ n. drop n (front ++ back)) same ∙ drop-append-add front back (from - length front) in
      λ i. take (count i) ((one ∙ sym other) i)

  -- what ends at the place
  range_grown : (from : ℕ) → from ≤ length front
      → slice_range all from (length front + length words) ≡ slice_range (front ++ back) from (length front) ++ words
  range_grown from h =
      let left : length (drop from front) ≡ length front - from = length-drop from front in
      let more : (length front + length words) - from ≡ length (drop from front) + length words = omega (arith, h, left) in
      let one : slice_range all from (length front + length words) ≡ drop from front ++ words =
      (λ i. take (more i) (drop-append-le from front (words ++ back) h i))
      ∙ (take-append-add (drop from front) (words ++ back) (length words)
      ∙ ap (λ l. drop from front ++ l) (take-append_seam words back)) in
      let other : slice_range (front ++ back) from (length front) ≡ drop from front =
      (λ i. take (sym left i) (drop-append-le from front back h i)) ∙ take-append_seam (drop from front) back in
      one ∙ ap (λ l. l ++ words) (sym other)

  -- before it
  range_before : (from to : ℕ) → from ≤ to → to ≤ length front → slice_range all from to ≡ slice_range (front ++ back) from to
  range_before from to up h = range-append front (words ++ back) from to up h ∙ sym (range-append front back from to up h)

  -- ---- objects

  first_later : (es : List Entry) (end : ℕ) → first_start (map (later (length words)) es) (end + length words) ≡ first_start es end + length words
  first_later [] end = refl
  first_later (e ∷ es) end = refl

  first_at : (es : List Entry) → first_start (map (later (length words)) es) (length all) ≡ first_start es (length (front ++ back)) + length words
  first_at es = ap (λ n. first_start (map (later (length words)) es) n) all_count ∙ first_later es (length (front ++ back))

  objects_behind : (es : List Entry) → AreLaid es (length (front ++ back)) → length front ≤ first_start es (length (front ++ back))
      → objects_of (map (later (length words)) es) all ≡ objects_of es (front ++ back)
  objects_behind [] laid low = refl
  objects_behind (e ∷ es) laid low =
      let here : slice_range all (e.start + length words) (first_start (map (later (length words)) es) (length all))
      ≡ slice_range (front ++ back) e.start (first_start es (length (front ++ back))) =
      ap (λ n. slice_range all (e.start + length words) n) (first_at es) ∙ range_later e.start (first_start es (length (front ++ back))) low in
      let rest = objects_behind es laid.2 (omega (arith, low, laid.0)) in
      λ i. record { kind = e.kind; words = here i } ∷ rest i

  -- where the words of the objects behind one begin later
  abbrev moved_at : List Entry → ℕ → List Entry
  moved_at es r = take (suc r) es ++ map (later (length words)) (drop (suc r) es)

  first_moved : (es : List Entry) (r end other : ℕ) → r < length es → first_start (moved_at es r) end ≡ first_start es other
  first_moved [] r end other h = absurd (omega (arith, h))
  first_moved (e ∷ es) r end other h = refl

  objects_extended : (es : List Entry) (r : ℕ) → AreLaid es (length (front ++ back)) → r < length es
      → length front ≡ start_at es (length (front ++ back)) (suc r)
      → objects_of (moved_at es r) all ≡ extended (objects_of es (front ++ back)) r words
  objects_extended [] r laid h at = absurd (omega (arith, h))
  objects_extended (e ∷ es) zero laid h at =
      let end : first_start (map (later (length words)) es) (length all) ≡ length front + length words = first_at es ∙ ap (λ n. n + length words) (sym at) in
      let here : slice_range all e.start (first_start (map (later (length words)) es) (length all))
      ≡ slice_range (front ++ back) e.start (first_start es (length (front ++ back))) ++ words =
      ap (λ n. slice_range all e.start n) end
      ∙ (range_grown e.start (omega (arith, laid.0, at))
      ∙ ap (λ n. slice_range (front ++ back) e.start n ++ words) at) in
      let rest = objects_behind es laid.2 (omega (arith, at)) in
      λ i. record { kind = e.kind; words = here i } ∷ rest i
  objects_extended (e ∷ es) (suc r) laid h at =
      let fewer : r < length es = omega (arith, h) in
      let first = first_start es (length (front ++ back)) in
      let under : first ≤ length front = omega (arith, at, first_le_start es (length (front ++ back)) (suc r) laid.2) in
      let here : slice_range all e.start (first_start (moved_at es r) (length all)) ≡ slice_range (front ++ back) e.start first =
      ap (λ n. slice_range all e.start n) (first_moved es r (length all) (length (front ++ back)) fewer) ∙ range_before e.start first laid.0 under in
      let rest = objects_extended es r laid.2 fewer at in
      (λ i. record { kind = e.kind; words = here i } ∷ rest i)
      ∙ sym (changed_suc (object_of e first (front ++ back)) (objects_of es (front ++ back)) r (with_more words) (slice_get (objects_of es (front ++ back)) r))

  -- ---- they lie as they are to

  laid_later : (es : List Entry) (end : ℕ) → AreLaid es end → AreLaid (map (later (length words)) es) (end + length words)
  laid_later [] end laid = tt
  laid_later (e ∷ es) end laid =
      let at = first_later es end in (
        subst (λ n. e.start + length words ≤ n) (sym at) (omega (arith, laid.0)),
        subst (λ n. n < e.start + length words + 2 ^ 32) (sym at) (omega (arith, laid.1)),
        laid_later es end laid.2,
      )

  laid_extended : (es : List Entry) (r end : ℕ) → AreLaid es end → r < length es
      → start_at es end (suc r) + length words < start_at es end r + 2 ^ 32
      → AreLaid (moved_at es r) (end + length words)
  laid_extended [] r end laid h fits = absurd (omega (arith, h))
  laid_extended (e ∷ es) zero end laid h fits =
      let at = first_later es end in (
        subst (λ n. e.start ≤ n) (sym at) (omega (arith, laid.0)),
        subst (λ n. n < e.start + 2 ^ 32) (sym at) fits,
        laid_later es end laid.2,
      )
  laid_extended (e ∷ es) (suc r) end laid h fits =
      let fewer : r < length es = omega (arith, h) in
      let at = first_moved es r (end + length words) end fewer in (
        subst (λ n. e.start ≤ n) (sym at) laid.0,
        subst (λ n. n < e.start + 2 ^ 32) (sym at) laid.1,
        laid_extended es r end laid.2 fewer fits,
      )

-- ---- a heap

moved_is : (es : List Entry) (r : ℕ) (words : List ℕ) → moved es r (length words) ≡ take (suc r) es ++ map (later (length words)) (drop (suc r) es)
moved_is es r words = ap (λ n. take n es ++ map (later (length words)) (drop n es)) (add-one r)

length_moved : (es : List Entry) (r count : ℕ) → length (moved es r count) ≡ length es
length_moved es r count =
    omega (
      arith,
      length-append (take (r + 1) es) (map (later count) (drop (r + 1) es)),
      length-map (drop (r + 1) es) (later count),
      length-append (take (r + 1) es) (drop (r + 1) es),
      ap length (take-append-drop (r + 1) es),
    )

module _ (es : List Entry) (cells words : List ℕ) (r : ℕ) (laid : AreLaid es (length cells)) (there : r < length es) where
  abbrev place : ℕ
  place = start_at es (length cells) (r + 1)

  whole : take place cells ++ drop place cells ≡ cells
  whole = take-append-drop place cells

  at : length (take place cells) ≡ place
  at = omega (arith, length-take place cells, start_le_end es (length cells) (r + 1) laid)

  pub cells_count : length (inserted cells place words) ≡ length cells + length words
  cells_count = all_count (take place cells) (drop place cells) words ∙ ap (λ (l : List ℕ). length l + length words) whole

  pub extended_is : objects_of (moved es r (length words)) (inserted cells place words) ≡ extended (objects_of es cells) r words
  extended_is =
      ap (λ l. objects_of l (inserted cells place words)) (moved_is es r words)
      ∙ (objects_extended (take place cells) (drop place cells) words es r (subst (λ (l : List ℕ). AreLaid es (length l)) (sym whole) laid) there
      (at ∙ (λ i. start_at es (length (sym whole i)) (add-one r i)))
      ∙ ap (λ l. extended (objects_of es l) r words) whole)

  pub laid_is : length (words_at (objects_of es cells) r) + length words < 2 ^ 32 → AreLaid (moved es r (length words)) (length (inserted cells place words))
  laid_is fits =
      let next : start_at es (length cells) (suc r) ≡ place = λ i. start_at es (length cells) (sym (add-one r) i) in
      subst (λ n. AreLaid (moved es r (length words)) n) (sym cells_count)
      (subst (λ l. AreLaid l (length cells + length words)) (sym (moved_is es r words))
      (laid_extended (take place cells) (drop place cells) words es r (length cells) laid there
      (omega (arith, fits, next, length-words_at es cells r laid))))

module _ (es : List Entry) (cells words : List ℕ) (locks : Locks) (opening counted limit cell_limit r : ℕ) (old : Heap)
    (is : heap_of es cells locks opening counted limit cell_limit ≡ old)
    (sound : IsSound es (length cells) (length locks.monitors) opening counted limit cell_limit)
    (there : r < length old.objects) where
  among : r < length es
  among = omega (arith, subst (λ (h : Heap). r < length h.objects) (sym is) there, length-objects_of es cells)

  pub heap_extended : heap_of (moved es r (length words)) (inserted cells (start_at es (length cells) (r + 1)) words) locks opening (counted + length words) limit cell_limit
      ≡ with_words old r words
  heap_extended =
      ap (λ (os : List Object). record {
        objects = os;
        locks = locks;
        opening = opening;
        counted = counted + length words;
        object_limit = limit;
        cell_limit = cell_limit;
      })
      (extended_is es cells words r sound.laid among)
      ∙ ap (λ (h : Heap). with_words h r words) is

  pub extended_sound : length (words_at old.objects r) + length words < 2 ^ 32 → old.counted + length words ≤ old.cell_limit
      → IsSound (moved es r (length words)) (length (inserted cells (start_at es (length cells) (r + 1)) words)) (length locks.monitors) opening
      (counted + length words) limit cell_limit
  extended_sound fits room =
      let count = length_moved es r (length words) in
      record {
        laid = laid_is es cells words r sound.laid among (subst (λ (h : Heap). length (words_at h.objects r) + length words < 2 ^ 32) (sym is) fits);
        monitored = omega (arith, sound.monitored, count);
        opened = omega (arith, sound.opened, count);
        opening_fits = sound.opening_fits;
        objects_fit = omega (arith, sound.objects_fit, count);
        limit_fits = sound.limit_fits;
        cells_fit = subst (λ (h : Heap). h.counted + length words ≤ h.cell_limit) (sym is) room;
      }
