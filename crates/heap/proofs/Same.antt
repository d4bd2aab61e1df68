-- Objects and monitors that are the same in two heaps, and those that are copied.
use Rattle.std.proofs.Common.{◌≡◌, ℕ, zero, suc, ◌+◌, ◌<◌, ◌≤◌, inl, inr, List, [], ◌∷◌, ◌++◌, length, take, set}
use Rattle.std.proofs.Common.{Option, Some, Result, Ok, Err, refl, sym, ◌∙◌, ap, subst, arith}
use Rattle.std.specs.Prelude.{slice_get, OnOk}
use Rattle.std.proofs.Math.Nat.{eq-or-lt_of_le}
use Rattle.std.proofs.lemmas.List.{take_all, get_or-set_same, set-set, set-get_or, take_more}
use Rattle.std.proofs.Math.Seq.{get_or-append_seam, set-append_seam}
use Rattle.model.specs.State.{Monitor, Waiter}
use Rattle.model.specs.Monitors.{unlocked, monitor_at}
use Rattle.heap.specs.declared.kind.ObjectKind.{ObjectKind}
use Rattle.heap.specs.declared.layout.Entry.{Entry}
use Rattle.heap.specs.Heap.{Object, words_at}
use Rattle.heap.specs.Layout.{objects_of, first_start, object_of}
use Rattle.heap.proofs.monitor.Waiting.{take_found}

-- ---- objects

abbrev of_entry : Entry → List ℕ → Object
of_entry e words = record { kind = e.kind; words = words }

there : (es : List Entry) (cells : List ℕ) (r : ℕ) (e : Entry) → slice_get es r ≡ Some e
    → slice_get (objects_of es cells) r ≡ Some (of_entry e (words_at (objects_of es cells) r))
there [] cells zero e h = absurd (cc)
there [] cells (suc r) e h = absurd (cc)
there (x ∷ es) cells zero e h =
    let is : x ≡ e = cc in
    ap (λ (y : Entry). Some (of_entry y (object_of x (first_start es (length cells)) cells).words)) is
there (x ∷ es) cells (suc r) e h = there es cells r e h

abbrev of_kind : List ℕ → ObjectKind → Object
of_kind words kind = record { kind = kind; words = words }

pub same_object : (es : List Entry) (cells : List ℕ) (fs : List Entry) (others : List ℕ) (r : ℕ) (e f : Entry)
    → slice_get es r ≡ Some e → slice_get fs r ≡ Some f → e.kind ≡ f.kind
    → words_at (objects_of es cells) r ≡ words_at (objects_of fs others) r
    → slice_get (objects_of es cells) r ≡ slice_get (objects_of fs others) r
same_object es cells fs others r e f h g kinds words =
    there es cells r e h
    ∙ ap (λ (k : ObjectKind). Some (of_kind (words_at (objects_of es cells) r) k)) kinds
    ∙ ap (λ (ws : List ℕ). Some (of_kind ws f.kind)) words
    ∙ sym (there fs others r f g)

low_of : (n at : ℕ) → n < at + 1 → n ≤ at
low_of n at h = omega (arith, h)

-- what holds of each up to here, and here
pub one_more : (P : ℕ → Type 0) (from at : ℕ) → ((n : ℕ) → from ≤ n → n < at → P n) → P at → (n : ℕ) → from ≤ n
    → n < at + 1 → P n
one_more P from at each here n low high =
    elim (eq-or-lt_of_le (low_of n at high)) [
      | inl e ↦ subst P (sym e) here
      | inr lt ↦ each n low lt
    ]

-- ---- records

pub on_ok : {T E : Type 0} (r : Result T E) (P Q : Type 0) → (P → Q) → OnOk r P → OnOk r Q
on_ok (Ok x) P Q step h = step h
on_ok (Err e) P Q step h = tt

pub whole : (m : Monitor) → record { owner = m.owner; count = m.count; waiters = m.waiters } ≡ m
whole m = refl

pub none_joined : (old : List Monitor) (at : ℕ) (ws : List Waiter) → at < length old → (monitor_at old at).waiters ≡ []
    → old ≡ set old at (record (monitor_at old at) { waiters = take 0 ws })
none_joined old at ws h e =
    sym (ap (λ (xs : List Waiter). set old at (record (monitor_at old at) { waiters = xs })) (sym e)
    ∙ set-get_or old at unlocked)

pub one_joined : (old now new : List Monitor) (at pick : ℕ) (ws : List Waiter) (w : Waiter) → at < length old
    → pick < length ws
    → slice_get ws pick ≡ Some w
    → now ≡ set old at (record (monitor_at old at) { waiters = take pick ws })
    → new ≡ set now at (record (monitor_at now at) { waiters = (monitor_at now at).waiters ++ w ∷ [] })
    → new ≡ set old at (record (monitor_at old at) { waiters = take (pick + 1) ws })
one_joined old now new at pick ws w h g e is step =
    let before : Monitor = record (monitor_at old at) { waiters = take pick ws } in
    let read : monitor_at now at ≡ before = ap (λ (ms : List Monitor). monitor_at ms at) is
    ∙ get_or-set_same old at before unlocked h in
    step
    ∙ ap (λ (m : Monitor). set now at (record m { waiters = m.waiters ++ w ∷ [] })) read
    ∙ ap (λ (ms : List Monitor). set ms at (record before { waiters = take pick ws ++ w ∷ [] })) is
    ∙ set-set old at before (record before { waiters = take pick ws ++ w ∷ [] })
    ∙ ap (λ (xs : List Waiter). set old at (record (monitor_at old at) { waiters = xs }))
    (sym (take_found ws pick w g e))

pub all_joined : (old now : List Monitor) (at pick : ℕ) (ws : List Waiter) → length ws ≤ pick
    → now ≡ set old at (record (monitor_at old at) { waiters = take pick ws })
    → now ≡ set old at (record (monitor_at old at) { waiters = ws })
all_joined old now at pick ws h is = is ∙ ap (λ (xs : List Waiter). set old at
    (record (monitor_at old at) { waiters = xs })) (take_all pick ws h)

-- one more, like that of another list
pub one_like : (old mid new : List Monitor) (at : ℕ) (m : Monitor) → at ≡ length old
    → mid ≡ old ++ record { owner = m.owner; count = m.count; waiters = [] } ∷ []
    → new ≡ set mid at (record (monitor_at mid at) { waiters = m.waiters })
    → new ≡ old ++ m ∷ []
one_like old mid new at m is added joined =
    let empty : Monitor = record { owner = m.owner; count = m.count; waiters = [] } in
    let read : monitor_at mid at ≡ empty = ap (λ (ms : List Monitor). monitor_at ms at) added
    ∙ ap (λ (i : ℕ). monitor_at (old ++ empty ∷ []) i) is ∙ get_or-append_seam old empty [] unlocked in
    joined
    ∙ ap (λ (x : Monitor). set mid at (record x { waiters = m.waiters })) read
    ∙ ap (λ (ms : List Monitor). set ms at m) added
    ∙ ap (λ (i : ℕ). set (old ++ empty ∷ []) i m) is
    ∙ set-append_seam old empty [] m

pub last_empty : (old mid : List Monitor) (at : ℕ) (owner : Option ℕ) (count : ℕ) → at ≡ length old
    → mid ≡ old ++ record { owner = owner; count = count; waiters = [] } ∷ [] → (monitor_at mid at).waiters ≡ []
last_empty old mid at owner count is added =
    let empty : Monitor = record { owner = owner; count = count; waiters = [] } in
    let read : monitor_at mid at ≡ empty = ap (λ (ms : List Monitor). monitor_at ms at) added
    ∙ ap (λ (i : ℕ). monitor_at (old ++ empty ∷ []) i) is ∙ get_or-append_seam old empty [] unlocked in
    ap (λ (x : Monitor). x.waiters) read

pub one_copied : (other old new : List Monitor) (index : ℕ) → index < length other → old ≡ take index other
    → new ≡ old ++ monitor_at other index ∷ [] → new ≡ take (index + 1) other
one_copied other old new index h is added =
    added ∙ ap (λ (ms : List Monitor). ms ++ monitor_at other index ∷ []) is ∙ sym (take_more other index unlocked h)
