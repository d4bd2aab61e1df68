-- Searching and emptying a wait set.
use Rattle.std.proofs.Common.{◌≡◌, ℕ, suc, ◌+◌, ◌-◌, ◌<◌, ◌≤◌, List, [], ◌∷◌, ◌++◌, length, take, drop, set, Some, None}
use Rattle.std.proofs.Common.{true, false, refl, sym, ◌∙◌, ap, arith, append_assoc, append-nil, add-one}
use Rattle.std.specs.Prelude.{◌==◌, slice_get}
use Rattle.std.specs.List.{remove}
use Rattle.std.proofs.lemmas.Bool.Decides.{nat_tests}
use Rattle.std.proofs.lemmas.Option.{get_or_from_slice_get}
use Rattle.std.proofs.lemmas.List.{drop_more, take_more, take_all, drop_all, take-take, length-take, get_or-set_same}
use Rattle.std.proofs.lemmas.List.{set-set, set-get_or}
use Rattle.model.specs.State.{Monitor, Waiter}
use Rattle.model.specs.Monitors.{without, owns, unlocked, monitor_at, monitor_wait, monitor_notify}

-- so many members in front are others
abbrev pub IsPassed : ℕ → List Waiter → ℕ → Type 0
IsPassed thread waiters at = without thread waiters ≡ take at waiters ++ without thread (drop at waiters)

pub drop_found : (ws : List Waiter) (at : ℕ) (w : Waiter) → at < length ws → slice_get ws at ≡ Some w
    → drop at ws ≡ w ∷ drop (at + 1) ws
drop_found ws at w h e = drop_more ws at w h ∙ ap (λ (x : Waiter). x ∷ drop (at + 1) ws)
    (get_or_from_slice_get ws at w w e)

pub take_found : (ws : List Waiter) (at : ℕ) (w : Waiter) → at < length ws → slice_get ws at ≡ Some w
    → take (at + 1) ws ≡ take at ws ++ w ∷ []
take_found ws at w h e = take_more ws at w h ∙ ap (λ (x : Waiter). take at ws ++ x ∷ [])
    (get_or_from_slice_get ws at w w e)

pub push_found : (ws xs ys : List Waiter) (at : ℕ) (w : Waiter) → at < length ws → slice_get ws at ≡ Some w
    → xs ≡ take at ws
    → ys ≡ xs ++ w ∷ [] → ys ≡ take (at + 1) ws
push_found ws xs ys at w h e same more = more ∙ ap (λ (zs : List Waiter). zs ++ w ∷ []) same
    ∙ sym (take_found ws at w h e)

pub passes : (thread : ℕ) (ws : List Waiter) (at : ℕ) (w : Waiter) → at < length ws → slice_get ws at ≡ Some w
    → (w.thread == thread) ≡ false → IsPassed thread ws at → IsPassed thread ws (at + 1)
passes thread ws at w h e other p =
    let rest : without thread (drop at ws) ≡ w ∷ without thread (drop (at + 1) ws) =
    ap (without thread) (drop_found ws at w h e) ∙ rw other refl in
    p ∙ ap (λ (x : List Waiter). take at ws ++ x) rest ∙ sym
    (append_assoc (take at ws) (w ∷ []) (without thread (drop (at + 1) ws)))
    ∙ ap (λ (x : List Waiter). x ++ without thread (drop (at + 1) ws)) (sym (take_found ws at w h e))

pub found : (thread : ℕ) (ws : List Waiter) (at : ℕ) (w : Waiter) → at < length ws → slice_get ws at ≡ Some w
    → (w.thread == thread) ≡ true
    → IsPassed thread ws at → remove ws at ≡ without thread ws
found thread ws at w h e same p =
    let rest : without thread (drop at ws) ≡ drop (at + 1) ws = ap (without thread) (drop_found ws at w h e)
    ∙ rw same refl in
    sym (p ∙ ap (λ (x : List Waiter). take at ws ++ x) rest ∙ ap (λ (k : ℕ). take at ws ++ drop k ws) (add-one at))

pub remove_past : (ws : List Waiter) (p : ℕ) → length ws ≤ p → remove ws p ≡ ws
remove_past ws p h = rw (take_all p ws h, drop_all (suc p) ws (omega arith)) (append-nil ws)

pub remove_last : (ws : List Waiter) (count : ℕ) → 0 < count → remove (take count ws) (count - 1) ≡ take (count - 1) ws
remove_last ws count h =
    let long : length (take count ws) ≤ suc (count - 1) = omega (arith, length-take count ws) in
    rw (take-take (count - 1) count ws (omega arith), drop_all (suc (count - 1)) (take count ws) long)
    (append-nil (take (count - 1) ws))

-- one more of the last members has left
pub one_left : (v r r' : List Monitor) (i count : ℕ) → i < length v → 0 < count
    → r ≡ set v i (record (monitor_at v i) { waiters = take count (monitor_at v i).waiters })
    → r' ≡ set r i (record (monitor_at r i) { waiters = remove (monitor_at r i).waiters (count - 1) })
    → r' ≡ set v i (record (monitor_at v i) { waiters = take (count - 1) (monitor_at v i).waiters })
one_left v r r' i count h some e f =
    let here : monitor_at r i ≡ record (monitor_at v i) { waiters = take count (monitor_at v i).waiters } =
    ap (λ (ms : List Monitor). monitor_at ms i) e ∙ get_or-set_same v i
    (record (monitor_at v i) { waiters = take count (monitor_at v i).waiters }) unlocked h in
    rw (f, here, e, remove_last (monitor_at v i).waiters count some) (set-set v i _ _)

pub wait_after : (v r r' : List Monitor) (i thread count : ℕ) → i < length v → owns thread (monitor_at v i).owner ≡ true
    → count ≡ (monitor_at v i).count
    → r ≡ set v i (record (monitor_at v i) {
      waiters = (monitor_at v i).waiters
          ++ record { thread = thread; count = count } ∷ [];
    })
    → r' ≡ set r i (record (monitor_at r i) { owner = None; count = 0 })
    → r' ≡ set v i (monitor_wait thread (monitor_at v i)).after
wait_after v r r' i thread count h owner was e f =
    let here : monitor_at r i ≡ record (monitor_at v i) {
      waiters = (monitor_at v i).waiters
          ++ record { thread = thread; count = count } ∷ [];
    } =
    ap (λ (ms : List Monitor). monitor_at ms i) e ∙ get_or-set_same v i _ unlocked h in
    rw (f, here, e, owner, was) (set-set v i _ _)

pub notify_past : (v : List Monitor) (i thread pick : ℕ) → owns thread (monitor_at v i).owner ≡ true
    → length (monitor_at v i).waiters ≤ pick
    → v ≡ set v i (monitor_notify thread pick (monitor_at v i)).after
notify_past v i thread pick owner past = rw (owner, remove_past (monitor_at v i).waiters pick past)
    (sym (set-get_or v i unlocked))

pub tests_false : (a b : ℕ) → (a ≡ b → ⊥) → (a == b) ≡ false
tests_false a b ne = grind (arith, nat_tests)
