-- Threads that wait before an event and not after it, in the order of their numbers.
use Rattle.std.proofs.Common.{◌≡◌, refl, sym, ◌∙◌, ap, subst, ℕ, zero, suc, ◌+◌, ◌<◌, ◌≤◌, List, [], ◌∷◌, ◌++◌, length, map, take, arith, append_assoc, ◌-◌}
use Rattle.std.specs.Prelude.{Option, Some, None, Bool, true, false, not, ◌&&◌, ◌||◌, ◌==◌, slice_get, slice_index_or}
use Rattle.std.specs.List.{filter, list_any, list_all}
use Rattle.std.specs.Option.{option_map_or}
use Rattle.std.proofs.Math.Arith.{lt_of_le-ne}
use Rattle.std.proofs.lemmas.Bool.{and_parts, eq-eqb, ne_eqb, eqb-true}
use Rattle.model.specs.Rows.{counting}
use Rattle.model.specs.State.{Waiter, Monitor, Thread, ThreadStatus, Running, Waiting, Relock, Ended, World}
use Rattle.model.specs.Monitors.{monitor_at}
use Rattle.model.specs.Worlds.{no_thread, thread_at, has_ended, waiters_of}
use Rattle.model.specs.WellTyped.{is_waiting_for, is_waiter, are_distinct, are_wait_sets}
use Rattle.race_places.specs.declared.run_actions.Action.{Action}
use Rattle.race_places.specs.declared.run_actions.Action.TheVariants as action
use Rattle.race_places.specs.named_actions.Names.{Names, named_action}
use Rattle.data_races.specs.Actions as named
use Rattle.data_races.specs.EventActions.{only_if, is_over, is_waiting, waiting, besides}
use Rattle.event_laws.specs.event_changes.Changes.{is_in_set}
use Rattle.state_actions.specs.wait_ends.Ends.{threads_of, is_listed, listed_below, EndsWaits, TellsEnd}

-- ---- numbers in turn

one_more : (k n : ℕ) → counting k (suc n) ≡ counting k n ++ (k + n) ∷ []
one_more k zero = let e : k ≡ k + zero = omega arith in ap (λ (m : ℕ). m ∷ []) e
one_more k (suc n) =
    let e : suc k + n ≡ k + suc n = omega arith in
    ap (λ l. k ∷ l) (one_more (suc k) n ∙ ap (λ (m : ℕ). counting (suc k) n ++ m ∷ []) e)

counted : (n : ℕ) → counting 0 (n + 1) ≡ counting 0 n ++ n ∷ []
counted n =
    let e : n + 1 ≡ suc n = omega arith in
    let z : 0 + n ≡ n = omega arith in
    ap (counting 0) e ∙ one_more 0 n ∙ ap (λ (m : ℕ). counting 0 n ++ m ∷ []) z

-- ---- what a filter leaves of them

filter_first : (p : ℕ → Bool) (k : ℕ) (xs : List ℕ) → filter p (k ∷ xs) ≡ only_if (p k) (k ∷ []) ++ filter p xs
filter_first p k xs = by (p k) refl
  where
    by : (b : Bool) → p k ≡ b → filter p (k ∷ xs) ≡ only_if b (k ∷ []) ++ filter p xs
    by true e = rw e
    by false e = rw e

none_of : (r : ℕ → Bool) (k n : ℕ) → ((u : ℕ) → k ≤ u → r u ≡ false) → filter r (counting k n) ≡ []
none_of r k zero h = refl
none_of r k (suc n) h =
    filter_first r k (counting (suc k) n) ∙ ap (λ b. only_if b (k ∷ []) ++ filter r (counting (suc k) n)) (h k (omega arith))
    ∙ none_of r (suc k) n (λ u le. h u (omega arith))

one_by_two : (p q : ℕ → Bool) (r : Bool) (k : ℕ) (rest done : List ℕ) (b c : Bool) → p k ≡ b → q k ≡ c → (b && c) ≡ r → filter q (filter p rest) ≡ done
    → filter q (only_if b (k ∷ []) ++ filter p rest) ≡ only_if r (k ∷ []) ++ done
one_by_two p q r k rest done true true e f g h =
    subst (λ b. filter q (k ∷ filter p rest) ≡ only_if b (k ∷ []) ++ done) g (rw (f, h))
one_by_two p q r k rest done true false e f g h =
    subst (λ b. filter q (k ∷ filter p rest) ≡ only_if b (k ∷ []) ++ done) g (rw (f, h))
one_by_two p q r k rest done false c e f g h = subst (λ b. filter q (filter p rest) ≡ only_if b (k ∷ []) ++ done) g h

-- two tests one after the other, and one test of all numbers and of some more
pub both_tests : (p q r : ℕ → Bool) (k n more : ℕ) → ((u : ℕ) → k ≤ u → u < k + n → (p u && q u) ≡ r u) → ((u : ℕ) → k + n ≤ u → r u ≡ false)
    → filter q (filter p (counting k n)) ≡ filter r (counting k (n + more))
both_tests p q r k zero more h g = sym (none_of r k (0 + more) (λ u le. g u (omega arith)))
both_tests p q r k (suc n) more h g =
    let e : suc n + more ≡ suc (n + more) = omega arith in
    ap (filter q) (filter_first p k (counting (suc k) n))
    ∙ one_by_two p q (r k) k (counting (suc k) n) (filter r (counting (suc k) (n + more))) (p k) (q k) refl refl (h k (omega arith) (omega arith))
    (both_tests p q r (suc k) n more (λ u le lt. h u (omega arith) (omega arith)) (λ u le. g u (omega arith)))
    ∙ sym (filter_first r k (counting (suc k) (n + more)))
    ∙ ap (λ m. filter r (counting k m)) (sym e)

any_below : (p : ℕ → Bool) (k n u : ℕ) → u < k → list_any (λ other. other == u) (filter p (counting k n)) ≡ false
any_below p k zero u lt = refl
any_below p k (suc n) u lt =
    let apart : k ≡ u → ⊥ = λ e. omega arith in
    ap (list_any (λ other. other == u)) (filter_first p k (counting (suc k) n)) ∙ by (p k) (ne_eqb k u apart) (any_below p (suc k) n u (omega arith))
  where
    by : (b : Bool) → (k == u) ≡ false → list_any (λ other. other == u) (filter p (counting (suc k) n)) ≡ false
        → list_any (λ other. other == u) (only_if b (k ∷ []) ++ filter p (counting (suc k) n)) ≡ false
    by true e h = rw (e, h)
    by false e h = h

-- a number is among those that pass where it passes
pub any_passing : (p : ℕ → Bool) (k n u : ℕ) → k ≤ u → u < k + n → list_any (λ other. other == u) (filter p (counting k n)) ≡ p u
any_passing p k zero u le lt = absurd (omega arith)
any_passing p k (suc n) u le lt =
    ap (list_any (λ other. other == u)) (filter_first p k (counting (suc k) n)) ∙ by (λ above. any_passing p (suc k) n u above (omega arith)) (k == u) refl
  where
    first : (b : Bool) → p k ≡ b → k ≡ u → list_any (λ other. other == u) (only_if b (k ∷ []) ++ filter p (counting (suc k) n)) ≡ p u
    first true e same = let h : (k == u) ≡ true = eq-eqb k u same in rw h (sym (sym (ap p same) ∙ e))
    first false e same = any_below p (suc k) n u (omega arith) ∙ sym (sym (ap p same) ∙ e)

    other : (suc k ≤ u → list_any (λ o. o == u) (filter p (counting (suc k) n)) ≡ p u) → (b : Bool) → (k == u) ≡ false → (k ≡ u → ⊥) → list_any (λ o. o == u) (only_if b (k ∷ []) ++ filter p (counting (suc k) n)) ≡ p u
    other rec true e ne = let l = lt_of_le-ne le ne in rw e (rec (omega arith))
    other rec false e ne = let l = lt_of_le-ne le ne in rec (omega arith)

    by : (suc k ≤ u → list_any (λ o. o == u) (filter p (counting (suc k) n)) ≡ p u) → (b : Bool) → (k == u) ≡ b → list_any (λ o. o == u) (only_if (p k) (k ∷ []) ++ filter p (counting (suc k) n)) ≡ p u
    by rec true e = first (p k) refl (eqb-true k u e)
    by rec false e = other rec (p k) e (λ same. let h : (k == u) ≡ true = eq-eqb k u same in let g : true ≡ false = sym h ∙ e in cc)

-- ---- wait sets

waits_of : (object : ℕ) (status : ThreadStatus) → is_waiting_for object status ≡ true → is_waiting status ≡ true
waits_of object Running e = absurd cc
waits_of object (Waiting other count) e = refl
waits_of object (Relock other count cause) e = absurd cc
waits_of object (Ended exception) e = absurd cc

waiter_waits : (threads : List Thread) (object : ℕ) (w : Waiter) (o : Option Thread) → slice_get threads w.thread ≡ o
    → option_map_or (λ (thread : Thread). is_waiting_for object thread.status) o false ≡ true → is_waiting (slice_index_or threads w.thread no_thread).status ≡ true
waiter_waits threads object w None e h = absurd cc
waiter_waits threads object w (Some thread) e h =
    ap (λ (x : Thread). is_waiting x.status) (at_index threads w.thread thread e) ∙ waits_of object thread.status h
  where
    at_index : (xs : List Thread) (k : ℕ) (x : Thread) → slice_get xs k ≡ Some x → slice_index_or xs k no_thread ≡ x
    at_index [] k x e = absurd cc
    at_index (y ∷ ys) zero x e = let same : y ≡ x = cc in same
    at_index (y ∷ ys) (suc k) x e = at_index ys k x e

members_wait : (threads : List Thread) (object u : ℕ) (ws : List Waiter) → list_all (is_waiter threads object) ws ≡ true → is_in_set u ws ≡ true
    → is_waiting (slice_index_or threads u no_thread).status ≡ true
members_wait threads object u [] a e = absurd cc
members_wait threads object u (w ∷ ws) a e =
    by (members_wait threads object u ws (and_parts (is_waiter threads object w) _ a).1) (w.thread == u) refl e
  where
    by : (is_in_set u ws ≡ true → is_waiting (slice_index_or threads u no_thread).status ≡ true) → (b : Bool) → (w.thread == u) ≡ b → (b || is_in_set u ws) ≡ true → is_waiting (slice_index_or threads u no_thread).status ≡ true
    by rec true same h =
        let is : w.thread ≡ u = eqb-true w.thread u same in
        subst (λ (n : ℕ). is_waiting (slice_index_or threads n no_thread).status ≡ true) is
        (waiter_waits threads object w (slice_get threads w.thread) refl (and_parts (is_waiter threads object w) _ a).0)
    by rec false same h = rec h

sets_wait : (threads : List Thread) (k : ℕ) (ms : List Monitor) (object u : ℕ) → are_wait_sets threads k ms ≡ true → is_in_set u (monitor_at ms object).waiters ≡ true
    → is_waiting (slice_index_or threads u no_thread).status ≡ true
sets_wait threads k [] object u a e = absurd cc
sets_wait threads k (m ∷ ms) zero u a e =
    let here = (and_parts (list_all (is_waiter threads k) m.waiters && are_distinct m.waiters) _ a).0 in
    members_wait threads k u m.waiters (and_parts (list_all (is_waiter threads k) m.waiters) _ here).0 e
sets_wait threads k (m ∷ ms) (suc object) u a e =
    sets_wait threads (suc k) ms object u (and_parts (list_all (is_waiter threads k) m.waiters && are_distinct m.waiters) _ a).1 e

listed_in_set : (u : ℕ) (ws : List Waiter) → is_listed (threads_of ws) u ≡ is_in_set u ws
listed_in_set u [] = refl
listed_in_set u (w ∷ ws) = ap (λ b. (w.thread == u) || b) (listed_in_set u ws)

-- ---- who waits no more

still : (a b : Bool) → (b ≡ true → a ≡ true) → (a && not (a && not b)) ≡ b
still true true h = refl
still true false h = refl
still false true h = absurd (let g : false ≡ true = h refl in cc)
still false false h = refl

unlisted : (a b : Bool) → a ≡ false → (b ≡ true → a ≡ true) → b ≡ false
unlisted a true e h = absurd (let g : true ≡ false = sym (h refl) ∙ e in cc)
unlisted a false e h = refl

past : (threads : List Thread) (u : ℕ) → length threads ≤ u → is_waiting (slice_index_or threads u no_thread).status ≡ false
past [] u h = refl
past (x ∷ xs) zero h = absurd (omega arith)
past (x ∷ xs) (suc u) h = past xs u (omega arith)

module _ (t : ℕ) (waiting_on : List ℕ) (old new : World) (ended : is_over new t ≡ true) (h : EndsWaits t waiting_on old new) where
  abbrev members : List Waiter
  members = waiters_of old (thread_at old t).object

  list_is : (u : ℕ) → is_listed waiting_on u ≡ is_in_set u members
  list_is u = ap (λ (l : List ℕ). is_listed l u) h.listed ∙ listed_in_set u members

  listed_wait : (u : ℕ) → is_listed waiting_on u ≡ true → is_waiting (thread_at old u).status ≡ true
  listed_wait u e = sets_wait old.threads 0 old.monitors (thread_at old t).object u h.wait_sets (sym (list_is u) ∙ e)

  waits_now : (u : ℕ) → is_waiting (thread_at new u).status ≡ (is_waiting (thread_at old u).status && not (is_listed waiting_on u))
  waits_now u = h.wakes ended u ∙ ap (λ b. is_waiting (thread_at old u).status && not b) (sym (list_is u))

  pub woken_are : besides (waiting old) (waiting new) ≡ listed_below waiting_on (length new.threads)
  woken_are =
      let n = length old.threads in
      let m = length new.threads in
      let k = h.kept in
      let sum : n + (m - n) ≡ m = omega arith in
      both_tests (λ u. is_waiting (thread_at old u).status) (λ u. not (list_any (λ other. other == u) (waiting new))) (is_listed waiting_on) 0 n (m - n)
      (λ u le lt.
      ap (λ b. is_waiting (thread_at old u).status && not b)
      (any_passing (λ v. is_waiting (thread_at new v).status) 0 m u le (omega arith) ∙ waits_now u)
      ∙ still (is_waiting (thread_at old u).status) (is_listed waiting_on u) (listed_wait u))
      (λ u le. unlisted (is_waiting (thread_at old u).status) (is_listed waiting_on u) (past old.threads u (omega arith)) (listed_wait u))
      ∙ ap (λ c. filter (is_listed waiting_on) (counting 0 c)) sum

-- ---- what is told

map_map : (names : Names) (us : List ℕ) → map (named_action names) (map (λ u. action.Wake u) us) ≡ map (λ u. named.Wake u) us
map_map names [] = refl
map_map names (u ∷ us) = ap (λ l. named.Wake u ∷ l) (map_map names us)

map_append : {A B : Type 0} (f : A → B) (xs ys : List A) → map f (xs ++ ys) ≡ map f xs ++ map f ys
map_append f [] ys = refl
map_append f (x ∷ xs) ys = rw (map_append f xs ys)

append_nothing : {A : Type 0} (xs : List A) → xs ≡ xs ++ []
append_nothing [] = refl
append_nothing (x ∷ xs) = ap (λ l. x ∷ l) (append_nothing xs)

over : (new : World) (threads : List Thread) (t : ℕ) (b : Bool) → threads ≡ new.threads → b ≡ has_ended (slice_index_or threads t no_thread).status → is_over new t ≡ b
over new threads t b same e = ap (λ (ts : List Thread). has_ended (slice_index_or ts t no_thread).status) (sym same) ∙ sym e

pub nothing_ends : (t : ℕ) (waiting_on : List ℕ) (threads : List Thread) (before : List Action) (ended : Bool)
    → ended ≡ has_ended (slice_index_or threads t no_thread).status → ended ≡ false → TellsEnd t waiting_on threads before before
nothing_ends t waiting_on threads before ended is not_so =
    record {
      told = [];
      behind = append_nothing before;
      are = λ names old new same h. ap (λ b. only_if b (map (λ u. named.Wake u) (besides (waiting old) (waiting new)) ++ named.Finish t ∷ [])) (sym (over new threads t ended same is ∙ not_so));
    }

pub end_told : (t : ℕ) (waiting_on : List ℕ) (threads : List Thread) (before mid after : List Action) (ended : Bool)
    → ended ≡ has_ended (slice_index_or threads t no_thread).status → ended ≡ true
    → mid ≡ before ++ map (λ u. action.Wake u) (listed_below waiting_on (length threads)) → after ≡ mid ++ action.Finish t ∷ []
    → TellsEnd t waiting_on threads before after
end_told t waiting_on threads before mid after ended is is_so m a =
    let wakes = map (λ u. action.Wake u) (listed_below waiting_on (length threads)) in
    record {
      told = wakes ++ action.Finish t ∷ [];
      behind = a ∙ ap (λ (l : List Action). l ++ action.Finish t ∷ []) m ∙ append_assoc before wakes (action.Finish t ∷ []);
      are = λ names old new same h.
          let so : is_over new t ≡ true = over new threads t ended same is ∙ is_so in
          map_append (named_action names) wakes (action.Finish t ∷ [])
          ∙ ap (λ l. l ++ named.Finish t ∷ [])
          (map_map names (listed_below waiting_on (length threads))
          ∙ ap (λ (l : List ℕ). map (λ u. named.Wake u) l) (ap (λ (ts : List Thread). listed_below waiting_on (length ts)) same ∙ sym (woken_are t waiting_on old new so h)))
          ∙ ap (λ b. only_if b (map (λ u. named.Wake u) (besides (waiting old) (waiting new)) ++ named.Finish t ∷ [])) (sym so);
    }

-- ---- the loops

taken_more : {A : Type 0} (xs : List A) (k : ℕ) (x : A) → slice_get xs k ≡ Some x → take (k + 1) xs ≡ take k xs ++ x ∷ []
taken_more [] k x e = absurd cc
taken_more (y ∷ ys) zero x e = let same : y ≡ x = cc in ap (λ z. z ∷ []) same
taken_more (y ∷ ys) (suc k) x e = let s : suc k + 1 ≡ suc (k + 1) = omega arith in ap (λ n. take n (y ∷ ys)) s ∙ ap (λ l. y ∷ l) (taken_more ys k x e)

pub waiter_added : (ws : List Waiter) (k : ℕ) (w : Waiter) (before after : List ℕ) (pushed : ℕ) → slice_get ws k ≡ Some w → before ≡ threads_of (take k ws)
    → after ≡ before ++ pushed ∷ [] → pushed ≡ w.thread → after ≡ threads_of (take (k + 1) ws)
waiter_added ws k w before after pushed at b a p =
    a ∙ ap (λ (l : List ℕ). l ++ pushed ∷ []) b ∙ ap (λ (n : ℕ). threads_of (take k ws) ++ n ∷ []) p
    ∙ sym (ap threads_of (taken_more ws k w at) ∙ map_append (λ (x : Waiter). x.thread) (take k ws) (w ∷ []))

filter_append : (p : ℕ → Bool) (xs ys : List ℕ) → filter p (xs ++ ys) ≡ filter p xs ++ filter p ys
filter_append p [] ys = refl
filter_append p (x ∷ xs) ys = filter_first p x (xs ++ ys) ∙ ap (λ l. only_if (p x) (x ∷ []) ++ l) (filter_append p xs ys)
    ∙ sym (append_assoc (only_if (p x) (x ∷ [])) (filter p xs) (filter p ys)) ∙ ap (λ l. l ++ filter p ys) (sym (filter_first p x xs))

mapped_if : (b : Bool) (u : ℕ) → only_if b (action.Wake u ∷ []) ≡ map (λ v. action.Wake v) (only_if b (u ∷ []))
mapped_if true u = refl
mapped_if false u = refl

one_at : (p : ℕ → Bool) (u : ℕ) → filter p (u ∷ []) ≡ only_if (p u) (u ∷ [])
one_at p u = filter_first p u [] ∙ sym (append_nothing (only_if (p u) (u ∷ [])))

pub wake_added : (threads : List ℕ) (k : ℕ) (start before after : List Action) → before ≡ start ++ map (λ u. action.Wake u) (listed_below threads k)
    → after ≡ before ++ only_if (is_listed threads k) (action.Wake k ∷ []) → after ≡ start ++ map (λ u. action.Wake u) (listed_below threads (k + 1))
wake_added threads k start before after b a =
    let more = only_if (is_listed threads k) (k ∷ []) in
    a ∙ ap (λ l. l ++ only_if (is_listed threads k) (action.Wake k ∷ [])) b ∙ append_assoc start (map (λ u. action.Wake u) (listed_below threads k)) (only_if (is_listed threads k) (action.Wake k ∷ []))
    ∙ ap (λ l. start ++ l)
    (ap (λ l. map (λ u. action.Wake u) (listed_below threads k) ++ l) (mapped_if (is_listed threads k) k)
    ∙ sym (map_append (λ u. action.Wake u) (listed_below threads k) more)
    ∙ ap (map (λ u. action.Wake u)) (sym (ap (filter (is_listed threads)) (counted k) ∙ filter_append (is_listed threads) (counting 0 k) (k ∷ []) ∙ ap (λ l. listed_below threads k ++ l) (one_at (is_listed threads) k))))
