-- What calls of monitors, and changes of the world, keep of counts.
use Rattle.std.proofs.Common.{◌≡◌, ℕ, zero, suc, ◌+◌, ◌-◌, ◌<◌, List, [], ◌∷◌, ◌++◌, Bool, true, false, ◌==◌, Option, Some, None, refl, sym, subst, arith}
use Rattle.std.specs.Prelude.{slice_get, slice_set, slice_index_or}
use Rattle.std.specs.List.{remove}
use Rattle.std.proofs.lemmas.Bool.{false≢true, cond_both, eq-eqb, or_left, or_right}
use Rattle.model.specs.State.{Monitor, Waiter, ThreadStatus, Running, Waiting, Relock, Ended, Thread, new_thread}
use Rattle.model.specs.Outcomes.{Cost, Free, Makes, Fills, Starts, Enters, Joins}
use Rattle.model.specs.Monitors.{Answered, answers_done, unlocked, owned, released, owns, as_owner, as_entrant, monitor_enter, monitor_exit, monitor_wait, monitor_notify, monitor_interrupt, monitor_relock, without, relock_from, monitor_at, at_object}
use Rattle.model.specs.Worlds.{no_thread}
use Rattle.run_laws.specs.monitor_counts.Counts.{is_fat_after, Returns, IsStatusCounted, IsOwnerCounted, IsMonitorCounted, AreCounted}

-- ---- lists

-- what holds at each place
at_set : {A : Type 0} (P : ℕ → A → Type 0) (xs : List A) (d : A) (j : ℕ) (x : A) → ((k : ℕ) → P k (slice_index_or xs k d)) → P j x
    → (k : ℕ) → P k (slice_index_or (slice_set xs j x) k d)
at_set P [] d j x h p k = h k
at_set P (y ∷ ys) d zero x h p zero = p
at_set P (y ∷ ys) d zero x h p (suc k) = h (suc k)
at_set P (y ∷ ys) d (suc j) x h p zero = h zero
at_set P (y ∷ ys) d (suc j) x h p (suc k) = at_set (λ n. P (suc n)) ys d j x (λ n. h (suc n)) p k

at_push : {A : Type 0} (P : ℕ → A → Type 0) (xs : List A) (d x : A) → ((k : ℕ) → P k (slice_index_or xs k d)) → ((k : ℕ) → P k x) → (k : ℕ)
    → P k (slice_index_or (xs ++ x ∷ []) k d)
at_push P [] d x h p zero = p zero
at_push P [] d x h p (suc k) = h (suc k)
at_push P (y ∷ ys) d x h p zero = h zero
at_push P (y ∷ ys) d x h p (suc k) = at_push (λ n. P (suc n)) ys d x (λ n. h (suc n)) (λ n. p (suc n)) k

-- what holds of each that is there
abbrev pub Each : {A : Type 0} → (A → Type 0) → List A → Type 0
Each {A} P xs = (k : ℕ) (x : A) → slice_get xs k ≡ Some x → P x

each_append : {A : Type 0} (P : A → Type 0) (xs : List A) (x : A) → Each P xs → P x → Each P (xs ++ x ∷ [])
each_append P [] x h p zero y e = let same : x ≡ y = cc in subst P same p
each_append P [] x h p (suc k) y e = absurd cc
each_append P (z ∷ zs) x h p zero y e = h zero y e
each_append P (z ∷ zs) x h p (suc k) y e = each_append P zs x (λ j. h (suc j)) p k y e

each_remove : {A : Type 0} (P : A → Type 0) (xs : List A) (pick : ℕ) → Each P xs → Each P (remove xs pick)
each_remove P [] zero h k y e = absurd cc
each_remove P [] (suc pick) h k y e = absurd cc
each_remove P (x ∷ xs) zero h k y e = h (suc k) y e
each_remove P (x ∷ xs) (suc pick) h zero y e = h zero y e
each_remove P (x ∷ xs) (suc pick) h (suc k) y e = each_remove P xs pick (λ j. h (suc j)) k y e

each_later : {A : Type 0} (P : A → Type 0) (x : A) (xs ys : List A) → Each P (x ∷ xs) → Each P ys → Each P (x ∷ ys)
each_later P x xs ys h g zero y e = h zero y e
each_later P x xs ys h g (suc k) y e = g k y e

each_without : (P : Waiter → Type 0) (t : ℕ) (ws : List Waiter) → Each P ws → Each P (without t ws)
each_without P t [] h = h
each_without P t (w ∷ ws) h =
    cond_both (w.thread == t) _ _ (Each P) (λ e. λ k. h (suc k)) (λ e. each_later P w ws (without t ws) h (each_without P t ws (λ k. h (suc k))))

-- ---- fat locks

pub fat_still : (cost : Cost) (fat : ℕ → Bool) (object : ℕ) → fat object ≡ true → is_fat_after cost fat object ≡ true
fat_still Free fat object e = e
fat_still (Makes cells) fat object e = e
fat_still (Fills cells) fat object e = e
fat_still Starts fat object e = e
fat_still (Enters entered count) fat object e = or_left _ _ e
fat_still (Joins joined) fat object e = or_left _ _ e

pub fat_joined : (fat : ℕ → Bool) (object : ℕ) → is_fat_after (Joins object) fat object ≡ true
fat_joined fat object = or_right (fat object) _ (eq-eqb object object refl)

-- where all stay that are fat, counts stay right
module _ (fat is : ℕ → Bool) (stays : (object : ℕ) → fat object ≡ true → is object ≡ true) where
  pub returns_more : (object count : ℕ) → Returns fat object count → Returns is object count
  returns_more object count r = record { entries = r.entries; lock = stays object r.lock }

  status_more : (s : ThreadStatus) → IsStatusCounted fat s → IsStatusCounted is s
  status_more Running h = h
  status_more (Waiting object count) h = returns_more object count h
  status_more (Relock object count cause) h = returns_more object count h
  status_more (Ended exception) h = h

  pub counted_more : (ms : List Monitor) (ths : List Thread) → AreCounted fat ms ths → AreCounted is ms ths
  counted_more ms ths h =
      record {
        monitors_are = λ object. record { owner = (h.monitors_are object).owner; waiters = λ k w e. returns_more object w.count ((h.monitors_are object).waiters k w e) };
        statuses_are = λ t. status_more (slice_index_or ths t no_thread).status (h.statuses_are t);
      }

-- ---- one monitor

owner_more : (o : Option ℕ) (t count : ℕ) → owns t o ≡ true → 0 < count → IsOwnerCounted o count
owner_more None t count e p = absurd (false≢true e)
owner_more (Some owner) t count e p = p

pub owner_entries : (o : Option ℕ) (t count : ℕ) → owns t o ≡ true → IsOwnerCounted o count → 0 < count
owner_entries None t count e h = absurd (false≢true e)
owner_entries (Some owner) t count e h = h

module _ (fat : ℕ → Bool) (object : ℕ) where
  pub unlocked_counted : IsMonitorCounted fat object unlocked
  unlocked_counted = record { owner = refl; waiters = λ k w e. absurd cc }

  owned_counted : (m : Monitor) (t count : ℕ) → 0 < count → IsMonitorCounted fat object m → IsMonitorCounted fat object (owned m t count)
  owned_counted m t count p h = record { owner = p; waiters = h.waiters }

  pub enter_counted : (t : ℕ) (m : Monitor) → IsMonitorCounted fat object m → IsMonitorCounted fat object (monitor_enter t m).after
  enter_counted t m h = by m.owner
    where
      by : (o : Option ℕ) → IsMonitorCounted fat
          object (as_entrant t o m (answers_done (owned m t 1)) (answers_done (owned m t (m.count + 1)))).after
      by None = owned_counted m t 1 (omega arith) h
      by (Some owner) =
          cond_both (owner == t) _ _ (λ (a : Answered Monitor). IsMonitorCounted fat object a.after) (λ e. owned_counted m t (m.count + 1) (omega arith) h) (λ e. h)

  pub as_owner_counted : (t : ℕ) (m after : Monitor) → (owns t m.owner ≡ true → IsMonitorCounted fat object after)
      → IsMonitorCounted fat object m → IsMonitorCounted fat object (as_owner t m after).after
  as_owner_counted t m after g h = cond_both (owns t m.owner) _ _ (λ (a : Answered Monitor). IsMonitorCounted fat object a.after) g (λ e. h)

  released_counted : (m : Monitor) (t count : ℕ) → owns t m.owner ≡ true → IsMonitorCounted fat object m
      → IsMonitorCounted fat object (released m count)
  released_counted m t count own h =
      cond_both (count == 0) _ _ (IsMonitorCounted fat object)
      (λ e. record { owner = refl; waiters = h.waiters })
      (λ e. record { owner = owner_more m.owner t count own (some count e); waiters = h.waiters })
    where
      some : (n : ℕ) → (n == 0) ≡ false → 0 < n
      some zero e = absurd (false≢true (sym e))
      some (suc n) e = omega arith

  pub exit_counted : (t : ℕ) (m : Monitor) → IsMonitorCounted fat object m → IsMonitorCounted fat object (monitor_exit t m).after
  exit_counted t m h = as_owner_counted t m (released m (m.count - 1)) (λ own. released_counted m t (m.count - 1) own h) h

  pub wait_counted : (t : ℕ) (m : Monitor) → fat object ≡ true → IsMonitorCounted fat object m
      → IsMonitorCounted fat object (monitor_wait t m).after
  wait_counted t m is h =
      as_owner_counted t m (record { owner = None; count = 0; waiters = m.waiters ++ record { thread = t; count = m.count } ∷ [] })
      (λ own. record {
        owner = refl;
        waiters = each_append (λ (w : Waiter). Returns fat object w.count) m.waiters (record { thread = t; count = m.count }) h.waiters
            (record { entries = owner_entries m.owner t m.count own h.owner; lock = is });
      }) h

  pub notify_counted : (t pick : ℕ) (m : Monitor) → IsMonitorCounted fat object m
      → IsMonitorCounted fat object (monitor_notify t pick m).after
  notify_counted t pick m h =
      as_owner_counted t m (record m { waiters = remove m.waiters pick }) (λ own. record { owner = h.owner; waiters = each_remove (λ (w : Waiter). Returns fat object w.count) m.waiters pick h.waiters }) h

  pub emptied_counted : (m : Monitor) → IsMonitorCounted fat object m → IsMonitorCounted fat object (record m { waiters = [] })
  emptied_counted m h = record { owner = h.owner; waiters = λ k w e. absurd cc }

  pub interrupt_counted : (t : ℕ) (m : Monitor) → IsMonitorCounted fat object m → IsMonitorCounted fat object (monitor_interrupt t m).after
  interrupt_counted t m h = record { owner = h.owner; waiters = each_without (λ (w : Waiter). Returns fat object w.count) t m.waiters h.waiters }

  pub relock_counted : (t count : ℕ) (m : Monitor) → 0 < count → IsMonitorCounted fat object m
      → IsMonitorCounted fat object (monitor_relock t count m).after
  relock_counted t count m p h = by m.owner
    where
      by : (o : Option ℕ) → IsMonitorCounted fat object (relock_from o m (answers_done (owned m t count))).after
      by None = owned_counted m t count p h
      by (Some owner) = h

-- ---- the monitors and the threads

module _ (fat : ℕ → Bool) where
  pub with_monitor : (ms : List Monitor) (ths : List Thread) (object : ℕ) (m : Monitor) → IsMonitorCounted fat object m
      → AreCounted fat ms ths → AreCounted fat (slice_set ms object m) ths
  with_monitor ms ths object m p h =
      record { monitors_are = at_set (IsMonitorCounted fat) ms unlocked object m h.monitors_are p; statuses_are = h.statuses_are }

  pub more_monitors : (ms : List Monitor) (ths : List Thread) → AreCounted fat ms ths → AreCounted fat (ms ++ unlocked ∷ []) ths
  more_monitors ms ths h =
      record { monitors_are = at_push (IsMonitorCounted fat) ms unlocked unlocked h.monitors_are (unlocked_counted fat); statuses_are = h.statuses_are }

  pub with_one : (ms : List Monitor) (ths : List Thread) (t : ℕ) (thread : Thread) → IsStatusCounted fat thread.status
      → AreCounted fat ms ths → AreCounted fat ms (slice_set ths t thread)
  with_one ms ths t thread p h =
      record { monitors_are = h.monitors_are; statuses_are = at_set (λ k (th : Thread). IsStatusCounted fat th.status) ths no_thread t thread h.statuses_are p }

  pub more_threads : (ms : List Monitor) (ths : List Thread) (object : ℕ) → AreCounted fat ms ths
      → AreCounted fat ms (ths ++ new_thread object ∷ [])
  more_threads ms ths object h =
      record { monitors_are = h.monitors_are; statuses_are = at_push (λ k (th : Thread). IsStatusCounted fat th.status) ths no_thread (new_thread object) h.statuses_are (λ k. tt) }

  -- a thread of which no more is changed than its status stays, or is this one
  pub with_same : (ms : List Monitor) (ths : List Thread) (t : ℕ) (thread : Thread)
      → thread.status ≡ (slice_index_or ths t no_thread).status → AreCounted fat ms ths → AreCounted fat ms (slice_set ths t thread)
  with_same ms ths t thread e h = with_one ms ths t thread (subst (IsStatusCounted fat) (sym e) (h.statuses_are t)) h

  pub called : (ms : List Monitor) (ths : List Thread) (object : ℕ) (call : Monitor → Answered Monitor)
      → ((m : Monitor) → IsMonitorCounted fat object m → IsMonitorCounted fat object (call m).after) → AreCounted fat ms ths
      → AreCounted fat (at_object object call ms).after ths
  called ms ths object call k h = with_monitor ms ths object (call (monitor_at ms object)).after (k (monitor_at ms object) (h.monitors_are object)) h
