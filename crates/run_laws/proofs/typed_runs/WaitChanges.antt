-- What wait, notify, notifyAll, interrupt and the end of a thread do to the world (JLS 17.2): it stays well typed.
use Rattle.std.proofs.Common.{◌≡◌, ℕ, zero, suc, List, [], ◌∷◌, ◌++◌, true, false, Option, Some, None, refl, sym, ap, ◌∙◌, subst}
use Rattle.std.specs.Prelude.{slice_get, slice_set, slice_index_or}
use Rattle.std.specs.Option.{option_map_or}
use Rattle.std.specs.List.{list_any, remove}
use Rattle.std.proofs.lemmas.Bool.{false≢true, and_parts, and_from, eq-eqb, cond_both, not-true}
use Rattle.std.proofs.lemmas.List.{length-set}
use Rattle.std.proofs.lemmas.Option.{get_or_from_slice_get}
use Rattle.model.specs.Names.{java_lang_object}
use Rattle.model.specs.Classes.{Program}
use Rattle.model.specs.State.{types_of, Monitor, Waiter, ThreadStatus, Running, Waiting, Relock, Ended, WakeCause, Notified, Interrupted, Thread, World}
use Rattle.model.specs.Monitors.{Answered, owns, as_owner, unlocked, monitor_at, without}
use Rattle.model.specs.Worlds.{no_thread, thread_at, with_thread, with_status, with_interrupted, is_owner, woken, all_woken, waiters_of}
use Rattle.model.specs.BuiltInMethods.{waiting, notified_one, notified, notified_all, interrupted_in, interrupted_on}
use Rattle.model.specs.Step.{with_waiters_woken}
use Rattle.model.specs.WellTyped.{is_object_in, is_waiting_for, is_waiter}
use Rattle.run_laws.proofs.laws.Order.{extends_self}
use Rattle.run_laws.proofs.typed_runs.Objects.{all_at}
use Rattle.run_laws.proofs.typed_runs.Changes.{Fits, Wakes, Changes, Live, WaitsOn}
use Rattle.run_laws.proofs.typed_runs.Threads.{waits, get_set_at, set_stays, set_waits}
use Rattle.run_laws.proofs.typed_runs.WaitSets.{is_of, Members, all_remove, distinct_remove, removed_out, all_without, distinct_without, without_out, distinct_new, none_waits, members_at, wait_sets_put, waits_there, all_wait_other, wait_sets_left}
use Rattle.run_laws.proofs.typed_runs.WorldChanges.{Keeps, keeps_trans, changes_of, changes_trans, self_keeps, own_changes, interrupted_keeps}
use Rattle.run_laws.proofs.laws.Lists.{all_append}

-- what stands at a place after it was written, or was not there
index_set : {A : Type 0} (P : A → Type 0) (xs : List A) (k : ℕ) (x d : A) → P x → P d → P (slice_index_or (slice_set xs k x) k d)
index_set P [] k x d p q = q
index_set P (y ∷ ys) zero x d p q = p
index_set P (y ∷ ys) (suc k) x d p q = index_set P ys k x d p q

waits_at : (threads : List Thread) (u object count : ℕ) → (slice_index_or threads u no_thread).status ≡ Waiting object count → waits threads object u ≡ true
waits_at [] u object count e = absurd cc
waits_at (x ∷ xs) zero object count e = subst (λ s. is_waiting_for object s ≡ true) (sym e) (eq-eqb object object refl)
waits_at (x ∷ xs) (suc u) object count e = waits_at xs u object count e

-- the monitor that a thread left for its wait set
abbrev joining : ℕ → Monitor → Monitor
joining t m = record { owner = None; count = 0; waiters = m.waiters ++ record { thread = t; count = m.count } ∷ [] }

module _ (files : Program) where
  -- a monitor with a wait set that its threads may be in
  pub members_keep : (world : World) → Fits files world → (r : ℕ) (m : Monitor) → Members world.threads r m.waiters → Keeps files world (record world { monitors = slice_set world.monitors r m })
  members_keep world fits r m w =
      let x = self_keeps files world fits in
      record {
        extends = x.extends;
        fits = record {
          heap = fits.heap;
          statics = fits.statics;
          monitors = length-set world.monitors r m ∙ fits.monitors;
          wait_sets = wait_sets_put world.threads world.monitors r m w fits.wait_sets;
          opened = fits.opened;
        };
        threads = x.threads;
      }

  -- a thread that waits, and that the monitor does not have any more, is to enter it again
  pub left_keeps : (world : World) → Fits files world → (r u again : ℕ) (cause : WakeCause) → waits world.threads r u ≡ true → list_any (is_of u) (monitor_at world.monitors r).waiters ≡ false → Keeps files world (with_status world u (Relock r again cause))
  left_keeps world fits r u again cause h out =
      let w = waits_there world.threads r u h in
      let is = get_or_from_slice_get world.threads u w.thread no_thread w.there in
      let new = record (thread_at world u) { status = Relock r again cause } in
      record {
        extends = extends_self _;
        fits = record {
          heap = fits.heap;
          statics = fits.statics;
          monitors = fits.monitors;
          wait_sets = wait_sets_left world.threads r u new h world.monitors out fits.wait_sets;
          opened = fits.opened;
        };
        threads = set_stays world.threads u new refl (record { pending = refl; status = Wakes r w.count again cause (ap (λ (th : Thread). th.status) is ∙ w.status) refl });
      }

  pub woken_keeps : (world : World) → Fits files world → (r : ℕ) (cause : WakeCause) (w : Waiter) → is_waiter world.threads r w ≡ true → list_any (is_of w.thread) (monitor_at world.monitors r).waiters ≡ false → Keeps files world (woken r cause world w)
  woken_keeps world fits r cause w h out = left_keeps world fits r w.thread w.count cause h out

  pub all_woken_keeps : (ws : List Waiter) (world : World) → Fits files world → (r : ℕ) (cause : WakeCause) → (monitor_at world.monitors r).waiters ≡ [] → Members world.threads r ws → Keeps files world (all_woken r cause world ws)
  all_woken_keeps [] world fits r cause none h = self_keeps files world fits
  all_woken_keeps (w ∷ ws) world fits r cause none h =
      let q = and_parts _ _ h.wait in
      let d = and_parts _ _ h.distinct in
      let x = woken_keeps world fits r cause w q.0 (ap (list_any (is_of w.thread)) none) in
      let new = record (thread_at world w.thread) { status = Relock r w.count cause } in
      keeps_trans files world (woken r cause world w) (all_woken r cause (woken r cause world w) ws) x
      (all_woken_keeps ws (woken r cause world w) x.fits r cause none (record { wait = all_wait_other world.threads w.thread new r ws (not-true _ d.0) q.1; distinct = d.1 }))

  module _ (world : World) (fits : Fits files world) where
    at_monitor : (r : ℕ) → Members world.threads r (monitor_at world.monitors r).waiters
    at_monitor r = members_at world.threads world.monitors r fits.wait_sets

    -- ---- notify, notifyAll, the end of a thread

    -- what the owner does to the monitor, which the world with it keeps
    by_owner : (t r : ℕ) (after : Monitor) (go : List Monitor → World) → is_owner world t r ≡ true → Keeps files world (go (slice_set world.monitors r after)) → Keeps files world (go (slice_set world.monitors r (as_owner t (monitor_at world.monitors r) after).after))
    by_owner t r after go own h =
        cond_both (owns t (monitor_at world.monitors r).owner) _ _ (λ (a : Answered Monitor). Keeps files world (go (slice_set world.monitors r a.after))) (λ e. h) (λ e. absurd (false≢true (sym e ∙ own)))

    notified_one_keeps : (r pick : ℕ) (o : Option Waiter) → slice_get (waiters_of world r) pick ≡ o → Keeps files world (notified_one (record world { monitors = slice_set world.monitors r (record (monitor_at world.monitors r) { waiters = remove (waiters_of world r) pick }) }) r o)
    notified_one_keeps r pick o e =
        let m = monitor_at world.monitors r in
        let left = record m { waiters = remove m.waiters pick } in
        let h = at_monitor r in
        by_pick left (members_keep world fits r left (record { wait = all_remove (is_waiter world.threads r) m.waiters pick h.wait; distinct = distinct_remove m.waiters pick h.distinct })) refl o e
      where
        by_pick : (left : Monitor) → Keeps files world (record world { monitors = slice_set world.monitors r left }) → left.waiters ≡ remove (waiters_of world r) pick → (o : Option Waiter) → slice_get (waiters_of world r) pick ≡ o → Keeps files world (notified_one (record world { monitors = slice_set world.monitors r left }) r o)
        by_pick left x is None e = x
        by_pick left x is (Some w) e =
            let out = subst (λ ws. list_any (is_of w.thread) ws ≡ false) (sym is) (removed_out (waiters_of world r) pick w e (at_monitor r).distinct) in
            keeps_trans files world (record world { monitors = slice_set world.monitors r left }) _ x
            (woken_keeps (record world { monitors = slice_set world.monitors r left }) x.fits r Notified w (all_at (is_waiter world.threads r) (waiters_of world r) pick w (at_monitor r).wait e) (index_set (λ (n : Monitor). list_any (is_of w.thread) n.waiters ≡ false) world.monitors r left unlocked out refl))

    pub notified_keeps : (t r pick : ℕ) → is_owner world t r ≡ true → Keeps files world (notified world t r pick)
    notified_keeps t r pick own =
        by_owner t r (record (monitor_at world.monitors r) { waiters = remove (waiters_of world r) pick }) (λ ms. notified_one (record world { monitors = ms }) r (slice_get (waiters_of world r) pick)) own
        (notified_one_keeps r pick (slice_get (waiters_of world r) pick) refl)

    -- all leave
    emptied_keeps : (r : ℕ) → Keeps files world (all_woken r Notified (record world { monitors = slice_set world.monitors r (record (monitor_at world.monitors r) { waiters = [] }) }) (waiters_of world r))
    emptied_keeps r =
        let m = monitor_at world.monitors r in
        let left = record m { waiters = [] } in
        let after = record world { monitors = slice_set world.monitors r left } in
        let x = members_keep world fits r left (record { wait = refl; distinct = refl }) in
        keeps_trans files world after _ x (all_woken_keeps (waiters_of world r) after x.fits r Notified (index_set (λ (n : Monitor). n.waiters ≡ []) world.monitors r left unlocked refl refl) (at_monitor r))

    pub notified_all_keeps : (t r : ℕ) → is_owner world t r ≡ true → Keeps files world (notified_all world t r)
    notified_all_keeps t r own =
        by_owner t r (record (monitor_at world.monitors r) { waiters = [] }) (λ ms. all_woken r Notified (record world { monitors = ms }) (waiters_of world r)) own (emptied_keeps r)

    pub waiters_woken_keeps : (r : ℕ) → Keeps files world (with_waiters_woken world r)
    waiters_woken_keeps r = emptied_keeps r

    -- ---- interrupt

    interrupted_in_keeps : (u : ℕ) (s : ThreadStatus) → (thread_at world u).status ≡ s → Keeps files world (interrupted_in world u s)
    interrupted_in_keeps u Running e = interrupted_keeps files world fits u true
    interrupted_in_keeps u (Waiting r count) e =
        let m = monitor_at world.monitors r in
        let left = record m { waiters = without u m.waiters } in
        let h = at_monitor r in
        let gone = record world { monitors = slice_set world.monitors r left } in
        let x = members_keep world fits r left (record { wait = all_without (is_waiter world.threads r) u m.waiters h.wait; distinct = distinct_without u m.waiters h.distinct }) in
        let y = interrupted_keeps files gone x.fits u true in
        let after = with_interrupted gone u true in
        let new = record (thread_at gone u) { interrupted = true } in
        let waits_still = set_waits world.threads u new (λ object q. q) r u (waits_at world.threads u r count e) in
        let out = index_set (λ (n : Monitor). list_any (is_of u) n.waiters ≡ false) world.monitors r left unlocked (without_out u m.waiters h.distinct) refl in
        keeps_trans files world gone _ x (keeps_trans files gone after _ y (left_keeps after y.fits r u count Interrupted waits_still out))
    interrupted_in_keeps u (Relock object count cause) e = interrupted_keeps files world fits u true
    interrupted_in_keeps u (Ended exception) e = self_keeps files world fits

    pub interrupted_on_keeps : (o : Option ℕ) → Keeps files world (interrupted_on world o)
    interrupted_on_keeps None = self_keeps files world fits
    interrupted_on_keeps (Some u) = interrupted_in_keeps u (thread_at world u).status refl

    -- ---- wait

    -- the thread joins the wait set, with its new status
    joined : (t r : ℕ) (live : Live world t) (new : Thread) → new ≡ record (thread_at world t) { status = Waiting r (monitor_at world.monitors r).count } → Changes files t world (record (with_thread world t new) { monitors = slice_set world.monitors r (joining t (monitor_at world.monitors r)) })
    joined t r live new is =
        let m = monitor_at world.monitors r in
        let at = get_or_from_slice_get world.threads t live.thread no_thread live.there in
        let w : Waiter = record { thread = t; count = m.count } in
        let after = with_thread world t new in
        let here = joining t m in
        let object = ap (λ (th : Thread). th.object) is ∙ ap (λ (th : Thread). th.object) at in
        let x = own_changes files world fits t live.thread new live.there object (λ object q. absurd (false≢true (sym (ap (is_waiting_for object) live.status) ∙ q))) in
        let old = members_at after.threads after.monitors r x.fits.wait_sets in
        let status = ap (λ (th : Thread). th.status) is in
        let own = subst (λ s. is_waiting_for r s ≡ true) (sym status) (eq-eqb r r refl) in
        let joins = subst (λ o. option_map_or (λ (thread : Thread). is_waiting_for r thread.status) o false ≡ true) (sym (get_set_at world.threads t live.thread new live.there)) own in
        let idle = subst (λ o. option_map_or (λ (thread : Thread). is_waiting_for r thread.status) o false ≡ false) (sym live.there) (ap (is_waiting_for r) live.status) in
        let first = none_waits world.threads r t m.waiters idle (at_monitor r).wait in
        let y = members_keep after x.fits r here (record { wait = all_append (is_waiter after.threads r) m.waiters (w ∷ []) old.wait (and_from _ _ joins refl); distinct = distinct_new m.waiters w old.distinct first }) in
        changes_trans files t world after _ live.thread live.there x (changes_of files t after _ y)

    pub waiting_changes : (t r : ℕ) → is_owner world t r ≡ true → Live world t → Changes files t world (waiting world t r)
    waiting_changes t r own live =
        let new = record (thread_at world t) { status = Waiting r (monitor_at world.monitors r).count } in
        cond_both (owns t (monitor_at world.monitors r).owner) _ _ (λ (a : Answered Monitor). Changes files t world (record (with_thread world t new) { monitors = slice_set world.monitors r a.after }))
        (λ e. joined t r live new refl) (λ e. absurd (false≢true (sym e ∙ own)))

    pub waits_on : (t r : ℕ) → Live world t → is_object_in files (types_of world.heap) java_lang_object r ≡ true → WaitsOn files (waiting world t r) t
    waits_on t r live object =
        let new = record (thread_at world t) { status = Waiting r (monitor_at world.monitors r).count } in
        record {
          thread = new;
          there = get_set_at world.threads t live.thread new live.there;
          object_of = r;
          count = (monitor_at world.monitors r).count;
          status = refl;
          pending = ap (λ (th : Thread). th.pending) (get_or_from_slice_get world.threads t live.thread no_thread live.there) ∙ live.pending;
          object = object;
        }
