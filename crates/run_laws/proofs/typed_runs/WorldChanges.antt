-- What keeps a world well typed, and its threads as they are: each way in which an event changes the world, but for wait sets.
use Rattle.std.proofs.Common.{◌≡◌, ℕ, suc, ◌+◌, List, [], ◌∷◌, ◌++◌, length, Bool, true, false, ◌==◌, ◌-◌, Option, Some, None, refl, sym, ap, ◌∙◌, subst}
use Rattle.std.specs.Prelude.{slice_get, slice_set}
use Rattle.std.proofs.lemmas.Bool.{cond_both, eqb-true}
use Rattle.std.proofs.lemmas.List.{length-set}
use Rattle.std.proofs.lemmas.Option.{get_or_from_slice_get, same_Some}
use Rattle.model.specs.declared.value.Value.{Value}
use Rattle.model.specs.Names.{Name, Member, java_lang_thread}
use Rattle.model.specs.Classes.{Program}
use Rattle.model.specs.ReferenceTypes.{ReferenceType}
use Rattle.model.specs.Operands.{Slots}
use Rattle.model.specs.State.{ObjectOf, type_of, types_of, ClassStatus, Monitor, ThreadStatus, Thread, Frame, World}
use Rattle.model.specs.Outcomes.{Cost, Goes, Returns}
use Rattle.model.specs.Frames.{at_offset}
use Rattle.model.specs.Calls.{result_types}
use Rattle.model.specs.Monitors.{Answered, unlocked, owns, monitor_at, monitor_enter, monitor_exit, monitor_relock, as_entrant, as_owner, relock_from, owned, released, answers_done}
use Rattle.model.specs.Worlds.{no_thread, thread_at, with_thread, with_begun, with_interrupted, allocated, with_object, with_static, with_entry, with_exit, with_monitors}
use Rattle.model.specs.Monitors as monitors
use Rattle.model.specs.Texts.{Text}
use Rattle.model.specs.BuiltInMethods.{with_printed}
use Rattle.model.specs.ClassInitialisation.{with_class_status}
use Rattle.model.specs.WellTyped.{is_object_in, is_field_typed, is_object_typed, are_typed, is_waiting_for, Ready}
use Rattle.run_laws.proofs.laws.Order.{Extends, extends_self}
use Rattle.run_laws.proofs.typed_runs.Invariant.{fields_more, object_in_more}
use Rattle.run_laws.proofs.typed_runs.Objects.{added_extends, added_typed, changed_extends, changed_typed, with_value_typed}
use Rattle.run_laws.proofs.typed_runs.Changes.{Fits, Same, Still, Started, Changes, Live, OutcomeTyped}
use Rattle.run_laws.proofs.typed_runs.Threads.{moved_running, kept_trans, AllStay, stay_self, stay_trans, go_of, set_stays, own_go, wait_sets_weaken, set_waits, wait_sets_set, wait_sets_new}

pub extends_trans : (os ps qs : List ReferenceType) → Extends os ps → Extends ps qs → Extends os qs
extends_trans os ps qs x y = record { keeps = λ r t e. y.keeps r t (x.keeps r t e) }

-- what an event may do to the world where each thread keeps its pending exception and its status, but for waking
pub record Keeps (files : Program) (before after : World) : Type 0 where
  pub extends : Extends (types_of before.heap) (types_of after.heap)
  pub fits : Fits files after
  pub threads : AllStay before.threads after.threads

pub keeps_trans : (files : Program) (a b c : World) → Keeps files a b → Keeps files b c → Keeps files a c
keeps_trans files a b c x y =
    record { extends = extends_trans _ _ _ x.extends y.extends; fits = y.fits; threads = stay_trans _ _ _ x.threads y.threads }

pub changes_of : (files : Program) (t : ℕ) (a b : World) → Keeps files a b → Changes files t a b
changes_of files t a b x = record { extends = x.extends; fits = x.fits; go = go_of files (types_of b.heap) t a.threads b.threads x.threads }

pub live_after : (files : Program) (t : ℕ) (a b : World) → Keeps files a b → Live a t → Live b t
live_after files t a b x live =
    let s = x.threads.still t live.thread live.there in
    record {
      thread = s.thread;
      there = s.there;
      status = moved_running live.thread.status s.thread.status s.kept.status live.status;
      pending = s.kept.pending ∙ live.pending;
    }

-- one change after another, where the thread that moves was there
pub changes_trans : (files : Program) (t : ℕ) (a b c : World) (thread : Thread) → slice_get a.threads t ≡ Some thread → Changes files t a b
    → Changes files t b c → Changes files t a c
changes_trans files t a b c thread there x y =
    record { extends = extends_trans _ _ _ x.extends y.extends; fits = y.fits; go = record { still = still; started = started } }
  where
    still : (u : ℕ) (th : Thread) → slice_get a.threads u ≡ Some th → Still t c.threads u th
    still u th e =
        let s = x.go.still u th e in
        let z = y.go.still u s.thread s.there in
        record { thread = z.thread; there = z.there; object = z.object ∙ s.object; kept = λ q. kept_trans th s.thread z.thread (s.kept q) (z.kept q) }

    new_before : (u : ℕ) (th m : Thread) → slice_get a.threads u ≡ None → slice_get b.threads u ≡ Some m → slice_get c.threads u ≡ Some th
        → (e : Bool) → (u == t) ≡ e → Started files (types_of c.heap) th
    new_before u th m n r w true q = let same : u ≡ t = eqb-true u t q in let no : slice_get a.threads t ≡ None = subst (λ k. slice_get a.threads k ≡ None) same n in absurd cc
    new_before u th m n r w false q =
        let s = x.go.started u m n r in
        let z = y.go.still u m r in
        let is : z.thread ≡ th = same_Some z.thread th (sym z.there ∙ w) in
        let k = z.kept q in
        let object = object_in_more files (types_of b.heap) (types_of c.heap) y.extends java_lang_thread m.object s.object in
        subst (Started files (types_of c.heap)) is
        (record {
          pending = k.pending ∙ s.pending;
          status = moved_running m.status z.thread.status k.status s.status;
          object = subst (λ o. is_object_in files (types_of c.heap) java_lang_thread o ≡ true) (sym z.object) object;
        })

    new_by : (u : ℕ) (th : Thread) → slice_get a.threads u ≡ None → slice_get c.threads u ≡ Some th → (o : Option Thread)
        → slice_get b.threads u ≡ o → Started files (types_of c.heap) th
    new_by u th n w None r = y.go.started u th r w
    new_by u th n w (Some m) r = new_before u th m n r w (u == t) refl

    started : (u : ℕ) (th : Thread) → slice_get a.threads u ≡ None → slice_get c.threads u ≡ Some th → Started files (types_of c.heap) th
    started u th n w = new_by u th n w (slice_get b.threads u) refl

-- ---- monitors that keep their waiters

enter_waiters : (t : ℕ) (m : Monitor) (o : Option ℕ) (x y : Monitor) → x.waiters ≡ m.waiters → y.waiters ≡ m.waiters
    → (as_entrant t o m (answers_done x) (answers_done y)).after.waiters ≡ m.waiters
enter_waiters t m None x y p q = p
enter_waiters t m (Some owner) x y p q = cond_both (owner == t) _ _ (λ (a : Answered Monitor). a.after.waiters ≡ m.waiters) (λ e. q) (λ e. refl)

owner_waiters : (t : ℕ) (m x : Monitor) → x.waiters ≡ m.waiters → (as_owner t m x).after.waiters ≡ m.waiters
owner_waiters t m x p = cond_both (owns t m.owner) _ _ (λ (a : Answered Monitor). a.after.waiters ≡ m.waiters) (λ e. p) (λ e. refl)

released_waiters : (m : Monitor) (count : ℕ) → (released m count).waiters ≡ m.waiters
released_waiters m count = cond_both (count == 0) _ _ (λ (n : Monitor). n.waiters ≡ m.waiters) (λ e. refl) (λ e. refl)

relock_waiters : (m : Monitor) (o : Option ℕ) (x : Monitor) → x.waiters ≡ m.waiters
    → (relock_from o m (answers_done x)).after.waiters ≡ m.waiters
relock_waiters m None x p = p
relock_waiters m (Some owner) x p = refl

-- ---- changes

length_new : {A B : Type 0} (xs : List A) (ys : List B) (x : A) (y : B) → length xs ≡ length ys
    → length (xs ++ x ∷ []) ≡ length (ys ++ y ∷ [])
length_new [] [] x y e = refl
length_new [] (b ∷ ys) x y e = absurd cc
length_new (a ∷ xs) [] x y e = absurd cc
length_new (a ∷ xs) (b ∷ ys) x y e = let q : length xs ≡ length ys = cc in ap suc (length_new xs ys x y q)

module _ (files : Program) (world : World) (fits : Fits files world) where
  pub self_keeps : Keeps files world world
  self_keeps = record { extends = extends_self _; fits = fits; threads = stay_self world.threads }

  -- a new object
  pub allocated_keeps : (o : ObjectOf Value) → is_object_typed files (types_of (world.heap ++ o ∷ [])) o ≡ true
      → Keeps files world (allocated world o)
  allocated_keeps o h =
      let x = added_extends files world.heap fits.heap o in
      record {
        extends = x;
        fits = record {
          heap = added_typed files world.heap fits.heap o h;
          statics = fields_more files _ _ x world.statics fits.statics;
          monitors = length_new world.monitors world.heap unlocked o fits.monitors;
          wait_sets = wait_sets_new world.threads 0 world.monitors fits.wait_sets;
          opened = extends_trans _ _ _ fits.opened x;
        };
        threads = stay_self world.threads;
      }

  -- an object that goes on being of its type
  pub object_keeps : (r : ℕ) (old new : ObjectOf Value) → slice_get world.heap r ≡ Some old → type_of new ≡ type_of old
      → is_object_typed files (types_of world.heap) new ≡ true → Keeps files world (with_object world r new)
  object_keeps r old new e same h =
      let x = changed_extends files world.heap fits.heap r old new e same h in
      record {
        extends = x;
        fits = record {
          heap = changed_typed files world.heap fits.heap r old new e same h;
          statics = fields_more files _ _ x world.statics fits.statics;
          monitors = fits.monitors ∙ sym (length-set world.heap r new);
          wait_sets = fits.wait_sets;
          opened = extends_trans _ _ _ fits.opened x;
        };
        threads = stay_self world.threads;
      }

  pub static_keeps : (field : Member) (v : Value) → is_field_typed files (types_of world.heap) (field, v) ≡ true
      → Keeps files world (with_static world field v)
  static_keeps field v h =
      record {
        extends = extends_self _;
        fits = record {
          heap = fits.heap;
          statics = with_value_typed files (types_of world.heap) field v world.statics h fits.statics;
          monitors = fits.monitors;
          wait_sets = fits.wait_sets;
          opened = fits.opened;
        };
        threads = stay_self world.threads;
      }

  pub printed_keeps : (text : Text) → Keeps files world (with_printed world text)
  printed_keeps text =
      record {
        extends = extends_self _;
        fits = record { heap = fits.heap; statics = fits.statics; monitors = fits.monitors; wait_sets = fits.wait_sets; opened = fits.opened };
        threads = stay_self world.threads;
      }

  pub class_status_keeps : (class : Name) (status : ClassStatus) → Keeps files world (with_class_status world class status)
  class_status_keeps class status =
      record {
        extends = extends_self _;
        fits = record { heap = fits.heap; statics = fits.statics; monitors = fits.monitors; wait_sets = fits.wait_sets; opened = fits.opened };
        threads = stay_self world.threads;
      }

  -- a monitor that keeps its waiters
  pub monitor_keeps : (r : ℕ) (m : Monitor) → m.waiters ≡ (monitor_at world.monitors r).waiters
      → Keeps files world (record world { monitors = slice_set world.monitors r m })
  monitor_keeps r m e =
      record {
        extends = extends_self _;
        fits = record {
          heap = fits.heap;
          statics = fits.statics;
          monitors = length-set world.monitors r m ∙ fits.monitors;
          wait_sets = wait_sets_set world.threads 0 world.monitors r m e fits.wait_sets;
          opened = fits.opened;
        };
        threads = stay_self world.threads;
      }

  pub entry_keeps : (t r : ℕ) → Keeps files world (with_entry world t r)
  entry_keeps t r =
      let m = monitor_at world.monitors r in
      monitor_keeps r (monitor_enter t m).after (enter_waiters t m m.owner (owned m t 1) (owned m t (m.count + 1)) refl refl)

  pub exit_keeps : (t r : ℕ) → Keeps files world (with_exit world t r)
  exit_keeps t r =
      let m = monitor_at world.monitors r in
      monitor_keeps r (monitor_exit t m).after (owner_waiters t m (released m (m.count - 1)) (released_waiters m (m.count - 1)))

  pub relock_keeps : (t r count : ℕ) → Keeps files world (with_monitors world (monitors.relock r t count world.monitors))
  relock_keeps t r count =
      let m = monitor_at world.monitors r in
      monitor_keeps r (monitor_relock t count m).after (relock_waiters m m.owner (owned m t count) refl)

  -- a thread, whose pending exception and status stay
  pub thread_keeps : (u : ℕ) (new : Thread) → new.object ≡ (thread_at world u).object → new.pending ≡ (thread_at world u).pending
      → new.status ≡ (thread_at world u).status → Keeps files world (with_thread world u new)
  thread_keeps u new o p s =
      record {
        extends = extends_self _;
        fits = record {
          heap = fits.heap;
          statics = fits.statics;
          monitors = fits.monitors;
          wait_sets = wait_sets_weaken world.threads (slice_set world.threads u new) (set_waits world.threads u new (λ object q. subst (λ (st : ThreadStatus). is_waiting_for object st ≡ true) (sym s) q)) 0 world.monitors fits.wait_sets;
          opened = fits.opened;
        };
        threads = set_stays world.threads u new o (record { pending = p; status = Same s });
      }

  pub interrupted_keeps : (u : ℕ) (b : Bool) → Keeps files world (with_interrupted world u b)
  interrupted_keeps u b = thread_keeps u (record (thread_at world u) { interrupted = b }) refl refl refl

  pub begun_keeps : (u : ℕ) → Keeps files world (with_begun world u)
  begun_keeps u = thread_keeps u (record (thread_at world u) { begun = true }) refl refl refl

  -- the thread that moves, which waits for nothing that it didn't wait for before
  pub own_changes : (t : ℕ) (old new : Thread) → slice_get world.threads t ≡ Some old → new.object ≡ old.object
      → ((object : ℕ) → is_waiting_for object old.status ≡ true → is_waiting_for object new.status ≡ true)
      → Changes files t world (with_thread world t new)
  own_changes t old new there o w =
      let is : thread_at world t ≡ old = get_or_from_slice_get world.threads t old no_thread there in
      record {
        extends = extends_self _;
        fits = record {
          heap = fits.heap;
          statics = fits.statics;
          monitors = fits.monitors;
          wait_sets = wait_sets_weaken world.threads (slice_set world.threads t new) (set_waits world.threads t new (λ object q. w object (subst (λ (th : Thread). is_waiting_for object th.status ≡ true) is q))) 0 world.monitors fits.wait_sets;
          opened = fits.opened;
        };
        go = own_go files (types_of world.heap) t world.threads old new there o;
      }

-- ---- outcomes

-- on to an offset where the frame is ready, in a world that is kept so
pub goes_on : (files : Program) (t : ℕ) (world after : World) (frame : Frame) (cost : Cost) (slots : Slots Value) (to : ℕ) → Live world t
    → Keeps files world after → Ready files (types_of after.heap) (at_offset frame to slots)
    → OutcomeTyped files t world frame (Goes cost after slots to)
goes_on files t world after frame cost slots to live x ready =
    (changes_of files t world after x, (live_after files t world after x live, ready))

pub gives_back : (files : Program) (t : ℕ) (world : World) (frame : Frame) (results : List Value) → Fits files world → Live world t
    → are_typed files (types_of world.heap) (result_types files frame.method) results ≡ true
    → OutcomeTyped files t world frame (Returns world results)
gives_back files t world frame results fits live h = (changes_of files t world world (self_keeps files world fits), (live, h))
