-- What is kept of classes and threads, and what becomes of it by one more change.
use Rattle.std.proofs.Common.{◌≡◌, ℕ, ◌≤◌, ◌+◌, List, [], ◌∷◌, ◌++◌, length, Bool, true, false, Option, Some, refl, sym, ap, ◌∙◌, subst, arith}
use Rattle.std.specs.Prelude.{slice_index_or, if◌then◌else◌}
use Rattle.std.proofs.lemmas.List.{length-set}
use Rattle.model.specs.Names.{Name, name_eq}
use Rattle.model.specs.Classes.{is_built_in}
use Rattle.model.specs.State.{ClassStatus, InProgress, Initialised, Monitor, ThreadStatus, Thread, ObjectOf, WorldOf, new_thread}
use Rattle.model.specs.Monitors.{Answered, unlocked, monitor_at, at_object}
use Rattle.model.specs.Worlds.{no_thread, thread_at, with_thread, with_status, has_ended, allocated}
use Rattle.model.specs.ClassInitialisation.{status_in, with_status_in, status_of, with_class_status}
use Rattle.model.specs.BuiltInMethods.{with_started}
use Rattle.run_laws.proofs.laws.Classes.{names_same}
use Rattle.run_laws.proofs.laws.RootedOf.{name_sides}
use Rattle.data_races.specs.EventActions.{is_finished, is_waiting}
use Rattle.event_laws.specs.event_changes.Changes.{is_class, class_names}
use Rattle.event_laws.proofs.event_changes.Lists.{set_relates, added_relates, names_stay, other_status, still_unfinished}

-- ---- threads

-- of two threads of one number: the one ended before where it has ended, and both have the same exception pending
abbrev pub EndsNot : Thread → Thread → Type 0
EndsNot new old = has_ended new.status ≡ true → has_ended old.status ≡ true

abbrev pub PendsAlike : Thread → Thread → Type 0
PendsAlike new old = new.pending ≡ old.pending

abbrev pub WaitsAlike : Thread → Thread → Type 0
WaitsAlike new old = is_waiting new.status ≡ is_waiting old.status

abbrev pub IsOfObject : Thread → Thread → Type 0
IsOfObject new old = new.object ≡ old.object

abbrev SameWaiters : Monitor → Monitor → Type 0
SameWaiters new old = new.waiters ≡ old.waiters

length_added : {X : Type 0} (xs : List X) (x : X) → length (xs ++ x ∷ []) ≡ length xs + 1
length_added [] x = refl
length_added (y ∷ ys) x = let e = length_added ys x in omega arith

-- ---- classes

finished_or : (b : Bool) (s r : ClassStatus) → is_finished s ≡ is_finished r → is_finished (if b then Initialised else s) ≡ is_finished (if b then Initialised else r)
finished_or true s r h = refl
finished_or false s r h = h

unfinished_in : (b : Bool) (s : ClassStatus) → is_finished (if b then Initialised else s) ≡ false → is_finished s ≡ false
unfinished_in true s h = absurd cc
unfinished_in false s h = h

begun_status : (class other : Name) (t : ℕ) (cs : List (Name × ClassStatus)) → is_finished (status_in class cs) ≡ false → (b : Bool) → name_eq class other ≡ b
    → is_finished (status_in other (with_status_in class (InProgress t) cs)) ≡ is_finished (status_in other cs)
begun_status class other t cs h true e =
    let same : class ≡ other = names_same class other e in
    subst (λ (n : Name). is_finished (status_in n (with_status_in class (InProgress t) cs)) ≡ is_finished (status_in n cs)) same
    (still_unfinished class (InProgress t) cs refl h ∙ sym h)
begun_status class other t cs h false e = ap is_finished (other_status class other (InProgress t) cs e)

-- ---- worlds

module _ {A : Type 0} where
  -- no thread is started or ends, and no exception is thrown or caught
  pub record Keeps (old new : WorldOf A) : Type 0 where
    pub classes : new.classes ≡ old.classes
    pub count : length new.threads ≡ length old.threads
    pub ends : (u : ℕ) → EndsNot (thread_at new u) (thread_at old u)
    pub pending : (u : ℕ) → PendsAlike (thread_at new u) (thread_at old u)

  -- but maybe one is started
  pub record Leaves (old new : WorldOf A) : Type 0 where
    pub classes : new.classes ≡ old.classes
    pub kept : length old.threads ≤ length new.threads
    pub one : length new.threads ≤ length old.threads + 1
    pub ends : (u : ℕ) → EndsNot (thread_at new u) (thread_at old u)
    pub pending : (u : ℕ) → PendsAlike (thread_at new u) (thread_at old u)

  pub keeps_same : (old new : WorldOf A) → new.classes ≡ old.classes → new.threads ≡ old.threads → Keeps old new
  keeps_same old new c t =
      record {
        classes = c;
        count = ap (λ (ts : List Thread). length ts) t;
        ends = λ u e. sym (ap (λ (ts : List Thread). has_ended (slice_index_or ts u no_thread).status) t) ∙ e;
        pending = λ u. ap (λ (ts : List Thread). (slice_index_or ts u no_thread).pending) t;
      }

  pub keeps_then : (one two three : WorldOf A) → Keeps one two → Keeps two three → Keeps one three
  keeps_then one two three h g =
      record {
        classes = g.classes ∙ h.classes;
        count = g.count ∙ h.count;
        ends = λ u e. h.ends u (g.ends u e);
        pending = λ u. g.pending u ∙ h.pending u;
      }

  pub keeps_thread : (world : WorldOf A) (t : ℕ) (thread : Thread) → EndsNot thread (thread_at world t) → PendsAlike thread (thread_at world t)
      → Keeps world (with_thread world t thread)
  keeps_thread world t thread e p =
      record {
        classes = refl;
        count = length-set world.threads t thread;
        ends = λ u. set_relates EndsNot no_thread (λ x h. h) world.threads t u thread e;
        pending = λ u. set_relates PendsAlike no_thread (λ x. refl) world.threads t u thread p;
      }

  pub keeps_status : (world : WorldOf A) (t : ℕ) (status : ThreadStatus) → has_ended status ≡ false → Keeps world (with_status world t status)
  keeps_status world t status e = keeps_thread world t (record (thread_at world t) { status = status }) (λ h. let f : true ≡ false = sym h ∙ e in absurd cc) refl

  pub leaves_of : (old new : WorldOf A) → Keeps old new → Leaves old new
  leaves_of old new h =
      record {
        classes = h.classes;
        kept = let e = h.count in omega arith;
        one = let e = h.count in omega arith;
        ends = h.ends;
        pending = h.pending;
      }

  pub leaves_started : (world : WorldOf A) (object : ℕ) → Leaves world (with_started world object)
  leaves_started world object =
      let e = length_added world.threads (new_thread object) in
      record {
        classes = refl;
        kept = omega arith;
        one = omega arith;
        ends = λ u. added_relates EndsNot no_thread (λ x h. h) world.threads u (new_thread object) (λ h. h);
        pending = λ u. added_relates PendsAlike no_thread (λ x. refl) world.threads u (new_thread object) refl;
      }

  -- ---- all that a stack that is empty leaves

  -- the Thread object of a thread, who waits, and all wait sets
  pub record Quiet (t : ℕ) (old new : WorldOf A) : Type 0 where
    pub object : (thread_at new t).object ≡ (thread_at old t).object
    pub waiting : (u : ℕ) → WaitsAlike (thread_at new u) (thread_at old u)
    pub waiters : (object : ℕ) → (monitor_at new.monitors object).waiters ≡ (monitor_at old.monitors object).waiters

  pub record Steady (t : ℕ) (old new : WorldOf A) : Type 0 where
    pub classes : new.classes ≡ old.classes
    pub count : length new.threads ≡ length old.threads
    pub ends : EndsNot (thread_at new t) (thread_at old t)
    pub quiet : Quiet t old new

  pub quiet_then : (t : ℕ) (one two three : WorldOf A) → Quiet t one two → Quiet t two three → Quiet t one three
  quiet_then t one two three h g =
      record {
        object = g.object ∙ h.object;
        waiting = λ u. g.waiting u ∙ h.waiting u;
        waiters = λ object. g.waiters object ∙ h.waiters object;
      }

  pub steady_then : (t : ℕ) (one two three : WorldOf A) → Steady t one two → Steady t two three → Steady t one three
  steady_then t one two three h g =
      record {
        classes = g.classes ∙ h.classes;
        count = g.count ∙ h.count;
        ends = λ e. h.ends (g.ends e);
        quiet = quiet_then t one two three h.quiet g.quiet;
      }

  pub quiet_self : (t : ℕ) (world : WorldOf A) → Quiet t world world
  quiet_self t world = record { object = refl; waiting = λ u. refl; waiters = λ object. refl }

  pub steady_self : (t : ℕ) (world : WorldOf A) → Steady t world world
  steady_self t world = record { classes = refl; count = refl; ends = λ e. e; quiet = quiet_self t world }

  -- another thread in the place of that of an event, which waits as that did
  pub steady_thread : (t : ℕ) (world : WorldOf A) (thread : Thread) → EndsNot thread (thread_at world t) → WaitsAlike thread (thread_at world t)
      → IsOfObject thread (thread_at world t) → Steady t world (with_thread world t thread)
  steady_thread t world thread e w o =
      record {
        classes = refl;
        count = length-set world.threads t thread;
        ends = set_relates EndsNot no_thread (λ x h. h) world.threads t t thread e;
        quiet = record {
          object = set_relates IsOfObject no_thread (λ x. refl) world.threads t t thread o;
          waiting = λ u. set_relates WaitsAlike no_thread (λ x. refl) world.threads t u thread w;
          waiters = λ object. refl;
        };
      }

  -- a call of a monitor that keeps its wait set
  pub steady_call : (t : ℕ) (world : WorldOf A) (object : ℕ) (call : Monitor → Answered Monitor) → ((m : Monitor) → (call m).after.waiters ≡ m.waiters)
      → Steady t world (record world { monitors = (at_object object call world.monitors).after })
  steady_call t world object call h =
      record {
        classes = refl;
        count = refl;
        ends = λ e. e;
        quiet = record {
          object = refl;
          waiting = λ u. refl;
          waiters = λ other. set_relates SameWaiters unlocked (λ m. refl) world.monitors object other (call (monitor_at world.monitors object)).after (h (monitor_at world.monitors object));
        };
      }

  pub steady_allocated : (t : ℕ) (world : WorldOf A) (object : ObjectOf A) → Steady t world (allocated world object)
  steady_allocated t world object =
      record {
        classes = refl;
        count = refl;
        ends = λ e. e;
        quiet = record {
          object = refl;
          waiting = λ u. refl;
          waiters = λ other. added_relates SameWaiters unlocked (λ m. refl) world.monitors other unlocked refl;
        };
      }

  -- ---- an event

  pub record Kept (t : ℕ) (class : Option Name) (old new : WorldOf A) : Type 0 where
    pub names : class_names new.classes ≡ class_names old.classes
    pub others : (other : Name) → is_class other class ≡ false → is_finished (status_of new other) ≡ is_finished (status_of old other)
    pub kept : length old.threads ≤ length new.threads
    pub one : length new.threads ≤ length old.threads + 1
    pub ends : EndsNot (thread_at new t) (thread_at old t)

  status_by : (old new : WorldOf A) → new.classes ≡ old.classes → (other : Name) → is_finished (status_of new other) ≡ is_finished (status_of old other)
  status_by old new c other = ap (λ (cs : List (Name × ClassStatus)). is_finished (if is_built_in other then Initialised else status_in other cs)) c

  pub kept_left : (t : ℕ) (class : Option Name) (old new : WorldOf A) → Leaves old new → Kept t class old new
  kept_left t class old new h =
      record {
        names = ap class_names h.classes;
        others = λ other e. status_by old new h.classes other;
        kept = h.kept;
        one = h.one;
        ends = h.ends t;
      }

  pub kept_then : (t : ℕ) (class : Option Name) (one two three : WorldOf A) → Kept t class one two → Steady t two three → Kept t class one three
  kept_then t class one two three h g =
      let e = g.count in
      let k = h.kept in
      let o = h.one in
      record {
        names = ap class_names g.classes ∙ h.names;
        others = λ other e. status_by two three g.classes other ∙ h.others other e;
        kept = omega arith;
        one = omega arith;
        ends = λ e. h.ends (g.ends e);
      }

  pub kept_self : (t : ℕ) (class : Option Name) (world : WorldOf A) → Kept t class world world
  kept_self t class world =
      record { names = refl; others = λ other e. refl; kept = omega arith; one = omega arith; ends = λ e. e }

  pub kept_steady : (t : ℕ) (class : Option Name) (old new : WorldOf A) → Steady t old new → Kept t class old new
  kept_steady t class old new h = kept_then t class old old new (kept_self t class old) h

  -- ---- classes

  -- the class on top of the stack gets a status
  pub kept_class : (t : ℕ) (class : Name) (status : ClassStatus) (world : WorldOf A) → Kept t (Some class) world (with_class_status world class status)
  kept_class t class status world =
      record {
        names = names_stay class status world.classes;
        others = λ other e. finished_or (is_built_in other) _ _ (ap is_finished (other_status class other status world.classes (name_sides class other ∙ e)));
        kept = omega arith;
        one = omega arith;
        ends = λ e. e;
      }

  -- a class that isn't done is begun
  pub kept_begun : (t : ℕ) (class : Option Name) (begun : Name) (world : WorldOf A) → is_finished (status_of world begun) ≡ false
      → Kept t class world (with_class_status world begun (InProgress t))
  kept_begun t class begun world h =
      record {
        names = names_stay begun (InProgress t) world.classes;
        others = λ other e.
            finished_or (is_built_in other) _ _
            (begun_status begun other t world.classes (unfinished_in (is_built_in begun) (status_in begun world.classes) h) (name_eq begun other) refl);
        kept = omega arith;
        one = omega arith;
        ends = λ e. e;
      }
