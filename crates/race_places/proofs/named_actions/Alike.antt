-- Actions race exactly where they do with the names of classes and fields.
use Rattle.std.proofs.Common.{◌≡◌, refl, sym, ◌∙◌, ap, ℕ, inl, inr, List, map}
use Rattle.std.specs.Prelude.{Some, slice_get, Bool, true, false, not, ◌&&◌, ◌||◌, ◌==◌, ◌↔◌, IsTrue}
use Rattle.model.specs.Classes.{Program}
use Rattle.data_races.specs.HappensBefore.{IsRace}
use Rattle.data_races.specs.Variables as named
use Rattle.data_races.specs.Actions as actions
use Rattle.data_races.specs.Races.{memory_order}
use Rattle.data_races.proofs.Mapped.{IsRenaming, race_to, race_from}
use Rattle.race_places.specs.declared.run_actions.Variable.{Variable}
use Rattle.race_places.specs.declared.run_actions.Variable.TheVariants.{InstanceField, StaticField, Element}
use Rattle.race_places.specs.declared.run_actions.Action.{Action}
use Rattle.race_places.specs.declared.run_actions.Action.TheVariants.{Read, Write, Lock, Unlock, Begin, Finish, Start, Interrupt, ClearInterrupt, Wake, FinishInitialisation, FindStarted, FindFinished, FindInterrupted, FindNotInterrupted, FindWoken, FindInitialised}
use Rattle.race_places.specs.declared.run_actions.RunAction.{RunAction}
use Rattle.race_places.specs.declared.run_actions.Key.{Key}
use Rattle.race_places.specs.run_actions.Order.{is_same_key, variable_key, monitor_key, start_key, end_key, interrupts_key, cleared_key, wake_key, initialisation_key, left_by, found_by, taken_by, read_by, written_by, is_one, conflicts, run_order}
use Rattle.race_places.specs.named_actions.Names.{Names, AreApart, named_variable, named_action, named_in_run, IsOfField, IsRight}
use Rattle.race_places.proofs.numbering.Keys.{same_self, same_or_not}

and_true : (x : Bool) → (x && true) ≡ x
and_true true = refl
and_true false = refl

or_false : (x : Bool) → (x || false) ≡ x
or_false true = refl
or_false false = refl

-- ---- nothing else is at a place

abbrev IsNoVariable : Key → Type 0
IsNoVariable k = (w : Variable) → is_same_key k (variable_key w) ≡ false

not_taken : (v : Variable) (thread : ℕ) → is_same_key (variable_key v) (interrupts_key thread) ≡ false
not_taken (InstanceField object class field) thread = refl
not_taken (StaticField class field) thread = refl
not_taken (Element array index) thread = refl

taken_not : (k : Key) (b : Action) → ((thread : ℕ) → is_same_key k (interrupts_key thread) ≡ false) → is_one (Some k) (taken_by b) ≡ false
taken_not k (Read variable is_volatile) none = refl
taken_not k (Write variable is_volatile) none = refl
taken_not k (Lock object) none = refl
taken_not k (Unlock object) none = refl
taken_not k (Begin thread) none = refl
taken_not k (Finish thread) none = refl
taken_not k (Start thread) none = refl
taken_not k (Interrupt thread) none = refl
taken_not k (ClearInterrupt thread) none = none thread
taken_not k (Wake thread) none = refl
taken_not k (FinishInitialisation class) none = refl
taken_not k (FindStarted thread) none = refl
taken_not k (FindFinished thread) none = refl
taken_not k (FindInterrupted thread) none = refl
taken_not k (FindNotInterrupted thread) none = refl
taken_not k (FindWoken thread) none = refl
taken_not k (FindInitialised class) none = refl

no_variable_monitor : (n : ℕ) → IsNoVariable (monitor_key n)
no_variable_monitor n (InstanceField object class field) = refl
no_variable_monitor n (StaticField class field) = refl
no_variable_monitor n (Element array index) = refl

no_variable_start : (n : ℕ) → IsNoVariable (start_key n)
no_variable_start n (InstanceField object class field) = refl
no_variable_start n (StaticField class field) = refl
no_variable_start n (Element array index) = refl

no_variable_end : (n : ℕ) → IsNoVariable (end_key n)
no_variable_end n (InstanceField object class field) = refl
no_variable_end n (StaticField class field) = refl
no_variable_end n (Element array index) = refl

no_variable_interrupts : (n : ℕ) → IsNoVariable (interrupts_key n)
no_variable_interrupts n (InstanceField object class field) = refl
no_variable_interrupts n (StaticField class field) = refl
no_variable_interrupts n (Element array index) = refl

no_variable_cleared : (n : ℕ) → IsNoVariable (cleared_key n)
no_variable_cleared n (InstanceField object class field) = refl
no_variable_cleared n (StaticField class field) = refl
no_variable_cleared n (Element array index) = refl

no_variable_wake : (n : ℕ) → IsNoVariable (wake_key n)
no_variable_wake n (InstanceField object class field) = refl
no_variable_wake n (StaticField class field) = refl
no_variable_wake n (Element array index) = refl

no_variable_initialisation : (n : ℕ) → IsNoVariable (initialisation_key n)
no_variable_initialisation n (InstanceField object class field) = refl
no_variable_initialisation n (StaticField class field) = refl
no_variable_initialisation n (Element array index) = refl

-- ---- places of threads and monitors

module _ (names : Names) where
  lock_alike : (n : ℕ) (b : Action) → actions.is_lock n (named_action names b) ≡ is_one (Some (monitor_key n)) (found_by b)
  lock_alike n (Read variable true) = sym (no_variable_monitor n variable)
  lock_alike n (Read variable false) = refl
  lock_alike n (Write variable is_volatile) = refl
  lock_alike n (Lock object) = sym (and_true (n == object))
  lock_alike n (Unlock object) = refl
  lock_alike n (Begin thread) = refl
  lock_alike n (Finish thread) = refl
  lock_alike n (Start thread) = refl
  lock_alike n (Interrupt thread) = refl
  lock_alike n (ClearInterrupt thread) = refl
  lock_alike n (Wake thread) = refl
  lock_alike n (FinishInitialisation class) = refl
  lock_alike n (FindStarted thread) = refl
  lock_alike n (FindFinished thread) = refl
  lock_alike n (FindInterrupted thread) = refl
  lock_alike n (FindNotInterrupted thread) = refl
  lock_alike n (FindWoken thread) = refl
  lock_alike n (FindInitialised class) = refl

  started_alike : (n : ℕ) (b : Action) → actions.finds_started n (named_action names b) ≡ is_one (Some (start_key n)) (found_by b)
  started_alike n (Read variable true) = sym (no_variable_start n variable)
  started_alike n (Read variable false) = refl
  started_alike n (Write variable is_volatile) = refl
  started_alike n (Lock object) = refl
  started_alike n (Unlock object) = refl
  started_alike n (Begin thread) = sym (and_true (n == thread))
  started_alike n (Finish thread) = refl
  started_alike n (Start thread) = refl
  started_alike n (Interrupt thread) = refl
  started_alike n (ClearInterrupt thread) = refl
  started_alike n (Wake thread) = refl
  started_alike n (FinishInitialisation class) = refl
  started_alike n (FindStarted thread) = sym (and_true (n == thread))
  started_alike n (FindFinished thread) = refl
  started_alike n (FindInterrupted thread) = refl
  started_alike n (FindNotInterrupted thread) = refl
  started_alike n (FindWoken thread) = refl
  started_alike n (FindInitialised class) = refl

  finished_alike : (n : ℕ) (b : Action) → actions.finds_finished n (named_action names b) ≡ is_one (Some (end_key n)) (found_by b)
  finished_alike n (Read variable true) = sym (no_variable_end n variable)
  finished_alike n (Read variable false) = refl
  finished_alike n (Write variable is_volatile) = refl
  finished_alike n (Lock object) = refl
  finished_alike n (Unlock object) = refl
  finished_alike n (Begin thread) = refl
  finished_alike n (Finish thread) = refl
  finished_alike n (Start thread) = refl
  finished_alike n (Interrupt thread) = refl
  finished_alike n (ClearInterrupt thread) = refl
  finished_alike n (Wake thread) = refl
  finished_alike n (FinishInitialisation class) = refl
  finished_alike n (FindStarted thread) = refl
  finished_alike n (FindFinished thread) = sym (and_true (n == thread))
  finished_alike n (FindInterrupted thread) = refl
  finished_alike n (FindNotInterrupted thread) = refl
  finished_alike n (FindWoken thread) = refl
  finished_alike n (FindInitialised class) = refl

  interrupted_alike : (n : ℕ) (b : Action) → actions.finds_interrupted n (named_action names b) ≡ is_one (Some (interrupts_key n)) (found_by b)
  interrupted_alike n (Read variable true) = sym (no_variable_interrupts n variable)
  interrupted_alike n (Read variable false) = refl
  interrupted_alike n (Write variable is_volatile) = refl
  interrupted_alike n (Lock object) = refl
  interrupted_alike n (Unlock object) = refl
  interrupted_alike n (Begin thread) = refl
  interrupted_alike n (Finish thread) = refl
  interrupted_alike n (Start thread) = refl
  interrupted_alike n (Interrupt thread) = refl
  interrupted_alike n (ClearInterrupt thread) = refl
  interrupted_alike n (Wake thread) = refl
  interrupted_alike n (FinishInitialisation class) = refl
  interrupted_alike n (FindStarted thread) = refl
  interrupted_alike n (FindFinished thread) = refl
  interrupted_alike n (FindInterrupted thread) = sym (and_true (n == thread))
  interrupted_alike n (FindNotInterrupted thread) = refl
  interrupted_alike n (FindWoken thread) = refl
  interrupted_alike n (FindInitialised class) = refl

  not_interrupted_alike : (n : ℕ) (b : Action) → actions.finds_not_interrupted n (named_action names b) ≡ is_one (Some (cleared_key n)) (found_by b)
  not_interrupted_alike n (Read variable true) = sym (no_variable_cleared n variable)
  not_interrupted_alike n (Read variable false) = refl
  not_interrupted_alike n (Write variable is_volatile) = refl
  not_interrupted_alike n (Lock object) = refl
  not_interrupted_alike n (Unlock object) = refl
  not_interrupted_alike n (Begin thread) = refl
  not_interrupted_alike n (Finish thread) = refl
  not_interrupted_alike n (Start thread) = refl
  not_interrupted_alike n (Interrupt thread) = refl
  not_interrupted_alike n (ClearInterrupt thread) = refl
  not_interrupted_alike n (Wake thread) = refl
  not_interrupted_alike n (FinishInitialisation class) = refl
  not_interrupted_alike n (FindStarted thread) = refl
  not_interrupted_alike n (FindFinished thread) = refl
  not_interrupted_alike n (FindInterrupted thread) = refl
  not_interrupted_alike n (FindNotInterrupted thread) = sym (and_true (n == thread))
  not_interrupted_alike n (FindWoken thread) = refl
  not_interrupted_alike n (FindInitialised class) = refl

  woken_alike : (n : ℕ) (b : Action) → actions.finds_woken n (named_action names b) ≡ is_one (Some (wake_key n)) (found_by b)
  woken_alike n (Read variable true) = sym (no_variable_wake n variable)
  woken_alike n (Read variable false) = refl
  woken_alike n (Write variable is_volatile) = refl
  woken_alike n (Lock object) = refl
  woken_alike n (Unlock object) = refl
  woken_alike n (Begin thread) = refl
  woken_alike n (Finish thread) = refl
  woken_alike n (Start thread) = refl
  woken_alike n (Interrupt thread) = refl
  woken_alike n (ClearInterrupt thread) = refl
  woken_alike n (Wake thread) = refl
  woken_alike n (FinishInitialisation class) = refl
  woken_alike n (FindStarted thread) = refl
  woken_alike n (FindFinished thread) = refl
  woken_alike n (FindInterrupted thread) = refl
  woken_alike n (FindNotInterrupted thread) = refl
  woken_alike n (FindWoken thread) = sym (and_true (n == thread))
  woken_alike n (FindInitialised class) = refl

  clear_alike : (n : ℕ) (b : Action) → actions.is_clear_of n (named_action names b) ≡ is_one (Some (interrupts_key n)) (taken_by b)
  clear_alike n (Read variable is_volatile) = refl
  clear_alike n (Write variable is_volatile) = refl
  clear_alike n (Lock object) = refl
  clear_alike n (Unlock object) = refl
  clear_alike n (Begin thread) = refl
  clear_alike n (Finish thread) = refl
  clear_alike n (Start thread) = refl
  clear_alike n (Interrupt thread) = refl
  clear_alike n (ClearInterrupt thread) = sym (and_true (n == thread))
  clear_alike n (Wake thread) = refl
  clear_alike n (FinishInitialisation class) = refl
  clear_alike n (FindStarted thread) = refl
  clear_alike n (FindFinished thread) = refl
  clear_alike n (FindInterrupted thread) = refl
  clear_alike n (FindNotInterrupted thread) = refl
  clear_alike n (FindWoken thread) = refl
  clear_alike n (FindInitialised class) = refl

  module _ (files : Program) (apart : AreApart names) where
    done_alike : (n : ℕ) (b : Action) → IsTrue (names.has_class n) → IsRight names files b
        → actions.finds_initialised (names.class_name n) (named_action names b) ≡ is_one (Some (initialisation_key n)) (found_by b)
    done_alike n (Read variable true) at right = sym (no_variable_initialisation n variable)
    done_alike n (Read variable false) at right = refl
    done_alike n (Write variable is_volatile) at right = refl
    done_alike n (Lock object) at right = refl
    done_alike n (Unlock object) at right = refl
    done_alike n (Begin thread) at right = refl
    done_alike n (Finish thread) at right = refl
    done_alike n (Start thread) at right = refl
    done_alike n (Interrupt thread) at right = refl
    done_alike n (ClearInterrupt thread) at right = refl
    done_alike n (Wake thread) at right = refl
    done_alike n (FinishInitialisation class) at right = refl
    done_alike n (FindStarted thread) at right = refl
    done_alike n (FindFinished thread) at right = refl
    done_alike n (FindInterrupted thread) at right = refl
    done_alike n (FindNotInterrupted thread) at right = refl
    done_alike n (FindWoken thread) at right = refl
    done_alike n (FindInitialised class) at right = apart.classes n class at right ∙ sym (and_true (n == class))

    -- ---- variables

    same_alike : (v w : Variable) (x y : Bool) → IsOfField names files v x → IsOfField names files w y
        → named.is_same_variable (named_variable names v) (named_variable names w) ≡ is_same_key (variable_key v) (variable_key w)
    same_alike (InstanceField o c f) (InstanceField p d g) x y h k = ap (λ t. (o == p) && t) (apart.fields c f d g h.0 k.0)
    same_alike (InstanceField o c f) (StaticField d g) x y h k = refl
    same_alike (InstanceField o c f) (Element b j) x y h k = refl
    same_alike (StaticField c f) (InstanceField p d g) x y h k = refl
    same_alike (StaticField c f) (StaticField d g) x y h k = apart.fields c f d g h.0 k.0 ∙ ap (λ t. (c == d) && t) (sym (and_true (f == g)))
    same_alike (StaticField c f) (Element b j) x y h k = refl
    same_alike (Element a i) (InstanceField p d g) x y h k = refl
    same_alike (Element a i) (StaticField d g) x y h k = refl
    same_alike (Element a i) (Element b j) x y h k = ap (λ t. (a == b) && t) (sym (and_true (i == j)))

    volatile_is : (v : Variable) (x : Bool) → IsOfField names files v x → named.is_volatile files (named_variable names v) ≡ x
    volatile_is (InstanceField o c f) x h = sym h.1
    volatile_is (StaticField c f) x h = sym h.1
    volatile_is (Element a i) x h = sym h

    -- variables of one key are volatile alike
    volatile_by : (v w : Variable) (x y : Bool) → IsOfField names files v x → IsOfField names files w y → variable_key v ≡ variable_key w → x ≡ y
    volatile_by (InstanceField o c f) (InstanceField p d g) x y h k e =
        h.1 ∙ (λ i. named.declares_volatile files (names.field (e i).second (e i).third)) ∙ sym k.1
    volatile_by (InstanceField o c f) (StaticField d g) x y h k e = absurd (let z : 0 ≡ 1 = ap (λ m. m.kind) e in cc)
    volatile_by (InstanceField o c f) (Element b j) x y h k e = absurd (let z : 0 ≡ 2 = ap (λ m. m.kind) e in cc)
    volatile_by (StaticField c f) (InstanceField p d g) x y h k e = absurd (let z : 1 ≡ 0 = ap (λ m. m.kind) e in cc)
    volatile_by (StaticField c f) (StaticField d g) x y h k e =
        h.1 ∙ (λ i. named.declares_volatile files (names.field (e i).first (e i).second)) ∙ sym k.1
    volatile_by (StaticField c f) (Element b j) x y h k e = absurd (let z : 1 ≡ 2 = ap (λ m. m.kind) e in cc)
    volatile_by (Element a i) (InstanceField p d g) x y h k e = absurd (let z : 2 ≡ 0 = ap (λ m. m.kind) e in cc)
    volatile_by (Element a i) (StaticField d g) x y h k e = absurd (let z : 2 ≡ 1 = ap (λ m. m.kind) e in cc)
    volatile_by (Element a i) (Element b j) x y h k e = h ∙ sym k

    -- variables that are not volatile alike are not the same
    differ : (v w : Variable) (x y : Bool) → IsOfField names files v x → IsOfField names files w y → (x ≡ y → ⊥)
        → named.is_same_variable (named_variable names v) (named_variable names w) ≡ false
    differ v w x y h k ne =
        elim (same_or_not (variable_key v) (variable_key w)) [
          | inl s ↦ absurd (ne (volatile_by v w x y h k s.1))
          | inr s ↦ same_alike v w x y h k ∙ s
        ]

    read_plain : (v : Variable) (b : Action) → IsOfField names files v false → IsRight names files b
        → actions.is_read (named_variable names v) (named_action names b) ≡ is_one (Some (variable_key v)) (read_by b)
    read_plain v (Read w true) h right = differ v w false true h right (λ e. absurd (cc))
    read_plain v (Read w false) h right = same_alike v w false false h right
    read_plain v (Write w is_volatile) h right = refl
    read_plain v (Lock object) h right = refl
    read_plain v (Unlock object) h right = refl
    read_plain v (Begin thread) h right = refl
    read_plain v (Finish thread) h right = refl
    read_plain v (Start thread) h right = refl
    read_plain v (Interrupt thread) h right = refl
    read_plain v (ClearInterrupt thread) h right = refl
    read_plain v (Wake thread) h right = refl
    read_plain v (FinishInitialisation class) h right = refl
    read_plain v (FindStarted thread) h right = refl
    read_plain v (FindFinished thread) h right = refl
    read_plain v (FindInterrupted thread) h right = refl
    read_plain v (FindNotInterrupted thread) h right = refl
    read_plain v (FindWoken thread) h right = refl
    read_plain v (FindInitialised class) h right = refl

    write_plain : (v : Variable) (b : Action) → IsOfField names files v false → IsRight names files b
        → actions.is_write (named_variable names v) (named_action names b) ≡ is_one (Some (variable_key v)) (written_by b)
    write_plain v (Read w is_volatile) h right = refl
    write_plain v (Write w true) h right = differ v w false true h right (λ e. absurd (cc))
    write_plain v (Write w false) h right = same_alike v w false false h right
    write_plain v (Lock object) h right = refl
    write_plain v (Unlock object) h right = refl
    write_plain v (Begin thread) h right = refl
    write_plain v (Finish thread) h right = refl
    write_plain v (Start thread) h right = refl
    write_plain v (Interrupt thread) h right = refl
    write_plain v (ClearInterrupt thread) h right = refl
    write_plain v (Wake thread) h right = refl
    write_plain v (FinishInitialisation class) h right = refl
    write_plain v (FindStarted thread) h right = refl
    write_plain v (FindFinished thread) h right = refl
    write_plain v (FindInterrupted thread) h right = refl
    write_plain v (FindNotInterrupted thread) h right = refl
    write_plain v (FindWoken thread) h right = refl
    write_plain v (FindInitialised class) h right = refl

    no_place : (v : Variable) (k : Key) → IsNoVariable k → is_same_key (variable_key v) k ≡ false
    no_place v k none =
        elim (same_or_not (variable_key v) k) [
          | inl s ↦ absurd (differs v k s.1 (none v))
          | inr s ↦ s
        ]
      where
        differs : (v : Variable) (k : Key) → variable_key v ≡ k → is_same_key k (variable_key v) ≡ false → ⊥
        differs v k e f = let g : true ≡ false = sym (same_self (variable_key v)) ∙ ap (λ m. is_same_key m (variable_key v)) e ∙ f in cc

    read_volatile : (v : Variable) (b : Action) → IsOfField names files v true → IsRight names files b
        → actions.is_read (named_variable names v) (named_action names b) ≡ is_one (Some (variable_key v)) (found_by b)
    read_volatile v (Read w true) h right = same_alike v w true true h right
    read_volatile v (Read w false) h right = differ v w true false h right (λ e. absurd (cc))
    read_volatile v (Write w is_volatile) h right = refl
    read_volatile v (Lock object) h right = sym (no_place v (monitor_key object) (no_variable_monitor object))
    read_volatile v (Unlock object) h right = refl
    read_volatile v (Begin thread) h right = sym (no_place v (start_key thread) (no_variable_start thread))
    read_volatile v (Finish thread) h right = refl
    read_volatile v (Start thread) h right = refl
    read_volatile v (Interrupt thread) h right = refl
    read_volatile v (ClearInterrupt thread) h right = refl
    read_volatile v (Wake thread) h right = refl
    read_volatile v (FinishInitialisation class) h right = refl
    read_volatile v (FindStarted thread) h right = sym (no_place v (start_key thread) (no_variable_start thread))
    read_volatile v (FindFinished thread) h right = sym (no_place v (end_key thread) (no_variable_end thread))
    read_volatile v (FindInterrupted thread) h right = sym (no_place v (interrupts_key thread) (no_variable_interrupts thread))
    read_volatile v (FindNotInterrupted thread) h right = sym (no_place v (cleared_key thread) (no_variable_cleared thread))
    read_volatile v (FindWoken thread) h right = sym (no_place v (wake_key thread) (no_variable_wake thread))
    read_volatile v (FindInitialised class) h right = sym (no_place v (initialisation_key class) (no_variable_initialisation class))

    -- ---- they are answered alike

    synchronizes_alike : (a b : Action) → IsRight names files a → IsRight names files b
        → actions.synchronizes files (named_action names a) (named_action names b) ≡ is_one (left_by a) (found_by b)
    synchronizes_alike (Read v is_volatile) b g h = refl
    synchronizes_alike (Write v true) b g h =
        ap (λ t. t && actions.is_read (named_variable names v) (named_action names b)) (volatile_is v true g) ∙ read_volatile v b g h
    synchronizes_alike (Write v false) b g h =
        ap (λ t. t && actions.is_read (named_variable names v) (named_action names b)) (volatile_is v false g)
    synchronizes_alike (Lock object) b g h = refl
    synchronizes_alike (Unlock object) b g h = lock_alike object b
    synchronizes_alike (Begin thread) b g h = refl
    synchronizes_alike (Finish thread) b g h = finished_alike thread b
    synchronizes_alike (Start thread) b g h = started_alike thread b
    synchronizes_alike (Interrupt thread) b g h = interrupted_alike thread b
    synchronizes_alike (ClearInterrupt thread) b g h = not_interrupted_alike thread b
    synchronizes_alike (Wake thread) b g h = woken_alike thread b
    synchronizes_alike (FinishInitialisation class) b g h = done_alike class b g h
    synchronizes_alike (FindStarted thread) b g h = refl
    synchronizes_alike (FindFinished thread) b g h = refl
    synchronizes_alike (FindInterrupted thread) b g h = refl
    synchronizes_alike (FindNotInterrupted thread) b g h = refl
    synchronizes_alike (FindWoken thread) b g h = refl
    synchronizes_alike (FindInitialised class) b g h = refl

    takes_alike : (a b : Action) → actions.takes_away (named_action names a) (named_action names b) ≡ is_one (left_by a) (taken_by b)
    takes_alike (Read v is_volatile) b = refl
    takes_alike (Write v true) b = sym (taken_not (variable_key v) b (not_taken v))
    takes_alike (Write v false) b = refl
    takes_alike (Lock object) b = refl
    takes_alike (Unlock object) b = sym (taken_not (monitor_key object) b (λ u. refl))
    takes_alike (Begin thread) b = refl
    takes_alike (Finish thread) b = sym (taken_not (end_key thread) b (λ u. refl))
    takes_alike (Start thread) b = sym (taken_not (start_key thread) b (λ u. refl))
    takes_alike (Interrupt thread) b = clear_alike thread b
    takes_alike (ClearInterrupt thread) b = sym (taken_not (cleared_key thread) b (λ u. refl))
    takes_alike (Wake thread) b = sym (taken_not (wake_key thread) b (λ u. refl))
    takes_alike (FinishInitialisation class) b = sym (taken_not (initialisation_key class) b (λ u. refl))
    takes_alike (FindStarted thread) b = refl
    takes_alike (FindFinished thread) b = refl
    takes_alike (FindInterrupted thread) b = refl
    takes_alike (FindNotInterrupted thread) b = refl
    takes_alike (FindWoken thread) b = refl
    takes_alike (FindInitialised class) b = refl

    conflicts_alike : (a b : Action) → IsRight names files a → IsRight names files b
        → actions.conflicts files (named_action names a) (named_action names b) ≡ conflicts a b
    conflicts_alike (Read v true) b g h = ap (λ t. not t && actions.is_write (named_variable names v) (named_action names b)) (volatile_is v true g)
    conflicts_alike (Read v false) b g h =
        ap (λ t. not t && actions.is_write (named_variable names v) (named_action names b)) (volatile_is v false g)
        ∙ write_plain v b g h
        ∙ sym (or_false (is_one (Some (variable_key v)) (written_by b)))
    conflicts_alike (Write v true) b g h =
        ap (λ t. not t && (actions.is_write (named_variable names v) (named_action names b) || actions.is_read (named_variable names v) (named_action names b)))
        (volatile_is v true g)
    conflicts_alike (Write v false) b g h =
        ap (λ t. not t && (actions.is_write (named_variable names v) (named_action names b) || actions.is_read (named_variable names v) (named_action names b)))
        (volatile_is v false g)
        ∙ (λ i. write_plain v b g h i || read_plain v b g h i)
    conflicts_alike (Lock object) b g h = refl
    conflicts_alike (Unlock object) b g h = refl
    conflicts_alike (Begin thread) b g h = refl
    conflicts_alike (Finish thread) b g h = refl
    conflicts_alike (Start thread) b g h = refl
    conflicts_alike (Interrupt thread) b g h = refl
    conflicts_alike (ClearInterrupt thread) b g h = refl
    conflicts_alike (Wake thread) b g h = refl
    conflicts_alike (FinishInitialisation class) b g h = refl
    conflicts_alike (FindStarted thread) b g h = refl
    conflicts_alike (FindFinished thread) b g h = refl
    conflicts_alike (FindInterrupted thread) b g h = refl
    conflicts_alike (FindNotInterrupted thread) b g h = refl
    conflicts_alike (FindWoken thread) b g h = refl
    conflicts_alike (FindInitialised class) b g h = refl

    renamed : (run : List RunAction) → ((k : ℕ) (a : RunAction) → slice_get run k ≡ Some a → IsRight names files a.action)
        → IsRenaming run_order (memory_order files) (named_in_run names) run
    renamed run right =
        record {
          one_thread = λ a b at_a at_b. refl;
          synchronizes = λ a b at_a at_b. synchronizes_alike a.action b.action (right at_a.0 a at_a.1) (right at_b.0 b at_b.1);
          takes_away = λ a b at_a at_b. takes_alike a.action b.action;
          conflict = λ a b at_a at_b.
              ap (λ t. not (a.thread == b.thread) && t) (conflicts_alike a.action b.action (right at_a.0 a at_a.1) (right at_b.0 b at_b.1));
        }

    pub alike : (run : List RunAction) → ((k : ℕ) (a : RunAction) → slice_get run k ≡ Some a → IsRight names files a.action) → (i j : ℕ)
        → IsRace run_order run i j ↔ IsRace (memory_order files) (map (named_in_run names) run) i j
    alike run right i j =
        let r = renamed run right in (
          λ race. race_to run_order (memory_order files) (named_in_run names) run r i j race,
          λ race. race_from run_order (memory_order files) (named_in_run names) run r i j race,
        )
