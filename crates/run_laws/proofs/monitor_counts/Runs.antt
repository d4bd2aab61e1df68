-- Counts in the states of a run, with the locks fat that its events inflated.
use Rattle.std.proofs.Common.{◌≡◌, ℕ, zero, suc, List, [], ◌∷◌, ◌++◌, map, Bool, true, false, ◌==◌, ◌&&◌, ◌||◌, Some, refl, ap, ◌∙◌, subst}
use Rattle.std.specs.Prelude.{if◌then◌else◌, slice_index_or}
use Rattle.std.specs.Option.{option_and_then}
use Rattle.std.proofs.lemmas.Bool.{cond_both, eqb-true}
use Rattle.std.proofs.lemmas.Option.{same_Some}
use Rattle.model.specs.declared.event.Event.{Event}
use Rattle.model.specs.Classes.{Program}
use Rattle.model.specs.Operands.{Carrier, words, values}
use Rattle.model.specs.State.{State, new_thread}
use Rattle.model.specs.Outcomes.{Cost, Free, Makes, Fills, Starts, Enters, Joins}
use Rattle.model.specs.Monitors.{unlocked}
use Rattle.model.specs.Worlds.{no_thread}
use Rattle.model.specs.Opening.{opening, opening_heap, main_thread_reference}
use Rattle.model.specs.Step.{SteppedOf, NotEnabled, WrongKind, Next, stepped, next_by}
use Rattle.model.specs.Run.{run_from}
use Rattle.model.specs.LimitStands.{is_inflating_entry, with_inflated, inflated_by, if_next, inflated_from}
use Rattle.run_laws.specs.monitor_counts.Counts.{is_inflated, is_fat_after, IsStatusCounted, IsMonitorCounted, AreMonitorsCounted, IsOpeningCounted, AreOpeningsCounted, AreRunsLonger, AreRunsCounted}
use Rattle.run_laws.proofs.monitor_counts.Counted.{unlocked_counted, counted_more}
use Rattle.run_laws.proofs.monitor_counts.CountedSteps.{StateCounted, stepped_counted}

-- ---- the opening state

all_unlocked : {X : Type 0} (fat : ℕ → Bool) (object : ℕ) (xs : List X) (k : ℕ)
    → IsMonitorCounted fat object (slice_index_or (map (λ x. unlocked) xs) k unlocked)
all_unlocked fat object [] k = unlocked_counted fat object
all_unlocked fat object (x ∷ xs) zero = unlocked_counted fat object
all_unlocked fat object (x ∷ xs) (suc k) = all_unlocked fat object xs k

one_runs : (fat : ℕ → Bool) (t : ℕ) → IsStatusCounted fat (slice_index_or (new_thread main_thread_reference ∷ []) t no_thread).status
one_runs fat zero = tt
one_runs fat (suc t) = tt

pub opened : {A : Type 0} (C : Carrier A) → IsOpeningCounted C
opened C files fat = record { monitors_are = λ object. all_unlocked fat object (opening_heap C files) object; statuses_are = one_runs fat }

pub openings_counted : AreOpeningsCounted
openings_counted = record { of_values = opened values; of_words = opened words }

-- ---- which locks the events inflated

or_none : (b : Bool) → b ≡ (b || false)
or_none true = refl
or_none false = refl

or_swap : (a b : Bool) → (a || b) ≡ (b || a)
or_swap true true = refl
or_swap true false = refl
or_swap false true = refl
or_swap false false = refl

or_one : (a b : Bool) → (b ≡ true → a ≡ true) → a ≡ (a || b)
or_one true b h = refl
or_one false true h = h refl
or_one false false h = refl

with_one : (objects : List ℕ) (new object : ℕ)
    → is_inflated (with_inflated new objects) object ≡ (is_inflated objects object || (new == object))
with_one objects new object =
    cond_both (is_inflated objects new) _ _ (λ os. is_inflated os object ≡ (is_inflated objects object || (new == object)))
    (λ e. or_one _ _ (λ q. subst (λ o. is_inflated objects o ≡ true) (eqb-true new object q) e))
    (λ e. or_swap (new == object) (is_inflated objects object))

with_entry : (b : Bool) (objects : List ℕ) (new object : ℕ)
    → is_inflated (if b then with_inflated new objects else objects) object ≡ (is_inflated objects object || (b && (new == object)))
with_entry true objects new object = with_one objects new object
with_entry false objects new object = or_none (is_inflated objects object)

pub inflated_are : (cost : Cost) (objects : List ℕ) (object : ℕ)
    → is_inflated (inflated_by cost objects) object ≡ is_fat_after cost (is_inflated objects) object
inflated_are Free objects object = refl
inflated_are (Makes cells) objects object = refl
inflated_are (Fills cells) objects object = refl
inflated_are Starts objects object = refl
inflated_are (Enters entered count) objects object = with_entry (is_inflating_entry count) objects entered object
inflated_are (Joins joined) objects object = with_one objects joined object

-- ---- runs

module _ (files : Program) (frames : ℕ) where
  -- the same from a state, with these objects inflated before
  abbrev Goes : State → List Event → List ℕ → State → List ℕ → Type 0
  Goes state events objects last after = (run_from files frames state events ≡ Some last) × (inflated_from files frames state events objects ≡ after)

  one_goes : (state : State) (event : Event) (cost : Cost) (next : State) (objects : List ℕ)
      → stepped values files frames state event ≡ Next cost next → Goes state (event ∷ []) objects next (inflated_by cost objects)
  one_goes state event cost next objects e = (
    ap (λ x. option_and_then (λ next. Some next) (next_by x)) e,
    ap (λ x. if_next x objects (λ cost next. inflated_by cost objects)) e,
  )

  longer : (events : List Event) (state : State) (objects : List ℕ) (last : State) (event : Event) (cost : Cost) (next : State)
      → run_from files frames state events ≡ Some last → stepped values files frames last event ≡ Next cost next
      → Goes state (events ++ event ∷ []) objects next (inflated_by cost (inflated_from files frames state events objects))
  longer [] state objects last event cost next r e =
      let is : state ≡ last = same_Some state last r in
      one_goes state event cost next objects (ap (λ s. stepped values files frames s event) is ∙ e)
  longer (first ∷ events) state objects last event cost next r e =
      by (λ s os q. longer events s os last event cost next q e) (stepped values files frames state first) r
    where
      by : ((s : State) (os : List ℕ) → run_from files frames s events ≡ Some last
          → Goes s (events ++ event ∷ []) os next (inflated_by cost (inflated_from files frames s events os)))
          → (x : SteppedOf State) → option_and_then (λ s. run_from files frames s events) (next_by x) ≡ Some last
          → (option_and_then (λ s. run_from files frames s (events ++ event ∷ [])) (next_by x) ≡ Some next)
          × (if_next x objects (λ c s. inflated_from files frames s (events ++ event ∷ []) (inflated_by c objects))
          ≡ inflated_by cost (if_next x objects (λ c s. inflated_from files frames s events (inflated_by c objects))))
      by rest NotEnabled r = absurd cc
      by rest WrongKind r = absurd cc
      by rest (Next c s) r = rest s (inflated_by c objects) r

  counted_from : (events : List Event) (state : State) (objects : List ℕ) (last : State)
      → AreMonitorsCounted (is_inflated objects) state.world
      → run_from files frames state events ≡ Some last
      → AreMonitorsCounted (is_inflated (inflated_from files frames state events objects)) last.world
  counted_from [] state objects last h r =
      let is : state ≡ last = same_Some state last r in
      subst (λ (s : State). AreMonitorsCounted (is_inflated objects) s.world) is h
  counted_from (first ∷ events) state objects last h r =
      by (λ s os k q. counted_from events s os last k q) (stepped values files frames state first) (stepped_counted values files frames state first (is_inflated objects) h) r
    where
      by : ((s : State) (os : List ℕ) → AreMonitorsCounted (is_inflated os) s.world → run_from files frames s events ≡ Some last
          → AreMonitorsCounted (is_inflated (inflated_from files frames s events os)) last.world)
          → (x : SteppedOf State) → StateCounted (is_inflated objects) x
          → option_and_then (λ s. run_from files frames s events) (next_by x) ≡ Some last
          → AreMonitorsCounted (is_inflated (if_next x objects (λ c s. inflated_from files frames s events (inflated_by c objects))))
          last.world
      by rest NotEnabled k r = absurd cc
      by rest WrongKind k r = absurd cc
      by rest (Next c s) k r =
          rest s (inflated_by c objects)
          (counted_more (is_fat_after c (is_inflated objects)) (is_inflated (inflated_by c objects)) (λ o e. inflated_are c objects o ∙ e) s.world.monitors s.world.threads k) r

pub runs_longer : AreRunsLonger
runs_longer files frames events state event cost next r e =
    let x = longer files frames events (opening values files) [] state event cost next r e in
    record {
      reached = x.0;
      inflated_are = x.1;
      fat_are = λ object. ap (λ os. is_inflated os object) x.1 ∙ inflated_are cost (inflated_from files frames (opening values files) events []) object;
    }

pub runs_counted : AreRunsCounted
runs_counted files frames events state r =
    counted_from files frames events (opening values files) [] state (opened values files (is_inflated [])) r
