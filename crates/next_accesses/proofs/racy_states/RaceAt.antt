-- A race among the next accesses is one of the state.
use Rattle.std.proofs.Common.{◌≡◌, ℕ, zero, suc, ◌<◌, List, [], ◌∷◌, ◌++◌, Bool, true, false, Option, Some, None, map, length, refl, sym, ap, subst, ◌∙◌}
use Rattle.std.specs.Prelude.{IsTrue, IsFalse, not, ◌&&◌, ◌||◌, ◌==◌, slice_get, is_some}
use Rattle.std.specs.Option.{option_to_list}
use Rattle.std.specs.List.{list_any, filter}
use Rattle.std.proofs.lemmas.Bool.{and_parts, false≢true, true≢false}
use Rattle.std.proofs.lemmas.Option.{same_Some}
use Rattle.model.specs.declared.event.Event.{Event}
use Rattle.model.specs.Classes.{Program}
use Rattle.model.specs.LimitStands.{Bounds, bounds_of}
use Rattle.model.specs.Rows.{counting}
use Rattle.model.specs.Run.{run}
use Rattle.model.specs.State.{Thread, State, StateOf}
use Rattle.model.specs.Words.{words_of}
use Rattle.linked_code.specs.declared.program.LinkedProgram.{LinkedProgram}
use Rattle.machine_state.specs.declared.state.Shared.{Shared}
use Rattle.machine_state.specs.state_events.Whole.{IsShown}
use Rattle.machine_state.specs.shown_runs.Runs.{HasRun}
use Rattle.machine.specs.Machines.{MachineOf}
use Rattle.machine.specs.schedule_runs.Done.{HasDone}
use Rattle.race_places.specs.declared.run_actions.Action.{Action}
use Rattle.race_places.specs.declared.run_actions.RunAction.{RunAction}
use Rattle.race_places.specs.named_actions.Names.{AreApart, IsRight, named_action}
use Rattle.data_races.specs.Actions as named
use Rattle.data_races.specs.Actions.{Read, Write}
use Rattle.data_races.specs.EventActions.{actions_of}
use Rattle.data_races.specs.Races.{ActionOfRun, in_event, next_actions, have_conflict, is_racy, IsRacy, memory_order}
use Rattle.field_names.specs.named_fields.Fields.{names_of}
use Rattle.next_accesses.specs.declared.racy_states.Race.{Race}
use Rattle.next_accesses.specs.next_access.Next.{IsReached, is_access, accesses_next, AreAccesses}
use Rattle.next_accesses.specs.racy_states.Racy.{conflict, do_conflict, IsRaceIn, IsRaceOf, next_of, IsNext, IsFound, AreNext, TellsState, DoesAccess, IsRaceAt, IsRaceIf, TellsRace}
use Rattle.next_accesses.proofs.racy_states.Alike.{conflicts_alike}
use Rattle.next_accesses.proofs.racy_states.Places.{IsIn, any_of, Passing, passing, mapped, mapped_at, MappedFrom, mapped_from, kept, kept_from, counted_at, counted_within}

true_of : (b : Bool) → IsTrue b → b ≡ true
true_of b h = h

is_true : (b : Bool) → b ≡ true → IsTrue b
is_true b e = e

-- only accesses conflict
first_accesses : (files : Program) (x y : named.Action) → named.conflicts files x y ≡ true → is_access x ≡ true
first_accesses files (Read v) y e = refl
first_accesses files (Write v) y e = refl
first_accesses files _ y e = absurd (false≢true e)

written_accesses : (v : _) (y : named.Action) → named.is_write v y ≡ true → is_access y ≡ true
written_accesses v (Write w) e = refl
written_accesses v _ e = absurd (false≢true e)

either_accesses : (v : _) (y : named.Action) → (named.is_write v y || named.is_read v y) ≡ true → is_access y ≡ true
either_accesses v (Write w) e = refl
either_accesses v (Read w) e = refl
either_accesses v _ e = absurd (false≢true e)

second_accesses : (files : Program) (x y : named.Action) → named.conflicts files x y ≡ true → is_access y ≡ true
second_accesses files (Read v) y e = written_accesses v y (and_parts _ _ e).1
second_accesses files (Write v) y e = either_accesses v y (and_parts _ _ e).1
second_accesses files _ y e = absurd (false≢true e)

module _ (trees : Program) (apart : AreApart (names_of trees)) (frames : ℕ) (state : State) where
  abbrev count : ℕ
  count = length state.world.threads

  abbrev its_name : Action → named.Action
  its_name a = named_action (names_of trees) a

  -- what is told of a thread is among its next actions
  pub told_in : (t : ℕ) (a : Action) → DoesAccess trees frames state t a → IsIn (next_actions trees frames state t) (in_event t 0 (its_name a))
  told_in t a h =
      mapped (in_event t 0) (actions_of trees frames state (record { thread = t; pick = 0 })) (its_name a)
      (kept_from is_access (actions_of trees frames state (record { thread = t; pick = 0 })) (its_name a) h.place
      (ap (λ xs. slice_get xs h.place) (sym h.are.are) ∙ mapped_at its_name h.told a h.place h.at))

  -- and right
  is_right : (t : ℕ) (a : Action) → DoesAccess trees frames state t a → IsRight (names_of trees) trees a
  is_right t a h = h.are.right.each h.place a h.at

  pub alike : (a b : RunAction) → DoesAccess trees frames state a.thread a.action → DoesAccess trees frames state b.thread b.action
      → (memory_order trees).conflict (in_event a.thread 0 (its_name a.action)) (in_event b.thread 0 (its_name b.action)) ≡ do_conflict a b
  alike a b g h = ap (λ t. not (a.thread == b.thread) && t) (conflicts_alike (names_of trees) trees apart a.action b.action (is_right a.thread a.action g) (is_right b.thread b.action h))

  -- two that conflict make the state racy
  pub racy_by : (a b : RunAction) → a.thread < count → b.thread < count → DoesAccess trees frames state a.thread a.action
      → DoesAccess trees frames state b.thread b.action → do_conflict a b ≡ true → IsRacy trees frames state
  racy_by a b below other_below g h e =
      let first = told_in a.thread a.action g in
      let second = told_in b.thread b.action h in
      let x = in_event a.thread 0 (its_name a.action) in
      let y = in_event b.thread 0 (its_name b.action) in
      let these = next_actions trees frames state a.thread in
      let others = next_actions trees frames state b.thread in
      let meets : have_conflict trees these others ≡ true =
      any_of (λ c. list_any (λ d. (memory_order trees).conflict c d) others) these x first.place first.at
      (any_of (λ d. (memory_order trees).conflict x d) others y second.place second.at (alike a b g h ∙ e))
      in
      is_true (is_racy trees frames state)
      (any_of (λ t. list_any (λ u. have_conflict trees (next_actions trees frames state t) (next_actions trees frames state u)) (counting 0 count)) (counting 0 count)
      a.thread a.thread (counted_at count a.thread below)
      (any_of (λ u. have_conflict trees these (next_actions trees frames state u)) (counting 0 count) b.thread b.thread (counted_at count b.thread other_below) meets))

  -- an access of a thread is among those that are told of it
  record Told (t : ℕ) (x : named.Action) (told : List Action) : Type 0 where
    access : Action
    place : ℕ
    at : slice_get told place ≡ Some access
    named_so : its_name access ≡ x

  told_from : (t : ℕ) (x : named.Action) (k : ℕ) → slice_get (actions_of trees frames state (record { thread = t; pick = 0 })) k ≡ Some x → is_access x ≡ true
      → (told : List Action) → AreAccesses trees frames state t told → Told t x told
  told_from t x k e access told h =
      let held = kept is_access (actions_of trees frames state (record { thread = t; pick = 0 })) x k e access in
      let from = mapped_from its_name told x held.place (ap (λ xs. slice_get xs held.place) h.are ∙ held.at) in
      record { access = from.item; place = from.is_in.place; at = from.is_in.at; named_so = from.is }

  module _ (p : LinkedProgram) (shared : Shared) (bounds : Bounds) (frames_are : bounds.frames ≡ frames) (reached : IsReached trees p bounds shared state)
      (found : List RunAction) (threads : ℕ) (threads_are : threads ≡ count) (next : AreNext trees p shared threads found) where
    its : (t : ℕ) (told : List Action) → AreAccesses trees bounds.frames state t told → AreAccesses trees frames state t told
    its t told h = subst (λ n. AreAccesses trees n state t told) frames_are h

    does : (t : ℕ) (a : Action) → IsNext trees p shared t a → DoesAccess trees frames state t a
    does t a n = record { told = n.told; are = its t n.told (n.tells bounds state reached); place = n.place; at = n.at }

    -- ---- a race that is told

    pub race_at : (race : Race) → IsRaceOf found race → IsRaceAt trees frames state race
    race_at race h =
        let first = next.each h.place h.first h.at in
        let second = next.each h.other_place h.second h.other_at in
        let these = does h.first.thread h.first.action first.1 in
        let others = does h.second.thread h.second.action second.1 in
        subst (IsRaceAt trees frames state) (sym h.is)
        (record {
          racy = racy_by h.first h.second (subst (λ n. h.first.thread < n) threads_are first.0) (subst (λ n. h.second.thread < n) threads_are second.0) these others h.do_so;
          these = these;
          others = others;
          do_so = h.do_so;
        })

    -- ---- none

    record InFound (t : ℕ) (x : named.Action) : Type 0 where
      access : Action
      place : ℕ
      at : slice_get found place ≡ Some (next_of t access)
      named_so : its_name access ≡ x
      tells : DoesAccess trees frames state t access

    in_found : (t : ℕ) → t < count → (x : named.Action) (k : ℕ) → slice_get (actions_of trees frames state (record { thread = t; pick = 0 })) k ≡ Some x
        → is_access x ≡ true → InFound t x
    in_found t below x k e access =
        let f = next.all t (subst (λ n. t < n) (sym threads_are) below) in
        let tells = its t f.told (f.tells bounds state reached) in
        let told = told_from t x k e access f.told tells in
        let among = f.among told.place told.access told.at in
        record {
          access = told.access;
          place = among.0;
          at = among.1;
          named_so = told.named_so;
          tells = record { told = f.told; are = tells; place = told.place; at = told.at };
        }

    pub none_racy : list_any (λ a. list_any (do_conflict a) found) found ≡ false → IsRacy trees frames state → ⊥
    none_racy none racy =
        let t = passing (λ t. list_any (λ u. have_conflict trees (next_actions trees frames state t) (next_actions trees frames state u)) (counting 0 count)) (counting 0 count)
        (true_of (is_racy trees frames state) racy) in
        let u = passing (λ u. have_conflict trees (next_actions trees frames state t.item) (next_actions trees frames state u)) (counting 0 count) t.passes in
        let a = passing (λ c. list_any (λ d. (memory_order trees).conflict c d) (next_actions trees frames state u.item)) (next_actions trees frames state t.item) u.passes in
        let b = passing (λ d. (memory_order trees).conflict a.item d) (next_actions trees frames state u.item) a.passes in
        by t.item u.item (counted_within count t.is_in.place t.item t.is_in.at) (counted_within count u.is_in.place u.item u.is_in.at) a.item b.item
        (mapped_from (in_event t.item 0) _ a.item a.is_in.place a.is_in.at) (mapped_from (in_event u.item 0) _ b.item b.is_in.place b.is_in.at) b.passes
      where
        by : (t u : ℕ) → t < count → u < count → (a b : ActionOfRun)
            → MappedFrom (in_event t 0) (actions_of trees frames state (record { thread = t; pick = 0 })) a
            → MappedFrom (in_event u 0) (actions_of trees frames state (record { thread = u; pick = 0 })) b
            → (memory_order trees).conflict a b ≡ true → ⊥
        by t u below other_below a b g h e =
            let conflict_is : (memory_order trees).conflict (in_event t 0 g.item) (in_event u 0 h.item) ≡ true =
            ap (λ (c : ActionOfRun). (memory_order trees).conflict c (in_event u 0 h.item)) g.is ∙ ap (λ (d : ActionOfRun). (memory_order trees).conflict a d) h.is ∙ e
            in
            let so : named.conflicts trees g.item h.item ≡ true = (and_parts (not (t == u)) (named.conflicts trees g.item h.item) conflict_is).1 in
            let one = in_found t below g.item g.is_in.place g.is_in.at (first_accesses trees g.item h.item so) in
            let two = in_found u other_below h.item h.is_in.place h.is_in.at (second_accesses trees g.item h.item so) in
            let told : do_conflict (next_of t one.access) (next_of u two.access) ≡ true =
            sym (alike (next_of t one.access) (next_of u two.access) one.tells two.tells)
            ∙ ap (λ (x : named.Action). (memory_order trees).conflict (in_event t 0 x) (in_event u 0 (its_name two.access))) one.named_so
            ∙ ap (λ (y : named.Action). (memory_order trees).conflict (in_event t 0 g.item) (in_event u 0 y)) two.named_so
            ∙ conflict_is
            in
            false≢true (sym none ∙ any_of (λ a. list_any (do_conflict a) found) found (next_of t one.access) one.place one.at (any_of (do_conflict (next_of t one.access)) found (next_of u two.access) two.place two.at told))

    pub race_if : (told : Option Race) → IsRaceIn found told → IsRaceIf trees frames state told
    race_if None h = none_racy h
    race_if (Some race) h = race_at race h

-- ---- of a machine

pub reached_by : (trees : Program) (m : MachineOf) (files : List (List ℕ)) (events : List Event) (state : State) → HasDone m files trees events
    → run trees m.limits.frames events ≡ Some state → IsReached trees m.program (bounds_of m.limits) m.shared state
reached_by trees m files events state done e =
    let same : done.run.lead.state ≡ state = same_Some _ _ (sym done.run.lead.reached ∙ e) in
    record {
      files = files;
      accepted = done.accepted;
      program = done.program;
      events = events;
      reached = e;
      inflated = _;
      shown =
          subst (λ (w : StateOf ℕ). IsShown trees m.program (bounds_of m.limits) _ m.shared w) (done.run.lead.are.are ∙ ap words_of same) done.run.shown;
    }

pub race_told : (trees : Program) → AreApart (names_of trees) → (m : MachineOf) (found : List RunAction) (threads : ℕ) → threads ≡ length m.shared.threads.threads
    → AreNext trees m.program m.shared threads found → (told : Option Race) → IsRaceIn found told → TellsRace trees m told
race_told trees apart m found threads count next told h files events state done e =
    let reached = reached_by trees m files events state done e in
    race_if trees apart m.limits.frames state m.program m.shared (bounds_of m.limits) refl reached found threads
    (count ∙ ap (λ (ts : List Thread). length ts) reached.shown.represents.world_is.threads) next told h

-- by what functions answered of a machine
pub race_of_machine : (trees : Program) → AreApart (names_of trees) → (m : MachineOf) (p : LinkedProgram) → p ≡ m.program → (shared : Shared) → shared ≡ m.shared
    → (threads : ℕ) → threads ≡ length shared.threads.threads → (found : List RunAction) → AreNext trees p shared threads found
    → (actions : List RunAction) → actions ≡ found → (told : Option Race) → IsRaceIn actions told → TellsRace trees m told
race_of_machine trees apart m p e shared f threads count found next actions g told h =
    race_told trees apart m found threads (count ∙ ap (λ (s : Shared). length s.threads.threads) f)
    (subst (λ (s : Shared). AreNext trees m.program s threads found) f (subst (λ (q : LinkedProgram). AreNext trees q shared threads found) e next)) told
    (subst (λ (xs : List RunAction). IsRaceIn xs told) g h)

pub racy_told : (trees : Program) (m : MachineOf) (told : Option Race) → TellsRace trees m told → (answer : Bool) → answer ≡ is_some told → TellsState trees m IsRacy answer
racy_told trees m told h answer is files events state done e =
    subst (λ b. (IsTrue b → IsRacy trees m.limits.frames state) × (IsFalse b → IsRacy trees m.limits.frames state → ⊥)) (sym is) (by told (h files events state done e))
  where
    by : (told : Option Race) → IsRaceIf trees m.limits.frames state told
        → (IsTrue (is_some told) → IsRacy trees m.limits.frames state) × (IsFalse (is_some told) → IsRacy trees m.limits.frames state → ⊥)
    by None h = (λ t. absurd (false≢true t), λ f. h)
    by (Some race) h = (λ t. h.racy, λ f r. true≢false f)
