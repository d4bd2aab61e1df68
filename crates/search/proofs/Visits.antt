-- A state that is visited.
use Rattle.std.proofs.Common.{◌≡◌, ℕ, suc, ◌<◌, ◌≤◌, List, [], length, get_or, Bool, true, false, ◌||◌, ◌⊎◌, inl, inr, nat_le, Option, Some, None, refl, sym, ap, subst, ◌∙◌, arith}
use Rattle.std.specs.Prelude.{IsTrue, IsFalse}
use Rattle.std.proofs.lemmas.Bool.{true≢false}
use Rattle.std.proofs.lemmas.Bool.Decides.{leb_tells}
use Rattle.std.proofs.lemmas.Option.{slice_get-get_or}
use Rattle.model.specs.declared.event.Event.{Event}
use Rattle.model.specs.declared.limits.Limits.{Limits}
use Rattle.model.specs.Classes.{Program}
use Rattle.model.specs.LimitStands.{bounds_of, within_limits}
use Rattle.model.specs.Run.{run, is_quiet}
use Rattle.model.specs.State.{State}
use Rattle.run_laws.specs.interleavings.Ends.{Outcome, outcome_of, EndsWith, Has}
use Rattle.data_races.specs.Races.{IsRacy}
use Rattle.machine.specs.Machines.{MachineOf, IsProgramOf}
use Rattle.machine.specs.schedule_runs.Done.{HasDone}
use Rattle.search.specs.met_states.Met.{AreMetStatesKept}
use Rattle.search.specs.declared.kinds.Goal.{Goal}
use Rattle.search.specs.declared.kinds.Goal.TheVariants as goals
use Rattle.search.specs.declared.kinds.Kind.{Kind}
use Rattle.search.specs.declared.kinds.Kind.TheVariants as kind
use Rattle.search.specs.declared.kinds.Kinds.{Kinds}
use Rattle.search.specs.declared.run_outcomes.outcomes.Outcome.{Outcome as TheOutcome}
use Rattle.search.specs.declared.run_outcomes.wanted.Wanted.{Wanted}
use Rattle.search.specs.run_outcomes.Outcomes.{told_by, IsWanted, IsAdded}
use Rattle.search.specs.GivingUp.{GivesUp, IsStopped}
use Rattle.search.specs.RacyStates.{IsRacyAt, HasRaceAt, first_race}
use Rattle.search.specs.Kinds.{Shows, ShowsItself, IsShown, is_told, and_also, wanted_of, is_sought}
use Rattle.search.specs.States.{StatesOf, IsSchedule, AreAllMet, Grows, GrowsTo}
use Rattle.search.specs.Verdicts.{IsFound, ComesTo, IsRunFor}
use Rattle.search.specs.declared.states.Walk.{Walk}
use Rattle.search.specs.declared.visiting.Seen.{Seen}
use Rattle.search.specs.Walks.{IsThere}
use Rattle.search.specs.Visits.{AreListed, AreToldBelow, HasVisited, AreOf, ShowsAt, IsWantedIf, IsAddedIf, IsSeen, IsSeenOr}
use Rattle.search.proofs.Growth.{earlier, still_met, within}
use Rattle.search.proofs.KindLists.{told_or, or_told, sought_one, unsought_both}
use Rattle.search.proofs.RacyStates.{one_more, still_racy}

-- a state that is of a kind by itself is
pub shown_by : (trees : Program) (frames : ℕ) (k : Kind) (state : State) → ShowsItself trees frames k state → Shows trees frames k state
shown_by trees frames kind.Race state shows = shows
shown_by trees frames kind.Uncaught state shows = shows
shown_by trees frames kind.Deadlock state shows = shows
shown_by trees frames kind.Endless state shows = absurd shows

-- ---- once its events were tried

module _ (trees : Program) (limits : Limits) (goal : Goal) (s s_new : StatesOf) (seen : Seen) (number : ℕ)
    (visited : HasVisited trees limits goal s seen number) (lt : number < length s.schedules) where
  -- as many have been visited when there are more
  module _ (kept : AreMetStatesKept) (grows : Grows s s_new) where
    pub still_visited : HasVisited trees limits goal s_new seen number
    still_visited = record {
      program = subst (IsProgramOf trees) (sym grows.program) visited.program;
      limits_are = grows.limits_are ∙ visited.limits_are;
      opened = grows.kept 0 [] visited.opened;
      met = λ k before event. still_met s s_new grows k (omega (arith, before, lt)) kept event (visited.met k before event);
      led = grows.led visited.led;
      outcomes_are = record {
        listed = λ k events state before is r quiet.
            visited.outcomes_are.listed k events state before (earlier s s_new grows k (omega (arith, before, lt)) events is) r quiet;
        only = visited.outcomes_are.only;
        none = visited.outcomes_are.none;
      };
      kinds_are = record {
        told = λ kind k events state before is r shows.
            visited.kinds_are.told kind k events state before (earlier s s_new grows k (omega (arith, before, lt)) events is) r shows;
        only = visited.kinds_are.only;
        unsought = visited.kinds_are.unsought;
      };
    }

-- ---- the state in which the machine of a walk is

module _ (trees : Program) (limits : Limits) (goal : Goal) (walk : Walk) (seen : Seen) (number : ℕ)
    (visited : HasVisited trees limits goal walk.states seen number) (lt : number < length walk.states.schedules) (there : IsThere walk.states number walk)
    (o : Option TheOutcome) (kinds : Kinds) (shows : ShowsAt trees walk o kinds) where
  -- the run that its schedule is
  module _ (events : List Event) (is : IsSchedule walk.states number events) where
    done : HasDone walk.machine visited.program.files trees events
    done = (there.is_in events is).done visited.program.files trees visited.program.accepted visited.program.program

    same : walk.machine.limits ≡ limits
    same = (there.is_in events is).limits_are ∙ visited.limits_are

    reached : run trees limits.frames events ≡ Some done.run.lead.state
    reached = subst (λ (l : Limits). run trees l.frames events ≡ Some done.run.lead.state) same done.run.lead.reached

    within_them : IsTrue (within_limits trees (bounds_of limits) events)
    within_them = subst (λ (l : Limits). IsTrue (within_limits trees (bounds_of l) events)) same done.run.lead.within

    are_of : (state : State) → run trees limits.frames events ≡ Some state → AreOf trees limits.frames o kinds state
    are_of state r =
        let before : run trees walk.states.limits.frames events ≡ Some state = subst (λ (l : Limits). run trees l.frames events ≡ Some state) (sym visited.limits_are) r in
        subst (λ (l : Limits). AreOf trees l.frames o kinds state) visited.limits_are (shows number there visited.program events state is before)

    here : AreOf trees limits.frames o kinds done.run.lead.state
    here = are_of done.run.lead.state reached

    comes : (P : State → Type 0) → P done.run.lead.state → ComesTo trees limits P events
    comes P p = record { state = done.run.lead.state; reached = reached; within = within_them; is = p }

  -- some schedule leads there
  own : List Event
  own = get_or walk.states.schedules number []

  is_own : IsSchedule walk.states number own
  unfolding own
  is_own = slice_get-get_or walk.states.schedules number [] lt

  -- ---- it is racy

  pub racy_here : kinds.race ≡ true → IsRacyAt trees limits walk.states number
  racy_here e = record {
    within = lt;
    events = own;
    at = is_own;
    comes = comes own is_own (IsRacy trees limits.frames) (((here own is_own).kinds_are kind.Race).0 e);
  }

  -- ---- it is to be found

  ends_with : (one : TheOutcome) → o ≡ Some one → (events : List Event) → IsSchedule walk.states number events → EndsWith trees limits.frames events (told_by one)
  ends_with one e events is =
      let ends = subst (λ x. AreOf trees limits.frames x kinds (done events is).run.lead.state) e (here events is) in
      record { state = (done events is).run.lead.state; reached = reached events is; quiet = ends.outcome_is.0; outcome_is = sym ends.outcome_is.1 }

  found_wanted : (g : Goal) (one : TheOutcome) → o ≡ Some one → IsWanted (wanted_of g) (told_by one) → (events : List Event) → IsSchedule walk.states number events
      → IsRunFor trees limits g events
  found_wanted (goals.Outcome want) one e wanted events is =
      record { outcome = told_by one; ends = ends_with one e events is; within = within_them events is; is_wanted = wanted }
  found_wanted (goals.Kind k) one e wanted events is = absurd wanted
  found_wanted goals.AnyKind one e wanted events is = absurd wanted

  found_outcome : (x : Option TheOutcome) → o ≡ x → IsWantedIf goal x → (events : List Event) → IsSchedule walk.states number events → IsRunFor trees limits goal events
  found_outcome None e wanted events is = absurd wanted
  found_outcome (Some one) e wanted events is = found_wanted goal one e wanted events is

  found_kind : (g : Goal) → is_sought g kinds ≡ true → (events : List Event) → IsSchedule walk.states number events → IsRunFor trees limits g events
  found_kind (goals.Outcome want) e events is = absurd (true≢false (sym e))
  found_kind (goals.Kind k) e events is = comes events is (Shows trees limits.frames k) (shown_by trees limits.frames k _ (((here events is).kinds_are k).0 e))
  found_kind goals.AnyKind e events is =
      let one = sought_one kinds e in
      comes events is (λ state. (k : Kind) × Shows trees limits.frames k state) (one.0, shown_by trees limits.frames one.0 _ (((here events is).kinds_are one.0).0 one.1))

  module _ (new : Seen) where
    pub found : IsSeenOr goal o kinds true seen new → (events : List Event) → IsSchedule walk.states number events → IsRunFor trees limits goal events
    found seen_or events is = elim seen_or [
      | inl wanted ↦ found_outcome o refl wanted events is
      | inr sought ↦ found_kind goal sought events is
    ]

    -- ---- it is listed

    abbrev Last : (k : ℕ) → Type 0
    Last k = ((nat_le number k ≡ true) × (number ≤ k)) ⊎ ((nat_le number k ≡ false) × (k < number))

    abbrev want : Wanted
    want = wanted_of goal

    none_listed : o ≡ None → new.outcomes ≡ seen.outcomes → AreListed trees limits.frames want walk.states.schedules new.outcomes (suc number)
    none_listed none still = subst (λ l. AreListed trees limits.frames want walk.states.schedules l (suc number)) (sym still)
        (record { listed = λ k events state before is r quiet. by k events state before is r quiet (leb_tells number k); only = visited.outcomes_are.only; none = visited.outcomes_are.none })
      where
        by : (k : ℕ) (events : List Event) (state : State) → k < suc number → IsSchedule walk.states k events
            → run trees limits.frames events ≡ Some state → IsTrue (is_quiet trees limits.frames state) → Last k → Has seen.outcomes (outcome_of trees limits.frames state)
        by k events state before is r quiet (inr h) = visited.outcomes_are.listed k events state h.1 is r quiet
        by k events state before is r quiet (inl h) =
            let this : k ≡ number = omega (arith, before, h.1) in
            let not = subst (λ x. AreOf trees limits.frames x kinds state) none (are_of events (subst (λ n. IsSchedule walk.states n events) this is) state r) in
            absurd (true≢false (sym quiet ∙ not.outcome_is))

    one_listed : (one : TheOutcome) → o ≡ Some one → (IsWanted want (told_by one) → ⊥) → IsAdded (told_by one) seen.outcomes new.outcomes
        → AreListed trees limits.frames want walk.states.schedules new.outcomes (suc number)
    one_listed one some unwanted added =
        record {
          listed = λ k events state before is r quiet. by k events state before is r quiet (leb_tells number k);
          only = λ outcome h. of_run outcome (added.only outcome h);
          none = λ outcome h. not_wanted outcome (added.only outcome h);
        }
      where
        by : (k : ℕ) (events : List Event) (state : State) → k < suc number → IsSchedule walk.states k events
            → run trees limits.frames events ≡ Some state → IsTrue (is_quiet trees limits.frames state) → Last k → Has new.outcomes (outcome_of trees limits.frames state)
        by k events state before is r quiet (inr h) = added.kept _ (visited.outcomes_are.listed k events state h.1 is r quiet)
        by k events state before is r quiet (inl h) =
            let this : k ≡ number = omega (arith, before, h.1) in
            let ends = subst (λ x. AreOf trees limits.frames x kinds state) some (are_of events (subst (λ n. IsSchedule walk.states n events) this is) state r) in
            subst (Has new.outcomes) ends.outcome_is.1 added.has

        of_run : (outcome : Outcome) → Has seen.outcomes outcome ⊎ (outcome ≡ told_by one)
            → (events : List Event) × EndsWith trees limits.frames events outcome
        of_run outcome (inl h) = visited.outcomes_are.only outcome h
        of_run outcome (inr e) = subst (λ x. (events : List Event) × EndsWith trees limits.frames events x) (sym e) (own, ends_with one some own is_own)

        not_wanted : (outcome : Outcome) → Has seen.outcomes outcome ⊎ (outcome ≡ told_by one) → IsWanted want outcome → ⊥
        not_wanted outcome (inl h) w = visited.outcomes_are.none outcome h w
        not_wanted outcome (inr e) w = unwanted (subst (IsWanted want) e w)

    now_listed : (x : Option TheOutcome) → o ≡ x → (IsWantedIf goal x → ⊥) → IsAddedIf x seen.outcomes new.outcomes
        → AreListed trees limits.frames want walk.states.schedules new.outcomes (suc number)
    now_listed None e unwanted added = none_listed e added
    now_listed (Some one) e unwanted added = one_listed one e unwanted added

    kinds_told : IsFalse (is_sought goal kinds) → new.kinds ≡ and_also seen.kinds kinds → AreToldBelow trees limits.frames goal walk.states.schedules new.kinds (suc number)
    kinds_told unsought are = subst (λ k. AreToldBelow trees limits.frames goal walk.states.schedules k (suc number)) (sym are)
        (record {
          told = λ k n events state before is r shows. or_told k seen.kinds kinds (by k n events state before is r shows (leb_tells number n));
          only = λ k e. only k (told_or k seen.kinds kinds e);
          unsought = unsought_both goal seen.kinds kinds visited.kinds_are.unsought unsought;
        })
      where
        by : (k : Kind) (n : ℕ) (events : List Event) (state : State) → n < suc number → IsSchedule walk.states n events
            → run trees limits.frames events ≡ Some state → ShowsItself trees limits.frames k state → Last n → IsTrue (is_told seen.kinds k) ⊎ IsTrue (is_told kinds k)
        by k n events state before is r shows (inr h) = inl (visited.kinds_are.told k n events state h.1 is r shows)
        by k n events state before is r shows (inl h) =
            let this : n ≡ number = omega (arith, before, h.1) in
            let at = are_of events (subst (λ i. IsSchedule walk.states i events) this is) state r in
            inr (told_true (is_told kinds k) (λ off. (at.kinds_are k).1 off shows))
          where
            told_true : (b : Bool) → (b ≡ false → ⊥) → b ≡ true
            told_true true not = refl
            told_true false not = absurd (not refl)

        only : (k : Kind) → IsTrue (is_told seen.kinds k) ⊎ IsTrue (is_told kinds k) → IsShown trees limits.frames k
        only k (inl e) = visited.kinds_are.only k e
        only k (inr e) =
            ((done own is_own).run.lead.state, (own, reached own is_own), shown_by trees limits.frames k _ (((here own is_own).kinds_are k).0 e))

    pub visited_next : AreAllMet walk.states number → IsSeenOr goal o kinds false seen new → HasVisited trees limits goal walk.states new (suc number)
    visited_next met listed = record {
      program = visited.program;
      limits_are = visited.limits_are;
      opened = visited.opened;
      met = λ k before. by k before (leb_tells number k);
      led = visited.led;
      outcomes_are = now_listed o refl listed.unwanted listed.outcomes_are;
      kinds_are = kinds_told listed.unsought listed.kinds_are;
    }
      where
        by : (k : ℕ) → k < suc number → Last k → AreAllMet walk.states k
        by k before (inl h) = let this : number ≡ k = omega (arith, before, h.1) in subst (AreAllMet walk.states) this met
        by k before (inr h) = visited.met k h.1

-- ---- what comes of it

module _ (trees : Program) (limits : Limits) (goal : Goal) (s : StatesOf) (seen new : Seen) (number : ℕ)
    (visited : HasVisited trees limits goal s seen number) (lt : number < length s.schedules) (kept : AreMetStatesKept) (most : ℕ) (walk : Walk)
    (o : Option TheOutcome) (kinds : Kinds) (shows : ShowsAt trees walk o kinds)
    (grown : GrowsTo (λ x. AreAllMet x number × IsThere x number walk) most s walk.states true) where
  now : HasVisited trees limits goal walk.states seen number
  now = still_visited trees limits goal s walk.states seen number visited lt kept grown.grows

  pub found_there : IsSeenOr goal o kinds true seen new → (events : List Event) → IsSchedule walk.states number events → IsRunFor trees limits goal events
  found_there seen_or events is =
      found trees limits goal walk seen number now (within s walk.states grown.grows number lt) (grown.then refl).1 o kinds shows new seen_or events is

  pub visited_there : IsSeenOr goal o kinds false seen new → HasVisited trees limits goal walk.states new (suc number)
  visited_there listed =
      visited_next trees limits goal walk seen number now (within s walk.states grown.grows number lt) (grown.then refl).1 o kinds shows new (grown.then refl).0 listed

  -- the first racy state
  pub race_there : (race : Option ℕ) → HasRaceAt trees limits s seen.kinds.race race → IsSeenOr goal o kinds false seen new
      → HasRaceAt trees limits walk.states new.kinds.race (first_race race kinds.race number)
  race_there race has listed =
      subst (λ (k : Kinds). HasRaceAt trees limits walk.states k.race (first_race race kinds.race number)) (sym listed.kinds_are)
      (one_more trees limits walk.states number seen.kinds.race race (still_racy trees limits s walk.states grown.grows seen.kinds.race race has) kinds.race
      (racy_here trees limits goal walk seen number now (within s walk.states grown.grows number lt) (grown.then refl).1 o kinds shows))

-- it gave up
pub gave_up_there : (trees : Program) (limits : Limits) (goal : Goal) (s s_new : StatesOf) (seen : Seen) (number : ℕ)
    → HasVisited trees limits goal s seen number → (P : StatesOf → Type 0) (most : ℕ) → GrowsTo P most s s_new false → GivesUp trees limits most (length s_new.schedules)
gave_up_there trees limits goal s s_new seen number visited P most grown = elim (grown.gave_up refl) [
  | inl full ↦ inl full
  | inr cant ↦
      let program : IsProgramOf trees s_new.program = subst (IsProgramOf trees) (sym grown.grows.program) visited.program in
      inr (subst (IsStopped trees) (grown.grows.limits_are ∙ visited.limits_are) (cant program.files trees program.accepted program.program))
]
