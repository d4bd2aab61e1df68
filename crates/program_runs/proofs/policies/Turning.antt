-- Turn after turn, by whatever a policy keeps from one to the next, until there is an end.
use Rattle.std.proofs.Common.{◌≡◌, ◌⊎◌, inl, inr, ◌<◌, ◌≤◌, ◌+◌, ◌-◌, ℕ, zero, suc, List, [], ◌∷◌, ◌++◌, Option, Some, None, Bool, true, false, length, refl, sym, ap, subst, ◌∙◌, append_assoc, arith}
use Rattle.std.specs.Prelude.{is_some, nat_lt, if◌then◌else◌}
use Rattle.std.proofs.Math.Decide.{dec_lt}
use Rattle.std.proofs.lemmas.Bool.Decides.{nat_tests}
use Rattle.std.proofs.lemmas.List.{append-nil, length-append}
use Rattle.std.proofs.lemmas.Option.{none-some}
use Rattle.model.specs.declared.end.End.{End}
use Rattle.model.specs.declared.end.End.TheVariants as ends
use Rattle.model.specs.declared.event.Event.{Event}
use Rattle.model.specs.declared.limits.Limits.{Limits}
use Rattle.model.specs.Classes.{Program}
use Rattle.model.specs.LimitStands.{Bounds, bounds_of}
use Rattle.program_runs.specs.policies.PolicyTurns.{DoesTurn, HasRunThrough, IsOn, IsOver, IsShort}
use Rattle.program_runs.specs.policies.Runs.{Turned, turns}
use Rattle.program_runs.specs.worlds.Worlds.{WorldOf, Holds, IsOfLess, IsOfSame, StopsFor, stopped_world}
use Rattle.program_runs.proofs.worlds.Staying.{joined, less_of}

by_true : {A : Type 0} (b : Bool) (x y : A) → b ≡ true → (if b then x else y) ≡ x
by_true true x y e = refl
by_true false x y e = absurd cc

by_false : {A : Type 0} (b : Bool) (x y : A) → b ≡ false → (if b then x else y) ≡ y
by_false false x y e = refl
by_false true x y e = absurd cc

nil_if : (l : List Event) → length l ≡ 0 → l ≡ []
nil_if [] e = refl
nil_if (x ∷ l) e = absurd cc

-- events are added behind those that there are
abbrev pub Appends : List Event → List Event → Type 0
Appends done new = (more : List Event) × (new ≡ done ++ more)

module _ {Kept : Type 0} (next : Kept → List Event → Turned Kept) (appends : (kept : Kept) (done : List Event) → Appends done (next kept done).events) where
  turns_append : (most : ℕ) (kept : Kept) (done : List Event) → Appends done (turns next most kept done)
  turns_append zero kept done = ([], sym (append-nil done))
  turns_append (suc most) kept done = by (nat_lt (length done) (length (next kept done).events)) (turns_append most (next kept done).kept (next kept done).events)
    where
      by : (b : Bool) → Appends (next kept done).events (turns next most (next kept done).kept (next kept done).events)
          → Appends done (if b then turns next most (next kept done).kept (next kept done).events else done)
      by false rest = ([], sym (append-nil done))
      by true rest =
          let first = appends kept done in
          (first.0 ++ rest.0, rest.1 ∙ ap (λ l. l ++ rest.0) first.1 ∙ append_assoc done first.0 rest.0)

  -- after so many turns, with what is kept then, what is left to do leads to these events
  pub record IsGoing (all : List Event) (first w : WorldOf) (kept : Kept) (k : ℕ) : Type 0 where
    pub same : IsOfSame first w
    pub on : w.end ≡ None
    pub few : k ≤ length w.events
    pub leads : turns next (first.budget + 1 - k) kept w.events ≡ all

  module _ (may_stop : Bool) where
    pub record SoFar (all : List Event) (first w : WorldOf) (kept : Kept) (k : ℕ) : Type 0 where
      pub same : IsOfLess may_stop first w
      pub how : IsGoing all first w kept k ⊎ HasRunThrough may_stop all w

    pub begins : (w : WorldOf) (kept : Kept) → w.end ≡ None → w.events ≡ [] → SoFar (turns next (w.budget + 1) kept []) w w kept 0
    begins w kept on none =
        let same : IsOfSame w w = record { trees = refl; budget = refl; limits = refl } in
        record {
          same = less_of may_stop w w same;
          how = inl (record {
            same = same;
            on = on;
            few = omega arith;
            leads = let all : w.budget + 1 - 0 ≡ w.budget + 1 = omega arith in ap (λ n. turns next n kept w.events) all ∙ ap (turns next (w.budget + 1) kept) none;
          });
        }

    module _ (all : List Event) (first w : WorldOf) (kept : Kept) (k : ℕ) (so_far : SoFar all first w kept k) where
      -- where there is an end
      pub over : (end : End) → w.end ≡ Some end → HasRunThrough may_stop all w
      over end is = by so_far.how
        where
          by : IsGoing all first w kept k ⊎ HasRunThrough may_stop all w → HasRunThrough may_stop all w
          by (inl going) = absurd (none-some end (sym going.on ∙ is))
          by (inr through) = through

      -- each turn did an event, so there is one behind more turns than the budget has events
      pub over_at_last : first.budget < k → Holds w → HasRunThrough may_stop all w
      over_at_last past holds = by so_far.how
        where
          by : IsGoing all first w kept k ⊎ HasRunThrough may_stop all w → HasRunThrough may_stop all w
          by (inl going) = absurd (omega (arith, past, going.few, holds.within, going.same.budget))
          by (inr through) = through

      module _ (on : w.end ≡ None) where
        -- where there is none
        pub going_on : IsGoing all first w kept k
        going_on = by so_far.how
          where
            by : IsGoing all first w kept k ⊎ HasRunThrough may_stop all w → IsGoing all first w kept k
            by (inl going) = going
            by (inr through) = absurd (none-some through.end (sym on ∙ through.is))

      -- a run is stopped there
      pub stopped : (new : WorldOf) → StopsFor may_stop w new → SoFar all first new kept k
      stopped new (inl still) = subst (λ (x : WorldOf). SoFar all first x kept k) (sym still) so_far
      stopped new (inr (may, on, within, is)) = subst (λ (x : WorldOf). SoFar all first x kept k) (sym is) there
        where
          there : SoFar all first (stopped_world w) kept k
          there =
              let going = going_on on in
              let rest = turns_append (first.budget + 1 - k) kept w.events in
              record {
                same = record { trees = going.same.trees; budget = inr (may, subst (λ b. length w.events ≤ b) going.same.budget within); limits = going.same.limits };
                how = inr (record { end = ends.Budget; is = refl; left = rest.0; front = sym going.leads ∙ rest.1; whole = inr (inr (may, refl)) });
              }

      module _ (on : w.end ≡ None) (few : k ≤ first.budget) (new : WorldOf) where
        abbrev turned : Turned Kept
        turned = next kept w.events

        module _ (going : IsGoing all first w kept k) where
          abbrev m : ℕ
          m = first.budget - k

          one_turn : turns next (suc m) kept w.events ≡ all
          one_turn = let is : suc m ≡ first.budget + 1 - k = omega (arith, few) in ap (λ n. turns next n kept w.events) is ∙ going.leads

          longer : length w.events < length turned.events → all ≡ turns next m turned.kept turned.events
          longer more =
              let is : nat_lt (length w.events) (length turned.events) ≡ true = grind (arith, nat_tests, more) in
              sym one_turn ∙ by_true _ _ _ is

          no_longer : length turned.events ≤ length w.events → all ≡ w.events
          no_longer le =
              let is : nat_lt (length w.events) (length turned.events) ≡ false = grind (arith, nat_tests, le) in
              sym one_turn ∙ by_false _ _ _ is

          is_on : IsOfSame w new → IsOn turned.events w new → IsGoing all first new turned.kept (k + 1)
          is_on same h =
              let left : first.budget + 1 - (k + 1) ≡ m = omega arith in
              record {
                same = joined first w new going.same same;
                on = h.on;
                few = omega (arith, going.few, h.more, ap length h.events);
                leads = ap (λ n. turns next n turned.kept new.events) left ∙ ap (turns next m turned.kept) h.events ∙ sym (longer h.more);
              }

          is_over : IsOver turned.events w new → HasRunThrough may_stop all new
          is_over h =
              let same : length turned.events ≡ length w.events = ap length h.none in
              record {
                end = h.end;
                is = h.is;
                left = [];
                front = no_longer (omega (arith, same)) ∙ sym h.events ∙ sym (append-nil new.events);
                whole = inl refl;
              }

          is_short : IsShort turned.events w new → HasRunThrough may_stop all new
          is_short h = by (dec_lt (length w.events) (length turned.events))
            where
              by : Dec (length w.events < length turned.events) → HasRunThrough may_stop all new
              by (yes lt) =
                  let rest = turns_append m turned.kept turned.events in
                  record {
                    end = h.end;
                    is = h.is;
                    left = h.left ++ rest.0;
                    front = longer lt ∙ rest.1 ∙ ap (λ l. l ++ rest.0) h.front ∙ append_assoc new.events h.left rest.0;
                    whole = inr (inl h.wants);
                  }
              by (no ge) =
                  let more = appends kept w.events in
                  let none : length more.0 ≡ 0 = omega (arith, ge, ap length more.1, length-append w.events more.0) in
                  let still : turned.events ≡ w.events = more.1 ∙ ap (λ l. w.events ++ l) (nil_if more.0 none) ∙ append-nil w.events in
                  record {
                    end = h.end;
                    is = h.is;
                    left = h.left;
                    front = no_longer (omega (arith, ge)) ∙ sym still ∙ h.front;
                    whole = inr (inl h.wants);
                  }

          goes : IsOfSame w new → IsOn turned.events w new ⊎ IsOver turned.events w new ⊎ IsShort turned.events w new
              → IsGoing all first new turned.kept (k + 1) ⊎ HasRunThrough may_stop all new
          goes same (inl h) = inl (is_on same h)
          goes same (inr (inl h)) = inr (is_over h)
          goes same (inr (inr h)) = inr (is_short h)

        pub goes_on : DoesTurn turned.events w new → SoFar all first new turned.kept (k + 1)
        goes_on does =
            let going = going_on on in
            record { same = less_of may_stop first new (joined first w new going.same does.same); how = goes going does.same does.how }

pub on_if : (w : WorldOf) (o : Option End) → o ≡ w.end → (r : Bool) → r ≡ is_some o → r ≡ false → w.end ≡ None
on_if w None is r some is_so = sym is
on_if w (Some end) is r some is_so = let bad : true ≡ false = sym some ∙ is_so in absurd cc

-- ---- by the files, the limits and the budget of a world

module _ {Kept : Type 0} (next_of : Program → Bounds → (budget : ℕ) → Kept → List Event → Turned Kept)
    (appends : (trees : Program) (bounds : Bounds) (budget : ℕ) (kept : Kept) (done : List Event) → Appends done (next_of trees bounds budget kept done).events)
    (may_stop : Bool) (first : WorldOf) (start : Kept) where
  abbrev pub next_in : WorldOf → Kept → List Event → Turned Kept
  next_in w = next_of w.trees (bounds_of w.machine.limits) w.budget

  abbrev appends_in : (kept : Kept) (done : List Event) → Appends done (next_in first kept done).events
  appends_in = appends first.trees (bounds_of first.machine.limits) first.budget

  -- the events of the policy, by what it keeps at first
  abbrev pub all_events : List Event
  all_events = turns (next_in first) (first.budget + 1) start []

  abbrev pub Far : WorldOf → Kept → (k : ℕ) → Type 0
  Far w kept k = SoFar (next_in first) appends_in may_stop all_events first w kept k

  -- before any turn
  pub far_at_first : (kept : Kept) → kept ≡ start → first.end ≡ None → first.events ≡ [] → Far first kept 0
  far_at_first kept same on none = subst (λ x. Far first x 0) (sym same) (begins (next_in first) appends_in may_stop first start on none)

  module _ (w : WorldOf) (kept : Kept) (k : ℕ) (far : Far w kept k) where
    next_is : IsOfSame first w → next_in w kept w.events ≡ next_in first kept w.events
    next_is same =
        ap (λ (t : Program). next_of t (bounds_of w.machine.limits) w.budget kept w.events) same.trees
        ∙ ap (λ (l : Limits). next_of first.trees (bounds_of l) w.budget kept w.events) same.limits
        ∙ ap (λ b. next_of first.trees (bounds_of first.machine.limits) b kept w.events) same.budget

    -- behind one turn more, where the run may be stopped
    pub far_behind : (new told : WorldOf) (later : Kept) → w.end ≡ None → k ≤ first.budget → DoesTurn (next_in w kept w.events).events w new
        → later ≡ (next_in w kept w.events).kept → StopsFor may_stop new told → Far told later (k + 1)
    far_behind new told later on few does keeps stops =
        let going = going_on (next_in first) appends_in may_stop all_events first w kept k far on in
        let by_first : DoesTurn (next_in first kept w.events).events w new = subst (λ (x : Turned Kept). DoesTurn x.events w new) (next_is going.same) does in
        let kept_is : (next_in first kept w.events).kept ≡ later = sym (keeps ∙ ap (λ (x : Turned Kept). x.kept) (next_is going.same)) in
        stopped (next_in first) appends_in may_stop all_events first new later (k + 1)
        (subst (λ x. Far new x (k + 1)) kept_is (goes_on (next_in first) appends_in may_stop all_events first w kept k far on few new by_first)) told stops

    -- the same, where what is kept is known as long as there is no end
    pub far_behind_if : (new told : WorldOf) (later : Kept) → w.end ≡ None → k ≤ first.budget → DoesTurn (next_in w kept w.events).events w new
        → (new.end ≡ None → later ≡ (next_in w kept w.events).kept) → StopsFor may_stop new told → Far told later (k + 1)
    far_behind_if new told later on few does keeps stops =
        let going = going_on (next_in first) appends_in may_stop all_events first w kept k far on in
        let by_first : DoesTurn (next_in first kept w.events).events w new = subst (λ (x : Turned Kept). DoesTurn x.events w new) (next_is going.same) does in
        let there = goes_on (next_in first) appends_in may_stop all_events first w kept k far on few new by_first in
        stopped (next_in first) appends_in may_stop all_events first new later (k + 1)
        (record { same = there.same; how = by there.how (λ e. keeps e ∙ ap (λ (x : Turned Kept). x.kept) (next_is going.same)) }) told stops
      where
        by : IsGoing (next_in first) appends_in all_events first new (next_in first kept w.events).kept (k + 1) ⊎ HasRunThrough may_stop all_events new
            → (new.end ≡ None → later ≡ (next_in first kept w.events).kept)
            → IsGoing (next_in first) appends_in all_events first new later (k + 1) ⊎ HasRunThrough may_stop all_events new
        by (inl h) kept_is = inl (subst (λ x. IsGoing (next_in first) appends_in all_events first new x (k + 1)) (sym (kept_is h.on)) h)
        by (inr h) kept_is = inr h

    -- where there is an end
    pub through_if : (o : Option End) → o ≡ w.end → (r : Bool) → r ≡ is_some o → r ≡ true → HasRunThrough may_stop all_events w
    through_if None is r some is_so = let bad : false ≡ true = sym some ∙ is_so in absurd cc
    through_if (Some end) is r some is_so = over (next_in first) appends_in may_stop all_events first w kept k far end (sym is)

    -- behind as many turns as there may be
    pub through_at_last : first.budget < k → (last : WorldOf) → last ≡ w → Holds last → HasRunThrough may_stop all_events last
    through_at_last past last same holds =
        subst (λ (x : WorldOf). HasRunThrough may_stop all_events x) (sym same)
        (over_at_last (next_in first) appends_in may_stop all_events first w kept k far past (subst Holds same holds))
