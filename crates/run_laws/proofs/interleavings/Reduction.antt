-- Why the reduced steps come to each end.
use Rattle.std.proofs.Common.{◌≡◌, ℕ, zero, suc, ◌+◌, ◌<◌, ◌≤◌, List, [], ◌∷◌, length, Bool, true, false, ◌==◌, Option, Some, None, refl, sym, ap, ◌∙◌, subst, arith}
use Rattle.std.specs.Prelude.{if◌then◌else◌, find, is_some, not}
use Rattle.std.specs.Option.{option_and_then}
use Rattle.std.specs.List.{list_all}
use Rattle.std.proofs.lemmas.Bool.{false≢true, eqb-true, eq-eqb, and_parts, and_from, not-true}
use Rattle.std.proofs.lemmas.Option.{same_Some, none-some, slice_get_within}
use Rattle.model.specs.declared.event.Event.{Event}
use Rattle.model.specs.declared.value.Value.{Value}
use Rattle.model.specs.Classes.{Program}
use Rattle.model.specs.Operands.{values}
use Rattle.model.specs.Opening.{opening}
use Rattle.model.specs.Outcomes.{Cost}
use Rattle.model.specs.Rows.{counting}
use Rattle.model.specs.State.{types_of, StackOf, State}
use Rattle.model.specs.WellTyped.{IsWellTyped}
use Rattle.model.specs.Accepted.{IsAccepted}
use Rattle.model.specs.Step.{SteppedOf, NotEnabled, WrongKind, Next, stepped, is_enabled_by, next_by, step}
use Rattle.model.specs.Run.{run_from, run, may_step, is_quiet}
use Rattle.run_laws.specs.laws.Steps.{is_wrong}
use Rattle.run_laws.proofs.typed_runs.Opened.{opening_typed}
use Rattle.run_laws.proofs.typed_runs.Settled.{lengths_same}
use Rattle.run_laws.proofs.soundness.Sound.{kept}
use Rattle.run_laws.specs.interleavings.Local.{next_local, is_local, with_stack}
use Rattle.run_laws.specs.interleavings.Reduced.{first_local, may_move, reduced_step, reduced_run_from, reduced_run}
use Rattle.run_laws.specs.interleavings.Ends.{Outcome, EndsWith, Has, AreAllOutcomes, IsSearched}
use Rattle.run_laws.specs.interleavings.Statements.{IsEachEndExplored, IsEachEndSeen, IsSearchComplete}
use Rattle.run_laws.proofs.interleavings.Own.{next_of, own_unpicked}
use Rattle.run_laws.proofs.interleavings.Commuting.{right, local_commutes, local_is_own}

-- ---- numbers of threads

-- what is found passes
found_passes : (p : ℕ → Bool) (xs : List ℕ) (t : ℕ) → find p xs ≡ Some t → p t ≡ true
found_passes p [] t e = absurd (none-some t e)
found_passes p (x ∷ xs) t e = by (p x) refl e (λ q. found_passes p xs t q)
  where
    by : (b : Bool) → p x ≡ b → (if b then Some x else find p xs) ≡ Some t → (find p xs ≡ Some t → p t ≡ true) → p t ≡ true
    by true q r rest = subst (λ k. p k ≡ true) (same_Some x t r) q
    by false q r rest = rest r

all_at : (p : ℕ → Bool) (k n t : ℕ) → list_all p (counting k n) ≡ true → k ≤ t → t < k + n → p t ≡ true
all_at p k zero t h le lt = absurd (omega arith)
all_at p k (suc n) t h le lt = by (k == t) refl (λ more. all_at p (suc k) n t (and_parts _ _ h).1 more (omega arith))
  where
    by : (b : Bool) → (k == t) ≡ b → (suc k ≤ t → p t ≡ true) → p t ≡ true
    by true e rest = subst (λ x. p x ≡ true) (eqb-true k t e) (and_parts _ _ h).0
    by false e rest = rest (past (λ q. false≢true (sym e ∙ eq-eqb k t q)))
      where
        past : (k ≡ t → ⊥) → suc k ≤ t
        past ne = omega (arith, ne)

all_from : (p : ℕ → Bool) (k n : ℕ) → ((t : ℕ) → p t ≡ true) → list_all p (counting k n) ≡ true
all_from p k zero h = refl
all_from p k (suc n) h = and_from _ _ (h k) (all_from p (suc k) n h)

some_is : {A : Type 0} (o : Option A) → is_some o ≡ true → (x : A) × (o ≡ Some x)
some_is None h = absurd (false≢true h)
some_is (Some x) h = (x, refl)

-- ---- steps

cost_of : (x : SteppedOf State) (next : State) → next_by x ≡ Some next → (cost : Cost) × (x ≡ Next cost next)
cost_of NotEnabled next e = absurd (none-some next e)
cost_of WrongKind next e = absurd (none-some next e)
cost_of (Next cost s) next e = (cost, ap (λ k. Next cost k) (same_Some s next e))

still_by : (x : SteppedOf State) → is_wrong x ≡ false → next_by x ≡ None → is_enabled_by x ≡ false
still_by NotEnabled w e = refl
still_by WrongKind w e = absurd (false≢true (sym w))
still_by (Next cost s) w e = absurd (none-some s (sym e))

-- a local event that can be done is done in each run to a quiet state, and may as well come first
pub record Moved (files : Program) (frames : ℕ) (state : State) (events : List Event) (last : State) : Type 0 where
  pub others : List Event
  pub shorter : length events ≡ suc (length others)
  pub ends : run_from files frames state others ≡ Some last

module _ (files : List (List ℕ)) (trees : Program) (accepted : IsAccepted files trees) (frames : ℕ) where
  abbrev pub go : State → Event → Option State
  go = step trees frames

  abbrev pub event_0 : ℕ → Event
  event_0 t = record { thread = t; pick = 0 }

  pub local_step : (state : State) → IsWellTyped trees state → (event : Event) (own : StackOf Value)
      → next_local trees state event.thread ≡ Some own → (event.pick == 0) ≡ true
      → go state event ≡ Some (with_stack state event.thread own)
  local_step state h event own e p = ap next_by (local_is_own files trees accepted frames state h event own e p)

  -- a thread of a local event is there
  within : (state : State) → IsWellTyped trees state → (t : ℕ) (own : StackOf Value) → next_local trees state t ≡ Some own
      → t < length state.world.threads
  within state h t own e =
      let n = next_of trees state t own e in
      let lt = slice_get_within state.stacks t n.stack n.there in
      omega (arith, lt, lengths_same trees (types_of state.world.heap) state.world.threads state.stacks h.threads)

  -- so its state isn't quiet
  not_quiet : (state : State) → IsWellTyped trees state → is_quiet trees frames state ≡ true → (t : ℕ) (own : StackOf Value)
      → next_local trees state t ≡ Some own → ⊥
  not_quiet state h q t own e =
      let lt = within state h t own e in
      let still : may_step trees frames state t ≡ false = not-true _ (all_at (λ u. not (may_step trees frames state u)) 0 (length state.world.threads) t q (omega arith) (omega (arith, lt))) in
      let goes : may_step trees frames state t ≡ true = ap is_enabled_by (local_is_own files trees accepted frames state h (event_0 t) own e refl) in
      false≢true (sym still ∙ goes)

  module _ (last : State) (quiet : is_quiet trees frames last ≡ true) where
    abbrev pub Runs : List Event → State → Type 0
    Runs events state = run_from trees frames state events ≡ Some last

    -- what is known of the events after the first one
    abbrev Rest : ℕ → StackOf Value → List Event → Type 0
    Rest t own events = (m : State) → IsWellTyped trees m → next_local trees m t ≡ Some own → Runs events m → Moved trees frames (with_stack m t own) events last

    pub move_front : (events : List Event) (state : State) → IsWellTyped trees state → (t : ℕ) (own : StackOf Value)
        → next_local trees state t ≡ Some own → Runs events state → Moved trees frames (with_stack state t own) events last
    move_front [] state h t own e r =
        let same : state ≡ last = same_Some state last r in
        absurd (not_quiet state h (subst (λ s. is_quiet trees frames s ≡ true) (sym same) quiet) t own e)
    move_front (event ∷ events) state h t own e r =
        by (t == event.thread) refl (go state event) refl r (λ m g x y. move_front events m g t own x y)
      where
        itself : t ≡ event.thread → (m : State) → go state event ≡ Some m → Runs events m → (b : Bool) → (event.pick == 0) ≡ b
            → Moved trees frames (with_stack state t own) (event ∷ events) last
        itself same m s y true p =
            let at = subst (λ u. next_local trees state u ≡ Some own) same e in
            let is : with_stack state event.thread own ≡ m = same_Some _ m (sym (local_step state h event own at p) ∙ s) in
            let is_t : with_stack state t own ≡ m = ap (λ u. with_stack state u own) same ∙ is in
            record { others = events; shorter = refl; ends = subst (Runs events) (sym is_t) y }
        itself same m s y false p =
            let at = subst (λ u. next_local trees state u ≡ Some own) same e in
            absurd (none-some m (sym (own_unpicked trees frames state h event own (next_of trees state event.thread own at) p) ∙ s))

        later : (t ≡ event.thread → ⊥) → (m : State) → go state event ≡ Some m → Runs events m → Rest t own events
            → Moved trees frames (with_stack state t own) (event ∷ events) last
        later ne m s y rest =
            let c = cost_of (stepped values trees frames state event) m s in
            let both = local_commutes files trees accepted frames state h t own e event c.0 m ne c.1 in
            let after = rest m (kept files trees accepted frames state event m h s) both.stays y in
            let goes : go (with_stack state t own) event ≡ Some (with_stack m t own) = ap next_by both.same in
            record { others = event ∷ after.others; shorter = ap suc after.shorter; ends = ap (option_and_then (λ next. run_from trees frames next after.others)) goes ∙ after.ends }

        by : (b : Bool) → (t == event.thread) ≡ b → (o : Option State) → go state event ≡ o
            → option_and_then (λ next. run_from trees frames next events) o ≡ Some last → Rest t own events
            → Moved trees frames (with_stack state t own) (event ∷ events) last
        by b q None s y rest = absurd (none-some last y)
        by true q (Some m) s y rest = itself (eqb-true t event.thread q) m s y (event.pick == 0) refl
        by false q (Some m) s y rest = later (λ same. false≢true (sym q ∙ eq-eqb t event.thread same)) m s y rest

    -- ---- the reduced run

    abbrev Explored : State → Type 0
    Explored state = (others : List Event) × (reduced_run_from trees frames state others ≡ Some last)

    -- what is known of runs of fewer events
    abbrev Before : ℕ → Type 0
    Before n = (events : List Event) (state : State) → IsWellTyped trees state → length events < n → Runs events state → Explored state

    one_more : (state next : State) (event : Event) → reduced_step trees frames state event ≡ Some next → Explored next → Explored state
    one_more state next event s x = (event ∷ x.0, ap (option_and_then (λ m. reduced_run_from trees frames m x.0)) s ∙ x.1)

    local_first : (n : ℕ) (events : List Event) (state : State) → IsWellTyped trees state → length events ≤ n → Runs events state → (t : ℕ)
        → first_local trees state ≡ Some t → Before n → Explored state
    local_first n events state h le r t f before =
        let l = some_is (next_local trees state t) (found_passes (is_local trees state) (counting 0 (length state.stacks)) t f) in
        let m = move_front events state h t l.0 l.1 r in
        let next = with_stack state t l.0 in
        let s : go state (event_0 t) ≡ Some next = local_step state h (event_0 t) l.0 l.1 refl in
        let fewer : length m.others < n = omega (arith, m.shorter, le) in
        let rest = before m.others next (kept files trees accepted frames state (event_0 t) next h s) fewer m.ends in
        let moves : may_move (first_local trees state) t ≡ true = ap (λ o. may_move o t) f ∙ eq-eqb t t refl in
        one_more state next (event_0 t) (ap (λ b. if b then go state (event_0 t) else None) moves ∙ s) rest

    shared_next : (n : ℕ) (events : List Event) (state : State) → IsWellTyped trees state → length events ≤ n → Runs events state
        → first_local trees state ≡ None → Before n → Explored state
    shared_next n [] state h le r f before = ([], r)
    shared_next n (event ∷ events) state h le r f before = by (go state event) refl r
      where
        by : (o : Option State) → go state event ≡ o → option_and_then (λ next. run_from trees frames next events) o ≡ Some last
            → Explored state
        by None s y = absurd (none-some last y)
        by (Some m) s y =
            let fewer : length events < n = omega (arith, le) in
            let rest = before events m (kept files trees accepted frames state event m h s) fewer y in
            let moves : may_move (first_local trees state) event.thread ≡ true = ap (λ o. may_move o event.thread) f in
            one_more state m event (ap (λ b. if b then go state event else None) moves ∙ s) rest

    either : (n : ℕ) (events : List Event) (state : State) → IsWellTyped trees state → length events ≤ n → Runs events state → Before n
        → (o : Option ℕ) → first_local trees state ≡ o → Explored state
    either n events state h le r before None f = shared_next n events state h le r f before
    either n events state h le r before (Some t) f = local_first n events state h le r t f before

    explored_below : (n : ℕ) → Before n
    explored_below zero events state h lt r = absurd (omega (arith, lt))
    explored_below (suc n) events state h lt r = either n events state h (omega (arith, lt)) r (explored_below n) (first_local trees state) refl

  pub opened : IsWellTyped trees (opening values trees)
  opened = opening_typed trees

  pub explored : (events : List Event) (state : State) → run trees frames events ≡ Some state → is_quiet trees frames state ≡ true
      → (others : List Event) × (reduced_run trees frames others ≡ Some state)
  explored events state r q = explored_below state q (suc (length events)) events (opening values trees) opened (omega arith) r

  -- ---- well-typed states of a run

  pub run_typed : (events : List Event) (state last : State) → IsWellTyped trees state → run_from trees frames state events ≡ Some last
      → IsWellTyped trees last
  run_typed [] state last h r = subst (IsWellTyped trees) (same_Some state last r) h
  run_typed (event ∷ events) state last h r = by (go state event) refl r (λ m g y. run_typed events m last g y)
    where
      by : (o : Option State) → go state event ≡ o → option_and_then (λ next. run_from trees frames next events) o ≡ Some last
          → ((m : State) → IsWellTyped trees m → run_from trees frames m events ≡ Some last → IsWellTyped trees last)
          → IsWellTyped trees last
      by None s y rest = absurd (none-some last y)
      by (Some m) s y rest = rest m (kept files trees accepted frames state event m h s) y

  -- ---- where nothing is explored

  module _ (state : State) (h : IsWellTyped trees state) (none : (t : ℕ) → reduced_step trees frames state (event_0 t) ≡ None) where
    no_local : (o : Option ℕ) → first_local trees state ≡ o → o ≡ None
    no_local None f = refl
    no_local (Some t) f =
        let l = some_is (next_local trees state t) (found_passes (is_local trees state) (counting 0 (length state.stacks)) t f) in
        let s : go state (event_0 t) ≡ Some (with_stack state t l.0) = local_step state h (event_0 t) l.0 l.1 refl in
        let moves : may_move (first_local trees state) t ≡ true = ap (λ o. may_move o t) f ∙ eq-eqb t t refl in
        let goes : reduced_step trees frames state (event_0 t) ≡ Some (with_stack state t l.0) = ap (λ b. if b then go state (event_0 t) else None) moves ∙ s in
        absurd (none-some (with_stack state t l.0) (sym (none t) ∙ goes))

    pub seen : is_quiet trees frames state ≡ true
    seen = all_from (λ t. not (may_step trees frames state t)) 0 (length state.world.threads) (λ t. ap not (still t))
      where
        still : (t : ℕ) → may_step trees frames state t ≡ false
        still t =
            let f = no_local (first_local trees state) refl in
            let same : reduced_step trees frames state (event_0 t) ≡ go state (event_0 t) = ap (λ o. if may_move o t then go state (event_0 t) else None) f in
            still_by (stepped values trees frames state (event_0 t)) (right files trees accepted frames state h (event_0 t)) (sym same ∙ none t)

  -- ---- a search

  module _ (states : List State) (outcomes : List Outcome) (s : IsSearched trees frames states outcomes) where
    -- closed under reduced steps is closed under reduced runs
    explored_in : (events : List Event) (state last : State) → Has states state → reduced_run_from trees frames state events ≡ Some last
        → Has states last
    explored_in [] state last h r = subst (Has states) (same_Some state last r) h
    explored_in (event ∷ events) state last h r = by (reduced_step trees frames state event) refl r (λ m g y. explored_in events m last g y)
      where
        by : (o : Option State) → reduced_step trees frames state event ≡ o
            → option_and_then (λ next. reduced_run_from trees frames next events) o ≡ Some last
            → ((m : State) → Has states m → reduced_run_from trees frames m events ≡ Some last → Has states last) → Has states last
        by None q y rest = absurd (none-some last y)
        by (Some m) q y rest = rest m (s.closed state m event h q) y

    listed : (events : List Event) (outcome : Outcome) → EndsWith trees frames events outcome → Has outcomes outcome
    listed events outcome e =
        let x = explored events e.state e.reached e.quiet in
        subst (Has outcomes) e.outcome_is (s.listed e.state (explored_in x.0 (opening values trees) e.state s.opened x.1) e.quiet)

    reached : (outcome : Outcome) → Has outcomes outcome → (events : List Event) × EndsWith trees frames events outcome
    reached outcome h =
        let o = s.only outcome h in
        let r = s.reached o.0 o.1.0 in
        (r.0, record { state = o.0; reached = r.1; quiet = o.1.1.0; outcome_is = o.1.1.1 })

    pub complete : AreAllOutcomes trees frames outcomes
    complete = record { listed = listed; reached = reached }

pub each_end_explored : IsEachEndExplored
each_end_explored files trees accepted frames events state r q = explored files trees accepted frames events state r q

pub each_end_seen : IsEachEndSeen
each_end_seen files trees accepted frames events state r none =
    seen files trees accepted frames state (run_typed files trees accepted frames events (opening values trees) state (opened files trees accepted frames) r) none

pub search_complete : IsSearchComplete
search_complete files trees accepted frames states outcomes s = complete files trees accepted frames states outcomes s
