-- Why a search within so many preemptions meets the outcome of each run that ends with no more: an event that is alone, and leaves
-- enabled what is, can come first, and that makes no preemption more.
use Rattle.std.proofs.Common.{◌≡◌, ℕ, zero, suc, ◌+◌, ◌<◌, ◌≤◌, List, [], ◌∷◌, length, Bool, true, false, not, ◌&&◌, ◌==◌, if◌then◌else◌, Option, Some, refl, sym, ap, ◌∙◌, subst, arith}
use Rattle.std.specs.Prelude.{IsTrue}
use Rattle.std.specs.Option.{option_map_or}
use Rattle.std.proofs.lemmas.Bool.{false≢true, eqb-true, eq-eqb}
use Rattle.std.proofs.lemmas.Option.{same_Some}
use Rattle.model.specs.declared.event.Event.{Event}
use Rattle.model.specs.Accepted.{IsAccepted}
use Rattle.model.specs.Classes.{Program}
use Rattle.model.specs.Opening.{opening}
use Rattle.model.specs.Operands.{values}
use Rattle.model.specs.Run.{run_from, may_step, is_quiet}
use Rattle.model.specs.State.{State}
use Rattle.model.specs.Step.{is_enabled_by, stepped, step}
use Rattle.model.specs.WellTyped.{IsWellTyped}
use Rattle.run_laws.specs.interleavings.Ends.{Has, Outcome, outcome_of, EndsWith}
use Rattle.run_laws.proofs.interleavings.Reduction.{opened, run_typed}
use Rattle.search_laws.specs.Alone.{Relation, passing, IsBisimulation, next_event, IsAlone, HaveSameWords}
use Rattle.search_laws.specs.Preemptions.{preemption_at, preemptions, run_preemptions, Node, LeavesEnabled, AreOwnAlone, IsFollowedBy, IsExploredWithin, AreBoundedSearchesComplete}
use Rattle.search_laws.proofs.Owners.{differs}
use Rattle.search_laws.proofs.Runs.{first_of, begun, matched}
use Rattle.search_laws.proofs.SameWords.{answer_of, typed, bisimilar}
use Rattle.search_laws.proofs.Staying.{IsPassed, passed, itself}
use Rattle.search_laws.proofs.Verdicts.{not_quiet}

module _ (files : List (List ℕ)) (trees : Program) (accepted : IsAccepted files trees) (frames : ℕ) (Conflict : Relation)
    (b : IsBisimulation trees frames Conflict (HaveSameWords trees)) where
  abbrev Like : State → State → Type 0
  Like = HaveSameWords trees

  abbrev Alone : State → ℕ → State → Type 0
  Alone = IsAlone trees frames Conflict Like

  abbrev Leaves : State → ℕ → Type 0
  Leaves = LeavesEnabled trees frames Conflict Like

  abbrev count : ℕ → State → List Event → ℕ
  count = preemptions trees frames

  abbrev at : State → ℕ → ℕ → ℕ
  at = preemption_at trees frames

  types : (state next : State) (event : Event) → IsWellTyped trees state → step trees frames state event ≡ Some next → IsWellTyped trees next
  types state next event h e = typed files trees accepted frames state next event h e

  run_types : (events : List Event) (state last : State) → IsWellTyped trees state → run_from trees frames state events ≡ Some last
      → IsWellTyped trees last
  run_types events state last h run = run_typed files trees accepted frames events state last h run

  abbrev one_if : Bool → ℕ
  one_if b = if b then 1 else 0

  -- ---- counts

  count_first : (r : ℕ) (state next : State) (event : Event) (events : List Event) → step trees frames state event ≡ Some next
      → count r state (event ∷ events) ≡ at state r event.thread + count event.thread next events
  count_first r state next event events s = ap (λ o. at state r event.thread + option_map_or (λ z. count event.thread z events) o 0) s

  at_same : (one other : State) (r t : ℕ) → may_step trees frames other r ≡ may_step trees frames one r → at other r t ≡ at one r t
  at_same one other r t e = ap (λ m. one_if (not (t == r) && m)) e

  -- the runs of states that do the same have as many
  count_like : (events : List Event) (r : ℕ) (one other last : State) → Like one other → run_from trees frames one events ≡ Some last
      → count r other events ≡ count r one events
  count_like [] r one other last l run = refl
  count_like (event ∷ events) r one other last l run =
      let f = first_of trees frames one last event events run in
      let s = b.steps one other f.0 event l f.1.0 in
      let rest = count_like events event.thread f.0 s.0 last s.1.1 f.1.1 in
      count_first r other s.0 event events s.1.0
      ∙ (ap (λ n. n + count event.thread s.0 events) (at_same one other r event.thread (b.may one other r l))
      ∙ (ap (λ n. at one r event.thread + n) rest ∙ sym (count_first r one f.0 event events f.1.0)))

  one_at_most : (m n : Bool) → (if m && n then 1 else 0) ≤ (if n then 1 else 0)
  one_at_most true true = omega arith
  one_at_most true false = omega arith
  one_at_most false true = omega arith
  one_at_most false false = omega arith

  at_most_one : (m : Bool) → (if m then 1 else 0) ≤ 1
  at_most_one true = omega arith
  at_most_one false = omega arith

  -- another thread that moves next has it no better than one that moved before
  skipped : (events : List Event) (r u : ℕ) (state last : State) → run_from trees frames state events ≡ Some last
      → count r state events ≤ (if may_step trees frames state r then 1 else 0) + count u state events
  skipped [] r u state last run = omega arith
  skipped (event ∷ events) r u state last run =
      let f = first_of trees frames state last event events run in
      let rest = count event.thread f.0 events in
      let mine = count_first r state f.0 event events f.1.0 in
      let its = count_first u state f.0 event events f.1.0 in
      let le = one_at_most (not (event.thread == r)) (may_step trees frames state r) in
      omega (arith, mine, its, le)

  -- ---- an event that is alone comes first

  pub record IsMoved (state first last : State) (events : List Event) : Type 0 where
    pub others : List Event
    pub shorter : length events ≡ suc (length others)
    pub after : State
    pub runs : run_from trees frames first others ≡ Some after
    pub like : Like last after
    pub no_more : (r : ℕ) → count r first others ≤ count r state events

  may_of : (state next : State) (t : ℕ) → step trees frames state (next_event t) ≡ Some next → may_step trees frames state t ≡ true
  may_of state next t e = let x = answer_of (stepped values trees frames state (next_event t)) next e in ap is_enabled_by x.1

  module _ (t : ℕ) (state first : State) (a : Alone state t first) (leaves : Leaves state t) where
    -- whether another thread may step is as it was
    may_same : (u : ℕ) → (u ≡ t → ⊥) → may_step trees frames first u ≡ may_step trees frames state u
    may_same u ne = leaves [] state first tt refl a.goes u ne

    own : (event : Event) (events : List Event) (last : State) → IsWellTyped trees last → run_from trees frames first events ≡ Some last
        → step trees frames state event ≡ Some first → t ≡ event.thread → IsMoved state first last (event ∷ events)
    own event events last h run goes same =
        record {
          others = events;
          shorter = refl;
          after = last;
          runs = run;
          like = b.reflexive last h;
          no_more = λ r. by r (r == t) refl;
        }
      where
        by : (r : ℕ) (q : Bool) → (r == t) ≡ q → count r first events ≤ count r state (event ∷ events)
        by r true q =
            let is = eqb-true r t q ∙ same in
            let whole = count_first r state first event events goes in
            let one = ap (λ n. count n first events) is in
            omega (arith, whole, one)
        by r false q =
            let ne : r ≡ t → ⊥ = λ e. false≢true (sym q ∙ eq-eqb r t e) in
            let not_it : (event.thread == r) ≡ false = differs event.thread r (λ e. ne (sym e ∙ sym same)) in
            let whole = count_first r state first event events goes in
            let le = skipped events r event.thread first last run in
            let may = ap one_if (may_same r ne) in
            let cost : at state r event.thread ≡ (if may_step trees frames state r then 1 else 0) = ap (λ m. one_if (not m && may_step trees frames state r)) not_it in
            omega (arith, whole, le, may, cost)

    module _ (event : Event) (next : State) (events : List Event) (last : State) (goes : step trees frames state event ≡ Some next) (ne : t ≡ event.thread → ⊥) where
      abbrev Passed : Type 0
      Passed = IsPassed trees frames Conflict Like b state next event t first a ne goes

      leaves_next : Leaves next t
      leaves_next others later z are run s u n =
          leaves (event ∷ others) later z (ne, are) (begun trees frames state next later event others goes run) s u n

      others_first : (p : Passed) → IsMoved next p.last last events → IsMoved state first last (event ∷ events)
      others_first p m =
          let back = b.symmetric p.after p.last p.like in
          let x = matched trees frames Conflict Like b m.others p.last p.after m.after back m.runs in
          record {
            others = event ∷ m.others;
            shorter = ap suc m.shorter;
            after = x.0;
            runs = begun trees frames first p.after x.0 event m.others p.is_after x.1.0;
            like = b.transitive last m.after x.0 m.like x.1.1;
            no_more = λ r. by r (r == t) refl;
          }
        where
          by : (r : ℕ) (q : Bool) → (r == t) ≡ q → count r first (event ∷ m.others) ≤ count r state (event ∷ events)
          by r q e =
              let back = b.symmetric p.after p.last p.like in
              let whole = count_first r state next event events goes in
              let moved = count_first r first p.after event m.others p.is_after in
              let same = count_like m.others event.thread p.last p.after m.after back m.runs in
              let le = m.no_more event.thread in
              let cost = at_no_more r q e in
              omega (arith, whole, moved, same, le, cost)
            where
              at_no_more : (r : ℕ) (q : Bool) → (r == t) ≡ q → at first r event.thread ≤ at state r event.thread
              at_no_more r true e =
                  let is = eqb-true r t e in
                  let not_it : (event.thread == r) ≡ false = differs event.thread r (λ x. ne (sym is ∙ sym x)) in
                  let may : may_step trees frames state r ≡ true = ap (may_step trees frames state) is ∙ may_of state first t a.goes in
                  let cost : at state r event.thread ≡ 1 = ap (λ m. one_if (not m && may_step trees frames state r)) not_it ∙ ap one_if may in
                  let le = at_most_one (not (event.thread == r) && may_step trees frames first r) in
                  omega (arith, cost, le)
              at_no_more r false e =
                  let n : r ≡ t → ⊥ = λ x. false≢true (sym e ∙ eq-eqb r t x) in
                  let same = at_same state first r event.thread (may_same r n) in
                  omega (arith, same)

  pub moved : (events : List Event) (t : ℕ) (state first last : State) → IsWellTyped trees state → Alone state t first → Leaves state t
      → is_quiet trees frames last ≡ true → run_from trees frames state events ≡ Some last → IsMoved state first last events
  moved [] t state first last h a leaves q run =
      let same = same_Some state last run in
      absurd (not_quiet files trees accepted frames state first t h a.goes (subst (λ z. is_quiet trees frames z ≡ true) (sym same) q))
  moved (event ∷ events) t state first last h a leaves q run =
      by (first_of trees frames state last event events run) (t == event.thread) refl
      (λ n m typed_n alone stays r. moved events t n m last typed_n alone stays q r)
    where
      by : (f : (next : State) × ((step trees frames state event ≡ Some next) × (run_from trees frames next events ≡ Some last))) → (k : Bool)
          → (t == event.thread) ≡ k
          → ((n m : State) → IsWellTyped trees n → Alone n t m → Leaves n t → run_from trees frames n events ≡ Some last → IsMoved n m last events)
          → IsMoved state first last (event ∷ events)
      by f true e rest =
          let same = eqb-true t event.thread e in
          let is = itself trees frames Conflict Like b types state f.0 event t first a same f.1.0 in
          let last_typed = run_types (event ∷ events) state last h run in
          own t state first a leaves event events last last_typed (subst (λ z. run_from trees frames z events ≡ Some last) (sym is) f.1.1) (f.1.0 ∙ ap (λ z. Some z) (sym is)) same
      by f false e rest =
          let ne : t ≡ event.thread → ⊥ = λ same. false≢true (sym e ∙ eq-eqb t event.thread same) in
          let p = passed trees frames Conflict Like b state f.0 event t first a ne f.1.0 in
          let stays = leaves_next t state first a leaves event f.0 events last f.1.0 ne in
          others_first t state first a leaves event f.0 events last f.1.0 ne p (rest f.0 p.last (types state f.0 event h f.1.0) p.alone stays f.1.1)

  -- ---- events of one thread that are alone come first

  record IsBehind (t : ℕ) (state middle last : State) (events : List Event) : Type 0 where
    others : List Event
    no_longer : length others ≤ length events
    after : State
    runs : run_from trees frames middle others ≡ Some after
    like : Like last after
    no_more : count t middle others ≤ count t state events

  quiet_like : (one other : State) → Like one other → is_quiet trees frames one ≡ true → is_quiet trees frames other ≡ true
  quiet_like one other l q = b.quiet one other l ∙ q

  behind : (n t : ℕ) (state middle last : State) (events : List Event) → IsWellTyped trees state
      → AreOwnAlone trees frames Conflict Like t n state middle → is_quiet trees frames last ≡ true
      → run_from trees frames state events ≡ Some last → IsBehind t state middle last events
  behind zero t state middle last events h c q run =
      subst (λ z. IsBehind t state z last events) c
      (record { others = events; no_longer = omega arith; after = last; runs = run; like = b.reflexive last (run_types events state last h run); no_more = omega arith })
  behind (suc n) t state middle last events h c q run =
      let m = moved events t state c.0 last h c.1.0 c.1.1.0 q run in
      let rest = behind n t c.0 middle m.after m.others (types state c.0 (next_event t) h (c.1.0).goes) c.1.1.1 (quiet_like last m.after m.like q) m.runs in
      let fewer = m.no_more t in
      record {
        others = rest.others;
        no_longer = omega (arith, rest.no_longer, m.shorter);
        after = rest.after;
        runs = rest.runs;
        like = b.transitive last m.after rest.after m.like rest.like;
        no_more = omega (arith, rest.no_more, fewer);
      }

  -- ---- a search

  module _ (most : ℕ) (kept : ℕ → Option Node) (x : IsExploredWithin trees frames Conflict Like most kept) where
    abbrev Followed : State → ℕ → ℕ → Type 0
    Followed = IsFollowedBy trees frames Conflict Like most kept

    abbrev Met : Outcome → Type 0
    Met outcome =
        (number : ℕ) × (node : Node) × ((kept number ≡ Some node) × (IsTrue (is_quiet trees frames node.state) × (outcome_of trees frames node.state ≡ outcome)))

    -- what is known of runs of fewer events
    abbrev Below : ℕ → Type 0
    Below n =
        (events : List Event) (state last : State) (running used : ℕ) → length events < n → IsWellTyped trees state → is_quiet trees frames last ≡ true
        → run_from trees frames state events ≡ Some last → count running state events + used ≤ most → Followed state running used
        → Met (outcome_of trees frames last)

    from_kept : (n : ℕ) → Below n → (number : ℕ) (node : Node) → kept number ≡ Some node → IsWellTyped trees node.state
        → (events : List Event) (last : State) → length events ≤ n → is_quiet trees frames last ≡ true
        → run_from trees frames node.state events ≡ Some last → count node.running node.state events + node.count ≤ most
        → Met (outcome_of trees frames last)
    from_kept n below number node is h [] last le q run few =
        let same = same_Some node.state last run in
        (number, node, (is, (subst (λ z. is_quiet trees frames z ≡ true) (sym same) q, ap (outcome_of trees frames) same)))
    from_kept n below number node is h (event ∷ events) last le q run few =
        let f = first_of trees frames node.state last event events run in
        let whole = count_first node.running node.state f.0 event events f.1.0 in
        let within : node.count + at node.state node.running event.thread ≤ most = omega (arith, whole, few) in
        let still : count event.thread f.0 events + (node.count + at node.state node.running event.thread) ≤ most = omega (arith, whole, few) in
        below events f.0 last event.thread (node.count + at node.state node.running event.thread) (omega (arith, le)) (types node.state f.0 event h f.1.0) q f.1.1 still
        (x.expanded number node event f.0 is f.1.0 within)

    below : (n : ℕ) → Below n
    below zero events state last running used lt h q run few f = absurd (omega (arith, lt))
    below (suc n) events state last running used lt h q run few f =
        let p = behind f.length running state f.last last events h f.are_alone q run in
        let m = matched trees frames Conflict Like b p.others f.last f.node.state p.after f.like p.runs in
        let l = b.transitive last p.after m.0 p.like m.1.1 in
        let same = count_like p.others running f.last f.node.state p.after f.like p.runs in
        let by : count f.node.running f.node.state p.others ≡ count running f.node.state p.others = ap (λ r. count r f.node.state p.others) f.same in
        let fewer : count f.node.running f.node.state p.others + f.node.count ≤ most = omega (arith, few, p.no_more, same, by, f.no_more) in
        let le : length p.others ≤ n = omega (arith, lt, p.no_longer) in
        subst Met (b.outcome last m.0 l)
        (from_kept n (below n) f.number f.node f.is_kept (f.like).other_typed p.others m.0 le (quiet_like last m.0 l q) m.1.0 fewer)

    pub outcome_within : (events : List Event) (outcome : Outcome) → EndsWith trees frames events outcome
        → run_preemptions trees frames events ≤ most → Met outcome
    outcome_within events outcome e few =
        let start = opening values trees in
        subst Met e.outcome_is
        (below (suc (length events)) events start e.state 0 0 (omega arith) (opened files trees accepted frames) e.quiet e.reached (omega (arith, few)) x.opened)

pub bounded_searches_complete : AreBoundedSearchesComplete
bounded_searches_complete files trees accepted frames conflict told most kept x outcomes l =
    record {
      listed = λ events outcome e few.
          let m = outcome_within files trees accepted frames (passing conflict) (bisimilar files trees accepted frames conflict told) most kept x events outcome e few in
          subst (Has outcomes) m.2.1.1 (l.listed m.0 m.1 m.2.0 m.2.1.0);
      reached = λ outcome has.
          let m = l.only outcome has in
          let r = x.reached m.0 m.1 m.2.0 in
          (r.0, (record { state = (m.1).state; reached = r.1.0; quiet = m.2.1.0; outcome_is = m.2.1.1 }, r.1.1));
    }
