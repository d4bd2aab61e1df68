-- From which states of a whole search no run ends.
use Rattle.std.proofs.Common.{◌≡◌, ℕ, zero, suc, ◌<◌, ◌+◌, ◌==◌, ◌&&◌, ◌||◌, List, [], ◌∷◌, length, Bool, true, false, not, Option, Some, None, refl, sym, ap, subst, ◌∙◌, arith}
use Rattle.std.specs.Prelude.{slice_get, IsTrue, IsFalse}
use Rattle.std.specs.List.{list_all, list_any}
use Rattle.std.specs.Option.{option_and_then}
use Rattle.std.proofs.lemmas.Bool.{false≢true, true≢false, and_parts, eqb-true, eq-eqb}
use Rattle.std.proofs.lemmas.Option.{same_Some, none-some, slice_get_within}
use Rattle.model.specs.declared.event.Event.{Event}
use Rattle.model.specs.Accepted.{IsAccepted}
use Rattle.model.specs.Classes.{Program}
use Rattle.model.specs.Operands.{values}
use Rattle.model.specs.Rows.{counting}
use Rattle.model.specs.Run.{run, may_step, is_quiet}
use Rattle.model.specs.State.{State}
use Rattle.model.specs.Step.{SteppedOf, NotEnabled, WrongKind, Next, is_enabled_by, next_by, stepped, step}
use Rattle.model.specs.WellTyped.{IsWellTyped}
use Rattle.run_laws.specs.interleavings.Ends.{Has, Outcome}
use Rattle.run_laws.specs.laws.Steps.{is_wrong}
use Rattle.run_laws.specs.searches.Picks.{ArePicksInOrder}
use Rattle.run_laws.specs.soundness.Runs.{IsNoEventWrong}
use Rattle.racing_threads.specs.Racing.{are_racing}
use Rattle.racing_threads.specs.lasting_races.Lasting.{AreRacesTold}
use Rattle.search_laws.specs.Alone.{passing, next_event, HaveSameWords}
use Rattle.search_laws.specs.KeptStates.{Graph, Keeps, Reaches, Here, Onward, IsReached, IsEndless, IsTrapped, IsFollowed as IsKeptBehind, IsExpanded, AreEdges, IsEdge}
use Rattle.search_laws.specs.OwnEvents.{graph_of}
use Rattle.search_laws.specs.Schedules.{ArePassed, IsFollowed, IsWhole, AreSchedulesWhole}
use Rattle.search_laws.specs.Verdicts.{IsWholeSearch, IsSearch, AreTrapsEndless, AreEndlessTrapped}
use Rattle.search_laws.proofs.Runs.{made_of}
use Rattle.search_laws.proofs.SameWords.{typed}
use Rattle.search_laws.proofs.Verdicts.{reached_typed, reached_next, not_quiet}
use Rattle.search.specs.declared.edges.Edge.{Edge}
use Rattle.search.specs.Edges.{edge_from, has_edge, IsLast, Last, Along, LeadsToLast}
use Rattle.search.proofs.met_states.Bridge.{enabled_where}
use Rattle.search.specs.met_states.Met.{IsMetBy, IsLed, HasEdges, IsToldByEdges, AreEndlessTold}

-- ---- edges as a list, and by a test

edge_is : (node to : ℕ) (edge : Edge) → ((edge.node == node) && (edge.to == to)) ≡ true → edge ≡ edge_from node to
edge_is node to edge e =
    let p = and_parts _ _ e in
    ap (λ n. edge_from n edge.to) (eqb-true edge.node node p.0) ∙ ap (λ n. edge_from node n) (eqb-true edge.to to p.1)

listed : (edges : List Edge) (node to : ℕ) → has_edge edges node to ≡ true → Has edges (edge_from node to)
listed [] node to e = absurd (false≢true e)
listed (edge ∷ edges) node to e = by ((edge.node == node) && (edge.to == to)) refl e (listed edges node to)
  where
    by : (b : Bool) → ((edge.node == node) && (edge.to == to)) ≡ b → (b || has_edge edges node to) ≡ true
        → (has_edge edges node to ≡ true → Has edges (edge_from node to)) → Has (edge ∷ edges) (edge_from node to)
    by true is e others = (zero, ap (λ (x : Edge). Some x) (edge_is node to edge is))
    by false is e others = let h = others e in (suc h.0, h.1)

tested : (edges : List Edge) (node to k : ℕ) → slice_get edges k ≡ Some (edge_from node to) → has_edge edges node to ≡ true
tested [] node to k is = absurd (none-some (edge_from node to) is)
tested (edge ∷ edges) node to zero is =
    subst (λ (x : Edge). (((x.node == node) && (x.to == to)) || has_edge edges node to) ≡ true) (sym (same_Some edge (edge_from node to) is)) (own (eq-eqb node node refl) (eq-eqb to to refl))
  where
    own : (node == node) ≡ true → (to == to) ≡ true → (((node == node) && (to == to)) || has_edge edges node to) ≡ true
    own a b = ap (λ x. (x && (to == to)) || has_edge edges node to) a ∙ ap (λ x. x || has_edge edges node to) b
tested (edge ∷ edges) node to (suc k) is = or_right ((edge.node == node) && (edge.to == to)) (has_edge edges node to) (tested edges node to k is)
  where
    or_right : (a b : Bool) → b ≡ true → (a || b) ≡ true
    or_right true b e = refl
    or_right false b e = e

-- ---- states that aren't quiet

-- a number that doesn't pass
some_fails : (p : ℕ → Bool) (k n : ℕ) → list_all p (counting k n) ≡ false → (t : ℕ) × (p t ≡ false)
some_fails p k zero e = absurd (true≢false e)
some_fails p k (suc n) e = by (p k) refl e (some_fails p (suc k) n)
  where
    by : (b : Bool) → p k ≡ b → (b && list_all p (counting (suc k) n)) ≡ false → (list_all p (counting (suc k) n) ≡ false → (t : ℕ) × (p t ≡ false)) → (t : ℕ) × (p t ≡ false)
    by false is e others = (k, is)
    by true is e others = others e

leads : (x : SteppedOf State) → is_wrong x ≡ false → is_enabled_by x ≡ true → (next : State) × (next_by x ≡ Some next)
leads NotEnabled right on = absurd (false≢true on)
leads WrongKind right on = absurd (true≢false right)
leads (Next cost next) right on = (next, refl)

not_false : (b : Bool) → not b ≡ false → b ≡ true
not_false true e = refl
not_false false e = absurd (true≢false e)

module _ (are_whole : AreSchedulesWhole) (traps : AreTrapsEndless) (trapped : AreEndlessTrapped) (races_told : AreRacesTold) (none_wrong : IsNoEventWrong) (picks_in_order : ArePicksInOrder)
    (files : List (List ℕ)) (trees : Program) (accepted : IsAccepted files trees) (frames : ℕ) (schedules : List (List Event)) (outcomes : List Outcome) (edges : List Edge)
    (whole : IsWhole trees frames (are_racing trees frames) schedules outcomes) (has : HasEdges trees frames schedules edges) where
  abbrev racing : State → ℕ → ℕ → Bool
  racing = are_racing trees frames

  abbrev plain : Graph
  plain = graph_of trees frames schedules

  -- the kept states, and the edges between them
  abbrev graph : Graph
  graph = record { kept = λ k. option_and_then (run trees frames) (slice_get schedules k); edge = has_edge edges }

  abbrev Behind : Graph → State → ℕ → Type 0
  Behind g = IsKeptBehind trees frames (passing racing) (HaveSameWords trees) g

  search : IsWholeSearch files trees frames racing plain
  search = (are_whole files trees accepted frames racing (races_told files trees accepted frames) schedules outcomes whole).0

  -- the schedule of a kept state
  schedule_of : (node : ℕ) (state : State) → Keeps graph node state
      → (schedule : List Event) × ((slice_get schedules node ≡ Some schedule) × (run trees frames schedule ≡ Some state))
  schedule_of node state is = made_of (slice_get schedules node) (run trees frames) state is

  kept_by : (node : ℕ) (schedule : List Event) (state : State) → slice_get schedules node ≡ Some schedule → run trees frames schedule ≡ Some state → Keeps graph node state
  kept_by node schedule state is r = ap (option_and_then (run trees frames)) is ∙ r

  passed_typed : (threads : List ℕ) (state last : State) → IsWellTyped trees state → ArePassed trees frames racing threads state last → IsWellTyped trees last
  passed_typed [] state last h c = subst (IsWellTyped trees) c h
  passed_typed (t ∷ threads) state last h c =
      passed_typed threads c.0 last (typed files trees accepted frames state c.0 (next_event t) h c.1.0.goes) c.1.1

  -- what has met a state is kept behind it
  behind : (to : ℕ) (state : State) → IsWellTyped trees state → IsMetBy trees frames schedules to state → Behind graph state to
  behind to state h met =
      let f = met.followed in
      let m = f.is_met in
      subst (Behind graph state) met.number_is
      (record {
        threads = f.threads;
        last = f.last;
        are_alone = f.are_alone;
        kept = m.met;
        is_kept = kept_by m.has.0 m.schedule m.met m.has.1 m.leads;
        like = record {
          one_typed = passed_typed f.threads state f.last h f.are_alone;
          other_typed = reached_typed files trees accepted frames m.met (m.schedule, m.leads);
          same = m.same;
        };
      })

  -- the same state is kept without the edges
  still_behind : (state : State) (node : ℕ) → Behind plain state node → Behind graph state node
  still_behind state node b =
      record { threads = b.threads; last = b.last; are_alone = b.are_alone; kept = b.kept; is_kept = b.is_kept; like = b.like }

  reached_by : (node : ℕ) (state : State) → Keeps graph node state → IsReached trees frames state
  reached_by node state is = let s = schedule_of node state is in (s.0, s.1.1)

  expanded : (node : ℕ) → IsExpanded trees frames (passing racing) (HaveSameWords trees) graph node
  expanded node state next event is goes =
      let s = schedule_of node state is in
      let along = has.along node s.0 event s.1.0 state next s.1.1 goes in
      let h = reached_typed files trees accepted frames next (reached_next files trees accepted frames state next event (s.0, s.1.1) goes) in
      (along.0, (tested edges node along.0 along.1.0 along.1.1, behind along.0 next h along.2))

  with_edges : IsWholeSearch files trees frames racing graph
  with_edges =
      let x = search.search.explored in
      record {
        search = record {
          accepted = accepted;
          told = search.search.told;
          explored = record { reached = reached_by; start = x.start; opened = still_behind _ x.start x.opened };
        };
        expanded = expanded;
      }

  are_edges : AreEdges trees frames (passing racing) (HaveSameWords trees) graph
  are_edges node to edge =
      let l = has.led (edge_from node to) (listed edges node to edge) in
      let h = reached_typed files trees accepted frames l.next (reached_next files trees accepted frames l.state l.next l.event (l.events, l.reached) l.goes) in
      record {
        state = l.state;
        is_kept = kept_by node l.events l.state l.has l.reached;
        event = l.event;
        next = l.next;
        goes = l.goes;
        followed = behind to l.next h l.met;
      }

  -- ---- the last ones are those that are quiet

  quiet_last : (node : ℕ) (state : State) → Keeps graph node state → is_quiet trees frames state ≡ true → IsLast edges node
  quiet_last node state is quiet to edge =
      let l = has.led (edge_from node to) edge in
      let same : l.state ≡ state = same_Some l.state state (sym (kept_by node l.events l.state l.has l.reached) ∙ is) in
      moving l.state l.next l.event (l.events, l.reached) l.goes (ap (is_quiet trees frames) same ∙ quiet)
    where
      moving : (one next : State) (event : Event) → IsReached trees frames one → step trees frames one event ≡ Some next → is_quiet trees frames one ≡ true → ⊥
      moving one next event r goes q =
          let on = enabled_where (stepped values trees frames one event) next goes in
          let low : may_step trees frames one event.thread ≡ true = picks_in_order trees frames one event.thread 0 event.pick (omega arith) on in
          let right : is_wrong (stepped values trees frames one (next_event event.thread)) ≡ false = none_wrong files trees accepted frames r.0 one (next_event event.thread) r.1 in
          let l = leads (stepped values trees frames one (next_event event.thread)) right low in
          not_quiet files trees accepted frames one l.0 event.thread (reached_typed files trees accepted frames one r) l.1 q

  last_quiet : (node : ℕ) (state : State) → Keeps graph node state → IsLast edges node → is_quiet trees frames state ≡ true
  last_quiet node state is last = by (is_quiet trees frames state) refl
    where
      by : (b : Bool) → is_quiet trees frames state ≡ b → is_quiet trees frames state ≡ true
      by true e = e
      by false e =
          let s = schedule_of node state is in
          let t = some_fails (λ u. not (may_step trees frames state u)) 0 (length state.world.threads) e in
          let on : may_step trees frames state t.0 ≡ true = not_false (may_step trees frames state t.0) t.1 in
          let right : is_wrong (stepped values trees frames state (next_event t.0)) ≡ false = none_wrong files trees accepted frames s.0 state (next_event t.0) s.1.1 in
          let goes = leads (stepped values trees frames state (next_event t.0)) right on in
          let along = has.along node s.0 (next_event t.0) s.1.0 state goes.0 s.1.1 goes.1 in
          absurd (last along.0 along.1)

  -- ---- paths

  before : (node next to : ℕ) → has_edge edges node next ≡ true → Reaches graph next to → Reaches graph node to
  before node next to edge Here = Onward node next Here edge
  before node next to edge (Onward middle last path more) = Onward middle last (before node next middle edge path) more

  leads_back : (node to : ℕ) → Reaches graph node to → LeadsToLast edges to → LeadsToLast edges node
  leads_back node to Here leads = leads
  leads_back node to (Onward middle last path more) leads = leads_back node middle path (Along middle last (listed edges middle last more) leads)

  -- a last one that is reached
  record ReachesLast (node : ℕ) : Type 0 where
    to : ℕ
    path : Reaches graph node to
    state : State
    is_kept : Keeps graph to state
    last : IsLast edges to

  last_of : (node : ℕ) (state : State) → Keeps graph node state → LeadsToLast edges node → ReachesLast node
  last_of node state is (Last one none) = record { to = node; path = Here; state = state; is_kept = is; last = none }
  last_of node state is (Along one to edge leads) =
      let l = has.led (edge_from node to) edge in
      let m = l.met.followed.is_met in
      let there : Keeps graph to m.met = subst (λ n. Keeps graph n m.met) l.met.number_is (kept_by m.has.0 m.schedule m.met m.has.1 m.leads) in
      let r = last_of to m.met there leads in
      record { to = r.to; path = before node to r.to (tested edges node to edge.0 edge.1) r.path; state = r.state; is_kept = r.is_kept; last = r.last }

  -- ---- both ways

  endless : (node : ℕ) (events : List Event) (state : State) → slice_get schedules node ≡ Some events → run trees frames events ≡ Some state
      → (LeadsToLast edges node → ⊥) → IsEndless trees frames state
  endless node events state is r none =
      traps files trees frames racing graph with_edges.search node state (kept_by node events state is r) (λ n reaches. expanded n)
      (λ to last reaches kept quiet. none (leads_back node to reaches (Last to (quiet_last to last kept quiet))))

  not_endless : ((node : ℕ) → node < length schedules → LeadsToLast edges node) → (state : State) → IsReached trees frames state → IsEndless trees frames state → ⊥
  not_endless all state r endless =
      let t = trapped files trees frames racing graph with_edges are_edges state r endless in
      let s = schedule_of t.0 t.1 t.2.0 in
      let lt : t.0 < length schedules = slice_get_within schedules t.0 s.0 s.1.0 in
      let l = last_of t.0 t.1 t.2.0 (all t.0 lt) in
      t.2.1 l.to l.state l.path l.is_kept (last_quiet l.to l.state l.is_kept l.last)

pub endless_told : AreSchedulesWhole → AreTrapsEndless → AreEndlessTrapped → AreRacesTold → IsNoEventWrong → ArePicksInOrder → AreEndlessTold
endless_told are_whole traps trapped races_told none_wrong picks_in_order files trees accepted frames schedules outcomes edges whole has = record {
  endless = endless are_whole traps trapped races_told none_wrong picks_in_order files trees accepted frames schedules outcomes edges whole has;
  none = not_endless are_whole traps trapped races_told none_wrong picks_in_order files trees accepted frames schedules outcomes edges whole has;
}
