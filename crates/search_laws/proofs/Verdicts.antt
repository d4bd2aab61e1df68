-- What kept states tell of all runs, from the law.
use Rattle.std.proofs.Common.{◌≡◌, ℕ, zero, suc, ◌+◌, ◌<◌, ◌≤◌, List, [], ◌∷◌, ◌++◌, map, length, Bool, true, false, ◌==◌, not, Some, None, Option, refl, sym, ap, ◌∙◌, subst, arith}
use Rattle.std.specs.Prelude.{slice_get, IsTrue}
use Rattle.std.specs.List.{list_all}
use Rattle.std.proofs.lemmas.Bool.{false≢true, eqb-true, eq-eqb, and_parts, not-true}
use Rattle.std.proofs.lemmas.Option.{same_Some, none-some, slice_get_within}
use Rattle.model.specs.declared.event.Event.{Event}
use Rattle.model.specs.declared.value.Value.{Value}
use Rattle.model.specs.Accepted.{IsAccepted}
use Rattle.model.specs.Classes.{Program}
use Rattle.model.specs.Opening.{opening}
use Rattle.model.specs.Operands.{values}
use Rattle.model.specs.Rows.{counting}
use Rattle.model.specs.Run.{run_from, may_step, is_quiet}
use Rattle.model.specs.State.{types_of, StackOf, State}
use Rattle.model.specs.Step.{stepped, event_of, next_by, is_enabled_by, step}
use Rattle.model.specs.WellTyped.{IsWellTyped}
use Rattle.run_laws.specs.interleavings.Ends.{Has, Outcome, outcome_of, EndsWith, AreAllOutcomes}
use Rattle.run_laws.proofs.interleavings.Reduction.{opened, run_typed}
use Rattle.run_laws.proofs.typed_runs.Settled.{lengths_same}
use Rattle.search_laws.specs.Alone.{Relation, passing, IsBisimulation, HaveSameWords, next_event, AreAlone}
use Rattle.search_laws.specs.KeptStates.{Graph, Keeps, Reaches, Here, Onward, IsReached, IsFollowed, IsExpanded, AreExpandedFrom, AreEdges, IsExplored, IsEndless, IsTrapped}
use Rattle.search_laws.specs.Verdicts.{IsSearch, IsWholeSearch, IsMet as IsMetBy, AreRunsFollowed, AreAllFollowed, AreListed, AreOutcomesMet, IsLastingMet, AreTrapsEndless, AreEndlessTrapped, IsLastingConflict, AreConflictsMet}
use Rattle.search_laws.proofs.Law.{kept_followed, run_met}
use Rattle.search_laws.proofs.Runs.{begun, joined, matched}
use Rattle.search_laws.proofs.SameWords.{answer_of, bisimilar_with, typed}

-- ---- lists of numbers

all_at : (p : ℕ → Bool) (k n t : ℕ) → list_all p (counting k n) ≡ true → k ≤ t → t < k + n → p t ≡ true
all_at p k zero t h le lt = absurd (omega arith)
all_at p k (suc n) t h le lt = by (k == t) refl (λ more. all_at p (suc k) n t (and_parts _ _ h).1 more (omega arith))
  where
    by : (b : Bool) → (k == t) ≡ b → (suc k ≤ t → p t ≡ true) → p t ≡ true
    by true e rest = subst (λ x. p x ≡ true) (eqb-true k t e) (and_parts _ _ h).0
    by false e rest = rest (past (λ q. false≢true (sym e ∙ eq-eqb k t q)))
      where
        past : (k ≡ t → ⊥) → suc k ≤ t
        past ne = omega (arith, ne)

module _ (files : List (List ℕ)) (trees : Program) (accepted : IsAccepted files trees) (frames : ℕ) where
  abbrev pub Like : State → State → Type 0
  Like = HaveSameWords trees

  keeps_types : (state next : State) (event : Event) → IsWellTyped trees state → step trees frames state event ≡ Some next
      → IsWellTyped trees next
  keeps_types state next event h e = typed files trees accepted frames state next event h e

  pub reached_typed : (state : State) → IsReached trees frames state → IsWellTyped trees state
  reached_typed state r =
      run_typed files trees accepted frames r.0 (opening values trees) state (opened files trees accepted frames) r.1

  pub reached_next : (state next : State) (event : Event) → IsReached trees frames state → step trees frames state event ≡ Some next
      → IsReached trees frames next
  reached_next state next event r s =
      (r.0 ++ event ∷ [], joined trees frames r.0 (event ∷ []) (opening values trees) state next r.1 (begun trees frames state next next event [] s refl))

  -- ---- quiet states

  there_of : (state next : State) (event : Event) (o : Option (StackOf Value)) → slice_get state.stacks event.thread ≡ o
      → next_by (event_of values trees frames state event o) ≡ Some next
      → (stack : StackOf Value) × (slice_get state.stacks event.thread ≡ Some stack)
  there_of state next event None q e = absurd (none-some next e)
  there_of state next event (Some stack) q e = (stack, q)

  -- a state in which the next event of a thread leads on isn't quiet
  pub not_quiet : (state next : State) (t : ℕ) → IsWellTyped trees state → step trees frames state (next_event t) ≡ Some next
      → is_quiet trees frames state ≡ true → ⊥
  not_quiet state next t h e q =
      let at = there_of state next (next_event t) (slice_get state.stacks t) refl e in
      let lt = slice_get_within state.stacks t at.0 at.1 in
      let same = lengths_same trees (types_of state.world.heap) state.world.threads state.stacks h.threads in
      let still : may_step trees frames state t ≡ false = not-true _ (all_at (λ u. not (may_step trees frames state u)) 0 (length state.world.threads) t q (omega arith) (omega (arith, lt, same))) in
      let x = answer_of (stepped values trees frames state (next_event t)) next e in
      false≢true (sym still ∙ ap is_enabled_by x.1)

  module _ (Conflict : Relation) (conflicts : (one other : State) (t u : ℕ) → Like one other → Conflict one t u → Conflict other t u) where
    pub same : IsBisimulation trees frames Conflict Like
    same = bisimilar_with files trees accepted frames Conflict conflicts

    abbrev pub Chain : List ℕ → State → State → Type 0
    Chain = AreAlone trees frames Conflict Like

    -- nothing is alone in a quiet state
    none_alone : (threads : List ℕ) (state last : State) → IsWellTyped trees state → is_quiet trees frames state ≡ true
        → Chain threads state last → state ≡ last
    none_alone [] state last h q c = c
    none_alone (t ∷ threads) state last h q c = absurd (not_quiet state c.0 t h c.1.0.goes q)

    -- events that are alone are a run
    chain_runs : (threads : List ℕ) (state last : State) → Chain threads state last
        → run_from trees frames state (map next_event threads) ≡ Some last
    chain_runs [] state last c = ap (λ z. Some z) c
    chain_runs (t ∷ threads) state last c =
        begun trees frames state c.0 last (next_event t) (map next_event threads) c.1.0.goes (chain_runs threads c.0 last c.1.1)

    module _ (graph : Graph) where
      abbrev pub Followed : State → ℕ → Type 0
      Followed = IsFollowed trees frames Conflict Like graph

      abbrev pub Explored : Type 0
      Explored = IsExplored trees frames Conflict Like graph

      pub law : Explored → (start : ℕ) (state last : State) (events : List Event) → Keeps graph start state
          → AreExpandedFrom trees frames Conflict Like graph start → run_from trees frames state events ≡ Some last
          → (node : ℕ) × (Reaches graph start node × Followed last node)
      law x start state last events is expanded r =
          let h = reached_typed state (x.reached start state is) in
          let f = kept_followed trees frames Conflict Like same keeps_types graph state start h is in
          let m = run_met trees frames Conflict Like same keeps_types graph start expanded events state last h (record { node = start; reaches = Here; followed = f }) r in
          (m.node, (m.reaches, m.followed))

      module _ (x : Explored) where
        -- a quiet state is itself like the one that is kept
        pub quiet_kept : (state : State) (node : ℕ) → IsWellTyped trees state → is_quiet trees frames state ≡ true
            → (f : Followed state node) → (is_quiet trees frames f.kept ≡ true) × (outcome_of trees frames f.kept ≡ outcome_of trees frames state)
        quiet_kept state node h q f =
            let here = none_alone f.threads state f.last h q f.are_alone in
            let like = subst (λ z. Like z f.kept) (sym here) f.like in
            (same.quiet state f.kept like ∙ q, same.outcome state f.kept like)

        -- where all is expanded, and none quiet
        pub trapped_endless : (node : ℕ) (state : State) → Keeps graph node state → AreExpandedFrom trees frames Conflict Like graph node
            → IsTrapped trees frames graph node → IsEndless trees frames state
        trapped_endless node state is expanded trapped events last r q =
            let h = reached_typed state (x.reached node state is) in
            let m = law x node state last events is expanded r in
            let k = quiet_kept last m.0 (run_typed files trees accepted frames events state last h r) q m.1.1 in
            trapped m.0 m.1.1.kept m.1.0 m.1.1.is_kept k.0

        -- ---- edges are runs

        abbrev Leads : State → State → Type 0
        Leads state kept = (events : List Event) × (last : State) × ((run_from trees frames state events ≡ Some last) × Like last kept)

        followed_leads : (state : State) (node : ℕ) (f : Followed state node) → Leads state f.kept
        followed_leads state node f = (map next_event f.threads, f.last, (chain_runs f.threads state f.last f.are_alone, f.like))

        -- a run from one state, and then one from a state like where it led
        onward : (state middle kept : State) → Leads state middle → Leads middle kept → Leads state kept
        onward state middle kept p q =
            let m = matched trees frames Conflict Like same q.0 middle p.1 q.1 (same.symmetric p.1 middle p.2.1) q.2.0 in
            (p.0 ++ q.0, m.0, (joined trees frames p.0 q.0 state p.1 m.0 p.2.0 m.1.0, same.transitive m.0 q.1 kept (same.symmetric q.1 m.0 m.1.1) q.2.1))

        path_leads : (edges : AreEdges trees frames Conflict Like graph) → (node to : ℕ) (state kept : State) → Keeps graph node state → Keeps graph to kept → Reaches graph node to
            → Leads state kept
        path_leads edges node to state kept is is_kept Here =
            let one : state ≡ kept = same_Some state kept (sym is ∙ is_kept) in
            let h = reached_typed state (x.reached node state is) in
            ([], state, (refl, subst (Like state) one (same.reflexive state h)))
        path_leads edges node to state kept is is_kept (Onward middle next path edge) =
            let e = edges middle to edge in
            let before = path_leads edges node middle state e.state is e.is_kept path in
            let f = e.followed in
            let g = followed_leads e.next to f in
            let one : f.kept ≡ kept = same_Some f.kept kept (sym f.is_kept ∙ is_kept) in
            let after : Leads e.state kept = (e.event ∷ g.0, g.1, (begun trees frames e.state e.next g.1 e.event g.0 e.goes g.2.0, subst (Like g.1) one g.2.1)) in
            onward state e.state kept before after

        -- ---- a search that has ended

        module _ (expanded : (node : ℕ) → IsExpanded trees frames Conflict Like graph node) where
          pub all_followed : (state : State) → IsReached trees frames state → (node : ℕ) × Followed state node
          all_followed state r =
              let h = opened files trees accepted frames in
              let m = run_met trees frames Conflict Like same keeps_types graph x.start (λ node reaches. expanded node) r.0 (opening values trees) state h (record { node = x.start; reaches = Here; followed = x.opened }) r.1 in
              (m.node, m.followed)

          abbrev pub Met : (State → Type 0) → Type 0
          Met P = (node : ℕ) × (state : State) × (Keeps graph node state × P state)

          pub outcome_met : (events : List Event) (outcome : Outcome) → EndsWith trees frames events outcome
              → Met (λ state. IsTrue (is_quiet trees frames state) × (outcome_of trees frames state ≡ outcome))
          outcome_met events outcome e =
              let r : IsReached trees frames e.state = (events, e.reached) in
              let f = all_followed e.state r in
              let k = quiet_kept e.state f.0 (reached_typed e.state r) e.quiet f.1 in
              (f.0, f.1.kept, (f.1.is_kept, (k.0, k.1 ∙ e.outcome_is)))

          pub endless_trapped : AreEdges trees frames Conflict Like graph → (state : State) → IsReached trees frames state → IsEndless trees frames state
              → (node : ℕ) × (kept : State) × (Keeps graph node kept × IsTrapped trees frames graph node)
          endless_trapped edges state r endless =
              let f = all_followed state r in
              let g = f.1 in (
                f.0,
                g.kept,
                (
                  g.is_kept,
                  λ to kept reaches is q.
                      let l = onward state g.kept kept (followed_leads state f.0 g) (path_leads edges f.0 to g.kept kept g.is_kept is reaches) in
                      endless l.0 l.1 l.2.0 (sym (same.quiet l.1 kept l.2.1) ∙ q),
                ),
              )

          -- what lasts behind what is alone
          module _ (P : State → Type 0) (alike : (one other : State) → Like one other → P one → P other) (lasts : (state first : State) (t : ℕ) → IsReached trees frames state → ((u : ℕ) → Conflict state t u → ⊥) → step trees frames state (next_event t) ≡ Some first → P state → P first) where
            chain_lasts : (threads : List ℕ) (state last : State) → IsReached trees frames state → P state → Chain threads state last → P last
            chain_lasts [] state last r p c = subst P c p
            chain_lasts (t ∷ threads) state last r p c =
                let free = (c.1.0.behind [] state tt refl).free in
                chain_lasts threads c.0 last (reached_next state c.0 (next_event t) r c.1.0.goes)
                (lasts state c.0 t r free c.1.0.goes p) c.1.1

            pub lasting_met : (state : State) → IsReached trees frames state → P state → Met P
            lasting_met state r p =
                let f = all_followed state r in
                let g = f.1 in
                (f.0, g.kept, (g.is_kept, alike g.last g.kept g.like (chain_lasts g.threads state g.last r p g.are_alone)))

-- ---- the statements

module _ (files : List (List ℕ)) (trees : Program) (frames : ℕ) (conflict : State → ℕ → ℕ → Bool) (graph : Graph) where
  module _ (s : IsSearch files trees frames conflict graph) where
    pub alike : (one other : State) (t u : ℕ) → HaveSameWords trees one other → passing conflict one t u → passing conflict other t u
    alike one other t u l c = s.told one other t u l ∙ c

  module _ (w : IsWholeSearch files trees frames conflict graph) where
    abbrev relation : (one other : State) (t u : ℕ) → HaveSameWords trees one other → passing conflict one t u → passing conflict other t u
    relation = alike w.search

    all_outcomes : (outcomes : List Outcome) → AreListed trees frames graph outcomes → AreAllOutcomes trees frames outcomes
    all_outcomes outcomes l =
        record {
          listed = λ events outcome e.
              let m = outcome_met files trees w.search.accepted frames (passing conflict) relation graph w.search.explored w.expanded events outcome e in
              subst (Has outcomes) m.2.1.1 (l.listed m.0 m.1 m.2.0 m.2.1.0);
          reached = λ outcome has.
              let m = l.only outcome has in
              let r = w.search.explored.reached m.0 m.1 m.2.0 in
              (r.0, record { state = m.1; reached = r.1; quiet = m.2.1.0; outcome_is = m.2.1.1 });
        }

    conflicts_met : IsLastingConflict trees frames conflict → (state : State) (t u : ℕ) → IsReached trees frames state
        → IsTrue (conflict state t u) → IsMetBy graph (λ kept. IsTrue (conflict kept t u))
    conflicts_met k state t u r c =
        lasting_met files trees w.search.accepted frames (passing conflict) relation graph w.search.explored w.expanded
        (λ z. IsTrue (conflict z t u)) (λ one other l e. relation one other t u l e)
        (λ z first v reached free goes e. k.lasts z first (next_event v) t u reached
        (λ is. free u (subst (λ x. IsTrue (conflict z x u)) is e))
        (λ is. free t (subst (λ x. IsTrue (conflict z x t)) is (k.symmetric z t u e)))
        goes e)
        state r c

pub runs_followed : AreRunsFollowed
runs_followed files trees frames conflict graph s start state last events is expanded r =
    law files trees s.accepted frames (passing conflict) (alike files trees frames conflict graph s) graph s.explored start state last events is expanded r

pub all_states_followed : AreAllFollowed
all_states_followed files trees frames conflict graph w state r =
    all_followed files trees w.search.accepted frames (passing conflict) (alike files trees frames conflict graph w.search) graph w.search.explored w.expanded state r

pub outcomes_met : AreOutcomesMet
outcomes_met files trees frames conflict graph w outcomes l = all_outcomes files trees frames conflict graph w outcomes l

pub what_lasts_is_met : IsLastingMet
what_lasts_is_met files trees frames conflict graph w test lasting same state r e =
    lasting_met files trees w.search.accepted frames (passing conflict) (alike files trees frames conflict graph w.search) graph w.search.explored w.expanded
    (λ z. IsTrue (test z)) same (λ z first t reached free goes q. lasting z first (next_event t) reached goes q) state r e

pub traps_endless : AreTrapsEndless
traps_endless files trees frames conflict graph s node state is expanded trapped =
    trapped_endless files trees s.accepted frames (passing conflict) (alike files trees frames conflict graph s) graph s.explored node state is expanded trapped

pub endless_states_trapped : AreEndlessTrapped
endless_states_trapped files trees frames conflict graph w edges state r endless =
    endless_trapped files trees w.search.accepted frames (passing conflict) (alike files trees frames conflict graph w.search) graph w.search.explored w.expanded edges state r endless

pub all_conflicts_met : AreConflictsMet
all_conflicts_met files trees frames conflict graph w k state t u r c = conflicts_met files trees frames conflict graph w k state t u r c
