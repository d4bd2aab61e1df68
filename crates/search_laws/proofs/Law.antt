-- The law of a search that keeps states: each run from a state that is kept is followed to one that edges reach.
use Rattle.std.proofs.Common.{◌≡◌, ℕ, List, [], ◌∷◌, ◌++◌, Some, refl, subst}
use Rattle.std.proofs.lemmas.Option.{same_Some}
use Rattle.model.specs.declared.event.Event.{Event}
use Rattle.model.specs.Classes.{Program}
use Rattle.model.specs.Run.{run_from}
use Rattle.model.specs.State.{State}
use Rattle.model.specs.Step.{step}
use Rattle.model.specs.WellTyped.{IsWellTyped}
use Rattle.search_laws.specs.Alone.{Relation, IsBisimulation}
use Rattle.search_laws.specs.KeptStates.{Graph, Keeps, Reaches, Onward, IsFollowed, AreExpandedFrom}
use Rattle.search_laws.proofs.Runs.{first_of}
use Rattle.search_laws.proofs.Staying.{chain_like, Advance, Among, Behind, advance, chains_joined}

module _ (files : Program) (frames : ℕ) (Conflict : Relation) (Like : State → State → Type 0) (b : IsBisimulation files frames Conflict Like)
    (typed : (state next : State) (event : Event) → IsWellTyped files state → step files frames state event ≡ Some next → IsWellTyped files next)
    (graph : Graph) where
  abbrev pub Followed : State → ℕ → Type 0
  Followed = IsFollowed files frames Conflict Like graph

  -- a kept state is followed to itself
  pub kept_followed : (state : State) (node : ℕ) → IsWellTyped files state → Keeps graph node state → Followed state node
  kept_followed state node h is =
      record { threads = []; last = state; are_alone = refl; kept = state; is_kept = is; like = b.reflexive state h }

  module _ (start : ℕ) (expanded : AreExpandedFrom files frames Conflict Like graph start) where
    -- a kept state that edges reach, to which the state is followed
    pub record IsMet (state : State) : Type 0 where
      pub node : ℕ
      pub reaches : Reaches graph start node
      pub followed : Followed state node

    one_more : (state next : State) (event : Event) (m : IsMet state) → step files frames state event ≡ Some next
        → Advance files frames Conflict Like b event next m.followed.last → IsMet next
    one_more state next event m goes (Among threads after chain like) =
        let f = m.followed in
        record {
          node = m.node;
          reaches = m.reaches;
          followed = record { threads = threads; last = after; are_alone = chain; kept = f.kept; is_kept = f.is_kept; like = b.transitive after f.last f.kept like f.like };
        }
    one_more state next event m goes (Behind threads after moved chain is_moved like) =
        let f = m.followed in
        let s = b.steps f.last f.kept moved event f.like is_moved in
        let x = expanded m.node m.reaches f.kept s.0 event f.is_kept s.1.0 in
        let g = x.1.1 in
        let back = b.symmetric after s.0 (b.transitive after moved s.0 like s.1.1) in
        let c = chain_like files frames Conflict Like b g.threads s.0 after g.last back g.are_alone in
        record {
          node = x.0;
          reaches = Onward m.node x.0 m.reaches x.1.0;
          followed = record {
            threads = threads ++ g.threads;
            last = c.0;
            are_alone = chains_joined files frames Conflict Like b threads g.threads next after c.0 chain c.1.0;
            kept = g.kept;
            is_kept = g.is_kept;
            like = b.transitive c.0 g.last g.kept (b.symmetric g.last c.0 c.1.1) g.like;
          };
        }

    pub run_met : (events : List Event) (state last : State) → IsWellTyped files state → IsMet state
        → run_from files frames state events ≡ Some last → IsMet last
    run_met [] state last h m r = subst IsMet (same_Some state last r) m
    run_met (event ∷ events) state last h m r =
        let s = first_of files frames state last event events r in
        let f = m.followed in
        let a = advance files frames Conflict Like b typed f.threads state s.0 f.last event h f.are_alone s.1.0 in
        run_met events s.0 last (typed state s.0 event h s.1.0) (one_more state s.0 event m s.1.0 a) s.1.1
