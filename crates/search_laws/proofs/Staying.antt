-- What is alone stays alone: in states that do the same, and behind events of other threads.
use Rattle.std.proofs.Common.{◌≡◌, ℕ, List, [], ◌∷◌, ◌++◌, Bool, true, false, ◌==◌, Some, refl, sym, ap, ◌∙◌, subst}
use Rattle.std.proofs.lemmas.Bool.{false≢true, eqb-true, eq-eqb}
use Rattle.std.proofs.lemmas.Option.{same_Some}
use Rattle.model.specs.declared.event.Event.{Event}
use Rattle.model.specs.Classes.{Program}
use Rattle.model.specs.Run.{run_from}
use Rattle.model.specs.State.{State}
use Rattle.model.specs.Step.{step}
use Rattle.model.specs.WellTyped.{IsWellTyped}
use Rattle.search_laws.specs.Alone.{Relation, IsBisimulation, next_event, AreOfOthers, IsAloneBehind, IsAlone, AreAlone}
use Rattle.search_laws.proofs.Runs.{first_of, begun, matched}

module _ (files : Program) (frames : ℕ) (Conflict : Relation) (Like : State → State → Type 0) (b : IsBisimulation files frames Conflict Like) where
  abbrev pub Alone : State → ℕ → State → Type 0
  Alone = IsAlone files frames Conflict Like

  module _ (one other : State) (like : Like one other) (t : ℕ) (first : State) (a : Alone one t first) where
    abbrev there : (after : State) × ((step files frames other (next_event t) ≡ Some after) × Like first after)
    there = b.steps one other first (next_event t) like a.goes

    behind_like : (others : List Event) (later : State) → AreOfOthers t others → run_from files frames other others ≡ Some later
        → IsAloneBehind files frames Conflict Like t there.0 others later
    behind_like others later are r =
        let m = matched files frames Conflict Like b others other one later (b.symmetric one other like) r in
        let x = a.behind others m.0 are m.1.0 in
        let back = b.symmetric later m.0 m.1.1 in
        let last = b.steps m.0 later x.last (next_event t) back x.goes in
        let after = matched files frames Conflict Like b others first there.0 x.after there.1.1 x.runs in
        record {
          last = last.0;
          goes = last.1.0;
          only = λ pick next s.
              let s2 = b.steps later m.0 next (record { thread = t; pick = pick }) m.1.1 s in x.only pick s2.0 s2.1.0;
          after = after.0;
          runs = after.1.0;
          like = b.transitive after.0 x.after last.0 (b.symmetric x.after after.0 after.1.1)
              (b.transitive x.after x.last last.0 x.like last.1.1);
          free = λ u conflict. x.free u (b.conflicts later m.0 t u m.1.1 conflict);
        }

    -- what is alone in a state is alone in one that does the same
    pub alone_like : (after : State) × (Alone other t after × Like first after)
    alone_like = (there.0, (record { goes = there.1.0; behind = behind_like }, there.1.1))

  -- so events that are alone lead from both to states that do the same
  pub chain_like : (threads : List ℕ) (one other last : State) → Like one other → AreAlone files frames Conflict Like threads one last
      → (after : State) × (AreAlone files frames Conflict Like threads other after × Like last after)
  chain_like [] one other last l c = (other, (refl, subst (λ z. Like z other) c l))
  chain_like (t ∷ threads) one other last l c =
      let x = alone_like one other l t c.0 c.1.0 in
      let rest = chain_like threads c.0 x.0 last x.1.1 c.1.1 in
      (rest.0, ((x.0, (x.1.0, rest.1.0)), rest.1.1))

  -- ---- behind an event of another thread

  module _ (state next : State) (event : Event) (t : ℕ) (first : State) (a : Alone state t first) (ne : t ≡ event.thread → ⊥) (goes : step files frames state event ≡ Some next) where
    -- what the event comes to before the one that is alone, and behind it
    pub record IsPassed : Type 0 where
      pub last : State
      pub alone : Alone next t last
      pub after : State
      pub is_after : step files frames first event ≡ Some after
      pub like : Like after last

    one_event : run_from files frames state (event ∷ []) ≡ Some next
    one_event = begun files frames state next next event [] goes refl

    abbrev near : IsAloneBehind files frames Conflict Like t first (event ∷ []) next
    near = a.behind (event ∷ []) next (ne, tt) one_event

    behind_more : (after : State) → step files frames first event ≡ Some after → Like after near.last → (others : List Event)
        (later : State) → AreOfOthers t others → run_from files frames next others ≡ Some later
        → IsAloneBehind files frames Conflict Like t near.last others later
    behind_more after is_after like others later are r =
        let far = a.behind (event ∷ others) later (ne, are) (begun files frames state next later event others goes r) in
        let f = first_of files frames first far.after event others far.runs in
        let same : f.0 ≡ after = same_Some f.0 after (sym f.1.0 ∙ is_after) in
        let rest = subst (λ z. run_from files frames z others ≡ Some far.after) same f.1.1 in
        let m = matched files frames Conflict Like b others after near.last far.after like rest in
        record {
          last = far.last;
          goes = far.goes;
          only = far.only;
          after = m.0;
          runs = m.1.0;
          like = b.transitive m.0 far.after far.last (b.symmetric far.after m.0 m.1.1) far.like;
          free = far.free;
        }

    pub passed : IsPassed
    passed =
        let f = first_of files frames first near.after event [] near.runs in
        let same : f.0 ≡ near.after = same_Some f.0 near.after f.1.1 in
        let is_after = f.1.0 ∙ ap (λ z. Some z) same in
        record {
          last = near.last;
          alone = record { goes = near.goes; behind = behind_more near.after is_after near.like };
          after = near.after;
          is_after = is_after;
          like = near.like;
        }

  -- ---- an event, and events that are alone

  -- The event leads behind events that are alone to a state like this one, or was the first of them of its thread.
  pub data Advance (event : Event) (next last : State) : Type 0 where
    Among : (threads : List ℕ) (after : State) → AreAlone files frames Conflict Like threads next after → Like after last → Advance event next last
    Behind : (threads : List ℕ) (after moved : State) → AreAlone files frames Conflict Like threads next after
        → step files frames last event ≡ Some moved → Like after moved → Advance event next last

  module _ (typed : (state next : State) (event : Event) → IsWellTyped files state → step files frames state event ≡ Some next → IsWellTyped files next) where
    chain_typed : (threads : List ℕ) (state last : State) → IsWellTyped files state → AreAlone files frames Conflict Like threads state last
        → IsWellTyped files last
    chain_typed [] state last h c = subst (IsWellTyped files) c h
    chain_typed (t ∷ threads) state last h c = chain_typed threads c.0 last (typed state c.0 (next_event t) h c.1.0.goes) c.1.1

    -- one thread more that is alone, before the event of another
    longer : (state next : State) (event : Event) (t : ℕ) (first last : State) (a : Alone state t first) (ne : t ≡ event.thread → ⊥)
        → (goes : step files frames state event ≡ Some next) → (p : IsPassed state next event t first a ne goes)
        → Advance event p.after last → Advance event next last
    longer state next event t first last a ne goes p (Among threads after chain like) =
        let c = chain_like threads p.after p.last after p.like chain in
        Among (t ∷ threads) c.0 (p.last, (p.alone, c.1.0)) (b.transitive c.0 after last (b.symmetric after c.0 c.1.1) like)
    longer state next event t first last a ne goes p (Behind threads after moved chain is_moved like) =
        let c = chain_like threads p.after p.last after p.like chain in
        Behind (t ∷ threads) c.0 moved (p.last, (p.alone, c.1.0)) is_moved (b.transitive c.0 after moved (b.symmetric after c.0 c.1.1) like)

    -- the event of the thread that is alone is that one
    pub itself : (state next : State) (event : Event) (t : ℕ) (first : State) → Alone state t first → t ≡ event.thread
        → step files frames state event ≡ Some next → first ≡ next
    itself state next event t first a same goes =
        let x = a.behind [] state tt refl in
        let is_of : event ≡ record { thread = t; pick = event.pick } = λ i. record { thread = sym same i; pick = event.pick } in
        let goes_t = sym (ap (step files frames state) is_of) ∙ goes in
        let zero = x.only event.pick next goes_t in
        let is_next = sym (ap (λ p. step files frames state (record { thread = t; pick = p })) zero) ∙ goes_t in
        same_Some first next (sym a.goes ∙ is_next)

    pub advance : (threads : List ℕ) (state next last : State) (event : Event) → IsWellTyped files state
        → AreAlone files frames Conflict Like threads state last → step files frames state event ≡ Some next → Advance event next last
    advance [] state next last event h c goes =
        Behind [] next next refl (subst (λ z. step files frames z event ≡ Some next) c goes) (b.reflexive next (typed state next event h goes))
    advance (t ∷ threads) state next last event h c goes =
        by (t == event.thread) refl (λ after is_after. advance threads c.0 after last event (typed state c.0 (next_event t) h c.1.0.goes) c.1.1 is_after)
      where
        by : (q : Bool) → (t == event.thread) ≡ q
            → ((after : State) → step files frames c.0 event ≡ Some after → Advance event after last) → Advance event next last
        by true e rest =
            let same = itself state next event t c.0 c.1.0 (eqb-true t event.thread e) goes in
            let l = b.reflexive last (chain_typed (t ∷ threads) state last h c) in
            Among threads last (subst (λ z. AreAlone files frames Conflict Like threads z last) same c.1.1) l
        by false e rest =
            let ne : t ≡ event.thread → ⊥ = λ same. false≢true (sym e ∙ eq-eqb t event.thread same) in
            let p = passed state next event t c.0 c.1.0 ne goes in
            longer state next event t c.0 last c.1.0 ne goes p (rest p.after p.is_after)

  -- events that are alone, and more of them
  pub chains_joined : (first second : List ℕ) (state middle last : State) → AreAlone files frames Conflict Like first state middle
      → AreAlone files frames Conflict Like second middle last → AreAlone files frames Conflict Like (first ++ second) state last
  chains_joined [] second state middle last c d = subst (λ z. AreAlone files frames Conflict Like second z last) (sym c) d
  chains_joined (t ∷ first) second state middle last c d = (c.0, (c.1.0, chains_joined first second c.0 middle last c.1.1 d))
