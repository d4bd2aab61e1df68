-- Events that are alone: persistent sets of one thread (Godefroid) that stay; and which states do the same.
use Rattle.std.specs.Prelude.{◌≡◌, ℕ, List, [], ◌∷◌, Some, Bool, IsTrue}
use Rattle.model.specs.declared.event.Event.{Event}
use Rattle.model.specs.Accepted.{IsAccepted}
use Rattle.model.specs.Classes.{Program}
use Rattle.model.specs.Run.{run_from, may_step, is_quiet}
use Rattle.model.specs.State.{State}
use Rattle.model.specs.Step.{step}
use Rattle.model.specs.WellTyped.{IsWellTyped}
use Rattle.model.specs.Words.{words_of}
use Rattle.run_laws.specs.interleavings.Ends.{outcome_of}

-- Which threads are in conflict in a state, as by what their next events access (JLS 17.4.1). It is left open which relation that is:
-- with none, nothing is said of conflicts.
abbrev pub Relation : Type 1
Relation = State → ℕ → ℕ → Type 0

-- the relation by a test
abbrev pub passing : (State → ℕ → ℕ → Bool) → Relation
passing conflict state t u = IsTrue (conflict state t u)

-- the event of a thread where nothing is picked
abbrev pub next_event : ℕ → Event
next_event t = record { thread = t; pick = 0 }

-- none of the events is of the thread
abbrev pub AreOfOthers : ℕ → List Event → Type 0
AreOfOthers t [] = Unit {0}
AreOfOthers t (event ∷ events) = (t ≡ event.thread → ⊥) × AreOfOthers t events

module _ (files : Program) (frames : ℕ) (Conflict : Relation) (Like : State → State → Type 0) where
  -- ---- states that do the same

  -- A bisimulation that is an equivalence of well-typed states, and keeps which threads may step, what is seen of a state,
  -- and conflicts.
  pub record IsBisimulation : Type 0 where
    pub reflexive : (state : State) → IsWellTyped files state → Like state state
    pub symmetric : (one other : State) → Like one other → Like other one
    pub transitive : (one two three : State) → Like one two → Like two three → Like one three
    pub steps : (one other next : State) (event : Event) → Like one other → step files frames one event ≡ Some next
        → (after : State) × ((step files frames other event ≡ Some after) × Like next after)
    pub may : (one other : State) (t : ℕ) → Like one other → may_step files frames other t ≡ may_step files frames one t
    pub quiet : (one other : State) → Like one other → is_quiet files frames other ≡ is_quiet files frames one
    pub outcome : (one other : State) → Like one other → outcome_of files frames other ≡ outcome_of files frames one
    pub conflicts : (one other : State) (t u : ℕ) → Like one other → Conflict one t u → Conflict other t u

  -- ---- events that are alone

  -- Behind events of other threads, which lead from a state to `later`: the event of the thread, which led from that state to `first`.
  pub record IsAloneBehind (t : ℕ) (first : State) (others : List Event) (later : State) : Type 0 where
    -- it is enabled
    pub last : State
    pub goes : step files frames later (next_event t) ≡ Some last
    -- it is the only one of the thread
    pub only : (pick : ℕ) (next : State) → step files frames later (record { thread = t; pick = pick }) ≡ Some next → pick ≡ 0
    -- done first, it leads to the same
    pub after : State
    pub runs : run_from files frames first others ≡ Some after
    pub like : Like after last
    -- it is in conflict with no other's
    pub free : (u : ℕ) → Conflict later t u → ⊥

  -- the next event of a thread is alone, and leads to `first`
  pub record IsAlone (state : State) (t : ℕ) (first : State) : Type 0 where
    pub goes : step files frames state (next_event t) ≡ Some first
    pub behind : (others : List Event) (later : State) → AreOfOthers t others → run_from files frames state others ≡ Some later
        → IsAloneBehind t first others later

  -- events that are alone, of these threads, one after another, lead from a state to another
  abbrev pub AreAlone : List ℕ → State → State → Type 0
  AreAlone [] state last = state ≡ last
  AreAlone (t ∷ threads) state last = (first : State) × (IsAlone state t first × AreAlone threads first last)

-- ---- statements, of accepted files, where states do the same that have the same words

-- both are well typed, with the same words
pub record HaveSameWords (files : Program) (one other : State) : Type 0 where
  pub one_typed : IsWellTyped files one
  pub other_typed : IsWellTyped files other
  pub same : words_of other ≡ words_of one

-- a test of threads that words tell
abbrev pub IsToldByWords : Program → (State → ℕ → ℕ → Bool) → Type 0
IsToldByWords files conflict = (one other : State) (t u : ℕ) → HaveSameWords files one other → conflict other t u ≡ conflict one t u

abbrev pub AreSameWordsBisimilar : Type 0
AreSameWordsBisimilar =
    (files : List (List ℕ)) (trees : Program) → IsAccepted files trees → (frames : ℕ) (conflict : State → ℕ → ℕ → Bool)
    → IsToldByWords trees conflict → IsBisimulation trees frames (passing conflict) (HaveSameWords trees)

-- what is alone stays alone behind each event of another thread
abbrev pub DoesAloneStay : Type 0
DoesAloneStay =
    (files : List (List ℕ)) (trees : Program) → IsAccepted files trees → (frames : ℕ) (conflict : State → ℕ → ℕ → Bool)
    → IsToldByWords trees conflict → (state next : State) (event : Event) (t : ℕ) (first : State)
    → IsAlone trees frames (passing conflict) (HaveSameWords trees) state t first → (t ≡ event.thread → ⊥)
    → step trees frames state event ≡ Some next
    → (after : State) × IsAlone trees frames (passing conflict) (HaveSameWords trees) next t after

-- no other thread has an event
abbrev pub IsSole : Program → ℕ → State → ℕ → Type 0
IsSole files frames state t = (event : Event) (next : State) → (t ≡ event.thread → ⊥) → step files frames state event ≡ Some next → ⊥

-- Where a thread alone has an event, and has a single one, which is in no conflict, that one is alone, whatever it does.
abbrev pub AreSoleEventsAlone : Type 0
AreSoleEventsAlone =
    (files : List (List ℕ)) (trees : Program) → IsAccepted files trees → (frames : ℕ) (conflict : State → ℕ → ℕ → Bool) (state first : State)
    → IsWellTyped trees state → (t : ℕ) → IsSole trees frames state t → step trees frames state (next_event t) ≡ Some first
    → ((pick : ℕ) (next : State) → step trees frames state (record { thread = t; pick = pick }) ≡ Some next → pick ≡ 0)
    → ((u : ℕ) → IsTrue (conflict state t u) → ⊥)
    → IsAlone trees frames (passing conflict) (HaveSameWords trees) state t first
