-- Where no other thread has an event, that of a thread is alone.
use Rattle.std.proofs.Common.{◌≡◌, ℕ, List, [], ◌∷◌, Bool, Some, refl, subst}
use Rattle.std.specs.Prelude.{IsTrue}
use Rattle.std.proofs.lemmas.Option.{same_Some}
use Rattle.model.specs.declared.event.Event.{Event}
use Rattle.model.specs.Accepted.{IsAccepted}
use Rattle.model.specs.Classes.{Program}
use Rattle.model.specs.Run.{run_from}
use Rattle.model.specs.State.{State}
use Rattle.model.specs.Step.{step}
use Rattle.model.specs.WellTyped.{IsWellTyped}
use Rattle.search_laws.specs.Alone.{passing, next_event, AreOfOthers, IsAloneBehind, IsSole, HaveSameWords, AreSoleEventsAlone}
use Rattle.search_laws.proofs.Runs.{first_of}
use Rattle.search_laws.proofs.SameWords.{typed}

module _ (files : List (List ℕ)) (trees : Program) (accepted : IsAccepted files trees) (frames : ℕ) (conflict : State → ℕ → ℕ → Bool)
    (state first : State) (h : IsWellTyped trees state) (t : ℕ) (sole : IsSole trees frames state t)
    (goes : step trees frames state (next_event t) ≡ Some first)
    (only : (pick : ℕ) (next : State) → step trees frames state (record { thread = t; pick = pick }) ≡ Some next → pick ≡ 0)
    (free : (u : ℕ) → IsTrue (conflict state t u) → ⊥) where
  abbrev Behind : List Event → State → Type 0
  Behind = IsAloneBehind trees frames (passing conflict) (HaveSameWords trees) t first

  here : Behind [] state
  here =
      let after = typed files trees accepted frames state first (next_event t) h goes in
      record {
        last = first;
        goes = goes;
        only = only;
        after = first;
        runs = refl;
        like = record { one_typed = after; other_typed = after; same = refl };
        free = free;
      }

  -- the others have no run but the one without an event
  pub behind : (others : List Event) (later : State) → AreOfOthers t others → run_from trees frames state others ≡ Some later → Behind others later
  behind [] later are r = subst (Behind []) (same_Some state later r) here
  behind (event ∷ others) later are r = let f = first_of trees frames state later event others r in absurd (sole event f.0 are.0 f.1.0)

pub sole_alone : AreSoleEventsAlone
sole_alone files trees accepted frames conflict state first h t sole goes only free =
    record { goes = goes; behind = behind files trees accepted frames conflict state first h t sole goes only free }
