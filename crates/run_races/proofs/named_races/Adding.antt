-- The actions of one more event are those of the longer run.
use Rattle.std.proofs.Common.{◌≡◌, ℕ, zero, suc, ◌+◌, List, [], ◌∷◌, ◌++◌, map, length, Bool, Option, Some, None, refl, sym, ap, subst, ◌∙◌, arith, append_assoc}
use Rattle.std.specs.Prelude.{slice_get}
use Rattle.std.specs.Option.{option_map_or, option_and_then}
use Rattle.model.specs.declared.event.Event.{Event}
use Rattle.model.specs.Classes.{Program}
use Rattle.model.specs.Opening.{opening}
use Rattle.model.specs.Operands.{values}
use Rattle.model.specs.Run.{run, run_from}
use Rattle.model.specs.State.{State}
use Rattle.model.specs.Step.{step}
use Rattle.data_races.specs.Actions as named
use Rattle.data_races.specs.EventActions.{actions_of}
use Rattle.data_races.specs.Races.{ActionOfRun, in_event, actions_from, actions_of_run}
use Rattle.race_places.specs.declared.run_actions.Variable.{Variable}
use Rattle.race_places.specs.declared.run_actions.Action.{Action}
use Rattle.race_places.specs.declared.run_actions.RunAction.{RunAction}
use Rattle.race_places.specs.named_actions.Names.{IsRight, named_action}
use Rattle.field_names.specs.named_fields.Fields.{names_of}
use Rattle.run_races.specs.labels.Labels.{access_of}
use Rattle.run_races.specs.race_finder.Found.{accessed}
use Rattle.run_races.specs.named_races.Named.{StandsAt, StoodAt, IsOfRun, AreAlike, AreOfRun, AreOfEvent, numbered_in}

-- ---- the actions of a longer run

step_then : (files : Program) (frames : ℕ) (s last : State) (event : Event) (events : List Event)
    → run_from files frames s (event ∷ events) ≡ Some last → (next : State) × (step files frames s event ≡ Some next) × (run_from files frames next events ≡ Some last)
step_then files frames s last event events h = by (step files frames s event) refl h
  where
    by : (o : Option State) → step files frames s event ≡ o → option_and_then (λ next. run_from files frames next events) o ≡ Some last
        → (next : State) × (step files frames s event ≡ Some next) × (run_from files frames next events ≡ Some last)
    by None e g = absurd (cc)
    by (Some next) e g = (next, e, g)

actions_append : (files : Program) (frames : ℕ) (s last : State) (n : ℕ) (events more : List Event) → run_from files frames s events ≡ Some last
    → actions_from files frames s n (events ++ more) ≡ actions_from files frames s n events ++ actions_from files frames last (n + length events) more
actions_append files frames s last n [] more h =
    let e : s ≡ last = cc in
    let z : n ≡ n + 0 = omega arith in
    ap (λ (x : State). actions_from files frames x n more) e ∙ ap (λ m. actions_from files frames last m more) z
actions_append files frames s last n (event ∷ events) more h =
    let g = step_then files frames s last event events h in
    let first = map (in_event event.thread n) (actions_of files frames s event) in
    let z : suc n + length events ≡ n + suc (length events) = omega arith in
    ap (λ (o : Option State). first ++ option_map_or (λ next. actions_from files frames next (suc n) (events ++ more)) o []) g.1
    ∙ ap (λ xs. first ++ xs) (actions_append files frames g.0 last (suc n) events more g.2 ∙ ap (λ m. actions_from files frames g.0 (suc n) events ++ actions_from files frames last m more) z)
    ∙ sym (append_assoc first (actions_from files frames g.0 (suc n) events) (actions_from files frames last (n + suc (length events)) more))
    ∙ ap (λ (o : Option State). (first ++ option_map_or (λ next. actions_from files frames next (suc n) events) o []) ++ actions_from files frames last (n + suc (length events)) more) (sym g.1)

append_none : {A : Type 0} (xs : List A) → xs ++ [] ≡ xs
append_none [] = refl
append_none (x ∷ xs) = ap (λ l. x ∷ l) (append_none xs)

module _ (trees : Program) (frames : ℕ) (events : List Event) (state : State) (reached : run trees frames events ≡ Some state) (event : Event) (next : State)
    (steps : step trees frames state event ≡ Some next) where
  abbrev more : List Event
  more = events ++ event ∷ []

  one_event : (n : ℕ) → actions_from trees frames state n (event ∷ []) ≡ map (in_event event.thread n) (actions_of trees frames state event)
  one_event n =
      ap (λ (o : Option State). map (in_event event.thread n) (actions_of trees frames state event) ++ option_map_or (λ then. actions_from trees frames then (suc n) []) o []) steps
      ∙ append_none (map (in_event event.thread n) (actions_of trees frames state event))

  longer_is : actions_of_run trees frames more ≡ actions_of_run trees frames events ++ map (in_event event.thread (length events)) (actions_of trees frames state event)
  longer_is =
      let z : 0 + length events ≡ length events = omega arith in
      actions_append trees frames (opening values trees) state 0 events (event ∷ []) reached
      ∙ ap (λ n. actions_of_run trees frames events ++ actions_from trees frames state n (event ∷ [])) z
      ∙ ap (λ l. actions_of_run trees frames events ++ l) (one_event (length events))

  -- ---- those that were there

  stood_still : (number t method offset : ℕ) → StoodAt trees frames events number t method offset → StoodAt trees frames more number t method offset
  stood_still number t method offset s =
      record {
        before = s.before;
        event = s.event;
        left = s.left ++ event ∷ [];
        events_are = ap (λ l. l ++ event ∷ []) s.events_are ∙ append_assoc s.before (s.event ∷ s.left) (event ∷ []);
        count = s.count;
        thread = s.thread;
        state = s.state;
        reached = s.reached;
        stands = s.stands;
      }

  still_of : (a : RunAction) (of : ActionOfRun) → IsOfRun trees frames events a of → IsOfRun trees frames more a of
  still_of a of h =
      record {
        thread = h.thread;
        action = h.action;
        right = h.right;
        labelled = λ variable writes accesses.
            let l = h.labelled variable writes accesses in
            record { is_write = l.is_write; stood = stood_still of.event of.thread (access_of a.thread a.event).method (access_of a.thread a.event).offset l.stood };
      }

  still_alike : (told : List RunAction) (all : List ActionOfRun) → AreAlike trees frames events told all → AreAlike trees frames more told all
  still_alike [] [] h = tt
  still_alike [] (y ∷ all) h = absurd h
  still_alike (x ∷ told) [] h = absurd h
  still_alike (x ∷ told) (y ∷ all) h = (still_of x y h.0, still_alike told all h.1)

  both_alike : (told told2 : List RunAction) (all all2 : List ActionOfRun) → AreAlike trees frames more told all → AreAlike trees frames more told2 all2
      → AreAlike trees frames more (told ++ told2) (all ++ all2)
  both_alike [] told2 [] all2 h g = g
  both_alike [] told2 (y ∷ all) all2 h g = absurd h
  both_alike (x ∷ told) told2 [] all2 h g = absurd h
  both_alike (x ∷ told) told2 (y ∷ all) all2 h g = (h.0, both_alike told told2 all all2 h.1 g)

  -- ---- and those of the event

  module _ (label : Action → ℕ) where
    abbrev Labelled : Action → Type 0
    Labelled a =
        (variable : Variable) (writes : Bool) → accessed a ≡ Some (variable, writes)
        → let access = access_of event.thread (label a) in
        (access.is_write ≡ writes) × StandsAt trees state event.thread access.method access.offset

    one_alike : (a : Action) → IsRight (names_of trees) trees a → Labelled a
        → IsOfRun trees frames more (numbered_in event.thread label a) (in_event event.thread (length events) (named_action (names_of trees) a))
    one_alike a right labelled =
        record {
          thread = refl;
          action = refl;
          right = right;
          labelled = λ variable writes accesses.
              let l = labelled variable writes accesses in
              record {
                is_write = l.0;
                stood = record {
                  before = events;
                  event = event;
                  left = [];
                  events_are = refl;
                  count = refl;
                  thread = refl;
                  state = state;
                  reached = reached;
                  stands = l.1;
                };
              };
        }

    new_alike : (told : List Action) → ((k : ℕ) (a : Action) → slice_get told k ≡ Some a → IsRight (names_of trees) trees a)
        → ((k : ℕ) (a : Action) → slice_get told k ≡ Some a → Labelled a)
        → AreAlike trees frames more (map (numbered_in event.thread label) told) (map (in_event event.thread (length events)) (map (named_action (names_of trees)) told))
    new_alike [] right labelled = tt
    new_alike (a ∷ told) right labelled =
        (one_alike a (right zero a refl) (labelled zero a refl), new_alike told (λ k x e. right (suc k) x e) (λ k x e. labelled (suc k) x e))

    pub more_of_run : (told : List RunAction) → AreOfRun trees frames events told → (actions : List Action) → AreOfEvent trees frames state event label actions
        → AreOfRun trees frames more (told ++ map (numbered_in event.thread label) actions)
    more_of_run told h actions of =
        subst (λ (l : List ActionOfRun). AreAlike trees frames more (told ++ map (numbered_in event.thread label) actions) l) (sym longer_is)
        (both_alike told (map (numbered_in event.thread label) actions) (actions_of_run trees frames events)
        (map (in_event event.thread (length events)) (actions_of trees frames state event))
        (still_alike told (actions_of_run trees frames events) h)
        (subst (λ (l : List named.Action). AreAlike trees frames more (map (numbered_in event.thread label) actions) (map (in_event event.thread (length events)) l)) of.are
        (new_alike actions of.right of.labelled)))
