-- An event that accesses a variable is that of a thread that runs an instruction.
use Rattle.std.proofs.Common.{◌≡◌, ℕ, zero, suc, List, [], ◌∷◌, Bool, true, false, Option, Some, None, refl, sym, ap, subst, ◌∙◌}
use Rattle.std.specs.Prelude.{slice_get, ◌&&◌}
use Rattle.std.specs.Option.{option_map_or}
use Rattle.std.specs.List.{list_all}
use Rattle.std.proofs.lemmas.Bool.{false≢true, and_parts}
use Rattle.std.proofs.lemmas.Option.{same_Some, none-some}
use Rattle.model.specs.declared.event.Event.{Event}
use Rattle.model.specs.Classes.{Program}
use Rattle.model.specs.State.{State}
use Rattle.model.specs.Step.{step}
use Rattle.data_races.specs.Actions as named
use Rattle.data_races.specs.EventActions.{Rule, Begins, Does, Initialises, Relocks, Other, rule_of, actions_of, actions_to}
use Rattle.race_runs.proofs.finder.Labelled.{is_silent, AreSilent, Runs, event_silent}

silent_at : (xs : List named.Action) → AreSilent xs → (x : named.Action) (k : ℕ) → slice_get xs k ≡ Some x → is_silent x ≡ true
silent_at [] h x k e = absurd (none-some x e)
silent_at (y ∷ xs) h x zero e =
    let parts = and_parts (is_silent y) (list_all is_silent xs) h in
    subst (λ (z : named.Action). is_silent z ≡ true) (same_Some y x e) parts.0
silent_at (y ∷ xs) h x (suc k) e =
    let parts = and_parts (is_silent y) (list_all is_silent xs) h in
    silent_at xs parts.1 x k e

module _ (trees : Program) (frames : ℕ) (state : State) (event : Event) (x : named.Action) (k : ℕ) (loud : is_silent x ≡ false) where
  abbrev rule : Rule
  rule = rule_of trees state event.thread

  abbrev to : State → List named.Action
  to next = actions_to trees event state.world rule next.world

  unsilent : (o : Option State) → slice_get (option_map_or to o []) k ≡ Some x → (Runs rule → ⊥) → ⊥
  unsilent None e none = none-some x e
  unsilent (Some next) e none = false≢true (sym loud ∙ silent_at (to next) (event_silent trees event state.world next.world rule none) x k e)

  module _ (at : slice_get (actions_of trees frames state event) k ≡ Some x) where
    by : (r : Rule) → rule ≡ r → Runs rule
    by (Does instruction) e = (instruction, e)
    by Begins e = absurd (unsilent (step trees frames state event) at (λ r. let f : Begins ≡ Does r.0 = sym e ∙ r.1 in cc))
    by (Initialises class phase) e = absurd (unsilent (step trees frames state event) at (λ r. let f : Initialises class phase ≡ Does r.0 = sym e ∙ r.1 in cc))
    by (Relocks cause) e = absurd (unsilent (step trees frames state event) at (λ r. let f : Relocks cause ≡ Does r.0 = sym e ∙ r.1 in cc))
    by Other e = absurd (unsilent (step trees frames state event) at (λ r. let f : Other ≡ Does r.0 = sym e ∙ r.1 in cc))

    pub runs : Runs rule
    runs = by rule refl
