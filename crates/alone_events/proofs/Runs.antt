-- Runs that are one event longer.
use Rattle.std.proofs.Common.{◌≡◌, ℕ, List, [], ◌∷◌, ◌++◌, Option, Some, None, subst}
use Rattle.std.specs.Option.{option_and_then}
use Rattle.std.proofs.lemmas.Option.{same_Some, none-some}
use Rattle.model.specs.declared.event.Event.{Event}
use Rattle.model.specs.Classes.{Program}
use Rattle.model.specs.Run.{run_from}
use Rattle.model.specs.State.{State}
use Rattle.model.specs.Step.{step}

only_step : (o : Option State) (next : State) → option_and_then (λ s. Some s) o ≡ Some next → o ≡ Some next
only_step None next e = e
only_step (Some s) next e = e

-- where the last event leads
pub last_step : (trees : Program) (frames : ℕ) (events : List Event) (from state next : State) (event : Event)
    → run_from trees frames from events ≡ Some state → run_from trees frames from (events ++ event ∷ []) ≡ Some next
    → step trees frames state event ≡ Some next
last_step trees frames [] from state next event r e =
    subst (λ s. step trees frames s event ≡ Some next) (same_Some from state r) (only_step (step trees frames from event) next e)
last_step trees frames (first ∷ events) from state next event r e = by (step trees frames from first) r e (λ s p q. last_step trees frames events s state next event p q)
  where
    by : (o : Option State) → option_and_then (λ s. run_from trees frames s events) o ≡ Some state
        → option_and_then (λ s. run_from trees frames s (events ++ event ∷ [])) o ≡ Some next
        → ((s : State) → run_from trees frames s events ≡ Some state → run_from trees frames s (events ++ event ∷ []) ≡ Some next → step trees frames state event ≡ Some next)
        → step trees frames state event ≡ Some next
    by None p q rest = absurd (none-some state p)
    by (Some s) p q rest = rest s p q
