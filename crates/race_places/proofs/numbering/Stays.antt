-- Where keys are added, the actions that were numbered have the same steps.
use Rattle.std.proofs.Common.{◌≡◌, refl, sym, ◌∙◌, ap, subst, zero, suc, inl, inr, List, [], ◌∷◌, ◌++◌, map}
use Rattle.std.specs.Prelude.{true, false, IsTrue}
use Rattle.data_races.proofs.Order.{at_next}
use Rattle.race_detection.specs.declared.run_steps.Action.{Action as Numbered}
use Rattle.race_detection.specs.declared.run_steps.Action.TheVariants as numbered
use Rattle.race_detection.specs.declared.run_steps.Step.{Step}
use Rattle.race_places.specs.declared.run_actions.Action.{Action}
use Rattle.race_places.specs.declared.run_actions.Action.TheVariants.{Read, Write, Lock, Unlock, Begin, Finish, Start, Interrupt, ClearInterrupt, Wake, FinishInitialisation, FindStarted, FindFinished, FindInterrupted, FindNotInterrupted, FindWoken, FindInitialised}
use Rattle.race_places.specs.declared.run_actions.RunAction.{RunAction}
use Rattle.race_places.specs.declared.run_actions.Key.{Key}
use Rattle.race_places.specs.numbering.Numbers.{NumberingOf, number_in, is_in, numbered_action, numbered_step, HasNumbers, IsLonger, Has, Numbers}
use Rattle.race_places.proofs.numbering.Keys.{number_longer}
use Rattle.race_places.proofs.numbering.Renamed.{has_longer}

module _ (old new : NumberingOf) (longer : IsLonger old new) where
  place_stays : (k : Key) → IsTrue (is_in old.places k) → number_in new.places k ≡ number_in old.places k
  place_stays k h = ap (λ keys. number_in keys k) longer.places.1 ∙ number_longer old.places longer.places.0 k h

  variable_stays : (k : Key) → IsTrue (is_in old.variables k) → number_in new.variables k ≡ number_in old.variables k
  variable_stays k h = ap (λ keys. number_in keys k) longer.variables.1 ∙ number_longer old.variables longer.variables.0 k h

  action_stays : (a : Action) → HasNumbers old a → numbered_action new a ≡ numbered_action old a
  action_stays (Read variable true) h = ap (λ m. numbered.Acquire m) (place_stays _ h.found)
  action_stays (Read variable false) h = ap (λ m. numbered.Read m) (variable_stays _ h.read)
  action_stays (Write variable true) h = ap (λ m. numbered.Release m) (place_stays _ h.left)
  action_stays (Write variable false) h = ap (λ m. numbered.Write m) (variable_stays _ h.written)
  action_stays (Lock object) h = ap (λ m. numbered.Acquire m) (place_stays _ h.found)
  action_stays (Unlock object) h = ap (λ m. numbered.Release m) (place_stays _ h.left)
  action_stays (Begin thread) h = ap (λ m. numbered.Acquire m) (place_stays _ h.found)
  action_stays (Finish thread) h = ap (λ m. numbered.Release m) (place_stays _ h.left)
  action_stays (Start thread) h = ap (λ m. numbered.Release m) (place_stays _ h.left)
  action_stays (Interrupt thread) h = ap (λ m. numbered.Release m) (place_stays _ h.left)
  action_stays (ClearInterrupt thread) h = λ i. numbered.Clear (place_stays _ h.taken i) (place_stays _ h.left i)
  action_stays (Wake thread) h = ap (λ m. numbered.Release m) (place_stays _ h.left)
  action_stays (FinishInitialisation class) h = ap (λ m. numbered.Release m) (place_stays _ h.left)
  action_stays (FindStarted thread) h = ap (λ m. numbered.Acquire m) (place_stays _ h.found)
  action_stays (FindFinished thread) h = ap (λ m. numbered.Acquire m) (place_stays _ h.found)
  action_stays (FindInterrupted thread) h = ap (λ m. numbered.Acquire m) (place_stays _ h.found)
  action_stays (FindNotInterrupted thread) h = ap (λ m. numbered.Acquire m) (place_stays _ h.found)
  action_stays (FindWoken thread) h = ap (λ m. numbered.Acquire m) (place_stays _ h.found)
  action_stays (FindInitialised class) h = ap (λ m. numbered.Acquire m) (place_stays _ h.found)

  step_stays : (a : RunAction) → HasNumbers old a.action → numbered_step new a ≡ numbered_step old a
  step_stays a h = λ i. record { thread = a.thread; event = a.event; action = action_stays a.action h i }

  steps_stay : (run : List RunAction) → ((a : RunAction) → Has run a → HasNumbers old a.action) → map (numbered_step new) run ≡ map (numbered_step old) run
  steps_stay [] has = refl
  steps_stay (a ∷ run) has = λ i. step_stays a (has a (zero, refl)) i ∷ steps_stay run (λ b at. has b (suc at.0, at.1)) i

  pub numbers_stay : (run : List RunAction) (steps : List Step) → Numbers run steps old → Numbers run steps new
  numbers_stay run steps numbers =
      record {
        steps_are = numbers.steps_are ∙ sym (steps_stay run numbers.have_numbers);
        have_numbers = λ a at. has_longer old new longer a.action (numbers.have_numbers a at);
      }

map_next : (n : NumberingOf) (run : List RunAction) (a : RunAction) → map (numbered_step n) (run ++ a ∷ []) ≡ map (numbered_step n) run ++ numbered_step n a ∷ []
map_next n [] a = refl
map_next n (b ∷ run) a = ap (λ s. numbered_step n b ∷ s) (map_next n run a)

-- one action more
pub numbers_next : (run : List RunAction) (steps : List Step) (a : RunAction) (n : NumberingOf) → Numbers run steps n → HasNumbers n a.action
    → Numbers (run ++ a ∷ []) (steps ++ numbered_step n a ∷ []) n
numbers_next run steps a n numbers h =
    record {
      steps_are = ap (λ s. s ++ numbered_step n a ∷ []) numbers.steps_are ∙ sym (map_next n run a);
      have_numbers = λ b at. elim (at_next run a at.0 b at.1) [
        | inl p ↦ numbers.have_numbers b (at.0, p.1)
        | inr p ↦ subst (λ c. HasNumbers n c.action) (sym p.1) h
      ];
    }

-- the step of the next action
pub next_step : (a : RunAction) (old new : NumberingOf) (x : Numbered) (s : Step) → s ≡ record { thread = a.thread; event = a.event; action = x }
    → (x ≡ numbered_action new a.action) × HasNumbers new a.action × IsLonger old new → (run : List RunAction) (steps : List Step) → Numbers run steps old
    → Numbers (run ++ a ∷ []) (steps ++ s ∷ []) new
next_step a old new x s is h run steps numbers =
    let same : s ≡ numbered_step new a = is ∙ (λ i. record { thread = a.thread; event = a.event; action = h.0 i }) in
    subst (λ (t : Step). Numbers (run ++ a ∷ []) (steps ++ t ∷ []) new) (sym same) (numbers_next run steps a new (numbers_stay old new h.2 run steps numbers) h.1)
