-- Runs: one event more, two runs on end, and runs of states that do the same.
use Rattle.std.proofs.Common.{◌≡◌, ℕ, List, [], ◌∷◌, ◌++◌, Option, Some, None, refl, ap, ◌∙◌, subst}
use Rattle.std.specs.Option.{option_and_then}
use Rattle.std.proofs.lemmas.Option.{same_Some, none-some}
use Rattle.model.specs.declared.event.Event.{Event}
use Rattle.model.specs.Classes.{Program}
use Rattle.model.specs.Run.{run_from}
use Rattle.model.specs.State.{State}
use Rattle.model.specs.Step.{step}
use Rattle.search_laws.specs.Alone.{Relation, IsBisimulation}

-- what a value that is there was made of
pub made_of : {A B : Type 0} (o : Option A) (f : A → Option B) (z : B) → option_and_then f o ≡ Some z
    → (m : A) × ((o ≡ Some m) × (f m ≡ Some z))
made_of None f z e = absurd (none-some z e)
made_of (Some m) f z e = (m, (refl, e))

module _ (files : Program) (frames : ℕ) where
  -- the first event of a run, and the rest of it
  pub first_of : (state last : State) (event : Event) (events : List Event) → run_from files frames state (event ∷ events) ≡ Some last
      → (next : State) × ((step files frames state event ≡ Some next) × (run_from files frames next events ≡ Some last))
  first_of state last event events r = made_of (step files frames state event) (λ m. run_from files frames m events) last r

  pub begun : (state next last : State) (event : Event) (events : List Event) → step files frames state event ≡ Some next
      → run_from files frames next events ≡ Some last → run_from files frames state (event ∷ events) ≡ Some last
  begun state next last event events s r = ap (option_and_then (λ m. run_from files frames m events)) s ∙ r

  pub joined : (first second : List Event) (state middle last : State) → run_from files frames state first ≡ Some middle
      → run_from files frames middle second ≡ Some last → run_from files frames state (first ++ second) ≡ Some last
  joined [] second state middle last r q = ap (λ z. run_from files frames z second) (same_Some state middle r) ∙ q
  joined (event ∷ first) second state middle last r q =
      let s = first_of state middle event first r in
      begun state s.0 last event (first ++ second) s.1.0 (joined first second s.0 middle last s.1.1 q)

  module _ (Conflict : Relation) (Like : State → State → Type 0) (b : IsBisimulation files frames Conflict Like) where
    -- a run is matched from a state that is like the one where it began
    pub matched : (events : List Event) (one other last : State) → Like one other → run_from files frames one events ≡ Some last
        → (after : State) × ((run_from files frames other events ≡ Some after) × Like last after)
    matched [] one other last l r = (other, (refl, subst (λ z. Like z other) (same_Some one last r) l))
    matched (event ∷ events) one other last l r =
        let s = first_of one last event events r in
        let a = b.steps one other s.0 event l s.1.0 in
        let rest = matched events s.0 a.0 last a.1.1 s.1.1 in
        (rest.0, (begun other a.0 rest.0 event events a.1.0 rest.1.0, rest.1.1))
