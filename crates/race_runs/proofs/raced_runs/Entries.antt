-- The event of an entry, again and again.
use Rattle.std.proofs.Common.{◌≡◌, ◌+◌, ◌-◌, ◌<◌, ℕ, suc, List, [], ◌∷◌, ◌++◌, replicate, refl, sym, ap, subst, ◌∙◌, arith}
use Rattle.std.proofs.lemmas.List.{replicate-append-replicate}
use Rattle.model.specs.declared.event.Event.{Event}
use Rattle.machine.specs.declared.machine.Stopped.{Stopped}
use Rattle.machine.specs.declared.machine.Stopped.TheVariants as stopped
use Rattle.machine.specs.Machines.{MachineOf}
use Rattle.race_runs.specs.declared.finder.Finder.{Finder}
use Rattle.race_runs.specs.raced_runs.Going.{RacesThrough, done_by}
use Rattle.race_runs.proofs.raced_runs.Passed.{IsPassed, goes_on, stops, all_done}

pub none_by : (why : Stopped) → (why ≡ stopped.Most → ⊥) → done_by why ≡ 0
none_by stopped.Most not_most = absurd (not_most refl)
none_by stopped.NotEnabled not_most = refl
none_by (stopped.Refused told) not_most = refl

module _ (e : Event) (n : ℕ) (old between new : MachineOf) (before middle after : Finder) (passed : IsPassed (replicate n e) n old between before middle) where
  pub once_more : (why : Stopped) → why ≡ stopped.Most → RacesThrough (done_by why, why) (e ∷ []) between new middle after
      → IsPassed (replicate (n + 1) e) (n + 1) old new before after
  once_more why is h =
      let one : RacesThrough (1, stopped.Most) (e ∷ []) between new middle after =
      subst (λ (w : Stopped). RacesThrough (done_by w, w) (e ∷ []) between new middle after) is h
      in
      subst (λ (l : List Event). IsPassed l (n + 1) old new before after) (replicate-append-replicate n 1 e)
      (goes_on (replicate n e) n old between new before middle after passed (e ∷ []) 1 one)

  pub no_more : (most : ℕ) → n < most → (why : Stopped) → (why ≡ stopped.Most → ⊥) → RacesThrough (done_by why, why) (e ∷ []) between new middle after
      → RacesThrough (n, why) (replicate most e) old new before after
  no_more most below why not_most h =
      let left : ℕ = most - suc n in
      let all : replicate most e ≡ replicate n e ++ (e ∷ [] ++ replicate left e) =
      sym (replicate-append-replicate n (suc left) e ∙ ap (λ k. replicate k e) (omega (arith, below)))
      in
      let count : n + done_by why ≡ n = let none = none_by why not_most in omega (arith, none) in
      subst (λ (k : ℕ). RacesThrough (k, why) (replicate most e) old new before after) count
      (stops (replicate n e) n old between new before middle after passed (e ∷ []) (done_by why) why not_most h (replicate most e) (replicate left e) all)

pub all_of_entry : (e : Event) (n most : ℕ) (old new : MachineOf) (before after : Finder) → n ≡ most → IsPassed (replicate n e) n old new before after
    → RacesThrough (most, stopped.Most) (replicate most e) old new before after
all_of_entry e n most old new before after is passed =
    subst (λ (k : ℕ). RacesThrough (k, stopped.Most) (replicate k e) old new before after) is (all_done (replicate n e) n old new before after passed)
