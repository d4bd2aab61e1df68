-- Whom a thread waits for: who holds what it needs, if that is another one.
use Rattle.std.proofs.Common.{◌≡◌, ◌<◌, ◌≤◌, ◌+◌, inl, inr, ℕ, zero, suc, List, [], ◌∷◌, ◌++◌, length, Option, Some, None, refl, sym, ap, subst, ◌∙◌, arith}
use Rattle.std.specs.Prelude.{slice_get}
use Rattle.std.specs.Option.{option_and_then}
use Rattle.std.proofs.lemmas.Bool.{cases_lt}
use Rattle.std.proofs.lemmas.List.{length-append}
use Rattle.std.proofs.lemmas.Option.{none-some, same_Some}
use Rattle.model.specs.Classes.{Program}
use Rattle.model.specs.Operands.{words}
use Rattle.model.specs.State.{StackOf, StateOf}
use Rattle.model.specs.Worlds.{thread_at}
use Rattle.run_laws.proofs.typed_threads.Threads.{tables_counted}
use Rattle.search_laws.specs.Waits.{Need, MonitorOf, ClassOf, status_need, next_need}
use Rattle.linked_code.specs.declared.program.LinkedProgram.{LinkedProgram}
use Rattle.machine_state.specs.declared.state.Shared.{Shared}
use Rattle.waiting_circles.specs.declared.needs.kinds.Need.{Need as TheNeed}
use Rattle.waiting_circles.specs.declared.needs.kinds.Need.TheVariants as the
use Rattle.waiting_circles.specs.Circles.{IsAwaited, AwaitsNext, AreAwaited}
use Rattle.waiting_circles.specs.Holders.{IsHeldOnlyBy}
use Rattle.waiting_circles.specs.Needs.{IsNeed}
use Rattle.waiting_circles.specs.Rounds.{next_in}

-- ---- one thread

module _ (trees : Program) (frames : ℕ) (state : StateOf ℕ) (t : ℕ) where
  abbrev next : Option Need
  next = next_need words trees frames state t

  pub needs_none : next ≡ None → IsAwaited trees frames state t None
  needs_none e = record { awaits = λ u q. absurd (none-some u q); only = λ u a. absurd (none-some a.need (sym e ∙ a.needs)) }

  need_at : (n : TheNeed) → IsNeed trees (Some n) next → (need : Need) × (next ≡ Some need)
  need_at (the.Monitor object) h = (MonitorOf object, h)
  need_at (the.Class number) h = (ClassOf h.0, h.2)

  module _ (n : TheNeed) (told : IsNeed trees (Some n) next) (holder : Option ℕ) (held : (is : Need) → IsNeed trees (Some n) (Some is) → IsHeldOnlyBy state.world is holder) where
    held_as : (need : Need) → next ≡ Some need → IsHeldOnlyBy state.world need holder
    held_as need e = held need (subst (IsNeed trees (Some n)) e told)

    pub held_by_none : holder ≡ None → IsAwaited trees frames state t None
    held_by_none e =
        record { awaits = λ u q. absurd (none-some u q); only = λ u a. absurd (none-some u (sym e ∙ (held_as a.need a.needs).only u a.held)) }

    pub held_by_it : (other : ℕ) → holder ≡ Some other → other ≡ t → IsAwaited trees frames state t None
    held_by_it other e same =
        record {
          awaits = λ u q. absurd (none-some u q);
          only = λ u a. absurd (a.differ (sym same ∙ same_Some other u (sym e ∙ (held_as a.need a.needs).only u a.held)));
        }

    pub held_by_other : (other : ℕ) → holder ≡ Some other → (other ≡ t → ⊥) → IsAwaited trees frames state t (Some other)
    held_by_other other e ne =
        let need = need_at n told in
        record {
          awaits = λ u q.
              record {
                differ = λ same. ne (same_Some other u q ∙ sym same);
                need = need.0;
                needs = need.1;
                held = (held_as need.0 need.1).holds u (e ∙ q);
              };
          only = λ u a. sym e ∙ (held_as a.need a.needs).only u a.held;
        }

-- ---- the first threads

before_last : (xs : List (Option ℕ)) (x : Option ℕ) (t : ℕ) → t < length xs → next_in (xs ++ x ∷ []) t ≡ next_in xs t
before_last [] x t h = absurd (omega (arith, h))
before_last (y ∷ ys) x zero h = refl
before_last (y ∷ ys) x (suc t) h = before_last ys x t (omega (arith, h))

last_in : (xs : List (Option ℕ)) (x : Option ℕ) → next_in (xs ++ x ∷ []) (length xs) ≡ x
last_in [] x = refl
last_in (y ∷ ys) x = last_in ys x

get_past : {A : Type 0} (xs : List A) (k : ℕ) → length xs ≤ k → slice_get xs k ≡ None
get_past [] k h = refl
get_past (x ∷ xs) zero h = absurd (omega (arith, h))
get_past (x ∷ xs) (suc k) h = get_past xs k (omega (arith, h))

pub record IsSoFar (p : LinkedProgram) (shared : Shared) (frames k : ℕ) (nexts : List (Option ℕ)) : Type 0 where
  pub count : length nexts ≡ k
  pub are : (t : ℕ) → t < k → AwaitsNext p shared t frames (next_in nexts t)

module _ (p : LinkedProgram) (shared : Shared) (frames : ℕ) where
  pub none_yet : (nexts : List (Option ℕ)) → nexts ≡ [] → IsSoFar p shared frames 0 nexts
  none_yet nexts e = record { count = ap length e; are = λ t h. absurd (omega (arith, h)) }

  pub one_more : (k : ℕ) (nexts : List (Option ℕ)) (x : Option ℕ) → IsSoFar p shared frames k nexts → AwaitsNext p shared k frames x
      → IsSoFar p shared frames (k + 1) (nexts ++ x ∷ [])
  one_more k nexts x so_far awaits =
      record { count = length-append nexts (x ∷ []) ∙ ap (λ n. n + 1) so_far.count; are = by }
    where
      by : (t : ℕ) → t < k + 1 → AwaitsNext p shared t frames (next_in (nexts ++ x ∷ []) t)
      by t h = elim (cases_lt t k) [
        | inl l ↦
            subst (AwaitsNext p shared t frames) (sym (before_last nexts x t (omega (arith, l, so_far.count)))) (so_far.are t l)
        | inr g ↦
            let at : k ≡ t = omega (arith, g, h) in
            let place : length nexts ≡ t = so_far.count ∙ at in
            subst (AwaitsNext p shared t frames) (sym (ap (next_in (nexts ++ x ∷ [])) (sym place) ∙ last_in nexts x))
            (subst (λ n. AwaitsNext p shared n frames x) at awaits)
      ]

  pub all_of_them : (k : ℕ) (nexts : List (Option ℕ)) → IsSoFar p shared frames k nexts → length shared.threads.threads ≤ k
      → AreAwaited p shared frames nexts
  all_of_them k nexts so_far all t = elim (cases_lt t k) [
    | inl l ↦ so_far.are t l
    | inr g ↦ λ trees bounds inflated state program shown.
        let count : length shared.threads.threads ≡ length state.world.threads = ap length shown.represents.world_is.threads in
        let stacks : length state.stacks ≡ length state.world.threads = (tables_counted trees state shown.typed).stacks in
        let none : next_need words trees frames state t ≡ None =
        ap (option_and_then (λ (own : StackOf ℕ). status_need words trees frames t state.world own (thread_at state.world t).status))
        (get_past state.stacks t (omega (arith, g, all, count, stacks)))
        in
        let past : next_in nexts t ≡ None = ap (option_and_then (λ (next : Option ℕ). next)) (get_past nexts t (omega (arith, g, so_far.count))) in
        subst (IsAwaited trees frames state t) (sym past) (needs_none trees frames state t none)
  ]
