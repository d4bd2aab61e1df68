-- Actions that are told, part by part.
use Rattle.std.proofs.Common.{◌≡◌, ℕ, zero, suc, List, [], ◌∷◌, ◌++◌, Option, Some, None, refl, ap, subst, ◌∙◌}
use Rattle.std.specs.Prelude.{Bool, true, false, slice_get}
use Rattle.std.specs.Option.{option_to_list}
use Rattle.std.proofs.lemmas.List.{map-append}
use Rattle.std.proofs.lemmas.Option.{same_Some, none-some}
use Rattle.model.specs.Classes.{Program}
use Rattle.race_places.specs.declared.run_actions.Action.{Action}
use Rattle.race_places.specs.named_actions.Names.{IsRight, named_action}
use Rattle.data_races.specs.Actions as named
use Rattle.data_races.specs.EventActions.{only_if}
use Rattle.field_names.specs.named_fields.Fields.{names_of}
use Rattle.next_accesses.specs.accesses.Accesses.{IsRightIf}
use Rattle.next_accesses.specs.next_access.Next.{AreAllRight, AreNamed, names_given}

module _ (trees : Program) where
  pub right_none : AreAllRight trees []
  right_none = record { each = λ k a e. absurd (none-some a e) }

  pub right_more : (x : Action) (xs : List Action) → IsRight (names_of trees) trees x → AreAllRight trees xs → AreAllRight trees (x ∷ xs)
  right_more x xs h hs = record { each = each }
    where
      each : (k : ℕ) (a : Action) → slice_get (x ∷ xs) k ≡ Some a → IsRight (names_of trees) trees a
      each zero a e = subst (λ (y : Action). IsRight (names_of trees) trees y) (same_Some x a e) h
      each (suc k) a e = hs.each k a e

  right_rest : (x : Action) (xs : List Action) → AreAllRight trees (x ∷ xs) → AreAllRight trees xs
  right_rest x xs h = record { each = λ k a e. h.each (suc k) a e }

  pub right_both : (xs ys : List Action) → AreAllRight trees xs → AreAllRight trees ys → AreAllRight trees (xs ++ ys)
  right_both [] ys h g = g
  right_both (x ∷ xs) ys h g = right_more x (xs ++ ys) (h.each 0 x refl) (right_both xs ys (right_rest x xs h) g)

  pub right_if : (o : Option Action) → IsRightIf trees o → AreAllRight trees (option_to_list o)
  right_if None h = right_none
  right_if (Some x) h = right_more x [] h right_none

  pub named_none : AreNamed trees [] []
  named_none = record { are = refl; right = right_none }

  -- none, whether they are done or not
  pub named_never : (b : Bool) → AreNamed trees [] (only_if b [])
  named_never true = named_none
  named_never false = named_none
