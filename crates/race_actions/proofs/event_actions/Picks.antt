-- What an event accesses does not depend on its pick: one that picks a waiter accesses nothing.
use Rattle.std.proofs.Common.{◌≡◌, ℕ, List, [], ◌∷◌, Bool, true, false, Option, Some, None, if◌then◌else◌, inl, refl, sym, ap, subst, ◌∙◌}
use Rattle.std.specs.Prelude.{◌&&◌, ◌==◌}
use Rattle.std.specs.Option.{option_and_then, option_map_or}
use Rattle.std.specs.List.{filter}
use Rattle.std.proofs.lemmas.Bool.{eqb-true}
use Rattle.model.specs.declared.event.Event.{Event}
use Rattle.model.specs.declared.value.Value.{Value}
use Rattle.model.specs.Classes.{Program}
use Rattle.model.specs.Operands.{Slots, values}
use Rattle.model.specs.Outcomes.{Cost}
use Rattle.model.specs.State as state
use Rattle.model.specs.State.{types_of, StackOf, World, State}
use Rattle.model.specs.Meanings.{meaning_of}
use Rattle.model.specs.Step.{SteppedOf, WrongKind, Next, PartOf, enabled_if, unpicked, settled, needing_class, done, bytecode_by, bytecode_in, going_event, thread_event, with_part, event_of, stepped, step, next_by, ops_of}
use Rattle.data_races.specs.Actions.{Action}
use Rattle.data_races.specs.EventActions.{Instruction, Rule, Begins, Does, Initialises, Relocks, Other, only_if, is_done, goes_on, outcome_at, operands_of, accesses_at, accesses_of, actions_to, actions_of, rule_of}
use Rattle.data_races.proofs.Decided.{In}
use Rattle.race_laws.proofs.racy_states.Accesses.{access_is, picks}
use Rattle.race_laws.proofs.racy_states.Stepping.{IsAt, is_at}
use Rattle.next_accesses.specs.next_access.Next.{is_access, accesses_next}
use Rattle.next_accesses.proofs.next_access.Parts.{accesses_alone}

module _ (files : Program) (frames : ℕ) (s : State) (event : Event) (cost : Cost) (next : State) (steps : stepped values files frames s event ≡ Next cost next) where
  abbrev t : ℕ
  t = event.thread

  abbrev plain_event : Event
  plain_event = record { thread = t; pick = 0 }

  -- ---- at an instruction

  module _ (instruction : Instruction) (h : IsAt files s t instruction) where
    abbrev whole : SteppedOf (PartOf Value) → SteppedOf State
    whole p = with_part s t (settled t p)

    stepped_at : stepped values files frames s event ≡ whole (bytecode_by values files frames event s.world h.frame h.rest h.body.code.max_stack (Some instruction.meaning))
    stepped_at =
        ap (λ o. event_of values files frames s event o) h.stack
        ∙ ap (λ status. whole (thread_event values files frames event s.world (state.Invocation h.frame ∷ h.rest) status)) h.running
        ∙ ap (λ p. whole (going_event values files frames event s.world (state.Invocation h.frame ∷ h.rest) p)) h.quiet
        ∙ ap (λ o. whole (bytecode_in values files frames event s.world h.frame h.rest o)) h.has_body
        ∙ ap (λ o. whole (bytecode_by values files frames event s.world h.frame h.rest h.body.code.max_stack (option_and_then (meaning_of values files) o))) h.at
        ∙ ap (λ o. whole (bytecode_by values files frames event s.world h.frame h.rest h.body.code.max_stack o)) h.means

    abbrev finds_all : Bool
    finds_all = values.finds files (types_of s.world.heap) instruction.meaning.wants h.body.code.max_stack h.frame.place.slots

    abbrev may_now : Bool
    may_now = instruction.meaning.may event s.world (ops_of values instruction.meaning h.frame.place.slots)

    abbrev then_done : SteppedOf (PartOf Value)
    then_done =
        needing_class values files t instruction.meaning.looks s.world (state.Invocation h.frame ∷ h.rest)
        (done values files frames event s.world h.frame h.rest instruction.meaning)

    wrong_kind : (b : Bool) → whole (enabled_if b WrongKind) ≡ Next cost next → ⊥
    wrong_kind true e = cc
    wrong_kind false e = cc

    may_true : (f m : Bool) → whole (if f then enabled_if m then_done else unpicked event WrongKind) ≡ Next cost next → m ≡ true
    may_true true true e = refl
    may_true true false e = absurd (cc)
    may_true false m e = absurd (wrong_kind (event.pick == 0) e)

    may_is : instruction.meaning.may event s.world (operands_of instruction) ≡ true
    may_is =
        ap (λ (slots : Slots Value). instruction.meaning.may event s.world (ops_of values instruction.meaning slots)) h.slots ∙ may_true finds_all may_now (sym stepped_at ∙ steps)

    picked : (a : Action) (rest : List Action) → accesses_at files s.world instruction ≡ a ∷ rest → (event.pick == 0) ≡ true
    picked a rest e = sym (picks files instruction a h.means event s.world (access_is files instruction a s.world (subst (In a) (sym e) (inl refl)))) ∙ may_is

  -- ---- the accesses

  zero_is : (n : ℕ) → (n == 0) ≡ true → n ≡ 0
  zero_is n e = eqb-true n 0 e

  event_is : event.pick ≡ 0 → plain_event ≡ event
  event_is e = ap (λ (n : ℕ). record { thread = event.thread; pick = n }) (sym e)

  abbrev seen : Event → List Action
  seen e = filter is_access (actions_of files frames s e)

  unpicked_same : event.pick ≡ 0 → accesses_next files frames s t ≡ accesses_of files event s.world (rule_of files s t)
  unpicked_same e =
      ap seen (event_is e)
      ∙ ap (λ o. filter is_access (option_map_or (λ (n : State). actions_to files event s.world (rule_of files s event.thread) n.world) (next_by o) [])) steps
      ∙ accesses_alone files event s.world (rule_of files s t) next.world

  none_if : (b : Bool) (xs : List Action) → xs ≡ [] → only_if b xs ≡ []
  none_if true xs e = e
  none_if false xs e = refl

  none_next : (r : Rule) → rule_of files s t ≡ r → accesses_of files plain_event s.world r ≡ [] → accesses_next files frames s t ≡ []
  none_next r e none = by (step files frames s plain_event)
    where
      by : (o : Option State) → filter is_access (option_map_or (λ (n : State). actions_to files plain_event s.world (rule_of files s t) n.world) o []) ≡ []
      by None = refl
      by (Some n) = ap (λ x. filter is_access (actions_to files plain_event s.world x n.world)) e ∙ accesses_alone files plain_event s.world r n.world ∙ none

  without : (r : Rule) → rule_of files s t ≡ r → accesses_of files plain_event s.world r ≡ [] → accesses_of files event s.world r ≡ []
      → accesses_next files frames s t ≡ accesses_of files event s.world (rule_of files s t)
  without r e none own = none_next r e none ∙ sym (ap (accesses_of files event s.world) e ∙ own)

  by_rule : (r : Rule) → rule_of files s t ≡ r → accesses_next files frames s t ≡ accesses_of files event s.world (rule_of files s t)
  by_rule Begins e = without Begins e refl refl
  by_rule (Initialises class phase) e = without (Initialises class phase) e refl refl
  by_rule (Relocks cause) e = without (Relocks cause) e refl refl
  by_rule Other e = without Other e refl refl
  by_rule (Does instruction) e = by (accesses_at files s.world instruction) refl
    where
      by : (xs : List Action) → accesses_at files s.world instruction ≡ xs → accesses_next files frames s t ≡ accesses_of files event s.world (rule_of files s t)
      by [] none =
          without (Does instruction) e
          (none_if (is_done t s.world instruction && goes_on (outcome_at plain_event s.world instruction)) (accesses_at files s.world instruction) none)
          (none_if (is_done t s.world instruction && goes_on (outcome_at event s.world instruction)) (accesses_at files s.world instruction) none)
      by (a ∷ rest) some = unpicked_same (zero_is event.pick (picked instruction (is_at files s t instruction e) a rest some))

  pub accesses_same : accesses_next files frames s t ≡ accesses_of files event s.world (rule_of files s t)
  accesses_same = by_rule (rule_of files s t) refl
