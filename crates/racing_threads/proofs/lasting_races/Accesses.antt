-- The accesses of a thread's next event are those that its instruction does, where it goes on.
use Rattle.std.proofs.Common.{◌≡◌, refl, sym, ◌∙◌, ap, subst, ℕ, List, [], ◌∷◌}
use Rattle.std.specs.Prelude.{Option, Some, None, Bool, true, false, ◌&&◌, IsTrue}
use Rattle.std.specs.Option.{option_and_then, option_map_or}
use Rattle.std.proofs.lemmas.Bool.{false≢true, and_parts, and_from}
use Rattle.std.proofs.lemmas.Option.{get_or_from_slice_get}
use Rattle.model.specs.declared.event.Event.{Event}
use Rattle.model.specs.declared.value.Value.{Value}
use Rattle.model.specs.Classes.{Program}
use Rattle.model.specs.Meanings.{meaning_of}
use Rattle.model.specs.Operands.{Slots, values, under}
use Rattle.model.specs.Outcomes.{Cost, OutcomeOf, Goes}
use Rattle.model.specs.State as state
use Rattle.model.specs.State.{types_of, Running, Thread, StackOf, World, State}
use Rattle.model.specs.Step.{ops_of, step}
use Rattle.model.specs.WellTyped.{IsRunning, IsStackTyped, IsWellTyped}
use Rattle.model.specs.Worlds.{no_thread}
use Rattle.model.specs.WrongKind.{finds_operands, finds_in}
use Rattle.run_laws.specs.laws.Steps.{Rooted}
use Rattle.run_laws.proofs.laws.Progress.{ready_finds}
use Rattle.run_laws.proofs.typed_runs.Settled.{thread_there}
use Rattle.run_laws.proofs.word_runs.WordMeanings.{Kinded}
use Rattle.data_races.specs.Actions.{Action}
use Rattle.data_races.specs.EventActions.{only_if, Instruction, Rule, Begins, Does, Initialises, Relocks, Other, accesses_at, operands_of, is_done, goes_on, outcome_at, accesses_of, actions_to, actions_of, rule_of}
use Rattle.data_races.proofs.Decided.{In}
use Rattle.race_laws.proofs.racy_states.Accesses.{Access, access_is, accesses_from, picks, kinded}
use Rattle.race_laws.proofs.racy_states.Parts.{is_access, access_part}
use Rattle.race_laws.proofs.racy_states.Silent.{in_only_if, accesses_among}
use Rattle.race_laws.proofs.racy_states.Stepping.{event_of_thread, IsAt, is_at, rule_is, after, goes}

pub record DoesAccess (files : Program) (s : State) (t : ℕ) (a : Action) : Type 0 where
  pub instruction : Instruction
  pub at : IsAt files s t instruction
  pub accesses : Access files instruction a s.world
  pub done : IsTrue (is_done t s.world instruction)
  pub onward : IsTrue (goes_on (outcome_at (event_of_thread t) s.world instruction))

-- ---- from the actions of the event

module _ (files : Program) (frames : ℕ) (s : State) (t : ℕ) (a : Action) where
  by_rule : (rule : Rule) → rule_of files s t ≡ rule → In a (accesses_of files (event_of_thread t) s.world rule) → DoesAccess files s t a
  by_rule Begins r h = absurd h
  by_rule (Does instruction) r h =
      let e = event_of_thread t in
      let does = is_done t s.world instruction in
      let on = goes_on (outcome_at e s.world instruction) in
      let p = in_only_if a (does && on) (accesses_at files s.world instruction) h in
      let q = and_parts does on p.0 in
      record { instruction = instruction; at = is_at files s t instruction r; accesses = access_is files instruction a s.world p.1; done = q.0; onward = q.1 }
  by_rule (Initialises class phase) r h = absurd h
  by_rule (Relocks cause) r h = absurd h
  by_rule Other r h = absurd h

  abbrev acts_to : Rule → Option State → List Action
  acts_to rule o = option_map_or (λ (next : State). actions_to files (event_of_thread t) s.world rule next.world) o []

  by_next : (o : Option State) → In a (acts_to (rule_of files s t) o) → is_access a ≡ true → DoesAccess files s t a
  by_next None h access = absurd h
  by_next (Some next) h access =
      by_rule (rule_of files s t) refl (access_part files (event_of_thread t) s.world next.world (rule_of files s t) a access h)

  pub does_access : In a (actions_of files frames s (event_of_thread t)) → is_access a ≡ true → DoesAccess files s t a
  does_access h access = by_next (step files frames s (event_of_thread t)) h access

-- ---- to them

outcome_goes : (o : OutcomeOf Value) → IsTrue (goes_on o) → (cost : Cost) × (world : World) × (slots : Slots Value) × (to : ℕ) × (o ≡ Goes cost world slots to)
outcome_goes (Goes cost world slots to) h = (cost, world, slots, to, refl)
outcome_goes _ h = absurd (false≢true h)

in_if : {X : Type 0} (x : X) (b : Bool) (xs : List X) → IsTrue b → In x xs → In x (only_if b xs)
in_if x true xs e h = h
in_if x false xs e h = absurd (false≢true e)

module _ (files : Program) (rooted : Rooted files) (s : State) (typed : IsWellTyped files s) (t : ℕ) where
  module _ (instruction : Instruction) (h : IsAt files s t instruction) where
    abbrev whole : StackOf Value
    whole = state.Invocation h.frame ∷ h.rest

    -- in a well-typed state it finds its operands
    pub found : IsTrue (values.finds files (types_of s.world.heap) instruction.meaning.wants h.body.code.max_stack h.frame.place.slots)
    found =
        let os = types_of s.world.heap in
        let max = h.body.code.max_stack in
        let th = thread_there files os s.world.threads s.stacks t whole typed.threads h.stack in
        let is = get_or_from_slice_get s.world.threads t th.0 no_thread th.1.0 in
        let status : th.0.status ≡ Running = sym (ap (λ (z : Thread). z.status) is) ∙ h.running in
        let pending : th.0.pending ≡ None = sym (ap (λ (z : Thread). z.pending) is) ∙ h.quiet in
        let running : IsRunning files os None whole = subst (λ p. IsRunning files os p whole) pending (subst (λ k. IsStackTyped files os th.0.pending whole k) status th.1.1.stack_typed) in
        let all = ready_finds files rooted os h.frame running.0 in
        subst (λ o. finds_operands files os max h.frame o ≡ true) h.means
        (subst (λ o. finds_operands files os max h.frame (option_and_then (meaning_of values files) o) ≡ true) h.at
        (subst (λ o. finds_in files os h.frame o ≡ true) h.has_body all))

    pub found_kinds : Kinded files (types_of s.world.heap) instruction.meaning.wants (operands_of instruction)
    found_kinds =
        subst (λ (x : Slots Value). Kinded files (types_of s.world.heap) instruction.meaning.wants (ops_of values instruction.meaning x)) (sym h.slots)
        (kinded files (types_of s.world.heap) instruction.meaning.wants h.body.code.max_stack h.frame.place.slots found)

  module _ (frames : ℕ) (a : Action) (d : DoesAccess files s t a) where
    abbrev it : Instruction
    it = d.instruction

    abbrev event : Event
    event = event_of_thread t

    at_frame : (o : OutcomeOf Value) → outcome_at event s.world it ≡ o
        → it.meaning.does event s.world d.at.frame.place.slots (ops_of values it.meaning d.at.frame.place.slots) (under it.meaning.wants d.at.frame.place.slots) ≡ o
    at_frame o h =
        subst (λ (x : Slots Value). it.meaning.does event s.world x (ops_of values it.meaning x) (under it.meaning.wants x) ≡ o) d.at.slots h

    pub among : In a (actions_of files frames s event)
    among =
        let o = outcome_goes (outcome_at event s.world it) d.onward in
        let may = subst (λ (x : Slots Value). IsTrue (it.meaning.may event s.world (ops_of values it.meaning x))) d.at.slots (picks files it a d.at.means event s.world d.accesses) in
        let next = after files frames s t it d.at o.1 o.2 o.3 in
        let steps = goes files frames s t it d.at o.0 o.1 o.2 o.3 (found it d.at) may d.done (at_frame (Goes o.0 o.1 o.2 o.3) o.4) in
        subst (λ x. In a (acts_to files frames s t a (rule_of files s t) x)) (sym steps)
        (subst (λ (r : Rule). In a (actions_to files event s.world r next.world)) (sym (rule_is files s t it d.at))
        (accesses_among files event s.world next.world (Does it) a
        (in_if a (is_done t s.world it && goes_on (outcome_at event s.world it)) _ (and_from (is_done t s.world it) (goes_on (outcome_at event s.world it)) d.done d.onward)
        (accesses_from files it a s.world d.accesses))))
