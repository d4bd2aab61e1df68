-- An instruction that goes on is done: its event has a next state.
use Rattle.std.proofs.Common.{◌≡◌, refl, sym, ap, subst, ◌∙◌, ℕ, List, [], ◌∷◌, Bool, true, false}
use Rattle.std.specs.Prelude.{Option, Some, None, IsFalse, if◌then◌else◌, ◌&&◌}
use Rattle.std.specs.Option.{option_and_then, option_map_or}
use Rattle.std.specs.List.{filter}
use Rattle.std.proofs.lemmas.Bool.{true≢false}
use Rattle.model.specs.declared.event.Event.{Event}
use Rattle.model.specs.declared.value.Value.{Value}
use Rattle.model.specs.Names.{Name}
use Rattle.model.specs.Classes.{Program}
use Rattle.model.specs.Operands.{Slots, values, under}
use Rattle.model.specs.State as state
use Rattle.model.specs.State.{types_of, StackOf, World, State}
use Rattle.model.specs.Outcomes.{Cost, OutcomeOf, Goes, Raises, Throws, Interrupts, Calls, Returns, Waits}
use Rattle.model.specs.Worlds.{thread_at}
use Rattle.model.specs.ClassInitialisation.{Look, IsReady, IsNew, IsHeld, HasFailed, look_by, look_at, status_of}
use Rattle.model.specs.Sites.{MeaningOf}
use Rattle.model.specs.Meanings.{meaning_of}
use Rattle.model.specs.Step.{SteppedOf, NotEnabled, WrongKind, Next, PartOf, enabled_if, unpicked, settled, needing_class, needing, done, become, bytecode_by, bytecode_in, going_event, thread_event, with_part, event_of, stepped, ops_of, next_by}
use Rattle.run_laws.specs.laws.Steps.{is_wrong}
use Rattle.data_races.specs.Actions.{Action}
use Rattle.data_races.specs.EventActions.{Instruction, Rule, Does, only_if, is_done, is_ready, goes_on, outcome_at, accesses_at, accesses_of, actions_of, actions_to, rule_of}
use Rattle.event_laws.specs.access_outcomes.Accesses.{StandsAt}
use Rattle.next_accesses.specs.next_access.Next.{is_access, accesses_next}
use Rattle.next_accesses.proofs.next_access.Parts.{accesses_alone}

-- an answer that is a next state
record IsNext (S : Type 0) (p : SteppedOf S) : Type 0 where
  cost : Cost
  next : S
  is : p ≡ Next cost next

module _ (files : Program) (frames : ℕ) (s : State) (t : ℕ) (instruction : Instruction) (h : StandsAt files s t instruction) where
  abbrev event : Event
  event = record { thread = t; pick = 0 }

  abbrev meaning : MeaningOf Value
  meaning = instruction.meaning

  abbrev own : StackOf Value
  own = state.Invocation h.frame ∷ h.rest

  abbrev whole : SteppedOf (PartOf Value) → SteppedOf State
  whole p = with_part s t (settled t p)

  stepped_at : stepped values files frames s event ≡ whole (bytecode_by values files frames event s.world h.frame h.rest h.body.code.max_stack (Some meaning))
  stepped_at =
      ap (λ o. event_of values files frames s event o) h.stack
      ∙ ap (λ status. whole (thread_event values files frames event s.world own status)) h.running
      ∙ ap (λ p. whole (going_event values files frames event s.world own p)) h.quiet
      ∙ ap (λ o. whole (bytecode_in values files frames event s.world h.frame h.rest o)) h.has_body
      ∙ ap (λ o. whole (bytecode_by values files frames event s.world h.frame h.rest h.body.code.max_stack (option_and_then (meaning_of values files) o))) h.at
      ∙ ap (λ o. whole (bytecode_by values files frames event s.world h.frame h.rest h.body.code.max_stack o)) h.means

  abbrev then_done : SteppedOf (PartOf Value)
  then_done = needing_class values files t meaning.looks s.world own (done values files frames event s.world h.frame h.rest meaning)

  abbrev does_find : Bool
  does_find = values.finds files (types_of s.world.heap) meaning.wants h.body.code.max_stack h.frame.place.slots

  abbrev may : Bool
  may = meaning.may event s.world (ops_of values meaning h.frame.place.slots)

  -- where it is not answered by a wrong kind, the operands are there
  pub found : IsFalse (is_wrong (stepped values files frames s event)) → does_find ≡ true
  found right = by does_find refl
    where
      by : (b : Bool) → does_find ≡ b → does_find ≡ true
      by true e = e
      by false e =
          absurd (true≢false (subst (λ (x : SteppedOf State). IsFalse (is_wrong x)) (stepped_at ∙ ap (λ b. whole (if b then enabled_if may then_done else unpicked event WrongKind)) e) right))

  ready_look : (look : Look) (class : Name) (p : SteppedOf (PartOf Value)) → is_ready look ≡ true → needing values files t class look s.world own p ≡ p
  ready_look IsReady class p r = refl
  ready_look IsNew class p r = absurd (let f : false ≡ true = r in cc)
  ready_look IsHeld class p r = absurd (let f : false ≡ true = r in cc)
  ready_look HasFailed class p r = absurd (let f : false ≡ true = r in cc)

  ready : (o : Option Name) (p : SteppedOf (PartOf Value)) → is_ready (look_at t s.world o) ≡ true → needing_class values files t o s.world own p ≡ p
  ready None p r = refl
  ready (Some class) p r = ready_look (look_by t (status_of s.world class)) class p r

  abbrev outcome : OutcomeOf Value
  outcome = meaning.does event s.world h.frame.place.slots (ops_of values meaning h.frame.place.slots) (under meaning.wants h.frame.place.slots)

  outcome_is : outcome_at event s.world instruction ≡ outcome
  outcome_is = ap (λ (slots : Slots Value). meaning.does event s.world slots (ops_of values meaning slots) (under meaning.wants slots)) h.slots

  goes : (o : OutcomeOf Value) → goes_on o ≡ true → IsNext State (whole (become values files frames t s.world h.frame h.rest o))
  goes (Goes cost world slots to) e = record { cost = cost; next = _; is = refl }
  goes (Raises fault) e = absurd (let f : false ≡ true = e in cc)
  goes (Throws exception) e = absurd (let f : false ≡ true = e in cc)
  goes Interrupts e = absurd (let f : false ≡ true = e in cc)
  goes (Calls frame rest) e = absurd (let f : false ≡ true = e in cc)
  goes (Returns world results) e = absurd (let f : false ≡ true = e in cc)
  goes (Waits cost world rest) e = absurd (let f : false ≡ true = e in cc)

  steps : does_find ≡ true → may ≡ true → is_done t s.world instruction ≡ true → goes_on (outcome_at event s.world instruction) ≡ true
      → IsNext State (stepped values files frames s event)
  steps f m d g =
      let n = goes outcome (sym (ap goes_on outcome_is) ∙ g) in
      record {
        cost = n.cost;
        next = n.next;
        is =
            stepped_at
            ∙ ap (λ b. whole (if b then enabled_if may then_done else unpicked event WrongKind)) f
            ∙ ap (λ b. whole (enabled_if b then_done)) m
            ∙ ap whole (ready meaning.looks (done values files frames event s.world h.frame h.rest meaning) d)
            ∙ n.is;
      }

  module _ (rule : rule_of files s t ≡ Does instruction) where
    abbrev accesses : List Action
    accesses = accesses_at files s.world instruction

    abbrev does_so : Bool
    does_so = is_done t s.world instruction && goes_on (outcome_at event s.world instruction)

    abbrev after : State → List Action
    after next = actions_to files event s.world (rule_of files s t) next.world

    after_is : (next : State) → filter is_access (after next) ≡ accesses_of files event s.world (Does instruction)
    after_is next = ap (λ r. filter is_access (actions_to files event s.world r next.world)) rule ∙ accesses_alone files event s.world (Does instruction) next.world

    abbrev seen : SteppedOf State → List Action
    seen p = filter is_access (option_map_or (λ (next : State). actions_to files event s.world (rule_of files s t) next.world) (next_by p) [])

    -- where it doesn't go on there are none, whatever becomes of it
    none_seen : (p : SteppedOf State) → only_if does_so accesses ≡ [] → seen p ≡ only_if does_so accesses
    none_seen NotEnabled e = sym e
    none_seen WrongKind e = sym e
    none_seen (Next cost next) e = after_is next

    both : (a b : Bool) → (a && b) ≡ true → (a ≡ true) × (b ≡ true)
    both true b e = (refl, e)
    both false b e = absurd (let f : false ≡ true = e in cc)

    by_so : (b : Bool) → does_so ≡ b → does_find ≡ true → may ≡ true → seen (stepped values files frames s event) ≡ only_if does_so accesses
    by_so true e f m =
        let two = both (is_done t s.world instruction) (goes_on (outcome_at event s.world instruction)) e in
        let n = steps f m two.0 two.1 in
        ap seen n.is ∙ after_is n.next
    by_so false e f m = none_seen (stepped values files frames s event) (ap (λ b. only_if b accesses) e)

    -- of an instruction that names a variable
    pub accesses_seen : does_find ≡ true → may ≡ true → accesses_next files frames s t ≡ only_if does_so accesses
    accesses_seen f m = by_so does_so refl f m

    if_none : (b : Bool) → accesses ≡ [] → only_if b accesses ≡ []
    if_none true e = e
    if_none false e = refl

    -- and of any other one
    pub none_named : accesses ≡ [] → accesses_next files frames s t ≡ only_if does_so accesses
    none_named e = none_seen (stepped values files frames s event) (if_none does_so e)

-- ---- a thread that stands at no instruction

module _ (files : Program) (frames : ℕ) (s : State) (t : ℕ) where
  abbrev its_event : Event
  its_event = record { thread = t; pick = 0 }

  pub none_of_rule : (r : Rule) → rule_of files s t ≡ r → ((world : World) → accesses_of files its_event world r ≡ []) → accesses_next files frames s t ≡ []
  none_of_rule r e none = by (next_by (stepped values files frames s its_event))
    where
      by : (o : Option State) → filter is_access (option_map_or (λ (next : State). actions_to files its_event s.world (rule_of files s t) next.world) o []) ≡ []
      by None = refl
      by (Some next) = ap (λ x. filter is_access (actions_to files its_event s.world x next.world)) e ∙ accesses_alone files its_event s.world r next.world ∙ none s.world
