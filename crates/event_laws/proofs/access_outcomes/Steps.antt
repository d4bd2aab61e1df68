-- The step of an instruction, and what is pending after it.
use Rattle.std.proofs.Common.{◌≡◌, refl, sym, ◌∙◌, ap, subst, ℕ, ◌<◌, ◌-◌, List, [], ◌∷◌, ◌++◌, length, true, false}
use Rattle.std.specs.Prelude.{Option, Some, None, Bool, not, ◌&&◌, ◌==◌, if◌then◌else◌, is_some, slice_set, replicate}
use Rattle.std.specs.Option.{option_and_then, option_map_or}
use Rattle.std.proofs.lemmas.List.{get_or-set_same}
use Rattle.model.specs.declared.event.Event.{Event}
use Rattle.model.specs.declared.value.Value.{Value}
use Rattle.model.specs.Names.{Name}
use Rattle.model.specs.BuiltInMethods.{BuiltInMethod, ObjectClone, StringWrites, StringBuilderBuilds}
use Rattle.model.specs.Classes.{Program}
use Rattle.model.specs.Operands.{Slots, values, under}
use Rattle.model.specs.State as state
use Rattle.model.specs.State.{Instance, types_of, Thread, Running, Frame, StackOf, World, State}
use Rattle.model.specs.Outcomes.{Cost, OutcomeOf, Goes, Raises, Throws, Interrupts, Calls, Returns, Waits}
use Rattle.model.specs.MachineExceptions.{machine_exception}
use Rattle.model.specs.Worlds.{no_thread, thread_at, with_pending, allocated}
use Rattle.model.specs.ClassInitialisation.{Look, IsReady, IsNew, IsHeld, HasFailed, look_by, look_at, status_of}
use Rattle.model.specs.Sites.{MeaningOf}
use Rattle.model.specs.Meanings.{meaning_of}
use Rattle.model.specs.Step.{SteppedOf, WrongKind, Next, PartOf, enabled_if, unpicked, settled, needing_class, needing, done, become, bytecode_by, bytecode_in, going_event, thread_event, with_part, event_of, stepped, ops_of}
use Rattle.run_laws.proofs.laws.Operations.{OfMeaning}
use Rattle.data_races.specs.Actions.{Action}
use Rattle.data_races.specs.EventActions.{Instruction, Does, only_if, is_done, is_ready, goes_on, outcome_at, operands_of, access_by, accesses_at, accesses_of, built_in_at, built_in_accesses}
use Rattle.data_races.proofs.BuilderCalls.{accessing_method}
use Rattle.data_races.proofs.BuilderRuns.{does_build, does_is}
use Rattle.event_laws.specs.access_outcomes.Accesses.{StandsAt, DoAccessesGoOn}
use Rattle.event_laws.proofs.access_outcomes.Plain.{IsPlain, names_variable, no_access, PlainAt, meaning_plain, method_plain}
use Rattle.event_laws.proofs.event_changes.Worlds.{OutcomeLeaves}
use Rattle.event_laws.proofs.event_changes.Table.{Leaving, meaning_leaves}

only_nothing : (b c : Bool) (xs : List Action) → xs ≡ [] → only_if b xs ≡ only_if c xs
only_nothing true true xs e = refl
only_nothing true false xs e = e
only_nothing false true xs e = sym e
only_nothing false false xs e = refl

-- what is said of a meaning that there is
of_some : (P : MeaningOf Value → Type 0) (o : Option (MeaningOf Value)) (m : MeaningOf Value) → o ≡ Some m → OfMeaning P o → P m
of_some P None m e h = absurd cc
of_some P (Some other) m e h = let same : other ≡ m = cc in subst P same h

module _ (files : Program) (frames : ℕ) (s : State) (event : Event) (instruction : Instruction) (cost : Cost) (next : State)
    (h : StandsAt files s event.thread instruction) where
  abbrev t : ℕ
  t = event.thread

  abbrev meaning : MeaningOf Value
  meaning = instruction.meaning

  abbrev own : StackOf Value
  own = state.Invocation h.frame ∷ h.rest

  abbrev whole : SteppedOf (PartOf Value) → SteppedOf State
  whole p = with_part s t (settled t p)

  abbrev at_instruction : SteppedOf (PartOf Value)
  at_instruction = bytecode_by values files frames event s.world h.frame h.rest h.body.code.max_stack (Some meaning)

  stepped_at : stepped values files frames s event ≡ whole at_instruction
  stepped_at =
      ap (λ o. event_of values files frames s event o) h.stack
      ∙ ap (λ status. whole (thread_event values files frames event s.world own status)) h.running
      ∙ ap (λ p. whole (going_event values files frames event s.world own p)) h.quiet
      ∙ ap (λ o. whole (bytecode_in values files frames event s.world h.frame h.rest o)) h.has_body
      ∙ ap (λ o. whole (bytecode_by values files frames event s.world h.frame h.rest h.body.code.max_stack (option_and_then (meaning_of values files) o))) h.at
      ∙ ap (λ o. whole (bytecode_by values files frames event s.world h.frame h.rest h.body.code.max_stack o)) h.means

  abbrev outcome : OutcomeOf Value
  outcome = meaning.does event s.world h.frame.place.slots (ops_of values meaning h.frame.place.slots) (under meaning.wants h.frame.place.slots)

  abbrev then_done : SteppedOf (PartOf Value)
  then_done = needing_class values files t meaning.looks s.world own (done values files frames event s.world h.frame h.rest meaning)

  by_tests : (f m : Bool) → whole (if f then enabled_if m then_done else unpicked event WrongKind) ≡ Next cost next → whole then_done ≡ Next cost next
  by_tests true true e = e
  by_tests true false e = absurd cc
  by_tests false m e = by (event.pick == 0) e
    where
      by : (b : Bool) → whole (enabled_if b WrongKind) ≡ Next cost next → whole then_done ≡ Next cost next
      by true e = absurd cc
      by false e = absurd cc

  ready_look : (look : Look) (class : Name) (p : SteppedOf (PartOf Value)) → is_ready look ≡ true → needing values files t class look s.world own p ≡ p
  ready_look IsReady class p r = refl
  ready_look IsNew class p r = absurd (let f : false ≡ true = r in cc)
  ready_look IsHeld class p r = absurd (let f : false ≡ true = r in cc)
  ready_look HasFailed class p r = absurd (let f : false ≡ true = r in cc)

  ready : (o : Option Name) (p : SteppedOf (PartOf Value)) → is_ready (look_at t s.world o) ≡ true → needing_class values files t o s.world own p ≡ p
  ready None p r = refl
  ready (Some class) p r = ready_look (look_by t (status_of s.world class)) class p r

  done_so : is_done t s.world instruction ≡ true → stepped values files frames s event ≡ Next cost next
      → whole (become values files frames t s.world h.frame h.rest outcome) ≡ Next cost next
  done_so r e =
      ap whole (sym (ready meaning.looks (done values files frames event s.world h.frame h.rest meaning) r))
      ∙ by_tests (values.finds files (types_of s.world.heap) meaning.wants h.body.code.max_stack h.frame.place.slots)
      (meaning.may event s.world (ops_of values meaning h.frame.place.slots)) (sym stepped_at ∙ e)

  -- ---- what is pending after it

  pending_set : (made : World) (exception : ℕ) → made.threads ≡ s.world.threads → (thread_at (with_pending made t exception) t).pending ≡ Some exception
  pending_set made exception same =
      let there : t < length made.threads = subst (λ (ts : List Thread). t < length ts) (sym same) h.there in
      ap (λ (x : Thread). x.pending) (get_or-set_same made.threads t (record (thread_at made t) { pending = Some exception }) no_thread there)

  after_is : (c : Cost) (w : World) (stack : StackOf Value) → with_part s t (Next c (record { world = w; stack = stack })) ≡ Next cost next → w ≡ next.world
  after_is c w stack e =
      let after : State = record { world = w; stacks = slice_set s.stacks t stack ++ replicate (length w.threads - length s.stacks) [] } in
      let same : after ≡ next = cc in
      ap (λ (n : State). n.world) same

  by_outcome : (o : OutcomeOf Value) → IsPlain o → OutcomeLeaves s.world o → whole (become values files frames t s.world h.frame h.rest o) ≡ Next cost next
      → goes_on o ≡ not (is_some (thread_at next.world t).pending)
  by_outcome (Goes spent after slots to) plain left e =
      let is : after ≡ next.world = after_is spent after _ e in
      let none : (thread_at next.world t).pending ≡ None = subst (λ (w : World). (thread_at w t).pending ≡ None) is (left.pending t ∙ h.quiet) in
      ap (λ o. not (is_some o)) (sym none)
  by_outcome (Raises fault) plain left e =
      let made = allocated s.world (machine_exception values files fault None) in
      let is : with_pending made t (length s.world.heap) ≡ next.world = after_is _ (with_pending made t (length s.world.heap)) _ e in
      let set : (thread_at next.world t).pending ≡ Some (length s.world.heap) =
      subst (λ (w : World). (thread_at w t).pending ≡ Some (length s.world.heap)) is (pending_set made (length s.world.heap) refl) in
      ap (λ o. not (is_some o)) (sym set)
  by_outcome (Throws exception) plain left e = absurd plain
  by_outcome Interrupts plain left e = absurd plain
  by_outcome (Calls frame rest) plain left e = absurd plain
  by_outcome (Returns after results) plain left e = absurd plain
  by_outcome (Waits spent after rest) plain left e = absurd plain

  -- ---- accesses

  outcome_is : outcome_at event s.world instruction ≡ outcome
  outcome_is =
      ap (λ (slots : Slots Value). meaning.does event s.world slots (ops_of values meaning slots) (under meaning.wants slots)) h.slots

  abbrev accesses : List Action
  accesses = accesses_at files s.world instruction

  -- where it accesses anything, it goes on or the machine makes an exception
  Claim : Type 0
  Claim = only_if (goes_on (outcome_at event s.world instruction)) accesses ≡ only_if (not (is_some (thread_at next.world t).pending)) accesses

  by_plain : is_done t s.world instruction ≡ true → stepped values files frames s event ≡ Next cost next → IsPlain outcome → Claim
  unfolding Claim
  by_plain r e plain =
      let leaves = of_some (Leaving values) (meaning_of values files instruction.site) meaning h.means (meaning_leaves values files instruction.site) event s.world h.frame.place.slots
      (ops_of values meaning h.frame.place.slots) (under meaning.wants h.frame.place.slots) in
      ap (λ b. only_if b accesses) (ap goes_on outcome_is ∙ by_outcome outcome plain leaves (done_so r e))

  by_nothing : accesses ≡ [] → Claim
  unfolding Claim
  by_nothing none = only_nothing (goes_on (outcome_at event s.world instruction)) (not (is_some (thread_at next.world t).pending)) accesses none

  -- by a method that may access variables
  by_run : is_done t s.world instruction ≡ true → stepped values files frames s event ≡ Next cost next
      → (b : BuiltInMethod) → accessing_method b ≡ Some b → built_in_at files s.world instruction ≡ Some b → Claim
  by_run r e b accesses m =
      let build = does_build files instruction.site meaning h.means s.world (operands_of instruction) b (record { runs = m; accesses = accesses }) in
      let does = does_is files instruction.site meaning build.call event s.world (operands_of instruction) b build.called instruction.slots (under meaning.wants instruction.slots) in
      let plain : IsPlain (outcome_at event s.world instruction) =
      subst IsPlain (sym does) (method_plain files instruction.site.next s.world instruction.slots (operands_of instruction) (under meaning.wants instruction.slots) event b b accesses) in
      by_plain r e (subst IsPlain outcome_is plain)

  -- by the built-in method that it runs
  by_method : is_done t s.world instruction ≡ true → stepped values files frames s event ≡ Next cost next
      → access_by files instruction.site (operands_of instruction) instruction.site.instr ≡ []
      → (o : Option BuiltInMethod) → built_in_at files s.world instruction ≡ o → Claim
  by_method r e none None m = by_nothing (ap (λ xs. xs ++ option_map_or (built_in_accesses files s.world (operands_of instruction)) (built_in_at files s.world instruction) []) none ∙ ap (λ o. option_map_or (built_in_accesses files s.world (operands_of instruction)) o []) m)
  by_method r e none (Some (StringBuilderBuilds b)) m = by_run r e (StringBuilderBuilds b) refl m
  by_method r e none (Some (StringWrites b)) m = by_run r e (StringWrites b) refl m
  by_method r e none (Some ObjectClone) m = by_run r e ObjectClone refl m
  by_method r e none (Some _) m = by_nothing (ap (λ xs. xs ++ option_map_or (built_in_accesses files s.world (operands_of instruction)) (built_in_at files s.world instruction) []) none ∙ ap (λ o. option_map_or (built_in_accesses files s.world (operands_of instruction)) o []) m)

  by_done : (d : Bool) → is_done t s.world instruction ≡ d → stepped values files frames s event ≡ Next cost next
      → only_if (d && goes_on (outcome_at event s.world instruction)) accesses ≡ only_if (d && not (is_some (thread_at next.world t).pending)) accesses
  unfolding Claim
  by_done false r e = refl
  by_done true r e = by (names_variable instruction.site.instr) refl
    where
      by : (b : Bool) → names_variable instruction.site.instr ≡ b → Claim
      by true n =
          by_plain r e
          (of_some (PlainAt instruction.site.instr) (meaning_of values files instruction.site) meaning h.means (meaning_plain files instruction.site) n event s.world h.frame.place.slots
          (ops_of values meaning h.frame.place.slots) (under meaning.wants h.frame.place.slots))
      by false n =
          by_method r e (no_access files instruction.site (operands_of instruction) instruction.site.instr n) (built_in_at files s.world instruction) refl

  pub instruction_goes_on : stepped values files frames s event ≡ Next cost next
      → accesses_of files event s.world (Does instruction) ≡ only_if (is_done t s.world instruction && not (is_some (thread_at next.world t).pending)) accesses
  instruction_goes_on e = by_done (is_done t s.world instruction) refl e

pub go_on : DoAccessesGoOn
go_on files frames s event instruction cost next h e = instruction_goes_on files frames s event instruction cost next h e
