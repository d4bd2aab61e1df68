-- The monitor that an instruction's frame enters: none but by a call, and by a call that of what is chosen.
use Rattle.std.proofs.Common.{◌≡◌, ◌+◌, ℕ, zero, suc, List, [], ◌∷◌, ◌++◌, length, take, map, reverse, Option, Some, None, refl, sym, ap, ◌∙◌, arith}
use Rattle.std.specs.Prelude.{slice_index_or, unwrap_or}
use Rattle.std.specs.Option.{option_and_then}
use Rattle.std.proofs.lemmas.List.{length-map, length-reverse}
use Rattle.model.specs.BuiltInMethods.{built_in_method}
use Rattle.model.specs.Calls.{Chosen, Fails, Runs, parameter_count, argument_wants, of_receiver, invoked, runs, call_on, static_call}
use Rattle.model.specs.Classes.{Program, Body, body_of}
use Rattle.model.specs.DescribedTypes.{parameters_declared, declared_want}
use Rattle.model.specs.Frames.{entered_by}
use Rattle.model.specs.LimitStands.{Bounds}
use Rattle.model.specs.Meanings.{meaning_of}
use Rattle.model.specs.Names.{Member}
use Rattle.model.specs.Opening.{class_reference}
use Rattle.model.specs.Operands.{Slots, words, word_reference, under}
use Rattle.model.specs.Outcomes.{OutcomeOf, Goes, Raises, Throws, Interrupts, Calls, Returns, Waits}
use Rattle.model.specs.Sites.{Leads, MeaningOf, Site, operand}
use Rattle.model.specs.State.{FrameOf, StackOf, StateOf, WorldOf}
use Rattle.model.specs.Step.{ops_of}
use Rattle.model.specs.Types.{Want}
use Rattle.search_laws.specs.Waits.{callee_entered}
use Rattle.linked_code.specs.declared.instruction.LinkedInstruction.{LinkedInstruction}
use Rattle.linked_code.specs.declared.method.LinkedCode.{LinkedCode}
use Rattle.linked_code.specs.declared.program.LinkedProgram.{LinkedProgram}
use Rattle.thread_stacks.specs.Stacks.{ShownEntry}
use Rattle.machine_state.specs.declared.state.Shared.{Shared}
use Rattle.machine_state.specs.linked_frames.Frames.{IsRunning, event_of}
use Rattle.machine_state.proofs.linked_frames.Frames.{meaning_is}
use Rattle.machine_instructions.specs.called_methods.Frames.{object_under}
use Rattle.machine_instructions.proofs.called_methods.Calling.{under_is}
use Rattle.machine_threads.proofs.waiting_instructions.BuiltIns.{built_in_stays}
use Rattle.machine_threads.proofs.waiting_instructions.Quick.{Stays}
use Rattle.waiting_circles.specs.Needs.{entered_of, outcome_at}

-- what is no call enters none
pub stays_none : (o : OutcomeOf ℕ) → Stays o → callee_entered o ≡ None
stays_none (Goes cost world slots to) h = refl
stays_none (Raises fault) h = refl
stays_none (Throws exception) h = refl
stays_none Interrupts h = refl
stays_none (Calls callee rest) h = absurd h
stays_none (Returns world results) h = refl
stays_none (Waits cost world rest) h = refl

module _ (trees : Program) (site : Site) (t : ℕ) (world : WorldOf ℕ) (slots : Slots ℕ) (ops rest : List ℕ) (object : ℕ) where
  body_entered : (method : Member) (o : Option Body)
      → callee_entered (runs words trees site (event_of t) world slots ops rest object method o) ≡ (option_and_then (λ (body : Body). entered_by trees method object) o)
  body_entered method None = stays_none _ (built_in_stays trees (built_in_method method) site.next t world slots ops rest)
  body_entered method (Some body) = refl

  pub invoked_entered : (chosen : Chosen) → callee_entered (invoked words trees site (event_of t) world slots ops rest object chosen) ≡ entered_of trees object chosen
  invoked_entered (Fails fault) = refl
  invoked_entered (Runs method) = body_entered method (body_of trees method)

-- ---- lists

length_end : {A : Type 0} (xs : List A) (y : A) → length (xs ++ y ∷ []) ≡ length xs + 1
length_end [] y = refl
length_end (x ∷ xs) y = let r = length_end xs y in omega (arith, r)

at_last : (k : ℕ) (xs : List ℕ) → slice_index_or (take (suc k) xs) k 0 ≡ slice_index_or xs k 0
at_last zero [] = refl
at_last zero (x ∷ xs) = refl
at_last (suc k) [] = refl
at_last (suc k) (x ∷ xs) = at_last k xs

-- ---- where a thread stands at an instruction

module _ (trees : Program) (p : LinkedProgram) (bounds : Bounds) (inflated : List ℕ) (t : ℕ) (old : Shared) (from : List ShownEntry)
    (state : StateOf ℕ) (frame : FrameOf ℕ) (rest : StackOf ℕ) (code : LinkedCode) (site : Site) (meaning : MeaningOf ℕ)
    (instruction : LinkedInstruction)
    (is : IsRunning trees p bounds inflated t old from state frame rest code site meaning instruction) where
  abbrev stack : List ℕ
  stack = frame.place.slots.stack

  abbrev pub enters_at : MeaningOf ℕ → Option ℕ
  enters_at m = callee_entered (outcome_at t state.world frame m)

  -- a call of a static method
  pub static_enters : (callee : Member) → meaning_of words trees site ≡ Some (static_call words trees site callee)
      → enters_at meaning ≡ entered_of trees (class_reference trees callee.class) (Runs callee)
  static_enters callee means =
      let call : MeaningOf ℕ = static_call words trees site callee in
      ap enters_at (meaning_is trees p bounds inflated t old from state frame rest code site meaning instruction is call means)
      ∙ invoked_entered trees site t state.world frame.place.slots (ops_of words call frame.place.slots) (under call.wants frame.place.slots) (class_reference trees callee.class) (Runs callee)

  -- a call on a receiver
  module _ (callee : Member) (want : Want) (leads : Leads) (choose : WorldOf ℕ → ℕ → Chosen) (means : meaning_of words trees site ≡ Some (call_on words trees site callee (want ∷ []) leads choose))
      (parameters : ℕ) (counted : parameters ≡ parameter_count callee) where
    abbrev call : MeaningOf ℕ
    call = call_on words trees site callee (want ∷ []) leads choose

    abbrev ops : List ℕ
    ops = ops_of words call frame.place.slots

    abbrev front : List Want
    front = reverse (map (declared_want trees) (parameters_declared callee.descriptor))

    abbrev by_object : Option ℕ → Option ℕ
    by_object o = entered_of trees (unwrap_or o 0) (of_receiver o (choose state.world))

    count_is : length (argument_wants trees callee (want ∷ [])) ≡ parameters + 1
    count_is =
        length_end front want
        ∙ ap (λ n. n + 1) (length-reverse _ ∙ length-map (parameters_declared callee.descriptor) (declared_want trees) ∙ sym counted)

    taken : word_reference (slice_index_or (take (parameters + 1) stack) (parameter_count callee) 0) ≡ object_under parameters from
    taken =
        let next : parameters + 1 ≡ suc parameters = omega arith in
        (λ i. word_reference (slice_index_or (take (next i) stack) (sym counted i) 0))
        ∙ ap word_reference (at_last parameters stack)
        ∙ sym (under_is trees p bounds inflated t old from state frame rest code site meaning instruction is parameters)

    receiver_enters : enters_at meaning ≡ by_object (object_under parameters from)
    receiver_enters =
        ap enters_at (meaning_is trees p bounds inflated t old from state frame rest code site meaning instruction is call means)
        ∙ invoked_entered trees site t state.world frame.place.slots ops (under call.wants frame.place.slots)
        (unwrap_or (words.referent (operand words ops (parameter_count callee))) 0) (of_receiver (words.referent (operand words ops (parameter_count callee))) (choose state.world))
        ∙ ap (λ n. by_object (word_reference (slice_index_or (take n stack) (parameter_count callee) 0))) count_is
        ∙ ap by_object taken

    pub null_enters : None ≡ object_under parameters from → enters_at meaning ≡ None
    null_enters none = receiver_enters ∙ ap by_object (sym none)

    pub object_enters : (r : ℕ) → Some r ≡ object_under parameters from → enters_at meaning ≡ entered_of trees r (choose state.world r)
    object_enters r found = receiver_enters ∙ ap by_object (sym found)
