-- What invokevirtual and invokeinterface need.
use Rattle.std.proofs.Common.{◌≡◌, ◌+◌, ℕ, List, ◌∷◌, Option, Some, None, Bool, true, refl, sym, ap, subst, ◌∙◌}
use Rattle.std.proofs.lemmas.Option.{get_or_from_slice_get}
use Rattle.model.specs.Calls.{Chosen, Fails, selected, its_class, if_implements, of_class, of_named, leads_after}
use Rattle.model.specs.Classes.{Program}
use Rattle.model.specs.DescribedTypes.{made_type}
use Rattle.model.specs.LimitStands.{Bounds}
use Rattle.model.specs.Names.{Name, Member}
use Rattle.model.specs.Operands.{words}
use Rattle.model.specs.Outcomes.{IncompatibleClassChange}
use Rattle.model.specs.ReferenceTypes.{ClassType, is_assignable, is_subtype}
use Rattle.model.specs.Sites.{MeaningOf, Site}
use Rattle.model.specs.State.{ObjectOf, type_of, types_of, Invocation, FrameOf, StackOf, StateOf, WorldOf}
use Rattle.model.specs.Worlds.{no_object, object_at, class_of_object}
use Rattle.run_laws.specs.word_operands.Operands.{word_meets}
use Rattle.run_laws.specs.word_operands.Receivers.{is_null_or}
use Rattle.run_laws.proofs.word_operands.Objects.{of_objects}
use Rattle.search_laws.specs.Waits.{callee_entered, frame_need}
use Rattle.linked_code.specs.declared.instruction.LinkedInstruction.TheVariants as linked
use Rattle.linked_code.specs.declared.method.LinkedCode.{LinkedCode}
use Rattle.linked_code.specs.declared.program.LinkedProgram.{LinkedProgram}
use Rattle.thread_stacks.specs.Stacks.{ShownEntry}
use Rattle.machine_state.specs.declared.state.Shared.{Shared}
use Rattle.machine_state.specs.linked_frames.Frames.{IsRunning}
use Rattle.machine_instructions.specs.called_methods.Frames.{object_under}
use Rattle.machine_instructions.specs.called_methods.Selected.{ChoosesVirtual, ChoosesInterface}
use Rattle.machine_instructions.proofs.called_methods.Calling.{There, there}
use Rattle.machine_instructions.proofs.called_methods.Receivers.{virtual_invoking, interface_invoking}
use Rattle.waiting_circles.specs.declared.needs.kinds.Need.{Need as TheNeed}
use Rattle.waiting_circles.specs.Needs.{IsNeed, NeedsInCall, entered_of, outcome_at}
use Rattle.waiting_circles.proofs.needs.Entered.{null_enters, object_enters}
use Rattle.waiting_circles.proofs.needs.Framed.{none_needed}

module _ (trees : Program) (p : LinkedProgram) (bounds : Bounds) (inflated : List ℕ) (t : ℕ) (old : Shared) (from : List ShownEntry)
    (state : StateOf ℕ) (frame : FrameOf ℕ) (rest : StackOf ℕ) (code : LinkedCode) (site : Site) (meaning : MeaningOf ℕ)
    (parameters frames : ℕ) where
  abbrev needs : Option TheNeed → Option ℕ → Type 0
  needs result entered = IsNeed trees result (frame_need words trees frames t state.world (Invocation frame ∷ rest) entered)

  abbrev entered : Option ℕ
  entered = callee_entered (outcome_at t state.world frame meaning)

  -- ---- invokevirtual

  module _ (place : ℕ) (is : IsRunning trees p bounds inflated t old from state frame rest code site meaning (linked.InvokeVirtual parameters place)) where
    abbrev callee : Member
    callee = is.stands.linked.callee

    abbrev choose : WorldOf ℕ → ℕ → Chosen
    choose w r = selected trees (its_class w r) callee

    pub virtual_null : None ≡ object_under parameters from → needs None entered
    virtual_null none =
        ap (frame_need words trees frames t state.world (Invocation frame ∷ rest))
        (null_enters trees p bounds inflated t old from state frame rest code site meaning (linked.InvokeVirtual parameters place) is callee (of_named trees is.stands.linked.named) (leads_after trees site callee) choose
        is.stands.linked.is parameters is.stands.linked.counted none)
        ∙ none_needed trees frames t state.world (Invocation frame ∷ rest)

    pub virtual_needs : (r : ℕ) → Some r ≡ object_under parameters from → (number : ℕ) → ChoosesVirtual p old.heap.objects r place (Some number)
        → (result : Option TheNeed) → NeedsInCall p number r frames from result → needs result entered
    virtual_needs r found number chooses result call =
        let invokes = virtual_invoking trees p bounds inflated t old from state frame rest code site meaning parameters place is r found number chooses (parameters + 1) refl in
        subst (needs result)
        (sym (object_enters trees p bounds inflated t old from state frame rest code site meaning (linked.InvokeVirtual parameters place) is callee (of_named trees is.stands.linked.named) (leads_after trees site callee) choose
        is.stands.linked.is parameters is.stands.linked.counted r found))
        (call trees (Invocation frame ∷ rest) (choose state.world r) is.program is.lent.shows_stack invokes.chooses t state.world)

  -- ---- invokeinterface

  module _ (selector : ℕ) (is : IsRunning trees p bounds inflated t old from state frame rest code site meaning (linked.InvokeInterface parameters selector)) where
    abbrev interface_callee : Member
    interface_callee = is.stands.linked.callee

    abbrev interface_named : Name
    interface_named = is.stands.linked.named

    abbrev choose_interface : WorldOf ℕ → ℕ → Chosen
    choose_interface w q = if_implements (is_subtype trees (type_of (object_at w q)) (ClassType interface_named)) (selected trees (its_class w q) interface_callee)

    pub interface_null : None ≡ object_under parameters from → needs None entered
    interface_null none =
        ap (frame_need words trees frames t state.world (Invocation frame ∷ rest))
        (null_enters trees p bounds inflated t old from state frame rest code site meaning (linked.InvokeInterface parameters selector) is interface_callee (of_class trees interface_named) (leads_after trees site interface_callee) choose_interface
        is.stands.linked.is parameters is.stands.linked.counted none)
        ∙ none_needed trees frames t state.world (Invocation frame ∷ rest)

    module _ (r : ℕ) (found : Some r ≡ object_under parameters from) where
      enters : entered ≡ entered_of trees r (choose_interface state.world r)
      enters =
          object_enters trees p bounds inflated t old from state frame rest code site meaning (linked.InvokeInterface parameters selector) is interface_callee (of_class trees interface_named) (leads_after trees site interface_callee) choose_interface
          is.stands.linked.is parameters is.stands.linked.counted r found

      abbrev fits : ObjectOf ℕ → Bool
      fits o = is_assignable trees (type_of o) (made_type trees (ClassType interface_named))

      each : (n : ℕ) → word_meets trees (types_of state.world.heap) (of_class trees interface_named) n ≡ true
          → is_null_or state.world.heap fits n ≡ true
      each n h = of_objects state.world.heap (λ type. is_assignable trees type (made_type trees (ClassType interface_named))) fits (λ o e. e) n h

      receiver : There state.world.heap fits r
      receiver =
          there trees p bounds inflated t old from state frame rest code site meaning (linked.InvokeInterface parameters selector) is interface_callee (of_class trees interface_named) (leads_after trees site interface_callee) choose_interface
          is.stands.linked.is parameters is.stands.linked.counted r found fits each

      abbrev chosen_of : ObjectOf ℕ → Chosen
      chosen_of o = if_implements (is_subtype trees (type_of o) (ClassType interface_named)) (selected trees (class_of_object o) interface_callee)

      pub interface_missing : ChoosesInterface p old.heap.objects r selector None → needs None entered
      interface_missing chooses =
          let missing = chooses trees is.program state.world.heap is.lent.represents.world_is.objects interface_named interface_callee is.stands.linked.selects receiver.object receiver.is in
          let chosen : choose_interface state.world r ≡ Fails IncompatibleClassChange = ap chosen_of (get_or_from_slice_get state.world.heap r receiver.object no_object receiver.is) ∙ missing in
          ap (frame_need words trees frames t state.world (Invocation frame ∷ rest)) (enters ∙ ap (entered_of trees r) chosen)
          ∙ none_needed trees frames t state.world (Invocation frame ∷ rest)

      pub interface_needs : (number : ℕ) → ChoosesInterface p old.heap.objects r selector (Some number)
          → (result : Option TheNeed) → NeedsInCall p number r frames from result → needs result entered
      interface_needs number chooses result call =
          let invokes = interface_invoking trees p bounds inflated t old from state frame rest code site meaning parameters selector is r found number chooses (parameters + 1) refl in
          subst (needs result) (sym enters)
          (call trees (Invocation frame ∷ rest) (choose_interface state.world r) is.program is.lent.shows_stack invokes.chooses t state.world)
