-- The method that a call runs, by the row of its number.
use Rattle.std.proofs.Common.{◌≡◌, ◌+◌, ◌==◌, ℕ, List, ◌∷◌, take, drop, reverse, Bool, true, false, Option, Some, None, if◌then◌else◌, Ok, refl, sym, ap, subst, ◌∙◌}
use Rattle.std.specs.Prelude.{slice_get}
use Rattle.std.specs.Option.{option_map_or}
use Rattle.std.proofs.lemmas.Bool.{eqb-true}
use Rattle.std.proofs.lemmas.Option.{same_Some}
use Rattle.model.specs.declared.event.Event.{Event}
use Rattle.model.specs.Names.{Member}
use Rattle.model.specs.Classes.{Program, Body, body_of}
use Rattle.model.specs.Frames.{frame_with, at_call, entered_by}
use Rattle.model.specs.Lookup.{is_abstract_method}
use Rattle.model.specs.LimitStands.{Bounds}
use Rattle.model.specs.Operands.{words}
use Rattle.model.specs.Outcomes.{AbstractMethod}
use Rattle.model.specs.Sites.{Site}
use Rattle.model.specs.State as model
use Rattle.model.specs.State.{FrameOf, StackOf, WorldOf, StateOf}
use Rattle.model.specs.Calls.{Chosen, Fails, Runs, is_one, runs, may_run}
use Rattle.model.specs.BuiltInMethods as built_in
use Rattle.model.specs.BuiltInMethods.{built_in_method, built_in_may, built_in_does}
use Rattle.model.specs.Step.{SteppedOf, PartOf, NotEnabled, enabled_if, become, pushed, raised}
use Rattle.linked_code.specs.declared.method.BuiltInMethod.{BuiltInMethod}
use Rattle.linked_code.specs.declared.method.LinkedCode.{LinkedCode}
use Rattle.linked_code.specs.declared.method.LinkedMethod.{LinkedMethod}
use Rattle.linked_code.specs.declared.method.MethodBody.{MethodBody}
use Rattle.linked_code.specs.declared.method.MethodBody.TheVariants as body
use Rattle.linked_code.specs.declared.program.LinkedProgram.{LinkedProgram}
use Rattle.linked_code.specs.Linked.{no_offset, offset_in}
use Rattle.linked_code.specs.Methods.{IsLinkedMethod, IsMethodBody}
use Rattle.linked_code.specs.Numbers.{IsMethodAt}
use Rattle.thread_stacks.specs.declared.entry.Callee.{Callee}
use Rattle.thread_stacks.specs.Stacks.{ShownEntry}
use Rattle.machine_state.specs.shown_stacks.Shown.{IsCallee, starts_of, offset_at}
use Rattle.machine_state.specs.declared.answers.MachineException.{MachineException}
use Rattle.machine_state.specs.declared.answers.MachineException.TheVariants as exception
use Rattle.machine_state.specs.declared.answers.Effect.{Effect}
use Rattle.machine_state.specs.declared.answers.Effect.TheVariants as effect
use Rattle.machine_state.specs.declared.state.Shared.{Shared}
use Rattle.machine_state.specs.Instructions.{Does, shown_exception}
use Rattle.machine_state.specs.entries.Entered.{IsShared}
use Rattle.machine_state.specs.invocations.Entering.{IsThere}
use Rattle.machine_state.specs.method_selection.Run.{RunsBody, IsRun, AreMethodsRun}
use Rattle.machine_instructions.specs.thread_methods.Called.{IsCalling, call_event}
use Rattle.machine_instructions.specs.declared.called_methods.running.Call.{Call}
use Rattle.machine_instructions.specs.called_methods.Frames.{IsPlaceBehind, raised_by}
use Rattle.machine_instructions.specs.called_methods.Invoked.{IsInvoking, invoked_event}

-- an exception is raised by an event that picks nothing
pub raises : (trees : Program) (p : LinkedProgram) (bounds : Bounds) (inflated : List ℕ) (t pick : ℕ) (world : WorldOf ℕ) (own : StackOf ℕ)
    (fault : MachineException) (told : Effect) → told ≡ raised_by pick fault
    → (old : Shared) (from : List ShownEntry)
    → Does trees p bounds inflated t world own (enabled_if (pick == 0) (raised words trees t (shown_exception fault) world own)) (Ok told) old old from
    from
raises trees p bounds inflated t pick world own fault told e old from =
    subst (λ (x : Effect). Does trees p bounds inflated t world own (enabled_if (pick == 0) (raised words trees t (shown_exception fault) world own)) (Ok x) old old from from) (sym e) (by (pick == 0))
  where
    by : (b : Bool) → Does trees p bounds inflated t world
        own (enabled_if b (raised words trees t (shown_exception fault) world own)) (Ok (if b then effect.Raises fault else effect.NotEnabled)) old old
        from from
    by true = (refl, record { shared = refl; stack = refl })
    by false = (refl, record { shared = refl; stack = refl })

pub picked : {S : Type 0} (pick : ℕ) → (pick ≡ 0 → ⊥) → (stepped : SteppedOf S) → enabled_if (pick == 0) stepped ≡ NotEnabled
picked pick h stepped = ap (λ b. enabled_if b stepped) (by (pick == 0) refl)
  where
    by : (b : Bool) → (pick == 0) ≡ b → b ≡ false
    by true e = absurd (h (eqb-true pick 0 e))
    by false e = refl

pub unpicked : {S : Type 0} (pick : ℕ) → pick ≡ 0 → (stepped : SteppedOf S) → enabled_if (pick == 0) stepped ≡ stepped
unpicked pick e stepped = ap (λ (n : ℕ). enabled_if (n == 0) stepped) e

module _ (run : AreMethodsRun) (trees : Program) (p : LinkedProgram) (bounds : Bounds) (inflated : List ℕ) (t : ℕ) (old : Shared)
    (from : List ShownEntry) (state : StateOf ℕ) (frame : FrameOf ℕ) (rest : StackOf ℕ) (site : Site) (call : Call) (chosen : Chosen)
    (is : IsInvoking trees p bounds inflated t old from state frame rest site call chosen) where
  pub found : IsRun trees p call.method chosen
  found = run trees p is.program.linked call.method chosen is.chooses

  pub missing : slice_get p.methods.items call.method ≡ None → ⊥
  missing none = let e = sym found.is ∙ none in cc

  abbrev pub event_of : (frames pick : ℕ) → Chosen → SteppedOf (PartOf ℕ)
  event_of frames pick = invoked_event trees frames (record { thread = t; pick = pick }) state.world frame rest site call.object call.operands

  module _ (row : LinkedMethod) (is_row : slice_get p.methods.items call.method ≡ Some row) where
    same_row : found.row ≡ row
    same_row = same_Some found.row row (sym found.is ∙ is_row)

    linked : IsLinkedMethod trees p found.method row
    linked = subst (IsLinkedMethod trees p found.method) same_row found.linked

    pub runs_body : (b : MethodBody) → row.body ≡ b → RunsBody trees p found.method b chosen
    runs_body b e = subst (λ x. RunsBody trees p found.method x chosen) (ap (λ (r : LinkedMethod). r.body) same_row ∙ e) found.runs

    -- ---- an abstract method

    pub fails : row.body ≡ body.Abstract → (frames pick : ℕ) (told : Effect) → told ≡ raised_by pick exception.AbstractMethod
        → Does trees p bounds inflated t state.world (model.Invocation frame
        ∷ rest) (event_of frames pick chosen) (Ok told) old old from from
    fails e frames pick told is_told =
        subst (λ (s : SteppedOf (PartOf ℕ)). Does trees p bounds inflated t state.world (model.Invocation frame ∷ rest) s (Ok told) old old from from)
        (sym (ap (event_of frames pick) (runs_body body.Abstract e)))
        (raises trees p bounds inflated t pick state.world (model.Invocation frame ∷ rest) exception.AbstractMethod told is_told old from)

    -- ---- a built-in method

    module _ (of : BuiltInMethod) (e : row.body ≡ body.BuiltIn of) where
      -- what has no code and is a method of the machine is not abstract
      concrete : body_of trees found.method ≡ None → is_one is_abstract_method trees found.method ≡ false
      concrete none =
          (subst (λ b. IsMethodBody trees p found.method None b) e (subst (λ o. IsMethodBody trees p found.method o row.body) none linked.runs)).0

      next_is : (next : ℕ) → IsPlaceBehind from next → next ≡ is.shown.place + 1
      next_is next behind = subst (λ s. IsPlaceBehind s next) is.is_stack behind is.small

      pub calling : (next : ℕ) → IsPlaceBehind from next
          → IsCalling trees p bounds inflated t old from state frame rest of call.operands next site.next
      calling next behind =
          let h = runs_body (body.BuiltIn of) e in
          record {
            program = is.program;
            lent = is.lent;
            shown = is.shown;
            others = is.others;
            is_stack = is.is_stack;
            goes_on = ap (λ n. offset_at p is.shown.method n) (next_is next behind) ∙ is.goes_on;
            arguments = is.arguments found.method of h.0 (concrete h.1) h.1 h.2;
          }

      pub built_in_done : (frames pick : ℕ) → call_event trees frames (record { thread = t; pick = pick }) state.world frame rest of
          call.operands site.next ≡ event_of frames pick chosen
      built_in_done frames pick =
          let h = runs_body (body.BuiltIn of) e in
          let event : Event = record { thread = t; pick = pick } in
          let ops = take call.operands frame.place.slots.stack in
          let under = drop call.operands frame.place.slots.stack in
          ap (λ (x : built_in.BuiltInMethod). enabled_if (built_in_may words x event state.world ops) (become words trees frames t state.world frame rest (built_in_does words trees x site.next event state.world frame.place.slots ops under))) h.2
          ∙ ap (λ (o : Option Body). enabled_if (may_run words event state.world ops found.method o) (become words trees frames t state.world frame rest (runs words trees site event state.world frame.place.slots ops under call.object found.method o))) (sym h.1)
          ∙ ap (event_of frames pick) (sym h.0)

    -- ---- a method with code

    module _ (code : LinkedCode) (e : row.body ≡ body.Code code) where
      abbrev pub the_body : Body
      the_body = (runs_body (body.Code code) e).1.0

      -- what is chosen is the method of the number
      numbered : IsMethodAt trees call.method found.method
      numbered = subst (λ (m : Member). IsMethodAt trees call.method m) (by (is_one is_abstract_method trees is.chooses.method) (sym is.chooses.is ∙ (runs_body (body.Code code) e).0)) is.chooses.numbered
        where
          by : (a : Bool) → (if a then Fails AbstractMethod else Runs is.chooses.method) ≡ Runs found.method
              → is.chooses.method ≡ found.method
          by true q = absurd cc
          by false q = cc

      module _ (entered : Option ℕ) (enters : entered ≡ (if row.is_synchronized then Some call.object else None)) where
        abbrev pub callee : Callee
        callee = record { method = call.method; max_locals = code.max_locals; max_stack = code.max_stack; entered = entered }

        pub is_callee : IsCallee trees p callee found.method the_body
        is_callee =
            let c = (runs_body (body.Code code) e).1.2 in
            record {
              numbered = numbered;
              first =
                  ap (λ o. option_map_or (λ (r : LinkedMethod). offset_in (starts_of r.body) 0) o no_offset) is_row
                  ∙ ap (λ b. offset_in (starts_of b) 0) e
                  ∙ c.instructions.first;
              max_locals = c.max_locals;
            }

        entered_is : entered_by trees found.method call.object ≡ entered
        entered_is = sym (enters ∙ ap (λ b. if b then Some call.object else None) linked.synchronized)

        pub monitor_there : IsThere entered old.heap
        monitor_there = subst (λ o. IsThere o old.heap) (sym enters) (by row.is_synchronized)
          where
            by : (b : Bool) → IsThere (if b then Some call.object else None) old.heap
            by true = is.monitor
            by false = tt

        abbrev pub pushes : (frames : ℕ) → SteppedOf (PartOf ℕ)
        pushes frames =
            pushed words trees frames t state.world state.world (model.Invocation frame ∷ rest) (model.Invocation (at_call frame (drop call.operands frame.place.slots.stack)) ∷ rest)
            (frame_with words found.method (reverse (take call.operands frame.place.slots.stack)) entered the_body)

        coded : (frames pick : ℕ) → event_of frames pick chosen ≡ enabled_if (pick == 0) (pushes frames)
        coded frames pick =
            let h = runs_body (body.Code code) e in
            let event : Event = record { thread = t; pick = pick } in
            let ops = take call.operands frame.place.slots.stack in
            let under = drop call.operands frame.place.slots.stack in
            ap (event_of frames pick) h.0
            ∙ ap (λ (o : Option Body). enabled_if (may_run words event state.world ops found.method o) (become words trees frames t state.world frame rest (runs words trees site event state.world frame.place.slots ops under call.object found.method o))) h.1.1
            ∙ ap (λ (x : Option ℕ). enabled_if (pick == 0)
            (pushed words trees frames t state.world state.world (model.Invocation frame ∷ rest) (model.Invocation (at_call frame under) ∷ rest) (frame_with words found.method (reverse ops) x the_body))) entered_is

        pub not_picked : (frames pick : ℕ) → (pick ≡ 0 → ⊥) → event_of frames pick chosen ≡ NotEnabled
        not_picked frames pick h = coded frames pick ∙ picked pick h (pushes frames)

        pub pushes_is : (frames pick : ℕ) → pick ≡ 0 → event_of frames pick chosen ≡ pushes frames
        pushes_is frames pick h = coded frames pick ∙ unpicked pick h (pushes frames)

  pub is_shared : IsShared trees p bounds inflated old state.world
  is_shared = record { represents = is.lent.represents; flags = is.lent.flags; counted = is.lent.counted }
