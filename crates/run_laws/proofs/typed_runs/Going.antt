-- A frame of a running thread at its instruction, and how it goes on there: with values pushed, or by a call.
use Rattle.std.proofs.Common.{◌≡◌, ℕ, List, ◌++◌, length, take, Bool, true, Some, refl, subst}
use Rattle.std.specs.Prelude.{slice_get, slice_index_or}
use Rattle.std.specs.List.{AllByRecursion}
use Rattle.std.proofs.lemmas.Bool.{false≢true}
use Rattle.model.specs.declared.value.Value.{Value}
use Rattle.model.specs.declared.value.Value.TheVariants as value
use Rattle.model.specs.Names.{java_lang_thread}
use Rattle.model.specs.Classes.{Program, body_of}
use Rattle.model.specs.Instruction.{sized_at}
use Rattle.model.specs.InstructionStarts.{is_start}
use Rattle.model.specs.ReferenceTypes.{ReferenceType, is_assignable}
use Rattle.model.specs.Types.{VerificationType, AnyWord, type_meets, value_meets, is_value_below}
use Rattle.model.specs.Operands.{values, over_types, over_values, is_ready, under, reference_of}
use Rattle.model.specs.State.{ObjectOf, type_of, types_of, Frame, World}
use Rattle.model.specs.Outcomes.{Cost, OutcomeOf, not_null}
use Rattle.model.specs.Worlds.{thread_at}
use Rattle.model.specs.Frames.{at_call}
use Rattle.model.specs.Sites.{MeaningOf, Site, pushing_at, operand}
use Rattle.model.specs.Step.{next_of}
use Rattle.model.specs.Typing as typing
use Rattle.model.specs.Typing.{Reaches, successors}
use Rattle.model.specs.WellTyped.{is_object_in, are_typed, Stands, Ready, Awaits}
use Rattle.run_laws.proofs.laws.Lists.{Pairwise, of_pairs, pair_get}
use Rattle.run_laws.proofs.laws.Rows.{SlotsTyped, slots_of, ready_both, ready_popped, under_both}
use Rattle.run_laws.proofs.typed_runs.Invariant.{typed_more}
use Rattle.run_laws.proofs.typed_runs.Objects.{object_found}
use Rattle.run_laws.proofs.typed_runs.Frames.{arrive, are_appended}
use Rattle.run_laws.proofs.typed_runs.Changes.{Fits, Live, OutcomeTyped}
use Rattle.run_laws.proofs.typed_runs.WorldChanges.{Keeps, goes_on}
use Rattle.run_laws.proofs.laws.Linked.{Linked}

-- the frame f of the running thread t is ready, at the instruction of a site
pub record Here (files : Program) (t : ℕ) (world : World) (frame : Frame) (site : Site) : Type 0 where
  pub linked : Linked files
  pub accepted : typing.AreTyped files
  pub fits : Fits files world
  pub live : Live world t
  pub self : is_object_in files (types_of world.heap) java_lang_thread (thread_at world t).object ≡ true
  pub ready : Ready files (types_of world.heap) frame
  pub is_body : body_of files site.method ≡ Some site.body
  pub method_is : site.method ≡ frame.method
  pub next_is : site.next ≡ next_of files frame
  pub size : ℕ
  pub sized : sized_at site.body.code.code site.offset ≡ Some (site.instr, size)
  pub starts : is_start site.body.code.code site.offset ≡ true

-- what a typing says of the instruction of a site, by its meaning
pub record Allows (files : Program) (frame : Frame) (stands : Stands files frame) (site : Site) (m : MeaningOf Value) : Type 0 where
  pub finds : is_ready (type_meets files) over_types m.wants site.body.code.max_stack stands.type.slots ≡ true
  pub leads : AllByRecursion (λ lead. Reaches files stands.typing lead.0 lead.1) (successors site m stands.type)

module _ (files : Program) (t : ℕ) (w : World) (f : Frame) (site : Site) (h : Here files t w f site) where
  pub stands_here : Stands files f
  stands_here = h.ready.stopped.stands

  pub slots_here : SlotsTyped files (types_of w.heap) h.ready.stopped.stands.type.slots f.place.slots
  slots_here = slots_of files (types_of w.heap) h.ready.stopped.stands.type.slots f.place.slots (record { locals = h.ready.stopped.locals; stack = h.ready.stack })

  -- null raises an exception; else there is an object of the type
  pub not_null_typed : (type : ReferenceType) (v : Value) (go : ℕ → OutcomeOf Value) → is_value_below files (types_of w.heap) type v ≡ true → ((r : ℕ) (o : ObjectOf Value) → v ≡ value.Reference r → slice_get w.heap r ≡ Some o → is_assignable files (type_of o) type ≡ true → OutcomeTyped files t w f (go r)) → OutcomeTyped files t w f (not_null (reference_of v) go)
  not_null_typed type value.Unset go e k = absurd (false≢true e)
  not_null_typed type (value.Int bits) go e k = absurd (false≢true e)
  not_null_typed type value.Null go e k = tt
  not_null_typed type (value.Reference r) go e k = let o = object_found files w.heap r type e in k r o.0 refl o.1 o.2

  -- the same where nothing is asked of the object
  pub not_null_any : (v : Value) (go : ℕ → OutcomeOf Value) → ((r : ℕ) → v ≡ value.Reference r → OutcomeTyped files t w f (go r)) → OutcomeTyped files t w f (not_null (reference_of v) go)
  not_null_any value.Unset go k = tt
  not_null_any (value.Int bits) go k = tt
  not_null_any value.Null go k = tt
  not_null_any (value.Reference r) go k = k r refl

  module _ (m : MeaningOf Value) (a : Allows files f h.ready.stopped.stands site m) where
    -- what is popped is as wanted
    pub popped_here : Pairwise (value_meets files (types_of w.heap)) m.wants.pops (take (length m.wants.pops) f.place.slots.stack)
    popped_here =
        ready_popped (value_meets files (types_of w.heap)) over_values m.wants site.body.code.max_stack f.place.slots
        (ready_both files h.linked.rooted (types_of w.heap) m.wants site.body.code.max_stack h.ready.stopped.stands.type.slots f.place.slots slots_here a.finds)

    pub met : (k : ℕ) → value_meets files (types_of w.heap) (slice_index_or m.wants.pops k AnyWord) (operand values (take (length m.wants.pops) f.place.slots.stack) k) ≡ true
    met k = pair_get (value_meets files (types_of w.heap)) m.wants.pops (take (length m.wants.pops) f.place.slots.stack) AnyWord value.Unset popped_here refl k

    pub under_here : are_typed files (types_of w.heap) (under m.wants h.ready.stopped.stands.type.slots) (under m.wants f.place.slots) ≡ true
    under_here = of_pairs _ _ _ (under_both files h.linked.rooted (types_of w.heap) m.wants h.ready.stopped.stands.type.slots f.place.slots slots_here)

    -- on to the next instruction with values of these types
    pub pushes_on : (locals pushed : List VerificationType) (constructed : Bool) → Reaches files h.ready.stopped.stands.typing site.next (record { slots = record { locals = locals; stack = pushed ++ under m.wants h.ready.stopped.stands.type.slots }; constructed = constructed }) → are_typed files (types_of w.heap) locals f.place.slots.locals ≡ true → (cost : Cost) (after : World) (vs : List Value) → Keeps files w after → are_typed files (types_of after.heap) pushed vs ≡ true → OutcomeTyped files t w f (pushing_at cost site.next vs after f.place.slots (under m.wants f.place.slots))
    unfolding under_here
    pushes_on locals pushed constructed on kept cost after vs keeps typed =
        let os = types_of after.heap in
        let ts = h.ready.stopped.stands.type.slots in
        goes_on files t w after f cost (record { locals = f.place.slots.locals; stack = vs ++ under m.wants f.place.slots }) site.next h.live keeps
        (arrive files h.linked.rooted os f h.ready.stopped.stands site.next (record { slots = record { locals = locals; stack = pushed ++ under m.wants ts }; constructed = constructed }) (record { locals = f.place.slots.locals; stack = vs ++ under m.wants f.place.slots }) on
        (record {
          locals = typed_more files (types_of w.heap) os keeps.extends locals f.place.slots.locals kept;
          stack = are_appended files h.linked.rooted os pushed (under m.wants ts) vs (under m.wants f.place.slots) typed (typed_more files (types_of w.heap) os keeps.extends (under m.wants ts) (under m.wants f.place.slots) under_here);
        }))

    -- with the local variables as they are
    pub pushes : (pushed : List VerificationType) (constructed : Bool) → Reaches files h.ready.stopped.stands.typing site.next (record { slots = record { locals = h.ready.stopped.stands.type.slots.locals; stack = pushed ++ under m.wants h.ready.stopped.stands.type.slots }; constructed = constructed }) → (cost : Cost) (after : World) (vs : List Value) → Keeps files w after → are_typed files (types_of after.heap) pushed vs ≡ true → OutcomeTyped files t w f (pushing_at cost site.next vs after f.place.slots (under m.wants f.place.slots))
    pushes pushed constructed on cost after vs keeps typed =
        pushes_on h.ready.stopped.stands.type.slots.locals pushed constructed on h.ready.stopped.locals cost after vs keeps typed

  -- at a call it waits for results of these types, with what it leads to then
  pub awaits_here : (results ls rs : List VerificationType) (constructed : Bool) (vs : List Value) → are_typed files (types_of w.heap) ls f.place.slots.locals ≡ true → are_typed files (types_of w.heap) rs vs ≡ true → Reaches files h.ready.stopped.stands.typing site.next (record { slots = record { locals = ls; stack = results ++ rs }; constructed = constructed }) → Awaits files (types_of w.heap) results (at_call f vs)
  awaits_here results ls rs constructed vs locals stack on =
      let stands = h.ready.stopped.stands in
      record {
        stopped = record {
          stands = record { body = stands.body; is_body = stands.is_body; typing = stands.typing; holds = stands.holds; type = stands.type; typed = stands.typed };
          locals = h.ready.stopped.locals;
        };
        after = record { slots = record { locals = ls; stack = results ++ rs }; constructed = constructed };
        rest = rs;
        stack_is = refl;
        locals = locals;
        stack = stack;
        goes_on = subst (λ to. Reaches files stands.typing to (record { slots = record { locals = ls; stack = results ++ rs }; constructed = constructed })) h.next_is on;
      }
