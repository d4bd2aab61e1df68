-- The invoking instructions: the method that is run takes what the call gives, and the invoker awaits its results.
use Rattle.std.proofs.Common.{◌≡◌, ℕ, List, ◌++◌, reverse, Bool, true, false, Option, Some, None, refl, sym, ap, subst}
use Rattle.std.specs.Prelude.{unwrap_or}
use Rattle.std.specs.Option.{option_map_or}
use Rattle.std.proofs.lemmas.Bool.{false≢true, and_parts, cond_both, not-true}
use Rattle.model.specs.declared.event.Event.{Event}
use Rattle.model.specs.declared.instr.Instr.{Instr}
use Rattle.model.specs.declared.value.Value.{Value}
use Rattle.model.specs.declared.value.Value.TheVariants as value
use Rattle.model.specs.Names.{Name, name_eq, Member, initialiser_name}
use Rattle.model.specs.Tree.{MethodTree}
use Rattle.model.specs.Instruction.{sized_at}
use Rattle.model.specs.AccessFlags.{is_abstract_method, is_private_method, is_static_method, is_instance_method}
use Rattle.model.specs.Classes.{Program, Body, body_of, is_subclass}
use Rattle.model.specs.Lookup.{method_of, select, is_selectable}
use Rattle.model.specs.ReferenceTypes.{ReferenceType, ClassType, is_assignable}
use Rattle.model.specs.Types.{VerificationType, OfType, Want, is_value_below, is_object_below}
use Rattle.model.specs.DescribedTypes.{made_type}
use Rattle.model.specs.Operands.{Slots, values, under, reference_of}
use Rattle.model.specs.State.{type_of, types_of, Frame, World}
use Rattle.model.specs.Outcomes.{AbstractMethod}
use Rattle.model.specs.Worlds.{object_at}
use Rattle.model.specs.Frames.{at_call, entered_by}
use Rattle.model.specs.Sites.{MeaningOf, Site, operand}
use Rattle.model.specs.Step.{ops_of}
use Rattle.model.specs.Typing.{Reaches, is_static_of}
use Rattle.model.specs.Calls.{parameter_count, result_types, Chosen, Fails, Runs, is_one, if_concrete, selected, its_class, of_receiver, runs, invoked, may_run, may_invoke, call_on, is_instance_one}
use Rattle.model.specs.WellTyped.{Awaits}
use Rattle.run_laws.proofs.laws.Lists.{get_map}
use Rattle.run_laws.proofs.laws.Order.{stack_above}
use Rattle.run_laws.proofs.typed_runs.Objects.{object_found}
use Rattle.run_laws.proofs.typed_runs.Changes.{OutcomeTyped}
use Rattle.run_laws.proofs.typed_runs.NewFrames as new_frames
use Rattle.run_laws.proofs.typed_runs.NewFrames.{opened_ready}
use Rattle.run_laws.proofs.typed_runs.Called.{BuiltInTyped}
use Rattle.run_laws.proofs.typed_runs.Going.{Here, Allows, under_here, awaits_here}
use Rattle.run_laws.proofs.typed_runs.Instructions.{Does, at_there}
use Rattle.run_laws.proofs.typed_runs.Callees.{Given, Runnable, instance_runnable, object_below_class}

-- a method of which something holds is there
pub record One (test : MethodTree → Bool) (o : Option MethodTree) : Type 0 where
  pub tree : MethodTree
  pub is : o ≡ Some tree
  pub passes : test tree ≡ true

pub one_of : (test : MethodTree → Bool) (o : Option MethodTree) → option_map_or test o false ≡ true → One test o
one_of test None e = absurd (false≢true e)
one_of test (Some m) e = record { tree = m; is = refl; passes = e }

module _ (files : Program) (method : Member) (tree : MethodTree) (is_method : method_of files method ≡ Some tree) where
  pub not_static : is_instance_method tree ≡ true → is_static_of files method ≡ false
  not_static e = subst (λ o. option_map_or is_static_method o false ≡ false) (sym is_method) (not-true (is_static_method tree) e)

module _ (files : Program) (built_ins : BuiltInTyped files) (event : Event) (w : World) (f : Frame) (site : Site) (h : Here files event.thread w f site) where
  -- ---- what is run

  abbrev pub Chooses : List VerificationType → List Value → Chosen → Type 0
  Chooses results ops (Fails fault) = Unit {0}
  Chooses results ops (Runs method) = Runnable files (types_of w.heap) method ops × (result_types files method ≡ results)

  runs_typed : (method : Member) (ops rest : List Value) (object : ℕ) → Runnable files (types_of w.heap) method ops → Awaits files (types_of w.heap) (result_types files method) (at_call f rest) → (b : Option Body) → body_of files method ≡ b → may_run values event w ops method b ≡ true → OutcomeTyped files event.thread w f (runs values files site event w f.place.slots ops rest object method b)
  runs_typed method ops rest object c awaits None e may =
      built_ins event w f site.next method ops rest
      (record {
        machine = h.linked.native method c.tree c.is_method c.concrete e;
        fits = h.fits;
        live = h.live;
        self = h.self;
        arguments = c.arguments;
        receiver = c.receiver;
        awaits = awaits;
        next_is = h.next_is;
        may = may;
      })
  runs_typed method ops rest object c awaits (Some body) e may =
      (opened_ready files h.linked.rooted (types_of w.heap) method body (reverse ops) (entered_by files method object) e (h.accepted method body e) c.arguments, awaits)

  pub invoked_typed : (results : List VerificationType) (ops rest : List Value) (object : ℕ) (chosen : Chosen) → Chooses results ops chosen → Awaits files (types_of w.heap) results (at_call f rest) → may_invoke values files event w ops chosen ≡ true → OutcomeTyped files event.thread w f (invoked values files site event w f.place.slots ops rest object chosen)
  invoked_typed results ops rest object (Fails fault) c awaits may = tt
  invoked_typed results ops rest object (Runs method) c awaits may =
      runs_typed method ops rest object c.0 (subst (λ ts. Awaits files (types_of w.heap) ts (at_call f rest)) (sym c.1) awaits) (body_of files method) refl may

  on_receiver : (results : List VerificationType) (ops : List Value) (v : Value) (choose : ℕ → Chosen) → ((r : ℕ) → v ≡ value.Reference r → Chooses results ops (choose r)) → Chooses results ops (of_receiver (reference_of v) choose)
  on_receiver results ops value.Unset choose k = tt
  on_receiver results ops (value.Int bits) choose k = tt
  on_receiver results ops value.Null choose k = tt
  on_receiver results ops (value.Reference r) choose k = k r refl

  pub call_typed : (method : Member) (receiver : List Want) (leads : Slots VerificationType → List VerificationType → List VerificationType → List (ℕ × Slots VerificationType)) (choose : World → ℕ → Chosen) (results : List VerificationType) → ((r : ℕ) → operand values (ops_of values (call_on values files site method receiver leads choose) f.place.slots) (parameter_count method) ≡ value.Reference r → Chooses results (ops_of values (call_on values files site method receiver leads choose) f.place.slots) (choose w r)) → Awaits files (types_of w.heap) results (at_call f (under (call_on values files site method receiver leads choose).wants f.place.slots)) → (call_on values files site method receiver leads choose).may event w (ops_of values (call_on values files site method receiver leads choose) f.place.slots) ≡ true → Does files event w f (call_on values files site method receiver leads choose)
  call_typed method receiver leads choose results k awaits may =
      let m = call_on values files site method receiver leads choose in
      let ops = ops_of values m f.place.slots in
      let v = operand values ops (parameter_count method) in
      invoked_typed results ops (under m.wants f.place.slots) (unwrap_or (reference_of v) 0) (of_receiver (reference_of v) (choose w)) (on_receiver results ops v (choose w) k) awaits may

  -- ---- selection

  module _ (class : Name) (method : Member) (ops : List Value) (r : ℕ) (g : Given files (types_of w.heap) method ops) (at : operand values ops (parameter_count method) ≡ value.Reference r) (name : name_eq method.name initialiser_name ≡ false) (instance : is_one is_instance_one files method ≡ true) where
    private_chosen : (m : MethodTree) → method_of files method ≡ Some m → is_private_method m ≡ true → is_value_below files (types_of w.heap) (ClassType method.class) (value.Reference r) ≡ true → Chooses (result_types files method) ops (Runs method)
    private_chosen m is private below =
        let one = one_of is_instance_one (method_of files method) instance in
        (instance_runnable files (types_of w.heap) method method ops m r refl is (h.linked.private_is_concrete method m is private) (not_static files method one.tree one.is one.passes) name g at below, refl)

    concrete_chosen : ((d : Name) → is_subclass files class d ≡ true → is_value_below files (types_of w.heap) (ClassType d) (value.Reference r) ≡ true) → (o : Option Member) → select files class method ≡ o → Chooses (result_types files method) ops (if_concrete files o)
    concrete_chosen up None e = tt
    concrete_chosen up (Some found) e =
        let s = new_frames.selected files class method found e in
        let one = one_of is_selectable (method_of files found) s.selectable in
        cond_both (is_one is_abstract_method files found) (Fails AbstractMethod) (Runs found) (Chooses (result_types files method) ops) (λ q. tt)
        (λ q. (
          instance_runnable files (types_of w.heap) method found ops one.tree r (ap (λ (x : Member). x.descriptor) s.is) one.is (subst (λ o. option_map_or is_abstract_method o false ≡ false) one.is q)
              (not_static files found one.tree one.is (and_parts _ _ one.passes).0) (subst (λ n. name_eq n initialiser_name ≡ false) (sym (ap (λ (x : Member). x.name) s.is)) name) g at (up found.class s.above),
          ap (λ x. result_types files x) s.is,
        ))

    pub selected_chosen : ((m : MethodTree) → method_of files method ≡ Some m → is_private_method m ≡ true → is_value_below files (types_of w.heap) (ClassType method.class) (value.Reference r) ≡ true) → ((d : Name) → is_subclass files class d ≡ true → is_value_below files (types_of w.heap) (ClassType d) (value.Reference r) ≡ true) → Chooses (result_types files method) ops (selected files class method)
    selected_chosen private up =
        cond_both (is_one is_private_method files method) (Runs method) (if_concrete files (select files class method)) (Chooses (result_types files method) ops)
        (λ q. let one = one_of is_private_method (method_of files method) q in private_chosen one.tree one.is one.passes (private one.tree one.is one.passes))
        (λ q. concrete_chosen up (select files class method) refl)

  -- ---- the receiver

  -- a value of a class, as the verifier makes it, is of the classes above
  pub goes_up : (current above : Name) (r : ℕ) → is_assignable files (made_type files (ClassType current)) (ClassType above) ≡ true → is_value_below files (types_of w.heap) (made_type files (ClassType current)) (value.Reference r) ≡ true → is_value_below files (types_of w.heap) (ClassType above) (value.Reference r) ≡ true
  goes_up current above r p q = stack_above files h.linked.rooted (types_of w.heap) (OfType (made_type files (ClassType current))) (OfType (ClassType above)) (value.Reference r) p q

  -- an object is of the classes from which its methods are selected
  pub own_class : (r : ℕ) (type : ReferenceType) → is_value_below files (types_of w.heap) type (value.Reference r) ≡ true → (d : Name) → is_subclass files (its_class w r) d ≡ true → is_value_below files (types_of w.heap) (ClassType d) (value.Reference r) ≡ true
  own_class r type q d e =
      let o = object_found files w.heap r type q in
      subst (λ x. is_object_below files (ClassType d) x ≡ true) (sym (get_map type_of w.heap r (object_at w r) (at_there w.heap r o.0 o.1))) (object_below_class files h.linked (object_at w r) d e)

  pub sized_as : (i : Instr) → site.instr ≡ i → sized_at site.body.code.code site.offset ≡ Some (i, h.size)
  sized_as i e = subst (λ j. sized_at site.body.code.code site.offset ≡ Some (j, h.size)) e h.sized

  -- with its arguments gone it awaits results that the instruction leads to
  pub awaits_next : (m : MeaningOf Value) → Allows files f h.ready.stopped.stands site m → (results : List VerificationType) (constructed : Bool) → Reaches files h.ready.stopped.stands.typing site.next (record { slots = record { locals = h.ready.stopped.stands.type.slots.locals; stack = results ++ under m.wants h.ready.stopped.stands.type.slots }; constructed = constructed }) → Awaits files (types_of w.heap) results (at_call f (under m.wants f.place.slots))
  awaits_next m a results constructed on =
      let ts = h.ready.stopped.stands.type.slots in
      awaits_here files event.thread w f site h results ts.locals (under m.wants ts) constructed (under m.wants f.place.slots) h.ready.stopped.locals (under_here files event.thread w f site h m a) on
