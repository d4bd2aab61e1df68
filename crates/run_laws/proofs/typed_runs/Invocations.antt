-- invokestatic, invokevirtual, invokespecial and invokeinterface: each brings about what its typing says.
use Rattle.std.proofs.Common.{◌≡◌, ℕ, List, [], ◌∷◌, map, reverse, Bool, true, false, Some, refl, sym, ap, ◌∙◌, subst}
use Rattle.std.specs.Prelude.{slice_index_or, if◌then◌else◌}
use Rattle.std.proofs.lemmas.Bool.{false≢true, or_left}
use Rattle.model.specs.declared.event.Event.{Event}
use Rattle.model.specs.declared.instr.Instr.TheVariants.{Invoke, InvokeInterface}
use Rattle.model.specs.declared.instr.Invocation.TheVariants as invocation
use Rattle.model.specs.declared.value.Value.{Value}
use Rattle.model.specs.declared.value.Value.TheVariants as value
use Rattle.model.specs.Names.{Name, name_eq, Member, initialiser_name, constructor_name}
use Rattle.model.specs.Pool.{method_at, interface_method_at}
use Rattle.model.specs.AccessFlags.{is_static_method}
use Rattle.model.specs.Classes.{Program}
use Rattle.model.specs.Lookup.{method_of, find_method, find_interface_method}
use Rattle.model.specs.ReferenceTypes.{ClassType, is_subtype}
use Rattle.model.specs.Types.{VerificationType, NullType, AReceiver, is_value_below}
use Rattle.model.specs.InitialisedTypes.{initialised}
use Rattle.model.specs.DescribedTypes.{type_named, made_type, verification_type}
use Rattle.model.specs.Operands.{values, over_types, operands, under}
use Rattle.model.specs.State.{type_of, types_of, Frame, World}
use Rattle.model.specs.Opening.{class_reference}
use Rattle.model.specs.Worlds.{object_at}
use Rattle.model.specs.Sites.{MeaningOf, Site}
use Rattle.model.specs.Step.{ops_of}
use Rattle.model.specs.Typing.{is_static_of, parameter_types, receiver_type}
use Rattle.model.specs.Calls.{parameter_count, result_types, Chosen, Runs, is_one, selected, its_class, leads_after, constructed_leads, of_class, of_named, static_call, virtual_call, if_implements, interface_call, special_class, special_call, constructor_call, is_instance_one}
use Rattle.model.specs.WellTyped.{has_type, are_typed}
use Rattle.run_laws.proofs.laws.Lists.{pairs_of, of_pairs, pair_map_left}
use Rattle.run_laws.proofs.laws.Classes.{names_same, subclass_self}
use Rattle.run_laws.proofs.laws.Order.{initialised_typed}
use Rattle.run_laws.proofs.laws.Linked.{IsCallable}
use Rattle.run_laws.proofs.laws.NamedTypes.{named_type}
use Rattle.run_laws.proofs.typed_runs.Called.{BuiltInTyped}
use Rattle.run_laws.proofs.typed_runs.Going.{Here, Allows, popped_here, under_here, awaits_here}
use Rattle.run_laws.proofs.typed_runs.Instructions.{Does}
use Rattle.run_laws.proofs.typed_runs.Callees.{static_arguments, given, instance_runnable, named_below, special_below, found_name, interface_found_name}
use Rattle.run_laws.proofs.typed_runs.Calls.{one_of, not_static, Chooses, invoked_typed, call_typed, selected_chosen, goes_up, own_class, sized_as, awaits_next}

module _ (files : Program) (built_ins : BuiltInTyped files) (event : Event) (w : World) (f : Frame) (site : Site)
    (h : Here files event.thread w f site) where
  -- an instruction that the event may do brings about what its typing says
  abbrev Done : MeaningOf Value → Type 0
  Done m = Allows files f h.ready.stopped.stands site m → m.may event w (ops_of values m f.place.slots) ≡ true → Does files event w f m

  -- the name of what is found is that of what is sought
  callable_found : (named found : Member) → found.name ≡ named.name → IsCallable named → name_eq found.name initialiser_name ≡ false
  callable_found named found e q = subst (λ n. name_eq n initialiser_name ≡ false) (sym e) q

  -- ---- invokestatic

  pub static_typed : (method : Member) → is_one is_static_method files method ≡ true → Done (static_call values files site method)
  static_typed method static a may =
      let m = static_call values files site method in
      let ops = ops_of values m f.place.slots in
      let one = one_of is_static_method (method_of files method) static in
      let no = or_left (is_static_of files method) (name_eq method.name initialiser_name) static in
      invoked_typed files built_ins event w f site h (result_types files method) ops (under m.wants f.place.slots) (class_reference files method.class) (Runs method) (
        record {
          tree = one.tree;
          is_method = one.is;
          concrete = h.linked.static_is_concrete method one.tree one.is one.passes;
          arguments =
              subst (λ b. are_typed files (types_of w.heap) (if b then parameter_types files method else receiver_type method ∷ parameter_types files method) (reverse ops) ≡ true) (sym no)
              (static_arguments files (types_of w.heap) method ops (popped_here files event.thread w f site h m a));
          receiver = λ e. absurd (false≢true (sym e ∙ no));
        },
        refl,
      )
      (awaits_next files built_ins event w f site h m a (result_types files method) _ a.leads.0) may

  -- ---- invokevirtual

  pub virtual_typed : (index : ℕ) (named method : Member) → site.instr ≡ Invoke invocation.Virtual index
      → method_at site.body.pool index ≡ Some named → find_method files named ≡ Some method → is_one is_instance_one files method ≡ true
      → Done (virtual_call values files site named.class method)
  virtual_typed index named method i e found instance a may =
      let m = virtual_call values files site named.class method in
      let ops = ops_of values m f.place.slots in
      let sized = sized_as files built_ins event w f site h (Invoke invocation.Virtual index) i in
      let callable = h.linked.callable site.method site.body site.offset h.size invocation.Virtual index named h.is_body h.starts sized e in
      let class = h.linked.calls_class site.method site.body site.offset h.size invocation.Virtual index named h.is_body h.starts sized e in
      let g = given files (types_of w.heap) method (of_named files named.class) ops (popped_here files event.thread w f site h m a) in
      call_typed files built_ins event w f site h method (of_named files named.class ∷ []) (leads_after files site method) (λ world r. selected files (its_class world r) method) (result_types files method)
      (λ r at.
      let receiver = subst (λ v. is_value_below files (types_of w.heap) (made_type files (type_named named.class)) v ≡ true) at g.1 in
      selected_chosen files built_ins event w f site h (its_class w r) method ops r g.0 at (callable_found named method (found_name files named method found) callable) instance
      (λ t is private. goes_up files built_ins event w f site h named.class method.class r (named_below files h.linked named.class named.class method.class (subclass_self files _ named.class) class (h.linked.private_is_above named method t callable found is private))
      (subst (λ type. is_value_below files (types_of w.heap) (made_type files type) (value.Reference r) ≡ true) (named_type named.class (h.linked.private_is_of_class named method t callable found is private)) receiver))
      (own_class files built_ins event w f site h r (made_type files (type_named named.class)) receiver))
      (awaits_next files built_ins event w f site h m a (result_types files method) _ a.leads.0) may

  -- ---- invokeinterface

  implements_chosen : (results : List VerificationType) (ops : List Value) (b : Bool) (chosen : Chosen)
      → Chooses files built_ins event w f site h results ops chosen
      → Chooses files built_ins event w f site h results ops (if_implements b chosen)
  implements_chosen results ops true chosen c = c
  implements_chosen results ops false chosen c = tt

  pub interface_typed : (index count last : ℕ) (named method : Member) → site.instr ≡ InvokeInterface index count last
      → interface_method_at site.body.pool index ≡ Some named → find_interface_method files named ≡ Some method
      → is_one is_instance_one files method ≡ true → Done (interface_call values files site named.class method)
  interface_typed index count last named method i e found instance a may =
      let m = interface_call values files site named.class method in
      let ops = ops_of values m f.place.slots in
      let sized = sized_as files built_ins event w f site h (InvokeInterface index count last) i in
      let callable = h.linked.callable_interface site.method site.body site.offset h.size index count last named h.is_body h.starts sized e in
      let interface = h.linked.calls_interface site.method site.body site.offset h.size index count last named h.is_body h.starts sized e in
      let g = given files (types_of w.heap) method (of_class files named.class) ops (popped_here files event.thread w f site h m a) in
      call_typed files built_ins event w f site h method (of_class files named.class ∷ []) (leads_after files site method) (λ world r. if_implements (is_subtype files (type_of (object_at world r)) (ClassType named.class)) (selected files (its_class world r) method)) (result_types files method)
      (λ r at.
      let receiver = subst (λ v. is_value_below files (types_of w.heap) (made_type files (ClassType named.class)) v ≡ true) at g.1 in
      implements_chosen (result_types files method) ops (is_subtype files (type_of (object_at w r)) (ClassType named.class)) (selected files (its_class w r) method)
      (selected_chosen files built_ins event w f site h (its_class w r) method ops r g.0 at (callable_found named method (interface_found_name files named method found) callable) instance
      (λ t is private. absurd (false≢true (sym (h.linked.interface_found_is_public named method t callable interface found is) ∙ private)))
      (own_class files built_ins event w f site h r (made_type files (ClassType named.class)) receiver)))
      (awaits_next files built_ins event w f site h m a (result_types files method) _ a.leads.0) may

  -- ---- invokespecial

  pub special_typed : (index : ℕ) (named method : Member) → site.instr ≡ Invoke invocation.Special index
      → method_at site.body.pool index ≡ Some named → name_eq named.name constructor_name ≡ false → find_method files named ≡ Some method
      → is_one is_instance_one files method ≡ true → Done (special_call values files site named.class method)
  special_typed index named method i e plain found instance a may =
      let m = special_call values files site named.class method in
      let ops = ops_of values m f.place.slots in
      let current = site.method.class in
      let sized = sized_as files built_ins event w f site h (Invoke invocation.Special index) i in
      let callable = h.linked.callable site.method site.body site.offset h.size invocation.Special index named h.is_body h.starts sized e in
      let class = h.linked.calls_class site.method site.body site.offset h.size invocation.Special index named h.is_body h.starts sized e in
      let up = h.linked.special site.method site.body site.offset h.size index named h.is_body h.starts sized e plain in
      let g = given files (types_of w.heap) method (of_class files current) ops (popped_here files event.thread w f site h m a) in
      call_typed files built_ins event w f site h method (of_class files current ∷ []) (leads_after files site method) (λ world r. selected files (special_class files current named.class) method) (result_types files method)
      (λ r at.
      let receiver = subst (λ v. is_value_below files (types_of w.heap) (made_type files (ClassType current)) v ≡ true) at g.1 in
      selected_chosen files built_ins event w f site h (special_class files current named.class) method ops r g.0 at (callable_found named method (found_name files named method found) callable) instance
      (λ t is private. goes_up files built_ins event w f site h current method.class r (named_below files h.linked current named.class method.class up class (h.linked.private_is_above named method t callable found is private)) receiver)
      (λ d q. goes_up files built_ins event w f site h current d r (special_below files h.linked current named.class d up class q) receiver))
      (awaits_next files built_ins event w f site h m a (result_types files method) _ a.leads.0) may

  -- a constructor is no initialiser of a class
  not_initialiser : (name : Name) → name_eq name constructor_name ≡ true → name_eq name initialiser_name ≡ false
  not_initialiser name e = subst (λ n. name_eq n initialiser_name ≡ false) (sym (names_same name constructor_name e)) refl

  pub constructor_typed : (method : Member) → name_eq method.name constructor_name ≡ true → is_one is_instance_one files method ≡ true
      → Done (constructor_call values files site method)
  constructor_typed method name instance a may =
      let os = types_of w.heap in
      let m = constructor_call values files site method in
      let ops = ops_of values m f.place.slots in
      let ts = h.ready.stopped.stands.type.slots in
      let one = one_of is_instance_one (method_of files method) instance in
      let g = given files os method (AReceiver method.class) ops (popped_here files event.thread w f site h m a) in
      let of = slice_index_or (operands over_types m.wants ts) (parameter_count method) NullType in
      let made = λ (types : List VerificationType) (vs : List Value) (q : are_typed files os types vs ≡ true). of_pairs (has_type files os) (map (initialised of) types) vs (pair_map_left (has_type files os) (initialised of) (λ s v p. initialised_typed files h.linked.rooted os of s v p) types vs (pairs_of (has_type files os) types vs q)) in
      call_typed files built_ins event w f site h method (AReceiver method.class ∷ []) (constructed_leads site method) (λ world r. Runs method) []
      (λ r at. (
        instance_runnable files os method method ops one.tree r refl one.is (h.linked.constructor_is_concrete method one.tree one.is name) (not_static files method one.tree one.is one.passes) (not_initialiser method.name name) g.0 at (subst (λ v. is_value_below files os (ClassType method.class) v ≡ true) at g.1),
        ap (map (verification_type files)) (h.linked.constructor_returns_nothing method one.tree one.is name),
      ))
      (awaits_here files event.thread w f site h [] (map (initialised of) ts.locals) (map (initialised of) (under m.wants ts)) _ (under m.wants f.place.slots) (made ts.locals f.place.slots.locals h.ready.stopped.locals) (made (under m.wants ts) (under m.wants f.place.slots) (under_here files event.thread w f site h m a)) a.leads.0) may
