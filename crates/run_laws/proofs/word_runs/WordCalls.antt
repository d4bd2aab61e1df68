-- Calls and returns by their words.
use Rattle.std.proofs.Common.{◌≡◌, ℕ, ◌-◌, List, [], ◌∷◌, ◌++◌, map, length, replicate, reverse, Bool, true, false, if◌then◌else◌, Option, Some, None, refl, sym, ap, ◌∙◌, subst}
use Rattle.std.specs.Prelude.{slice_get, unwrap_or}
use Rattle.std.specs.Option.{option_or, option_map_or}
use Rattle.std.proofs.lemmas.List.{length-reverse, map-append, length-map}
use Rattle.model.specs.declared.event.Event.{Event}
use Rattle.model.specs.declared.value.Value.{Value}
use Rattle.model.specs.declared.value.Value.TheVariants as value
use Rattle.model.specs.declared.instr.Returned.{Returned}
use Rattle.model.specs.declared.instr.Returned.TheVariants as returned
use Rattle.model.specs.Names.{Name, Member}
use Rattle.model.specs.Tree.{MethodTree}
use Rattle.model.specs.AccessFlags.{is_static_method, is_private_method, is_abstract_method}
use Rattle.model.specs.Classes.{Program, Body, body_of}
use Rattle.model.specs.ReferenceTypes.{ReferenceType, ClassType, is_subtype}
use Rattle.model.specs.DescribedTypes.{declared_want, parameters_declared}
use Rattle.model.specs.Types.{VerificationType, Want, value_meets}
use Rattle.model.specs.Lookup.{method_of, where_so, in_class, first_found, method_in_class, select}
use Rattle.model.specs.Operands.{Slots, words, values, word_of}
use Rattle.model.specs.State.{types_of, type_of, World, WorldOf}
use Rattle.model.specs.Outcomes.{Calls, Returns}
use Rattle.model.specs.Opening.{class_reference}
use Rattle.model.specs.Worlds.{object_at, class_of_object}
use Rattle.model.specs.Frames.{locals_with, frame_with, entered_by}
use Rattle.model.specs.Sites.{Site, referent}
use Rattle.model.specs.BuiltInMethods.{built_in_method}
use Rattle.model.specs.Calls.{parameter_count, argument_wants, Chosen, Fails, Runs, is_one, if_concrete, selected, of_receiver, runs, invoked, may_run, may_invoke, call_on, of_class, of_named, leads_after, static_call, virtual_call, if_implements, interface_call, special_class, special_call, constructed_leads, constructor_call, value_return, return_of}
use Rattle.model.specs.Step.{ops_of}
use Rattle.model.specs.Words.{map_slots, map_frame}
use Rattle.run_laws.specs.word_runs.Words.{map_outcome}
use Rattle.run_laws.proofs.laws.Lists.{Pairwise, get_last}
use Rattle.run_laws.proofs.laws.WordLists.{map_copies, map_reversed, is_object_want}
use Rattle.run_laws.proofs.word_runs.WordWorlds.{world_words, object_at_words, class_words, type_words, KeepsTexts}
use Rattle.run_laws.proofs.word_runs.WordMeanings.{operand_words, referent_words, Same}
use Rattle.run_laws.proofs.word_runs.WordBuiltIns.{wants_on, Agrees, agrees_on, agrees_alone, may_words, does_words}

-- ---- new frames

locals_words : (max : ℕ) (arguments : List Value)
    → locals_with 0 max (map word_of arguments) ≡ map word_of (locals_with value.Unset max arguments)
locals_words max arguments =
    ap (λ n. map word_of arguments ++ replicate (max - n) 0) (length-map arguments word_of)
    ∙ (ap (λ l. map word_of arguments ++ l) (map_copies word_of (max - length arguments) value.Unset) ∙ sym (map-append word_of arguments (replicate (max - length arguments) value.Unset)))

pub frame_words : (method : Member) (arguments : List Value) (entered : Option ℕ) (body : Body)
    → frame_with words method (map word_of arguments) entered body ≡ map_frame word_of (frame_with values method arguments entered body)
frame_words method arguments entered body =
    ap (λ l. record { method = method; place = record { offset = 0; slots = record { locals = l; stack = [] } }; entered = entered }) (locals_words body.code.max_locals arguments)

-- ---- what is chosen

-- of the method of the machine that runs, if one does, the operands are as they should be
abbrev ChosenAgrees : List Value → Chosen → Type 0
ChosenAgrees ops (Fails fault) = Unit {0}
ChosenAgrees ops (Runs method) = Agrees (built_in_method method) ops

-- the method that runs has the descriptor of the one that is named
abbrev Describes : Name → Chosen → Type 0
Describes descriptor (Fails fault) = Unit {0}
Describes descriptor (Runs method) = method.descriptor ≡ descriptor

module _ (files : Program) where
  chosen_agrees : (os : List ReferenceType) (descriptor : Name) (receiver : Want) (ops : List Value) (chosen : Chosen)
      → is_object_want receiver ≡ true → Pairwise (value_meets files os) (wants_on files descriptor receiver) ops
      → Describes descriptor chosen → ChosenAgrees ops chosen
  chosen_agrees os descriptor receiver ops (Fails fault) o q d = tt
  chosen_agrees os descriptor receiver ops (Runs method) o q d =
      agrees_on files os method receiver ops o (subst (λ n. Pairwise (value_meets files os) (wants_on files n receiver) ops) (sym d) q)

  module _ (site : Site) (event : Event) (world : World) (texts : KeepsTexts world) where
    run_words : (slots : Slots Value) (ops rest : List Value) (object : ℕ) (method : Member) (o : Option Body)
        → Agrees (built_in_method method) ops
        → runs words files site event (world_words world) (map_slots word_of slots) (map word_of ops) (map word_of rest) object method o
        ≡ map_outcome word_of (runs values files site event world slots ops rest object method o)
    run_words slots ops rest object method None a = does_words event world texts files site.next slots rest (built_in_method method) ops a
    run_words slots ops rest object method (Some body) a =
        ap (λ f. Calls f (map word_of rest)) (ap (λ l. frame_with words method l (entered_by files method object) body) (map_reversed word_of ops) ∙ frame_words method (reverse ops) (entered_by files method object) body)

    invoked_words : (slots : Slots Value) (ops rest : List Value) (object : ℕ) (chosen : Chosen) → ChosenAgrees ops chosen
        → invoked words files site event (world_words world) (map_slots word_of slots) (map word_of ops) (map word_of rest) object chosen
        ≡ map_outcome word_of (invoked values files site event world slots ops rest object chosen)
    invoked_words slots ops rest object (Fails fault) a = refl
    invoked_words slots ops rest object (Runs method) a = run_words slots ops rest object method (body_of files method) a

  may_run_words : (event : Event) (world : World) (ops : List Value) (method : Member) (o : Option Body)
      → Agrees (built_in_method method) ops → may_run words event (world_words world) (map word_of ops) method o
      ≡ may_run values event world ops method o
  may_run_words event world ops method None a = may_words event world (built_in_method method) ops a
  may_run_words event world ops method (Some body) a = refl

  may_invoke_words : (event : Event) (world : World) (ops : List Value) (chosen : Chosen) → ChosenAgrees ops chosen
      → may_invoke words files event (world_words world) (map word_of ops) chosen ≡ may_invoke values files event world ops chosen
  may_invoke_words event world ops (Fails fault) a = refl
  may_invoke_words event world ops (Runs method) a = may_run_words event world ops method (body_of files method) a

  -- ---- calls on a receiver

  chosen_words : (o : Option ℕ) (w v : ℕ → Chosen) → ((r : ℕ) → w r ≡ v r) → of_receiver o w ≡ of_receiver o v
  chosen_words None w v e = refl
  chosen_words (Some r) w v e = e r

  described_on : (d : Name) (o : Option ℕ) (v : ℕ → Chosen) → ((r : ℕ) → Describes d (v r)) → Describes d (of_receiver o v)
  described_on d None v c = tt
  described_on d (Some r) v c = c r

  module _ (site : Site) (method : Member) (receiver : Want) (leads : Slots VerificationType → List VerificationType → List VerificationType → List (ℕ × Slots VerificationType)) (w : WorldOf ℕ → ℕ → Chosen) (v : World → ℕ → Chosen)
      (object : is_object_want receiver ≡ true) (same : (world : World) (r : ℕ) → w (world_words world) r ≡ v world r) (describes : (world : World) (r : ℕ) → Describes method.descriptor (v world r)) where
    place_of : slice_get (argument_wants files method (receiver ∷ [])) (parameter_count method) ≡ Some receiver
    place_of =
        let wants = reverse (map (declared_want files) (parameters_declared method.descriptor)) in
        subst (λ n. slice_get (wants ++ receiver ∷ []) n ≡ Some receiver) (length-reverse (map (declared_want files) (parameters_declared method.descriptor)) ∙ length-map (parameters_declared method.descriptor) (declared_want files))
        (get_last wants receiver)

    receiver_words : (os : List ReferenceType) (ops : List Value)
        → Pairwise (value_meets files os) (argument_wants files method (receiver ∷ [])) ops
        → referent words (map word_of ops) (parameter_count method) ≡ referent values ops (parameter_count method)
    receiver_words os ops q = referent_words files os (argument_wants files method (receiver ∷ [])) ops (parameter_count method) receiver q place_of object

    choice_words : (world : World) (ops : List Value)
        → Pairwise (value_meets files (types_of world.heap)) (argument_wants files method (receiver ∷ [])) ops
        → of_receiver (referent words (map word_of ops) (parameter_count method)) (w (world_words world))
        ≡ of_receiver (referent values ops (parameter_count method)) (v world)
    choice_words world ops q =
        ap (λ o. of_receiver o (w (world_words world))) (receiver_words (types_of world.heap) ops q) ∙ chosen_words (referent values ops (parameter_count method)) (w (world_words world)) (v world) (same world)

    choice_agrees : (world : World) (ops : List Value)
        → Pairwise (value_meets files (types_of world.heap)) (argument_wants files method (receiver ∷ [])) ops
        → ChosenAgrees ops (of_receiver (referent values ops (parameter_count method)) (v world))
    choice_agrees world ops q =
        chosen_agrees (types_of world.heap) method.descriptor receiver ops (of_receiver (referent values ops (parameter_count method)) (v world)) object q
        (described_on method.descriptor (referent values ops (parameter_count method)) (v world) (describes world))

    call_same : Same files (call_on values files site method (receiver ∷ []) leads v) (call_on words files site method (receiver
        ∷ []) leads w)
    call_same =
        record {
          looks = refl;
          wants = refl;
          may = λ event world ops q.
              ap (λ c. may_invoke words files event (world_words world) (map word_of ops) c) (choice_words world ops q)
              ∙ may_invoke_words event world ops (of_receiver (referent values ops (parameter_count method)) (v world)) (choice_agrees world ops q);
          does = λ event world slots rest q texts.
              let ops = ops_of values (call_on values files site method (receiver ∷ []) leads v) slots in
              let chosen = of_receiver (referent values ops (parameter_count method)) (v world) in
              ap (λ o. invoked words files site event (world_words world) (map_slots word_of slots) (map word_of ops) (map word_of rest) (unwrap_or o 0) (of_receiver (referent words (map word_of ops) (parameter_count method)) (w (world_words world)))) (receiver_words (types_of world.heap) ops q)
              ∙ (ap (λ c. invoked words files site event (world_words world) (map_slots word_of slots) (map word_of ops) (map word_of rest) (unwrap_or (referent values ops (parameter_count method)) 0) c) (choice_words world ops q)
              ∙ invoked_words site event world texts slots ops rest (unwrap_or (referent values ops (parameter_count method)) 0) chosen (choice_agrees world ops q));
        }

  -- ---- which method is chosen

  abbrev Found : Name → Option Member → Type 0
  Found d None = Unit {0}
  Found d (Some m) = m.descriptor ≡ d

  found_where : (b : Bool) (m : Member) → Found m.descriptor (where_so b m)
  found_where true m = refl
  found_where false m = tt

  found_or : (d : Name) (o p : Option Member) → Found d o → Found d p → Found d (option_or o p)
  found_or d None p f g = g
  found_or d (Some m) p f g = f

  found_first : (wanted : MethodTree → Bool) (m : Member) (classes : List Name)
      → Found m.descriptor (first_found (method_in_class files wanted m) classes)
  found_first wanted m [] = tt
  found_first wanted m (c ∷ cs) =
      found_or m.descriptor (method_in_class files wanted m c) (first_found (method_in_class files wanted m) cs) (found_where (option_map_or wanted (method_of files (in_class c m)) false) (in_class c m)) (found_first wanted m cs)

  describes_if : (d : Name) (b : Bool) (x y : Chosen) → Describes d x → Describes d y → Describes d (if b then x else y)
  describes_if d true x y f g = f
  describes_if d false x y f g = g

  describes_concrete : (d : Name) (o : Option Member) → Found d o → Describes d (if_concrete files o)
  describes_concrete d None f = tt
  describes_concrete d (Some m) f = describes_if d (is_one is_abstract_method files m) (Fails _) (Runs m) tt f

  pub describes_selected : (class : Name) (m : Member) → Describes m.descriptor (selected files class m)
  describes_selected class m =
      describes_if m.descriptor (is_one is_private_method files m) (Runs m) (if_concrete files (select files class m)) refl (describes_concrete m.descriptor (select files class m) (found_first _ m _))

  pub describes_implements : (d : Name) (b : Bool) (c : Chosen) → Describes d c → Describes d (if_implements b c)
  describes_implements d true c f = f
  describes_implements d false c f = tt

  selected_words : (world : World) (r : ℕ) (m : Member)
      → selected files (class_of_object (object_at (world_words world) r)) m ≡ selected files (class_of_object (object_at world r)) m
  selected_words world r m = ap (λ c. selected files c m) (ap class_of_object (object_at_words world r) ∙ class_words (object_at world r))

  -- ---- the calls

  pub static_same : (site : Site) (method : Member) → is_one is_static_method files method ≡ true
      → Same files (static_call values files site method) (static_call words files site method)
  static_same site method static =
      record {
        looks = refl;
        wants = refl;
        may = λ event world ops q. may_invoke_words event world ops (Runs method) (agrees_alone files (types_of world.heap) method ops q);
        does = λ event world slots rest q texts.
            let ops = ops_of values (static_call values files site method) slots in
            invoked_words site event world texts slots ops rest (class_reference files method.class) (Runs method) (agrees_alone files (types_of world.heap) method ops q);
      }

  pub virtual_same : (site : Site) (named : Name) (method : Member)
      → Same files (virtual_call values files site named method) (virtual_call words files site named method)
  virtual_same site named method =
      call_same site method (of_named files named) (leads_after files site method) _ _ refl (λ world r. selected_words world r method) (λ world r. describes_selected (class_of_object (object_at world r)) method)

  pub interface_same : (site : Site) (named : Name) (method : Member)
      → Same files (interface_call values files site named method) (interface_call words files site named method)
  interface_same site named method =
      call_same site method (of_class files named) (leads_after files site method) _ _ refl
      (λ world r.
      ap (λ t. if_implements (is_subtype files t (ClassType named)) (selected files (class_of_object (object_at (world_words world) r)) method)) (ap type_of (object_at_words world r) ∙ type_words (object_at world r))
      ∙ ap (λ c. if_implements (is_subtype files (type_of (object_at world r)) (ClassType named)) c) (selected_words world r method))
      (λ world r. describes_implements method.descriptor (is_subtype files (type_of (object_at world r)) (ClassType named)) (selected files (class_of_object (object_at world r)) method) (describes_selected (class_of_object (object_at world r)) method))

  pub special_same : (site : Site) (named : Name) (method : Member)
      → Same files (special_call values files site named method) (special_call words files site named method)
  special_same site named method =
      call_same site method (of_class files site.method.class) (leads_after files site method) _ _ refl (λ world r. refl) (λ world r. describes_selected (special_class files site.method.class named) method)

  pub constructor_same : (site : Site) (method : Member)
      → Same files (constructor_call values files site method) (constructor_call words files site method)
  constructor_same site method = call_same site method _ (constructed_leads site method) _ _ refl (λ world r. refl) (λ world r. refl)

  -- ---- returns

  value_same : (allowed : Bool) (pops : List Want) → Same files (value_return values allowed pops) (value_return words allowed pops)
  value_same allowed pops =
      record {
        looks = refl;
        wants = refl;
        may = λ event world ops q. refl;
        does = λ event world slots rest q texts. ap (λ n. Returns (world_words world) (n ∷ [])) (operand_words (ops_of values (value_return values allowed pops) slots) 0);
      }

  pub return_same : (descriptor : Name) (kind : Returned)
      → Same files (return_of values files descriptor kind) (return_of words files descriptor kind)
  return_same descriptor returned.Nothing = record { looks = refl; wants = refl; may = λ event world ops q. refl; does = λ event world slots rest q texts. refl }
  return_same descriptor returned.Int = value_same _ _
  return_same descriptor returned.Reference = value_same _ _
