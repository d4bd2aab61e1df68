-- What an event accesses, of an instruction or of the method without code that it runs: it is enabled with pick 0, no monitor nor
-- thread is another after it, and in a later world it accesses the same.
use Rattle.std.proofs.Common.{◌≡◌, refl, sym, ◌∙◌, ap, subst, ℕ, ◌⊎◌, inl, inr, List, [], ◌∷◌, ◌++◌, map, drop, take, length}
use Rattle.std.specs.Prelude.{Option, Some, None, true, false, ◌==◌, ◌-◌, slice_index_or, unwrap_or, IsTrue}
use Rattle.std.specs.Option.{option_map_or, option_and_then}
use Rattle.std.specs.List.{filter}
use Rattle.std.proofs.lemmas.Option.{none-some}
use Rattle.model.specs.declared.builder_method.BuilderMethod.{BuilderMethod}
use Rattle.model.specs.declared.builder_method.BuilderMethod.TheVariants.{ConstructEmpty, ConstructOfString, AppendString, AppendInt, AppendChar, AppendBuilder, ToString}
use Rattle.model.specs.declared.text_method.TextMethod.{TextMethod}
use Rattle.model.specs.declared.text_method.TextMethod.TheVariants as text_method
use Rattle.model.specs.declared.event.Event.{Event}
use Rattle.model.specs.declared.value.Value.{Value}
use Rattle.model.specs.declared.value.Value.TheVariants as value
use Rattle.model.specs.BuiltIn.{built_in_classes}
use Rattle.model.specs.BuiltInMethods.{BuiltInMethod, ObjectClone, StringWrites, StringBuilderBuilds}
use Rattle.model.specs.Classes.{Program, body_of}
use Rattle.model.specs.Meanings.{meaning_of}
use Rattle.model.specs.Names.{Member, builder_text}
use Rattle.model.specs.Operands.{Slots, Wants, values, over_values, operands}
use Rattle.model.specs.Outcomes.{Cost, Goes}
use Rattle.model.specs.ReferenceTypes.{ReferenceType, ClassType, PrimitiveArray, ReferenceArray}
use Rattle.model.specs.Rows.{counting}
use Rattle.model.specs.Lookup.{instance_fields}
use Rattle.model.specs.Sites.{MeaningOf, Site, referent, int_operand, object_of}
use Rattle.model.specs.State.{type_of, types_of, World}
use Rattle.model.specs.Types.{value_meets}
use Rattle.model.specs.WellTyped.{Extends}
use Rattle.model.specs.Worlds.{no_object, object_at, elements_of}
use Rattle.run_laws.proofs.laws.Lists.{Pairwise}
use Rattle.run_laws.proofs.laws.Rows.{ready_popped}
use Rattle.run_laws.proofs.word_runs.WordMeanings.{Kinded}
use Rattle.data_races.specs.Actions.{Action, Read, Write}
use Rattle.data_races.specs.Variables.{Variable, InstanceField, Element, declares_volatile}
use Rattle.data_races.specs.EventActions.{Instruction, without_code, built_in_at, built_in_accesses, builder_accesses, string_accesses, copy_accesses, clone_accesses, elements_accessed, is_variable, text_access, access_by, accesses_at, operands_of, goes_on, found_on, interrupts_on}
use Rattle.data_races.proofs.Decided.{In, from_map}
use Rattle.data_races.proofs.BuilderCalls.{accessing_method, Builds}
use Rattle.run_laws.proofs.word_runs.WordBuiltIns.{receiver_place}
use Rattle.data_races.proofs.BuilderRuns.{accesses_by, type_in, place_is, receiver_there, does_build, does_is, may_is, builds_later}
use Rattle.race_laws.proofs.racy_states.Instructions.{accessing, runs_none}
use Rattle.race_laws.proofs.racy_states.Later.{KeepsArrays}
use Rattle.race_laws.proofs.racy_states.Methods.{method_grows, method_again, accesses_again}
use Rattle.race_laws.proofs.racy_states.Shapes.{IsGrown}

pub in_cases : {X : Type 0} (x : X) (xs ys : List X) → In x (xs ++ ys) → In x xs ⊎ In x ys
in_cases x [] ys h = inr h
in_cases x (y ∷ xs) ys h = elim h [ inl e ↦ inl (inl e) | inr t ↦ elim (in_cases x xs ys t) [ inl g ↦ inl (inr g) | inr g ↦ inr g ] ]

pub in_left : {X : Type 0} (x : X) (xs ys : List X) → In x xs → In x (xs ++ ys)
in_left x [] ys h = absurd h
in_left x (y ∷ xs) ys h = elim h [ inl e ↦ inl e | inr t ↦ inr (in_left x xs ys t) ]

pub in_right : {X : Type 0} (x : X) (xs ys : List X) → In x ys → In x (xs ++ ys)
in_right x [] ys h = h
in_right x (y ∷ xs) ys h = inr (in_right x xs ys h)

-- ---- operands that are found are as they are wanted

behind_reads : {A B : Type 0} (f : A → B) (rs : List A) (ys : List B) → drop (length rs) (map f rs ++ ys) ≡ ys
behind_reads f [] ys = refl
behind_reads f (r ∷ rs) ys = behind_reads f rs ys

pub kinded : (files : Program) (os : List ReferenceType) (w : Wants) (max : ℕ) (s : Slots Value) → values.finds files os w max s ≡ true
    → Kinded files os w (operands over_values w s)
kinded files os w max s e =
    subst (λ l. Pairwise (value_meets files os) w.pops l) (sym (behind_reads (λ r. slice_index_or s.locals r.0 value.Unset) w.reads (take (length w.pops) s.stack)))
    (ready_popped (value_meets files os) over_values w max s e)

-- ---- by either of them

module _ (files : Program) (instruction : Instruction) (a : Action) where
  abbrev site : Site
  site = instruction.site

  abbrev ops : List Value
  ops = operands_of instruction

  -- the instruction itself accesses a field or an element, or it runs a method that does
  pub data Access (world : World) : Type 0 where
    OfInstruction : In a (access_by files site ops site.instr) → Access world
    OfMethod : (b : BuiltInMethod) → Builds files site world ops b → In a (built_in_accesses files world ops b) → Access world

  pub access_is : (world : World) → In a (accesses_at files world instruction) → Access world
  access_is world h =
      elim (in_cases a (access_by files site ops site.instr) (option_map_or (built_in_accesses files world ops) (built_in_at files world instruction) []) h) [
        | inl g ↦ OfInstruction g
        | inr g ↦ let t = accesses_by files world ops a (built_in_at files world instruction) g in OfMethod t.method (record { runs = t.is; accesses = t.accessing }) t.accesses
      ]

  pub accesses_from : (world : World) → Access world → In a (accesses_at files world instruction)
  accesses_from world (OfInstruction g) = in_left a (access_by files site ops site.instr) (option_map_or (built_in_accesses files world ops) (built_in_at files world instruction) []) g
  accesses_from world (OfMethod b h g) =
      in_right a (access_by files site ops site.instr) (option_map_or (built_in_accesses files world ops) (built_in_at files world instruction) [])
      (subst (λ o. In a (option_map_or (built_in_accesses files world ops) o [])) (sym h.runs) g)

  -- neither finds a thread, nor interrupts one
  pub no_method : In a (access_by files site ops site.instr) → (world : World) → built_in_at files world instruction ≡ None
  no_method h world =
      ap (λ o. option_and_then (λ (method : Member). without_code method (body_of files method)) o) (runs_none files site a ops ops world h)

  pub finds_nothing : (world : World) → Access world → (t object : ℕ) → option_map_or (found_on world t object) (built_in_at files world instruction) [] ≡ []
  finds_nothing world (OfInstruction g) t object = ap (λ o. option_map_or (found_on world t object) o []) (no_method g world)
  finds_nothing world (OfMethod b h g) t object = ap (λ o. option_map_or (found_on world t object) o []) h.runs ∙ found_none b b h.accesses
    where
      found_none : (b m : BuiltInMethod) → accessing_method b ≡ Some m → found_on world t object b ≡ []
      found_none (StringBuilderBuilds method) m e = refl
      found_none (StringWrites method) m e = refl
      found_none ObjectClone m e = refl
      found_none _ m e = absurd (none-some m e)

  pub interrupts_nothing : (world : World) → Access world → (object : ℕ) → option_map_or (interrupts_on world object) (built_in_at files world instruction) [] ≡ []
  interrupts_nothing world (OfInstruction g) object = ap (λ o. option_map_or (interrupts_on world object) o []) (no_method g world)
  interrupts_nothing world (OfMethod b h g) object = ap (λ o. option_map_or (interrupts_on world object) o []) h.runs ∙ interrupted_none b b h.accesses
    where
      interrupted_none : (b m : BuiltInMethod) → accessing_method b ≡ Some m → interrupts_on world object b ≡ []
      interrupted_none (StringBuilderBuilds method) m e = refl
      interrupted_none (StringWrites method) m e = refl
      interrupted_none ObjectClone m e = refl
      interrupted_none _ m e = absurd (none-some m e)

  module _ (means : meaning_of values files site ≡ Some instruction.meaning) where
    abbrev meaning : MeaningOf Value
    meaning = instruction.meaning

    pub picks : (event : Event) (world : World) → Access world → meaning.may event world ops ≡ (event.pick == 0)
    picks event world (OfInstruction g) = (accessing files site meaning a ops g means).picks event world ops
    picks event world (OfMethod b h g) = let d = does_build files site meaning means world ops b h in may_is files site meaning d.call event world ops b d.called

    pub grows : (event : Event) (world : World) → Access world → (slots : Slots Value) (rest : List Value) (cost : Cost) (after : World) (left : Slots Value) (to : ℕ)
        → meaning.does event world slots ops rest ≡ Goes cost after left to → IsGrown world after
    grows event world (OfInstruction g) slots rest cost after left to e = (accessing files site meaning a ops g means).grows event world slots ops rest cost after left to e
    grows event world (OfMethod b h g) slots rest cost after left to e =
        let d = does_build files site meaning means world ops b h in
        method_grows files site.next slots ops rest event world b b h.accesses cost after left to (sym (does_is files site meaning d.call event world ops b d.called slots rest) ∙ e)

    -- the object of a clone is there, and of its type later
    object_kept : (world later : World) → Extends (types_of world.heap) (types_of later.heap) → Kinded files (types_of world.heap) meaning.wants ops
        → (b : BuiltInMethod) → Builds files site world ops b → b ≡ ObjectClone → (r : ℕ) → referent values ops 0 ≡ Some r
        → type_of (object_at later r) ≡ type_of (object_at world r)
    object_kept world later x k b h is r e =
        let d = does_build files site meaning means world ops b h in
        let place = place_is files site meaning d.call world ops b 0 (ap receiver_place is) d.called in
        let there = receiver_there files site meaning d.call (types_of world.heap) ops r k (ap (referent values ops) place ∙ e) in
        type_in later.heap r there.0 no_object (x.keeps r there.0 there.1) ∙ sym (type_in world.heap r there.0 no_object there.1)

    -- the object of a clone, which is not null
    clone_there : (world : World) (b : BuiltInMethod) → Builds files site world ops b → b ≡ ObjectClone → (r : ℕ) × (referent values ops 0 ≡ Some r)
    clone_there world b h is =
        let d = does_build files site meaning means world ops b h in
        let place = place_is files site meaning d.call world ops b 0 (ap receiver_place is) d.called in
        (d.called.object, ap (referent values ops) (sym place) ∙ d.called.on)

    pub later_is : (world later : World) → KeepsArrays files world later → Extends (types_of world.heap) (types_of later.heap) → Kinded files (types_of world.heap) meaning.wants ops
        → Access world → Access later
    later_is world later keeps x k (OfInstruction g) = OfInstruction g
    later_is world later keeps x k (OfMethod b h g) =
        OfMethod b (builds_later files site meaning means world later x ops b k h)
        (accesses_again files site.next instruction.slots ops [] world later keeps a b (λ is r e. object_kept world later x k b h is r e) g)

    pub again : (event : Event) (world later : World) → KeepsArrays files world later → Extends (types_of world.heap) (types_of later.heap)
        → Kinded files (types_of world.heap) meaning.wants ops → Access world → (slots : Slots Value) (rest : List Value)
        → IsTrue (goes_on (meaning.does event world slots ops rest)) → IsTrue (goes_on (meaning.does event later slots ops rest))
    again event world later keeps x k (OfInstruction g) slots rest h = (accessing files site meaning a ops g means).again event world later slots ops rest keeps h
    again event world later keeps x k (OfMethod b at g) slots rest h =
        let d = does_build files site meaning means world ops b at in
        let e = does_build files site meaning means later ops b (builds_later files site meaning means world later x ops b k at) in
        let here = subst (λ o. IsTrue (goes_on o)) (does_is files site meaning d.call event world ops b d.called slots rest) h in
        subst (λ o. IsTrue (goes_on o)) (sym (does_is files site meaning e.call event later ops b e.called slots rest))
        (method_again files site.next slots ops rest world later keeps a event b b at.accesses (λ is. type is) g here)
      where
        type : b ≡ ObjectClone → type_of (object_at later (object_of values ops 0)) ≡ type_of (object_at world (object_of values ops 0))
        type is =
            let r = clone_there world b at is in
            subst (λ n. type_of (object_at later n) ≡ type_of (object_at world n)) (sym (ap (λ o. unwrap_or o 0) r.1)) (object_kept world later x k b at is r.0 r.1)

-- ---- the text of a StringBuilder is not volatile

pub text_is_plain : (files : Program) → declares_volatile files builder_text ≡ false
unfolding built_in_classes
text_is_plain files = refl

-- an access of it
pub data IsOfText (c : Action) : Type 0 where
  ReadsText : (r : ℕ) → c ≡ Read (InstanceField r builder_text) → IsOfText c
  WritesText : (r : ℕ) → c ≡ Write (InstanceField r builder_text) → IsOfText c

module _ (ops : List Value) (c : Action) where
  of_text : (k : ℕ) (make : Variable → Action) → ((r : ℕ) → c ≡ make (InstanceField r builder_text) → IsOfText c) → In c (text_access ops k make) → IsOfText c
  of_text k make each h = by (referent values ops k) h
    where
      by : (o : Option ℕ) → In c (option_map_or (λ r. make (InstanceField r builder_text) ∷ []) o []) → IsOfText c
      by None g = absurd g
      by (Some r) g = elim g [ inl e ↦ each r e | inr t ↦ absurd t ]

  reads : (k : ℕ) → In c (text_access ops k Read) → IsOfText c
  reads k h = of_text k Read ReadsText h

  writes : (k : ℕ) → In c (text_access ops k Write) → IsOfText c
  writes k h = of_text k Write WritesText h

  appends : In c (text_access ops 1 Read ++ text_access ops 1 Write) → IsOfText c
  appends h = elim (in_cases c (text_access ops 1 Read) (text_access ops 1 Write) h) [ inl g ↦ reads 1 g | inr g ↦ writes 1 g ]

  appends_one : In c (text_access ops 1 Read ++ text_access ops 0 Read ++ text_access ops 1 Write) → IsOfText c
  appends_one h =
      elim (in_cases c (text_access ops 1 Read ++ text_access ops 0 Read) (text_access ops 1 Write) h) [
        | inl g ↦ elim (in_cases c (text_access ops 1 Read) (text_access ops 0 Read) g) [ inl f ↦ reads 1 f | inr f ↦ reads 0 f ]
        | inr g ↦ writes 1 g
      ]

  pub is_of_text : (b : BuilderMethod) → In c (builder_accesses ops b) → IsOfText c
  is_of_text ConstructEmpty h = writes 0 h
  is_of_text ConstructOfString h = writes 1 h
  is_of_text AppendString h = appends h
  is_of_text AppendInt h = appends h
  is_of_text AppendChar h = appends h
  is_of_text AppendBuilder h = appends_one h
  is_of_text ToString h = reads 0 h

-- ---- an access of a method leaves nothing that a later one could find: none writes a volatile variable

pub data IsPlainAccess (files : Program) (c : Action) : Type 0 where
  OfBuilder : IsOfText c → IsPlainAccess files c
  IsRead : (variable : Variable) → c ≡ Read variable → IsPlainAccess files c
  WritesElement : (array index : ℕ) → c ≡ Write (Element array index) → IsPlainAccess files c

module _ (files : Program) (world : World) (ops : List Value) (c : Action) where
  of_elements : (make : Variable → Action) (o : Option ℕ) (index count : ℕ) → ((array k : ℕ) → c ≡ make (Element array k) → IsPlainAccess files c)
      → In c (option_map_or (λ array. elements_accessed make array index count) o []) → IsPlainAccess files c
  of_elements make None index count each h = absurd h
  of_elements make (Some array) index count each h =
      let g = from_map (λ k. make (Element array k)) c (counting index count) h in each array g.0 (sym g.2)

  of_string : (method : TextMethod) → In c (string_accesses ops method) → IsPlainAccess files c
  of_string text_method.ConstructEmpty h = absurd h
  of_string text_method.ConstructOfString h = absurd h
  of_string text_method.ConstructOfChars h =
      of_elements (λ v. Read v) (referent values ops 2) (int_operand values ops 1) (int_operand values ops 0) (λ array k e. IsRead (Element array k) e) h
  of_string text_method.GetChars h =
      of_elements (λ v. Write v) (referent values ops 1) (int_operand values ops 0) (int_operand values ops 2 - int_operand values ops 3) (λ array k e. WritesElement array k e) h
  of_string text_method.Intern h = absurd h

  of_copy : (r : ℕ) (t : ReferenceType) (count : ℕ) → In c (copy_accesses files r t count) → IsPlainAccess files c
  of_copy r (ClassType class) count h =
      let g = from_map (λ field. Read (InstanceField r field)) c (filter is_variable (instance_fields files class)) h in IsRead (InstanceField r g.0) (sym g.2)
  of_copy r (PrimitiveArray of) count h = let g = from_map (λ k. Read (Element r k)) c (counting 0 count) h in IsRead (Element r g.0) (sym g.2)
  of_copy r (ReferenceArray of) count h = let g = from_map (λ k. Read (Element r k)) c (counting 0 count) h in IsRead (Element r g.0) (sym g.2)

  of_clone : (o : Option ℕ) → In c (option_map_or (clone_accesses files world) o []) → IsPlainAccess files c
  of_clone None h = absurd h
  of_clone (Some r) h = of_copy r (type_of (object_at world r)) (length (elements_of (object_at world r))) h

  pub is_plain_access : (b : BuiltInMethod) → In c (built_in_accesses files world ops b) → IsPlainAccess files c
  is_plain_access (StringBuilderBuilds method) h = OfBuilder (is_of_text ops c method h)
  is_plain_access (StringWrites method) h = of_string method h
  is_plain_access ObjectClone h = of_clone (referent values ops 0) h
  is_plain_access _ h = absurd h
