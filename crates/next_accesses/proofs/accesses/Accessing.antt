-- The access that is told is the one of the definitions.
use Rattle.std.proofs.Common.{◌≡◌, ℕ, List, [], ◌∷◌, Bool, true, false, Option, Some, None, if◌then◌else◌, map, refl, sym, ap, subst, ◌∙◌}
use Rattle.std.specs.Prelude.{IsTrue, is_some, slice_index_or, unwrap_or}
use Rattle.std.specs.Option.{option_map, option_map_or, option_and_then}
use Rattle.model.specs.declared.value.Value.{Value}
use Rattle.model.specs.declared.instr.ArrayKind.{ArrayKind}
use Rattle.model.specs.declared.instr.FieldAccess.{FieldAccess}
use Rattle.model.specs.declared.instr.FieldAccess.TheVariants as access
use Rattle.model.specs.declared.instr.Instr.{Instr}
use Rattle.model.specs.declared.instr.Instr.TheVariants as instr
use Rattle.model.specs.Names.{Member}
use Rattle.model.specs.Pool.{field_at}
use Rattle.model.specs.Classes.{Program}
use Rattle.model.specs.Lookup.{find_field}
use Rattle.model.specs.Operands.{values, word_reference}
use Rattle.model.specs.Sites.{Site, referent, int_operand}
use Rattle.race_places.specs.declared.run_actions.Action.{Action}
use Rattle.race_places.specs.declared.run_actions.Variable.TheVariants as variable
use Rattle.race_places.specs.named_actions.Names.{IsRight, named_action}
use Rattle.data_races.specs.Variables as named
use Rattle.data_races.specs.Variables.{declares_volatile}
use Rattle.data_races.specs.Actions as actions
use Rattle.data_races.specs.EventActions.{field_access, named_access, only_if, access_by}
use Rattle.std.specs.Option.{option_to_list}
use Rattle.field_names.specs.declared.named_fields.NamedField.{NamedField}
use Rattle.field_names.specs.named_fields.Fields.{IsField, IsFieldIf, member_at, names_of, no_member}
use Rattle.next_accesses.specs.read_operands.Reads.{ReadsAt}
use Rattle.next_accesses.specs.accesses.Accesses.{object_under, instance_of, static_of, element_of, read_of, write_of, access_action, field_action, IsFieldOf, IsRightIf, IsAccess, TellsAccess}

module _ (files : Program) (site : Site) (ops : List Value) (operands : List ℕ) where
  -- ---- fields

  module _ (member : Member) (field : NamedField) (is : IsField files member field) where
    name_is : (names_of files).field field.class field.field ≡ member
    name_is = ap (λ (o : Option Member). unwrap_or o no_member) is.at

    there : IsTrue ((names_of files).has_field field.class field.field)
    there = subst (λ (o : Option Member). IsTrue (is_some o)) (sym is.at) refl

    volatile_is : field.is_volatile ≡ declares_volatile files ((names_of files).field field.class field.field)
    volatile_is = is.is_volatile ∙ ap (declares_volatile files) (sym name_is)

    read_instance : (o : Option ℕ) → map (named_action (names_of files)) (option_to_list (read_of field.is_volatile (instance_of o field)))
        ≡ option_map_or (λ r. actions.Read (named.InstanceField r member) ∷ []) o []
    read_instance None = refl
    read_instance (Some r) = ap (λ (m : Member). actions.Read (named.InstanceField r m) ∷ []) name_is

    read_right : (o : Option ℕ) → IsRightIf files (read_of field.is_volatile (instance_of o field))
    read_right None = tt
    read_right (Some r) = (there, volatile_is)

    write_instance : (o : Option ℕ) → map (named_action (names_of files)) (option_to_list (write_of field.is_volatile (instance_of o field)))
        ≡ option_map_or (λ r. actions.Write (named.InstanceField r member) ∷ []) o []
    write_instance None = refl
    write_instance (Some r) = ap (λ (m : Member). actions.Write (named.InstanceField r m) ∷ []) name_is

    write_right : (o : Option ℕ) → IsRightIf files (write_of field.is_volatile (instance_of o field))
    write_right None = tt
    write_right (Some r) = (there, volatile_is)

    of_variable : (how : FieldAccess) (index : ℕ) → ReadsAt ops operands (instr.Field how index)
        → map (named_action (names_of files)) (option_to_list (access_action operands how field)) ≡ named_access ops how member
    of_variable access.GetStatic index r = ap (λ (m : Member). actions.Read (named.StaticField m) ∷ []) name_is
    of_variable access.PutStatic index r = ap (λ (m : Member). actions.Write (named.StaticField m) ∷ []) name_is
    of_variable access.GetField index r =
        read_instance (object_under operands 0) ∙ ap (λ (o : Option ℕ). option_map_or (λ x. actions.Read (named.InstanceField x member) ∷ []) o []) (sym r)
    of_variable access.PutField index r =
        write_instance (object_under operands 1) ∙ ap (λ (o : Option ℕ). option_map_or (λ x. actions.Write (named.InstanceField x member) ∷ []) o []) (sym r)

    right_variable : (how : FieldAccess) → IsRightIf files (access_action operands how field)
    right_variable access.GetStatic = (there, volatile_is)
    right_variable access.PutStatic = (there, volatile_is)
    right_variable access.GetField = read_right (object_under operands 0)
    right_variable access.PutField = write_right (object_under operands 1)

    -- by whether it is a variable
    abbrev if_variable : Bool → FieldAccess → Option Action
    if_variable b how = if b then access_action operands how field else None

    of_either : (b : Bool) (how : FieldAccess) (index : ℕ) → ReadsAt ops operands (instr.Field how index)
        → map (named_action (names_of files)) (option_to_list (if_variable b how)) ≡ only_if b (named_access ops how member)
    of_either true how index r = of_variable how index r
    of_either false how index r = refl

    of_field : (how : FieldAccess) (index : ℕ) → ReadsAt ops operands (instr.Field how index)
        → map (named_action (names_of files)) (option_to_list (field_action operands how field)) ≡ field_access ops how member
    of_field how index r = of_either field.is_variable how index r ∙ ap (λ b. only_if b (named_access ops how member)) is.is_variable

    right_either : (b : Bool) (how : FieldAccess) → IsRightIf files (if_variable b how)
    right_either true how = right_variable how
    right_either false how = tt

    right_field : (how : FieldAccess) → IsRightIf files (field_action operands how field)
    right_field how = right_either field.is_variable how

  by_found : (how : FieldAccess) (index : ℕ) (o : Option Member) (field : NamedField) → option_and_then (find_field files) (field_at site.body.pool index) ≡ o → IsFieldIf files o (Some field)
      → ReadsAt ops operands (instr.Field how index) → IsAccess files site ops (instr.Field how index) (field_action operands how field)
  by_found how index None field e is r = absurd is
  by_found how index (Some member) field e is r =
      record { are = of_field member field is how index r ∙ sym (ap (λ (o : Option Member). option_map_or (field_access ops how) o []) e); right = right_field member field is how }

  unfound : (how : FieldAccess) (index : ℕ) (o : Option Member) → option_and_then (find_field files) (field_at site.body.pool index) ≡ o → IsFieldIf files o None
      → IsAccess files site ops (instr.Field how index) None
  unfound how index None e is = record { are = sym (ap (λ (o : Option Member). option_map_or (field_access ops how) o []) e); right = tt }
  unfound how index (Some member) e is = absurd is

  -- ---- elements

  read_element : (o : Option ℕ) (index : ℕ) → map (named_action (names_of files)) (option_to_list (read_of false (option_map (λ r. variable.Element r index) o)))
      ≡ option_map_or (λ r. actions.Read (named.Element r index) ∷ []) o []
  read_element None index = refl
  read_element (Some r) index = refl

  write_element : (o : Option ℕ) (index : ℕ) → map (named_action (names_of files)) (option_to_list (write_of false (option_map (λ r. variable.Element r index) o)))
      ≡ option_map_or (λ r. actions.Write (named.Element r index) ∷ []) o []
  write_element None index = refl
  write_element (Some r) index = refl

  read_element_right : (o : Option ℕ) (index : ℕ) → IsRightIf files (read_of false (option_map (λ r. variable.Element r index) o))
  read_element_right None index = tt
  read_element_right (Some r) index = refl

  write_element_right : (o : Option ℕ) (index : ℕ) → IsRightIf files (write_of false (option_map (λ r. variable.Element r index) o))
  write_element_right None index = tt
  write_element_right (Some r) index = refl

  loaded : (kind : ArrayKind) → ReadsAt ops operands (instr.LoadElement kind) → IsAccess files site ops (instr.LoadElement kind) (read_of false (element_of operands 0))
  loaded kind r =
      let index = slice_index_or operands 0 0 in
      record {
        are = read_element (object_under operands 1) index
            ∙ ap (λ (o : Option ℕ). option_map_or (λ x. actions.Read (named.Element x index) ∷ []) o []) (sym r.0)
            ∙ ap (λ (n : ℕ). option_map_or (λ x. actions.Read (named.Element x n) ∷ []) (referent values ops 1) []) (sym r.1);
        right = read_element_right (object_under operands 1) index;
      }

  stored : (kind : ArrayKind) → ReadsAt ops operands (instr.StoreElement kind) → IsAccess files site ops (instr.StoreElement kind) (write_of false (element_of operands 1))
  stored kind r =
      let index = slice_index_or operands 1 0 in
      record {
        are = write_element (object_under operands 2) index
            ∙ ap (λ (o : Option ℕ). option_map_or (λ x. actions.Write (named.Element x index) ∷ []) o []) (sym r.0)
            ∙ ap (λ (n : ℕ). option_map_or (λ x. actions.Write (named.Element x n) ∷ []) (referent values ops 2) []) (sym r.1);
        right = write_element_right (object_under operands 2) index;
      }

  -- no other instruction does an access
  no_access : (i : Instr) → ((how : FieldAccess) (index : ℕ) → i ≡ instr.Field how index → ⊥) → ((kind : ArrayKind) → i ≡ instr.LoadElement kind → ⊥)
      → ((kind : ArrayKind) → i ≡ instr.StoreElement kind → ⊥) → IsAccess files site ops i None
  no_access (instr.Field how index) f l s = absurd (f how index refl)
  no_access (instr.LoadElement kind) f l s = absurd (l kind refl)
  no_access (instr.StoreElement kind) f l s = absurd (s kind refl)
  no_access _ f l s = record { are = refl; right = tt }

-- ---- what is told

module _ (operands : List ℕ) (i : Instr) where
  abbrev Tells : Option NamedField → Option Action → Type 0
  Tells field told = TellsAccess operands i field told

  pub field_told : (how : FieldAccess) (index : ℕ) → i ≡ instr.Field how index → (f : Option NamedField) (field : NamedField) → f ≡ Some field
      → (told : Option Action) → told ≡ field_action operands how field → Tells f told
  field_told how index e f field g told is =
      subst (λ (x : Instr). TellsAccess operands x f told) (sym e)
      (subst (λ (x : Option NamedField). TellsAccess operands (instr.Field how index) x told) (sym g)
      (subst (λ (x : Option Action). TellsAccess operands (instr.Field how index) (Some field) x) (sym is)
      (λ files site ops of r. by_found files site ops operands how index (option_and_then (find_field files) (field_at site.body.pool index)) field refl of r)))

  pub no_field : (how : FieldAccess) (index : ℕ) → i ≡ instr.Field how index → (f : Option NamedField) → f ≡ None → Tells f None
  no_field how index e f g =
      subst (λ (x : Instr). TellsAccess operands x f None) (sym e)
      (subst (λ (x : Option NamedField). TellsAccess operands (instr.Field how index) x None) (sym g)
      (λ files site ops of r. unfound files site ops operands how index (option_and_then (find_field files) (field_at site.body.pool index)) refl of))

  pub load_told : (kind : ArrayKind) → i ≡ instr.LoadElement kind → (f : Option NamedField) (told : Option Action) → told ≡ read_of false (element_of operands 0) → Tells f told
  load_told kind e f told is =
      subst (λ (x : Instr). TellsAccess operands x f told) (sym e)
      (subst (λ (x : Option Action). TellsAccess operands (instr.LoadElement kind) f x) (sym is) (λ files site ops of r. loaded files site ops operands kind r))

  pub store_told : (kind : ArrayKind) → i ≡ instr.StoreElement kind → (f : Option NamedField) (told : Option Action) → told ≡ write_of false (element_of operands 1) → Tells f told
  store_told kind e f told is =
      subst (λ (x : Instr). TellsAccess operands x f told) (sym e)
      (subst (λ (x : Option Action). TellsAccess operands (instr.StoreElement kind) f x) (sym is) (λ files site ops of r. stored files site ops operands kind r))

  pub none_told : (f : Option NamedField) → ((how : FieldAccess) (index : ℕ) → i ≡ instr.Field how index → ⊥) → ((kind : ArrayKind) → i ≡ instr.LoadElement kind → ⊥)
      → ((kind : ArrayKind) → i ≡ instr.StoreElement kind → ⊥) → Tells f None
  none_told f n l s files site ops of r = no_access files site ops operands i n l s
