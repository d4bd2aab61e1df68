-- Fields that are told, one behind the other.
use Rattle.std.proofs.Common.{◌≡◌, sym, ap, subst, ◌∙◌, List, [], ◌∷◌, ◌++◌, Bool, true, false, if◌then◌else◌, Option, Some, None}
use Rattle.std.specs.Prelude.{reverse}
use Rattle.std.specs.Option.{option_to_list}
use Rattle.std.specs.List.{filter, flat_map}
use Rattle.std.proofs.lemmas.List.{append-nil, append_assoc, reverse-append}
use Rattle.std.proofs.lemmas.List.Elements.{filter-append}
use Rattle.model.specs.Classes.{Program}
use Rattle.model.specs.Lookup.{own_instance_fields}
use Rattle.model.specs.Names.{Name, Member}
use Rattle.data_races.specs.EventActions.{is_variable}
use Rattle.field_names.specs.declared.named_fields.NamedField.{NamedField}
use Rattle.field_names.specs.instance_variables.Declared.{AreFields, kept_variable}
use Rattle.field_names.specs.named_fields.Fields.{IsField, IsFieldIf}

module _ (files : Program) where
  -- one more field
  fields_more : (fields : List Member) (told : List NamedField) (field : Member) (one : NamedField) → AreFields files fields told → IsField files field one
      → AreFields files (fields ++ field ∷ []) (told ++ one ∷ [])
  fields_more [] [] field one h is = (is, tt)
  fields_more [] (t ∷ ts) field one h is = absurd h
  fields_more (f ∷ fs) [] field one h is = absurd h
  fields_more (f ∷ fs) (t ∷ ts) field one h is = (h.0, fields_more fs ts field one h.1 is)

  field_pushed : (fields : List Member) (told new : List NamedField) (o : Option Member) (one : NamedField) → AreFields files fields told
      → IsFieldIf files o (Some one) → new ≡ told ++ one ∷ [] → AreFields files (fields ++ option_to_list o) new
  field_pushed fields told new None one h is e = absurd is
  field_pushed fields told new (Some field) one h is e = subst (AreFields files (fields ++ field ∷ [])) (sym e) (fields_more fields told field one h is)

  none_pushed : (fields : List Member) (told : List NamedField) (o : Option Member) → AreFields files fields told → IsFieldIf files o None
      → AreFields files (fields ++ option_to_list o) told
  none_pushed fields told None h is = subst (λ l. AreFields files l told) (sym (append-nil fields)) h
  none_pushed fields told (Some field) h is = absurd is

  -- a field, if there is one
  pub pushed : (fields : List Member) (told new : List NamedField) (o : Option Member) (one : Option NamedField) → AreFields files fields told
      → IsFieldIf files o one → new ≡ told ++ option_to_list one → AreFields files (fields ++ option_to_list o) new
  pushed fields told new o None h is e = subst (AreFields files (fields ++ option_to_list o)) (sym (e ∙ append-nil told)) (none_pushed fields told o h is)
  pushed fields told new o (Some one) h is e = field_pushed fields told new o one h is e

  -- a field is kept if it is a variable
  pub kept_so : (field : Member) (told : Option NamedField) → IsFieldIf files (Some field) told
      → IsFieldIf files (if is_variable field then Some field else None) (kept_variable told)
  kept_so field None is = absurd is
  kept_so field (Some one) is = by (is_variable field) one.is_variable is.is_variable
    where
      by : (b c : Bool) → c ≡ b → IsFieldIf files (if b then Some field else None) (if c then Some one else None)
      by true true e = is
      by false false e = tt
      by true false e = absurd cc
      by false true e = absurd cc

  -- ---- class by class, the one that is highest first

  -- what was told of some classes, and those that are left
  pub record AreToldTo (names : List Name) (told : List NamedField) (all : List Member) : Type 0 where
    pub done : List Member
    pub fields : AreFields files (filter is_variable done) told
    pub left : done ++ flat_map (own_instance_fields files) (reverse names) ≡ all

  pub none_told : (names : List Name) (all : List Member) → flat_map (own_instance_fields files) (reverse names) ≡ all → AreToldTo names [] all
  none_told names all e = record { done = []; fields = tt; left = e }

  pub class_told : (names left : List Name) (name : Name) (told new : List NamedField) (all : List Member) → names ≡ left ++ name ∷ [] → AreToldTo names told all
      → ((before : List Member) → AreFields files before told → AreFields files (before ++ filter is_variable (own_instance_fields files name)) new)
      → AreToldTo left new all
  class_told names left name told new all e h pushes =
      let own = own_instance_fields files name in
      record {
        done = h.done ++ own;
        fields = subst (λ l. AreFields files l new) (sym (filter-append is_variable h.done own)) (pushes (filter is_variable h.done) h.fields);
        left =
            append_assoc h.done own (flat_map (own_instance_fields files) (reverse left))
            ∙ (ap (λ l. h.done ++ flat_map (own_instance_fields files) l) (sym (ap reverse e ∙ reverse-append left (name ∷ []))) ∙ h.left);
      }

  pub all_told : (told : List NamedField) (all : List Member) → AreToldTo [] told all → AreFields files (filter is_variable all) told
  all_told told all h = subst (λ l. AreFields files (filter is_variable l) told) (sym (append-nil h.done) ∙ h.left) h.fields
