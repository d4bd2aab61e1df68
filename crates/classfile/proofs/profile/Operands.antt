-- What the operands of instructions name, and what the rows of a table say of it.
use Rattle.std.proofs.Common.{◌≡◌, ℕ, List, [], ◌∷◌, get_or, Option, Some, None, Bool, true, false, ◌&&◌, not, refl, sym, ap, subst, ◌∙◌}
use Rattle.std.specs.Prelude.{is_some, option_map}
use Rattle.std.specs.List.{list_any}
use Rattle.std.specs.Option.{option_map_or}
use mathlib.Core.Bool.{or-false, and-true}
use Rattle.std.proofs.Math.ListN.{get_or-map}
use Rattle.model.specs.Names.{Name, Member, member_eq, java_lang_object, object_clone}
use Rattle.model.specs.Lookup.{in_class}
use Rattle.model.specs.Tree.{Entry, Utf8, Integer, Float, Long, Double, Class, String, Field, Method, InterfaceMethod, NameAndType, Unusable}
use Rattle.model.specs.Spelling.{entry_at, text_of}
use Rattle.model.specs.Conditions.{text_at, class_text}
use Rattle.model.specs.DescriptorScan.{element_at, field_at as scanned_at, field_type, method_type}
use Rattle.model.specs.Pool as pools
use Rattle.model.specs.Pool.{utf8_of, class_name_of, class_name_at, name_and_type_of, name_and_descriptor, reference, field_of_entry, method_of_entry, interface_method_of_entry, method_at, interface_method_at}
use Rattle.model.specs.CodeParts.{descriptors_of}
use Rattle.model.specs.Profile.{has_left_out_type, is_array_clone}
use Rattle.classfile.specs.declared.profile.described.Described.{Described}
use Rattle.classfile.specs.profile.Descriptions.{nothing, described, rows_of, descriptor_text, text_of_reference, member_text}

-- ---- rows

-- what no text says
pub nothing_described : described [] ≡ nothing
unfolding element_at scanned_at field_type method_type
nothing_described = refl

-- what the row of an index says
pub row_said : (pool : List Entry) (rows : List Described) (index : ℕ) → rows ≡ rows_of pool
    → get_or rows index nothing ≡ described (text_at pool index)
row_said pool rows index are =
    ap (λ (rs : List Described). get_or rs index nothing) are
    ∙ ap (λ (d : Described). get_or (rows_of pool) index d) (sym nothing_described)
    ∙ get_or-map (λ (e : Entry). described (text_of e)) (Unusable ∷ pool) index Unusable

-- ---- the descriptor of a member

name_text : (class : Name) (n : Option Name) (e : Entry) (m : Member) → reference (Some class) (name_and_descriptor n (utf8_of e)) ≡ Some m
    → m.descriptor ≡ text_of e
name_text owner None e m h = absurd cc
name_text owner (Some name) (Utf8 text) m h = sym (ap (λ (q : Option Member). option_map_or (λ (r : Member). r.descriptor) q []) h)
name_text owner (Some name) (Integer bits) m h = absurd cc
name_text owner (Some name) (Float bits) m h = absurd cc
name_text owner (Some name) (Long bits) m h = absurd cc
name_text owner (Some name) (Double bits) m h = absurd cc
name_text owner (Some name) (Class n) m h = absurd cc
name_text owner (Some name) (String n) m h = absurd cc
name_text owner (Some name) (Field class nat) m h = absurd cc
name_text owner (Some name) (Method class nat) m h = absurd cc
name_text owner (Some name) (InterfaceMethod class nat) m h = absurd cc
name_text owner (Some name) (NameAndType n d) m h = absurd cc
name_text owner (Some name) Unusable m h = absurd cc

member_of : (pool : List Entry) (class : Option Name) (e : Entry) (m : Member) → reference class (name_and_type_of pool e) ≡ Some m
    → m.descriptor ≡ descriptor_text pool e
member_of pool None e m h = absurd cc
member_of pool (Some owner) (Utf8 text) m h = absurd cc
member_of pool (Some owner) (Integer bits) m h = absurd cc
member_of pool (Some owner) (Float bits) m h = absurd cc
member_of pool (Some owner) (Long bits) m h = absurd cc
member_of pool (Some owner) (Double bits) m h = absurd cc
member_of pool (Some owner) (Class n) m h = absurd cc
member_of pool (Some owner) (String n) m h = absurd cc
member_of pool (Some owner) (Field class nat) m h = absurd cc
member_of pool (Some owner) (Method class nat) m h = absurd cc
member_of pool (Some owner) (InterfaceMethod class nat) m h = absurd cc
member_of pool (Some owner) (NameAndType n d) m h = name_text owner (pools.utf8_at pool n) (entry_at pool d) m h
member_of pool (Some owner) Unusable m h = absurd cc

field_entry : (pool : List Entry) (e : Entry) (m : Member) → field_of_entry pool e ≡ Some m → m.descriptor ≡ text_of_reference pool e
field_entry pool (Utf8 text) m h = absurd cc
field_entry pool (Integer bits) m h = absurd cc
field_entry pool (Float bits) m h = absurd cc
field_entry pool (Long bits) m h = absurd cc
field_entry pool (Double bits) m h = absurd cc
field_entry pool (Class n) m h = absurd cc
field_entry pool (String n) m h = absurd cc
field_entry pool (Field class nat) m h = member_of pool (class_name_at pool class) (entry_at pool nat) m h
field_entry pool (Method class nat) m h = absurd cc
field_entry pool (InterfaceMethod class nat) m h = absurd cc
field_entry pool (NameAndType n d) m h = absurd cc
field_entry pool Unusable m h = absurd cc

method_entry : (pool : List Entry) (e : Entry) (m : Member) → method_of_entry pool e ≡ Some m → m.descriptor ≡ text_of_reference pool e
method_entry pool (Utf8 text) m h = absurd cc
method_entry pool (Integer bits) m h = absurd cc
method_entry pool (Float bits) m h = absurd cc
method_entry pool (Long bits) m h = absurd cc
method_entry pool (Double bits) m h = absurd cc
method_entry pool (Class n) m h = absurd cc
method_entry pool (String n) m h = absurd cc
method_entry pool (Field class nat) m h = absurd cc
method_entry pool (Method class nat) m h = member_of pool (class_name_at pool class) (entry_at pool nat) m h
method_entry pool (InterfaceMethod class nat) m h = absurd cc
method_entry pool (NameAndType n d) m h = absurd cc
method_entry pool Unusable m h = absurd cc

interface_entry : (pool : List Entry) (e : Entry) (m : Member) → interface_method_of_entry pool e ≡ Some m
    → m.descriptor ≡ text_of_reference pool e
interface_entry pool (Utf8 text) m h = absurd cc
interface_entry pool (Integer bits) m h = absurd cc
interface_entry pool (Float bits) m h = absurd cc
interface_entry pool (Long bits) m h = absurd cc
interface_entry pool (Double bits) m h = absurd cc
interface_entry pool (Class n) m h = absurd cc
interface_entry pool (String n) m h = absurd cc
interface_entry pool (Field class nat) m h = absurd cc
interface_entry pool (Method class nat) m h = absurd cc
interface_entry pool (InterfaceMethod class nat) m h = member_of pool (class_name_at pool class) (entry_at pool nat) m h
interface_entry pool (NameAndType n d) m h = absurd cc
interface_entry pool Unusable m h = absurd cc

-- what is said of the descriptor of a member that is there
tells : (p : Name → Bool) (o : Option Member) (text : Name) → ((m : Member) → o ≡ Some m → m.descriptor ≡ text)
    → (is_some o && p text) ≡ option_map_or (λ (m : Member). p m.descriptor) o false
tells p None text h = refl
tells p (Some m) text h = ap p (sym (h m refl))

any_told : (p : Name → Bool) (o : Option Member) → option_map_or (λ (m : Member). p m.descriptor) o false ≡ list_any p (descriptors_of o)
any_told p None = refl
any_told p (Some m) = sym (or-false (p m.descriptor))

module _ (p : Name → Bool) (pool : List Entry) (index : ℕ) where
  pub field_told : (is_some (pools.field_at pool index) && p (member_text pool index))
      ≡ list_any p (descriptors_of (pools.field_at pool index))
  field_told = tells p (pools.field_at pool index) (member_text pool index) (field_entry pool (entry_at pool index)) ∙ any_told p (pools.field_at pool index)

  pub method_told : (is_some (method_at pool index) && p (member_text pool index)) ≡ list_any p (descriptors_of (method_at pool index))
  method_told = tells p (method_at pool index) (member_text pool index) (method_entry pool (entry_at pool index)) ∙ any_told p (method_at pool index)

  pub interface_said : (is_some (interface_method_at pool index) && p (member_text pool index))
      ≡ option_map_or (λ (m : Member). p m.descriptor) (interface_method_at pool index) false
  interface_said = tells p (interface_method_at pool index) (member_text pool index) (interface_entry pool (entry_at pool index))

  pub interface_told : (is_some (interface_method_at pool index) && p (member_text pool index))
      ≡ list_any p (descriptors_of (interface_method_at pool index))
  interface_told = interface_said ∙ any_told p (interface_method_at pool index)

module _ (p : Name → Bool) (pool : List Entry) (index : ℕ) where
  pub field_there : is_some (pools.field_at pool index) ≡ true
      → p (member_text pool index) ≡ list_any p (descriptors_of (pools.field_at pool index))
  field_there h = subst (λ (b : Bool). (b && p (member_text pool index)) ≡ list_any p (descriptors_of (pools.field_at pool index))) h (field_told p pool index)

  pub method_there : is_some (method_at pool index) ≡ true → p (member_text pool index) ≡ list_any p (descriptors_of (method_at pool index))
  method_there h = subst (λ (b : Bool). (b && p (member_text pool index)) ≡ list_any p (descriptors_of (method_at pool index))) h (method_told p pool index)

  pub interface_there : is_some (interface_method_at pool index) ≡ true
      → p (member_text pool index) ≡ list_any p (descriptors_of (interface_method_at pool index))
  interface_there h = subst (λ (b : Bool). (b && p (member_text pool index)) ≡ list_any p (descriptors_of (interface_method_at pool index))) h (interface_told p pool index)

-- ---- clone of an array

text_is : (e : Entry) (t : Name) → utf8_of e ≡ Some t → text_of e ≡ t
text_is (Utf8 text) t h = cc
text_is e t h = absurd cc

class_is : (pool : List Entry) (e : Entry) (name : Name) → class_name_of pool e ≡ Some name → class_text pool e ≡ name
class_is pool (Class n) name h = text_is (entry_at pool n) name h
class_is pool e name h = absurd cc

named_class : (class : Option Name) (member : Option pools.NameAndDescriptor) (m : Member) → reference class member ≡ Some m
    → class ≡ Some m.class
named_class None member m h = absurd cc
named_class (Some class) None m h = absurd cc
named_class (Some class) (Some member) m h = ap (option_map (λ (r : Member). r.class)) h

-- the text of the class that a Methodref names
called_class : (pool : List Entry) (index class member : ℕ) (m : Member) → entry_at pool index ≡ Method class member
    → method_at pool index ≡ Some m → class_text pool (entry_at pool class) ≡ m.class
called_class pool index class member m at named =
    class_is pool (entry_at pool class) m.class
    (named_class (class_name_at pool class) (pools.name_and_type_at pool member) m (sym (ap (method_of_entry pool) at) ∙ named))

-- what is said of a Methodref of clone
pub clone_told : (pool : List Entry) (index class member : ℕ) (m : Member) → entry_at pool index ≡ Method class member
    → method_at pool index ≡ Some m → member_eq (in_class java_lang_object m) object_clone ≡ true
    → not (has_left_out_type (class_text pool (entry_at pool class))) ≡ option_map_or is_array_clone (method_at pool index) false
clone_told pool index class member m at named is =
    ap (λ (text : Name). not (has_left_out_type text)) (called_class pool index class member m at named)
    ∙ sym (and-true (not (has_left_out_type m.class)))
    ∙ ap (λ (b : Bool). not (has_left_out_type m.class) && b) (sym is)
    ∙ ap (λ (o : Option Member). option_map_or is_array_clone o false) (sym named)
