-- What an instruction asks for, by what its operand names.
use Rattle.std.proofs.Common.{◌≡◌, ℕ, List, [], ◌∷◌, ◌++◌, Option, Some, None, Bool, true, false, ◌&&◌, ◌||◌, refl, sym, ap, ◌∙◌}
use Rattle.std.specs.Prelude.{is_some}
use Rattle.std.specs.List.{list_any, flat_map}
use Rattle.std.specs.Option.{option_and_then, option_map_or, option_to_list, is_none}
use Rattle.std.proofs.lemmas.List.{append-nil}
use mathlib.Core.Bool.{or-false, or-true, or_comm}
use Rattle.model.specs.declared.instr.Instr.TheVariants as instrs
use Rattle.model.specs.declared.instr.FieldAccess.{FieldAccess}
use Rattle.model.specs.declared.instr.FieldAccess.TheVariants as access
use Rattle.model.specs.declared.instr.Invocation.{Invocation}
use Rattle.model.specs.declared.instr.Invocation.TheVariants as invocation
use Rattle.model.specs.Names.{Name, Member}
use Rattle.model.specs.HiddenMembers.{is_hidden, is_hidden_method}
use Rattle.model.specs.Tree.{FieldTree, MethodTree, FileTree}
use Rattle.model.specs.Pool.{class_name_at, field_at, method_at, interface_method_at}
use Rattle.model.specs.AccessFlags.{is_interface_class, is_static_field, is_static_method}
use Rattle.model.specs.Classes.{Program, class_of, is_interface}
use Rattle.model.specs.Lookup.{field_of, method_of, find_field, find_interface_method}
use Rattle.model.specs.DescriptorParts.{classes_in, classes_named}
use Rattle.model.specs.Resolution.{is_missing, member_classes, called_classes, is_uninstantiable, differs, is_system_stream, found_in_class, unresolved_instruction}
use Rattle.link_conditions.specs.resolution.Operands.{fails_access, fails_call}

-- the class of a member is not found, or one of its descriptor
abbrev pub member_lacks_class : Program → Member → Bool
member_lacks_class files m = list_any (is_missing files) (m.class ∷ classes_in m.descriptor)

-- the field that is named is not found, or not as is wanted
abbrev pub field_fails : Program → FieldAccess → Member → Bool
field_fails files how m = member_lacks_class files m || option_map_or (fails_access files how) (find_field files m) true

-- the same of a method, whose class may be an array class
abbrev pub called_lacks_class : Program → Member → Bool
called_lacks_class files m = list_any (is_missing files) (called_classes (Some m))

-- the method that is named is not found, or not as is wanted: by kind, and in an interface or a class
abbrev pub call_fails : Program → Bool → (Member → Option Member) → Bool → Bool → Member → Bool
call_fails files lacks found wants_static wants_interface m =
    lacks
    || (differs wants_interface (is_interface files m.class)
    || option_map_or (fails_call files wants_static) (found m) true)

-- ---- classes

module _ (files : Program) (file : FileTree) (k : ℕ) where
  abbrev needs : Option Name → Bool
  needs o = list_any (is_missing files) (flat_map classes_named (option_to_list o))

  pub class_asked : unresolved_instruction files file (instrs.CheckCast k) ≡ needs (class_name_at file.pool k)
  class_asked = ap (λ (names : List Name). list_any (is_missing files) names || false) (append-nil _) ∙ or-false _

  pub new_asked : unresolved_instruction files file (instrs.New k)
      ≡ (needs (class_name_at file.pool k) || option_map_or
      is_uninstantiable (option_and_then (class_of files) (class_name_at file.pool k)) false)
  new_asked =
      ap (λ (names : List Name). list_any (is_missing files) names || (option_map_or is_uninstantiable (option_and_then (class_of files) (class_name_at file.pool k)) false || false)) (append-nil _)
      ∙ ap (λ (b : Bool). needs (class_name_at file.pool k) || b) (or-false _)

-- ---- fields

module _ (files : Program) where
  abbrev is_other_field : Bool → Option Member → Bool
  is_other_field wants found = option_map_or (λ (f : FieldTree). differs wants (is_static_field f)) (option_and_then (field_of files) found) false

  abbrev asked_of_field : Bool → (Option Member → Bool) → Option Member → Bool
  asked_of_field wants puts o =
      list_any (is_missing files) (member_classes o ++ [])
      || (option_map_or (λ m. is_none (find_field files m)) o false
      || (is_other_field wants (option_and_then (find_field files) o)
      || (puts (option_and_then (find_field files) o)
      || (option_map_or is_hidden (option_and_then (find_field files) o) false || false))))

  abbrev may_not : Bool → (Member → Bool) → Member → Bool
  may_not wants put g = is_other_field wants (Some g) || (put g || is_hidden g)

  found_so : (wants : Bool) (put : Member → Bool) (puts : Option Member → Bool) → ((g : Member) → puts (Some g) ≡ put g)
      → (f : Option Member)
      → (is_none f || (is_other_field wants f || (puts f || (option_map_or is_hidden f false || false))))
      ≡ option_map_or (may_not wants put) f true
  found_so wants put puts same None = refl
  found_so wants put puts same (Some g) = rw (same g, or-false (is_hidden g)) refl

  named_so : (wants : Bool) (put : Member → Bool) (puts : Option Member → Bool) → ((g : Member) → puts (Some g) ≡ put g)
      → puts None ≡ false → (o : Option Member)
      → asked_of_field wants puts o ≡ option_map_or
      (λ m. member_lacks_class files m || option_map_or (may_not wants put) (find_field files m) true) o false
  named_so wants put puts same none None = rw none refl
  named_so wants put puts same none (Some m) =
      ap (λ (names : List Name). list_any (is_missing files) names || (is_none (find_field files m) || (is_other_field wants (find_field files m) || (puts (find_field files m) || (option_map_or is_hidden (find_field files m) false || false))))) (append-nil (member_classes (Some m)))
      ∙ ap (λ (b : Bool). member_lacks_class files m || b) (found_so wants put puts same (find_field files m))

  pub field_asked : (file : FileTree) (k : ℕ) (how : FieldAccess)
      → unresolved_instruction files file (instrs.Field how k) ≡ option_map_or (field_fails files how) (field_at file.pool k) false
  field_asked file k access.GetStatic = named_so true (λ g. false) (λ f. false) (λ g. refl) refl (field_at file.pool k)
  field_asked file k access.PutStatic = named_so true is_system_stream (λ f. option_map_or is_system_stream f false) (λ g. refl) refl (field_at file.pool k)
  field_asked file k access.GetField = named_so false (λ g. false) (λ f. false) (λ g. refl) refl (field_at file.pool k)
  field_asked file k access.PutField = named_so false (λ g. false) (λ f. false) (λ g. refl) refl (field_at file.pool k)

-- ---- methods

module _ (files : Program) (found : Member → Option Member) (wants_static wants_interface : Bool) where
  abbrev is_other_method : Option Member → Bool
  is_other_method f = option_map_or (λ (m : MethodTree). differs wants_static (is_static_method m)) (option_and_then (method_of files) f) false

  abbrev is_other_class : Option FileTree → Bool
  is_other_class c = option_map_or (λ (class : FileTree). differs wants_interface (is_interface_class class)) c false

  abbrev asked_of_method : Option Member → Bool
  asked_of_method o =
      list_any (is_missing files) (member_classes o)
      || ((is_some o && is_none (option_and_then found o))
      || (option_map_or is_hidden_method (option_and_then found o) false
      || (is_other_method (option_and_then found o)
      || is_other_class (option_and_then (λ (m : Member). class_of files m.class) o))))

  last_first : (a b c : Bool) → (a || (b || c)) ≡ (c || (a || b))
  last_first true b c = sym (or-true c)
  last_first false b c = or_comm b c

  both : (c : Option FileTree) (f : Option Member) (more : Bool)
      → ((is_none c || more) || (is_none f || (option_map_or is_hidden_method f false || (is_other_method f || is_other_class c))))
      ≡ ((is_none c || more) || (differs wants_interface (option_map_or is_interface_class c false) ||
      option_map_or (fails_call files wants_static) f true))
  both None f more = refl
  both (Some c) None more = rw (or-true (differs wants_interface (is_interface_class c))) refl
  both (Some c) (Some g) more = ap (λ (b : Bool). more || b) (last_first (is_hidden_method g) (is_other_method (Some g)) (is_other_class (Some c)))

  pub call_so : (o : Option Member) → asked_of_method o
      ≡ option_map_or (λ m. call_fails files (member_lacks_class files m) found wants_static wants_interface m) o false
  call_so None = refl
  call_so (Some m) = both (class_of files m.class) (found m) (list_any (is_missing files) (classes_in m.descriptor))

-- a class is wanted, or an array class, which is no class of the program
module _ (files : Program) (found : Member → Option Member) (wants_static : Bool) where
  abbrev asked_of_called : Option Member → Bool
  asked_of_called o =
      list_any (is_missing files) (called_classes o)
      || ((is_some o && is_none (option_and_then found o))
      || (option_map_or is_hidden_method (option_and_then found o) false
      || (is_other_method files found wants_static false (option_and_then found o)
      || is_other_class files found wants_static false (option_and_then (λ (m : Member). class_of files m.class) o))))

  called_both : (c : Option FileTree) (f : Option Member) (lacks : Bool)
      → (lacks || (is_none f || (option_map_or is_hidden_method f false || (is_other_method files found wants_static false f || is_other_class files found wants_static false c))))
      ≡ (lacks || (differs false (option_map_or is_interface_class c false) || option_map_or (fails_call files wants_static) f true))
  called_both None None lacks = refl
  called_both (Some c) None lacks = rw (or-true (differs false (is_interface_class c))) refl
  called_both None (Some g) lacks =
      ap (λ (b : Bool). lacks || b) (last_first files found wants_static false (is_hidden_method g) (is_other_method files found wants_static false (Some g)) false)
  called_both (Some c) (Some g) lacks =
      ap (λ (b : Bool). lacks || b) (last_first files found wants_static false (is_hidden_method g) (is_other_method files found wants_static false (Some g)) (is_other_class files found wants_static false (Some c)))

  pub called_so : (o : Option Member) → asked_of_called o
      ≡ option_map_or (λ m. call_fails files (called_lacks_class files m) found wants_static false m) o false
  called_so None = refl
  called_so (Some m) = called_both (class_of files m.class) (found m) (called_lacks_class files m)

abbrev pub is_static_call : Invocation → Bool
is_static_call invocation.Virtual = false
is_static_call invocation.Special = false
is_static_call invocation.Static = true

module _ (files : Program) (file : FileTree) (k : ℕ) where
  pub method_asked : (how : Invocation) → unresolved_instruction files file (instrs.Invoke how k)
      ≡ option_map_or (λ m. call_fails files (called_lacks_class files m) (found_in_class files) (is_static_call how) false m) (method_at file.pool k) false
  method_asked invocation.Virtual = called_so files (found_in_class files) false (method_at file.pool k)
  method_asked invocation.Special = called_so files (found_in_class files) false (method_at file.pool k)
  method_asked invocation.Static = called_so files (found_in_class files) true (method_at file.pool k)

  pub interface_method_asked : unresolved_instruction files file (instrs.InvokeInterface k 0 0)
      ≡ option_map_or (λ m. call_fails files (member_lacks_class files m) (find_interface_method files) false true m) (interface_method_at file.pool k) false
  interface_method_asked = call_so files (find_interface_method files) false true (interface_method_at file.pool k)
