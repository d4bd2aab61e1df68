-- Which fields and methods are found in a program of interfaces and classes, and which methods are selected.
use Rattle.std.specs.Prelude.{◌≡◌, ℕ, List, [], ◌∷◌, Option, Some, None, Bool, true, false, map, codes}
use Rattle.std.specs.Option.{option_map}
use Rattle.model.specs.Names.{Name, Member, java_lang_object, java_lang_thread, thread_target, thread_name, thread_priority}
use Rattle.model.specs.Tree.{Entry, Utf8, Class, FieldTree, MethodTree, FileTree}
use Rattle.model.specs.Classes.{Program, superinterfaces_of, all_superinterfaces, is_interface, package_of}
use Rattle.model.specs.ReferenceTypes.{ReferenceType, ClassType, PrimitiveArray, ReferenceArray, Int, is_subtype, is_assignable}
use Rattle.model.specs.Lookup.{find_field, find_method, find_interface_method, select, instance_fields}
use Rattle.run_laws.specs.examples.Made.{field, method, returns}

abbrev pub pool : List Entry
pool =
    Utf8 java_lang_object ∷ Class 1 ∷ Utf8 (codes "Upper") ∷ Class 3 ∷ Utf8 (codes "Lower")
    ∷ Class 5 ∷ Utf8 (codes "P") ∷ Class 7 ∷ Utf8 (codes "Q") ∷ Class 9
    ∷ Utf8 (codes "Abstract") ∷ Class 11 ∷ Utf8 (codes "T") ∷ Class 13 ∷ Utf8 java_lang_thread
    ∷ Class 15 ∷ Utf8 (codes "x") ∷ Utf8 (codes "y") ∷ Utf8 (codes "c") ∷ Utf8 (codes "I")
    ∷ Utf8 (codes "f") ∷ Utf8 (codes "g") ∷ Utf8 (codes "s") ∷ Utf8 (codes "()V") ∷ []

abbrev pub class : ℕ → ℕ → ℕ → List ℕ → List FieldTree → List MethodTree → FileTree
class flags this super interfaces fields methods =
    record { pool = pool; flags = flags; this_class = this; super_class = super; interfaces = interfaces; fields = fields; methods = methods; attributes = [] }

-- interface Upper { int c; void f(); }, interface Lower extends Upper, and classes:
-- P { int x, y, c; void f(); private void g(); static void s(); },
-- Q extends P implements Lower { int x; void g(); },
-- the abstract class Abstract implements Lower, T extends Thread { int x; }
abbrev pub family : Program
family =
    class 0x0601 4 2 [] (field 0x0019 19 20 [] ∷ []) (method 0x0401 21 24 [] ∷ [])
    ∷ class 0x0601 6 2 (4 ∷ []) [] []
    ∷ class 0x0021 8 2 [] (field 0x0001 17 20 [] ∷ field 0x0001 18 20 [] ∷ field 0x0001 19 20 [] ∷ []) (method 0x0001 21 24 returns ∷ method 0x0002 22 24 returns ∷ method 0x0009 23 24 returns ∷ [])
    ∷ class 0x0021 10 8 (6 ∷ []) (field 0x0001 17 20 [] ∷ []) (method 0x0001 22 24 returns ∷ [])
    ∷ class 0x0421 12 2 (6 ∷ []) [] []
    ∷ class 0x0021 14 16 [] (field 0x0001 17 20 [] ∷ []) []
    ∷ []

abbrev pub int_field : Name → Name → Member
int_field class name = record { class = class; name = name; descriptor = codes "I" }

abbrev pub void_method : Name → Name → Member
void_method class name = record { class = class; name = name; descriptor = codes "()V" }

-- the class in which a field of type int, or a method without parameters and result, is found
abbrev pub class_of : Option Member → Option Name
class_of found = option_map (λ (m : Member). m.class) found

abbrev pub field_in : Name → Name → Option Name
field_in class name = class_of (find_field family (int_field class name))

abbrev pub method_in : Name → Name → Option Name
method_in class name = class_of (find_method family (void_method class name))

abbrev pub interface_method_in : Name → Name → Option Name
interface_method_in interface name = class_of (find_interface_method family (void_method interface name))

abbrev pub selected : Name → Name → Option Name
selected class name = class_of (select family class (void_method java_lang_object name))

pub record Lookups : Type 0 where
  -- Q hides P's x
  pub hidden : field_in (codes "Q") (codes "x") ≡ Some (codes "Q")
  pub inherited : field_in (codes "Q") (codes "y") ≡ Some (codes "P")
  -- the constant of a superinterface, before the field of the superclass
  pub constant : field_in (codes "Q") (codes "c") ≡ Some (codes "Upper")
  pub of_superclass : field_in (codes "P") (codes "c") ≡ Some (codes "P")
  pub of_interface : field_in (codes "Lower") (codes "c") ≡ Some (codes "Upper")
  pub no_field : field_in (codes "Q") (codes "z") ≡ None
  pub other_type : find_field family (record { class = codes "Q"; name = codes "x"; descriptor = codes "J" }) ≡ None
  pub target : find_field family (record { class = codes "T"; name = codes "target"; descriptor = codes "Ljava/lang/Runnable;" })
      ≡ Some thread_target
  -- methods: of the class, a superclass, Object; of a superinterface only where no superclass has it
  pub own : method_in (codes "Q") (codes "g") ≡ Some (codes "Q")
  pub of_p : method_in (codes "Q") (codes "f") ≡ Some (codes "P")
  pub private : method_in (codes "P") (codes "g") ≡ Some (codes "P")
  pub wait : method_in (codes "Q") (codes "wait") ≡ Some java_lang_object
  pub not_implemented : method_in (codes "Abstract") (codes "f") ≡ Some (codes "Upper")
  pub run : method_in (codes "T") (codes "run") ≡ Some java_lang_thread
  pub no_method : method_in (codes "Q") (codes "h") ≡ None
  -- methods of interfaces: of a superinterface, or of Object
  pub of_upper : interface_method_in (codes "Lower") (codes "f") ≡ Some (codes "Upper")
  pub notify : interface_method_in (codes "Lower") (codes "notify") ≡ Some java_lang_object
  pub no_interface_method : interface_method_in (codes "Lower") (codes "g") ≡ None
  -- selection: the nearest from the class upwards; neither a private nor a static one, and none of an interface
  pub nearest : selected (codes "Q") (codes "g") ≡ Some (codes "Q")
  pub upwards : selected (codes "Q") (codes "f") ≡ Some (codes "P")
  pub private_skipped : selected (codes "P") (codes "g") ≡ None
  pub static_skipped : selected (codes "Q") (codes "s") ≡ None
  pub abstract_of_interface : selected (codes "Abstract") (codes "f") ≡ None
  -- the fields of objects, those of the superclass first
  pub fields : instance_fields family (codes "Q")
      ≡ int_field (codes "P") (codes "x") ∷ int_field (codes "P") (codes "y") ∷ int_field (codes "P") (codes "c")
      ∷ int_field (codes "Q") (codes "x") ∷ []
  pub thread_fields : instance_fields family (codes "T")
      ≡ thread_target ∷ thread_name ∷ int_field java_lang_thread (codes "number") ∷ thread_priority ∷ int_field (codes "T") (codes "x") ∷ []
  pub no_fields : instance_fields family (codes "Upper") ≡ []
  -- interfaces and packages
  pub interfaces : map (is_interface family) (codes "Lower" ∷ codes "Q" ∷ codes "java/lang/Runnable" ∷ codes "Missing" ∷ [])
      ≡ true ∷ false ∷ true ∷ false ∷ []
  pub direct : superinterfaces_of family (codes "Q") ≡ codes "Lower" ∷ []
  pub all : all_superinterfaces family (codes "Q") ≡ codes "Lower" ∷ codes "Upper" ∷ []
  pub of_thread : all_superinterfaces family (codes "T") ≡ codes "java/lang/Runnable" ∷ []
  pub packages : map package_of (codes "java/lang/Object" ∷ codes "Q" ∷ []) ≡ codes "java/lang/" ∷ [] ∷ []

-- Upper, Q, Object, Q[], Upper[], int[]
abbrev pub types : List ReferenceType
types =
    ClassType (codes "Upper") ∷ ClassType (codes "Q") ∷ ClassType java_lang_object ∷ ReferenceArray (ClassType (codes "Q"))
    ∷ ReferenceArray (ClassType (codes "Upper")) ∷ PrimitiveArray Int ∷ []

-- a row for each type, which says of which of the types its objects are instances
abbrev pub instances : List (List Bool)
instances =
    (true ∷ false ∷ true ∷ false ∷ false ∷ false ∷ [])
    ∷ (true ∷ true ∷ true ∷ false ∷ false ∷ false ∷ [])
    ∷ (false ∷ false ∷ true ∷ false ∷ false ∷ false ∷ [])
    ∷ (false ∷ false ∷ true ∷ true ∷ true ∷ false ∷ [])
    ∷ (false ∷ false ∷ true ∷ false ∷ true ∷ false ∷ [])
    ∷ (false ∷ false ∷ true ∷ false ∷ false ∷ true ∷ [])
    ∷ []

pub record Instances : Type 0 where
  pub tested : map (λ s. map (λ t. is_subtype family s t) types) types ≡ instances
  -- in the verifier's order an interface has nothing below it but itself
  pub verified : map (λ s. is_assignable family s (ClassType (codes "Upper"))) types ≡ true ∷ false ∷ false ∷ false ∷ false ∷ false ∷ []
