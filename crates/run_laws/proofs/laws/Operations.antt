-- What the instruction of a site comes to, once what its operand names is found: an operation (JVMS 6.5), the same one for
-- every kind of values. A proof about all instructions goes through these.
use Rattle.std.proofs.Common.{◌≡◌, ℕ, Bool, true, false, if◌then◌else◌, Option, Some, None, option_map, refl}
use Rattle.std.specs.Option.{option_and_then, option_map_or}
use Rattle.model.specs.declared.instr.ArrayKind.{ArrayKind}
use Rattle.model.specs.declared.instr.FieldAccess.{FieldAccess}
use Rattle.model.specs.declared.instr.FieldAccess.TheVariants as access
use Rattle.model.specs.declared.instr.Instr.{Instr}
use Rattle.model.specs.declared.instr.Instr.TheVariants as instr
use Rattle.model.specs.declared.instr.Invocation.{Invocation}
use Rattle.model.specs.declared.instr.Invocation.TheVariants as invocation
use Rattle.model.specs.declared.instr.Returned.{Returned}
use Rattle.model.specs.Names.{Name, name_eq, Member, member_eq, constructor_name, println_int, java_lang_class, java_lang_string}
use Rattle.model.specs.Tree.{Entry, Utf8, Integer, Float, Long, Double, Class, String, Field, Method, InterfaceMethod, NameAndType, Unusable, FieldTree, FileTree, MethodTree}
use Rattle.model.specs.Spelling.{entry_at}
use Rattle.model.specs.Pool.{integers_of, utf8_at, class_name_at, field_at, method_at, interface_method_at}
use Rattle.model.specs.Classes.{Program, class_of}
use Rattle.model.specs.Lookup.{find_field, field_of, find_method, find_interface_method, is_static_field, is_instance_field, is_static_method}
use Rattle.model.specs.ReferenceTypes.{Primitive}
use Rattle.model.specs.DescribedTypes.{type_named}
use Rattle.model.specs.Operands.{Carrier}
use Rattle.model.specs.Rows.{Row, local_row}
use Rattle.model.specs.Opening.{class_reference, string_reference}
use Rattle.model.specs.Sites.{MeaningOf, Site}
use Rattle.model.specs.Objects.{new_meaning, new_named, check_cast_meaning, instance_of_meaning, object_meaning, class_constant, constant_meaning}
use Rattle.model.specs.Arrays.{load_of, store_of, primitive_array_meaning, primitive_coded, reference_array_meaning, array_length_meaning}
use Rattle.model.specs.Calls.{is_one, is_instance_one, if_method, static_call, virtual_call, virtual_of, special_call, constructor_call, special_of, interface_call, interface_of, return_of}
use Rattle.model.specs.ThrowMeaning.{throw_meaning}
use Rattle.model.specs.MonitorMeanings.{monitor_enter_meaning, monitor_exit_meaning}
use Rattle.model.specs.Meanings.{local_meaning, stream_of, system_stream_meaning, get_static_of, get_static_by, put_static_of, get_field_of, put_field_of, if_field, field_meaning, println_meaning, invoke_virtual_meaning, invoke_meaning, other_meaning, local_or, meaning_of}

-- ---- what an operand names

pub record NamedField (files : Program) (site : Site) (how : FieldAccess) (test : FieldTree → Bool) : Type 0 where
  pub index : ℕ
  pub instruction : site.instr ≡ instr.Field how index
  pub named : Member
  pub names : field_at site.body.pool index ≡ Some named
  pub field : Member
  pub found : find_field files named ≡ Some field
  pub passes : option_map_or test (field_of files field) false ≡ true

pub record NamedCall (site : Site) (how : Invocation) : Type 0 where
  pub index : ℕ
  pub instruction : site.instr ≡ instr.Invoke how index
  pub named : Member
  pub names : method_at site.body.pool index ≡ Some named

pub record NamedInterfaceCall (site : Site) : Type 0 where
  pub index : ℕ
  pub count : ℕ
  pub last : ℕ
  pub instruction : site.instr ≡ instr.InvokeInterface index count last
  pub named : Member
  pub names : interface_method_at site.body.pool index ≡ Some named

-- the method that a look-up finds, which passes a test
pub record FoundMethod (files : Program) (test : MethodTree → Bool) (look_up : Option Member) : Type 0 where
  pub method : Member
  pub found : look_up ≡ Some method
  pub passes : is_one test files method ≡ true

pub record NamedClass (site : Site) (i : ℕ → Instr) : Type 0 where
  pub index : ℕ
  pub instruction : site.instr ≡ i index
  pub name : Name
  pub names : class_name_at site.body.pool index ≡ Some name

pub record NamedText (site : Site) (entry : ℕ → Entry) : Type 0 where
  pub index : ℕ
  pub instruction : site.instr ≡ instr.LoadConstant index
  pub place : ℕ
  pub is_entry : entry_at site.body.pool index ≡ entry place
  pub text : Name
  pub names : utf8_at site.body.pool place ≡ Some text

-- a field of System whose value is a PrintStream that is there from the start
pub record NamedStream (files : Program) (site : Site) (index stream : ℕ) : Type 0 where
  pub instruction : site.instr ≡ instr.Field access.GetStatic index
  pub named : Member
  pub names : field_at site.body.pool index ≡ Some named
  pub streams : stream_of files named ≡ Some stream

-- ---- operations

pub data Operation (files : Program) (site : Site) : Type 0 where
  OfRow : (row : Row) → local_row (integers_of site.body.pool) site.body.code.code site.offset site.next site.instr ≡ Some row
      → Operation files site
  GetSystemStream : (index stream : ℕ) → NamedStream files site index stream → Operation files site
  GetStatic : NamedField files site access.GetStatic is_static_field → Operation files site
  PutStatic : NamedField files site access.PutStatic is_static_field → Operation files site
  GetField : NamedField files site access.GetField is_instance_field → Operation files site
  PutField : NamedField files site access.PutField is_instance_field → Operation files site
  Println : (call : NamedCall site invocation.Virtual) → member_eq call.named println_int ≡ true → Operation files site
  CallVirtual : (call : NamedCall site invocation.Virtual) → member_eq call.named println_int ≡ false
      → FoundMethod files is_instance_one (find_method files call.named) → Operation files site
  CallConstructor : (call : NamedCall site invocation.Special) → name_eq call.named.name constructor_name ≡ true
      → is_one is_instance_one files call.named ≡ true → Operation files site
  CallSpecial : (call : NamedCall site invocation.Special) → name_eq call.named.name constructor_name ≡ false
      → FoundMethod files is_instance_one (find_method files call.named) → Operation files site
  CallStatic : (index : ℕ) → site.instr ≡ instr.Invoke invocation.Static index
      → FoundMethod files is_static_method (option_and_then (find_method files) (method_at site.body.pool index)) → Operation files site
  CallInterface : (call : NamedInterfaceCall site) → FoundMethod files is_instance_one (find_interface_method files call.named)
      → Operation files site
  Return : (kind : Returned) → site.instr ≡ instr.Return kind → Operation files site
  LoadClass : (constant : NamedText site Class) (file : FileTree) → class_of files constant.text ≡ Some file → Operation files site
  LoadString : NamedText site String → Operation files site
  New : (class : NamedClass site instr.New) (file : FileTree) → class_of files class.name ≡ Some file → Operation files site
  NewArray : (code : ℕ) (of : Primitive) → site.instr ≡ instr.NewArray code → primitive_coded code ≡ Some of → Operation files site
  NewReferenceArray : NamedClass site instr.NewReferenceArray → Operation files site
  ArrayLength : site.instr ≡ instr.ArrayLength → Operation files site
  LoadElement : (kind : ArrayKind) → site.instr ≡ instr.LoadElement kind → Operation files site
  StoreElement : (kind : ArrayKind) → site.instr ≡ instr.StoreElement kind → Operation files site
  CheckCast : NamedClass site instr.CheckCast → Operation files site
  InstanceOf : NamedClass site instr.InstanceOf → Operation files site
  Throw : site.instr ≡ instr.Throw → Operation files site
  MonitorEnter : site.instr ≡ instr.MonitorEnter → Operation files site
  MonitorExit : site.instr ≡ instr.MonitorExit → Operation files site

abbrev pub operation : {A : Type 0} (C : Carrier A) (files : Program) (site : Site) → Operation files site → MeaningOf A
operation C files site (OfRow row e) = local_meaning C row
operation C files site (GetSystemStream index stream n) = system_stream_meaning C site.next stream
operation C files site (GetStatic f) = get_static_of C files site.next f.field
operation C files site (PutStatic f) = put_static_of C files site.next f.field
operation C files site (GetField f) = get_field_of C files site.next f.named.class f.field
operation C files site (PutField f) = put_field_of C files site.next f.named.class f.field
operation C files site (Println call e) = println_meaning C site.next
operation C files site (CallVirtual call e m) = virtual_call C files site call.named.class m.method
operation C files site (CallConstructor call e p) = constructor_call C files site call.named
operation C files site (CallSpecial call e m) = special_call C files site call.named.class m.method
operation C files site (CallStatic index i m) = static_call C files site m.method
operation C files site (CallInterface call m) = interface_call C files site call.named.class m.method
operation C files site (Return kind i) = return_of C files site.method.descriptor kind
operation C files site (LoadClass constant file e) = object_meaning C site java_lang_class (class_reference files constant.text)
operation C files site (LoadString constant) = object_meaning C site java_lang_string (string_reference files constant.text)
operation C files site (New class file e) = new_meaning C files site class.name
operation C files site (NewArray code of i e) = primitive_array_meaning C files site of
operation C files site (NewReferenceArray class) = reference_array_meaning C files site (type_named class.name)
operation C files site (ArrayLength i) = array_length_meaning C site
operation C files site (LoadElement kind i) = load_of C files site kind
operation C files site (StoreElement kind i) = store_of C files site kind
operation C files site (CheckCast class) = check_cast_meaning C files site (type_named class.name)
operation C files site (InstanceOf class) = instance_of_meaning C files site (type_named class.name)
operation C files site (Throw i) = throw_meaning C
operation C files site (MonitorEnter i) = monitor_enter_meaning C site
operation C files site (MonitorExit i) = monitor_exit_meaning C site

module _ {A B : Type 0} (C : Carrier A) (D : Carrier B) (files : Program) (site : Site) where
  -- two meanings of one operation, or none
  pub data Operates : Option (MeaningOf A) → Option (MeaningOf B) → Type 0 where
    nothing : Operates None None
    does : (o : Operation files site) → Operates (Some (operation C files site o)) (Some (operation D files site o))

  then_does : {X : Type 0} (o : Option X) (v : X → Option (MeaningOf A)) (w : X → Option (MeaningOf B))
      → ((x : X) → o ≡ Some x → Operates (v x) (w x)) → Operates (option_and_then v o) (option_and_then w o)
  then_does None v w h = nothing
  then_does (Some x) v w h = h x refl

  map_does : {X : Type 0} (o : Option X) (v : X → MeaningOf A) (w : X → MeaningOf B)
      → ((x : X) → o ≡ Some x → Operates (Some (v x)) (Some (w x))) → Operates (option_map v o) (option_map w o)
  map_does None v w h = nothing
  map_does (Some x) v w h = h x refl

  either_does : (b : Bool) (v x : Option (MeaningOf A)) (w y : Option (MeaningOf B)) → (b ≡ true → Operates v w)
      → (b ≡ false → Operates x y) → Operates (if b then v else x) (if b then w else y)
  either_does true v x w y h g = h refl
  either_does false v x w y h g = g refl

  if_does : (b : Bool) (v : MeaningOf A) (w : MeaningOf B) → (b ≡ true → Operates (Some v) (Some w))
      → Operates (if b then Some v else None) (if b then Some w else None)
  if_does b v w h = either_does b (Some v) None (Some w) None h (λ e. nothing)

  -- ---- fields

  field_does : (test : FieldTree → Bool) (v : Member → MeaningOf A) (w : Member → MeaningOf B) (named : Member)
      → ((field : Member) → find_field files named ≡ Some field → option_map_or test (field_of files field) false ≡ true
      → Operates (Some (v field)) (Some (w field)))
      → Operates (option_and_then (if_field test files v) (find_field files named))
      (option_and_then (if_field test files w) (find_field files named))
  field_does test v w named h =
      then_does (find_field files named) (if_field test files v) (if_field test files w) (λ field found. if_does (option_map_or test (field_of files field) false) (v field) (w field) (h field found))

  module _ (index : ℕ) (named : Member) (names : field_at site.body.pool index ≡ Some named) where
    abbrev named_field : (how : FieldAccess) (test : FieldTree → Bool) → site.instr ≡ instr.Field how index → (field : Member)
        → find_field files named ≡ Some field → option_map_or test (field_of files field) false ≡ true → NamedField files site how test
    named_field how test i field found passes = record { index = index; instruction = i; named = named; names = names; field = field; found = found; passes = passes }

    access_does : (how : FieldAccess) → site.instr ≡ instr.Field how index
        → Operates (field_meaning C files site.next how named) (field_meaning D files site.next how named)
    access_does access.GetStatic i = by (stream_of files named) refl
      where
        by : (o : Option ℕ) → stream_of files named ≡ o → Operates (get_static_by C files site.next named o) (get_static_by D files site.next named o)
        by None e =
            field_does is_static_field (get_static_of C files site.next) (get_static_of D files site.next) named (λ field found passes. does (GetStatic (named_field access.GetStatic is_static_field i field found passes)))
        by (Some stream) e = does (GetSystemStream index stream (record { instruction = i; named = named; names = names; streams = e }))
    access_does access.PutStatic i =
        field_does is_static_field (put_static_of C files site.next) (put_static_of D files site.next) named (λ field found passes. does (PutStatic (named_field access.PutStatic is_static_field i field found passes)))
    access_does access.GetField i =
        field_does is_instance_field (get_field_of C files site.next named.class) (get_field_of D files site.next named.class) named (λ field found passes. does (GetField (named_field access.GetField is_instance_field i field found passes)))
    access_does access.PutField i =
        field_does is_instance_field (put_field_of C files site.next named.class) (put_field_of D files site.next named.class) named (λ field found passes. does (PutField (named_field access.PutField is_instance_field i field found passes)))

  -- ---- calls

  method_does : (test : MethodTree → Bool) (o : Option Member) (v : Member → MeaningOf A) (w : Member → MeaningOf B)
      → ((m : FoundMethod files test o) → Operates (Some (v m.method)) (Some (w m.method)))
      → Operates (option_and_then (if_method test files v) o) (option_and_then (if_method test files w) o)
  method_does test o v w h =
      then_does o (if_method test files v) (if_method test files w) (λ method found. if_does (is_one test files method) (v method) (w method) (λ passes. h (record { method = method; found = found; passes = passes })))

  virtual_does : (call : NamedCall site invocation.Virtual)
      → Operates (invoke_virtual_meaning C files site call.named) (invoke_virtual_meaning D files site call.named)
  virtual_does call =
      either_does (member_eq call.named println_int) (Some (println_meaning C site.next)) (virtual_of C files site call.named) (Some (println_meaning D site.next)) (virtual_of D files site call.named) (λ e. does (Println call e))
      (λ e. method_does is_instance_one (find_method files call.named) (virtual_call C files site call.named.class) (virtual_call D files site call.named.class) (λ m. does (CallVirtual call e m)))

  special_does : (call : NamedCall site invocation.Special)
      → Operates (special_of C files site call.named) (special_of D files site call.named)
  special_does call =
      either_does (name_eq call.named.name constructor_name) (if_method is_instance_one files (constructor_call C files site) call.named) (option_and_then (if_method is_instance_one files (special_call C files site call.named.class)) (find_method files call.named)) (if_method is_instance_one files (constructor_call D files site) call.named) (option_and_then (if_method is_instance_one files (special_call D files site call.named.class)) (find_method files call.named))
      (λ e. if_does (is_one is_instance_one files call.named) (constructor_call C files site call.named) (constructor_call D files site call.named) (λ passes. does (CallConstructor call e passes)))
      (λ e. method_does is_instance_one (find_method files call.named) (special_call C files site call.named.class) (special_call D files site call.named.class) (λ m. does (CallSpecial call e m)))

  interface_does : (call : NamedInterfaceCall site) → Operates (interface_of C files site call.named) (interface_of D files site call.named)
  interface_does call =
      method_does is_instance_one (find_interface_method files call.named) (interface_call C files site call.named.class) (interface_call D files site call.named.class) (λ m. does (CallInterface call m))

  invoke_does : (how : Invocation) (index : ℕ) → site.instr ≡ instr.Invoke how index
      → Operates (invoke_meaning C files site how index) (invoke_meaning D files site how index)
  invoke_does invocation.Virtual index i =
      then_does (method_at site.body.pool index) (invoke_virtual_meaning C files site) (invoke_virtual_meaning D files site) (λ named names. virtual_does (record { index = index; instruction = i; named = named; names = names }))
  invoke_does invocation.Special index i =
      then_does (method_at site.body.pool index) (special_of C files site) (special_of D files site) (λ named names. special_does (record { index = index; instruction = i; named = named; names = names }))
  invoke_does invocation.Static index i =
      method_does is_static_method (option_and_then (find_method files) (method_at site.body.pool index)) (static_call C files site) (static_call D files site) (λ m. does (CallStatic index i m))

  -- ---- constants

  constant_does : (index : ℕ) → site.instr ≡ instr.LoadConstant index → (entry : Entry) → entry_at site.body.pool index ≡ entry
      → Operates (constant_meaning C files site entry) (constant_meaning D files site entry)
  constant_does index i (Utf8 text) e = nothing
  constant_does index i (Integer bits) e = nothing
  constant_does index i (Float bits) e = nothing
  constant_does index i (Long bits) e = nothing
  constant_does index i (Double bits) e = nothing
  constant_does index i (Class place) e =
      then_does (utf8_at site.body.pool place) (class_constant C files site) (class_constant D files site)
      (λ text names. map_does (class_of files text) (λ (file : FileTree). object_meaning C site java_lang_class (class_reference files text)) (λ (file : FileTree). object_meaning D site java_lang_class (class_reference files text))
      (λ file q. does (LoadClass (record { index = index; instruction = i; place = place; is_entry = e; text = text; names = names }) file q)))
  constant_does index i (String place) e =
      map_does (utf8_at site.body.pool place) (λ (text : Name). object_meaning C site java_lang_string (string_reference files text)) (λ (text : Name). object_meaning D site java_lang_string (string_reference files text))
      (λ text names. does (LoadString (record { index = index; instruction = i; place = place; is_entry = e; text = text; names = names })))
  constant_does index i (Field class name) e = nothing
  constant_does index i (Method class name) e = nothing
  constant_does index i (InterfaceMethod class name) e = nothing
  constant_does index i (NameAndType name descriptor) e = nothing
  constant_does index i Unusable e = nothing

  -- ---- classes

  class_does : (i : ℕ → Instr) (index : ℕ) → site.instr ≡ i index → (v : Name → MeaningOf A) (w : Name → MeaningOf B)
      → ((class : NamedClass site i) → Operates (Some (v class.name)) (Some (w class.name)))
      → Operates (option_map v (class_name_at site.body.pool index)) (option_map w (class_name_at site.body.pool index))
  class_does i index e v w h = map_does (class_name_at site.body.pool index) v w (λ name names. h (record { index = index; instruction = e; name = name; names = names }))

  new_does : (index : ℕ) → site.instr ≡ instr.New index
      → Operates (option_and_then (new_named C files site) (class_name_at site.body.pool index))
      (option_and_then (new_named D files site) (class_name_at site.body.pool index))
  new_does index i =
      then_does (class_name_at site.body.pool index) (new_named C files site) (new_named D files site)
      (λ name names. map_does (class_of files name) (λ (file : FileTree). new_meaning C files site name) (λ (file : FileTree). new_meaning D files site name)
      (λ file e. does (New (record { index = index; instruction = i; name = name; names = names }) file e)))

  -- ---- the table

  other_does : (i : Instr) → site.instr ≡ i → Operates (other_meaning C files site i) (other_meaning D files site i)
  other_does (instr.Field how index) i = then_does (field_at site.body.pool index) (field_meaning C files site.next how) (field_meaning D files site.next how) (λ named names. access_does index named names how i)
  other_does (instr.Invoke how index) i = invoke_does how index i
  other_does (instr.InvokeInterface index count last) i =
      then_does (interface_method_at site.body.pool index) (interface_of C files site) (interface_of D files site) (λ named names. interface_does (record { index = index; count = count; last = last; instruction = i; named = named; names = names }))
  other_does (instr.Return kind) i = does (Return kind i)
  other_does (instr.LoadConstant index) i = constant_does index i (entry_at site.body.pool index) refl
  other_does (instr.New index) i = new_does index i
  other_does (instr.NewArray code) i = map_does (primitive_coded code) (primitive_array_meaning C files site) (primitive_array_meaning D files site) (λ of e. does (NewArray code of i e))
  other_does (instr.NewReferenceArray index) i =
      class_does instr.NewReferenceArray index i (λ (name : Name). reference_array_meaning C files site (type_named name)) (λ (name : Name). reference_array_meaning D files site (type_named name)) (λ class. does (NewReferenceArray class))
  other_does instr.ArrayLength i = does (ArrayLength i)
  other_does (instr.LoadElement kind) i = does (LoadElement kind i)
  other_does (instr.StoreElement kind) i = does (StoreElement kind i)
  other_does (instr.CheckCast index) i =
      class_does instr.CheckCast index i (λ (name : Name). check_cast_meaning C files site (type_named name)) (λ (name : Name). check_cast_meaning D files site (type_named name)) (λ class. does (CheckCast class))
  other_does (instr.InstanceOf index) i =
      class_does instr.InstanceOf index i (λ (name : Name). instance_of_meaning C files site (type_named name)) (λ (name : Name). instance_of_meaning D files site (type_named name)) (λ class. does (InstanceOf class))
  other_does instr.Throw i = does (Throw i)
  other_does instr.MonitorEnter i = does (MonitorEnter i)
  other_does instr.MonitorExit i = does (MonitorExit i)
  other_does _ i = nothing

  -- an instruction that is not local comes to one operation over both, or to none
  pub operates_other : Operates (other_meaning C files site site.instr) (other_meaning D files site site.instr)
  operates_other = other_does site.instr refl

  local_does : (o : Option Row) → local_row (integers_of site.body.pool) site.body.code.code site.offset site.next site.instr ≡ o
      → Operates (local_or C files site o) (local_or D files site o)
  local_does (Some row) e = does (OfRow row e)
  local_does None e = operates_other

  -- and so does each instruction
  pub operates : Operates (meaning_of C files site) (meaning_of D files site)
  operates = local_does (local_row (integers_of site.body.pool) site.body.code.code site.offset site.next site.instr) refl

-- ---- over one kind of values

-- what holds of a meaning, if there is one
abbrev pub OfMeaning : {A : Type 0} → (MeaningOf A → Type 0) → Option (MeaningOf A) → Type 0
OfMeaning P None = Unit {0}
OfMeaning P (Some m) = P m

module _ {A : Type 0} (C : Carrier A) (files : Program) (site : Site) (P : MeaningOf A → Type 0)
    (each : (o : Operation files site) → P (operation C files site o)) where
  of_operation : {v w : Option (MeaningOf A)} → Operates C C files site v w → OfMeaning P v
  of_operation nothing = tt
  of_operation (does o) = each o

  -- what holds of each operation holds of each meaning
  pub each_meaning : OfMeaning P (meaning_of C files site)
  each_meaning = of_operation (operates C C files site)

  pub each_other : OfMeaning P (other_meaning C files site site.instr)
  each_other = of_operation (operates_other C C files site)
