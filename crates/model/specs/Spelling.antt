-- The bytes of a class file (JVMS 4.1, 4.4 to 4.7).
use Rattle.std.specs.Prelude.{◌≡◌, ℕ, ◌<◌, ◌+◌, ◌/◌, ◌%◌, ◌^◌, List, [], ◌∷◌, ◌++◌, length, Bool, true, false, IsTrue, IsFalse, MatchBool, nat_lt, ◌==◌, ◌&&◌, get_or, codes}
use Rattle.std.specs.Str.{bytes_eq}
use Rattle.std.specs.List.{flat_map, list_all, AllByRecursion}
use Rattle.byteorder.specs.Endian.{big_bytes}
use Rattle.model.specs.declared.class_file.ExceptionEntry.{ExceptionEntry}
use Rattle.model.specs.Tree.{Entry, Utf8, Integer, Float, Long, Double, Class, String, Field, Method, InterfaceMethod, NameAndType, Unusable, SkippedTree, CodeTree, FieldPart, ConstantOf, SkippedOfField, MethodPart, CodeOf, SkippedOfMethod, FieldTree, MethodTree, FileTree}

-- ---- numbers and tables (JVMS 4)

-- a number of so many bytes, the highest first
abbrev pub u1 : ℕ → List ℕ
u1 n = big_bytes 1 n

abbrev pub u2 : ℕ → List ℕ
u2 n = big_bytes 2 n

abbrev pub u4 : ℕ → List ℕ
u4 n = big_bytes 4 n

abbrev pub u8 : ℕ → List ℕ
u8 n = big_bytes 8 n

-- a count of two bytes, and each item
abbrev pub table : {A : Type 0} → (A → List ℕ) → List A → List ℕ
table text xs = u2 (length xs) ++ flat_map text xs

abbrev pub TableFits : {A : Type 0} → (A → Type 0) → List A → Type 0
TableFits Fits xs = (length xs < 2 ^ 16) × AllByRecursion Fits xs

-- a length of four bytes, and the bytes
abbrev pub sized : List ℕ → List ℕ
sized text = u4 (length text) ++ text

-- ---- the constant pool (JVMS 4.4)

-- a length of two bytes, and the bytes (JVMS 4.4.7)
abbrev pub utf8 : List ℕ → List ℕ
utf8 text = u2 (length text) ++ text

-- whether a byte may stand in a Utf8 (JVMS 4.4.7); no further form is asked for (own)
abbrev pub is_text_byte : ℕ → Bool
is_text_byte b = nat_lt 0 b && nat_lt b 0xf0

-- the tag of each entry is that of JVMS table 4.4-A
abbrev pub entry : Entry → List ℕ
entry (Utf8 text) = u1 1 ++ utf8 text
entry (Integer bits) = u1 3 ++ u4 bits
entry (Float bits) = u1 4 ++ u4 bits
entry (Long bits) = u1 5 ++ u8 bits
entry (Double bits) = u1 6 ++ u8 bits
entry (Class name) = u1 7 ++ u2 name
entry (String text) = u1 8 ++ u2 text
entry (Field class name_and_type) = u1 9 ++ (u2 class ++ u2 name_and_type)
entry (Method class name_and_type) = u1 10 ++ (u2 class ++ u2 name_and_type)
entry (InterfaceMethod class name_and_type) = u1 11 ++ (u2 class ++ u2 name_and_type)
entry (NameAndType name descriptor) = u1 12 ++ (u2 name ++ u2 descriptor)
entry Unusable = []

abbrev pub EntryFits : Entry → Type 0
EntryFits (Utf8 text) = (length text < 2 ^ 16) × IsTrue (list_all is_text_byte text)
EntryFits (Integer bits) = bits < 2 ^ 32
EntryFits (Float bits) = bits < 2 ^ 32
EntryFits (Long bits) = bits < 2 ^ 64
EntryFits (Double bits) = bits < 2 ^ 64
EntryFits (Class name) = name < 2 ^ 16
EntryFits (String text) = text < 2 ^ 16
EntryFits (Field class name_and_type) = (class < 2 ^ 16) × (name_and_type < 2 ^ 16)
EntryFits (Method class name_and_type) = (class < 2 ^ 16) × (name_and_type < 2 ^ 16)
EntryFits (InterfaceMethod class name_and_type) = (class < 2 ^ 16) × (name_and_type < 2 ^ 16)
EntryFits (NameAndType name descriptor) = (name < 2 ^ 16) × (descriptor < 2 ^ 16)
EntryFits Unusable = ⊥

-- whether an entry takes two places (JVMS 4.4.5)
abbrev pub is_wide : Entry → Bool
is_wide (Long bits) = true
is_wide (Double bits) = true
is_wide e = false

-- each Long and each Double has a second place, and no other entry has
abbrev pub ArePlaced : List Entry → Type 0
ArePlaced [] = Unit {0}
ArePlaced (e ∷ []) = IsFalse (is_wide e) × EntryFits e
ArePlaced (e ∷ f ∷ places) = EntryFits e × MatchBool (is_wide e) ((f ≡ Unusable) × ArePlaced places) (ArePlaced (f ∷ places))

abbrev pub entries : List Entry → List ℕ
entries places = flat_map entry places

-- constant_pool_count is one above the number of places (JVMS 4.1)
abbrev pub pool : List Entry → List ℕ
pool places = u2 (length places + 1) ++ entries places

abbrev pub PoolFits : List Entry → Type 0
PoolFits places = (length places + 1 < 2 ^ 16) × ArePlaced places

-- the entry of an index; index 0 has none
abbrev pub entry_at : List Entry → ℕ → Entry
entry_at places index = get_or (Unusable ∷ places) index Unusable

-- the bytes of a Utf8, none for another entry
abbrev pub text_of : Entry → List ℕ
text_of (Utf8 text) = text
text_of other = []

-- whether the entry of an index is the Utf8 of this text
abbrev pub names : List ℕ → List Entry → ℕ → Bool
names text places index = bytes_eq (text_of (entry_at places index)) text

-- ---- attributes (JVMS 4.7)

abbrev pub skipped : SkippedTree → List ℕ
skipped a = u2 a.name ++ sized a.bytes

pub record SkippedFits (a : SkippedTree) : Type 0 where
  pub name : a.name < 2 ^ 16
  pub bytes : length a.bytes < 2 ^ 32

abbrev pub exception : ExceptionEntry → List ℕ
exception e = u2 e.start ++ (u2 e.end ++ (u2 e.handler ++ u2 e.catch_type))

pub record ExceptionFits (e : ExceptionEntry) : Type 0 where
  pub start : e.start < 2 ^ 16
  pub end : e.end < 2 ^ 16
  pub handler : e.handler < 2 ^ 16
  pub catch_type : e.catch_type < 2 ^ 16

-- what a Code attribute holds (JVMS 4.7.3)
abbrev pub code : CodeTree → List ℕ
code c = u2 c.max_stack ++ (u2 c.max_locals ++ (sized c.code ++ (table exception c.exceptions ++ table skipped c.attributes)))

-- whether a code may have so many bytes (JVMS 4.7.3)
abbrev pub is_code_length : ℕ → Bool
is_code_length n = nat_lt 0 n && nat_lt n 65536

pub record CodeFits (c : CodeTree) : Type 0 where
  pub max_stack : c.max_stack < 2 ^ 16
  pub max_locals : c.max_locals < 2 ^ 16
  pub code : IsTrue (is_code_length (length c.code))
  pub exceptions : TableFits ExceptionFits c.exceptions
  pub attributes : TableFits SkippedFits c.attributes

-- ---- fields (JVMS 4.5)

-- the index of an attribute's name, and what stands in it
abbrev pub field_part_name : FieldPart → ℕ
field_part_name (ConstantOf name index) = name
field_part_name (SkippedOfField a) = a.name

abbrev pub field_part_body : FieldPart → List ℕ
field_part_body (ConstantOf name index) = u2 index
field_part_body (SkippedOfField a) = a.bytes

abbrev pub field_part : FieldPart → List ℕ
field_part p = u2 (field_part_name p) ++ sized (field_part_body p)

-- ACC_STATIC (JVMS table 4.5-A) is set
abbrev pub is_static : ℕ → Bool
is_static flags = flags / 0x0008 % 2 == 1

-- ConstantValue counts on static fields alone (JVMS 4.7.2)
abbrev pub is_constant_value : ℕ → List Entry → ℕ → Bool
is_constant_value flags places name = is_static flags && names (codes "ConstantValue") places name

abbrev pub IsConstant : FieldPart → Type 0
IsConstant (ConstantOf name index) = index < 2 ^ 16
IsConstant (SkippedOfField a) = ⊥

abbrev pub IsSkippedOfField : FieldPart → Type 0
IsSkippedOfField (ConstantOf name index) = ⊥
IsSkippedOfField (SkippedOfField a) = Unit {0}

-- an attribute of a field with these access flags
pub record FieldPartFits (flags : ℕ) (places : List Entry) (p : FieldPart) : Type 0 where
  pub name : field_part_name p < 2 ^ 16
  pub body : length (field_part_body p) < 2 ^ 32
  pub kind : MatchBool (is_constant_value flags places (field_part_name p)) (IsConstant p) (IsSkippedOfField p)

abbrev pub field : FieldTree → List ℕ
field f = u2 f.flags ++ (u2 f.name ++ (u2 f.descriptor ++ table field_part f.parts))

pub record FieldFits (places : List Entry) (f : FieldTree) : Type 0 where
  pub flags : f.flags < 2 ^ 16
  pub name : f.name < 2 ^ 16
  pub descriptor : f.descriptor < 2 ^ 16
  pub parts : TableFits (FieldPartFits f.flags places) f.parts

-- ---- methods (JVMS 4.6)

abbrev pub method_part_name : MethodPart → ℕ
method_part_name (CodeOf name c) = name
method_part_name (SkippedOfMethod a) = a.name

abbrev pub method_part_body : MethodPart → List ℕ
method_part_body (CodeOf name c) = code c
method_part_body (SkippedOfMethod a) = a.bytes

abbrev pub method_part : MethodPart → List ℕ
method_part p = u2 (method_part_name p) ++ sized (method_part_body p)

-- Code counts on methods alone (JVMS 4.7.3)
abbrev pub is_code : List Entry → ℕ → Bool
is_code places name = names (codes "Code") places name

abbrev pub IsCode : MethodPart → Type 0
IsCode (CodeOf name c) = CodeFits c
IsCode (SkippedOfMethod a) = ⊥

abbrev pub IsSkippedOfMethod : MethodPart → Type 0
IsSkippedOfMethod (CodeOf name c) = ⊥
IsSkippedOfMethod (SkippedOfMethod a) = Unit {0}

pub record MethodPartFits (places : List Entry) (p : MethodPart) : Type 0 where
  pub name : method_part_name p < 2 ^ 16
  pub body : length (method_part_body p) < 2 ^ 32
  pub kind : MatchBool (is_code places (method_part_name p)) (IsCode p) (IsSkippedOfMethod p)

abbrev pub method : MethodTree → List ℕ
method m = u2 m.flags ++ (u2 m.name ++ (u2 m.descriptor ++ table method_part m.parts))

pub record MethodFits (places : List Entry) (m : MethodTree) : Type 0 where
  pub flags : m.flags < 2 ^ 16
  pub name : m.name < 2 ^ 16
  pub descriptor : m.descriptor < 2 ^ 16
  pub parts : TableFits (MethodPartFits places) m.parts

-- ---- the file (JVMS 4.1)

abbrev pub magic : List ℕ
magic = u4 0xcafebabe

-- minor_version 0 and major_version 49
abbrev pub version : List ℕ
version = u2 0 ++ u2 49

-- what stands behind the version
abbrev pub parts : FileTree → List ℕ
parts c = pool c.pool ++ (u2 c.flags ++ (u2 c.this_class ++ (u2 c.super_class ++ (table u2 c.interfaces ++ (table field c.fields ++ (table method c.methods ++ table skipped c.attributes))))))

abbrev pub file : FileTree → List ℕ
file c = magic ++ (version ++ parts c)

pub record FileFits (c : FileTree) : Type 0 where
  pub pool : PoolFits c.pool
  pub flags : c.flags < 2 ^ 16
  pub this_class : c.this_class < 2 ^ 16
  pub super_class : c.super_class < 2 ^ 16
  pub interfaces : TableFits (λ n. n < 2 ^ 16) c.interfaces
  pub fields : TableFits (FieldFits c.pool) c.fields
  pub methods : TableFits (MethodFits c.pool) c.methods
  pub attributes : TableFits SkippedFits c.attributes

-- The bytes are the parts of the tree one after the other, with nothing left over.
pub record Layout (bytes : List ℕ) (c : FileTree) : Type 0 where
  pub spelled : bytes ≡ file c
  pub fits : FileFits c
