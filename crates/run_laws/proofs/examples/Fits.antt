-- Whether a tree fits into its bytes, by a test.
use Rattle.std.proofs.Common.{◌≡◌, refl, ℕ, ◌+◌, ◌<◌, ◌^◌, List, [], ◌∷◌, length, Bool, true, false, ◌&&◌, nat_lt}
use Rattle.std.specs.Prelude.{IsFalse, MatchBool}
use Rattle.std.specs.List.{list_all, AllByRecursion}
use Rattle.std.proofs.lemmas.Bool.{ltb-true}
use Rattle.model.specs.declared.class_file.ExceptionEntry.{ExceptionEntry}
use Rattle.model.specs.Tree.{Entry, Utf8, Integer, Float, Long, Double, Class, String, Field, Method, InterfaceMethod, NameAndType, Unusable, SkippedTree, CodeTree, FieldPart, ConstantOf, SkippedOfField, MethodPart, CodeOf, SkippedOfMethod, FieldTree, MethodTree, FileTree}
use Rattle.model.specs.Spelling.{is_text_byte, EntryFits, is_wide, ArePlaced, PoolFits, TableFits, SkippedFits, ExceptionFits, is_code_length, CodeFits, is_constant_value, IsConstant, IsSkippedOfField, field_part_name, field_part_body, FieldPartFits, FieldFits, is_code, IsCode, IsSkippedOfMethod, method_part_name, method_part_body, MethodPartFits, MethodFits, FileFits}

abbrev pub Holds : Bool → Type 0
Holds true = Unit {0}
Holds false = ⊥

is_true : (b : Bool) → Holds b → b ≡ true
is_true true h = refl
is_true false h = absurd h

both : (a b : Bool) → Holds (a && b) → Holds a × Holds b
both true true h = (tt, tt)
both true false h = absurd h
both false b h = absurd h

below : (a b : ℕ) → Holds (nat_lt a b) → a < b
below a b h = ltb-true a b (is_true _ h)

all : {A : Type 0} (test : A → Bool) (P : A → Type 0) → ((x : A) → Holds (test x) → P x) → (xs : List A) → Holds (list_all test xs)
    → AllByRecursion P xs
all test P each [] h = tt
all test P each (x ∷ xs) h = let g = both (test x) (list_all test xs) h in (each x g.0, all test P each xs g.1)

abbrev is_u2 : ℕ → Bool
is_u2 n = nat_lt n (2 ^ 16)

abbrev is_u4 : ℕ → Bool
is_u4 n = nat_lt n (2 ^ 32)

abbrev is_u8 : ℕ → Bool
is_u8 n = nat_lt n (2 ^ 64)

abbrev is_table : {A : Type 0} → (A → Bool) → List A → Bool
is_table test xs = is_u2 (length xs) && list_all test xs

table : {A : Type 0} (test : A → Bool) (P : A → Type 0) → ((x : A) → Holds (test x) → P x) → (xs : List A) → Holds (is_table test xs)
    → TableFits P xs
table test P each xs h = let g = both (is_u2 (length xs)) (list_all test xs) h in (below _ _ g.0, all test P each xs g.1)

-- ---- the pool

abbrev are_u2 : ℕ → ℕ → Bool
are_u2 a b = is_u2 a && is_u2 b

abbrev entry_fits : Entry → Bool
entry_fits (Utf8 text) = is_u2 (length text) && list_all is_text_byte text
entry_fits (Integer bits) = is_u4 bits
entry_fits (Float bits) = is_u4 bits
entry_fits (Long bits) = is_u8 bits
entry_fits (Double bits) = is_u8 bits
entry_fits (Class name) = is_u2 name
entry_fits (String text) = is_u2 text
entry_fits (Field class name_and_type) = are_u2 class name_and_type
entry_fits (Method class name_and_type) = are_u2 class name_and_type
entry_fits (InterfaceMethod class name_and_type) = are_u2 class name_and_type
entry_fits (NameAndType name descriptor) = are_u2 name descriptor
entry_fits Unusable = false

two : (a b : ℕ) → Holds (are_u2 a b) → (a < 2 ^ 16) × (b < 2 ^ 16)
two a b h = let g = both (is_u2 a) (is_u2 b) h in (below _ _ g.0, below _ _ g.1)

entry : (e : Entry) → Holds (entry_fits e) → EntryFits e
entry (Utf8 text) h = let g = both (is_u2 (length text)) (list_all is_text_byte text) h in (below _ _ g.0, is_true _ g.1)
entry (Integer bits) h = below _ _ h
entry (Float bits) h = below _ _ h
entry (Long bits) h = below _ _ h
entry (Double bits) h = below _ _ h
entry (Class name) h = below _ _ h
entry (String text) h = below _ _ h
entry (Field class name_and_type) h = two class name_and_type h
entry (Method class name_and_type) h = two class name_and_type h
entry (InterfaceMethod class name_and_type) h = two class name_and_type h
entry (NameAndType name descriptor) h = two name descriptor h
entry Unusable h = absurd h

abbrev is_unusable : Entry → Bool
is_unusable Unusable = true
is_unusable _ = false

unusable : (e : Entry) → Holds (is_unusable e) → e ≡ Unusable
unusable Unusable h = refl
unusable (Utf8 text) h = absurd h
unusable (Integer bits) h = absurd h
unusable (Float bits) h = absurd h
unusable (Long bits) h = absurd h
unusable (Double bits) h = absurd h
unusable (Class name) h = absurd h
unusable (String text) h = absurd h
unusable (Field class name_and_type) h = absurd h
unusable (Method class name_and_type) h = absurd h
unusable (InterfaceMethod class name_and_type) h = absurd h
unusable (NameAndType name descriptor) h = absurd h

-- whether entries fit, behind one that takes two places or another
abbrev places_fit : Bool → List Entry → Bool
places_fit true [] = false
places_fit false [] = true
places_fit true (e ∷ places) = is_unusable e && places_fit false places
places_fit false (e ∷ places) = entry_fits e && places_fit (is_wide e) places

narrow : (b : Bool) → Holds (places_fit b []) → IsFalse b
narrow true h = absurd h
narrow false h = refl

following : (b : Bool) (f : Entry) (places : List Entry) → (Holds (places_fit false places) → ArePlaced places)
    → (Holds (places_fit false (f ∷ places)) → ArePlaced (f ∷ places)) → Holds (places_fit b (f ∷ places))
    → MatchBool b ((f ≡ Unusable) × ArePlaced places) (ArePlaced (f ∷ places))
following true f places skip go h = let g = both (is_unusable f) (places_fit false places) h in (unusable f g.0, skip g.1)
following false f places skip go h = go h

placed : (places : List Entry) → Holds (places_fit false places) → ArePlaced places
placed [] h = tt
placed (e ∷ []) h = let g = both (entry_fits e) (places_fit (is_wide e) []) h in (narrow (is_wide e) g.1, entry e g.0)
placed (e ∷ f ∷ places) h =
    let g = both (entry_fits e) (places_fit (is_wide e) (f ∷ places)) h in
    (entry e g.0, following (is_wide e) f places (λ r. placed places r) (λ r. placed (f ∷ places) r) g.1)

abbrev pool_fits : List Entry → Bool
pool_fits places = is_u2 (length places + 1) && places_fit false places

pool : (places : List Entry) → Holds (pool_fits places) → PoolFits places
pool places h = let g = both (is_u2 (length places + 1)) (places_fit false places) h in (below _ _ g.0, placed places g.1)

-- ---- attributes, fields and methods

abbrev skipped_fits : SkippedTree → Bool
skipped_fits a = is_u2 a.name && is_u4 (length a.bytes)

skipped : (a : SkippedTree) → Holds (skipped_fits a) → SkippedFits a
skipped a h = let g = both (is_u2 a.name) (is_u4 (length a.bytes)) h in record { name = below _ _ g.0; bytes = below _ _ g.1 }

abbrev exception_fits : ExceptionEntry → Bool
exception_fits e = are_u2 e.start e.end && are_u2 e.handler e.catch_type

exception : (e : ExceptionEntry) → Holds (exception_fits e) → ExceptionFits e
exception e h =
    let g = both (are_u2 e.start e.end) (are_u2 e.handler e.catch_type) h in
    let place = two e.start e.end g.0 in
    let handler = two e.handler e.catch_type g.1 in
    record { start = place.0; end = place.1; handler = handler.0; catch_type = handler.1 }

abbrev code_fits : CodeTree → Bool
code_fits c =
    (are_u2 c.max_stack c.max_locals) && (is_code_length (length c.code) && (is_table exception_fits c.exceptions && is_table skipped_fits c.attributes))

code : (c : CodeTree) → Holds (code_fits c) → CodeFits c
code c h =
    let g = both (are_u2 c.max_stack c.max_locals) (is_code_length (length c.code) && (is_table exception_fits c.exceptions && is_table skipped_fits c.attributes)) h in
    let sizes = two c.max_stack c.max_locals g.0 in
    let bytes = both (is_code_length (length c.code)) (is_table exception_fits c.exceptions && is_table skipped_fits c.attributes) g.1 in
    let tables = both (is_table exception_fits c.exceptions) (is_table skipped_fits c.attributes) bytes.1 in
    record {
      max_stack = sizes.0;
      max_locals = sizes.1;
      code = is_true _ bytes.0;
      exceptions = table exception_fits ExceptionFits exception c.exceptions tables.0;
      attributes = table skipped_fits SkippedFits skipped c.attributes tables.1;
    }

abbrev field_kind_fits : Bool → FieldPart → Bool
field_kind_fits true (ConstantOf name index) = is_u2 index
field_kind_fits true (SkippedOfField a) = false
field_kind_fits false (ConstantOf name index) = false
field_kind_fits false (SkippedOfField a) = true

field_kind : (is : Bool) (p : FieldPart) → Holds (field_kind_fits is p) → MatchBool is (IsConstant p) (IsSkippedOfField p)
field_kind true (ConstantOf name index) h = below _ _ h
field_kind true (SkippedOfField a) h = absurd h
field_kind false (ConstantOf name index) h = absurd h
field_kind false (SkippedOfField a) h = tt

abbrev field_part_fits : ℕ → List Entry → FieldPart → Bool
field_part_fits flags places p =
    (is_u2 (field_part_name p) && is_u4 (length (field_part_body p))) && field_kind_fits (is_constant_value flags places (field_part_name p)) p

field_part : (flags : ℕ) (places : List Entry) (p : FieldPart) → Holds (field_part_fits flags places p) → FieldPartFits flags places p
field_part flags places p h =
    let g = both (is_u2 (field_part_name p) && is_u4 (length (field_part_body p))) (field_kind_fits (is_constant_value flags places (field_part_name p)) p) h in
    let sizes = both (is_u2 (field_part_name p)) (is_u4 (length (field_part_body p))) g.0 in
    record { name = below _ _ sizes.0; body = below _ _ sizes.1; kind = field_kind (is_constant_value flags places (field_part_name p)) p g.1 }

abbrev field_fits : List Entry → FieldTree → Bool
field_fits places f = is_u2 f.flags && (are_u2 f.name f.descriptor && is_table (field_part_fits f.flags places) f.parts)

field : (places : List Entry) (f : FieldTree) → Holds (field_fits places f) → FieldFits places f
field places f h =
    let g = both (is_u2 f.flags) (are_u2 f.name f.descriptor && is_table (field_part_fits f.flags places) f.parts) h in
    let rest = both (are_u2 f.name f.descriptor) (is_table (field_part_fits f.flags places) f.parts) g.1 in
    let named = two f.name f.descriptor rest.0 in
    record {
      flags = below _ _ g.0;
      name = named.0;
      descriptor = named.1;
      parts = table (field_part_fits f.flags places) (FieldPartFits f.flags places) (field_part f.flags places) f.parts rest.1;
    }

abbrev kind_fits : Bool → MethodPart → Bool
kind_fits true (CodeOf name c) = code_fits c
kind_fits true (SkippedOfMethod a) = false
kind_fits false (CodeOf name c) = false
kind_fits false (SkippedOfMethod a) = true

kind : (is : Bool) (p : MethodPart) → Holds (kind_fits is p) → MatchBool is (IsCode p) (IsSkippedOfMethod p)
kind true (CodeOf name c) h = code c h
kind true (SkippedOfMethod a) h = absurd h
kind false (CodeOf name c) h = absurd h
kind false (SkippedOfMethod a) h = tt

abbrev part_fits : List Entry → MethodPart → Bool
part_fits places p = (is_u2 (method_part_name p) && is_u4 (length (method_part_body p))) && kind_fits (is_code places (method_part_name p)) p

part : (places : List Entry) (p : MethodPart) → Holds (part_fits places p) → MethodPartFits places p
part places p h =
    let g = both (is_u2 (method_part_name p) && is_u4 (length (method_part_body p))) (kind_fits (is_code places (method_part_name p)) p) h in
    let sizes = both (is_u2 (method_part_name p)) (is_u4 (length (method_part_body p))) g.0 in
    record { name = below _ _ sizes.0; body = below _ _ sizes.1; kind = kind (is_code places (method_part_name p)) p g.1 }

abbrev method_fits : List Entry → MethodTree → Bool
method_fits places m = is_u2 m.flags && ((are_u2 m.name m.descriptor) && is_table (part_fits places) m.parts)

method : (places : List Entry) (m : MethodTree) → Holds (method_fits places m) → MethodFits places m
method places m h =
    let g = both (is_u2 m.flags) ((are_u2 m.name m.descriptor) && is_table (part_fits places) m.parts) h in
    let rest = both (are_u2 m.name m.descriptor) (is_table (part_fits places) m.parts) g.1 in
    let named = two m.name m.descriptor rest.0 in
    record { flags = below _ _ g.0; name = named.0; descriptor = named.1; parts = table (part_fits places) (MethodPartFits places) (part places) m.parts rest.1 }

-- ---- the file

abbrev numbers_fit : FileTree → Bool
numbers_fit c = is_u2 c.flags && (are_u2 c.this_class c.super_class)

abbrev tables_fit : FileTree → Bool
tables_fit c =
    (is_table is_u2 c.interfaces && is_table (field_fits c.pool) c.fields) && (is_table (method_fits c.pool) c.methods && is_table skipped_fits c.attributes)

abbrev pub file_fits : FileTree → Bool
file_fits c = (pool_fits c.pool && numbers_fit c) && tables_fit c

pub fits : (c : FileTree) → Holds (file_fits c) → FileFits c
fits c h =
    let g = both (pool_fits c.pool && numbers_fit c) (tables_fit c) h in
    let head = both (pool_fits c.pool) (numbers_fit c) g.0 in
    let flags = both (is_u2 c.flags) (are_u2 c.this_class c.super_class) head.1 in
    let names = two c.this_class c.super_class flags.1 in
    let tables = both (is_table is_u2 c.interfaces && is_table (field_fits c.pool) c.fields) (is_table (method_fits c.pool) c.methods && is_table skipped_fits c.attributes) g.1 in
    let first = both (is_table is_u2 c.interfaces) (is_table (field_fits c.pool) c.fields) tables.0 in
    let last = both (is_table (method_fits c.pool) c.methods) (is_table skipped_fits c.attributes) tables.1 in
    record {
      pool = pool c.pool head.0;
      flags = below _ _ flags.0;
      this_class = names.0;
      super_class = names.1;
      interfaces = table is_u2 (λ n. n < 2 ^ 16) (λ n. below n (2 ^ 16)) c.interfaces first.0;
      fields = table (field_fits c.pool) (FieldFits c.pool) (field c.pool) c.fields first.1;
      methods = table (method_fits c.pool) (MethodFits c.pool) (method c.pool) c.methods last.0;
      attributes = table skipped_fits SkippedFits skipped c.attributes last.1;
    }

pub all_fit : (files : List FileTree) → Holds (list_all file_fits files) → AllByRecursion FileFits files
all_fit files h = all file_fits FileFits fits files h
