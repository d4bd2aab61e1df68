-- The laws of attributes, fields and methods.
use Rattle.std.proofs.Common.{◌≡◌, ℕ, ◌^◌, ◌<◌, Bool, true, false, eqb, List, length, refl, sym, ap, subst, ◌∙◌, arith, IsTrue, MatchBool, lit<}
use Rattle.std.proofs.lemmas.Bool.{eqb-true}
use Rattle.std.proofs.lemmas.Bool.Decides.{nat_tests}
use Rattle.byteorder.specs.Numbers.{length-bytes_high_first}
use Rattle.constant_pool.specs.declared.reading.fault.Cause.TheVariants as causes
use Rattle.constant_pool.proofs.reading.Laws.{Laws, fits, last, made, either_laws, then, tested_laws}
use Rattle.constant_pool.proofs.reading.Fields.{u2_laws, u4_laws, bytes_laws, sized_laws, table_laws, whole_laws, filled_laws}
use Rattle.model.specs.declared.class_file.ExceptionEntry.{ExceptionEntry}
use Rattle.model.specs.Tree.{Entry, SkippedTree, CodeTree, FieldPart, ConstantOf, SkippedOfField, MethodPart, CodeOf, SkippedOfMethod, FieldTree, MethodTree}
use Rattle.model.specs.Spelling.{u2, sized, exception, ExceptionFits, skipped, SkippedFits, code, CodeFits, is_code_length, is_code, is_static, is_constant_value, field_part_name, field_part_body, field_part, IsConstant, IsSkippedOfField, FieldPartFits, field, FieldFits, method_part_name, method_part_body, method_part, IsCode, IsSkippedOfMethod, MethodPartFits, method, MethodFits}
use Rattle.classfile.specs.declared.part.Owner.{Owner}
use Rattle.classfile.specs.declared.part.Owner.TheVariants as owners
use Rattle.classfile.specs.FileReading.{exception_at, attribute_at, skipped_at, code_bytes_at, code_at, constant_at, field_part_at, field_at, method_part_at, method_at}

exception_laws : Laws exception_at exception ExceptionFits
unfolding exception_at
exception_laws =
    fits (then _ (λ e. e.start) u2_laws (λ start _.
    then _ (λ e. e.end) u2_laws (λ end _.
    then _ (λ e. e.handler) u2_laws (λ handler _.
    last (λ catch. record { start = start; end = end; handler = handler; catch_type = catch }) (λ e. e.catch_type) (λ _. refl) u2_laws)
    (λ handler e _ r. sym (ap (λ (x : ExceptionEntry). x.handler) r.1)))
    (λ end e _ r. sym (ap (λ (x : ExceptionEntry). x.end) r.1.1)))
    (λ start e _ r. sym (ap (λ (x : ExceptionEntry). x.start) r.1.1.1)))
    (λ e h. record { start = h.0; end = h.1.0; handler = h.1.1.0; catch_type = h.1.1.1.0 })
    (λ e h. (h.start, (h.end, (h.handler, (h.catch_type, refl)))))

attribute_laws : (owner : Owner) → Laws (attribute_at owner) sized (λ text. length text < 2 ^ 32)
attribute_laws owners.Code = whole_laws sized_laws
attribute_laws owners.Class = sized_laws
attribute_laws owners.StaticField = sized_laws
attribute_laws owners.InstanceField = sized_laws
attribute_laws owners.Method = sized_laws

pub skipped_laws : (owner : Owner) → Laws (skipped_at owner) skipped SkippedFits
unfolding skipped_at
skipped_laws owner =
    fits (then _ (λ a. a.name) u2_laws (λ name _. last (λ text. record { name = name; bytes = text }) (λ a. a.bytes) (λ _. refl) (attribute_laws owner)) (λ name a _ r. sym (ap (λ (x : SkippedTree). x.name) r.1)))
    (λ a h. record { name = h.0; bytes = h.1.0 })
    (λ a h. (h.name, (h.bytes, refl)))

-- a length of a code is one of four bytes
code_length_fits : (n : ℕ) → IsTrue (is_code_length n) → n < 2 ^ 32
code_length_fits n h = grind (arith, nat_tests)

code_bytes_laws : Laws code_bytes_at sized (λ text. IsTrue (is_code_length (length text)))
unfolding code_bytes_at
code_bytes_laws =
    fits (then _ length (tested_laws is_code_length causes.Attribute refl u4_laws) (λ n _. bytes_laws n) (λ n text _ r. r)) (λ text h. h.0.1) (λ text h. ((code_length_fits (length text) h, h), refl))

code_laws : Laws code_at code CodeFits
unfolding code_at
code_laws =
    fits (then _ (λ c. c.max_stack) u2_laws (λ stack _.
    then _ (λ c. c.max_locals) u2_laws (λ locals _.
    then _ (λ c. c.code) (whole_laws code_bytes_laws) (λ bytes _.
    then _ (λ c. c.exceptions) (whole_laws (table_laws exception_laws)) (λ exceptions _.
    last (λ others. record { max_stack = stack; max_locals = locals; code = bytes; exceptions = exceptions; attributes = others }) (λ c. c.attributes) (λ _. refl) (table_laws (skipped_laws owners.Code)))
    (λ exceptions c _ r. sym (ap (λ (x : CodeTree). x.exceptions) r.1)))
    (λ bytes c _ r. sym (ap (λ (x : CodeTree). x.code) r.1.1)))
    (λ locals c _ r. sym (ap (λ (x : CodeTree). x.max_locals) r.1.1.1)))
    (λ stack c _ r. sym (ap (λ (x : CodeTree). x.max_stack) r.1.1.1.1)))
    (λ c h. record { max_stack = h.0; max_locals = h.1.0; code = h.1.1.0; exceptions = h.1.1.1.0; attributes = h.1.1.1.1.0 })
    (λ c h. (h.max_stack, (h.max_locals, (h.code, (h.exceptions, (h.attributes, refl))))))

-- ---- methods

-- what a part is made of, behind its name
MadeCode : ℕ → MethodPart → Type 0
MadeCode name p = (c : CodeTree) × (((length (code c) < 2 ^ 32) × CodeFits c) × (CodeOf name c ≡ p))

MadeSkipped : ℕ → MethodPart → Type 0
MadeSkipped name p = (text : List ℕ) × ((length text < 2 ^ 32) × (SkippedOfMethod (record { name = name; bytes = text }) ≡ p))

IsPart : Bool → MethodPart → Type 0
IsPart b p = (length (method_part_body p) < 2 ^ 32) × MatchBool b (IsCode p) (IsSkippedOfMethod p)

part_there : (b : Bool) (name : ℕ) (p : MethodPart) → MatchBool b (MadeCode name p) (MadeSkipped name p)
    → IsPart b p × (method_part_name p ≡ name)
unfolding MadeCode MadeSkipped IsPart
part_there true name p h = subst (λ (q : MethodPart). IsPart true q × (method_part_name q ≡ name)) h.1.1 ((h.1.0.0, h.1.0.1), refl)
part_there false name p h = subst (λ (q : MethodPart). IsPart false q × (method_part_name q ≡ name)) h.1.1 ((h.1.0, tt), refl)

part_back : (b : Bool) (p : MethodPart) → IsPart b p → MatchBool b (MadeCode (method_part_name p) p) (MadeSkipped (method_part_name p) p)
unfolding MadeCode MadeSkipped IsPart
part_back true (CodeOf name c) h = (c, ((h.0, h.1), refl))
part_back true (SkippedOfMethod a) h = absurd h.1
part_back false (CodeOf name c) h = absurd h.1
part_back false (SkippedOfMethod a) h = (a.bytes, (h.0, refl))

method_part_laws : (pool : List Entry) → Laws (method_part_at pool) method_part (MethodPartFits pool)
unfolding method_part_at MadeCode MadeSkipped IsPart
method_part_laws pool =
    fits (then _ method_part_name u2_laws
    (λ name _. either_laws (is_code pool name)
    (made (λ c. CodeOf name c) (λ p. sized (method_part_body p)) (λ _. refl) (filled_laws code_laws))
    (made (λ text. SkippedOfMethod (record { name = name; bytes = text })) (λ p. sized (method_part_body p)) (λ _. refl) sized_laws))
    (λ name p _ r. (part_there (is_code pool name) name p r).1))
    (λ p h. let q = (part_there (is_code pool (method_part_name p)) (method_part_name p) p h.1).0 in record { name = h.0; body = q.0; kind = q.1 })
    (λ p h. (h.name, part_back (is_code pool (method_part_name p)) p (h.body, h.kind)))

pub method_laws : (pool : List Entry) → Laws (method_at pool) method (MethodFits pool)
unfolding method_at
method_laws pool =
    fits (then _ (λ m. m.flags) u2_laws (λ flags _.
    then _ (λ m. m.name) u2_laws (λ name _.
    then _ (λ m. m.descriptor) u2_laws (λ descriptor _.
    last (λ parts. record { flags = flags; name = name; descriptor = descriptor; parts = parts }) (λ m. m.parts) (λ _. refl) (table_laws (method_part_laws pool)))
    (λ descriptor m _ r. sym (ap (λ (x : MethodTree). x.descriptor) r.1)))
    (λ name m _ r. sym (ap (λ (x : MethodTree). x.name) r.1.1)))
    (λ flags m _ r. sym (ap (λ (x : MethodTree). x.flags) r.1.1.1)))
    (λ m h. record { flags = h.0; name = h.1.0; descriptor = h.1.1.0; parts = h.1.1.1.0 })
    (λ m h. (h.flags, (h.name, (h.descriptor, (h.parts, refl)))))

-- ---- fields

two_bytes : (n : ℕ) → length (u2 n) ≡ 2
two_bytes n = length-bytes_high_first 2 n

constant_laws : Laws constant_at (λ index. sized (u2 index)) (λ index. index < 2 ^ 16)
unfolding constant_at
constant_laws =
    fits (then _ (λ index. length (u2 index)) (tested_laws (λ n. eqb n 2) causes.Attribute refl u4_laws) (λ n _. u2_laws) (λ n index f r. two_bytes index ∙ sym (eqb-true n 2 f.1)))
    (λ index h. h.1)
    (λ index h. ((lit< tt, refl), h))

MadeConstant : ℕ → FieldPart → Type 0
MadeConstant name p = (index : ℕ) × ((index < 2 ^ 16) × (ConstantOf name index ≡ p))

MadeOther : ℕ → FieldPart → Type 0
MadeOther name p = (text : List ℕ) × ((length text < 2 ^ 32) × (SkippedOfField (record { name = name; bytes = text }) ≡ p))

IsFieldPart : Bool → FieldPart → Type 0
IsFieldPart b p = (length (field_part_body p) < 2 ^ 32) × MatchBool b (IsConstant p) (IsSkippedOfField p)

field_part_there : (b : Bool) (name : ℕ) (p : FieldPart) → MatchBool b (MadeConstant name p) (MadeOther name p)
    → IsFieldPart b p × (field_part_name p ≡ name)
unfolding MadeConstant MadeOther IsFieldPart
field_part_there true name p h = subst (λ (q : FieldPart). IsFieldPart true q × (field_part_name q ≡ name)) h.1.1 ((lit< tt, h.1.0), refl)
field_part_there false name p h = subst (λ (q : FieldPart). IsFieldPart false q × (field_part_name q ≡ name)) h.1.1 ((h.1.0, tt), refl)

field_part_back : (b : Bool) (p : FieldPart) → IsFieldPart b p
    → MatchBool b (MadeConstant (field_part_name p) p) (MadeOther (field_part_name p) p)
unfolding MadeConstant MadeOther IsFieldPart
field_part_back true (ConstantOf name index) h = (index, (h.1, refl))
field_part_back true (SkippedOfField a) h = absurd h.1
field_part_back false (ConstantOf name index) h = absurd h.1
field_part_back false (SkippedOfField a) h = (a.bytes, (h.0, refl))

field_part_laws : (flags : ℕ) (pool : List Entry) → Laws (field_part_at (is_static flags) pool) field_part (FieldPartFits flags pool)
unfolding field_part_at MadeConstant MadeOther IsFieldPart
field_part_laws flags pool =
    fits (then _ field_part_name u2_laws
    (λ name _. either_laws (is_constant_value flags pool name)
    (made (λ index. ConstantOf name index) (λ p. sized (field_part_body p)) (λ _. refl) constant_laws)
    (made (λ text. SkippedOfField (record { name = name; bytes = text })) (λ p. sized (field_part_body p)) (λ _. refl) sized_laws))
    (λ name p _ r. (field_part_there (is_constant_value flags pool name) name p r).1))
    (λ p h. let q = (field_part_there (is_constant_value flags pool (field_part_name p)) (field_part_name p) p h.1).0 in record { name = h.0; body = q.0; kind = q.1 })
    (λ p h. (h.name, field_part_back (is_constant_value flags pool (field_part_name p)) p (h.body, h.kind)))

pub field_laws : (pool : List Entry) → Laws (field_at pool) field (FieldFits pool)
unfolding field_at
field_laws pool =
    fits (then _ (λ m. m.flags) u2_laws (λ flags _.
    then _ (λ m. m.name) u2_laws (λ name _.
    then _ (λ m. m.descriptor) u2_laws (λ descriptor _.
    last (λ parts. record { flags = flags; name = name; descriptor = descriptor; parts = parts }) (λ m. m.parts) (λ _. refl) (table_laws (field_part_laws flags pool)))
    (λ descriptor m _ r. sym (ap (λ (x : FieldTree). x.descriptor) r.1)))
    (λ name m _ r. sym (ap (λ (x : FieldTree). x.name) r.1.1)))
    (λ flags m _ r. sym (ap (λ (x : FieldTree). x.flags) r.1.1.1)))
    (λ m h. record { flags = h.0; name = h.1.0; descriptor = h.1.1.0; parts = h.1.1.1.0 })
    (λ m h. (h.flags, (h.name, (h.descriptor, (h.parts, refl)))))
