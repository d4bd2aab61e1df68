-- Reading a class file from left to right, up to the first fault.
use Rattle.std.specs.Prelude.{ℕ, List, length, Ok, Result, Bool, true, false, ◌==◌, ◌&&◌, if◌then◌else◌, codes}
use Rattle.constant_pool.specs.declared.reading.fault.Cause.TheVariants as causes
use Rattle.constant_pool.specs.declared.reading.fault.Malformed.{Malformed}
use Rattle.constant_pool.specs.reading.Input.{Input}
use Rattle.constant_pool.specs.reading.Reading.{◌>>=◌, Read, fault, number_at, bytes_at, tested, pair_at, sized_at, table_at, whole_at, filled_at}
use Rattle.model.specs.declared.class_file.ExceptionEntry.{ExceptionEntry}
use Rattle.model.specs.Tree.{Entry, SkippedTree, CodeTree, FieldPart, ConstantOf, SkippedOfField, MethodPart, CodeOf, SkippedOfMethod, FieldTree, MethodTree, FileTree}
use Rattle.model.specs.Spelling.{is_code_length, is_static, names, is_code}
use Rattle.constant_pool.specs.PoolReading.{pool_at}
use Rattle.classfile.specs.declared.part.Owner.{Owner}
use Rattle.classfile.specs.declared.part.Owner.TheVariants as owners

-- ---- attributes

-- the bytes of an attribute; inside of a Code they fit, or their length does not
abbrev pub attribute_at : Owner → Input → Read (List ℕ)
attribute_at owners.Code i = whole_at sized_at i
attribute_at owner i = sized_at i

abbrev pub is_static_field : Owner → Bool
is_static_field owners.StaticField = true
is_static_field owner = false

unfoldable pub skipped_at : Owner → Input → Read SkippedTree
skipped_at owner i = do
  name ← number_at 2 i
  text ← attribute_at owner name.1
  Ok (record { name = name.0; bytes = text.0 }, text.1)

unfoldable pub exception_at : Input → Read ExceptionEntry
exception_at i = do
  start ← number_at 2 i
  end ← number_at 2 start.1
  handler ← number_at 2 end.1
  catch ← number_at 2 handler.1
  Ok (record { start = start.0; end = end.0; handler = handler.0; catch_type = catch.0 }, catch.1)

-- the bytes of a code: a length within bounds, and so many
unfoldable pub code_bytes_at : Input → Read (List ℕ)
code_bytes_at i = do
  n ← tested is_code_length causes.Attribute (number_at 4) i
  bytes_at n.0 n.1

unfoldable pub code_at : Input → Read CodeTree
code_at i = do
  stack ← number_at 2 i
  locals ← number_at 2 stack.1
  code ← whole_at code_bytes_at locals.1
  exceptions ← whole_at (table_at exception_at) code.1
  attributes ← table_at (skipped_at owners.Code) exceptions.1
  Ok (record { max_stack = stack.0; max_locals = locals.0; code = code.0; exceptions = exceptions.0; attributes = attributes.0 }, attributes.1)

-- the index in a ConstantValue, whose length is 2
unfoldable pub constant_at : Input → Read ℕ
constant_at i = do
  length ← tested (λ n. n == 2) causes.Attribute (number_at 4) i
  number_at 2 length.1

-- ---- members

unfoldable pub field_part_at : Bool → List Entry → Input → Read FieldPart
field_part_at static pool i = do
  name ← number_at 2 i
  if static && names (codes "ConstantValue") pool name.0 then (do
    index ← constant_at name.1
    Ok (ConstantOf name.0 index.0, index.1))
      else (do
        text ← sized_at name.1
        Ok (SkippedOfField (record { name = name.0; bytes = text.0 }), text.1))

unfoldable pub field_at : List Entry → Input → Read FieldTree
field_at pool i = do
  flags ← number_at 2 i
  name ← number_at 2 flags.1
  descriptor ← number_at 2 name.1
  parts ← table_at (field_part_at (is_static flags.0) pool) descriptor.1
  Ok (record { flags = flags.0; name = name.0; descriptor = descriptor.0; parts = parts.0 }, parts.1)

unfoldable pub method_part_at : List Entry → Input → Read MethodPart
method_part_at pool i = do
  name ← number_at 2 i
  if is_code pool name.0 then (do
    code ← filled_at code_at name.1
    Ok (CodeOf name.0 code.0, code.1))
      else (do
        text ← sized_at name.1
        Ok (SkippedOfMethod (record { name = name.0; bytes = text.0 }), text.1))

unfoldable pub method_at : List Entry → Input → Read MethodTree
method_at pool i = do
  flags ← number_at 2 i
  name ← number_at 2 flags.1
  descriptor ← number_at 2 name.1
  parts ← table_at (method_part_at pool) descriptor.1
  Ok (record { flags = flags.0; name = name.0; descriptor = descriptor.0; parts = parts.0 }, parts.1)

-- ---- the file

-- what stands behind the version
unfoldable pub parts_at : Input → Read FileTree
parts_at i = do
  pool ← pool_at i
  flags ← number_at 2 pool.1
  class ← number_at 2 flags.1
  super ← number_at 2 class.1
  interfaces ← table_at (number_at 2) super.1
  fields ← table_at (field_at pool.0) interfaces.1
  methods ← table_at (method_at pool.0) fields.1
  attributes ← table_at (skipped_at owners.Class) methods.1
  Ok (record { pool = pool.0; flags = flags.0; this_class = class.0; super_class = super.0; interfaces = interfaces.0; fields = fields.0; methods = methods.0; attributes = attributes.0 }, attributes.1)

-- minor_version and major_version
abbrev pub is_version : ℕ × ℕ → Bool
is_version v = (v.0 == 0) && (v.1 == 49)

unfoldable pub file_at : Input → Result FileTree Malformed
file_at i = do
  magic ← tested (λ n. n == 0xcafebabe) causes.Magic (number_at 4) i
  version ← tested is_version causes.Version pair_at magic.1
  parts ← parts_at version.1
  if length parts.1.rest == 0 then Ok parts.0 else fault causes.Trailing parts.1
