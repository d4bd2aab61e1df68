-- The trees of `Rattle.model.specs.Tree` that the values of this crate hold.
use Rattle.std.specs.Prelude.{map}
use Rattle.class_tree.specs.declared.tree.Attribute.{Attribute}
use Rattle.class_tree.specs.declared.tree.Code as declared_code
use Rattle.class_tree.specs.declared.tree.FieldAttribute.{FieldAttribute}
use Rattle.class_tree.specs.declared.tree.FieldAttribute.TheVariants as field_attributes
use Rattle.class_tree.specs.declared.tree.MethodAttribute.{MethodAttribute}
use Rattle.class_tree.specs.declared.tree.MethodAttribute.TheVariants as method_attributes
use Rattle.class_tree.specs.declared.tree.Field as declared_field
use Rattle.class_tree.specs.declared.tree.Method as declared_method
use Rattle.class_tree.specs.declared.tree.ClassFile.{ClassFile}
use Rattle.model.specs.Tree.{SkippedTree, CodeTree, FieldPart, ConstantOf, SkippedOfField, MethodPart, CodeOf, SkippedOfMethod, FieldTree, MethodTree, FileTree}

abbrev pub skipped_of : Attribute → SkippedTree
skipped_of a = record { name = a.name; bytes = a.bytes.items }

abbrev pub code_of : declared_code.Code → CodeTree
code_of c = record { max_stack = c.max_stack; max_locals = c.max_locals; code = c.code.items; exceptions = c.exceptions.items; attributes = map skipped_of c.attributes.items }

abbrev pub field_part_of : FieldAttribute → FieldPart
field_part_of (field_attributes.ConstantValue name index) = ConstantOf name index
field_part_of (field_attributes.Skipped a) = SkippedOfField (skipped_of a)

abbrev pub method_part_of : MethodAttribute → MethodPart
method_part_of (method_attributes.Code name code) = CodeOf name (code_of code.value)
method_part_of (method_attributes.Skipped a) = SkippedOfMethod (skipped_of a)

abbrev pub field_of : declared_field.Field → FieldTree
field_of f = record { flags = f.flags; name = f.name; descriptor = f.descriptor; parts = map field_part_of f.attributes.items }

abbrev pub method_of : declared_method.Method → MethodTree
method_of m = record { flags = m.flags; name = m.name; descriptor = m.descriptor; parts = map method_part_of m.attributes.items }

abbrev pub file_of : ClassFile → FileTree
file_of c = record { pool = c.pool; flags = c.flags; this_class = c.this_class; super_class = c.super_class; interfaces = c.interfaces.items; fields = map field_of c.fields.items; methods = map method_of c.methods.items; attributes = map skipped_of c.attributes.items }
