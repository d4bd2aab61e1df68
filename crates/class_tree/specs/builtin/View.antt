-- The members of the model that the values of this crate stand for.
use Rattle.std.specs.Prelude.{ℕ, List, Bool, ◌+◌, ◌*◌, ◌^◌, nat_lt, length, map, take, drop}
use Rattle.std.specs.List.{list_all}
use Rattle.std.specs.Option.{option_map}
use Rattle.model.specs.BuiltIn.{built_in_classes}
use Rattle.model.specs.BuiltInForm as model
use Rattle.model.specs.Tree.{Entry, Utf8, Integer, Class, String, Field, Method, InterfaceMethod, NameAndType, FieldTree, FileTree}
use Rattle.class_tree.specs.declared.builtin.form.Operand.{Operand}
use Rattle.class_tree.specs.declared.builtin.form.Operand.TheVariants as operands
use Rattle.class_tree.specs.declared.builtin.form.Declared as declared_member
use Rattle.class_tree.specs.declared.builtin.form.Stored as declared_field
use Rattle.class_tree.specs.declared.builtin.form.Coded as declared_code
use Rattle.class_tree.specs.declared.builtin.form.BuiltInClass as declared_class

abbrev pub declared_of : declared_member.Declared → model.Declared
declared_of m = model.declared m.0 m.1.now m.2.now

abbrev pub members_of : List declared_member.Declared → List model.Declared
members_of members = map declared_of members

abbrev pub operand_of : Operand → Entry
operand_of (operands.Utf8 text) = Utf8 text.now
operand_of (operands.Integer bits) = Integer bits
operand_of (operands.Class name) = Class name
operand_of (operands.String text) = String text
operand_of (operands.Field class name_and_type) = Field class name_and_type
operand_of (operands.Method class name_and_type) = Method class name_and_type
operand_of (operands.InterfaceMethod class name_and_type) = InterfaceMethod class name_and_type
operand_of (operands.NameAndType name descriptor) = NameAndType name descriptor

abbrev pub operands_of : List Operand → List Entry
operands_of entries = map operand_of entries

abbrev pub field_in : declared_field.Stored → FieldTree
field_in f = model.field f.0 f.1 f.2

abbrev pub fields_in : List declared_field.Stored → List FieldTree
fields_in fields = map field_in fields

abbrev pub coded_in : declared_code.Coded → model.Coded
coded_in m = model.coded m.0 m.1 m.2 m.3 m.4 m.5.now

abbrev pub codes_in : List declared_code.Coded → List model.Coded
codes_in methods = map coded_in methods

abbrev pub class_of : declared_class.BuiltInClass → model.BuiltInClass
class_of c =
    record {
      flags = c.flags;
      name = c.name.now;
      superclass = option_map (λ name. name.now) c.superclass;
      interfaces = map (λ name. name.now) c.interfaces.now;
      operands = operands_of c.operands.now;
      fields = fields_in c.fields.now;
      coded = codes_in c.coded.now;
      natives = members_of c.natives.now;
    }

abbrev pub tree_in : declared_class.BuiltInClass → FileTree
tree_in c = model.tree_of (class_of c)

abbrev pub trees_of : List declared_class.BuiltInClass → List FileTree
trees_of classes = map tree_in classes

-- all of its entries have an index each
abbrev pub fits : declared_class.BuiltInClass → Bool
fits c = nat_lt (6 + 2 * length c.interfaces.now + length c.operands.now + 2 * length c.natives.now) (2 ^ 16)

abbrev pub all_fit : List declared_class.BuiltInClass → Bool
all_fit classes = list_all fits classes

-- as many built-in classes, from a number on
abbrev pub built_in_from : ℕ → ℕ → List FileTree
built_in_from at count = take count (drop at built_in_classes)
