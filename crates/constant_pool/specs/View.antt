-- The entries of `Rattle.model.specs.Tree` that the values of this crate hold.
use Rattle.std.specs.Prelude.{List, map}
use Rattle.constant_pool.specs.declared.constant.Constant.{Constant}
use Rattle.constant_pool.specs.declared.constant.Constant.TheVariants as constants
use Rattle.constant_pool.specs.declared.lookup.NameAndDescriptor as declared_name
use Rattle.constant_pool.specs.declared.lookup.Reference as declared_reference
use Rattle.model.specs.Pool.{NameAndDescriptor, Reference}
use Rattle.model.specs.Tree.{Entry, Utf8, Integer, Float, Long, Double, Class, String, Field, Method, InterfaceMethod, NameAndType, Unusable}

abbrev pub entry_of : Constant → Entry
entry_of (constants.Utf8 text) = Utf8 text.items
entry_of (constants.Integer bits) = Integer bits
entry_of (constants.Float bits) = Float bits
entry_of (constants.Long bits) = Long bits
entry_of (constants.Double bits) = Double bits
entry_of (constants.Class name) = Class name
entry_of (constants.String text) = String text
entry_of (constants.Field class name_and_type) = Field class name_and_type
entry_of (constants.Method class name_and_type) = Method class name_and_type
entry_of (constants.InterfaceMethod class name_and_type) = InterfaceMethod class name_and_type
entry_of (constants.NameAndType name descriptor) = NameAndType name descriptor
entry_of constants.Unusable = Unusable

abbrev pub entries_of : List Constant → List Entry
entries_of pool = map entry_of pool

abbrev pub name_and_descriptor_of : declared_name.NameAndDescriptor → NameAndDescriptor
name_and_descriptor_of n = record { name = n.name.now; descriptor = n.descriptor.now }

abbrev pub reference_of : declared_reference.Reference → Reference
reference_of r = record { class = r.class.now; name = r.name.now; descriptor = r.descriptor.now }
