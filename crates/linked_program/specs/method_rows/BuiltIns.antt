-- The methods of the machine that the rows of this crate's table stand for.
use Rattle.model.specs.Names.{Member}
use Rattle.model.specs.BuiltInMethods.{BuiltInMethod}
use Rattle.linked_code.specs.Methods.{built_in_of}
use Rattle.linked_program.specs.declared.method_rows.built_in.Declared.{Declared}

abbrev pub declared_member : Declared → Member
declared_member d = record { class = d.class.now; name = d.name.now; descriptor = d.descriptor.now }

abbrev pub entry_of : Declared → Member × BuiltInMethod
entry_of d = (declared_member d, built_in_of d.method)
