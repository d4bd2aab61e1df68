-- What instructions on fields mean, by the field that is found.
use Rattle.std.specs.Prelude.{Bool, false, ◌||◌}
use Rattle.model.specs.declared.value.Value.{Value}
use Rattle.model.specs.declared.instr.FieldAccess.{FieldAccess}
use Rattle.model.specs.declared.instr.FieldAccess.TheVariants as access
use Rattle.model.specs.Names.{Member, member_eq, system_out, system_err}
use Rattle.model.specs.Classes.{Program}
use Rattle.model.specs.Operands.{values}
use Rattle.model.specs.Sites.{MeaningOf, Site}
use Rattle.model.specs.Meanings.{get_static_of, put_static_of, get_field_of, put_field_of}

-- `getstatic` of System.out or System.err, which means what no look-up tells
abbrev pub gets_system_stream : FieldAccess → Member → Bool
gets_system_stream access.GetStatic named = member_eq named system_out || member_eq named system_err
gets_system_stream access.PutStatic named = false
gets_system_stream access.GetField named = false
gets_system_stream access.PutField named = false

-- the meaning, by the field that the instruction names and the one that is found
abbrev pub accessed : Program → Site → FieldAccess → Member → Member → MeaningOf Value
accessed files site access.GetStatic named field = get_static_of values files site.next field
accessed files site access.PutStatic named field = put_static_of values files site.next field
accessed files site access.GetField named field = get_field_of values files site.next named.class field
accessed files site access.PutField named field = put_field_of values files site.next named.class field
