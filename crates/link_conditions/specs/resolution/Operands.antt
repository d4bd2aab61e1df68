-- What is asked of the field that an instruction accesses and of the method that it calls (JVMS 6.5), said of the member
-- that is found.
use Rattle.std.specs.Prelude.{Bool, true, false, ◌&&◌, ◌||◌}
use Rattle.std.specs.Option.{option_map_or}
use Rattle.model.specs.declared.instr.FieldAccess.{FieldAccess}
use Rattle.model.specs.declared.instr.FieldAccess.TheVariants as access
use Rattle.model.specs.Names.{Member}
use Rattle.model.specs.HiddenMembers.{is_hidden, is_hidden_method}
use Rattle.model.specs.Tree.{FieldTree, MethodTree}
use Rattle.model.specs.AccessFlags.{is_static_field, is_static_method}
use Rattle.model.specs.Classes.{Program}
use Rattle.model.specs.Lookup.{field_of, method_of}
use Rattle.model.specs.Resolution.{wants_static_field, differs, is_system_stream}

abbrev pub is_put_static : FieldAccess → Bool
is_put_static access.GetStatic = false
is_put_static access.PutStatic = true
is_put_static access.GetField = false
is_put_static access.PutField = false

-- an instruction may not access the field: it is of the other kind, or is System.out or System.err and put, or is hidden
abbrev pub fails_access : Program → FieldAccess → Member → Bool
fails_access files how m =
    option_map_or (λ (f : FieldTree). differs (wants_static_field how) (is_static_field f)) (field_of files m) false
    || ((is_put_static how && is_system_stream m) || is_hidden m)

-- a call may not have the method: it is hidden, or of the other kind
abbrev pub fails_call : Program → Bool → Member → Bool
fails_call files wants_static m =
    is_hidden_method m || option_map_or (λ (f : MethodTree). differs wants_static (is_static_method f)) (method_of files m) false
