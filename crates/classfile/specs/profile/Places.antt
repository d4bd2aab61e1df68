-- Where a place of a method's code stands in the bytes of the class file (JVMS 4.7.3).
use Rattle.std.specs.Prelude.{ℕ, ◌+◌, ◌*◌, length, Option, Some, None, slice_get, option_map}
use Rattle.std.specs.Option.{option_and_then}
use Rattle.model.specs.Tree.{MethodTree, CodeTree, FileTree}
use Rattle.model.specs.Classes.{code_in}
use Rattle.constant_pool.specs.Checking.{saturated}
use Rattle.classfile.specs.CodePlace.{front_of_code}
use Rattle.classfile.specs.declared.profile.fault.ExceptionField.{ExceptionField}
use Rattle.classfile.specs.declared.profile.fault.ExceptionField.TheVariants.{StartPc, EndPc, HandlerPc}
use Rattle.classfile.specs.declared.profile.fault.Spot.{Spot}
use Rattle.classfile.specs.declared.profile.fault.Spot.TheVariants.{Declaration, MaxLocals, Instruction, Exception}
use Rattle.classfile.specs.declared.profile.fault.Place.{Place}
use Rattle.classfile.specs.declared.profile.fault.Place.TheVariants as places

abbrev pub field_offset : ExceptionField → ℕ
field_offset StartPc = 0
field_offset EndPc = 2
field_offset HandlerPc = 4

-- max_stack, max_locals and code_length stand before the code, exception_table_length before the entries of 8 bytes each
abbrev pub offset_in_code : CodeTree → Spot → Option ℕ
offset_in_code c Declaration = None
offset_in_code c MaxLocals = Some 2
offset_in_code c (Instruction pc) = Some (8 + pc)
offset_in_code c (Exception entry field) = Some (8 + length c.code + 2 + 8 * entry + field_offset field)

abbrev pub method_code : FileTree → ℕ → Option CodeTree
method_code file k = option_and_then (λ (m : MethodTree). code_in m.parts) (slice_get file.methods k)

-- behind what stands in the file before what the Code holds
abbrev pub place_offset : FileTree → Place → Option ℕ
place_offset file (places.Field k) = None
place_offset file (places.Method k spot) =
    option_map (λ n. saturated (length (front_of_code file k) + n)) (option_and_then (λ (c : CodeTree). offset_in_code c spot) (method_code file k))
