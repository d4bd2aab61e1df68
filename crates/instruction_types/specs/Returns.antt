-- Which return instruction a method has (JVMS 6.5), by the type of its result.
use Rattle.std.specs.Prelude.{Option, Some, None, Bool}
use Rattle.model.specs.declared.instr.Returned.{Returned}
use Rattle.model.specs.declared.instr.Returned.TheVariants as returned
use Rattle.model.specs.Calls.{is_nothing, is_int_returned, is_reference_returned}
use Rattle.types.specs.declared.verification_type.VerificationType.{VerificationType}
use Rattle.types.specs.declared.verification_type.VerificationType.TheVariants as type

-- what is returned where the result is of a type
abbrev pub kind_of : Option VerificationType → Returned
kind_of None = returned.Nothing
kind_of (Some (type.Object t)) = returned.Reference
kind_of (Some other) = returned.Int

-- an instruction returns this
abbrev pub returns_as : Returned → Returned → Bool
returns_as kind returned.Nothing = is_nothing kind
returns_as kind returned.Int = is_int_returned kind
returns_as kind returned.Reference = is_reference_returned kind
