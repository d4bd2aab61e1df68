-- Where the conditions of Unresolved stand in a class file (JVMS 5.4.3, 6.5).
use Rattle.std.specs.Prelude.{◌≡◌, ℕ, Option, Some, None, Bool, true, false, ◌&&◌, ◌||◌, slice_get}
use Rattle.std.specs.Option.{option_map_or}
use Rattle.std.specs.List.{list_any}
use Rattle.model.specs.declared.class_file.ExceptionEntry.{ExceptionEntry}
use Rattle.model.specs.Names.{Name}
use Rattle.model.specs.Tree.{FieldTree, MethodTree, CodeTree, FileTree}
use Rattle.model.specs.Conditions.{text_at}
use Rattle.model.specs.Instruction.{instr_at}
use Rattle.model.specs.InstructionStarts.{is_start}
use Rattle.model.specs.Classes.{Program, code_in}
use Rattle.model.specs.CodeParts.{boundaries}
use Rattle.model.specs.DescriptorParts.{classes_in}
use Rattle.model.specs.Hierarchy.{catch_class}
use Rattle.model.specs.Resolution.{is_missing, superclass_missing, interface_missing, is_missing_catch, unresolved_instruction}
use Rattle.link_conditions.specs.declared.resolution.place.UnresolvedPlace.{UnresolvedPlace}
use Rattle.link_conditions.specs.declared.resolution.place.UnresolvedPlace.TheVariants as places
use Rattle.link_conditions.specs.declared.resolution.place.Spot.{Spot}
use Rattle.link_conditions.specs.declared.resolution.place.Spot.TheVariants.{Declaration, Instruction, Exception}

-- ---- the conditions of the parts of a class file

-- a class of a descriptor is not found
abbrev pub lacks_class : Program → Name → Bool
lacks_class files descriptor = list_any (is_missing files) (classes_in descriptor)

abbrev pub class_stands : Program → FileTree → Bool
class_stands files file = superclass_missing files file || interface_missing files file

abbrev pub field_stands : Program → FileTree → FieldTree → Bool
field_stands files file f = lacks_class files (text_at file.pool f.descriptor)

abbrev pub declaration_stands : Program → FileTree → MethodTree → Bool
declaration_stands files file m = lacks_class files (text_at file.pool m.descriptor)

-- the instruction at an offset
abbrev pub instruction_stands : Program → FileTree → CodeTree → ℕ → Bool
instruction_stands files file c pc = option_map_or (unresolved_instruction files file) (instr_at c.code pc) false

-- the catch type of an exception entry
abbrev pub exception_stands : Program → FileTree → ExceptionEntry → Bool
exception_stands files file e = option_map_or (is_missing_catch files) (catch_class file.pool e) false

-- ---- the conditions at a place

abbrev pub code_stands : Program → FileTree → Spot → CodeTree → Bool
code_stands files file Declaration c = false
code_stands files file (Instruction pc) c = is_start c.code pc && instruction_stands files file c pc
code_stands files file (Exception entry) c = option_map_or (exception_stands files file) (slice_get c.exceptions entry) false

abbrev pub method_stands : Program → FileTree → Spot → MethodTree → Bool
method_stands files file Declaration m = declaration_stands files file m
method_stands files file (Instruction pc) m = option_map_or (code_stands files file (Instruction pc)) (code_in m.parts) false
method_stands files file (Exception entry) m = option_map_or (code_stands files file (Exception entry)) (code_in m.parts) false

-- a condition stands at a place of a class file of a program
abbrev pub stands_at : Program → FileTree → UnresolvedPlace → Bool
stands_at files file places.Class = class_stands files file
stands_at files file (places.Field k) = option_map_or (field_stands files file) (slice_get file.fields k) false
stands_at files file (places.Method k) = option_map_or (method_stands files file Declaration) (slice_get file.methods k) false
stands_at files file (places.Instruction k pc) = option_map_or (method_stands files file (Instruction pc)) (slice_get file.methods k) false
stands_at files file (places.Exception k entry) = option_map_or (method_stands files file (Exception entry)) (slice_get file.methods k) false

-- the place of a spot of a method
abbrev pub place_in : ℕ → Spot → UnresolvedPlace
place_in k Declaration = places.Method k
place_in k (Instruction pc) = places.Instruction k pc
place_in k (Exception entry) = places.Exception k entry

-- ---- what is found in a method

-- one of the conditions stands in a code, and in a method with its code
abbrev pub is_code_unresolved : Program → FileTree → CodeTree → Bool
is_code_unresolved files file c = list_any (instruction_stands files file c) (boundaries c.code) || list_any (exception_stands files file) c.exceptions

abbrev pub is_method_unresolved : Program → FileTree → MethodTree → Bool
is_method_unresolved files file m = declaration_stands files file m || option_map_or (is_code_unresolved files file) (code_in m.parts) false

-- nothing, where no condition stands, or a spot at which one does
abbrev pub FindsInCode : Program → FileTree → CodeTree → Option Spot → Type 0
FindsInCode files file c None = is_code_unresolved files file c ≡ false
FindsInCode files file c (Some spot) = code_stands files file spot c ≡ true

abbrev pub FindsInMethod : Program → FileTree → MethodTree → Option Spot → Type 0
FindsInMethod files file m None = is_method_unresolved files file m ≡ false
FindsInMethod files file m (Some spot) = method_stands files file spot m ≡ true

abbrev pub FindsInMethods : Program → FileTree → Option UnresolvedPlace → Type 0
FindsInMethods files file None = list_any (is_method_unresolved files file) file.methods ≡ false
FindsInMethods files file (Some place) = stands_at files file place ≡ true
