-- Where the conditions of OutsideProfile, and of Malformed with cause Code, stand in a class file.
use Rattle.std.specs.Prelude.{◌≡◌, ◌<◌, ℕ, List, Option, Some, None, Bool, true, false, not, ◌&&◌, ◌||◌, ◌==◌, length, nat_lt, take, slice_get, slice_index_or}
use Rattle.std.specs.Option.{option_map_or}
use Rattle.std.specs.List.{list_any}
use Rattle.model.specs.declared.class_file.ExceptionEntry.{ExceptionEntry}
use Rattle.model.specs.declared.instr.Instr.{Instr}
use Rattle.model.specs.declared.instr.Instr.TheVariants.{Invoke}
use Rattle.model.specs.declared.instr.Invocation.TheVariants as invocation
use Rattle.model.specs.Tree.{Entry, FieldTree, MethodTree, CodeTree, FileTree}
use Rattle.model.specs.Pool.{method_at}
use Rattle.model.specs.Instruction.{instr_at}
use Rattle.model.specs.InstructionStarts.{is_start}
use Rattle.model.specs.Classes.{Program, code_in}
use Rattle.model.specs.CodeParts.{end_of_decoding, decodes, any_code, any_decoded}
use Rattle.model.specs.Profile.{is_known_opcode, field_outside_profile, method_outside_profile, instruction_outside_profile, is_outside_profile}
use Rattle.model.specs.CodeConditions.{jump_off_boundary, unsorted_matches, local_above_max, operand_of_wrong_kind, wrong_interface_count, wrong_interface_end, constructor_not_by_special, calls_initialiser, is_class_aside, new_of_array, too_many_dimensions, too_few_locals, malformed_offset, ends_in_instruction, empty_range, handler_off_boundary, malformed_exception, malformed_exceptions, has_malformed_code}
use Rattle.classfile.specs.declared.profile.fault.Flaw.{Flaw}
use Rattle.classfile.specs.declared.profile.fault.Flaw.TheVariants.{OutsideProfile, MalformedCode}
use Rattle.classfile.specs.declared.profile.fault.ExceptionField.{ExceptionField}
use Rattle.classfile.specs.declared.profile.fault.ExceptionField.TheVariants.{StartPc, EndPc, HandlerPc}
use Rattle.classfile.specs.declared.profile.fault.Spot.{Spot}
use Rattle.classfile.specs.declared.profile.fault.Spot.TheVariants.{Declaration, MaxLocals, Instruction, Exception}
use Rattle.classfile.specs.declared.profile.fault.Place.{Place}
use Rattle.classfile.specs.declared.profile.fault.Place.TheVariants as places
use Rattle.classfile.specs.declared.profile.fault.Fault.{Fault}
use Rattle.classfile.specs.declared.profile.fault.MethodFault.{MethodFault}

-- ---- invokespecial of a class aside

-- the Methodref of an index names another method than a constructor, of a class that is neither the current one nor a
-- superclass of it
abbrev pub names_class_aside : Program → FileTree → ℕ → Bool
names_class_aside files file index = option_map_or (is_class_aside files file) (method_at file.pool index) false

-- what the rows of a table say of the indices; past its end nothing is said
abbrev pub row_of : List Bool → ℕ → Bool
row_of rows index = slice_index_or rows index false

-- a table says it of each index of the constant pool
abbrev pub TellsClassAside : Program → FileTree → List Bool → Type 0
TellsClassAside files file rows = (index : ℕ) → row_of rows index ≡ names_class_aside files file index

-- an invokespecial of an index of which it is said
abbrev pub special_of : (ℕ → Bool) → Instr → Bool
special_of aside (Invoke invocation.Special index) = aside index
special_of aside other = false

-- ---- the conditions of one file, with what is said of invokespecial

abbrev pub malformed_operand_by : (ℕ → Bool) → List Entry → Instr → Bool
malformed_operand_by aside pool i =
    operand_of_wrong_kind pool i
    || (wrong_interface_count pool i
    || (wrong_interface_end i
    || (constructor_not_by_special pool i
    || (calls_initialiser pool i
    || (special_of aside i
    || (new_of_array pool i
    || too_many_dimensions pool i))))))

abbrev pub malformed_instruction_by : (ℕ → Bool) → List Entry → CodeTree → ℕ → Instr → Bool
malformed_instruction_by aside pool c pc i =
    jump_off_boundary c pc i || (unsorted_matches c i || (local_above_max c i || malformed_operand_by aside pool i))

abbrev pub malformed_code_by : (ℕ → Bool) → FileTree → MethodTree → CodeTree → Bool
malformed_code_by aside file m c =
    too_few_locals file m c
    || (ends_in_instruction c
    || (any_decoded (malformed_instruction_by aside file.pool c) c
    || malformed_exceptions c))

abbrev pub malformed_method_by : (ℕ → Bool) → FileTree → MethodTree → Bool
malformed_method_by aside file m = option_map_or (malformed_code_by aside file m) (code_in m.parts) false

abbrev pub has_malformed_code_by : (ℕ → Bool) → FileTree → Bool
has_malformed_code_by aside file = any_code (malformed_code_by aside file) file

-- the conditions of OutsideProfile of a code, and of a method with its code
abbrev pub code_outside_profile : FileTree → CodeTree → Bool
code_outside_profile file c =
    option_map_or (λ pc. not (is_known_opcode c.code pc)) (end_of_decoding c.code) false
    || any_decoded (λ pc i. instruction_outside_profile file.pool i) c

abbrev pub whole_method_outside_profile : FileTree → MethodTree → Bool
whole_method_outside_profile file m = method_outside_profile file m || option_map_or (code_outside_profile file) (code_in m.parts) false

-- ---- where a condition stands

-- of the instruction at an offset
abbrev pub instruction_outside_at : List Entry → CodeTree → ℕ → Bool
instruction_outside_at pool c pc = option_map_or (instruction_outside_profile pool) (instr_at c.code pc) false

abbrev pub instruction_malformed_at : (ℕ → Bool) → List Entry → CodeTree → ℕ → Bool
instruction_malformed_at aside pool c pc = option_map_or (malformed_instruction_by aside pool c pc) (instr_at c.code pc) false

-- decoding ends at an offset
abbrev pub ends_at : List ℕ → ℕ → Bool
ends_at code pc = option_map_or (λ k. k == pc) (end_of_decoding code) false

-- of an offset at which decoding ends; and of the instruction there, in a code that decodes
abbrev pub outside_at : List Entry → CodeTree → ℕ → Bool
outside_at pool c pc = (ends_at c.code pc && not (is_known_opcode c.code pc)) || (decodes c.code && instruction_outside_at pool c pc)

abbrev pub malformed_at : (ℕ → Bool) → List Entry → CodeTree → ℕ → Bool
malformed_at aside pool c pc = (ends_at c.code pc && malformed_offset c pc) || (decodes c.code && instruction_malformed_at aside pool c pc)

-- of a field of an exception entry; an empty range is told of its start_pc
abbrev pub exception_stands : CodeTree → ExceptionField → ExceptionEntry → Bool
exception_stands c StartPc e = empty_range c e || not (is_start c.code e.start)
exception_stands c EndPc e = not (is_start c.code e.end || (e.end == length c.code))
exception_stands c HandlerPc e = handler_off_boundary c e

-- and of no field before it
abbrev pub is_first_field : CodeTree → ExceptionField → ExceptionEntry → Bool
is_first_field c StartPc e = exception_stands c StartPc e
is_first_field c EndPc e = not (exception_stands c StartPc e) && exception_stands c EndPc e
is_first_field c HandlerPc e = not (exception_stands c StartPc e) && (not (exception_stands c EndPc e) && exception_stands c HandlerPc e)

-- a condition of the flaw stands at a spot of the code
abbrev pub code_stands : (ℕ → Bool) → FileTree → MethodTree → Flaw → Spot → CodeTree → Bool
code_stands aside file m OutsideProfile Declaration c = false
code_stands aside file m OutsideProfile MaxLocals c = false
code_stands aside file m OutsideProfile (Instruction pc) c = is_start c.code pc && outside_at file.pool c pc
code_stands aside file m OutsideProfile (Exception entry field) c = false
code_stands aside file m MalformedCode Declaration c = false
code_stands aside file m MalformedCode MaxLocals c = too_few_locals file m c
code_stands aside file m MalformedCode (Instruction pc) c = is_start c.code pc && malformed_at aside file.pool c pc
code_stands aside file m MalformedCode (Exception entry field) c = decodes c.code && option_map_or (exception_stands c field) (slice_get c.exceptions entry) false

abbrev pub declaration_stands : FileTree → Flaw → Spot → MethodTree → Bool
declaration_stands file OutsideProfile Declaration m = method_outside_profile file m
declaration_stands file OutsideProfile MaxLocals m = false
declaration_stands file OutsideProfile (Instruction pc) m = false
declaration_stands file OutsideProfile (Exception entry field) m = false
declaration_stands file MalformedCode spot m = false

-- a condition of the flaw stands at a spot of the method
abbrev pub method_stands : (ℕ → Bool) → FileTree → Flaw → Spot → MethodTree → Bool
method_stands aside file flaw spot m =
    declaration_stands file flaw spot m || option_map_or (code_stands aside file m flaw spot) (code_in m.parts) false

abbrev pub field_stands : FileTree → Flaw → FieldTree → Bool
field_stands file OutsideProfile f = field_outside_profile file f
field_stands file MalformedCode f = false

-- a condition of the flaw stands at a place of the class file
abbrev pub place_stands : (ℕ → Bool) → FileTree → Flaw → Place → Bool
place_stands aside file flaw (places.Field k) = option_map_or (field_stands file flaw) (slice_get file.fields k) false
place_stands aside file flaw (places.Method k spot) = option_map_or (method_stands aside file flaw spot) (slice_get file.methods k) false

-- ---- the order of the faults

-- the fields of an exception entry, as they stand in it
abbrev pub field_before : ExceptionField → ExceptionField → Bool
field_before StartPc EndPc = true
field_before StartPc HandlerPc = true
field_before EndPc HandlerPc = true
field_before other field = false

-- in a method: its declaration, max_locals, its instructions, its exception entries
abbrev pub spot_before : Spot → Spot → Bool
spot_before Declaration MaxLocals = true
spot_before Declaration (Instruction pc) = true
spot_before Declaration (Exception entry field) = true
spot_before MaxLocals (Instruction pc) = true
spot_before MaxLocals (Exception entry field) = true
spot_before (Instruction j) (Instruction pc) = nat_lt j pc
spot_before (Instruction j) (Exception entry field) = true
spot_before (Exception j other) (Exception entry field) = nat_lt j entry || (j == entry && field_before other field)
spot_before other spot = false

-- in a class file: its fields, then its methods
abbrev pub place_before : Place → Place → Bool
place_before (places.Field j) (places.Field k) = nat_lt j k
place_before (places.Field j) (places.Method k spot) = true
place_before (places.Method j other) (places.Field k) = false
place_before (places.Method j other) (places.Method k spot) = nat_lt j k || (j == k && spot_before other spot)

-- the fault stands, and none stands at a place before its own; of two at one place OutsideProfile is told
pub record IsFirstBy (aside : ℕ → Bool) (file : FileTree) (f : Fault) : Type 0 where
  pub stands : place_stands aside file f.flaw f.place ≡ true
  pub none_before : (flaw : Flaw) (place : Place) → place_before place f.place ≡ true → place_stands aside file flaw place ≡ false
  pub outside_told : f.flaw ≡ MalformedCode → place_stands aside file OutsideProfile f.place ≡ false

-- what is said of a program's class file: the first fault
abbrev pub IsFirstFault : Program → FileTree → Fault → Type 0
IsFirstFault files file f = IsFirstBy (names_class_aside files file) file f

-- ---- what is found

-- the condition of a flaw in a class file
abbrev pub has_flaw : Program → FileTree → Flaw → Bool
has_flaw files file OutsideProfile = is_outside_profile file
has_flaw files file MalformedCode = has_malformed_code files file

-- None is found where no condition stands; else the first fault is found, and so its flaw's condition stands
abbrev pub Finds : Program → FileTree → Option Fault → Type 0
Finds files file None = (is_outside_profile file ≡ false) × (has_malformed_code files file ≡ false)
Finds files file (Some f) = IsFirstFault files file f × (has_flaw files file f.flaw ≡ true)

-- the same of a table of what is aside, and of the parts of a class file

abbrev pub FindsBy : (ℕ → Bool) → FileTree → Option Fault → Type 0
FindsBy aside file None = (is_outside_profile file ≡ false) × (has_malformed_code_by aside file ≡ false)
FindsBy aside file (Some f) = IsFirstBy aside file f

-- what is found in the methods is the first fault where no field has one
abbrev pub FindsInMethods : (ℕ → Bool) → FileTree → Option Fault → Type 0
FindsInMethods aside file None = (list_any (whole_method_outside_profile file) file.methods ≡ false) × (has_malformed_code_by aside file ≡ false)
FindsInMethods aside file (Some f) = list_any (field_outside_profile file) file.fields ≡ false → IsFirstBy aside file f

pub record IsFirstInMethod (aside : ℕ → Bool) (file : FileTree) (m : MethodTree) (f : MethodFault) : Type 0 where
  pub stands : method_stands aside file f.flaw f.spot m ≡ true
  pub none_before : (flaw : Flaw) (spot : Spot) → spot_before spot f.spot ≡ true → method_stands aside file flaw spot m ≡ false
  pub outside_told : f.flaw ≡ MalformedCode → method_stands aside file OutsideProfile f.spot m ≡ false

abbrev pub FindsInMethod : (ℕ → Bool) → FileTree → MethodTree → Option MethodFault → Type 0
FindsInMethod aside file m None = (whole_method_outside_profile file m ≡ false) × (malformed_method_by aside file m ≡ false)
FindsInMethod aside file m (Some f) = IsFirstInMethod aside file m f

pub record IsFirstInCode (aside : ℕ → Bool) (file : FileTree) (m : MethodTree) (c : CodeTree) (f : MethodFault) : Type 0 where
  pub stands : code_stands aside file m f.flaw f.spot c ≡ true
  pub none_before : (flaw : Flaw) (spot : Spot) → spot_before spot f.spot ≡ true → code_stands aside file m flaw spot c ≡ false
  pub outside_told : f.flaw ≡ MalformedCode → code_stands aside file m OutsideProfile f.spot c ≡ false

abbrev pub FindsInCode : (ℕ → Bool) → FileTree → MethodTree → CodeTree → Option MethodFault → Type 0
FindsInCode aside file m c None = (code_outside_profile file c ≡ false) × (malformed_code_by aside file m c ≡ false)
FindsInCode aside file m c (Some f) = IsFirstInCode aside file m c f

-- what is found of one offset, by whether something is outside there, and whether something is malformed
abbrev pub Says : Option Flaw → Bool → Bool → Type 0
Says None outside malformed = (outside ≡ false) × (malformed ≡ false)
Says (Some OutsideProfile) outside malformed = outside ≡ true
Says (Some MalformedCode) outside malformed = (outside ≡ false) × (malformed ≡ true)

-- nothing of an instruction boundary
abbrev pub NothingAt : List ℕ → (ℕ → Bool) → (ℕ → Bool) → ℕ → Type 0
NothingAt code outside malformed k = is_start code k ≡ true → Says None (outside k) (malformed k)

-- what is found among the instruction boundaries: nothing of any, or a flaw of one and nothing of those before it
abbrev pub FindsAmong : List ℕ → (ℕ → Bool) → (ℕ → Bool) → Option (ℕ × Flaw) → Type 0
FindsAmong code outside malformed None = (k : ℕ) → NothingAt code outside malformed k
FindsAmong code outside malformed (Some found) =
    (is_start code found.0 ≡ true)
    × Says (Some found.1) (outside found.0) (malformed found.0)
    × ((k : ℕ) → k < found.0 → NothingAt code outside malformed k)

-- not of an instruction boundary
abbrev pub NotAt : List ℕ → (ℕ → Bool) → ℕ → Type 0
NotAt code test k = is_start code k ≡ true → test k ≡ false

-- what is found of a test among the instruction boundaries: the first that passes it, or that none does
abbrev pub FindsBoundary : List ℕ → (ℕ → Bool) → Option ℕ → Type 0
FindsBoundary code test None = (k : ℕ) → NotAt code test k
FindsBoundary code test (Some pc) = (is_start code pc ≡ true) × (test pc ≡ true) × ((k : ℕ) → k < pc → NotAt code test k)

-- what is found among exception entries: nothing, or a field of one, and nothing of the entries before it
abbrev pub FindsEntry : CodeTree → Option (ℕ × ExceptionField) → Type 0
FindsEntry c None = list_any (malformed_exception c) c.exceptions ≡ false
FindsEntry c (Some found) =
    (list_any (malformed_exception c) (take found.0 c.exceptions) ≡ false)
    × (option_map_or (is_first_field c found.1) (slice_get c.exceptions found.0) false ≡ true)

-- what is found of one exception entry
abbrev pub FindsField : CodeTree → ExceptionEntry → Option ExceptionField → Type 0
FindsField c e None = malformed_exception c e ≡ false
FindsField c e (Some field) = is_first_field c field e ≡ true
