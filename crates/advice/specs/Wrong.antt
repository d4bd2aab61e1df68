-- Where a class file of a program is outside of the profile, or names what is not found.
use Rattle.std.specs.Prelude.{ℕ, List, Bool, true, false, not, ◌&&◌, ◌||◌, slice_get}
use Rattle.std.specs.List.{list_any}
use Rattle.std.specs.Option.{option_map_or}
use Rattle.model.specs.declared.instr.Instr.{Instr}
use Rattle.model.specs.Tree.{FieldTree, MethodTree, CodeTree, FileTree}
use Rattle.model.specs.Instruction.{instr_at}
use Rattle.model.specs.InstructionStarts.{is_start}
use Rattle.model.specs.CodeParts.{begins_none, count_from}
use Rattle.model.specs.Classes.{Program, code_in}
use Rattle.model.specs.Profile.{field_outside_profile, method_outside_profile, instruction_outside_profile}
use Rattle.model.specs.Resolution.{unresolved_instruction}
use Rattle.link_conditions.specs.resolution.Unresolved.{class_stands, field_stands, declaration_stands, exception_stands}
use Rattle.advice.specs.declared.told.ToldPlace.{ToldPlace}
use Rattle.advice.specs.declared.told.ToldPlace.TheVariants as places

abbrev pub is_field_wrong : Program → FileTree → FieldTree → Bool
is_field_wrong files file f = field_outside_profile file f || field_stands files file f

abbrev pub is_declaration_wrong : Program → FileTree → MethodTree → Bool
is_declaration_wrong files file m = method_outside_profile file m || declaration_stands files file m

abbrev pub is_instruction_wrong : Program → FileTree → Instr → Bool
is_instruction_wrong files file i = instruction_outside_profile file.pool i || unresolved_instruction files file i

-- decoding comes to an instruction boundary: at none before it stands what this machine has not
abbrev pub is_end : List ℕ → ℕ → Bool
is_end code pc = is_start code pc && begins_none code pc

abbrev pub is_reached : List ℕ → ℕ → Bool
is_reached code pc = is_start code pc && not (list_any (is_end code) (count_from 0 pc))

-- of the instruction there, or that there is none
abbrev pub is_offset_wrong : Program → FileTree → CodeTree → ℕ → Bool
is_offset_wrong files file c pc = is_reached c.code pc && option_map_or (is_instruction_wrong files file) (instr_at c.code pc) true

abbrev pub is_entry_wrong : Program → FileTree → CodeTree → ℕ → Bool
is_entry_wrong files file c entry = option_map_or (exception_stands files file) (slice_get c.exceptions entry) false

-- of the code of a method
abbrev pub in_code : (CodeTree → ℕ → Bool) → ℕ → MethodTree → Bool
in_code test at m = option_map_or (λ (c : CodeTree). test c at) (code_in m.parts) false

-- something is wrong at a place of a class file of a program
abbrev pub is_wrong_at : Program → FileTree → ToldPlace → Bool
is_wrong_at files file places.File = false
is_wrong_at files file places.Class = class_stands files file
is_wrong_at files file (places.Field k) = option_map_or (is_field_wrong files file) (slice_get file.fields k) false
is_wrong_at files file (places.Method k) = option_map_or (is_declaration_wrong files file) (slice_get file.methods k) false
is_wrong_at files file (places.Instruction k pc) = option_map_or (in_code (is_offset_wrong files file) pc) (slice_get file.methods k) false
is_wrong_at files file (places.Exception k entry) = option_map_or (in_code (is_entry_wrong files file) entry) (slice_get file.methods k) false

-- the same of the class file of a number
abbrev pub is_wrong_in : Program → ℕ → ToldPlace → Bool
is_wrong_in files number place = option_map_or (λ file. is_wrong_at files file place) (slice_get files number) false
