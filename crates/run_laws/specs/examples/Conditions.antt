-- Which conditions of `model` stand in a program, each by its name.
use Rattle.std.specs.Prelude.{ℕ, List, [], ◌∷◌, ◌++◌, Bool, false, not, ◌&&◌, codes, map}
use Rattle.std.specs.Option.{option_map_or}
use Rattle.std.specs.List.{filter, flat_map, list_any}
use Rattle.model.specs.declared.instr.Instr.{Instr}
use Rattle.model.specs.declared.class_file.ExceptionEntry.{ExceptionEntry}
use Rattle.model.specs.Names.{Name}
use Rattle.model.specs.Tree.{Entry, CodeTree, FileTree}
use Rattle.model.specs.Conditions.{file_indices, file_names, file_descriptors, file_attributes, members_differ}
use Rattle.model.specs.Classes.{Program}
use Rattle.model.specs.CodeParts.{end_of_decoding, decodes, any_code, any_decoded, any_decoded_in, any_instruction_in}
use Rattle.model.specs.Profile.{field_of_left_out_type, left_out_constant, instance_field_of_interface, method_of_left_out_type, native_method, initialiser_of_other_descriptor, abstract_initialiser, constructor_with_result, contradictory_abstract_method, contradictory_constructor, concrete_method_of_interface, unknown_opcode, operand_of_left_out_type, left_out_array, float_constant, array_class_constant, method_of_array_class}
use Rattle.model.specs.CodeConditions.{low_above_high, negative_count, cut_instruction, jump_off_boundary, unsorted_matches, local_above_max, too_few_locals, operand_of_wrong_kind, wrong_interface_count, wrong_interface_end, constructor_not_by_special, calls_initialiser, special_of_class_aside, new_of_array, too_many_dimensions, empty_range, range_off_boundary, handler_off_boundary}
use Rattle.model.specs.Hierarchy.{in_cycle, extends_interface, extends_final, implements_class, interface_below_other, redeclares, final_redeclared, static_redeclared, instance_redeclared, redeclared_in_other_package, redeclared_as_private, catches_no_throwable}
use Rattle.model.specs.Resolution.{superclass_missing, interface_missing, catch_type_missing, declared_class_missing, operand_class_missing, new_of_abstract, field_missing, field_of_other_kind, puts_system_stream, names_hidden_field, method_missing, names_hidden_method, method_of_other_kind, call_on_other_kind}
use Rattle.model.specs.Linkable.{too_many_files, too_many_strings, too_many_fields, two_of_one_name, has_built_in_name, no_file, no_static_main, LinkCondition, TooLarge, DuplicateClass, OutsideProfile, MalformedCode, BadHierarchy, Unresolved, TooManyFields, NoMain, stands, stands_first}

-- a name, and whether its condition stands
abbrev pub Named : Type 0
Named = Name × Bool

abbrev pub names_of : List Named → List Name
names_of conditions = map (λ (c : Named). c.0) (filter (λ (c : Named). c.1) conditions)

-- ---- of a file by itself

abbrev pub of_fields : FileTree → List Named
of_fields file =
    (codes "field_of_left_out_type", list_any (field_of_left_out_type file) file.fields)
    ∷ (codes "left_out_constant", list_any (left_out_constant file) file.fields)
    ∷ (codes "instance_field_of_interface", list_any (instance_field_of_interface file) file.fields)
    ∷ []

abbrev pub of_methods : FileTree → List Named
of_methods file =
    (codes "method_of_left_out_type", list_any (method_of_left_out_type file) file.methods)
    ∷ (codes "native_method", list_any (native_method file) file.methods)
    ∷ (codes "initialiser_of_other_descriptor", list_any (initialiser_of_other_descriptor file) file.methods)
    ∷ (codes "abstract_initialiser", list_any (abstract_initialiser file) file.methods)
    ∷ (codes "constructor_with_result", list_any (constructor_with_result file) file.methods)
    ∷ (codes "contradictory_abstract_method", list_any (contradictory_abstract_method file) file.methods)
    ∷ (codes "contradictory_constructor", list_any (contradictory_constructor file) file.methods)
    ∷ (codes "concrete_method_of_interface", list_any (concrete_method_of_interface file) file.methods)
    ∷ []

abbrev pub in_code : (List Entry → Instr → Bool) → FileTree → Bool
in_code test file = any_decoded_in (test file.pool) file

abbrev pub of_operands : FileTree → List Named
of_operands file =
    (codes "unknown_opcode", any_code unknown_opcode file)
    ∷ (codes "operand_of_left_out_type", in_code operand_of_left_out_type file)
    ∷ (codes "left_out_array", in_code left_out_array file)
    ∷ (codes "float_constant", in_code float_constant file)
    ∷ (codes "array_class_constant", in_code array_class_constant file)
    ∷ (codes "method_of_array_class", in_code method_of_array_class file)
    ∷ []

abbrev pub at_offset : (List ℕ → ℕ → Bool) → FileTree → Bool
at_offset test file = any_code (λ m c. option_map_or (test c.code) (end_of_decoding c.code) false) file

abbrev pub at_instruction : (CodeTree → ℕ → Instr → Bool) → FileTree → Bool
at_instruction test file = any_code (λ m c. any_decoded (test c) c) file

abbrev pub in_exceptions : (CodeTree → ExceptionEntry → Bool) → FileTree → Bool
in_exceptions test file = any_code (λ m c. decodes c.code && list_any (test c) c.exceptions) file

abbrev pub of_code : Program → FileTree → List Named
of_code files file =
    (codes "too_few_locals", any_code (too_few_locals file) file)
    ∷ (codes "low_above_high", at_offset low_above_high file)
    ∷ (codes "negative_count", at_offset negative_count file)
    ∷ (codes "cut_instruction", at_offset cut_instruction file)
    ∷ (codes "jump_off_boundary", at_instruction jump_off_boundary file)
    ∷ (codes "unsorted_matches", at_instruction (λ c pc i. unsorted_matches c i) file)
    ∷ (codes "local_above_max", at_instruction (λ c pc i. local_above_max c i) file)
    ∷ (codes "operand_of_wrong_kind", in_code operand_of_wrong_kind file)
    ∷ (codes "wrong_interface_count", in_code wrong_interface_count file)
    ∷ (codes "wrong_interface_end", in_code (λ pool i. wrong_interface_end i) file)
    ∷ (codes "constructor_not_by_special", in_code constructor_not_by_special file)
    ∷ (codes "calls_initialiser", in_code calls_initialiser file)
    ∷ (codes "special_of_class_aside", any_decoded_in (special_of_class_aside files file) file)
    ∷ (codes "new_of_array", in_code new_of_array file)
    ∷ (codes "too_many_dimensions", in_code too_many_dimensions file)
    ∷ (codes "empty_range", in_exceptions empty_range file)
    ∷ (codes "range_off_boundary", in_exceptions range_off_boundary file)
    ∷ (codes "handler_off_boundary", in_exceptions handler_off_boundary file)
    ∷ []

-- ---- of a file in its program

abbrev pub of_hierarchy : Program → FileTree → List Named
of_hierarchy files file =
    (codes "in_cycle", in_cycle files file)
    ∷ (codes "extends_interface", extends_interface files file)
    ∷ (codes "extends_final", extends_final files file)
    ∷ (codes "implements_class", implements_class files file)
    ∷ (codes "interface_below_other", interface_below_other files file)
    ∷ (codes "final_redeclared", redeclares final_redeclared files file)
    ∷ (codes "static_redeclared", redeclares static_redeclared files file)
    ∷ (codes "instance_redeclared", redeclares instance_redeclared files file)
    ∷ (codes "redeclared_in_other_package", redeclares redeclared_in_other_package files file)
    ∷ (codes "redeclared_as_private", redeclares redeclared_as_private files file)
    ∷ (codes "catches_no_throwable", catches_no_throwable files file)
    ∷ []

abbrev pub in_program : (Program → FileTree → Instr → Bool) → Program → FileTree → Bool
in_program test files file = any_instruction_in (test files file) file

abbrev pub of_resolution : Program → FileTree → List Named
of_resolution files file =
    (codes "superclass_missing", superclass_missing files file)
    ∷ (codes "interface_missing", interface_missing files file)
    ∷ (codes "catch_type_missing", catch_type_missing files file)
    ∷ (codes "declared_class_missing", declared_class_missing files file)
    ∷ (codes "operand_class_missing", in_program operand_class_missing files file)
    ∷ (codes "new_of_abstract", in_program new_of_abstract files file)
    ∷ (codes "field_missing", in_program field_missing files file)
    ∷ (codes "field_of_other_kind", in_program field_of_other_kind files file)
    ∷ (codes "puts_system_stream", in_program puts_system_stream files file)
    ∷ (codes "names_hidden_field", in_program names_hidden_field files file)
    ∷ (codes "method_missing", in_program method_missing files file)
    ∷ (codes "names_hidden_method", in_program names_hidden_method files file)
    ∷ (codes "method_of_other_kind", in_program method_of_other_kind files file)
    ∷ (codes "call_on_other_kind", in_program call_on_other_kind files file)
    ∷ []

-- ---- of a program

abbrev pub of_program : Program → List Named
of_program files =
    (codes "too_many_files", too_many_files files)
    ∷ (codes "too_many_strings", too_many_strings files)
    ∷ (codes "too_many_fields", list_any (too_many_fields files) files)
    ∷ (codes "two_of_one_name", two_of_one_name files)
    ∷ (codes "has_built_in_name", list_any has_built_in_name files)
    ∷ (codes "no_file", no_file files)
    ∷ (codes "no_static_main", no_static_main files)
    ∷ []

abbrev pub of_file : Program → FileTree → List Named
of_file files file =
    of_fields file ++ (of_methods file ++ (of_operands file ++ (of_code files file ++ (of_hierarchy files file ++ of_resolution files file))))

-- all that stand: those of each file, then those of the whole
abbrev pub standing : Program → List Name
standing files = names_of (flat_map (of_file files) files ++ of_program files)

-- the refusals that a condition stands for, and those that may be answered
abbrev pub refusals : List (Name × LinkCondition)
refusals =
    (codes "TooLarge", TooLarge)
    ∷ (codes "DuplicateClass", DuplicateClass)
    ∷ (codes "OutsideProfile", OutsideProfile)
    ∷ (codes "MalformedCode", MalformedCode)
    ∷ (codes "BadHierarchy", BadHierarchy)
    ∷ (codes "Unresolved", Unresolved)
    ∷ (codes "TooLarge by fields", TooManyFields)
    ∷ (codes "NoMain", NoMain)
    ∷ []

abbrev pub refused_as : Program → List Name
refused_as files = names_of (map (λ (r : Name × LinkCondition). (r.0, stands files r.1)) refusals)

abbrev pub answered_as : Program → List Name
answered_as files = names_of (map (λ (r : Name × LinkCondition). (r.0, stands_first files r.1)) refusals)

-- ---- of a class file (JVMS chapter 4)

-- the causes of Malformed that stand in a tree
abbrev pub malformed_as : FileTree → List Name
malformed_as file =
    names_of
    ((codes "Index", not (file_indices file))
    ∷ (codes "Name", not (file_names file))
    ∷ (codes "Descriptor", not (file_descriptors file))
    ∷ (codes "Attribute", not (file_attributes file))
    ∷ (codes "Duplicate", not (members_differ file))
    ∷ [])
