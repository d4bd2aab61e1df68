-- The methods with code of the built-in classes have their typings in each program, by a test.
use Rattle.std.proofs.Common.{◌≡◌, refl, true}
use Rattle.std.specs.List.{list_all}
use Rattle.model.specs.OpcodeTable.{low_form, high_form}
use Rattle.model.specs.Instruction.{wide_at, table_switch_at, lookup_switch_at}
use Rattle.model.specs.InstructionStarts.{starts_from}
use Rattle.model.specs.BuiltIn.{built_in_classes}
use Rattle.model.specs.Classes.{Program}
use Rattle.model.specs.DescriptorScan.{element_at, field_at, field_type, parameters_at, method_type}
use Rattle.model.specs.Typing.{AreTyped}
use Rattle.run_laws.specs.examples.BuiltInTypings.{built_in_types}
use Rattle.run_laws.proofs.examples.TableProofs.{Table, class_typed, are_typed}

-- the files of the program stay open: nothing of them is looked at
pub each_typed : (files : Program) → list_all (class_typed files built_in_types) built_in_classes ≡ true
unfolding low_form high_form wide_at table_switch_at lookup_switch_at starts_from built_in_classes element_at field_at field_type parameters_at method_type
each_typed files = refl

-- a program has its typings where the classes of its files have theirs
pub program_typed : (files : Program) (table : Table) → list_all (class_typed files table) files ≡ true → AreTyped files
program_typed files table h = are_typed files built_in_types table (each_typed files) h
