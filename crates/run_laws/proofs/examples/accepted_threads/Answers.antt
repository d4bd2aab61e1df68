use Rattle.std.proofs.Common.{refl, [], ◌∷◌}
use Rattle.std.specs.Prelude.{codes}
use Rattle.std.specs.Fmt.{digits}
use Rattle.std.specs.Char.{encode_utf8}
use Rattle.std.specs.Char.Utf16.{utf16_chars}
use Rattle.model.specs.Names.{main_of}
use Rattle.model.specs.OpcodeTable.{low_form, high_form}
use Rattle.model.specs.Instruction.{wide_at, table_switch_at, lookup_switch_at}
use Rattle.model.specs.InstructionStarts.{starts_from}
use Rattle.model.specs.BuiltIn.{built_in_classes}
use Rattle.model.specs.Opening.{opening_heap}
use Rattle.model.specs.DescriptorScan.{element_at, field_at, field_type, parameters_at, method_type}
use Rattle.run_laws.specs.examples.AcceptedThreads.{files, constructor_of_a, constructor_of_t, run_of_t, constructor_of_a_types, constructor_of_t_types, run_of_t_types, main_types}
use Rattle.run_laws.proofs.examples.Fits.{fits}
use Rattle.run_laws.proofs.examples.TypingProofs.{is_typed}
use Rattle.run_laws.proofs.examples.TableProofs.{Table}
use Rattle.run_laws.proofs.examples.BuiltInTypingProofs.{program_typed}
use Rattle.run_laws.proofs.examples.accepted_threads.Goals as goal

abbrev table : Table
table =
    (constructor_of_a, constructor_of_a_types) ∷ (main_of (codes "A"), main_types) ∷ (constructor_of_t, constructor_of_t_types)
    ∷ (run_of_t, run_of_t_types) ∷ []

pub returns : goal.returns
unfolding low_form high_form wide_at table_switch_at lookup_switch_at starts_from built_in_classes opening_heap digits element_at field_at field_type parameters_at method_type utf16_chars encode_utf8
returns c =
    record {
      holds = record {
        accepted = record {
          linkable = record {
            spelled = (
              record {
                layout = record { spelled = refl; fits = fits _ tt };
                whole = record { indices = refl; names = refl; descriptors = refl; attributes = refl; members = refl };
              },
              (
                record {
                  layout = record { spelled = refl; fits = fits _ tt };
                  whole = record { indices = refl; names = refl; descriptors = refl; attributes = refl; members = refl };
                },
                tt,
              ),
            );
            no_refusal = refl;
          };
          typed = program_typed files table refl;
        };
        constructor_of_a_typed = record { body = _; is_body = refl; typed = is_typed _ _ _ constructor_of_a_types refl };
        main_typed = record { body = _; is_body = refl; typed = is_typed _ _ _ main_types refl };
        constructor_of_t_typed = record { body = _; is_body = refl; typed = is_typed _ _ _ constructor_of_t_types refl };
        run_of_t_typed = record { body = _; is_body = refl; typed = is_typed _ _ _ run_of_t_types refl };
        main_first = record { within = refl; ends = refl; means = refl };
        other_first = record { within = refl; ends = refl; means = refl };
      };
    }
