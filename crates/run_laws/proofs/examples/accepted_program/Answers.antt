use Rattle.std.proofs.Common.{refl, [], ◌∷◌, true, ◌||◌, false}
use Rattle.std.specs.Prelude.{codes}
use Rattle.std.specs.Fmt.{digits}
use Rattle.std.specs.Char.{encode_utf8}
use Rattle.std.specs.Char.Utf16.{utf16_chars}
use Rattle.model.specs.Names.{main_of}
use Rattle.model.specs.OpcodeTable.{low_form, high_form}
use Rattle.model.specs.Instruction.{wide_at, table_switch_at, lookup_switch_at}
use Rattle.model.specs.InstructionStarts.{starts_from}
use Rattle.model.specs.BuiltIn.{built_in_classes}
use Rattle.model.specs.Opening.{opening_heap}
use Rattle.model.specs.DescriptorScan.{element_at, field_at, field_type, parameters_at, method_type}
use Rattle.model.specs.Typing.{HasTyping}
use Rattle.run_laws.specs.examples.Bytes.{hex}
use Rattle.run_laws.specs.examples.Printing as printing
use Rattle.run_laws.specs.examples.AcceptedProgram.{files, without_operand}
use Rattle.run_laws.specs.examples.Typings.{strings, body_with, prints_seven_types}
use Rattle.run_laws.proofs.examples.Fits.{fits}
use Rattle.run_laws.proofs.examples.TypingProofs.{fails, next, begins}
use Rattle.run_laws.proofs.examples.TableProofs.{Table}
use Rattle.run_laws.proofs.examples.BuiltInTypingProofs.{program_typed}
use Rattle.run_laws.proofs.examples.accepted_program.Goals as goal

abbrev table : Table
table = (main_of (codes "A"), prints_seven_types) ∷ []

-- the `iadd` at 1 finds one int
untyped : HasTyping without_operand (main_of (codes "A")) (body_with printing.pool 2 1 (hex (codes "0360b1"))) → ⊥
unfolding low_form high_form built_in_classes element_at field_at field_type parameters_at method_type
untyped h =
    fails _ _ _ _ h.holds 1 1 (λ l c. refl) (next _ _ _ _ h.holds 0 0 1 (1 ∷ []) (λ l c. (c || false, refl)) (begins _ _ _ _ h.holds (strings ∷ []) true refl)).0

pub returns : goal.returns
unfolding low_form high_form wide_at table_switch_at lookup_switch_at starts_from built_in_classes opening_heap digits element_at field_at field_type parameters_at method_type utf16_chars encode_utf8
returns c =
    record {
      holds = record {
        accepted = record {
          linkable = record {
            spelled = (
              record {
                layout = record { spelled = refl; fits = fits _ tt };
                whole = record { indices = refl; names = refl; descriptors = refl; attributes = refl; members = refl };
              },
              tt,
            );
            no_refusal = refl;
          };
          typed = program_typed files table refl;
        };
        printed = refl;
        ended = refl;
        right_kinds = refl;
        links = record {
          spelled = (
            record {
              layout = record { spelled = refl; fits = fits _ tt };
              whole = record { indices = refl; names = refl; descriptors = refl; attributes = refl; members = refl };
            },
            tt,
          );
          no_refusal = refl;
        };
        not_accepted = λ bytes h. untyped (h.typed (main_of (codes "A")) (body_with printing.pool 2 1 (hex (codes "0360b1"))) refl);
      };
    }
