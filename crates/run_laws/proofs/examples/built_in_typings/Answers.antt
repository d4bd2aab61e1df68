use Rattle.run_laws.specs.examples.BuiltInTypings.{built_in_types}
use Rattle.run_laws.proofs.examples.TableProofs.{built_in_are_typed}
use Rattle.run_laws.proofs.examples.BuiltInTypingProofs.{each_typed}
use Rattle.run_laws.proofs.examples.built_in_typings.Goals as goal

pub returns : goal.returns
returns c =
    record {
      holds = record { typed = λ files method body there e. built_in_are_typed files built_in_types built_in_types (each_typed files) method body there e };
    }
