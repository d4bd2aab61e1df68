-- The linked program of verified class files.
use Rattle.std.proofs.Common.{◌≡◌, sym, subst}
use Rattle.model.specs.Classes.{Program}
use Rattle.model.specs.Typing.{AreTyped}
use Rattle.linked_code.specs.Programs.{IsLinkedProgram}
use Rattle.linked_code.specs.declared.program.LinkedProgram.{LinkedProgram}
use Rattle.linker.specs.Linking.{IsLinked}
use Rattle.machine.specs.Machines.{IsProgramOf}

program_of : (trees : Program) (p : LinkedProgram) → IsLinked trees → AreTyped trees → IsLinkedProgram trees p → IsProgramOf trees p
program_of trees p linked typed program =
    record {
      files = linked.0;
      accepted = record { linkable = linked.1; typed = typed };
      program = record { files = linked.0; linkable = linked.1; linked = program };
    }

pub is_program : (trees linked : Program) (p q : LinkedProgram) → linked ≡ trees → q ≡ p → IsLinked linked → AreTyped trees
    → IsLinkedProgram linked p → IsProgramOf trees q
is_program trees linked p q same shared is_linked typed program =
    subst (IsProgramOf trees) (sym shared) (program_of trees p (subst IsLinked same is_linked) typed (subst (λ t. IsLinkedProgram t p) same program))
