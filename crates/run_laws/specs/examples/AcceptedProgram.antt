-- The program of a class A whose main prints 7 is accepted: it links, and each of its methods passes verification (JVMS
-- 4.10), Thread.run among them. In its run no operand of a wrong kind is met. And a program that links and is not accepted.
use Rattle.std.specs.Prelude.{◌≡◌, ℕ, List, [], ◌∷◌, Option, Some, None, Bool, false, map, replicate, codes}
use Rattle.std.specs.Option.{option_map}
use Rattle.model.specs.State.{Ended}
use Rattle.model.specs.WrongKind.{has_wrong_kind}
use Rattle.model.specs.Classes.{Program}
use Rattle.model.specs.Linkable.{IsLinkable}
use Rattle.model.specs.Accepted.{IsAccepted}
use Rattle.run_laws.specs.examples.Bytes.{hex}
use Rattle.run_laws.specs.examples.Printing as printing
use Rattle.run_laws.specs.examples.PrintsSeven.{prints_seven_bytes, prints_seven_file}
use Rattle.run_laws.specs.examples.Runs.{after, printed_in, statuses_in}

abbrev pub files : Program
files = prints_seven_file ∷ []

-- whether main's thread meets an operand of a wrong kind after so many events
abbrev pub wrong_kind_after : ℕ → Option Bool
wrong_kind_after n = option_map (λ state. has_wrong_kind files state 0) (after prints_seven_file n)

-- its main is iconst_0, iadd, return: an operand is missing
abbrev pub without_operand : Program
without_operand = printing.file_with 2 1 (hex (codes "0360b1")) ∷ []

-- its bytes: 15 bytes of Code, two places of the stack, one local variable, three bytes of code
abbrev pub without_operand_bytes : List ℕ
without_operand_bytes = printing.bytes_with (hex (codes "0000000f 0002 0001 00000003")) (hex (codes "0360b1"))

pub record AcceptedProgram : Type 0 where
  pub accepted : IsAccepted (prints_seven_bytes ∷ []) files
  -- a run of eight events reaches a state where main has ended and 7 was printed
  pub printed : printed_in (after prints_seven_file 8) ≡ Some (codes "7\n")
  pub ended : statuses_in (after prints_seven_file 8) ≡ Some (Ended None ∷ [])
  pub right_kinds : map wrong_kind_after (0 ∷ 1 ∷ 2 ∷ 3 ∷ 4 ∷ 5 ∷ 6 ∷ 7 ∷ 8 ∷ []) ≡ replicate 9 (Some false)
  -- the other one links, and whatever bytes spell it, it is not accepted
  pub links : IsLinkable (without_operand_bytes ∷ []) without_operand
  pub not_accepted : (bytes : List (List ℕ)) → IsAccepted bytes without_operand → ⊥
