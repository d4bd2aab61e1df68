-- The instruction that is decoded is the one of the method of a number.
use Rattle.std.proofs.Common.{◌≡◌, ℕ, List, Option, Some, None, refl, sym, ap, ◌∙◌}
use Rattle.std.specs.Option.{option_map}
use Rattle.std.proofs.lemmas.Option.{same_Some}
use Rattle.model.specs.declared.instr.Instr.{Instr}
use Rattle.model.specs.Names.{Member}
use Rattle.model.specs.Instruction.{instr_at}
use Rattle.model.specs.Classes.{Program, Body}
use Rattle.model.specs.Classes as classes
use Rattle.types.specs.declared.method_code.declaration.MethodCode.{MethodCode}
use Rattle.types.specs.method_code.View.{body_of, shown}
use Rattle.code_places.specs.Methods.{IsMethodOf, with_body}
use Rattle.next_accesses.specs.access_tables.Tables.{IsInstructionAt}

pub looked : (files : Program) (number offset : ℕ) (m : MethodCode) → IsMethodOf files number (Some m) → (code : List ℕ) → code ≡ (body_of m).code.code
    → (told : Option Instr) → told ≡ instr_at code offset → IsInstructionAt files number offset told
looked files number offset m of code code_is told is method body numbered has =
    let same : shown m ≡ (method, body) = same_Some (shown m) (method, body) (of method numbered ∙ ap (option_map (with_body method)) has) in
    is ∙ ap (λ (bytes : List ℕ). instr_at bytes offset) (code_is ∙ ap (λ (x : Member × Body). x.1.code.code) same)

pub unlooked : (files : Program) (number offset : ℕ) → IsMethodOf files number None → (told : Option Instr) → IsInstructionAt files number offset told
unlooked files number offset of told method body numbered has = absurd (differs (of method numbered ∙ ap (option_map (with_body method)) has))
  where
    differs : {A : Type 0} {x : A} → None ≡ Some x → ⊥
    differs e = cc
