-- Methods by their numbers.
use Rattle.std.specs.Prelude.{◌≡◌, ℕ, Option}
use Rattle.std.specs.Option.{option_map}
use Rattle.model.specs.Names.{Member}
use Rattle.model.specs.Classes.{Program, Body}
use Rattle.model.specs.Classes as classes
use Rattle.linked_code.specs.Numbers.{IsMethodAt}
use Rattle.types.specs.declared.method_code.declaration.MethodCode.{MethodCode}
use Rattle.types.specs.method_code.View.{shown}

-- a method with its body
abbrev pub with_body : Member → Body → Member × Body
with_body method body = (method, body)

-- the method of a number, if it has code, with that
abbrev pub IsMethodOf : Program → ℕ → Option MethodCode → Type 0
IsMethodOf trees number found =
    (method : Member) → IsMethodAt trees number method → option_map shown found ≡ option_map (with_body method) (classes.body_of trees method)
