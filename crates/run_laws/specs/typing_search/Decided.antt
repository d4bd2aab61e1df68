-- Whether a method has a typing is decided: a search over it ends, with a typing or a proof that there is none.
use Rattle.std.specs.Prelude.{◌≡◌, ◌⊎◌, ℕ, List, Some}
use Rattle.std.specs.List.{AllByRecursion}
use Rattle.model.specs.Names.{Member}
use Rattle.model.specs.Classes.{Program, Body}
use Rattle.model.specs.TypeOrder.{FrameType}
use Rattle.model.specs.Typing.{HasTyping, entry_type, flow}
use Rattle.run_laws.specs.typing_search.Search.{HasNoTyping}
use Rattle.run_laws.specs.typing_search.Weights.{IsLowFrame}

-- the ranks of a method's types are limited: of those that it begins with, and of what an instruction makes of such
pub record IsBounded (files : Program) (method : Member) (body : Body) (limit : ℕ) : Type 0 where
  pub begins : IsLowFrame files limit (entry_type files method body)
  pub leads : (offset : ℕ) (t : FrameType) (leads : List (ℕ × FrameType))
      → flow files method body offset t ≡ Some leads → IsLowFrame files limit t
      → AllByRecursion (λ lead. IsLowFrame files limit lead.1) leads

abbrev pub IsDecided : Program → Member → Body → Type 0
IsDecided files method body = HasTyping files method body ⊎ HasNoTyping files method body
