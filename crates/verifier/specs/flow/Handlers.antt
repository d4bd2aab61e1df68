-- The handlers of a method.
use Rattle.std.specs.Prelude.{◌≡◌, List, map}
use Rattle.std.specs.List.{AllByRecursion}
use Rattle.model.specs.Typing.{caught_type}
use Rattle.types.specs.View.{type_in}
use Rattle.types.specs.declared.method_code.declaration.MethodCode.{MethodCode}
use Rattle.types.specs.method_code.View.{files_of, body_of}
use Rattle.verifier.specs.declared.flow.handler.Handler as declared_handler

-- They are the entries of its exception table, each with the type of what it catches.
pub record AreHandlers (m : MethodCode) (hs : List declared_handler.Handler) : Type 0 where
  pub entries : map (λ (h : declared_handler.Handler). h.entry) hs ≡ (body_of m).code.exceptions
  pub caught : AllByRecursion (λ (h : declared_handler.Handler). type_in (files_of m) h.caught
      ≡ caught_type (files_of m) (body_of m).pool h.entry) hs
