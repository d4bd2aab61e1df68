-- What the declaration of a method tells of its calls.
use Rattle.std.specs.Prelude.{◌≡◌, ℕ, ◌+◌, if◌then◌else◌, length, option_map}
use Rattle.model.specs.Tree.{FileTree, MethodTree}
use Rattle.model.specs.Conditions.{text_at}
use Rattle.model.specs.Classes.{code_in}
use Rattle.model.specs.DescribedTypes.{parameters_declared}
use Rattle.model.specs.Lookup.{is_static_method, is_private_method, is_synchronized_method, is_native_method, is_abstract_method}
use Rattle.method_tables.specs.declared.method_links.call.MethodCall.{MethodCall}
use Rattle.method_tables.specs.method_links.Calls.{frame_needs, needs_of}

-- of a method of the class at a place
pub record Describes (place : ℕ) (file : FileTree) (method : MethodTree) (call : MethodCall) : Type 0 where
  pub class : call.class ≡ place
  pub operands : call.operands ≡ length (parameters_declared (text_at file.pool method.descriptor)) + (if is_static_method method then 0
      else 1)
  pub static : call.is_static ≡ is_static_method method
  pub private : call.is_private ≡ is_private_method method
  pub synchronized : call.is_synchronized ≡ is_synchronized_method method
  pub native : call.is_native ≡ is_native_method method
  pub abstract : call.is_abstract ≡ is_abstract_method method
  pub code : option_map frame_needs call.code ≡ option_map needs_of (code_in method.parts)
