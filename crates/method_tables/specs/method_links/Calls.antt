-- What is needed at a call of a method (JVMS 2.6, 2.11.8).
use Rattle.std.specs.Prelude.{◌≡◌, ℕ, ◌+◌, List, Option, Some, None, if◌then◌else◌, option_map, slice_get}
use Rattle.std.specs.Arc.{arc_value}
use Rattle.model.specs.Names.{Member}
use Rattle.model.specs.Tree.{CodeTree}
use Rattle.model.specs.Classes.{Program, Body, body_of}
use Rattle.model.specs.Lookup.{is_static_method, is_private_method, is_synchronized_method, is_native_method, is_abstract_method}
use Rattle.model.specs.Calls.{is_one, parameter_count}
use Rattle.hierarchy.specs.Places.{name_at}
use Rattle.method_tables.specs.declared.method_links.call.MethodCall.{MethodCall}
use Rattle.method_tables.specs.declared.method_links.call.FrameCode.{FrameCode}
use Rattle.method_tables.specs.method_links.Methods.{methods_of}

-- what a frame runs, and how large it is
pub record FrameNeeds : Type 0 where
  pub max_stack : ℕ
  pub max_locals : ℕ
  pub code : List ℕ

abbrev pub needs_of : CodeTree → FrameNeeds
needs_of code = record { max_stack = code.max_stack; max_locals = code.max_locals; code = code.code }

abbrev pub body_needs : Body → FrameNeeds
body_needs body = needs_of body.code

abbrev pub frame_needs : FrameCode → FrameNeeds
frame_needs f = record { max_stack = f.max_stack; max_locals = f.max_locals; code = (arc_value f.code).items }

-- how many operands a call takes: the arguments, and a receiver where the method is not static
abbrev pub operand_count : Program → Member → ℕ
operand_count files method = parameter_count method + (if is_one is_static_method files method then 0 else 1)

-- what is told of a method is what its class declares
pub record IsCallOf (files : Program) (method : Member) (call : MethodCall) : Type 0 where
  pub class : name_at files call.class ≡ method.class
  pub operands : call.operands ≡ operand_count files method
  pub static : call.is_static ≡ is_one is_static_method files method
  pub private : call.is_private ≡ is_one is_private_method files method
  pub synchronized : call.is_synchronized ≡ is_one is_synchronized_method files method
  pub native : call.is_native ≡ is_one is_native_method files method
  pub abstract : call.is_abstract ≡ is_one is_abstract_method files method
  -- it has code exactly where the method has a body
  pub code : option_map frame_needs call.code ≡ option_map body_needs (body_of files method)

-- of a method that is there
abbrev pub IsTold : Program → Option Member → Option MethodCall → Type 0
IsTold files None None = Unit {0}
IsTold files (Some method) (Some call) = IsCallOf files method call
IsTold files None (Some call) = ⊥
IsTold files (Some method) None = ⊥

-- of each method, by its number
abbrev pub AreCallsOf : Program → List MethodCall → Type 0
AreCallsOf files calls = (number : ℕ) → IsTold files (slice_get (methods_of files) number) (slice_get calls number)
