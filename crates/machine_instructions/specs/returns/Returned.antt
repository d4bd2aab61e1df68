-- Returns (JVMS 2.6.4, 6.5 return, ireturn, areturn).
use Rattle.std.specs.Prelude.{◌≡◌, ℕ, List, ◌∷◌, Option, Some, None, Bool, true, false, drop, slice_index_or}
use Rattle.linked_code.specs.declared.instruction.LinkedInstruction.{LinkedInstruction}
use Rattle.linked_code.specs.declared.instruction.LinkedInstruction.TheVariants as linked
use Rattle.thread_stacks.specs.Stacks.{ShownFrame, ShownEntry, Invocation}

-- with a value, or with none
abbrev pub returning : Bool → LinkedInstruction
returning true = linked.ReturnValue
returning false = linked.Return

-- what the frame on top returns: the word on top of its operands, 0 where there is none, or nothing
abbrev pub result_in : Bool → List ShownEntry → Option ℕ
result_in true (Invocation frame ∷ others) = Some (slice_index_or frame.operands 0 0)
result_in value stack = None

-- the frame on top returns a value to its invoker
pub record IsGiven (stack : List ShownEntry) (returns : Option ℕ) : Type 0 where
  pub word : ℕ
  pub is : returns ≡ Some word
  pub invoker : ShownFrame
  pub others : List ShownEntry
  pub under : drop 1 stack ≡ Invocation invoker ∷ others
