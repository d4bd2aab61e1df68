-- A method as the first call of a thread needs it (JVMS 2.6, 2.11.10).
use Rattle.std.specs.Prelude.{◌≡◌, ℕ, Option, Some, None}
use Rattle.model.specs.Names.{Member}
use Rattle.model.specs.Classes.{Program, Body, body_of}
use Rattle.model.specs.Frames.{entered_by}
use Rattle.linked_code.specs.declared.program.LinkedProgram.{LinkedProgram}
use Rattle.linked_code.specs.Numbers.{IsMethodAt}
use Rattle.thread_stacks.specs.declared.entry.Callee.{Callee}
use Rattle.machine_state.specs.shown_stacks.Shown.{IsCallee}
use Rattle.machine_state.specs.Shown.{IsProgram}

-- a method with code, which enters the monitor of the object where it is synchronized
pub record IsFirstCallee (trees : Program) (p : LinkedProgram) (method : Member) (object : ℕ) (callee : Callee) : Type 0 where
  pub body : Body
  pub is_body : body_of trees method ≡ Some body
  pub is : IsCallee trees p callee method body
  pub entered : callee.entered ≡ entered_by trees method object

-- or one without
abbrev pub IsCalleeOf : Program → LinkedProgram → Member → (object : ℕ) → Option Callee → Type 0
IsCalleeOf trees p method object None = body_of trees method ≡ None
IsCalleeOf trees p method object (Some callee) = IsFirstCallee trees p method object callee

-- whatever method the number is of
abbrev pub IsCalleeAt : LinkedProgram → (number object : ℕ) → Option Callee → Type 0
IsCalleeAt p number object found = (trees : Program) → IsProgram trees p → (method : Member) → IsMethodAt trees number method → IsCalleeOf trees p method object found

-- no other monitor is entered
abbrev pub MayEnter : (object : ℕ) → Option ℕ → Type 0
MayEnter object None = Unit {0}
MayEnter object (Some entered) = entered ≡ object
