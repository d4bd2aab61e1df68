-- What no instruction of the program writes, no other thread can write.
use Rattle.std.proofs.Common.{◌≡◌, [], ◌∷◌, Bool, true, Option, Some, None, refl}
use Rattle.std.specs.Option.{option_and_then}
use Rattle.std.proofs.lemmas.Option.{none-some}
use Rattle.model.specs.declared.value.Value.{Value}
use Rattle.model.specs.Classes.{Program, Body, body_of}
use Rattle.model.specs.Sites.{Site, site_at}
use Rattle.model.specs.State.{Frame, Invocation, Initialisation, StackOf}
use Rattle.search_laws.specs.Writes.{Variables, site_written, body_written, stack_written, AreWritesOfProgram, AreWritesOfProgramKept}

module _ (files : Program) (writes : Variables → Bool) (all : AreWritesOfProgram files writes) (variables : Variables) where
  by_site : (frame : Frame) (body : Body) → body_of files frame.method ≡ Some body → (o : Option Site)
      → site_at frame.method body frame.place.offset ≡ o → option_and_then (site_written files) o ≡ Some variables → writes variables ≡ true
  by_site frame body b None q e = absurd (none-some variables e)
  by_site frame body b (Some site) q e = all frame.method body frame.place.offset site variables b q e

  by_body : (frame : Frame) (o : Option Body) → body_of files frame.method ≡ o → option_and_then (body_written files frame) o ≡ Some variables
      → writes variables ≡ true
  by_body frame None q e = absurd (none-some variables e)
  by_body frame (Some body) q e = by_site frame body q (site_at frame.method body frame.place.offset) refl e

  pub by_stack : (stack : StackOf Value) → stack_written files stack ≡ Some variables → writes variables ≡ true
  by_stack [] e = absurd (none-some variables e)
  by_stack (Invocation frame ∷ stack) e = by_body frame (body_of files frame.method) refl e
  by_stack (Initialisation class phase ∷ stack) e = absurd (none-some variables e)

pub program_writes : AreWritesOfProgramKept
program_writes files frames writes all state t others later are r event next ne e stack there going variables q =
    by_stack files writes all variables stack q
