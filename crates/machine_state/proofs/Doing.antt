-- An instruction whose class is ready is done.
use Rattle.std.proofs.Common.{◌≡◌, ℕ, ◌∷◌, Option, Some, None, refl, ap, ◌∙◌}
use Rattle.std.specs.Option.{option_and_then}
use Rattle.model.specs.Names.{Name}
use Rattle.model.specs.Classes.{Program}
use Rattle.model.specs.Operands.{words}
use Rattle.model.specs.State.{Invocation, StackOf, WorldOf}
use Rattle.model.specs.ClassInitialisation.{Look, IsReady, look_at}
use Rattle.model.specs.Sites.{Site}
use Rattle.model.specs.Meanings.{meaning_of}
use Rattle.model.specs.Step.{SteppedOf, PartOf, enabled_if, needing, needing_class, ops_of, done, bytecode_by, bytecode_in}
use Rattle.machine_state.specs.Instructions.{AreInstructionsDone}

-- a class that is ready asks for nothing
pub needs_nothing : (trees : Program) (t : ℕ) (class : Option Name) (world : WorldOf ℕ) (stack : StackOf ℕ) (rest : SteppedOf (PartOf ℕ))
    → look_at t world class ≡ IsReady → needing_class words trees t class world stack rest ≡ rest
needs_nothing trees t None world stack rest ready = refl
needs_nothing trees t (Some class) world stack rest ready = ap (λ (look : Look). needing words trees t class look world stack rest) ready

pub instructions : AreInstructionsDone
instructions trees frames event world frame rest site meaning at ready =
    ap (bytecode_in words trees frames event world frame rest) at.is_body
    ∙ ap (λ (s : Option Site). bytecode_by words trees frames event world frame rest at.body.code.max_stack (option_and_then (meaning_of words trees) s)) at.stands
    ∙ ap (bytecode_by words trees frames event world frame rest at.body.code.max_stack) at.means
    ∙ ap (enabled_if (meaning.may event world (ops_of words meaning frame.place.slots)))
    (needs_nothing trees event.thread meaning.looks world (Invocation frame ∷ rest) (done words trees frames event world frame rest meaning) ready)
