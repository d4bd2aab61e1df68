-- The object of a monitor instruction, and the frame after it (JVMS 2.6, 6.5). No public clause cites this module.
use Rattle.std.specs.Prelude.{◌≡◌, ℕ, ◌+◌, ◌<◌, ◌^◌, List, [], ◌∷◌, Option, None, slice_index_or}
use Rattle.model.specs.Operands.{word_reference}
use Rattle.thread_stacks.specs.Stacks.{ShownEntry, Invocation, Initialisation, at_place, replaced}

-- the object to which the operand on top refers, if it is not null
abbrev pub object_on : List ShownEntry → Option ℕ
object_on [] = None
object_on (Invocation frame ∷ stack) = word_reference (slice_index_or frame.operands 0 0)
object_on (Initialisation class phase ∷ stack) = None

-- the operand on top is gone, and the frame goes on at the next place, where a vector may have that place
abbrev pub GoesOn : (old new : List ShownEntry) → Type 0
GoesOn [] new = new ≡ []
GoesOn (Invocation frame ∷ stack) new = frame.place < 2 ^ 63 → new ≡ Invocation (at_place (frame.place + 1) (replaced 1 [] frame)) ∷ stack
GoesOn (Initialisation class phase ∷ stack) new = new ≡ Initialisation class phase ∷ stack
