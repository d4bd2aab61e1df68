-- What a method without code reads and writes, by the words of a frame (JLS 17.4.1).
use Rattle.std.specs.Prelude.{◌≡◌, ℕ, List, [], Option, Some, None}
use Rattle.model.specs.Classes.{Program}
use Rattle.linked_code.specs.declared.program.LinkedProgram.{LinkedProgram}
use Rattle.heap.specs.Heap.{Object}
use Rattle.race_places.specs.declared.run_actions.Action.{Action}
use Rattle.next_accesses.specs.accesses.Accesses.{object_under}
use Rattle.next_accesses.specs.builder_texts.Texts.{accesses_in, texts_on}
use Rattle.next_accesses.specs.copied_variables.Copied.{TellsCopied}
use Rattle.next_accesses.specs.declared.accessing_calls.AccessingMethod.{AccessingMethod}
use Rattle.next_accesses.specs.declared.accessing_calls.AccessingMethod.TheVariants.{Builds, Writes, Clones}
use Rattle.next_accesses.specs.element_ranges.Ranges.{actions_if, chars_accessed}

-- of an object, if it is not null
abbrev pub ClonesIf : Program → LinkedProgram → List Object → Option ℕ → List Action → Type 0
ClonesIf trees p objects None told = told ≡ []
ClonesIf trees p objects (Some object) told = TellsCopied trees p objects object told

abbrev pub ClonesOnTop : Program → LinkedProgram → List Object → List ℕ → List Action → Type 0
ClonesOnTop trees p objects operands told = ClonesIf trees p objects (object_under operands 0) told

abbrev pub AccessesBy : Program → LinkedProgram → List Object → List ℕ → AccessingMethod → List Action → Type 0
AccessesBy trees p objects operands (Builds method) told = told ≡ accesses_in (texts_on operands method)
AccessesBy trees p objects operands (Writes method) told = told ≡ actions_if (chars_accessed objects operands method)
AccessesBy trees p objects operands Clones told = ClonesOnTop trees p objects operands told
