-- The objects of the opening state, as a heap keeps them (own).
use Rattle.std.specs.Prelude.{◌≡◌, ℕ, ◌+◌, List, [], ◌∷◌, ◌++◌, false, length, map, replicate}
use Rattle.model.specs.BuiltInNumbers.{class_number, print_stream_number, string_number, thread_number}
use Rattle.model.specs.declared.limits.Limits.{Limits}
use Rattle.model.specs.Monitors.{unlocked}
use Rattle.model.specs.Texts.{Text}
use Rattle.heap.specs.declared.kind.ObjectKind.TheVariants as kind
use Rattle.heap.specs.Heap.{Object, Heap, fresh}
use Rattle.linked_code.specs.declared.program.LinkedProgram.{LinkedProgram}

-- ---- a heap of objects of the opening state

-- no thread owns a monitor, and no lock is fat
abbrev pub opened : Limits → List Object → Heap
opened limits objects =
    record {
      objects = objects;
      locks = record { monitors = replicate (length objects) unlocked; fat = replicate (length objects) false; limit = limits.monitors };
      opening = length objects;
      counted = 0;
      object_limit = limits.objects;
      cell_limit = limits.cells;
    }

-- these objects more
pub record AddsObjects (objects : List Object) (old new : Heap) : Type 0 where
  pub count : length new.objects ≡ length old.objects + length objects
  pub are : (limits : Limits) (before : List Object) → old ≡ opened limits before → new ≡ opened limits (before ++ objects)

-- ---- the objects, by the numbers of their classes: the built-in classes come first in each program

-- the Thread of main, by the word of its name; its other fields are its target, its number and its priority
abbrev pub main_thread : ℕ → Object
main_thread name = record { kind = kind.Instance thread_number; words = 0 ∷ name ∷ 0 ∷ 0 ∷ [] }

-- the PrintStream of System.out, the arguments, and the Thread of main
abbrev pub first_objects : (string_component name : ℕ) → List Object
first_objects string_component name =
    fresh (kind.Instance print_stream_number) 0
    ∷ fresh (kind.References string_component) 0
    ∷ main_thread name
    ∷ []

-- a String, whose words are the units of its text
abbrev pub string_object : Text → Object
string_object text = record { kind = kind.Instance string_number; words = text }

-- then a Class for each class, a String for each text, and the PrintStream of System.err
abbrev pub opening_objects : LinkedProgram → List Object
opening_objects p =
    first_objects p.string_component p.main_text
    ++ (replicate (length p.classes.items) (fresh (kind.Instance class_number) 0)
    ++ (map (λ text. string_object text.items) p.texts.items ++ fresh (kind.Instance print_stream_number) 0 ∷ []))
