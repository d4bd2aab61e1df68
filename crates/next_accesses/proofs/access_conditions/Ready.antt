-- Classes that are there, and words that may stand in arrays.
use Rattle.std.proofs.Common.{◌≡◌, ℕ, zero, suc, List, [], ◌∷◌, Option, Some, None, Bool, false, sym, ap, subst, ◌∙◌}
use Rattle.std.specs.Prelude.{slice_get, slice_index_or}
use Rattle.std.specs.Option.{option_and_then}
use Rattle.model.specs.Operands.{words}
use Rattle.model.specs.State.{ObjectOf, Instance, Primitives, References, WorldOf, Characters}
use Rattle.model.specs.Worlds.{no_object}
use Rattle.model.specs.Arrays.{may_stand_in}
use Rattle.heap.specs.declared.kind.ObjectKind.{ObjectKind}
use Rattle.heap.specs.declared.kind.ObjectKind.TheVariants as kind
use Rattle.heap.specs.Heap.{Object}
use Rattle.linked_code.specs.declared.types.LinkedType.{LinkedType}
use Rattle.linked_code.specs.declared.program.LinkedProgram.{LinkedProgram}
use Rattle.machine_state.specs.declared.state.Shared.{Shared}
use Rattle.machine_state.specs.declared.class_initialisation.statuses.ClassLook.{ClassLook}
use Rattle.machine_state.specs.class_initialisation.Statuses.{IsLook, shown_look}
use Rattle.machine_state.specs.shown_objects.Shown.{IsKindOf, ShowsObjects}
use Rattle.machine_instructions.specs.type_instructions.Words.{component_by, component_in, TestsWord, TestsStore}
use Rattle.data_races.specs.EventActions.{is_ready}
use Rattle.next_accesses.specs.access_conditions.Conditions.{IsClassReady}

pub class_ready : (shared : Shared) (t number : ℕ) (found : ClassLook) → IsLook shared t number found → (told : Bool) → told ≡ is_ready (shown_look found)
    → IsClassReady shared t number told
class_ready shared t number found looks told is trees p bounds world program represents class numbered =
    is ∙ ap is_ready (looks trees p bounds world program represents class numbered)

-- by the component type, if it is an array of references
abbrev pub TestsIf : LinkedProgram → List Object → ℕ → Option LinkedType → Bool → Type 0
TestsIf p objects word None answer = answer ≡ false
TestsIf p objects word (Some type) answer = TestsWord p objects word type answer

pub store_tested : (p : LinkedProgram) (objects : List Object) (r word : ℕ) (answer : Bool) (component : Option LinkedType)
    → component ≡ option_and_then (component_in p.components.items) (slice_get objects r) → TestsIf p objects word component answer
    → TestsStore p objects r word answer
store_tested p objects r word answer component is tests files trees linkable linked world shows =
    at objects world.heap shows r (subst (λ c. TestsIf p objects word c answer) is tests)
  where
    none : answer ≡ false → answer ≡ may_stand_in words trees world no_object word
    none e = e

    by : (of : ObjectKind) (m : ObjectOf ℕ) → IsKindOf trees p.components.items of m
        → TestsIf p objects word (component_by p.components.items of) answer → answer ≡ may_stand_in words trees world m word
    by (kind.References number) (References type elements) h t =
        subst (λ c. TestsIf p objects word c answer) h.1 t files trees linkable linked (linked.components number h.0 h.1).tested world.heap type shows h.2
    by (kind.Instance number) (Instance class fields) h t = t
    by (kind.Instance number) (Characters text) h t = t
    by kind.Ints (Primitives of elements) h t = t
    by (kind.Narrow narrow) (Primitives of elements) h t = t
    by (kind.References number) (Instance class fields) h t = absurd h
    by (kind.References number) (Primitives of elements) h t = absurd h
    by (kind.References number) (Characters text) h t = absurd h
    by (kind.Instance number) (Primitives of elements) h t = absurd h
    by (kind.Instance number) (References of elements) h t = absurd h
    by kind.Ints (Instance class fields) h t = absurd h
    by kind.Ints (References of elements) h t = absurd h
    by kind.Ints (Characters text) h t = absurd h
    by (kind.Narrow narrow) (Instance class fields) h t = absurd h
    by (kind.Narrow narrow) (References of elements) h t = absurd h
    by (kind.Narrow narrow) (Characters text) h t = absurd h

    at : (os : List Object) (ms : List (ObjectOf ℕ)) → ShowsObjects trees p.components.items os ms
        → (k : ℕ) → TestsIf p objects word (option_and_then (component_in p.components.items) (slice_get os k)) answer
        → answer ≡ may_stand_in words trees world (slice_index_or ms k no_object) word
    at [] [] h k t = none t
    at [] (m ∷ ms) h k t = absurd h
    at (o ∷ os) [] h k t = absurd h
    at (o ∷ os) (m ∷ ms) h zero t = by o.kind m h.0.kind t
    at (o ∷ os) (m ∷ ms) h (suc k) t = at os ms h.1 k t
