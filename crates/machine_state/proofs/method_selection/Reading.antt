-- Rows, one by one.
use Rattle.std.proofs.Common.{◌≡◌, ℕ, zero, suc, List, [], ◌∷◌, Some, refl, subst}
use Rattle.std.specs.Prelude.{slice_get}
use Rattle.model.specs.Names.{Name, Member}
use Rattle.model.specs.Tree.{FileTree}
use Rattle.model.specs.Classes.{Program, classes_of}
use Rattle.linked_code.specs.declared.class.LinkedClass.{LinkedClass}
use Rattle.linked_code.specs.declared.method.LinkedMethod.{LinkedMethod}
use Rattle.linked_code.specs.declared.program.LinkedProgram.{LinkedProgram}
use Rattle.linked_code.specs.Numbers.{IsClassAt, IsMethodAt, methods_of}
use Rattle.linked_code.specs.ClassRows.{IsLinkedClass}
use Rattle.linked_code.specs.Methods.{IsLinkedMethod}
use Rattle.linked_code.specs.Programs.{AreClasses, AreMethods, IsLinkedProgram}
use Rattle.machine_state.specs.method_selection.Rows.{HasClass, HasMethod}

class_row : (files : Program) (cs : List FileTree) (ls : List LinkedClass) → AreClasses files cs ls → (n : ℕ) (file : FileTree)
    → slice_get cs n ≡ Some file
    → (l : LinkedClass) × (slice_get ls n ≡ Some l) × IsLinkedClass files file l
class_row files [] ls h n file e = absurd cc
class_row files (c ∷ cs) [] h n file e = absurd h
class_row files (c ∷ cs) (l ∷ ls) h zero file e = let same : c ≡ file = cc in (l, refl, subst (λ f. IsLinkedClass files f l) same h.0)
class_row files (c ∷ cs) (l ∷ ls) h (suc n) file e = class_row files cs ls h.1 n file e

method_row : (files : Program) (p : LinkedProgram) (ms : List Member) (ls : List LinkedMethod) → AreMethods files p ms ls → (n : ℕ)
    (method : Member) → slice_get ms n ≡ Some method
    → (l : LinkedMethod) × (slice_get ls n ≡ Some l) × IsLinkedMethod files p method l
method_row files p [] ls h n method e = absurd cc
method_row files p (m ∷ ms) [] h n method e = absurd h
method_row files p (m ∷ ms) (l ∷ ls) h zero method e = let same : m ≡ method = cc in (l, refl, subst (λ f. IsLinkedMethod files p f l) same h.0)
method_row files p (m ∷ ms) (l ∷ ls) h (suc n) method e = method_row files p ms ls h.1 n method e

pub classes_read : (files : Program) (p : LinkedProgram) → IsLinkedProgram files p → (number : ℕ) (class : Name)
    → IsClassAt files number class → HasClass files p number class
classes_read files p h number class at =
    let r = class_row files (classes_of files) p.classes.items h.classes number at.0 at.1 in
    record { row = r.0; is = r.1; file = at.0; there = at.1; named = at.2; linked = r.2 }

pub methods_read : (files : Program) (p : LinkedProgram) → IsLinkedProgram files p → (number : ℕ) (method : Member)
    → IsMethodAt files number method → HasMethod files p number method
methods_read files p h number method at =
    let r = method_row files p (methods_of files) p.methods.items h.methods number method at in
    record { row = r.0; is = r.1; linked = r.2 }
