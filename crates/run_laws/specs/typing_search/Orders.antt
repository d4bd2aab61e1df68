-- What is to be shown of the order of the verifier's types, of their join, and of the rule of an instruction along the order.
use Rattle.std.specs.Prelude.{◌≡◌, ℕ, List, [], ◌∷◌, Some, IsTrue}
use Rattle.model.specs.Names.{Name, Member, java_lang_object}
use Rattle.model.specs.Classes.{Program, Body, superclass_of, is_interface}
use Rattle.model.specs.ReferenceTypes.{ReferenceType, is_assignable}
use Rattle.model.specs.Types.{VerificationType}
use Rattle.model.specs.TypeOrder.{FrameType, is_stack_below, is_local_below, is_frame_below}
use Rattle.model.specs.TypeJoin.{IsJoin, reference_join, stack_join, local_join, frame_join}
use Rattle.model.specs.Typing.{flow}
use Rattle.run_laws.specs.laws.Steps.{Rooted}

-- No class is above itself, and directly above an interface is Object (JVMS 4.1, super_class). Linking refuses other files.
pub record IsOrdered (files : Program) : Type 0 where
  pub rooted : Rooted files
  pub interfaces : (c : Name) → IsTrue (is_interface files c) → superclass_of files c ≡ Some java_lang_object

-- the joins of the definitions are the least upper bounds of the orders, and none is where nothing is above both
pub record AreJoins (files : Program) : Type 0 where
  pub references : (s t : ReferenceType) → IsJoin (is_assignable files) s t (reference_join files s t)
  pub stack : (s t : VerificationType) → IsJoin (is_stack_below files) s t (stack_join files s t)
  pub locals : (s t : VerificationType) → IsJoin (is_local_below files) s t (Some (local_join files s t))
  pub frames : (a b : FrameType) → IsJoin (is_frame_below files) a b (frame_join files a b)

-- the order of frame types is one
pub record IsFrameOrder (files : Program) : Type 0 where
  pub reflexive : (a : FrameType) → IsTrue (is_frame_below files a a)
  pub transitive : (a b c : FrameType) → IsTrue (is_frame_below files a b) → IsTrue (is_frame_below files b c)
      → IsTrue (is_frame_below files a c)

-- ---- the rule of an instruction

-- offsets with frame types, and others: the same offsets in the same order, and each frame type below that at its place
abbrev pub AreBelow : Program → List (ℕ × FrameType) → List (ℕ × FrameType) → Type 0
AreBelow files [] [] = Unit {0}
AreBelow files [] (y ∷ ys) = ⊥
AreBelow files (x ∷ xs) [] = ⊥
AreBelow files (x ∷ xs) (y ∷ ys) = (x.0 ≡ y.0) × IsTrue (is_frame_below files x.1 y.1) × AreBelow files xs ys

-- an instruction may find this frame type, and leads to the same offsets as these, to frame types below them
pub record FlowsBelow (files : Program) (method : Member) (body : Body) (offset : ℕ) (t : FrameType)
    (leads : List (ℕ × FrameType)) : Type 0 where
  pub lower : List (ℕ × FrameType)
  pub flows : flow files method body offset t ≡ Some lower
  pub below : AreBelow files lower leads

-- what an instruction may find, it may find lower
abbrev pub GoesDown : Program → Type 0
GoesDown files =
    (method : Member) (body : Body) (offset : ℕ) (a b : FrameType) (leads : List (ℕ × FrameType))
    → IsTrue (is_frame_below files a b) → flow files method body offset b ≡ Some leads → FlowsBelow files method body offset a leads
