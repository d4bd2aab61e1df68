-- The search for a typing (JVMS 4.10.2.2): frame types that have been found, and offsets that wait for their instruction to be
-- looked at. A turn takes one offset off, and merges what its instruction leads to. In which order is not said.
use Rattle.std.specs.Prelude.{◌≡◌, ◌⊎◌, ℕ, List, [], ◌∷◌, ◌++◌, Some, None, Bool, false, IsTrue}
use Rattle.std.specs.List.{AllByRecursion}
use Rattle.model.specs.Names.{Member}
use Rattle.model.specs.Classes.{Program, Body}
use Rattle.model.specs.InstructionStarts.{is_start}
use Rattle.model.specs.TypeOrder.{FrameType}
use Rattle.model.specs.Typing.{Typing, Reaches, IsSized, Rule, IsTyping, entry_type, flow}

-- each of these offsets is typed, at or above its frame type
abbrev pub AreReached : Program → Typing → List (ℕ × FrameType) → Type 0
AreReached files F leads = AllByRecursion (λ lead. Reaches files F lead.0 lead.1) leads

-- all that the first types the second types too, at or above
abbrev pub Raised : Program → Typing → Typing → Type 0
Raised files F G = (offset : ℕ) (t : FrameType) → F offset ≡ Some t → Reaches files G offset t

-- Frame types F, and the offsets of which P is true wait. The others keep the rule, and no typing is lower anywhere.
pub record Search (files : Program) (method : Member) (body : Body) (F : Typing) (P : ℕ → Bool) : Type 0 where
  pub starts : (offset : ℕ) (t : FrameType) → F offset ≡ Some t → IsTrue (is_start body.code.code offset)
  pub sized : (offset : ℕ) (t : FrameType) → F offset ≡ Some t → IsSized body t
  pub begins : Reaches files F 0 (entry_type files method body)
  pub agrees : (offset : ℕ) (t : FrameType) → F offset ≡ Some t → P offset ≡ false → Rule files method body F offset t
  pub least : (H : Typing) → IsTyping files method body H → Raised files F H

-- Frame types F became G, and the offsets P that wait became Q, since these frame types were merged in: what changed waits, and
-- nothing is higher than it has to be.
pub record Merged (files : Program) (body : Body) (F : Typing) (P : ℕ → Bool) (leads : List (ℕ × FrameType)) (G : Typing)
    (Q : ℕ → Bool) : Type 0 where
  pub starts : ((offset : ℕ) (t : FrameType) → F offset ≡ Some t → IsTrue (is_start body.code.code offset)) → (offset : ℕ) (t : FrameType)
      → G offset ≡ Some t → IsTrue (is_start body.code.code offset)
  pub sized : ((offset : ℕ) (t : FrameType) → F offset ≡ Some t → IsSized body t) → (offset : ℕ) (t : FrameType) → G offset ≡ Some t
      → IsSized body t
  pub raised : Raised files F G
  pub waiting : (offset : ℕ) (t : FrameType) → G offset ≡ Some t → Q offset ≡ false → (F offset ≡ Some t) × (P offset ≡ false)
  pub reached : AreReached files G leads
  pub least : (H : Typing) → Raised files F H → AreReached files H leads → Raised files G H

-- no typing is above F and these frame types
abbrev pub Clashes : Program → Member → Body → Typing → List (ℕ × FrameType) → Type 0
Clashes files method body F leads = (H : Typing) → IsTyping files method body H → Raised files F H → AreReached files H leads → ⊥

abbrev pub HasNoTyping : Program → Member → Body → Type 0
HasNoTyping files method body = (H : Typing) → IsTyping files method body H → ⊥

-- ---- what is to be shown of it

-- no offset is typed
abbrev pub IsUntyped : Typing → Type 0
IsUntyped F = (offset : ℕ) → F offset ≡ None

-- It begins with the entry type merged into nothing, so that offset 0 is typed, and waits.
pub record Begins (files : Program) (method : Member) (body : Body) : Type 0 where
  pub found : (F : Typing) (P : ℕ → Bool) (G : Typing) (Q : ℕ → Bool)
      → IsUntyped F → Merged files body F P ((0, entry_type files method body) ∷ []) G Q → Search files method body G Q
  pub refused : (F : Typing) → IsUntyped F → Clashes files method body F ((0, entry_type files method body) ∷ [])
      → HasNoTyping files method body

-- of the offsets that wait one is taken off, or none
abbrev pub IsTakenOff : ℕ → (ℕ → Bool) → (ℕ → Bool) → Type 0
IsTakenOff offset P P' = (k : ℕ) → (k ≡ offset) ⊎ (P' k ≡ P k)

-- a turn at an offset that is typed
pub record Turns (files : Program) (method : Member) (body : Body) : Type 0 where
  -- it keeps what a search is
  pub found : (F : Typing) (P P' : ℕ → Bool) (offset : ℕ) (t : FrameType) (leads : List (ℕ × FrameType)) (G : Typing) (Q : ℕ → Bool)
      → Search files method body F P → F offset ≡ Some t → flow files method body offset t ≡ Some leads → IsTakenOff offset P P'
      → Merged files body F P' leads G Q → Search files method body G Q
  -- the instruction there must not find what was found: there is no typing
  pub refused : (F : Typing) (P : ℕ → Bool) (offset : ℕ) (t : FrameType)
      → Search files method body F P → F offset ≡ Some t → flow files method body offset t ≡ None → HasNoTyping files method body
  -- what it leads to can't be merged: there is none
  pub clashes : (F : Typing) (P : ℕ → Bool) (offset : ℕ) (t : FrameType) (leads : List (ℕ × FrameType))
      → Search files method body F P → F offset ≡ Some t → flow files method body offset t ≡ Some leads
      → Clashes files method body F leads → HasNoTyping files method body

-- nothing waits: what was found is a typing
abbrev pub Ends : Program → Member → Body → Type 0
Ends files method body =
    (F : Typing) (P : ℕ → Bool) → Search files method body F P → ((offset : ℕ) → P offset ≡ false) → IsTyping files method body F

-- merging one list after another
pub record Follows (files : Program) (method : Member) (body : Body) : Type 0 where
  pub nothing : (F : Typing) (P : ℕ → Bool) → Merged files body F P [] F P
  pub merged : (F G H : Typing) (P Q R : ℕ → Bool) (xs ys : List (ℕ × FrameType))
      → Merged files body F P xs G Q → Merged files body G Q ys H R → Merged files body F P (xs ++ ys) H R
  pub clashes : (F G : Typing) (P Q : ℕ → Bool) (xs ys zs : List (ℕ × FrameType))
      → Merged files body F P xs G Q → Clashes files method body G ys → Clashes files method body F (xs ++ (ys ++ zs))
  -- the same where the last one is merged first
  pub merged_before : (F G H : Typing) (P Q R : ℕ → Bool) (lead : ℕ × FrameType) (done : List (ℕ × FrameType))
      → Merged files body F P done G Q → Merged files body G Q (lead ∷ []) H R → Merged files body F P (lead ∷ done) H R
  pub clashes_before : (F G : Typing) (P Q : ℕ → Bool) (left : List (ℕ × FrameType)) (lead : ℕ × FrameType) (done : List (ℕ × FrameType))
      → Merged files body F P done G Q → Clashes files method body G (lead ∷ []) → Clashes files method body F (left ++ (lead ∷ done))
