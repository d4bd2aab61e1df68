-- How far a search may still go: each frame type that is raised takes from it, and so does each turn. So a search ends.
use Rattle.std.specs.Prelude.{◌≡◌, ℕ, zero, suc, ◌+◌, ◌*◌, ◌<◌, ◌≤◌, List, [], ◌∷◌, Option, Some, None, Bool, true, false, length, slice_get, IsTrue}
use Rattle.std.specs.Option.{option_map_or}
use Rattle.std.specs.List.{AllByRecursion}
use Rattle.model.specs.Names.{Name}
use Rattle.model.specs.Classes.{Program, Body, classes_of, superclass_of}
use Rattle.model.specs.ReferenceTypes.{ReferenceType, ClassType, PrimitiveArray, ReferenceArray}
use Rattle.model.specs.Types.{VerificationType, Unusable, IntType, NullType, OfType, Uninitialised, UninitialisedThis}
use Rattle.model.specs.TypeOrder.{FrameType, is_frame_below}
use Rattle.model.specs.TypeJoin.{frame_join}
use Rattle.model.specs.Typing.{IsSized}
use Rattle.run_laws.specs.typing_search.Tables.{waits, found_at, waiting_at, taken_off}

-- ---- heights

-- how many classes are above a class, by at most so many steps
abbrev pub classes_above : Program → ℕ → Name → ℕ
classes_above files zero c = 0
classes_above files (suc n) c = option_map_or (λ s. suc (classes_above files n s)) (superclass_of files c) 0

-- how many steps lead up from a reference type, at most
abbrev pub rank : Program → ReferenceType → ℕ
rank files (ClassType c) = classes_above files (length (classes_of files)) c
rank files (PrimitiveArray of) = 1
rank files (ReferenceArray of) = suc (rank files of)

-- how many dimensions an array type has
abbrev pub dimensions : ReferenceType → ℕ
dimensions (ClassType c) = 0
dimensions (PrimitiveArray of) = 1
dimensions (ReferenceArray of) = suc (dimensions of)

-- how many steps lead up from a type, where no reference type has more than a limit
abbrev pub height : Program → ℕ → VerificationType → ℕ
height files limit Unusable = 0
height files limit IntType = 1
height files limit NullType = suc limit
height files limit (OfType t) = suc (rank files t)
height files limit (Uninitialised at c) = 1
height files limit (UninitialisedThis c) = 1

abbrev pub IsLow : Program → ℕ → VerificationType → Type 0
IsLow files limit Unusable = Unit {0}
IsLow files limit IntType = Unit {0}
IsLow files limit NullType = Unit {0}
IsLow files limit (OfType t) = rank files t < limit
IsLow files limit (Uninitialised at c) = Unit {0}
IsLow files limit (UninitialisedThis c) = Unit {0}

pub record IsLowFrame (files : Program) (limit : ℕ) (t : FrameType) : Type 0 where
  pub locals : AllByRecursion (IsLow files limit) t.slots.locals
  pub stack : AllByRecursion (IsLow files limit) t.slots.stack

-- ---- weights

abbrev pub heights : Program → ℕ → List VerificationType → ℕ
heights files limit [] = 0
heights files limit (t ∷ ts) = height files limit t + heights files limit ts

-- of a mark: of the constructor's, and of an offset that waits
abbrev pub mark_weight : Bool → ℕ
mark_weight true = 1
mark_weight false = 0

abbrev pub frame_weight : Program → ℕ → FrameType → ℕ
frame_weight files limit t = heights files limit t.slots.locals + (heights files limit t.slots.stack + mark_weight t.constructed)

-- of an offset; where nothing is found yet, more than of any frame type of so many places
abbrev pub entry_weight : Program → ℕ → ℕ → Option FrameType → ℕ
entry_weight files limit places None = places * suc limit + 2
entry_weight files limit places (Some t) = frame_weight files limit t

abbrev pub table_weight : Program → ℕ → ℕ → List (Option FrameType) → ℕ
table_weight files limit places [] = 0
table_weight files limit places (entry ∷ entries) = entry_weight files limit places entry + table_weight files limit places entries

abbrev pub marks_weight : List Bool → ℕ
marks_weight [] = 0
marks_weight (mark ∷ marks) = mark_weight mark + marks_weight marks

-- what a search may still do
abbrev pub work : Program → ℕ → ℕ → List (Option FrameType) → List Bool → ℕ
work files limit places table waiting = 2 * table_weight files limit places table + marks_weight waiting

-- the places of a method's frame types
abbrev pub places : Body → ℕ
places body = body.code.max_locals + body.code.max_stack

-- ---- what is to be shown of them

pub record GetsLighter (files : Program) (body : Body) (limit : ℕ) : Type 0 where
  -- dimensions and classes limit the ranks
  pub bounded : (t : ReferenceType) → rank files t ≤ dimensions t + length (classes_of files)
  -- the join of what is there and of what is not below it weighs less than what is there
  pub raised : (there t join : FrameType)
      → frame_join files there t ≡ Some join → (IsTrue (is_frame_below files t there) → ⊥) → IsLowFrame files limit there
      → IsLowFrame files limit t
      → IsLowFrame files limit join × (frame_weight files limit join < frame_weight files limit there)
  -- a frame type weighs less than none
  pub first : (t : FrameType) → IsSized body t → IsLowFrame files limit t
      → frame_weight files limit t < entry_weight files limit (places body) None
  -- what is lighter is less work, though its offset waits
  pub merged : (table : List (Option FrameType)) (waiting : List Bool) (offset : ℕ) (there : Option FrameType) (t : FrameType)
      → slice_get table offset ≡ Some there → frame_weight files limit t < entry_weight files limit (places body) there
      → work files limit (places body) (found_at table offset t) (waiting_at waiting offset) < work files limit (places body) table waiting
  -- and so is an offset less that waits
  pub taken_off : (table : List (Option FrameType)) (waiting : List Bool) (offset : ℕ)
      → waits waiting offset ≡ true → work files limit (places body) table (taken_off waiting offset)
      < work files limit (places body) table waiting
