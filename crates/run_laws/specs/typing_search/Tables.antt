-- A search over tables: a frame type or none for each offset, and whether the offset waits.
use Rattle.std.specs.Prelude.{◌≡◌, ℕ, List, [], ◌∷◌, Option, Some, None, Bool, true, false, length, replicate, slice_get, slice_index_or, slice_set, IsTrue, IsFalse}
use Rattle.model.specs.Names.{Member}
use Rattle.model.specs.Classes.{Program, Body}
use Rattle.model.specs.InstructionStarts.{is_start}
use Rattle.model.specs.TypeOrder.{FrameType, is_frame_below}
use Rattle.model.specs.TypeJoin.{frame_join}
use Rattle.model.specs.Typing.{Typing, IsSized}
use Rattle.run_laws.specs.typing_search.Search.{Merged, Clashes, IsUntyped, IsTakenOff}

abbrev pub entry_of : Option (Option FrameType) → Option FrameType
entry_of None = None
entry_of (Some entry) = entry

-- the frame types of a table; past its end there is none
abbrev pub typing_of : List (Option FrameType) → Typing
typing_of table offset = entry_of (slice_get table offset)

abbrev pub waits : List Bool → ℕ → Bool
waits waiting offset = slice_index_or waiting offset false

-- a table after a frame type was found at an offset, which waits from then on
abbrev pub found_at : List (Option FrameType) → ℕ → FrameType → List (Option FrameType)
found_at table offset t = slice_set table offset (Some t)

abbrev pub waiting_at : List Bool → ℕ → List Bool
waiting_at waiting offset = slice_set waiting offset true

abbrev pub taken_off : List Bool → ℕ → List Bool
taken_off waiting offset = slice_set waiting offset false

-- ---- what is to be shown of them

pub record AreTables : Type 0 where
  pub untyped : (n : ℕ) → IsUntyped (typing_of (replicate n None))
  pub none_waits : (n offset : ℕ) → waits (replicate n false) offset ≡ false
  pub off : (waiting : List Bool) (offset : ℕ) → IsTakenOff offset (waits waiting) (waits (taken_off waiting offset))
  -- as long as they were
  pub found_length : (table : List (Option FrameType)) (offset : ℕ) (t : FrameType) → length (found_at table offset t) ≡ length table
  pub waiting_length : (waiting : List Bool) (offset : ℕ) → length (waiting_at waiting offset) ≡ length waiting
  pub off_length : (waiting : List Bool) (offset : ℕ) → length (taken_off waiting offset) ≡ length waiting

-- one frame type merged into a table
pub record MergesOne (files : Program) (method : Member) (body : Body) : Type 0 where
  -- it is below what is there: nothing changes
  pub fits : (F : Typing) (P : ℕ → Bool) (offset : ℕ) (t there : FrameType)
      → F offset ≡ Some there → IsTrue (is_frame_below files t there) → Merged files body F P ((offset, t) ∷ []) F P
  -- nothing is there yet
  pub first : (table : List (Option FrameType)) (waiting : List Bool) (offset : ℕ) (t : FrameType)
      → length waiting ≡ length table → slice_get table offset ≡ Some None → IsTrue (is_start body.code.code offset) → IsSized body t
      → Merged files body (typing_of table) (waits waiting) ((offset, t)
      ∷ []) (typing_of (found_at table offset t)) (waits (waiting_at waiting offset))
  -- there is a join of both
  pub joined : (table : List (Option FrameType)) (waiting : List Bool) (offset : ℕ) (t there join : FrameType)
      → length waiting ≡ length table → slice_get table offset ≡ Some (Some there) → frame_join files there t ≡ Some join
      → Merged files body (typing_of table) (waits waiting) ((offset, t)
      ∷ []) (typing_of (found_at table offset join)) (waits (waiting_at waiting offset))

-- where it can't be merged
pub record ClashesOne (files : Program) (method : Member) (body : Body) : Type 0 where
  -- there is no join
  pub apart : (F : Typing) (offset : ℕ) (t there : FrameType)
      → F offset ≡ Some there → frame_join files there t ≡ None → Clashes files method body F ((offset, t) ∷ [])
  -- it is not of the size that the method says
  pub oversized : (F : Typing) (offset : ℕ) (t : FrameType) → (IsSized body t → ⊥) → Clashes files method body F ((offset, t) ∷ [])
  -- no instruction begins at the offset; past the end of the code none does
  pub astray : (F : Typing) (offset : ℕ) (t : FrameType) → IsFalse (is_start body.code.code offset)
      → Clashes files method body F ((offset, t) ∷ [])
