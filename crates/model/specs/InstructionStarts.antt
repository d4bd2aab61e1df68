-- The instruction boundaries of a method's code (JVMS 4.9.1): 0, and past each whole instruction the next offset.
use Rattle.std.specs.Prelude.{◌≡◌, ℕ, zero, suc, ◌+◌, ◌-◌, ◌<◌, List, [], ◌∷◌, length, Bool, true, false, slice_index_or, unwrap_or}
use Rattle.model.specs.Instruction.{length_at}

-- how far the next boundary is: past the instruction, or past the one byte that begins none (own)
abbrev pub step_at : List ℕ → ℕ → ℕ
step_at code pc = unwrap_or (length_at code pc) 1

pub data IsStart (code : List ℕ) : ℕ → Type 0 where
  First : 0 < length code → IsStart code 0
  Next : (pc next : ℕ) → IsStart code pc → next ≡ pc + step_at code pc → next < length code → IsStart code next

-- whether each of the n offsets from one on is a boundary, where the next boundary comes after `inside` bytes
unfoldable pub starts_from : List ℕ → ℕ → ℕ → ℕ → List Bool
starts_from code zero pc inside = []
starts_from code (suc n) pc zero = true ∷ starts_from code n (suc pc) (step_at code pc - 1)
starts_from code (suc n) pc (suc inside) = false ∷ starts_from code n (suc pc) inside

-- whether each offset of the code is a boundary
abbrev pub starts : List ℕ → List Bool
starts code = starts_from code (length code) 0 0

-- whether an offset is a boundary; those past the end are none
abbrev pub is_start : List ℕ → ℕ → Bool
is_start code pc = slice_index_or (starts code) pc false
