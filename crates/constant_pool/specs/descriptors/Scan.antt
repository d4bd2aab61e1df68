-- Reading from left to right.
use Rattle.std.specs.Prelude.{ℕ, zero, suc, ◌+◌, List, [], ◌∷◌, Option, Some, None, is_some, nat_le, Bool, ◌&&◌, ◌==◌, true, false, if◌then◌else◌}
use Rattle.model.specs.Descriptors.{is_name_byte, slots}
use Rattle.model.specs.DescriptorScan.{◌>>=◌, field_at, return_type}

-- whether unqualified names follow with a slash between each two, where `begun` tells whether the first has a byte
unfoldable pub joined : Bool → List ℕ → Bool
joined begun [] = begun
joined begun (b ∷ bytes) = if b == 47 then begun && joined false bytes else is_name_byte b && joined true bytes

-- the slots of the parameters up to the closing bracket, so many at most, and what is behind it
unfoldable pub slots_at : ℕ → List ℕ → Option (ℕ × List ℕ)
slots_at n [] = None
slots_at zero (b ∷ bytes) = if b == 41 then Some (0, bytes) else None
slots_at (suc n) (b ∷ bytes) = if b == 41 then Some (0, bytes) else (do
  f ← field_at (b ∷ bytes)
  others ← slots_at n f.1
  Some (slots f.0 + others.0, others.1))

-- the slots of the parameters of a method's descriptor
unfoldable pub scan : List ℕ → Option ℕ
scan [] = None
scan (b ∷ bytes) = if b == 40 then (do
  p ← slots_at 255 bytes
  if is_some (return_type p.1) && nat_le p.0 255 then Some p.0 else None)
    else None
