-- Reading a constant pool from left to right, up to the first fault.
use Rattle.std.specs.Prelude.{ℕ, zero, suc, ◌-◌, List, [], ◌∷◌, Ok, Bool, true, false, not, nat_lt, ◌==◌, ◌&&◌, ◌||◌, if◌then◌else◌}
use Rattle.std.specs.List.{list_all}
use Rattle.constant_pool.specs.declared.reading.fault.Cause.TheVariants as causes
use Rattle.constant_pool.specs.reading.Input.{Input}
use Rattle.constant_pool.specs.reading.Reading.{◌>>=◌, Read, fault, number_at, bytes_at, tested, pair_at}
use Rattle.model.specs.Tree.{Entry, Utf8, Integer, Float, Long, Double, Class, String, Field, Method, InterfaceMethod, NameAndType, Unusable}
use Rattle.model.specs.Spelling.{is_text_byte, is_wide}

unfoldable pub utf8_at : Input → Read (List ℕ)
utf8_at i = do
  n ← number_at 2 i
  tested (list_all is_text_byte) causes.Utf8 (bytes_at n.0) n.1

-- what stands behind a tag; the entry begins at `start`
unfoldable pub body_at : Input → ℕ → Input → Read Entry
body_at start tag rest =
    if tag == 1 then (do
      text ← utf8_at rest
      Ok (Utf8 text.0, text.1))
    else if tag == 3 then (do
      n ← number_at 4 rest
      Ok (Integer n.0, n.1))
    else if tag == 4 then (do
      n ← number_at 4 rest
      Ok (Float n.0, n.1))
    else if tag == 5 then (do
      n ← number_at 8 rest
      Ok (Long n.0, n.1))
    else if tag == 6 then (do
      n ← number_at 8 rest
      Ok (Double n.0, n.1))
    else if tag == 7 then (do
      n ← number_at 2 rest
      Ok (Class n.0, n.1))
    else if tag == 8 then (do
      n ← number_at 2 rest
      Ok (String n.0, n.1))
    else if tag == 9 then (do
      p ← pair_at rest
      Ok (Field p.0.0 p.0.1, p.1))
    else if tag == 10 then (do
      p ← pair_at rest
      Ok (Method p.0.0 p.0.1, p.1))
    else if tag == 11 then (do
      p ← pair_at rest
      Ok (InterfaceMethod p.0.0 p.0.1, p.1))
    else if tag == 12 then (do
      p ← pair_at rest
      Ok (NameAndType p.0.0 p.0.1, p.1))
    else fault causes.Tag start

abbrev pub is_wide_tag : ℕ → Bool
is_wide_tag tag = (tag == 5) || (tag == 6)

-- an entry, which cannot be one of two places where the last place is left for it
unfoldable pub entry_at : Bool → Input → Read Entry
entry_at last i = do
  tag ← tested (λ n. not (last && is_wide_tag n)) causes.Tag (number_at 1) i
  body_at i tag.0 tag.1

-- so many places
unfoldable pub entries_at : ℕ → Input → Read (List Entry)
entries_at zero i = Ok ([], i)
entries_at (suc zero) i = do
  e ← entry_at true i
  Ok (e.0 ∷ [], e.1)
entries_at (suc (suc n)) i = do
  e ← entry_at false i
  if is_wide e.0 then (do
    others ← entries_at n e.1
    Ok (e.0 ∷ Unusable ∷ others.0, others.1))
      else (do
        others ← entries_at (suc n) e.1
        Ok (e.0 ∷ others.0, others.1))

-- the count is one above the number of places, so it is not 0 (own: else Truncated)
unfoldable pub pool_at : Input → Read (List Entry)
pool_at i = do
  count ← tested (λ n. nat_lt 0 n) causes.Truncated (number_at 2) i
  entries_at (count.0 - 1) count.1
