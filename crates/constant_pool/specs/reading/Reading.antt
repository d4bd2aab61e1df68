-- Reading bytes from left to right, up to the first fault.
use Rattle.std.specs.Prelude.{◌≡◌, ℕ, zero, suc, ◌+◌, List, [], ◌∷◌, length, take, drop, Result, Ok, Err, Bool, true, false, nat_lt, ◌==◌, if◌then◌else◌}
use Rattle.byteorder.specs.Endian.{big_number}
use Rattle.constant_pool.specs.declared.reading.fault.Cause.{Cause}
use Rattle.constant_pool.specs.declared.reading.fault.Cause.TheVariants as causes
use Rattle.constant_pool.specs.declared.reading.fault.Malformed.{Malformed}
use Rattle.constant_pool.specs.declared.reading.fault.Stop.{Stop}
use Rattle.constant_pool.specs.declared.reading.fault.Stop.TheVariants as stops
use Rattle.constant_pool.specs.reading.Input.{Input}

-- the fault of a field that begins here
abbrev pub fault : {A : Type 0} → Cause → Input → Result A Malformed
fault cause i = Err (record { cause = cause; offset = i.at })

-- the causes that a field has while it is read
abbrev pub is_field_cause : Cause → Bool
is_field_cause causes.Truncated = true
is_field_cause causes.Tag = true
is_field_cause causes.Utf8 = true
is_field_cause causes.Attribute = true
is_field_cause cause = false

infixl 10 ◌>>=◌
abbrev pub ◌>>=◌ : {A B : Type 0} → Result A Malformed → (A → Result B Malformed) → Result B Malformed
(Ok x) >>= f = f x
(Err e) >>= f = Err e

-- what is answered of a reading that stopped
abbrev pub malformed_of : Stop → Malformed
malformed_of stops.Memory = record { cause = causes.OutOfMemory; offset = 0 }
malformed_of (stops.Fault f) = f

-- what a function returned, seen by `view`, is what reading gives, unless memory ran out
abbrev pub Fails : {Y : Type 0} → Stop → Result Y Malformed → Type 0
Fails stops.Memory read = Unit {0}
Fails (stops.Fault f) read = read ≡ Err f

abbrev pub Gives : {X Y : Type 0} → (X → Y) → Result X Stop → Result Y Malformed → Type 0
Gives view (Ok x) read = read ≡ Ok (view x)
Gives view (Err e) read = Fails e read

-- A field is a value and the input behind it.
abbrev pub Read : Type 0 → Type 0
Read A = Result (A × Input) Malformed

-- the input behind n bytes
abbrev pub after : ℕ → Input → Input
after n i = record { at = i.at + n; rest = drop n i.rest }

-- a number of n bytes, the highest first
abbrev pub number_at : ℕ → Input → Read ℕ
number_at n i = if nat_lt (length i.rest) n then fault causes.Truncated i else Ok (big_number n i.rest, after n i)

abbrev pub bytes_at : ℕ → Input → Read (List ℕ)
bytes_at n i = if nat_lt (length i.rest) n then fault causes.Truncated i else Ok (take n i.rest, after n i)

-- one after the other, so many
unfoldable pub times_at : {A : Type 0} → (Input → Read A) → ℕ → Input → Read (List A)
times_at read zero i = Ok ([], i)
times_at read (suc n) i = do
  x ← read i
  xs ← times_at read n x.1
  Ok (x.0 ∷ xs.0, xs.1)

-- a count of two bytes, and so many
unfoldable pub table_at : {A : Type 0} → (Input → Read A) → Input → Read (List A)
table_at read i = do
  n ← number_at 2 i
  times_at read n.0 n.1

-- a value that passes a test
abbrev pub tested : {A : Type 0} → (A → Bool) → Cause → (Input → Read A) → Input → Read A
tested test cause read i = do
  x ← read i
  if test x.0 then Ok x else fault cause i

-- two numbers of two bytes each
unfoldable pub pair_at : Input → Read (ℕ × ℕ)
pair_at i = do
  first ← number_at 2 i
  second ← number_at 2 first.1
  Ok ((first.0, second.0), second.1)

-- a length of four bytes, and so many bytes
unfoldable pub sized_at : Input → Read (List ℕ)
sized_at i = do
  n ← number_at 4 i
  bytes_at n.0 n.1

-- a fault at this offset, wherever it was met
abbrev pub moved : {A : Type 0} → ℕ → Result A Malformed → Result A Malformed
moved at (Ok x) = Ok x
moved at (Err f) = Err (record { cause = f.cause; offset = at })

abbrev pub moved_stop : ℕ → Stop → Stop
moved_stop at stops.Memory = stops.Memory
moved_stop at (stops.Fault f) = stops.Fault (record { cause = f.cause; offset = at })

-- a field whose faults are all at its first byte
unfoldable pub whole_at : {A : Type 0} → (Input → Read A) → Input → Read A
whole_at read i = moved i.at (read i)

-- so many bytes as an input of their own
abbrev pub inner_at : ℕ → Input → Read Input
inner_at n i = if nat_lt (length i.rest) n then fault causes.Truncated i else Ok (record { at = i.at; rest = take n i.rest }, after n i)

-- what passes the end of an attribute does not fit
abbrev pub inner_cause : Cause → Cause
inner_cause causes.Truncated = causes.Attribute
inner_cause cause = cause

abbrev pub inner_stop : Stop → Stop
inner_stop stops.Memory = stops.Memory
inner_stop (stops.Fault f) = stops.Fault (record { cause = inner_cause f.cause; offset = f.offset })

-- what was read of an attribute is all of it, else its length, at this offset, is at fault
unfoldable pub filled : {A : Type 0} → ℕ → Read A → Result A Malformed
filled at (Ok x) = if length x.1.rest == 0 then Ok x.0 else Err (record { cause = causes.Attribute; offset = at })
filled at (Err f) = Err (record { cause = inner_cause f.cause; offset = f.offset })

-- a length of four bytes, and what fills so many
unfoldable pub filled_at : {A : Type 0} → (Input → Read A) → Input → Read A
filled_at read i = do
  n ← number_at 4 i
  inner ← inner_at n.0 n.1
  x ← filled i.at (read inner.0)
  Ok (x, inner.1)
