-- Numbers that are drawn from a generator, each with what the generator answers after that (own).
use Rattle.std.specs.Prelude.{ℕ, ◌+◌, ◌-◌, ◌*◌, ◌/◌, ◌%◌, ◌^◌, ◌==◌, nat_lt, if◌then◌else◌}
use Rattle.rand_core.specs.Stream.{Stream, next_u32, next_u64}

-- a number below another one: the upper half of the product of that and a word of 32 bits
abbrev pub below : (bound : ℕ) → Stream → ℕ × Stream
below bound s = ((next_u32 s).0 * bound / 2 ^ 32, (next_u32 s).1)

-- the product of the halves of a word of 64 bits
abbrev pub halves_product : ℕ → ℕ
halves_product word = word / 2 ^ 32 * (word % 2 ^ 32)

-- how many events a short turn has: one; or one more than the upper n + 1 bits of such a product
abbrev pub short_length : (n : ℕ) → Stream → ℕ × Stream
short_length n s = if n == 0 then (1, s) else (1 + halves_product (next_u64 s).0 / 2 ^ (63 - n), (next_u64 s).1)

-- how many events a long turn has: a power of 2, and a number below it
abbrev pub long_length : Stream → ℕ × Stream
long_length s =
    let power = 2 ^ (below 12 s).0 in
    let more = below power (below 12 s).1 in
    (power + more.0, more.1)

-- how many events a turn has of a kind of which so many were short, how many were short then, and what the generator answers after that
abbrev pub counted_length : (n short : ℕ) → Stream → ℕ × (ℕ × Stream)
counted_length n short s =
    if nat_lt short 128 then ((short_length n s).0, (short + 1, (short_length n s).1)) else ((long_length s).0, (short, (long_length s).1))
