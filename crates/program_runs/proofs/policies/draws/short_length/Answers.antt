use Rattle.std.proofs.Common.{◌<◌, ◌≤◌, ◌^◌, ◌-◌, ◌*◌, ◌/◌, ℕ, bit_and, arith, rules}
use Rattle.std.proofs.Math.Pow.{pow_mono}
use Rattle.std.proofs.lemmas.Nat.{div_below, mul-lt, and_mask}
use Rattle.program_runs.proofs.policies.draws.short_length.Goals as goal

-- the product of the two halves of a word is one
halves : (word : ℕ) → word < 2 ^ 64 → word / 4294967296 * bit_and word 4294967295 < 2 ^ 64
halves word fits =
    let upper : word / 4294967296 < 4294967296 = omega arith in
    let lower : bit_and word 4294967295 < 4294967296 = rw (and_mask word 32) (omega arith) in
    mul-lt (word / 4294967296) (bit_and word 4294967295) 4294967296 4294967296 upper lower

-- no more than 7 bits are left of one
few : (n word : ℕ) → n < 7 → word < 2 ^ 64 → word / 2 ^ (63 - n) < 128
few n word low fits =
    let wide : 2 ^ 57 ≤ 2 ^ (63 - n) = pow_mono {i = 57} {j = 63 - n} (omega arith) in
    div_below word (2 ^ (63 - n)) 128 (omega (arith, wide)) (omega (arith, wide, fits))

small : (n word : ℕ) → n < 7 → word < 2 ^ 64 → word / 4294967296 * bit_and word 4294967295 / 2 ^ (63 - n) < 128
small n word low fits = few n (word / 4294967296 * bit_and word 4294967295) low (halves word fits)

pub overflow_cast-result-2 : goal.overflow_cast-result-2
overflow_cast-result-2 g c = let less = small c.args.n c.next_u64-word.result c.requires (search rules) in omega (arith, less)

pub overflow_add-result : goal.overflow_add-result
overflow_add-result g c = let less = small c.args.n c.next_u64-word.result c.requires (search rules) in omega (arith, less)
