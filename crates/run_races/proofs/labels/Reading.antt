-- An access is read back from its number.
use Rattle.std.proofs.Common.{◌≡◌, ℕ, ◌+◌, ◌*◌, ◌/◌, ◌%◌, ◌<◌, Bool, true, false, if◌then◌else◌, refl, ap, ◌∙◌, arith}
use Rattle.std.specs.Prelude.{◌==◌}
use Rattle.std.proofs.lemmas.Nat.{div-mul-add, mod-mul-add}
use Rattle.run_races.specs.declared.told_races.RaceAccess.{RaceAccess}
use Rattle.run_races.specs.labels.Labels.{label_of, access_of}

abbrev bit : Bool → ℕ
bit writes = if writes then 1 else 0

bit_small : (writes : Bool) → bit writes < 2
bit_small true = omega arith
bit_small false = omega arith

bit_is : (writes : Bool) → (bit writes == 1) ≡ writes
bit_is true = refl
bit_is false = refl

abbrev access : ℕ → Bool → ℕ → ℕ → RaceAccess
access t writes method offset = record { thread = t; is_write = writes; method = method; offset = offset }

pub read_back : (t method offset : ℕ) (writes : Bool) → offset < 65536
    → access_of t (label_of method offset writes) ≡ record { thread = t; is_write = writes; method = method; offset = offset }
read_back t method offset writes short =
    let place : ℕ = method * 65536 + offset in
    let label : ℕ = label_of method offset writes in
    let half : label / 2 ≡ place = div-mul-add place 2 (bit writes) (bit_small writes) in
    let odd : label % 2 ≡ bit writes = mod-mul-add place 2 (bit writes) (bit_small writes) in
    ap (λ (n : ℕ). access t (n == 1) (label / 2 / 65536) (label / 2 % 65536)) odd
    ∙ ap (λ (n : ℕ). access t (bit writes == 1) (n / 65536) (n % 65536)) half
    ∙ ap (λ (n : ℕ). access t (bit writes == 1) n (place % 65536)) (div-mul-add method 65536 offset short)
    ∙ ap (λ (n : ℕ). access t (bit writes == 1) method n) (mod-mul-add method 65536 offset short)
    ∙ ap (λ (b : Bool). access t b method offset) (bit_is writes)
