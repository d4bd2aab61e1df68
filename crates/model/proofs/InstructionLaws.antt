-- An instruction has at least one byte, and all its bytes are in the code.
use Rattle.std.proofs.Common.{ap, inl, inr, ◌^◌, ◌≡◌, ℕ, ◌+◌, ◌*◌, ◌<◌, ◌≤◌, ℤ, Bool, true, false, eqb, ltb, List, length, drop, Option, Some, None, refl, arith}
use Rattle.std.specs.Prelude.{is_some, IfSome, if◌then◌else◌, option_map}
use Rattle.std.specs.Int.{Width, w8, w16, w32, byte_len, cast_signed}
use Rattle.std.proofs.lemmas.Bool.{ltb-false, le-ltb, lt-ltb, cases_lt}
use Rattle.byteorder.specs.Endian.{big_number}
use lib.Signed.{le_z}
use Rattle.model.specs.declared.instr.Instr.{Instr}
use Rattle.model.specs.OpcodeTable.{Form, Plain, Byte, Short, SignedByte, SignedShort, SignedWord, ByteAndSignedByte, ShortAndTwoBytes, TableSwitched, LookupSwitched, Widened, NoForm, form_of}
use Rattle.model.specs.Instruction.{instr_at, ◌>>=◌, Sized, word_at, signed_at, wide_at, ending_at, table_switch_at, lookup_switch_at, made_of, HasBytes, sized_at, length_at, jump_count, operands_of}

abbrev pub IsWithin : List ℕ → ℕ → Sized → Type 0
IsWithin code pc s = HasBytes code pc s.1

abbrev pub AreWithin : List ℕ → ℕ → Option Sized → Type 0
AreWithin code pc o = IfSome o (IsWithin code pc)

guarded : {A : Type 0} (P : Sized → Type 0) (b : Bool) (x : A) (f : A → Option Sized) → (b ≡ false → IfSome (f x) P)
    → IfSome ((if b then None else Some x) >>= f) P
guarded P true x f h = tt
guarded P false x f h = h refl

word_then : (code : List ℕ) (pc n at : ℕ) (f : ℕ → Option Sized) → ((x : ℕ) → at + n ≤ length code → AreWithin code pc (f x))
    → AreWithin code pc (word_at n code at >>= f)
word_then code pc n at f h = guarded (IsWithin code pc) (ltb (length code) (at + n)) (big_number n (drop at code)) f (λ e. h (big_number n (drop at code)) (ltb-false _ _ e))

signed_then : (code : List ℕ) (pc : ℕ) (w : Width) (at : ℕ) (f : ℤ → Option Sized)
    → ((x : ℤ) → at + byte_len w ≤ length code → AreWithin code pc (f x)) → AreWithin code pc (signed_at w code at >>= f)
signed_then code pc w at f h =
    let x = cast_signed w (big_number (byte_len w) (drop at code)) in
    guarded (IsWithin code pc) (ltb (length code) (at + byte_len w)) x f (λ e. h x (ltb-false _ _ e))

split : (P : Sized → Type 0) (b : Bool) (x y : Option Sized) → IfSome x P → IfSome y P → IfSome (if b then x else y) P
split P true x y hx hy = hx
split P false x y hx hy = hy

wide_fits : (code : List ℕ) (pc : ℕ) → AreWithin code pc (wide_at code pc)
unfolding wide_at
wide_fits code pc =
    word_then code pc 1 (pc + 1) _ (λ opcode _.
    word_then code pc 2 (pc + 2) _ (λ local short.
    let W : Sized → Type 0 = IsWithin code pc in
    let four : pc + 4 ≤ length code = omega (arith, short) in
    split W (eqb opcode 0x15) _ _ (omega arith, four)
    (split W (eqb opcode 0x19) _ _ (omega arith, four)
    (split W (eqb opcode 0x36) _ _ (omega arith, four)
    (split W (eqb opcode 0x3a) _ _ (omega arith, four)
    (split W (eqb opcode 0x84) _ _ (signed_then code pc w16 (pc + 4) _ (λ by long. (omega arith, omega (arith, long)))) tt))))))

ending_fits : (code : List ℕ) (pc at len : ℕ) (i : Instr) → pc < at → AreWithin code pc (ending_at code pc at len i)
ending_fits code pc at len i later = elim (cases_lt (length code) (at + len)) [
  | inl h ↦ rw (lt-ltb _ _ h) tt
  | inr h ↦ rw (le-ltb _ _ h) (omega (arith, later), omega (arith, later, h))
]

operands_later : (pc : ℕ) → pc < operands_of pc
operands_later pc = omega arith

table_switch_fits : (code : List ℕ) (pc : ℕ) → AreWithin code pc (table_switch_at code pc)
unfolding table_switch_at
table_switch_fits code pc =
    signed_then code pc w32 (operands_of pc) _ (λ default _.
    signed_then code pc w32 (operands_of pc + 4) _ (λ low _.
    signed_then code pc w32 (operands_of pc + 8) _ (λ high _.
    split (IsWithin code pc) (le_z low high) _ _ (ending_fits code pc (operands_of pc + 12) (4 * jump_count low high) _ (omega (arith, operands_later pc))) tt)))

lookup_switch_fits : (code : List ℕ) (pc : ℕ) → AreWithin code pc (lookup_switch_at code pc)
unfolding lookup_switch_at
lookup_switch_fits code pc =
    signed_then code pc w32 (operands_of pc) _ (λ default _.
    word_then code pc 4 (operands_of pc + 4) _ (λ pairs _.
    split (IsWithin code pc) (ltb pairs (2 ^ 31)) _ _ (ending_fits code pc (operands_of pc + 8) (8 * pairs) _ (omega (arith, operands_later pc))) tt))

pub made_fits : (form : Form) (code : List ℕ) (pc : ℕ) → pc < length code → AreWithin code pc (made_of form code pc)
made_fits (Plain i) code pc here = (omega arith, omega (arith, here))
made_fits (Byte make) code pc here = word_then code pc 1 (pc + 1) _ (λ n h. (omega arith, omega (arith, h)))
made_fits (Short make) code pc here = word_then code pc 2 (pc + 1) _ (λ n h. (omega arith, omega (arith, h)))
made_fits (SignedByte make) code pc here = signed_then code pc w8 (pc + 1) _ (λ n h. (omega arith, omega (arith, h)))
made_fits (SignedShort make) code pc here = signed_then code pc w16 (pc + 1) _ (λ n h. (omega arith, omega (arith, h)))
made_fits (SignedWord make) code pc here = signed_then code pc w32 (pc + 1) _ (λ n h. (omega arith, omega (arith, h)))
made_fits (ByteAndSignedByte make) code pc here = word_then code pc 1 (pc + 1) _ (λ n _. signed_then code pc w8 (pc + 2) _ (λ by h. (omega arith, omega (arith, h))))
made_fits (ShortAndTwoBytes make) code pc here =
    word_then code pc 2 (pc + 1) _ (λ n _.
    word_then code pc 1 (pc + 3) _ (λ a _.
    word_then code pc 1 (pc + 4) _ (λ b h. (omega arith, omega (arith, h)))))
made_fits TableSwitched code pc here = table_switch_fits code pc
made_fits LookupSwitched code pc here = lookup_switch_fits code pc
made_fits Widened code pc here = wide_fits code pc
made_fits NoForm code pc here = tt

pub sized_fits : (code : List ℕ) (pc : ℕ) → AreWithin code pc (sized_at code pc)
sized_fits code pc = word_then code pc 1 pc _ (λ opcode here. made_fits (form_of opcode) code pc (omega (arith, here)))

some_fits : (code : List ℕ) (pc : ℕ) (o : Option Sized) → AreWithin code pc o
    → IfSome (option_map (λ (s : Sized). s.1) o) (HasBytes code pc)
some_fits code pc None h = tt
some_fits code pc (Some s) h = h

-- an instruction has a byte, and ends in the code
pub length_fits : (code : List ℕ) (pc : ℕ) → IfSome (length_at code pc) (HasBytes code pc)
length_fits code pc = some_fits code pc (sized_at code pc) (sized_fits code pc)

-- the two parts of what is found
pub sized_parts : (code : List ℕ) (pc : ℕ) (s : Sized) → sized_at code pc ≡ Some s
    → (instr_at code pc ≡ Some s.0) × (length_at code pc ≡ Some s.1)
sized_parts code pc s e = (ap (λ o. option_map (λ (t : Sized). t.0) o) e, ap (λ o. option_map (λ (t : Sized). t.1) o) e)

both_some : (o : Option Sized) → is_some (option_map (λ (t : Sized). t.1) o) ≡ is_some (option_map (λ (t : Sized). t.0) o)
both_some None = refl
both_some (Some s) = refl

-- an instruction has a length, and nothing else has
pub length_is_some : (code : List ℕ) (pc : ℕ) → is_some (length_at code pc) ≡ is_some (instr_at code pc)
length_is_some code pc = both_some (sized_at code pc)
