-- Which opcodes are known, and what is so of an offset where a whole instruction begins.
use Rattle.std.proofs.Common.{ap, inl, inr, ◌^◌, ◌≡◌, ℕ, ◌+◌, ◌<◌, ℤ, pos, negsuc, Bool, true, false, not, ◌&&◌, ◌||◌, eqb, ltb, leb, List, [], ◌∷◌, length, drop, get_or, Option, Some, None, refl, sym, subst, ◌∙◌, arith}
use Rattle.std.specs.Prelude.{is_some, if◌then◌else◌, int_lt, ◌-◌}
use Rattle.std.specs.Option.{option_map_or}
use Rattle.std.specs.Int.{w32}
use lib.Signed.{le_z}
use Rattle.std.proofs.lemmas.Bool.{le-ltb, lt-ltb, le-leb, lt-leb, leb-true, eqb-true, eqb-false, ltb-true, cases_lt}
use Rattle.std.proofs.lemmas.List.{get_or-drop}
use Rattle.std.specs.List.{slice_get}
use Rattle.std.proofs.lemmas.Option.{slice_get-get_or, slice_get_cases}
use Rattle.byteorder.specs.Endian.{big_number}
use Rattle.model.specs.OpcodeTable.{Form, Plain, Byte, Short, SignedByte, SignedShort, SignedWord, ByteAndSignedByte, ShortAndTwoBytes, TableSwitched, LookupSwitched, Widened, NoForm, Row, is_of, form_in, mnemonic_in, low_form, high_form, form_of, low_mnemonic, high_mnemonic, mnemonic_of, constants_and_loads, stores_and_stack, math_and_conversions, comparisons, control, references, extended}
use Rattle.model.specs.Instruction.{◌>>=◌, Sized, word_at, signed_at, wide_at, table_switch_at, lookup_switch_at, made_of, sized_at, operands_of}
use Rattle.model.specs.Profile.{opcode_at, is_widened, is_known_form, is_known_opcode}
use Rattle.classfile.specs.profile.Opcodes.{is_known_at}
use Rattle.model.specs.CodeConditions.{exceeds, low_above_high, negative_count, cut_instruction}

-- ---- the mnemonics of known opcodes

not_both : (n : ℕ) → eqb n 0xc4 ≡ false → (leb 0xc4 n && leb n 0xc4) ≡ false
not_both n h = elim (cases_lt n 0xc4) [
  | inl below ↦ rw (lt-leb 0xc4 n below) refl
  | inr above ↦ elim (cases_lt 0xc4 n) [
    | inl more ↦ rw (le-leb 0xc4 n above, lt-leb n 0xc4 more) refl
    | inr less ↦ absurd (eqb-false n 0xc4 h (omega (arith, above, less)))
  ]
]

module _ (code : List ℕ) (pc : ℕ) where
  abbrev AreKnown : List Row → Type 0
  AreKnown [] = Unit {0}
  AreKnown (r ∷ rows) = ((k : ℕ) → is_known_form (r.form k) code pc ≡ true) × AreKnown rows

  by_row : (r : Row) (rows : List Row) (opcode : ℕ) (b : Bool) → is_known_form (r.form (opcode - r.first)) code pc ≡ true
      → is_known_form (form_in rows opcode) code pc ≡ is_some (mnemonic_in rows opcode)
      → is_known_form (if b then r.form (opcode - r.first) else form_in rows opcode) code pc
      ≡ is_some (if b then Some (r.mnemonic (opcode - r.first)) else mnemonic_in rows opcode)
  by_row r rows opcode true known h = known
  by_row r rows opcode false known h = h

  in_rows : (rows : List Row) → AreKnown rows → (opcode : ℕ)
      → is_known_form (form_in rows opcode) code pc ≡ is_some (mnemonic_in rows opcode)
  in_rows [] known opcode = refl
  in_rows (r ∷ rows) known opcode = by_row r rows opcode (is_of r opcode) (known.0 (opcode - r.first)) (in_rows rows known.1 opcode)

  known_constants_and_loads : AreKnown constants_and_loads
  known_constants_and_loads = ((λ k. refl), ((λ k. refl), ((λ k. refl), ((λ k. refl), ((λ k. refl), ((λ k. refl), ((λ k. refl), ((λ k. refl), ((λ k. refl), ((λ k. refl), ((λ k. refl), ((λ k. refl), ((λ k. refl), ((λ k. refl), ((λ k. refl), ((λ k. refl), ((λ k. refl), tt)))))))))))))))))

  known_stores_and_stack : AreKnown stores_and_stack
  known_stores_and_stack = ((λ k. refl), ((λ k. refl), ((λ k. refl), ((λ k. refl), ((λ k. refl), ((λ k. refl), ((λ k. refl), ((λ k. refl), ((λ k. refl), ((λ k. refl), ((λ k. refl), ((λ k. refl), ((λ k. refl), ((λ k. refl), ((λ k. refl), ((λ k. refl), ((λ k. refl), ((λ k. refl), tt))))))))))))))))))

  known_math_and_conversions : AreKnown math_and_conversions
  known_math_and_conversions = ((λ k. refl), ((λ k. refl), ((λ k. refl), ((λ k. refl), ((λ k. refl), ((λ k. refl), ((λ k. refl), ((λ k. refl), ((λ k. refl), ((λ k. refl), ((λ k. refl), ((λ k. refl), ((λ k. refl), ((λ k. refl), ((λ k. refl), ((λ k. refl), tt))))))))))))))))

  known_comparisons : AreKnown comparisons
  known_comparisons = ((λ k. refl), ((λ k. refl), ((λ k. refl), ((λ k. refl), ((λ k. refl), ((λ k. refl), ((λ k. refl), ((λ k. refl), ((λ k. refl), ((λ k. refl), ((λ k. refl), ((λ k. refl), ((λ k. refl), ((λ k. refl), tt))))))))))))))

  known_control : AreKnown control
  known_control = ((λ k. refl), ((λ k. refl), ((λ k. refl), ((λ k. refl), ((λ k. refl), ((λ k. refl), tt))))))

  known_references : AreKnown references
  known_references = ((λ k. refl), ((λ k. refl), ((λ k. refl), ((λ k. refl), ((λ k. refl), ((λ k. refl), ((λ k. refl), ((λ k. refl), ((λ k. refl), ((λ k. refl), ((λ k. refl), ((λ k. refl), ((λ k. refl), ((λ k. refl), ((λ k. refl), ((λ k. refl), ((λ k. refl), tt)))))))))))))))))

  split : (b : Bool) (f g : Form) (m n : Option (List ℕ)) → is_known_form f code pc ≡ is_some m → is_known_form g code pc ≡ is_some n
      → is_known_form (if b then f else g) code pc ≡ is_some (if b then m else n)
  split true f g m n x y = x
  split false f g m n x y = y

  -- all rows but that of `wide`
  in_extended : (opcode : ℕ) → eqb opcode 0xc4 ≡ false
      → is_known_form (form_in extended opcode) code pc ≡ is_some (mnemonic_in extended opcode)
  in_extended opcode other = past (leb 0xc4 opcode && leb opcode 0xc4) (not_both opcode other) _ _ _ _ (in_rows (drop 1 extended) ((λ k. refl), ((λ k. refl), ((λ k. refl), tt))) opcode)
    where
      past : (b : Bool) → b ≡ false → (f g : Form) (m n : Option (List ℕ)) → is_known_form g code pc ≡ is_some n
          → is_known_form (if b then f else g) code pc ≡ is_some (if b then m else n)
      past true e f g m n h = absurd cc
      past false e f g m n h = h

  low_known : (opcode : ℕ) → is_known_form (low_form opcode) code pc ≡ is_some (low_mnemonic opcode)
  unfolding low_form low_mnemonic
  low_known opcode =
      split (ltb opcode 0x36) _ _ _ _ (in_rows constants_and_loads known_constants_and_loads opcode)
      (split (ltb opcode 0x60) _ _ _ _ (in_rows stores_and_stack known_stores_and_stack opcode) (in_rows math_and_conversions known_math_and_conversions opcode))

  high_known : (opcode : ℕ) → eqb opcode 0xc4 ≡ false → is_known_form (high_form opcode) code pc ≡ is_some (high_mnemonic opcode)
  unfolding high_form high_mnemonic
  high_known opcode other =
      split (ltb opcode 0xa7) _ _ _ _ (in_rows comparisons known_comparisons opcode)
      (split (ltb opcode 0xb2) _ _ _ _ (in_rows control known_control opcode)
      (split (ltb opcode 0xc4) _ _ _ _ (in_rows references known_references opcode) (in_extended opcode other)))

  -- another opcode than `wide` is known where it has a mnemonic
  pub named_is_known : (opcode : ℕ) → eqb opcode 0xc4 ≡ false → is_known_form (form_of opcode) code pc ≡ is_some (mnemonic_of opcode)
  named_is_known opcode other = split (ltb opcode 0x99) _ _ _ _ (low_known opcode) (high_known opcode other)

  -- `wide`
  wide_form : form_of 0xc4 ≡ Widened
  unfolding high_form
  wide_form = refl

  pub wide_is_known : (opcode : ℕ) → opcode ≡ 0xc4
      → is_known_form (form_of opcode) code pc ≡ option_map_or is_widened (word_at 1 code (pc + 1)) true
  wide_is_known opcode is = ap (λ (o : ℕ). is_known_form (form_of o) code pc) is ∙ ap (λ f. is_known_form f code pc) wide_form

-- ---- the opcode of an instruction

-- the number in one byte
one_byte : (bytes : List ℕ) → big_number 1 bytes ≡ get_or bytes 0 0
one_byte bytes = omega arith

opcode_read : (code : List ℕ) (pc : ℕ) → big_number 1 (drop pc code) ≡ get_or code pc 0
opcode_read code pc =
    let none : pc + 0 ≡ pc = omega arith in
    one_byte (drop pc code) ∙ get_or-drop pc code 0 0 ∙ ap (λ (k : ℕ). get_or code k 0) none

sized_is : (code : List ℕ) (pc : ℕ) → pc < length code → sized_at code pc ≡ made_of (form_of (opcode_at code pc)) code pc
sized_is code pc here = rw (le-ltb (length code) (pc + 1) (omega (arith, here)), opcode_read code pc) refl

word_is : (code : List ℕ) (k : ℕ) → word_at 1 code k ≡ slice_get code k
word_is code k = elim (slice_get_cases code k).1 [
  | inl found ↦
      let read : big_number 1 (drop k code) ≡ get_or code k 0 = opcode_read code k in
      let there : slice_get code k ≡ Some (get_or code k 0) = slice_get-get_or code k 0 found.1 in
      rw (le-ltb (length code) (k + 1) (omega (arith, found.1)), read, there) refl
  | inr past ↦ rw (lt-ltb (length code) (k + 1) (omega (arith, past.0)), past.1) refl
]

-- as the code tests it
pub known_at : (code : List ℕ) (pc : ℕ) → pc < length code → is_known_at code pc ≡ is_known_opcode code pc
known_at code pc here =
    let there : slice_get code pc ≡ Some (opcode_at code pc) = slice_get-get_or code pc 0 here in
    rw there (by (eqb (opcode_at code pc) 0xc4) refl)
  where
    by : (b : Bool) → eqb (opcode_at code pc) 0xc4 ≡ b
        → (if b then option_map_or is_widened (slice_get code (pc + 1)) true else is_some (mnemonic_of (opcode_at code pc)))
        ≡ is_known_opcode code pc
    by true e = ap (λ (o : Option ℕ). option_map_or is_widened o true) (sym (word_is code (pc + 1))) ∙ sym (wide_is_known code pc (opcode_at code pc) (eqb-true _ _ e))
    by false e = sym (named_is_known code pc (opcode_at code pc) e)

-- ---- `wide`

then_some : {A : Type 0} (o : Option A) (f : A → Option Sized) (s : Sized) (G : A → Type 0) → ((x : A) → o ≡ Some x → f x ≡ Some s → G x)
    → (o >>= f) ≡ Some s → (x : A) × ((o ≡ Some x) × G x)
then_some None f s G h e = absurd cc
then_some (Some x) f s G h e = (x, (refl, h x refl e))

one_of : (a b c d e : Bool) (v w x y z : Option Sized) (s : Sized)
    → (if a then v else if b then w else if c then x else if d then y else if e then z else None) ≡ Some s
    → (a || (b || (c || (d || e)))) ≡ true
one_of true b c d e v w x y z s h = refl
one_of false true c d e v w x y z s h = refl
one_of false false true d e v w x y z s h = refl
one_of false false false true e v w x y z s h = refl
one_of false false false false true v w x y z s h = refl
one_of false false false false false v w x y z s h = absurd cc

wide_known : (code : List ℕ) (pc : ℕ) (s : Sized) → wide_at code pc ≡ Some s
    → option_map_or is_widened (word_at 1 code (pc + 1)) true ≡ true
unfolding wide_at
wide_known code pc s h =
    let found = then_some (word_at 1 code (pc + 1)) _ s (λ opcode. is_widened opcode ≡ true) (λ opcode is inner.
    (then_some (word_at 2 code (pc + 2)) _ s (λ local. is_widened opcode ≡ true) (λ local is2 tests.
    one_of (eqb opcode 0x15) (eqb opcode 0x19) (eqb opcode 0x36) (eqb opcode 0x3a) (eqb opcode 0x84) _ _ _ _ _ s tests) inner).1.1) h in
    rw found.1.0 found.1.1

made_known : (form : Form) (code : List ℕ) (pc : ℕ) (s : Sized) → made_of form code pc ≡ Some s → is_known_form form code pc ≡ true
made_known (Plain i) code pc s h = refl
made_known (Byte make) code pc s h = refl
made_known (Short make) code pc s h = refl
made_known (SignedByte make) code pc s h = refl
made_known (SignedShort make) code pc s h = refl
made_known (SignedWord make) code pc s h = refl
made_known (ByteAndSignedByte make) code pc s h = refl
made_known (ShortAndTwoBytes make) code pc s h = refl
made_known TableSwitched code pc s h = refl
made_known LookupSwitched code pc s h = refl
made_known Widened code pc s h = wide_known code pc s h
made_known NoForm code pc s h = absurd cc

-- ---- switches

table_form : form_of 0xaa ≡ TableSwitched
unfolding high_form
table_form = refl

lookup_form : form_of 0xab ≡ LookupSwitched
unfolding high_form
lookup_form = refl

not_above : (a b : ℤ) → le_z a b ≡ true → int_lt b a ≡ false
not_above (pos a) (pos b) h = le-ltb b a (leb-true a b h)
not_above (pos a) (negsuc b) h = absurd cc
not_above (negsuc a) (pos b) h = refl
not_above (negsuc a) (negsuc b) h = le-ltb a b (leb-true b a h)

if_some : (b : Bool) (x : Option Sized) (s : Sized) → (if b then x else None) ≡ Some s → b ≡ true
if_some true x s h = refl
if_some false x s h = absurd cc

table_in_order : (code : List ℕ) (pc : ℕ) (s : Sized) → table_switch_at code pc ≡ Some s
    → exceeds (signed_at w32 code (operands_of pc + 4)) (signed_at w32 code (operands_of pc + 8)) ≡ false
unfolding table_switch_at
table_in_order code pc s h =
    let low_at = signed_at w32 code (operands_of pc + 4) in
    let high_at = signed_at w32 code (operands_of pc + 8) in
    (then_some (signed_at w32 code (operands_of pc)) _ s (λ default. exceeds low_at high_at ≡ false) (λ default is0 e0.
    (then_some low_at _ s (λ low. exceeds low_at high_at ≡ false) (λ low is1 e1.
    (then_some high_at _ s (λ high. exceeds low_at high_at ≡ false) (λ high is2 e2.
    rw (is1, is2) (not_above low high (if_some (le_z low high) _ s e2))) e1).1.1) e0).1.1) h).1.1

lookup_in_order : (code : List ℕ) (pc : ℕ) (s : Sized) → lookup_switch_at code pc ≡ Some s
    → option_map_or (leb (2 ^ 31)) (word_at 4 code (operands_of pc + 4)) false ≡ false
unfolding lookup_switch_at
lookup_in_order code pc s h =
    let count_at = word_at 4 code (operands_of pc + 4) in
    (then_some (signed_at w32 code (operands_of pc)) _ s (λ default. option_map_or (leb (2 ^ 31)) count_at false ≡ false) (λ default is0 e0.
    (then_some count_at _ s (λ n. option_map_or (leb (2 ^ 31)) count_at false ≡ false) (λ n is1 e1.
    rw is1 (lt-leb (2 ^ 31) n (ltb-true _ _ (if_some (ltb n (2 ^ 31)) _ s e1)))) e0).1.1) h).1.1

-- where a test of the opcode fails, or the rest does
unless : (opcode k : ℕ) (e : Bool) → (opcode ≡ k → e ≡ false) → (eqb opcode k && e) ≡ false
unless opcode k e h = by (eqb opcode k) (λ q. h (eqb-true opcode k q))
  where
    by : (b : Bool) → (b ≡ true → e ≡ false) → (b && e) ≡ false
    by true f = f refl
    by false f = refl

none_of_three : (a b c : Bool) → a ≡ false → b ≡ false → c ≡ false → (a || (b || c)) ≡ false
none_of_three true b c x y z = absurd cc
none_of_three false true c x y z = absurd cc
none_of_three false false c x y z = z

-- ---- where a whole instruction begins

module _ (code : List ℕ) (pc : ℕ) (here : pc < length code) where
  made : (s : Sized) → sized_at code pc ≡ Some s → made_of (form_of (opcode_at code pc)) code pc ≡ Some s
  made s e = sym (sized_is code pc here) ∙ e

  made_by : (s : Sized) (opcode : ℕ) (form : Form) → sized_at code pc ≡ Some s → opcode_at code pc ≡ opcode → form_of opcode ≡ form
      → made_of form code pc ≡ Some s
  made_by s opcode form e is formed =
      subst (λ (f : Form). made_of f code pc ≡ Some s) formed (subst (λ (o : ℕ). made_of (form_of o) code pc ≡ Some s) is (made s e))

  -- its opcode is known
  pub whole_is_known : (s : Sized) → sized_at code pc ≡ Some s → is_known_opcode code pc ≡ true
  whole_is_known s e = made_known (form_of (opcode_at code pc)) code pc s (made s e)

  in_order : (s : Sized) → sized_at code pc ≡ Some s → low_above_high code pc ≡ false
  in_order s e = unless (opcode_at code pc) 0xaa _ (λ is. table_in_order code pc s (made_by s 0xaa TableSwitched e is table_form))

  counted : (s : Sized) → sized_at code pc ≡ Some s → negative_count code pc ≡ false
  counted s e = unless (opcode_at code pc) 0xab _ (λ is. lookup_in_order code pc s (made_by s 0xab LookupSwitched e is lookup_form))

  not_cut : (s : Sized) → sized_at code pc ≡ Some s → cut_instruction code pc ≡ false
  not_cut s e = rw (whole_is_known s e, e) refl

  -- nothing is malformed there
  pub whole_is_formed : (s : Sized) → sized_at code pc ≡ Some s
      → (low_above_high code pc || (negative_count code pc || cut_instruction code pc)) ≡ false
  whole_is_formed s e = none_of_three _ _ _ (in_order s e) (counted s e) (not_cut s e)

-- where none begins at a known opcode
pub cut_is_malformed : (code : List ℕ) (pc : ℕ) → is_known_opcode code pc ≡ true → is_some (sized_at code pc) ≡ false
    → (low_above_high code pc || (negative_count code pc || cut_instruction code pc)) ≡ true
cut_is_malformed code pc known none = rw (known, none) (by (low_above_high code pc) (negative_count code pc))
  where
    by : (l n : Bool) → (l || (n || (true && (true && (not l && not n))))) ≡ true
    by true n = refl
    by false true = refl
    by false false = refl

-- the same, where it is only known that one begins
module _ (code : List ℕ) (pc : ℕ) (here : pc < length code) where
  by_some : {P : Type 0} (o : Option Sized) → sized_at code pc ≡ o → is_some o ≡ true → ((s : Sized) → sized_at code pc ≡ Some s → P) → P
  by_some None e h f = absurd cc
  by_some (Some s) e h f = f s e

  pub known_there : is_some (sized_at code pc) ≡ true → not (is_known_opcode code pc) ≡ false
  known_there h = by_some (sized_at code pc) refl h (λ s e. ap not (whole_is_known code pc here s e))

  pub formed_there : is_some (sized_at code pc) ≡ true
      → (low_above_high code pc || (negative_count code pc || cut_instruction code pc)) ≡ false
  formed_there h = by_some (sized_at code pc) refl h (λ s e. whole_is_formed code pc here s e)
