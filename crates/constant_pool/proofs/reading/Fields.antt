-- The laws of numbers, strings and tables.
use Rattle.std.proofs.Common.{◌≡◌, ℕ, eqb, ◌+◌, ◌*◌, ◌%◌, ◌^◌, ◌<◌, ◌≤◌, false, ltb, List, [], ◌∷◌, ◌++◌, length, take, drop, Result, Ok, Err, refl, sym, ap, subst, ◌∙◌, arith, IsTrue, inl, inr}
use Rattle.std.specs.List.{flat_map, AllByRecursion}
use Rattle.std.proofs.lemmas.Bool.{eqb-true, ltb-false, le-ltb}
use Rattle.std.proofs.lemmas.List.{take_at, drop_at, take-append-drop, length-append, length-take, nil_from_length, append-nil}
use Rattle.std.proofs.lemmas.Nat.{be_bytes_2, be_bytes_4, be_bytes_8}
use Rattle.byteorder.specs.Endian.{big_number, big_bytes}
use Rattle.byteorder.specs.Numbers.{big_number-reads_back, big_from-lt, length-bytes_high_first, big_from-append}
use Rattle.constant_pool.specs.declared.reading.fault.Malformed.{Malformed}
use Rattle.constant_pool.specs.declared.reading.fault.Cause.{Cause}
use Rattle.constant_pool.specs.declared.reading.fault.Cause.TheVariants as causes
use Rattle.constant_pool.specs.reading.Input.{Input}
use Rattle.constant_pool.specs.reading.Reading.{◌>>=◌, Read, after, number_at, bytes_at, pair_at, sized_at, inner_at, filled, filled_at, table_at, inner_cause, is_field_cause, moved, whole_at}
use Rattle.constant_pool.proofs.reading.Laws.{IsBytes, IsBytes-drop, IsBytes-take, bind_ok, bind_err, done, err_is, never_stops, guard_ok, guard_err, guard_passed, guard_unpassed, ok_is, at_place, Takes, Laws, fits, last, then, times_laws, placed_laws}

abbrev pub u1 : ℕ → List ℕ
u1 n = big_bytes 1 n

abbrev pub u2 : ℕ → List ℕ
u2 n = big_bytes 2 n

abbrev pub u4 : ℕ → List ℕ
u4 n = big_bytes 4 n

abbrev pub u8 : ℕ → List ℕ
u8 n = big_bytes 8 n

-- a count of two bytes, and each item
abbrev pub table : {A : Type 0} → (A → List ℕ) → List A → List ℕ
table text xs = u2 (length xs) ++ flat_map text xs

-- a length of four bytes, and the bytes
abbrev pub sized : List ℕ → List ℕ
sized text = u4 (length text) ++ text

-- a number of n bytes gives them back
abbrev IsBack : ℕ → Type 0
IsBack n = (bytes : List ℕ) → length bytes ≡ n → IsBytes bytes → big_bytes n (big_number n bytes) ≡ bytes

back1 : IsBack 1
back1 [] len small = absurd cc
back1 (b ∷ []) len small = let e : (b * 1 + 0) % 256 ≡ b = omega (arith, small 0) in ap (λ (k : ℕ). k ∷ []) e
back1 (b ∷ c ∷ bytes) len small = absurd cc

back2 : IsBack 2
back2 bytes len small = be_bytes_2 bytes (big_number 2 bytes) len small (omega arith)

back4 : IsBack 4
back4 bytes len small = be_bytes_4 bytes (big_number 4 bytes) len small (omega arith)

back8 : IsBack 8
back8 bytes len small = be_bytes_8 bytes (big_number 8 bytes) len small (omega arith)

taken_front : (n : ℕ) (i : Input) (text : List ℕ) → n ≤ length i.rest → IsBytes i.rest → text ≡ take n i.rest → Takes i text (after n i)
taken_front n i text long small is = record {
  parts = sym (take-append-drop n i.rest) ∙ ap (λ (l : List ℕ). l ++ drop n i.rest) (sym is);
  at = rw is (omega (arith, length-take n i.rest));
  rest_fits = IsBytes-drop n i.rest small;
}

number_laws : (n : ℕ) → IsBack n → Laws (number_at n) (big_bytes n) (λ x. x < 256 ^ n)
number_laws n back = record {
  takes = λ i x j small e.
      (let g = guard_ok (ltb (length i.rest) n) (record { cause = causes.Truncated; offset = i.at }) (big_number n i.rest, after n i) (x, j) e in
      let long : n ≤ length i.rest = ltb-false _ _ g.0 in
      let front : length (take n i.rest) ≡ n = omega (arith, length-take n i.rest) in
      let same : big_number n (take n i.rest) ≡ big_number n i.rest = sym (big_from-append n (take n i.rest) (drop n i.rest) (omega arith)) ∙ ap (λ (l : List ℕ). big_number n l) (take-append-drop n i.rest) in
      let text : big_bytes n (big_number n i.rest) ≡ take n i.rest = ap (λ (k : ℕ). big_bytes n k) (sym same) ∙ back (take n i.rest) front (IsBytes-take n i.rest small) in
      subst (λ (p : ℕ × Input). Takes i (big_bytes n p.0) p.1 × (p.0 < 256 ^ n)) g.1 (taken_front n i (big_bytes n (big_number n i.rest)) long small text, big_from-lt 0 n i.rest small));
  again = λ at x rest lt.
      (let len = length-bytes_high_first n x in
      let long : ltb (length (big_bytes n x ++ rest)) n ≡ false = le-ltb _ _ (omega (arith, length-append (big_bytes n x) rest)) in
      rw (long, big_number-reads_back n x rest lt, drop_at (big_bytes n x) rest n len, len) refl);
  stops = λ i f small e. guard_err (ltb (length i.rest) n) (record { cause = causes.Truncated; offset = i.at }) f (big_number n i.rest, after n i) refl e;
}

pub u1_laws : Laws (number_at 1) u1 (λ x. x < 256)
u1_laws = number_laws 1 back1

pub u2_laws : Laws (number_at 2) u2 (λ x. x < 2 ^ 16)
u2_laws = number_laws 2 back2

pub u4_laws : Laws (number_at 4) u4 (λ x. x < 2 ^ 32)
u4_laws = number_laws 4 back4

pub u8_laws : Laws (number_at 8) u8 (λ x. x < 2 ^ 64)
u8_laws = number_laws 8 back8

pub bytes_laws : (n : ℕ) → Laws (bytes_at n) (λ text. text) (λ text. length text ≡ n)
bytes_laws n = record {
  takes = λ i x j small e.
      (let g = guard_ok (ltb (length i.rest) n) (record { cause = causes.Truncated; offset = i.at }) (take n i.rest, after n i) (x, j) e in
      let long : n ≤ length i.rest = ltb-false _ _ g.0 in
      subst (λ (p : List ℕ × Input). Takes i p.0 p.1 × (length p.0 ≡ n)) g.1 (taken_front n i (take n i.rest) long small refl, omega (arith, length-take n i.rest)));
  again = λ at x rest len.
      (let long : ltb (length (x ++ rest)) n ≡ false = le-ltb _ _ (omega (arith, length-append x rest)) in
      rw (long, take_at x rest n len, drop_at x rest n len, len) refl);
  stops = λ i f small e. guard_err (ltb (length i.rest) n) (record { cause = causes.Truncated; offset = i.at }) f (take n i.rest, after n i) refl e;
}

pub table_laws : {A : Type 0} {read : Input → Read A} {text : A → List ℕ} {Fits : A → Type 0} → Laws read text Fits
    → Laws (table_at read) (table text) (λ xs. (length xs < 2 ^ 16) × AllByRecursion Fits xs)
unfolding table_at
table_laws laws =
    fits (then _ length u2_laws (λ n _. times_laws laws n) (λ n xs _ r. r.0)) (λ xs h. (h.0, h.1.1)) (λ xs h. (h.0, (refl, h.1)))

pub pair_laws : Laws pair_at (λ p. u2 p.0 ++ u2 p.1) (λ p. (p.0 < 2 ^ 16) × (p.1 < 2 ^ 16))
unfolding pair_at
pair_laws =
    fits (then _ (λ p. p.0) u2_laws (λ a _. last (λ b. (a, b)) (λ p. p.1) (λ b. refl) u2_laws) (λ a p _ r. sym (ap (λ (q : ℕ × ℕ). q.0) r.1)))
    (λ p h. (h.0, h.1.0)) (λ p h. (h.0, (h.1, refl)))

pub sized_laws : Laws sized_at sized (λ text. length text < 2 ^ 32)
unfolding sized_at
sized_laws = fits (then _ length u4_laws (λ n _. bytes_laws n) (λ n text _ r. r)) (λ text h. h.0) (λ text h. (h, refl))

-- ---- a field whose faults are all at its first byte

moved_ok : {A : Type 0} (at : ℕ) (r : Result A Malformed) (x : A) → moved at r ≡ Ok x → r ≡ Ok x
moved_ok at (Ok y) x e = e
moved_ok at (Err f) x e = absurd cc

moved_err : {A : Type 0} (at : ℕ) (r : Result A Malformed) (f : Malformed) → moved at r ≡ Err f
    → (d : Malformed) × (r ≡ Err d) × (d.cause ≡ f.cause)
moved_err at (Ok y) f e = absurd cc
moved_err {A = A} at (Err d) f e = (d, refl, ap (λ (m : Malformed). m.cause) (err_is {B = A} (record { cause = d.cause; offset = at }) f e))

pub whole_laws : {A : Type 0} {read : Input → Read A} {text : A → List ℕ} {Fits : A → Type 0} → Laws read text Fits
    → Laws (whole_at read) text Fits
unfolding whole_at
whole_laws {A = A} {read = read} laws = record {
  takes = λ i x j small e. laws.takes i x j small (moved_ok i.at (read i) (x, j) e);
  again = λ at x rest f. rw (laws.again at x rest f) refl;
  stops = λ i f small e.
      (let m = moved_err i.at (read i) f e in
      subst (λ (c : Cause). IsTrue (is_field_cause c)) m.2 (laws.stops i m.0 small m.1));
}

-- ---- what fills its bytes

filled_ok : {A : Type 0} (at : ℕ) (r : Read A) (x : A) → filled at r ≡ Ok x → (j : Input) × (r ≡ Ok (x, j)) × (length j.rest ≡ 0)
unfolding filled
filled_ok at (Ok y) x e =
    let g = guard_passed (eqb (length y.1.rest) 0) (record { cause = causes.Attribute; offset = at }) y.0 x e in
    (y.1, ap (λ z. Ok (z, y.1)) g.1, eqb-true _ _ g.0)
filled_ok at (Err f) x e = absurd cc

inner_field_cause : (c : Cause) → IsTrue (is_field_cause c) → IsTrue (is_field_cause (inner_cause c))
inner_field_cause causes.Truncated h = refl
inner_field_cause causes.Tag h = refl
inner_field_cause causes.Utf8 h = refl
inner_field_cause causes.Attribute h = refl
inner_field_cause causes.Magic h = h
inner_field_cause causes.Version h = h
inner_field_cause causes.Index h = h
inner_field_cause causes.Name h = h
inner_field_cause causes.Descriptor h = h
inner_field_cause causes.Trailing h = h
inner_field_cause causes.Duplicate h = h
inner_field_cause causes.OutOfMemory h = h
inner_field_cause causes.Code h = h

filled_err : {A : Type 0} (at : ℕ) (r : Read A) (f : Malformed) → ((d : Malformed) → r ≡ Err d → IsTrue (is_field_cause d.cause))
    → filled at r ≡ Err f → IsTrue (is_field_cause f.cause)
unfolding filled
filled_err at (Ok y) f h e = guard_unpassed (eqb (length y.1.rest) 0) (record { cause = causes.Attribute; offset = at }) f y.0 refl e
filled_err {A = A} at (Err d) f h e = subst (λ (m : Malformed). IsTrue (is_field_cause m.cause)) (err_is {B = A} (record { cause = inner_cause d.cause; offset = d.offset }) f e) (inner_field_cause d.cause (h d refl))

inner_laws : {A : Type 0} {read : Input → Read A} {text : A → List ℕ} {Fits : A → Type 0} → Laws read text Fits
    → (at n : ℕ) → Laws (λ i. inner_at n i >>= λ inner. filled at (read inner.0) >>= λ x. Ok (x, inner.1)) text (λ x. (length (text x) ≡ n)
    × Fits x)
unfolding filled
inner_laws {A = A} {read = read} {text = text} {Fits = Fits} laws place n = record {
  takes = λ i x j small e.
      (let s = bind_ok (inner_at n i) (λ inner. filled place (read inner.0) >>= λ x. Ok (x, inner.1)) (x, j) e in
      let g = guard_ok (ltb (length i.rest) n) (record { cause = causes.Truncated; offset = i.at }) (at_place i.at (take n i.rest), after n i) s.0 s.1 in
      let long : n ≤ length i.rest = ltb-false _ _ g.0 in
      let b = bind_ok (filled place (read s.0.0)) (λ x. Ok (x, s.0.1)) (x, j) s.2 in
      let w = filled_ok place (read s.0.0) b.0 b.1 in
      let read_is : read (at_place i.at (take n i.rest)) ≡ Ok (b.0, w.0) = ap (λ (p : Input × Input). read p.0) g.1 ∙ w.1 in
      let t = laws.takes (at_place i.at (take n i.rest)) b.0 w.0 (IsBytes-take n i.rest small) read_is in
      let whole : take n i.rest ≡ text b.0 = t.0.parts ∙ ap (λ (l : List ℕ). text b.0 ++ l) (nil_from_length w.0.rest w.2) ∙ append-nil (text b.0) in
      let len : length (text b.0) ≡ n = omega (arith, ap length whole, length-take n i.rest) in
      let end : s.0.1 ≡ after n i = ap (λ (p : Input × Input). p.1) (sym g.1) in
      subst (λ (p : A × Input). Takes i (text p.0) p.1 × ((length (text p.0) ≡ n) × Fits p.0)) (ok_is (b.0, s.0.1) (x, j) b.2)
      (subst (λ (k : Input). Takes i (text b.0) k) (sym end) (taken_front n i (text b.0) long small (sym whole)), (len, t.1)));
  again = λ at x rest f.
      (let long : ltb (length (text x ++ rest)) n ≡ false = le-ltb _ _ (omega (arith, length-append (text x) rest, f.0)) in
      let inside : read (at_place at (text x)) ≡ Ok (x, at_place (at + length (text x)) []) = ap (λ (l : List ℕ). read (at_place at l)) (sym (append-nil (text x))) ∙ laws.again at x [] f.1 in
      rw (long, take_at (text x) rest n f.0, drop_at (text x) rest n f.0, inside, f.0) refl);
  stops = λ i f small e. elim (bind_err (inner_at n i) (λ inner. filled place (read inner.0) >>= λ x. done (x, inner.1)) f e) [
    | inl h ↦ guard_err (ltb (length i.rest) n) (record { cause = causes.Truncated; offset = i.at }) f (at_place i.at (take n i.rest), after n i) refl h
    | inr h ↦
        (let g = guard_ok (ltb (length i.rest) n) (record { cause = causes.Truncated; offset = i.at }) (at_place i.at (take n i.rest), after n i) h.0 h.1 in
        elim (bind_err (filled place (read h.0.0)) (λ x. done (x, h.0.1)) f h.2) [
          | inl k ↦ filled_err place (read h.0.0) f (λ d eq. laws.stops h.0.0 d (subst (λ (p : Input × Input). IsBytes p.0.rest) g.1 (IsBytes-take n i.rest small)) eq) k
          | inr k ↦ never_stops (k.0, h.0.1) f k.2
        ])
  ];
}

pub filled_laws : {A : Type 0} {read : Input → Read A} {text : A → List ℕ} {Fits : A → Type 0} → Laws read text Fits
    → Laws (filled_at read) (λ x. sized (text x)) (λ x. (length (text x) < 2 ^ 32) × Fits x)
unfolding filled_at
filled_laws {read = read} {text = text} laws =
    placed_laws (λ at i. number_at 4 i >>= λ n. inner_at n.0 n.1 >>= λ inner. filled at (read inner.0) >>= λ x. Ok (x, inner.1))
    (λ at. fits (then _ (λ x. length (text x)) u4_laws (λ n _. inner_laws laws at n) (λ n x _ r. r.0)) (λ x h. (h.0, h.1.1)) (λ x h. (h.0, (refl, h.1))))
