-- The laws that a reading of a format has, and how those of a struct follow from those of its fields.
use Rattle.std.proofs.Common.{◌≡◌, ◌⊎◌, ℕ, zero, suc, add-zero, ◌+◌, ◌<◌, Bool, true, false, cond, List, [], ◌∷◌, ◌++◌, length, get_or, take, drop, Result, Ok, Err, refl, sym, ap, subst, ◌∙◌, append_assoc, arith, inl, inr, IsTrue, MatchBool}
use Rattle.std.specs.List.{flat_map, AllByRecursion}
use Rattle.std.proofs.lemmas.Bool.{cases_lt}
use Rattle.std.proofs.lemmas.List.{get_or-drop, get_or-take, get_or_past, length-take, length-append}
use Rattle.std.proofs.lemmas.List.Concat.{flat_map-cons}
use Rattle.constant_pool.specs.declared.reading.fault.Malformed.{Malformed}
use Rattle.constant_pool.specs.declared.reading.fault.Cause.{Cause}
use Rattle.constant_pool.specs.reading.Input.{Input}
use Rattle.constant_pool.specs.reading.Reading.{◌>>=◌, Read, times_at, tested, is_field_cause}

abbrev pub IsBytes : List ℕ → Type 0
IsBytes bytes = (i : ℕ) → get_or bytes i 0 < 256

pub IsBytes-drop : (n : ℕ) (bytes : List ℕ) → IsBytes bytes → IsBytes (drop n bytes)
IsBytes-drop n bytes h i = rw get_or-drop (h (n + i))

pub IsBytes-take : (n : ℕ) (bytes : List ℕ) → IsBytes bytes → IsBytes (take n bytes)
IsBytes-take n bytes h i =
    elim (cases_lt i n) [
      | inl lt ↦ rw (get_or-take n bytes i 0 lt) (h i)
      | inr le ↦ rw (get_or_past (take n bytes) i 0 (omega (arith, length-take n bytes))) (omega arith)
    ]

-- the value of a step that did not fail
pub bind_ok : {A B : Type 0} (r : Result A Malformed) (f : A → Result B Malformed) (y : B) → (r >>= f) ≡ Ok y
    → (x : A) × (r ≡ Ok x) × (f x ≡ Ok y)
bind_ok (Ok x) f y e = (x, refl, e)
bind_ok (Err d) f y e = absurd cc

-- a test that did not fail
pub guard_ok : {A : Type 0} (b : Bool) (d : Malformed) (x y : A) → cond b (Err d) (Ok x) ≡ Ok y → (b ≡ false) × (x ≡ y)
guard_ok true d x y e = absurd cc
guard_ok false d x y e = (refl, cc)

pub guard_passed : {A : Type 0} (b : Bool) (d : Malformed) (x y : A) → cond b (Ok x) (Err d) ≡ Ok y → (b ≡ true) × (x ≡ y)
guard_passed true d x y e = (refl, cc)
guard_passed false d x y e = absurd cc

abbrev pub done : {A : Type 0} → A → Result A Malformed
done x = Ok x

pub ok_is : {A : Type 0} (x y : A) → done x ≡ done y → x ≡ y
ok_is x y e = cc

-- the input of these bytes at a place
abbrev pub at_place : ℕ → List ℕ → Input
at_place at rest = record { at = at; rest = rest }

abbrev pub failed : {A : Type 0} → Malformed → Result A Malformed
failed f = Err f

pub err_is : {B : Type 0} (c d : Malformed) → failed {A = B} c ≡ failed d → c ≡ d
err_is c d e = cc

pub never_stops : {A : Type 0} (x : A) (f : Malformed) → done x ≡ Err f → IsTrue (is_field_cause f.cause)
never_stops x f e = absurd cc

-- a fault that is there by a test
pub guard_err : {A : Type 0} (b : Bool) (d f : Malformed) (x : A) → IsTrue (is_field_cause d.cause) → cond b (failed d) (done x) ≡ Err f
    → IsTrue (is_field_cause f.cause)
guard_err {A = A} true d f x h e = subst (λ (m : Malformed). IsTrue (is_field_cause m.cause)) (err_is {B = A} d f e) h
guard_err false d f x h e = absurd cc

pub guard_unpassed : {A : Type 0} (b : Bool) (d f : Malformed) (x : A) → IsTrue (is_field_cause d.cause)
    → cond b (done x) (failed d) ≡ Err f → IsTrue (is_field_cause f.cause)
guard_unpassed true d f x h e = absurd cc
guard_unpassed {A = A} false d f x h e = subst (λ (m : Malformed). IsTrue (is_field_cause m.cause)) (err_is {B = A} d f e) h

-- what a reader took from the front
pub record Takes (i : Input) (text : List ℕ) (j : Input) : Type 0 where
  pub parts : i.rest ≡ text ++ j.rest
  pub at : j.at ≡ i.at + length text
  pub rest_fits : IsBytes j.rest

pub Takes-then : (a : Input) (x : List ℕ) (b : Input) (y : List ℕ) (c : Input) → Takes a x b → Takes b y c → Takes a (x ++ y) c
Takes-then a x b y c p q = record {
  parts = p.parts ∙ ap (λ (t : List ℕ). x ++ t) q.parts ∙ sym (append_assoc x y c.rest);
  at = omega (arith, p.at, q.at, length-append x y);
  rest_fits = q.rest_fits;
}

pub Takes-nothing : (i : Input) → IsBytes i.rest → Takes i [] i
Takes-nothing i small = record { parts = refl; at = omega arith; rest_fits = small }

-- a step that failed
pub bind_err : {A B : Type 0} (r : Result A Malformed) (f : A → Result B Malformed) (d : Malformed) → (r >>= f) ≡ Err d
    → (r ≡ Err d) ⊎ ((x : A) × (r ≡ Ok x) × (f x ≡ Err d))
bind_err (Ok x) f d e = inr (x, refl, e)
bind_err {B = B} (Err c) f d e = inl (ap failed (err_is {B = B} c d e))

-- A reader takes what a speller writes, and what is written is read again, wherever it begins. Its faults are those of a field.
pub record Laws {A : Type 0} (read : Input → Read A) (text : A → List ℕ) (Fits : A → Type 0) : Type 0 where
  pub takes : (i : Input) (x : A) (j : Input) → IsBytes i.rest → read i ≡ Ok (x, j) → Takes i (text x) j × Fits x
  pub again : (at : ℕ) (x : A) (rest : List ℕ) → Fits x → read (at_place at (text x ++ rest)) ≡ Ok (x, at_place (at + length (text x)) rest)
  pub stops : (i : Input) (f : Malformed) → IsBytes i.rest → read i ≡ Err f → IsTrue (is_field_cause f.cause)

-- the same laws, with another word for what fits
pub fits : {A : Type 0} {read : Input → Read A} {text : A → List ℕ} {F G : A → Type 0} → Laws read text F → ((x : A) → F x → G x)
    → ((x : A) → G x → F x) → Laws read text G
fits laws there back = record {
  takes = λ i x j small e. (let t = laws.takes i x j small e in (t.0, there x t.1));
  again = λ at x rest f. laws.again at x rest (back x f);
  stops = laws.stops;
}

-- what is read may depend on where it begins
pub placed_laws : {A : Type 0} {text : A → List ℕ} {Fits : A → Type 0} (read : ℕ → Input → Read A) → ((at : ℕ) → Laws (read at) text Fits)
    → Laws (λ i. read i.at i) text Fits
placed_laws read laws = record {
  takes = λ i. (laws i.at).takes i;
  again = λ at. (laws at).again at;
  stops = λ i. (laws i.at).stops i;
}

-- a value made of one that is read
pub last : {A B : Type 0} {read : Input → Read A} {text : A → List ℕ} {Fits : A → Type 0} (make : A → B) (part : B → A)
    → ((a : A) → part (make a) ≡ a) → Laws read text Fits
    → Laws (λ i. read i >>= λ x. Ok (make x.0, x.1)) (λ b. text (part b)) (λ b. Fits (part b) × (make (part b) ≡ b))
last {A = A} {B = B} {read = read} {text = text} {Fits = Fits} make part back laws = record {
  takes = λ i b j small e.
      (let s = bind_ok (read i) (λ x. Ok (make x.0, x.1)) (b, j) e in
      let t = laws.takes i s.0.0 s.0.1 small s.1 in
      let same : part (make s.0.0) ≡ s.0.0 = back s.0.0 in
      let taken : Takes i (text (part (make s.0.0))) s.0.1 × (Fits (part (make s.0.0)) × (make (part (make s.0.0)) ≡ make s.0.0)) = rw same (t.0, (t.1, refl)) in
      subst (λ (p : B × Input). Takes i (text (part p.0)) p.1 × (Fits (part p.0) × (make (part p.0) ≡ p.0))) (ok_is (make s.0.0, s.0.1) (b, j) s.2) taken);
  again = λ at b rest f. rw (laws.again at (part b) rest f.0) (ap (λ (y : B). done (y, at_place (at + length (text (part b))) rest)) f.1);
  stops = λ i f small e. elim (bind_err (read i) (λ x. done (make x.0, x.1)) f e) [ inl h ↦ laws.stops i f small h | inr h ↦ never_stops (make h.0.0, h.0.1) f h.2 ];
}

-- a variant made of a value that is read
pub made : {A B : Type 0} {read : Input → Read A} {text : A → List ℕ} {Fits : A → Type 0} (make : A → B) (body : B → List ℕ)
    → ((a : A) → body (make a) ≡ text a) → Laws read text Fits
    → Laws (λ i. read i >>= λ x. Ok (make x.0, x.1)) body (λ b. (a : A) × (Fits a × (make a ≡ b)))
made {A = A} {B = B} {read = read} {text = text} {Fits = Fits} make body is laws = record {
  takes = λ i b j small e.
      (let s = bind_ok (read i) (λ x. Ok (make x.0, x.1)) (b, j) e in
      let t = laws.takes i s.0.0 s.0.1 small s.1 in
      subst (λ (p : B × Input). Takes i (body p.0) p.1 × ((a : A) × (Fits a × (make a ≡ p.0)))) (ok_is (make s.0.0, s.0.1) (b, j) s.2)
      (subst (λ (l : List ℕ). Takes i l s.0.1) (sym (is s.0.0)) t.0, (s.0.0, (t.1, refl))));
  again = λ at b rest f.
      subst (λ (c : B). ◌>>=◌ {B = B × Input} (read (at_place at (body c ++ rest))) (λ x. Ok (make x.0, x.1)) ≡ Ok (c, at_place (at + length (body c)) rest)) f.1.1
      (rw (is f.0, laws.again at f.0 rest f.1.0) refl);
  stops = λ i f small e. elim (bind_err (read i) (λ x. done (make x.0, x.1)) f e) [ inl h ↦ laws.stops i f small h | inr h ↦ never_stops (make h.0.0, h.0.1) f h.2 ];
}

-- one of two readers, by a test
pub either_laws : {A : Type 0} {yes no : Input → Read A} {text : A → List ℕ} {F G : A → Type 0} (b : Bool) → Laws yes text F
    → Laws no text G → Laws (λ i. cond b (yes i) (no i)) text (λ x. MatchBool b (F x) (G x))
either_laws true l m = l
either_laws false l m = m

-- a field, and then the others, which may depend on it
pub then : {A B : Type 0} {read : Input → Read A} {text : A → List ℕ} {Fits : A → Type 0} {others : B → List ℕ} {Rest : A → B → Type 0}
    (next : A × Input → Read B) (first : B → A)
    → Laws read text Fits → ((a : A) → Fits a → Laws (λ j. next (a, j)) others (Rest a))
    → ((a : A) (b : B) → Fits a → Rest a b → first b ≡ a)
    → Laws (λ i. read i >>= next) (λ b. text (first b) ++ others b) (λ b. Fits (first b) × Rest (first b) b)
then {A = A} {B = B} {read = read} {text = text} {Fits = Fits} {others = others} {Rest = Rest} next first laws others_laws same = record {
  takes = λ i b j small e.
      (let s = bind_ok (read i) next (b, j) e in
      let t = laws.takes i s.0.0 s.0.1 small s.1 in
      let u = (others_laws s.0.0 t.1).takes s.0.1 b j t.0.rest_fits s.2 in
      let is : first b ≡ s.0.0 = same s.0.0 b t.1 u.1 in
      let both = Takes-then i (text s.0.0) s.0.1 (others b) j t.0 u.0 in
      rw is (both, (t.1, u.1)));
  again = λ at b rest f.
      (let regrouped : (text (first b) ++ others b) ++ rest ≡ text (first b) ++ (others b ++ rest) = append_assoc (text (first b)) (others b) rest in
      let place : at + length (text (first b)) + length (others b) ≡ at + length (text (first b) ++ others b) = omega (arith, length-append (text (first b)) (others b)) in
      rw (regrouped, laws.again at (first b) (others b ++ rest) f.0, ← place) ((others_laws (first b) f.0).again (at + length (text (first b))) b rest f.1));
  stops = λ i f small e. elim (bind_err (read i) next f e) [ inl h ↦ laws.stops i f small h | inr h ↦ (let t = laws.takes i h.0.0 h.0.1 small h.1 in (others_laws h.0.0 t.1).stops h.0.1 f t.0.rest_fits h.2) ];
}

-- a value that passes a test
pub tested_laws : {A : Type 0} {read : Input → Read A} {text : A → List ℕ} {Fits : A → Type 0} (test : A → Bool) (cause : Cause)
    → IsTrue (is_field_cause cause) → Laws read text Fits
    → Laws (tested test cause read) text (λ x. Fits x × IsTrue (test x))
tested_laws {A = A} {read = read} {text = text} {Fits = Fits} test cause is laws = record {
  takes = λ i x j small e.
      (let s = bind_ok (read i) (λ x. cond (test x.0) (Ok x) (Err (record { cause = cause; offset = i.at }))) (x, j) e in
      let t = laws.takes i s.0.0 s.0.1 small s.1 in
      let g = guard_passed (test s.0.0) (record { cause = cause; offset = i.at }) s.0 (x, j) s.2 in
      subst (λ (p : A × Input). Takes i (text p.0) p.1 × (Fits p.0 × IsTrue (test p.0))) g.1 (t.0, (t.1, g.0)));
  again = λ at x rest f. rw (laws.again at x rest f.0, f.1) refl;
  stops = λ i f small e. elim (bind_err (read i) (λ x. cond (test x.0) (done x) (failed (record { cause = cause; offset = i.at }))) f e) [
    | inl h ↦ laws.stops i f small h
    | inr h ↦ guard_unpassed (test h.0.0) (record { cause = cause; offset = i.at }) f h.0 is h.2
  ];
}

-- one after the other
times_take : {A : Type 0} {read : Input → Read A} {text : A → List ℕ} {Fits : A → Type 0} → Laws read text Fits
    → (n : ℕ) (i : Input) (x : List A) (j : Input) → IsBytes i.rest → times_at read n i ≡ Ok (x, j)
    → Takes i (flat_map text x) j × ((length x ≡ n) × AllByRecursion Fits x)
unfolding times_at
times_take {A = A} {text = text} {Fits = Fits} laws zero i x j small e =
    subst (λ (y : List A × Input). Takes i (flat_map text y.0) y.1 × ((length y.0 ≡ 0) × AllByRecursion Fits y.0)) (ok_is ([], i) (x, j) e) (Takes-nothing i small, (refl, tt))
times_take {A = A} {read = read} {text = text} {Fits = Fits} laws (suc n) i x j small e =
    let a = bind_ok (read i) (λ first. times_at read n first.1 >>= λ others. Ok (first.0 ∷ others.0, others.1)) (x, j) e in
    let b = bind_ok (times_at read n a.0.1) (λ others. Ok (a.0.0 ∷ others.0, others.1)) (x, j) a.2 in
    let t = laws.takes i a.0.0 a.0.1 small a.1 in
    let u = times_take laws n a.0.1 b.0.0 b.0.1 t.0.rest_fits b.1 in
    subst (λ (y : List A × Input). Takes i (flat_map text y.0) y.1 × ((length y.0 ≡ suc n) × AllByRecursion Fits y.0)) (ok_is (a.0.0 ∷ b.0.0, b.0.1) (x, j) b.2)
    (rw flat_map-cons (Takes-then i (text a.0.0) a.0.1 (flat_map text b.0.0) b.0.1 t.0 u.0), (ap suc u.1.0, (t.1, u.1.1)))

times_stop : {A : Type 0} {read : Input → Read A} {text : A → List ℕ} {Fits : A → Type 0} → Laws read text Fits
    → (n : ℕ) (i : Input) (f : Malformed) → IsBytes i.rest → times_at read n i ≡ Err f → IsTrue (is_field_cause f.cause)
unfolding times_at
times_stop laws zero i f small e = never_stops ([], i) f e
times_stop {A = A} {read = read} laws (suc n) i f small e =
    elim (bind_err (read i) (λ first. times_at read n first.1 >>= λ others. done (first.0 ∷ others.0, others.1)) f e) [
      | inl h ↦ laws.stops i f small h
      | inr h ↦ elim (bind_err (times_at read n h.0.1) (λ others. done (h.0.0 ∷ others.0, others.1)) f h.2) [
        | inl g ↦ times_stop laws n h.0.1 f (laws.takes i h.0.0 h.0.1 small h.1).0.rest_fits g
        | inr g ↦ never_stops (h.0.0 ∷ g.0.0, g.0.1) f g.2
      ]
    ]

times_again : {A : Type 0} {read : Input → Read A} {text : A → List ℕ} {Fits : A → Type 0} → Laws read text Fits
    → (at : ℕ) (x : List A) (rest : List ℕ) → AllByRecursion Fits x
    → times_at read (length x) (at_place at (flat_map text x ++ rest)) ≡ Ok (x, at_place (at + length (flat_map text x)) rest)
unfolding times_at
times_again laws at [] rest f = rw add-zero refl
times_again {read = read} {text = text} laws at (x ∷ xs) rest f =
    let regrouped : flat_map text (x ∷ xs) ++ rest ≡ text x ++ (flat_map text xs ++ rest) = ap (λ (l : List ℕ). l ++ rest) (flat_map-cons text x xs) ∙ append_assoc (text x) (flat_map text xs) rest in
    let place : at + length (text x) + length (flat_map text xs) ≡ at + length (flat_map text (x ∷ xs)) = rw flat_map-cons (omega (arith, length-append (text x) (flat_map text xs))) in
    ap (λ (l : List ℕ). times_at read (suc (length xs)) (at_place at l)) regrouped ∙ rw (← place, laws.again at x (flat_map text xs ++ rest) f.0, times_again laws (at + length (text x)) xs rest f.1) refl

pub times_laws : {A : Type 0} {read : Input → Read A} {text : A → List ℕ} {Fits : A → Type 0} → Laws read text Fits
    → (n : ℕ) → Laws (times_at read n) (flat_map text) (λ xs. (length xs ≡ n) × AllByRecursion Fits xs)
times_laws {read = read} {text = text} laws n = record {
  takes = times_take laws n;
  again = λ at x rest f. subst (λ (k : ℕ). times_at read k (at_place at (flat_map text x ++ rest)) ≡ Ok (x, at_place (at + length (flat_map text x)) rest)) f.0 (times_again laws at x rest f.1);
  stops = times_stop laws n;
}
