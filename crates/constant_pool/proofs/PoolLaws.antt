-- The laws of the constant pool.
use Rattle.std.proofs.Common.{◌≡◌, ℕ, ◌-◌, add-zero, zero, suc, ◌+◌, ◌^◌, ◌<◌, Bool, true, false, not, ◌&&◌, cond, ltb, eqb, List, [], ◌∷◌, ◌++◌, length, Result, Ok, Err, refl, sym, ap, subst, ◌∙◌, append_assoc, arith, IsTrue, MatchBool, lit<, inl, inr}
use Rattle.std.specs.List.{list_all}
use Rattle.std.proofs.lemmas.Bool.{eqb-true, ltb-true, lt-ltb}
use Rattle.std.proofs.lemmas.List.{append-nil, length-append}
use Rattle.std.proofs.lemmas.List.Concat.{flat_map-cons}
use Rattle.constant_pool.specs.declared.reading.fault.Malformed.{Malformed}
use Rattle.constant_pool.specs.reading.Input.{Input}
use Rattle.constant_pool.specs.declared.reading.fault.Cause.TheVariants as causes
use Rattle.constant_pool.specs.reading.Reading.{◌>>=◌, Read, number_at, tested, is_field_cause}
use Rattle.constant_pool.proofs.reading.Laws.{IsBytes, bind_ok, bind_err, done, failed, never_stops, err_is, guard_err, ok_is, at_place, Takes, Takes-then, Takes-nothing, Laws, fits, then, tested_laws}
use Rattle.constant_pool.proofs.reading.Fields.{u1_laws, u2_laws, u4_laws, u8_laws, pair_laws, bytes_laws}
use Rattle.model.specs.Tree.{Entry, Utf8, Integer, Float, Long, Double, Class, String, Field, Method, InterfaceMethod, NameAndType, Unusable}
use Rattle.model.specs.Spelling.{u1, utf8, is_text_byte, entry, entries, EntryFits, ArePlaced, is_wide, pool, PoolFits}
use Rattle.constant_pool.specs.PoolReading.{utf8_at, is_wide_tag, body_at, entry_at, entries_at, pool_at}

utf8_laws : Laws utf8_at utf8 (λ text. (length text < 2 ^ 16) × IsTrue (list_all is_text_byte text))
unfolding utf8_at
utf8_laws =
    fits (then _ length u2_laws (λ n _. tested_laws (list_all is_text_byte) causes.Utf8 refl (bytes_laws n)) (λ n text _ r. r.0)) (λ text h. (h.0, h.1.1)) (λ text h. (h.0, (refl, h.1)))

-- which way a choice went
pub chosen : {A : Type 0} {b : Bool} {t u x : Result A Malformed} {G : Type 0} → (b ≡ true → t ≡ x → G) → (b ≡ false → u ≡ x → G)
    → cond b t u ≡ x → G
chosen {b = true} on off e = on refl e
chosen {b = false} on off e = off refl e

-- what stands behind a tag; the entry begins at `start`
TakesBody : Input → ℕ → Input → Entry → Input → Type 0
TakesBody start tag i e j = Takes start (u1 tag) i → (Takes start (entry e) j × EntryFits e) × (is_wide e ≡ is_wide_tag tag)

leaf : {A : Type 0} {read : Input → Read A} {text : A → List ℕ} {Fits : A → Type 0} (make : A → Entry) (laws : Laws read text Fits) (n : ℕ)
    (start : Input) (tag : ℕ) (i : Input) (e : Entry) (j : Input)
    → ((a : A) → entry (make a) ≡ u1 n ++ text a) → ((a : A) → is_wide (make a) ≡ is_wide_tag n) → ((a : A) → Fits a → EntryFits (make a))
    → IsBytes i.rest → eqb tag n ≡ true → ◌>>=◌ {B = Entry × Input} (read i) (λ x. Ok (make x.0, x.1)) ≡ Ok (e, j)
    → TakesBody start tag i e j
unfolding TakesBody
leaf {A = A} {read = read} {text = text} make laws n start tag i e j spelled wide fit small is eq first =
    let s = bind_ok (read i) (λ x. Ok (make x.0, x.1)) (e, j) eq in
    let t = laws.takes i s.0.0 s.0.1 small s.1 in
    let tag_is = eqb-true tag n is in
    let first_n : Takes start (u1 n) i = subst (λ (k : ℕ). Takes start (u1 k) i) tag_is first in
    let both : Takes start (u1 n ++ text s.0.0) s.0.1 = Takes-then start (u1 n) i (text s.0.0) s.0.1 first_n t.0 in
    let kind : is_wide (make s.0.0) ≡ is_wide_tag tag = wide s.0.0 ∙ ap (λ (k : ℕ). is_wide_tag k) (sym tag_is) in
    subst (λ (p : Entry × Input). (Takes start (entry p.0) p.1 × EntryFits p.0) × (is_wide p.0 ≡ is_wide_tag tag)) (ok_is (make s.0.0, s.0.1) (e, j) s.2) ((subst (λ (l : List ℕ). Takes start l s.0.1) (sym (spelled s.0.0)) both, fit s.0.0 t.1), kind)

body_takes : (start : Input) (tag : ℕ) (i : Input) (e : Entry) (j : Input) → IsBytes i.rest → body_at start tag i ≡ Ok (e, j)
    → TakesBody start tag i e j
unfolding body_at
body_takes start tag i e j small =
    chosen (leaf Utf8 utf8_laws 1 start tag i e j (λ a. refl) (λ a. refl) (λ a f. f) small) (λ _.
    chosen (leaf Integer u4_laws 3 start tag i e j (λ a. refl) (λ a. refl) (λ a f. f) small) (λ _.
    chosen (leaf Float u4_laws 4 start tag i e j (λ a. refl) (λ a. refl) (λ a f. f) small) (λ _.
    chosen (leaf Long u8_laws 5 start tag i e j (λ a. refl) (λ a. refl) (λ a f. f) small) (λ _.
    chosen (leaf Double u8_laws 6 start tag i e j (λ a. refl) (λ a. refl) (λ a f. f) small) (λ _.
    chosen (leaf Class u2_laws 7 start tag i e j (λ a. refl) (λ a. refl) (λ a f. f) small) (λ _.
    chosen (leaf String u2_laws 8 start tag i e j (λ a. refl) (λ a. refl) (λ a f. f) small) (λ _.
    chosen (leaf (λ p. Field p.0 p.1) pair_laws 9 start tag i e j (λ a. refl) (λ a. refl) (λ a f. f) small) (λ _.
    chosen (leaf (λ p. Method p.0 p.1) pair_laws 10 start tag i e j (λ a. refl) (λ a. refl) (λ a f. f) small) (λ _.
    chosen (leaf (λ p. InterfaceMethod p.0 p.1) pair_laws 11 start tag i e j (λ a. refl) (λ a. refl) (λ a f. f) small) (λ _.
    chosen (leaf (λ p. NameAndType p.0 p.1) pair_laws 12 start tag i e j (λ a. refl) (λ a. refl) (λ a f. f) small) (λ _ eq. absurd cc)))))))))))

-- the last place has no room for an entry of two
HasRoom : Bool → Entry → Type 0
HasRoom last e = EntryFits e × IsTrue (not (last && is_wide e))

entry_takes : (last : Bool) (i : Input) (e : Entry) (j : Input) → IsBytes i.rest → entry_at last i ≡ Ok (e, j)
    → Takes i (entry e) j × HasRoom last e
unfolding entry_at TakesBody HasRoom
entry_takes last i e j small eq =
    let s = bind_ok (tested (λ n. not (last && is_wide_tag n)) causes.Tag (number_at 1) i) (λ tag. body_at i tag.0 tag.1) (e, j) eq in
    let t = (tested_laws (λ n. not (last && is_wide_tag n)) causes.Tag refl u1_laws).takes i s.0.0 s.0.1 small s.1 in
    let b = body_takes i s.0.0 s.0.1 e j t.0.rest_fits s.2 t.0 in
    (b.0.0, (b.0.1, subst (λ (wide : Bool). IsTrue (not (last && wide))) (sym b.1) t.1.1))

again_leaf : {A : Type 0} {read : Input → Read A} {text : A → List ℕ} {Fits : A → Type 0} (make : A → Entry) (laws : Laws read text Fits)
    (last : Bool) (tag : ℕ) (at : ℕ) (a : A) (rest : List ℕ)
    → tag < 256 → IsTrue (not (last && is_wide_tag tag)) → Fits a
    → ((start i : Input) → body_at start tag i ≡ ◌>>=◌ {B = Entry × Input} (read i) (λ x. Ok (make x.0, x.1)))
    → entry_at last (at_place at ((u1 tag ++ text a) ++ rest)) ≡ Ok (make a, at_place (at + length (u1 tag ++ text a)) rest)
unfolding entry_at
again_leaf {text = text} make laws last tag at a rest small room f is =
    let place : at + 1 + length (text a) ≡ at + length (u1 tag ++ text a) = omega (arith, length-append (u1 tag) (text a)) in
    rw (append_assoc (u1 tag) (text a) rest, u1_laws.again at tag (text a ++ rest) small, room, is (at_place at (u1 tag ++ (text a ++ rest))) (at_place (at + 1) (text a ++ rest)), laws.again (at + 1) a rest f, place) refl

entry_again : (last : Bool) (at : ℕ) (e : Entry) (rest : List ℕ) → HasRoom last e
    → entry_at last (at_place at (entry e ++ rest)) ≡ Ok (e, at_place (at + length (entry e)) rest)
unfolding body_at HasRoom
entry_again last at (Utf8 text) rest f = again_leaf Utf8 utf8_laws last 1 at text rest (lit< tt) f.1 f.0 (λ _ _. refl)
entry_again last at (Integer n) rest f = again_leaf Integer u4_laws last 3 at n rest (lit< tt) f.1 f.0 (λ _ _. refl)
entry_again last at (Float n) rest f = again_leaf Float u4_laws last 4 at n rest (lit< tt) f.1 f.0 (λ _ _. refl)
entry_again last at (Long n) rest f = again_leaf Long u8_laws last 5 at n rest (lit< tt) f.1 f.0 (λ _ _. refl)
entry_again last at (Double n) rest f = again_leaf Double u8_laws last 6 at n rest (lit< tt) f.1 f.0 (λ _ _. refl)
entry_again last at (Class n) rest f = again_leaf Class u2_laws last 7 at n rest (lit< tt) f.1 f.0 (λ _ _. refl)
entry_again last at (String n) rest f = again_leaf String u2_laws last 8 at n rest (lit< tt) f.1 f.0 (λ _ _. refl)
entry_again last at (Field c n) rest f = again_leaf (λ p. Field p.0 p.1) pair_laws last 9 at (c, n) rest (lit< tt) f.1 f.0 (λ _ _. refl)
entry_again last at (Method c n) rest f = again_leaf (λ p. Method p.0 p.1) pair_laws last 10 at (c, n) rest (lit< tt) f.1 f.0 (λ _ _. refl)
entry_again last at (InterfaceMethod c n) rest f = again_leaf (λ p. InterfaceMethod p.0 p.1) pair_laws last 11 at (c, n) rest (lit< tt) f.1 f.0 (λ _ _. refl)
entry_again last at (NameAndType c n) rest f = again_leaf (λ p. NameAndType p.0 p.1) pair_laws last 12 at (c, n) rest (lit< tt) f.1 f.0 (λ _ _. refl)
entry_again last at Unusable rest f = absurd f.0

leaf_stops : {A : Type 0} {read : Input → Read A} {text : A → List ℕ} {Fits : A → Type 0} (make : A → Entry) (laws : Laws read text Fits)
    (i : Input) (f : Malformed) → IsBytes i.rest → ◌>>=◌ {B = Entry × Input} (read i) (λ x. Ok (make x.0, x.1)) ≡ Err f
    → IsTrue (is_field_cause f.cause)
leaf_stops {read = read} make laws i f small e = elim (bind_err (read i) (λ x. done (make x.0, x.1)) f e) [ inl h ↦ laws.stops i f small h | inr h ↦ never_stops (make h.0.0, h.0.1) f h.2 ]

body_stops : (start : Input) (tag : ℕ) (i : Input) (f : Malformed) → IsBytes i.rest → body_at start tag i ≡ Err f
    → IsTrue (is_field_cause f.cause)
unfolding body_at
body_stops start tag i f small =
    chosen {b = eqb tag 1} (λ _. leaf_stops Utf8 utf8_laws i f small) (λ _.
    chosen {b = eqb tag 3} (λ _. leaf_stops Integer u4_laws i f small) (λ _.
    chosen {b = eqb tag 4} (λ _. leaf_stops Float u4_laws i f small) (λ _.
    chosen {b = eqb tag 5} (λ _. leaf_stops Long u8_laws i f small) (λ _.
    chosen {b = eqb tag 6} (λ _. leaf_stops Double u8_laws i f small) (λ _.
    chosen {b = eqb tag 7} (λ _. leaf_stops Class u2_laws i f small) (λ _.
    chosen {b = eqb tag 8} (λ _. leaf_stops String u2_laws i f small) (λ _.
    chosen {b = eqb tag 9} (λ _. leaf_stops (λ p. Field p.0 p.1) pair_laws i f small) (λ _.
    chosen {b = eqb tag 10} (λ _. leaf_stops (λ p. Method p.0 p.1) pair_laws i f small) (λ _.
    chosen {b = eqb tag 11} (λ _. leaf_stops (λ p. InterfaceMethod p.0 p.1) pair_laws i f small) (λ _.
    chosen {b = eqb tag 12} (λ _. leaf_stops (λ p. NameAndType p.0 p.1) pair_laws i f small) (λ _ e. guard_err true (record { cause = causes.Tag; offset = start.at }) f (Unusable, i) refl e)))))))))))

entry_stops : (last : Bool) (i : Input) (f : Malformed) → IsBytes i.rest → entry_at last i ≡ Err f → IsTrue (is_field_cause f.cause)
unfolding entry_at
entry_stops last i f small e =
    let laws = tested_laws (λ n. not (last && is_wide_tag n)) causes.Tag refl u1_laws in
    elim (bind_err (tested (λ n. not (last && is_wide_tag n)) causes.Tag (number_at 1) i) (λ tag. body_at i tag.0 tag.1) f e) [
      | inl h ↦ laws.stops i f small h
      | inr h ↦ body_stops i h.0.0 h.0.1 f (laws.takes i h.0.0 h.0.1 small h.1).0.rest_fits h.2
    ]

entry_laws : (last : Bool) → Laws (entry_at last) entry (HasRoom last)
entry_laws last = record { takes = entry_takes last; again = entry_again last; stops = entry_stops last }

-- ---- the entries of so many places

not_true : (b : Bool) → IsTrue (not b) → b ≡ false
not_true true h = absurd cc
not_true false h = refl

placed_narrow : (e : Entry) (others : List Entry) → EntryFits e → is_wide e ≡ false → ArePlaced others → ArePlaced (e ∷ others)
placed_narrow e [] f narrow placed = (narrow, f)
placed_narrow e (other ∷ others) f narrow placed = (f, rw narrow placed)

TakesPlaces : ℕ → Input → List Entry × Input → Type 0
TakesPlaces n i x = Takes i (entries x.0) x.1 × ((length x.0 ≡ n) × ArePlaced x.0)

taken_wide : (n : ℕ) (i after j : Input) (e : Entry) (others : List Entry) → Takes i (entry e) after → EntryFits e → is_wide e ≡ true
    → TakesPlaces n after (others, j) → TakesPlaces (suc (suc n)) i (e ∷ Unusable ∷ others, j)
unfolding TakesPlaces
taken_wide n i after j e others t fit wide u =
    let same : entries (e ∷ Unusable ∷ others) ≡ entry e ++ entries others = flat_map-cons entry e (Unusable ∷ others) ∙ ap (λ (l : List ℕ). entry e ++ l) (flat_map-cons entry Unusable others) in
    (rw same (Takes-then i (entry e) after (entries others) j t u.0), (ap (λ k. suc (suc k)) u.1.0, (fit, rw wide (refl, u.1.1))))

taken_narrow : (n : ℕ) (i after j : Input) (e : Entry) (others : List Entry) → Takes i (entry e) after → EntryFits e → is_wide e ≡ false
    → TakesPlaces n after (others, j) → TakesPlaces (suc n) i (e ∷ others, j)
unfolding TakesPlaces
taken_narrow n i after j e others t fit narrow u =
    (rw flat_map-cons (Takes-then i (entry e) after (entries others) j t u.0), (ap suc u.1.0, placed_narrow e others fit narrow u.1.1))

none_taken : (i : Input) → IsBytes i.rest → TakesPlaces 0 i ([], i)
unfolding TakesPlaces
none_taken i small = (Takes-nothing i small, (refl, tt))

entries_take : (n : ℕ) (i : Input) (x : List Entry) (j : Input) → IsBytes i.rest → entries_at n i ≡ Ok (x, j) → TakesPlaces n i (x, j)
unfolding entries_at HasRoom
entries_take zero i x j small eq = subst (TakesPlaces 0 i) (ok_is ([], i) (x, j) eq) (none_taken i small)
entries_take (suc zero) i x j small eq =
    let s = bind_ok (entry_at true i) (λ e. Ok (e.0 ∷ [], e.1)) (x, j) eq in
    let t = (entry_laws true).takes i s.0.0 s.0.1 small s.1 in
    let narrow : is_wide s.0.0 ≡ false = not_true (is_wide s.0.0) t.1.1 in
    subst (TakesPlaces 1 i) (ok_is (s.0.0 ∷ [], s.0.1) (x, j) s.2) (taken_narrow 0 i s.0.1 s.0.1 s.0.0 [] t.0 t.1.0 narrow (none_taken s.0.1 t.0.rest_fits))
entries_take (suc (suc n)) i x j small eq =
    let s = bind_ok (entry_at false i) (λ e. cond (is_wide e.0) (entries_at n e.1 >>= λ others. Ok (e.0 ∷ Unusable ∷ others.0, others.1)) (entries_at (suc n) e.1 >>= λ others. Ok (e.0 ∷ others.0, others.1))) (x, j) eq in
    let t = (entry_laws false).takes i s.0.0 s.0.1 small s.1 in
    chosen
    (λ wide chosen_eq.
    (let b = bind_ok (entries_at n s.0.1) (λ others. Ok (s.0.0 ∷ Unusable ∷ others.0, others.1)) (x, j) chosen_eq in
    let u = entries_take n s.0.1 b.0.0 b.0.1 t.0.rest_fits b.1 in
    subst (TakesPlaces (suc (suc n)) i) (ok_is (s.0.0 ∷ Unusable ∷ b.0.0, b.0.1) (x, j) b.2) (taken_wide n i s.0.1 b.0.1 s.0.0 b.0.0 t.0 t.1.0 wide u)))
    (λ narrow chosen_eq.
    (let b = bind_ok (entries_at (suc n) s.0.1) (λ others. Ok (s.0.0 ∷ others.0, others.1)) (x, j) chosen_eq in
    let u = entries_take (suc n) s.0.1 b.0.0 b.0.1 t.0.rest_fits b.1 in
    subst (TakesPlaces (suc (suc n)) i) (ok_is (s.0.0 ∷ b.0.0, b.0.1) (x, j) b.2) (taken_narrow (suc n) i s.0.1 b.0.1 s.0.0 b.0.0 t.0 t.1.0 narrow u)))
    s.2

IsAgain : ℕ → List Entry → List ℕ → Type 0
IsAgain at x rest = ArePlaced x → entries_at (length x) (at_place at (entries x ++ rest)) ≡ Ok (x, at_place (at + length (entries x)) rest)

-- the bytes after the first entry begin where it ends
behind : (at : ℕ) (e : Entry) (x : List Entry) → at + length (entry e) + length (entries x) ≡ at + length (entries (e ∷ x))
behind at e x = rw flat_map-cons (omega (arith, length-append (entry e) (entries x)))

again_more : (wide : Bool) (at : ℕ) (e f : Entry) (x : List Entry) (rest : List ℕ) → is_wide e ≡ wide → EntryFits e
    → MatchBool wide ((f ≡ Unusable) × ArePlaced x) (ArePlaced (f ∷ x)) → IsAgain (at + length (entry e)) x rest
    → IsAgain (at + length (entry e)) (f ∷ x) rest
    → entries_at (suc (suc (length x))) (at_place at (entry e ++ (entries (f ∷ x) ++ rest)))
    ≡ Ok (e ∷ f ∷ x, at_place (at + length (entry e) + length (entries (f ∷ x))) rest)
unfolding entries_at IsAgain HasRoom
again_more true at e f x rest wide fit placed two one =
    let same : entries (f ∷ x) ≡ entries x = ap (λ (g : Entry). entries (g ∷ x)) placed.0 ∙ flat_map-cons entry Unusable x in
    rw ((entry_laws false).again at e (entries (f ∷ x) ++ rest) (fit, refl), wide, same, two placed.1, placed.0) refl
again_more false at e f x rest narrow fit placed two one =
    rw ((entry_laws false).again at e (entries (f ∷ x) ++ rest) (fit, refl), narrow, one placed) refl

entries_again : (at : ℕ) (x : List Entry) (rest : List ℕ) → IsAgain at x rest
unfolding entries_at IsAgain HasRoom
entries_again at [] rest placed = rw add-zero refl
entries_again at (e ∷ []) rest placed =
    let same : entries (e ∷ []) ≡ entry e = flat_map-cons entry e [] ∙ append-nil (entry e) in
    rw (same, (entry_laws true).again at e rest (placed.1, rw placed.0 refl)) refl
entries_again at (e ∷ f ∷ x) rest placed =
    let same : entries (e ∷ f ∷ x) ++ rest ≡ entry e ++ (entries (f ∷ x) ++ rest) = ap (λ (l : List ℕ). l ++ rest) (flat_map-cons entry e (f ∷ x)) ∙ append_assoc (entry e) (entries (f ∷ x)) rest in
    ap (λ (l : List ℕ). entries_at (suc (suc (length x))) (at_place at l)) same ∙ again_more (is_wide e) at e f x rest refl placed.0 placed.1 (entries_again (at + length (entry e)) x rest) (entries_again (at + length (entry e)) (f ∷ x) rest)
    ∙ ap (λ (n : ℕ). Ok (e ∷ f ∷ x, at_place n rest)) (behind at e (f ∷ x))

others_stop : (front : List Entry) (read : Read (List Entry)) (f : Malformed) → (read ≡ Err f → IsTrue (is_field_cause f.cause))
    → ◌>>=◌ {B = List Entry × Input} read (λ others. Ok (front ++ others.0, others.1)) ≡ Err f → IsTrue (is_field_cause f.cause)
others_stop front (Ok x) f stop e = never_stops (front ++ x.0, x.1) f e
others_stop front (Err d) f stop e = stop (ap failed (err_is {B = List Entry × Input} d f e))

entries_stop : (n : ℕ) (i : Input) (f : Malformed) → IsBytes i.rest → entries_at n i ≡ Err f → IsTrue (is_field_cause f.cause)
unfolding entries_at HasRoom
entries_stop zero i f small e = never_stops ([], i) f e
entries_stop (suc zero) i f small e =
    elim (bind_err (entry_at true i) (λ e. done (e.0 ∷ [], e.1)) f e) [
      | inl h ↦ (entry_laws true).stops i f small h
      | inr h ↦ never_stops (h.0.0 ∷ [], h.0.1) f h.2
    ]
entries_stop (suc (suc n)) i f small e =
    elim (bind_err (entry_at false i) (λ e. cond (is_wide e.0) (entries_at n e.1 >>= λ others. done (e.0 ∷ Unusable ∷ others.0, others.1)) (entries_at (suc n) e.1 >>= λ others. done (e.0 ∷ others.0, others.1))) f e) [
      | inl h ↦ (entry_laws false).stops i f small h
      | inr h ↦
          (let t = (entry_laws false).takes i h.0.0 h.0.1 small h.1 in
          chosen
          (λ _. others_stop (h.0.0 ∷ Unusable ∷ []) (entries_at n h.0.1) f (entries_stop n h.0.1 f t.0.rest_fits))
          (λ _. others_stop (h.0.0 ∷ []) (entries_at (suc n) h.0.1) f (entries_stop (suc n) h.0.1 f t.0.rest_fits))
          h.2)
    ]

entries_laws : (n : ℕ) → Laws (entries_at n) entries (λ x. (length x ≡ n) × ArePlaced x)
unfolding TakesPlaces IsAgain
entries_laws n = record {
  takes = entries_take n;
  again = λ at x rest f. subst (λ (k : ℕ). entries_at k (at_place at (entries x ++ rest)) ≡ Ok (x, at_place (at + length (entries x)) rest)) f.0 (entries_again at x rest f.1);
  stops = entries_stop n;
}

pub pool_laws : Laws pool_at pool PoolFits
unfolding pool_at
pool_laws =
    fits (then _ (λ x. length x + 1) (tested_laws (λ n. ltb 0 n) causes.Truncated refl u2_laws) (λ n _. entries_laws (n - 1)) (λ n x f r. omega (arith, ltb-true _ _ f.1, r.0)))
    (λ x h. (h.0.0, h.1.1)) (λ x h. ((h.0, lt-ltb _ _ (omega arith)), (omega arith, h.1)))
