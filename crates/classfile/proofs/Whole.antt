-- The laws of the whole file.
use Rattle.std.proofs.Common.{◌≡◌, ◌⊎◌, ℕ, ◌+◌, ◌<◌, ◌≤◌, Bool, true, false, cond, eqb, ltb, ◌&&◌, List, [], ◌++◌, length, take, drop, Result, Ok, Err, refl, sym, ap, subst, ◌∙◌, arith, IsTrue, inl, inr, lit<, length-append}
use Rattle.std.proofs.lemmas.Bool.{eqb-true, eqb-false, ltb-false, and_parts}
use Rattle.std.proofs.lemmas.List.{append-nil, nil_from_length, take_at, drop_at}
use Rattle.byteorder.specs.Endian.{big_number}
use Rattle.byteorder.specs.Numbers.{length-bytes_high_first}
use Rattle.constant_pool.specs.declared.reading.fault.Malformed.{Malformed}
use Rattle.constant_pool.specs.declared.reading.fault.Cause.{Cause}
use Rattle.constant_pool.specs.declared.reading.fault.Cause.TheVariants as causes
use Rattle.constant_pool.specs.reading.Input.{Input}
use Rattle.constant_pool.specs.reading.Reading.{◌>>=◌, Read, number_at, pair_at, tested, after, is_field_cause}
use Rattle.constant_pool.proofs.reading.Laws.{IsBytes, bind_ok, bind_err, done, failed, ok_is, err_is, guard_ok, guard_passed, at_place, Takes, Takes-then, Laws, fits, last, then}
use Rattle.constant_pool.proofs.reading.Fields.{u2_laws, u4_laws, pair_laws, table_laws}
use Rattle.model.specs.Tree.{FileTree}
use Rattle.model.specs.Spelling.{u2, magic, version, parts, file, FileFits, Layout}
use Rattle.classfile.specs.declared.part.Owner.TheVariants as owners
use Rattle.classfile.specs.FileReading.{is_version, parts_at, file_at}
use Rattle.classfile.specs.Decoding.{BeginsWith, StandsAt}
use Rattle.constant_pool.proofs.PoolLaws.{pool_laws}
use Rattle.classfile.proofs.MemberLaws.{skipped_laws, field_laws, method_laws}

parts_laws : Laws parts_at parts FileFits
unfolding parts_at
parts_laws =
    fits (then _ (λ c. c.pool) pool_laws (λ pool _.
    then _ (λ c. c.flags) u2_laws (λ flags _.
    then _ (λ c. c.this_class) u2_laws (λ class _.
    then _ (λ c. c.super_class) u2_laws (λ super _.
    then _ (λ c. c.interfaces) (table_laws u2_laws) (λ interfaces _.
    then _ (λ c. c.fields) (table_laws (field_laws pool)) (λ fields _.
    then _ (λ c. c.methods) (table_laws (method_laws pool)) (λ methods _.
    last (λ attributes. record { pool = pool; flags = flags; this_class = class; super_class = super; interfaces = interfaces; fields = fields; methods = methods; attributes = attributes }) (λ c. c.attributes) (λ _. refl) (table_laws (skipped_laws owners.Class)))
    (λ methods c _ r. sym (ap (λ (x : FileTree). x.methods) r.1)))
    (λ fields c _ r. sym (ap (λ (x : FileTree). x.fields) r.1.1)))
    (λ interfaces c _ r. sym (ap (λ (x : FileTree). x.interfaces) r.1.1.1)))
    (λ super c _ r. sym (ap (λ (x : FileTree). x.super_class) r.1.1.1.1)))
    (λ class c _ r. sym (ap (λ (x : FileTree). x.this_class) r.1.1.1.1.1)))
    (λ flags c _ r. sym (ap (λ (x : FileTree). x.flags) r.1.1.1.1.1.1)))
    (λ pool c _ r. sym (ap (λ (x : FileTree). x.pool) r.1.1.1.1.1.1.1)))
    (λ c h. record { pool = h.0; flags = h.1.0; this_class = h.1.1.0; super_class = h.1.1.1.0; interfaces = h.1.1.1.1.0; fields = h.1.1.1.1.1.0; methods = h.1.1.1.1.1.1.0; attributes = h.1.1.1.1.1.1.1.0 })
    (λ c h. (h.pool, (h.flags, (h.this_class, (h.super_class, (h.interfaces, (h.fields, (h.methods, (h.attributes, refl)))))))))

-- ---- a value that was tested to be one

tested_is : {A : Type 0} {read : Input → Read A} {text : A → List ℕ} {Fits : A → Type 0} (laws : Laws read text Fits) (v : A)
    (test : A → Bool) (cause : Cause) (i : Input) (x : A × Input)
    → ((y : A) → test y ≡ true → y ≡ v) → IsBytes i.rest → tested test cause read i ≡ Ok x → Takes i (text v) x.1
tested_is {A = A} {read = read} {text = text} laws v test cause i x only small e =
    let s = bind_ok (read i) (λ y. cond (test y.0) (done y) (failed (record { cause = cause; offset = i.at }))) x e in
    let t = laws.takes i s.0.0 s.0.1 small s.1 in
    let g = guard_passed (test s.0.0) (record { cause = cause; offset = i.at }) s.0 x s.2 in
    subst (λ (y : A × Input). Takes i (text v) y.1) g.1 (subst (λ (k : A). Takes i (text k) s.0.1) (only s.0.0 g.0) t.0)

tested_again : {A : Type 0} {read : Input → Read A} {text : A → List ℕ} {Fits : A → Type 0} (laws : Laws read text Fits) (v : A)
    (test : A → Bool) (cause : Cause) (at : ℕ) (rest : List ℕ)
    → Fits v → test v ≡ true → tested test cause read (at_place at (text v ++ rest)) ≡ Ok (v, at_place (at + length (text v)) rest)
tested_again laws v test cause at rest f is = rw (laws.again at v rest f, is) refl

unpassed : {A : Type 0} (b : Bool) (cause : Cause) (i : Input) (x : A × Input) (f : Malformed)
    → cond b (done x) (failed (record { cause = cause; offset = i.at })) ≡ Err f → (b ≡ false) × ((f.cause ≡ cause) × (f.offset ≡ i.at))
unpassed true cause i x f e = absurd cc
unpassed {A = A} false cause i x f e =
    let is = err_is {B = A × Input} (record { cause = cause; offset = i.at }) f e in
    (refl, (ap (λ (m : Malformed). m.cause) (sym is), ap (λ (m : Malformed). m.offset) (sym is)))

-- the fault of a test: the value was read, and is another
Refused : {A : Type 0} → (Input → Read A) → (A → Bool) → Cause → Input → Malformed → Type 0
Refused {A = A} read test cause i f = (x : A × Input) × ((read i ≡ Ok x) × ((test x.0 ≡ false) × ((f.cause ≡ cause) × (f.offset ≡ i.at))))

tested_err : {A : Type 0} {read : Input → Read A} {text : A → List ℕ} {Fits : A → Type 0} (laws : Laws read text Fits) (test : A → Bool)
    (cause : Cause) (i : Input) (f : Malformed)
    → IsBytes i.rest → tested test cause read i ≡ Err f → IsTrue (is_field_cause f.cause) ⊎ Refused read test cause i f
unfolding Refused
tested_err {read = read} laws test cause i f small e =
    elim (bind_err (read i) (λ y. cond (test y.0) (done y) (failed (record { cause = cause; offset = i.at }))) f e) [
      | inl h ↦ inl (laws.stops i f small h)
      | inr h ↦ (let u = unpassed (test h.0.0) cause i h.0 f h.2 in inr (h.0, (h.1, u)))
    ]

is_magic : ℕ → Bool
is_magic n = eqb n 0xcafebabe

only_magic : (n : ℕ) → is_magic n ≡ true → n ≡ 0xcafebabe
unfolding is_magic
only_magic n h = eqb-true n 0xcafebabe h

only_version : (v : ℕ × ℕ) → is_version v ≡ true → v ≡ (0, 49)
only_version v h =
    let both = and_parts (eqb v.0 0) (eqb v.1 49) h in
    ap (λ (n : ℕ). (n, v.1)) (eqb-true v.0 0 both.0) ∙ ap (λ (n : ℕ). (0, n)) (eqb-true v.1 49 both.1)

-- ---- the parts of a file

-- the end of a file
ends : Read FileTree → Result FileTree Malformed
ends read = read >>= λ x. cond (eqb (length x.1.rest) 0) (done x.0) (failed (record { cause = causes.Trailing; offset = x.1.at }))

magic_at : Input → Read ℕ
magic_at i = tested is_magic causes.Magic (number_at 4) i

version_at : Input → Read (ℕ × ℕ)
version_at i = tested is_version causes.Version pair_at i

file_is : (i : Input) → file_at i ≡ (magic_at i >>= λ magic. version_at magic.1 >>= λ version. ends (parts_at version.1))
unfolding file_at ends magic_at version_at is_magic
file_is i = refl

magic_takes : (i : Input) (x : ℕ × Input) → IsBytes i.rest → magic_at i ≡ Ok x → Takes i magic x.1
unfolding magic_at
magic_takes i x small e = tested_is u4_laws 0xcafebabe is_magic causes.Magic i x only_magic small e

version_takes : (i : Input) (x : (ℕ × ℕ) × Input) → IsBytes i.rest → version_at i ≡ Ok x → Takes i version x.1
unfolding version_at
version_takes i x small e = tested_is pair_laws (0, 49) is_version causes.Version i x only_version small e

magic_again : (at : ℕ) (rest : List ℕ) → magic_at (at_place at (magic ++ rest)) ≡ Ok (0xcafebabe, at_place (at + 4) rest)
unfolding magic_at is_magic
magic_again at rest = tested_again u4_laws 0xcafebabe is_magic causes.Magic at rest (lit< tt) refl

version_again : (at : ℕ) (rest : List ℕ) → version_at (at_place at (version ++ rest)) ≡ Ok ((0, 49), at_place (at + 4) rest)
unfolding version_at
version_again at rest = tested_again pair_laws (0, 49) is_version causes.Version at rest (lit< tt, lit< tt) refl

ends_ok : (i : Input) (c : FileTree) → IsBytes i.rest → ends (parts_at i) ≡ Ok c → (i.rest ≡ parts c) × FileFits c
unfolding ends
ends_ok i c small e =
    let s = bind_ok (parts_at i) (λ x. cond (eqb (length x.1.rest) 0) (done x.0) (failed (record { cause = causes.Trailing; offset = x.1.at }))) c e in
    let t = parts_laws.takes i s.0.0 s.0.1 small s.1 in
    let g = guard_passed (eqb (length s.0.1.rest) 0) (record { cause = causes.Trailing; offset = s.0.1.at }) s.0.0 c s.2 in
    let nothing : s.0.1.rest ≡ [] = nil_from_length s.0.1.rest (eqb-true _ _ g.0) in
    let whole : i.rest ≡ parts s.0.0 = t.0.parts ∙ ap (λ (l : List ℕ). parts s.0.0 ++ l) nothing ∙ append-nil (parts s.0.0) in
    subst (λ (d : FileTree). (i.rest ≡ parts d) × FileFits d) g.1 (whole, t.1)

pub file_takes : (bytes : List ℕ) (c : FileTree) → IsBytes bytes → file_at (at_place 0 bytes) ≡ Ok c → Layout bytes c
file_takes bytes c small e =
    let a = bind_ok (magic_at (at_place 0 bytes)) (λ magic. version_at magic.1 >>= λ version. ends (parts_at version.1)) c (sym (file_is (at_place 0 bytes)) ∙ e) in
    let b = bind_ok (version_at a.0.1) (λ version. ends (parts_at version.1)) c a.2 in
    let t = magic_takes (at_place 0 bytes) a.0 small a.1 in
    let u = version_takes a.0.1 b.0 t.rest_fits b.1 in
    let w = ends_ok b.0.1 c u.rest_fits b.2 in
    record { spelled = t.parts ∙ ap (λ (l : List ℕ). magic ++ l) (u.parts ∙ ap (λ (l : List ℕ). version ++ l) w.0); fits = w.1 }

-- behind magic and version the parts are read
file_behind : (rest : List ℕ) → file_at (at_place 0 (magic ++ (version ++ rest))) ≡ ends (parts_at (at_place 8 rest))
file_behind rest =
    file_is (at_place 0 (magic ++ (version ++ rest))) ∙ rw (magic_again 0 (version ++ rest), version_again 4 rest) refl

pub file_again : (bytes : List ℕ) (c : FileTree) → Layout bytes c → file_at (at_place 0 bytes) ≡ Ok c
unfolding ends
file_again bytes c l =
    let regrouped : parts c ≡ parts c ++ [] = sym (append-nil (parts c)) in
    ap (λ (t : List ℕ). file_at (at_place 0 t)) l.spelled ∙ file_behind (parts c) ∙ ap (λ (t : List ℕ). ends (parts_at (at_place 8 t))) regrouped ∙ rw (parts_laws.again 8 c [] l.fits) refl

-- ---- the faults of a file

-- the bytes up to the fault are a file, and others stand behind
HasTrailing : Input → Malformed → Type 0
HasTrailing i f = (f.cause ≡ causes.Trailing) × ((c : FileTree) × (j : Input) × (parts_at i ≡ Ok (c, j)) × (f.offset ≡ j.at) × (0 < length j.rest))

unended : (b : Bool) (x : FileTree × Input) (f : Malformed)
    → cond b (done x.0) (failed (record { cause = causes.Trailing; offset = x.1.at })) ≡ Err f
    → (f.cause ≡ causes.Trailing) × (f.offset ≡ x.1.at) × (b ≡ false)
unended true x f e = absurd cc
unended false x f e = let is = err_is {B = FileTree} (record { cause = causes.Trailing; offset = x.1.at }) f e in (ap (λ (m : Malformed). m.cause) (sym is), ap (λ (m : Malformed). m.offset) (sym is), refl)

-- a length that is not 0
some_left : (n : ℕ) → eqb n 0 ≡ false → 0 < n
some_left n h = omega (arith, eqb-false n 0 h)

ends_err : (i : Input) (f : Malformed) → IsBytes i.rest → ends (parts_at i) ≡ Err f → IsTrue (is_field_cause f.cause) ⊎ HasTrailing i f
unfolding ends HasTrailing
ends_err i f small e =
    elim (bind_err (parts_at i) (λ x. cond (eqb (length x.1.rest) 0) (done x.0) (failed (record { cause = causes.Trailing; offset = x.1.at }))) f e) [
      | inl h ↦ inl (parts_laws.stops i f small h)
      | inr h ↦ (let u = unended (eqb (length h.0.1.rest) 0) h.0 f h.2 in inr (u.0, (h.0.0, h.0.1, h.1, u.1, some_left (length h.0.1.rest) u.2)))
    ]

-- what the fault of a file is: one of a field, or Magic, Version or Trailing
pub data Fault (bytes : List ℕ) (f : Malformed) : Type 0 where
  OfField : IsTrue (is_field_cause f.cause) → Fault bytes f
  OfMagic : f.cause ≡ causes.Magic → StandsAt bytes causes.Magic f.offset → Fault bytes f
  OfVersion : f.cause ≡ causes.Version → StandsAt bytes causes.Version f.offset → Fault bytes f
  OfEnd : f.cause ≡ causes.Trailing → StandsAt bytes causes.Trailing f.offset → Fault bytes f

-- a number that is another than the magic
not_magic : (bytes : List ℕ) (f : Malformed) → Refused (number_at 4) is_magic causes.Magic (at_place 0 bytes) f → BeginsWith magic bytes → ⊥
unfolding Refused is_magic
not_magic bytes f h begins =
    let is : done (0xcafebabe, at_place 4 begins.0) ≡ done h.0 = sym (u4_laws.again 0 0xcafebabe begins.0 (lit< tt)) ∙ ap (λ (l : List ℕ). number_at 4 (at_place 0 l)) (sym begins.1) ∙ h.1.0 in
    let same : 0xcafebabe ≡ h.0.0 = ap (λ (x : ℕ × Input). x.0) (ok_is (0xcafebabe, at_place 4 begins.0) h.0 is) in
    let no : eqb 0xcafebabe 0xcafebabe ≡ false = subst (λ (n : ℕ). eqb n 0xcafebabe ≡ false) (sym same) h.1.1.0 in
    absurd cc

not_version : (bytes : List ℕ) (i : Input) (f : Malformed) → Takes (at_place 0 bytes) magic i
    → Refused pair_at is_version causes.Version i f → BeginsWith version (drop 4 bytes) → ⊥
unfolding Refused
not_version bytes i f t h begins =
    let behind : drop 4 bytes ≡ i.rest = ap (λ (l : List ℕ). drop 4 l) t.parts ∙ drop_at magic i.rest 4 refl in
    let rest_is : i.rest ≡ version ++ begins.0 = sym behind ∙ begins.1 in
    let is : done ((0, 49), at_place (i.at + 4) begins.0) ≡ done h.0 = sym (pair_laws.again i.at (0, 49) begins.0 (lit< tt, lit< tt)) ∙ ap (λ (l : List ℕ). pair_at (at_place i.at l)) (sym rest_is) ∙ h.1.0 in
    let same : (0, 49) ≡ h.0.0 = ap (λ (x : (ℕ × ℕ) × Input). x.0) (ok_is ((0, 49), at_place (i.at + 4) begins.0) h.0 is) in
    let no : is_version (0, 49) ≡ false = subst (λ (v : ℕ × ℕ). is_version v ≡ false) (sym same) h.1.1.0 in
    absurd cc

fault_of_magic : (bytes : List ℕ) (f : Malformed) → Refused (number_at 4) is_magic causes.Magic (at_place 0 bytes) f → Fault bytes f
unfolding Refused
fault_of_magic bytes f h =
    let g = guard_ok (ltb (length bytes) 4) (record { cause = causes.Truncated; offset = 0 }) (big_number 4 bytes, after 4 (at_place 0 bytes)) h.0 h.1.0 in
    OfMagic h.1.1.1.0 (h.1.1.1.1, ltb-false _ _ g.0, not_magic bytes f h)

-- four bytes are there where two numbers were read
pair_length : (i : Input) (x : (ℕ × ℕ) × Input) → IsBytes i.rest → pair_at i ≡ Ok x → 4 ≤ length i.rest
pair_length i x small e =
    let t = pair_laws.takes i x.0 x.1 small e in
    omega (arith, ap length t.0.parts, length-append (u2 x.0.0 ++ u2 x.0.1) x.1.rest, length-append (u2 x.0.0) (u2 x.0.1), length-bytes_high_first 2 x.0.0, length-bytes_high_first 2 x.0.1)

fault_of_version : (bytes : List ℕ) (i : Input) (f : Malformed) → Takes (at_place 0 bytes) magic i
    → Refused pair_at is_version causes.Version i f → Fault bytes f
unfolding Refused
fault_of_version bytes i f t h =
    let long : 8 ≤ length bytes = omega (arith, ap length t.parts, length-append magic i.rest, pair_length i h.0 t.rest_fits h.1.0) in
    OfVersion h.1.1.1.0 (h.1.1.1.1 ∙ t.at, long, (i.rest, t.parts), not_version bytes i f t h)

fault_of_end : (bytes : List ℕ) (i j : Input) (f : Malformed) → Takes (at_place 0 bytes) magic i → Takes i version j → HasTrailing j f
    → Fault bytes f
unfolding HasTrailing
fault_of_end bytes i j f t u k =
    let w = parts_laws.takes j k.1.0 k.1.1 u.rest_fits k.1.2 in
    let all : Takes (at_place 0 bytes) (file k.1.0) k.1.1 = Takes-then (at_place 0 bytes) magic i (version ++ parts k.1.0) k.1.1 t (Takes-then i version j (parts k.1.0) k.1.1 u w.0) in
    let at_end : f.offset ≡ length (file k.1.0) = omega (arith, k.1.3, all.at) in
    let more : f.offset < length bytes = omega (arith, at_end, ap length all.parts, length-append (file k.1.0) k.1.1.rest, k.1.4) in
    OfEnd k.0 (more, k.1.0, record { spelled = ap (λ (l : List ℕ). take f.offset l) all.parts ∙ take_at (file k.1.0) k.1.1.rest f.offset (sym at_end); fits = w.1 })

pub fault_of : (bytes : List ℕ) (f : Malformed) → IsBytes bytes → file_at (at_place 0 bytes) ≡ Err f → Fault bytes f
unfolding magic_at version_at
fault_of bytes f small e =
    elim (bind_err (magic_at (at_place 0 bytes)) (λ magic. version_at magic.1 >>= λ version. ends (parts_at version.1)) f (sym (file_is (at_place 0 bytes)) ∙ e)) [
      | inl h ↦ elim (tested_err u4_laws is_magic causes.Magic (at_place 0 bytes) f small h) [ inl k ↦ OfField k | inr k ↦ fault_of_magic bytes f k ]
      | inr h ↦
          (let t = magic_takes (at_place 0 bytes) h.0 small h.1 in
          elim (bind_err (version_at h.0.1) (λ version. ends (parts_at version.1)) f h.2) [
            | inl g ↦ elim (tested_err pair_laws is_version causes.Version h.0.1 f t.rest_fits g) [ inl k ↦ OfField k | inr k ↦ fault_of_version bytes h.0.1 f t k ]
            | inr g ↦
                (let u = version_takes h.0.1 g.0 t.rest_fits g.1 in
                elim (ends_err g.0.1 f u.rest_fits g.2) [ inl k ↦ OfField k | inr k ↦ fault_of_end bytes h.0.1 g.0.1 f t u k ])
          ])
    ]
