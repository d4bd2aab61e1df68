-- What reading a schedule promises, by the definition of schedule files.
use Rattle.std.proofs.Common.{◌≡◌, ◌⊎◌, ℕ, ◌≤◌, Bool, true, false, cond, eqb, is_some, ltb, List, ◌∷◌, ◌++◌, length, drop, Result, Ok, Err, refl, sym, ap, subst, ◌∙◌, append_assoc, inl, inr, lit<, arith, length-append, IsTrue}
use Rattle.std.specs.Prelude.{codes, Option, Some, None}
use Rattle.std.specs.Option.{option_map}
use Rattle.std.proofs.lemmas.Bool.{eqb-true, ltb-false}
use Rattle.byteorder.specs.Endian.{big_number, big_bytes}
use Rattle.model.specs.declared.event.Event.{Event}
use Rattle.model.specs.declared.event.ScheduleEntry.{ScheduleEntry}
use Rattle.model.specs.Schedule.{AreEntries, events_of, table}
use Rattle.schedule.specs.Files.{Checksums, Recording, RecordedFits, ScheduleFile, recording, schedule, version, version_of}
use Rattle.schedule.specs.declared.fault.ScheduleFault.{ScheduleFault}
use Rattle.schedule.specs.declared.fault.ScheduleFault.TheVariants as faults
use Rattle.schedule.specs.Outcomes.{HasMore, StandsIn, IsFaultOf}
use Rattle.schedule.specs.Reading.{◌>>=◌, Read, Fails, Numbers, number_at, numbers_of, recorded_at, recording_at, table_at, version_at, body_at, schedule_at}
use Rattle.schedule.proofs.Laws.{IsBytes, Takes, bind_ok, bind_err, done, failed, ok_is, err_is, guard_ok, back1, back4, number_takes, number_again, number_stops, table_takes, table_again, table_stops, table_trailing, is_field_fault, is_table_fault}
use Rattle.schedule.proofs.Recordings.{Recorded, version_where, recording_takes, recording_again, recording_stops, options_same}

-- ---- tests

chosen_ok : {A : Type 0} (b : Bool) (r : Result A ScheduleFault) (d : ScheduleFault) (y : A) → cond b r (failed d) ≡ Ok y
    → (b ≡ true) × (r ≡ Ok y)
chosen_ok true r d y e = (refl, e)
chosen_ok false r d y e = absurd cc

-- with how the test went
test_err : {A : Type 0} (b : Bool) (r : Result A ScheduleFault) (d f : ScheduleFault) → cond b r (failed d) ≡ Err f
    → ((b ≡ true) × (r ≡ Err f)) ⊎ (d ≡ f)
test_err true r d f e = inl (refl, e)
test_err {A = A} false r d f e = inr (err_is {B = A} d f e)

either_ok : {A : Type 0} (b : Bool) (r s : Result A ScheduleFault) (y : A) → cond b r s ≡ Ok y → ((b ≡ true) × (r ≡ Ok y)) ⊎ (s ≡ Ok y)
either_ok true r s y e = inl (refl, e)
either_ok false r s y e = inr e

either_err : {A : Type 0} (b : Bool) (r s : Result A ScheduleFault) (f : ScheduleFault) → cond b r s ≡ Err f → (r ≡ Err f) ⊎ (s ≡ Err f)
either_err true r s f e = inl e
either_err false r s f e = inr e

-- ---- the version

abbrev of_version : ℕ × List ℕ → Read (Option Numbers)
of_version v = cond (eqb v.0 1) (done (None, v.1)) (cond (eqb v.0 2) (recorded_at false v.1) (cond (eqb v.0 3) (recorded_at true v.1) (failed faults.Version)))

after_first : (rest : List ℕ) → version_at (1 ∷ rest) ≡ Ok (None, rest)
unfolding version_at
after_first rest = ap (λ (r : Read ℕ). ◌>>=◌ {B = Option Numbers × List ℕ} r of_version) (number_again 1 1 rest (lit< tt))

after_second : (rest : List ℕ) → version_at (2 ∷ rest) ≡ recorded_at false rest
unfolding version_at
after_second rest = ap (λ (r : Read ℕ). ◌>>=◌ {B = Option Numbers × List ℕ} r of_version) (number_again 1 2 rest (lit< tt))

after_third : (rest : List ℕ) → version_at (3 ∷ rest) ≡ recorded_at true rest
unfolding version_at
after_third rest = ap (λ (r : Read ℕ). ◌>>=◌ {B = Option Numbers × List ℕ} r of_version) (number_again 1 3 rest (lit< tt))

after_version : (c : Option Checksums) (rest : List ℕ) → version_at (version_of c ∷ rest) ≡ recorded_at (is_some c) rest
after_version None rest = after_second rest
after_version (Some c) rest = after_third rest

version_again : (r : Option Recording) (rest : List ℕ) → RecordedFits r
    → version_at (version r ++ rest) ≡ Ok (option_map numbers_of r, rest)
version_again None rest f = after_first rest
version_again (Some r) rest f =
    after_version r.checksums (recording r ++ rest)
    ∙ ap (λ (read : Read Numbers). ◌>>=◌ {B = Option Numbers × List ℕ} read (λ r. Ok (Some r.0, r.1))) (recording_again r rest f)

-- what is read of a version, and of what it says
record Versioned (bytes : List ℕ) (numbers : Option Numbers) (rest : List ℕ) : Type 0 where
  pub recorded : Option Recording
  pub fits : RecordedFits recorded
  pub numbers_are : option_map numbers_of recorded ≡ numbers
  pub taken : Takes bytes (version recorded) rest

first_takes : (bytes : List ℕ) (x : ℕ) (behind : List ℕ) → Takes bytes (big_bytes 1 x) behind → x ≡ 1 → Versioned bytes None behind
first_takes bytes x behind t e = record {
  recorded = None;
  fits = tt;
  numbers_are = refl;
  taken = record { parts = t.parts ∙ ap (λ (k : ℕ). big_bytes 1 k ++ behind) e; rest_fits = t.rest_fits };
}

other_takes : (has : Bool) (bytes : List ℕ) (x : ℕ) (behind : List ℕ) (n : Numbers) (rest : List ℕ) → Takes bytes (big_bytes 1 x) behind
    → x ≡ version_where has → Recorded has behind n rest → Versioned bytes (Some n) rest
other_takes has bytes x behind n rest t e r = record {
  recorded = Some r.recorded;
  fits = r.fits;
  numbers_are = ap Some r.numbers_are;
  taken = record {
    parts = t.parts ∙ ap (λ (k : ℕ). big_bytes 1 k ++ behind) e ∙ one_byte has behind ∙ ap (λ (k : ℕ). k ∷ behind) (sym r.is_version)
        ∙ ap (λ (l : List ℕ). version_of r.recorded.checksums ∷ l) r.taken.parts;
    rest_fits = r.taken.rest_fits;
  };
}
  where
    one_byte : (has : Bool) (behind : List ℕ) → big_bytes 1 (version_where has) ++ behind ≡ version_where has ∷ behind
    one_byte false behind = refl
    one_byte true behind = refl

-- the same of what was read
other_read : (has : Bool) (bytes : List ℕ) (x : ℕ) (behind : List ℕ) (numbers : Option Numbers) (rest : List ℕ) → Takes bytes (big_bytes 1 x) behind
    → x ≡ version_where has → recorded_at has behind ≡ Ok (numbers, rest) → Versioned bytes numbers rest
other_read has bytes x behind numbers rest t e read =
    let b = bind_ok (recording_at has behind) (λ r. done (Some r.0, r.1)) (numbers, rest) read in
    let r = recording_takes has behind b.0.0 b.0.1 t.rest_fits b.1 in
    subst (λ (p : Option Numbers × List ℕ). Versioned bytes p.0 p.1) (ok_is (Some b.0.0, b.0.1) (numbers, rest) b.2) (other_takes has bytes x behind b.0.0 b.0.1 t e r)

version_takes : (bytes : List ℕ) (numbers : Option Numbers) (rest : List ℕ) → IsBytes bytes → version_at bytes ≡ Ok (numbers, rest)
    → Versioned bytes numbers rest
unfolding version_at
version_takes bytes numbers rest small e =
    let family = λ (p : Option Numbers × List ℕ). Versioned bytes p.0 p.1 in
    let a = bind_ok (number_at 1 bytes) of_version (numbers, rest) e in
    let t = number_takes 1 back1 bytes a.0.0 a.0.1 small a.1 in
    elim (either_ok (eqb a.0.0 1) (done (None, a.0.1)) (cond (eqb a.0.0 2) (recorded_at false a.0.1) (cond (eqb a.0.0 3) (recorded_at true a.0.1) (failed faults.Version))) (numbers, rest) a.2) [
      | inl h ↦ subst family (ok_is (None, a.0.1) (numbers, rest) h.1) (first_takes bytes a.0.0 a.0.1 t.0 (eqb-true _ _ h.0))
      | inr h ↦ elim (either_ok (eqb a.0.0 2) (recorded_at false a.0.1) (cond (eqb a.0.0 3) (recorded_at true a.0.1) (failed faults.Version)) (numbers, rest) h) [
        | inl g ↦ other_read false bytes a.0.0 a.0.1 numbers rest t.0 (eqb-true _ _ g.0) g.1
        | inr g ↦
            (let k = chosen_ok (eqb a.0.0 3) (recorded_at true a.0.1) faults.Version (numbers, rest) g in
            other_read true bytes a.0.0 a.0.1 numbers rest t.0 (eqb-true _ _ k.0) k.1)
      ]
    ]

-- the faults of a version, and of what it says
abbrev is_version_fault : ScheduleFault → Bool
is_version_fault faults.Version = true
is_version_fault f = is_field_fault f

of_field : (f : ScheduleFault) → IsTrue (is_field_fault f) → IsTrue (is_version_fault f)
of_field faults.Truncated h = h
of_field faults.Magic h = h
of_field faults.Version h = refl
of_field faults.Repeat h = h
of_field faults.Trailing h = h
of_field faults.OutOfMemory h = h
of_field faults.Limits h = h
of_field faults.Files h = h
of_field faults.Arguments h = h

recorded_stops : (has : Bool) (bytes : List ℕ) (f : ScheduleFault) → recorded_at has bytes ≡ Err f → IsTrue (is_field_fault f)
recorded_stops has bytes f e =
    elim (bind_err (recording_at has bytes) (λ r. done (Some r.0, r.1)) f e) [
      | inl h ↦ recording_stops has bytes f h
      | inr h ↦ absurd cc
    ]

version_stops : (bytes : List ℕ) (f : ScheduleFault) → version_at bytes ≡ Err f → IsTrue (is_version_fault f)
unfolding version_at
version_stops bytes f e =
    elim (bind_err (number_at 1 bytes) of_version f e) [
      | inl h ↦ subst (λ (m : ScheduleFault). IsTrue (is_version_fault m)) (number_stops 1 bytes f h) refl
      | inr h ↦ elim (either_err (eqb h.0.0 1) (done (None, h.0.1)) (cond (eqb h.0.0 2) (recorded_at false h.0.1) (cond (eqb h.0.0 3) (recorded_at true h.0.1) (failed faults.Version))) f h.2) [
        | inl g ↦ absurd cc
        | inr g ↦ elim (either_err (eqb h.0.0 2) (recorded_at false h.0.1) (cond (eqb h.0.0 3) (recorded_at true h.0.1) (failed faults.Version)) f g) [
          | inl k ↦ of_field f (recorded_stops false h.0.1 f k)
          | inr k ↦ elim (test_err (eqb h.0.0 3) (recorded_at true h.0.1) faults.Version f k) [
            | inl m ↦ of_field f (recorded_stops true h.0.1 f m.1)
            | inr m ↦ subst (λ (m : ScheduleFault). IsTrue (is_version_fault m)) m refl
          ]
        ]
      ]
    ]

-- ---- what stands behind the magic

abbrev table_behind : Option Numbers × List ℕ → Result (List ScheduleEntry × Option Numbers) ScheduleFault
table_behind recorded = table_at recorded.1 >>= λ entries. done (entries, recorded.0)

after_magic : (rest : List ℕ) → schedule_at (codes "JSCH" ++ rest) ≡ body_at rest
unfolding schedule_at
after_magic rest = ap (λ (r : Read ℕ). ◌>>=◌ {B = List ScheduleEntry × Option Numbers} r (λ magic. cond (eqb magic.0 0x4a534348) (body_at magic.1) (failed faults.Magic))) (number_again 4 0x4a534348 rest (lit< tt))

body_again : (r : Option Recording) (xs : List ScheduleEntry) → RecordedFits r → AreEntries xs
    → body_at (version r ++ table xs) ≡ Ok (xs, option_map numbers_of r)
unfolding body_at
body_again r xs f fits =
    ap (λ (read : Read (Option Numbers)). ◌>>=◌ {B = List ScheduleEntry × Option Numbers} read table_behind) (version_again r (table xs) f)
    ∙ ap (λ (read : Result (List ScheduleEntry) ScheduleFault). ◌>>=◌ {B = List ScheduleEntry × Option Numbers} read (λ entries. done (entries, option_map numbers_of r))) (table_again xs fits)

schedule_again : (r : Option Recording) (xs : List ScheduleEntry) → RecordedFits r → AreEntries xs
    → schedule_at (schedule r xs) ≡ Ok (xs, option_map numbers_of r)
schedule_again r xs f fits = after_magic (version r ++ table xs) ∙ body_again r xs f fits

-- what is read of a file
pub record Spelled (bytes : List ℕ) (xs : List ScheduleEntry) (numbers : Option Numbers) : Type 0 where
  pub recorded : Option Recording
  pub recording_fits : RecordedFits recorded
  pub numbers_are : option_map numbers_of recorded ≡ numbers
  pub fits : AreEntries xs
  pub spelled : bytes ≡ schedule recorded xs

pub schedule_takes : (bytes : List ℕ) (xs : List ScheduleEntry) (numbers : Option Numbers) → IsBytes bytes
    → schedule_at bytes ≡ Ok (xs, numbers) → Spelled bytes xs numbers
unfolding schedule_at body_at
schedule_takes bytes xs numbers small e =
    let a = bind_ok (number_at 4 bytes) (λ magic. cond (eqb magic.0 0x4a534348) (body_at magic.1) (failed faults.Magic)) (xs, numbers) e in
    let t = number_takes 4 back4 bytes a.0.0 a.0.1 small a.1 in
    let g = chosen_ok (eqb a.0.0 0x4a534348) (body_at a.0.1) faults.Magic (xs, numbers) a.2 in
    let b = bind_ok (version_at a.0.1) table_behind (xs, numbers) g.1 in
    let u = version_takes a.0.1 b.0.0 b.0.1 t.0.rest_fits b.1 in
    let c = bind_ok (table_at b.0.1) (λ entries. done (entries, b.0.0)) (xs, numbers) b.2 in
    let w = table_takes b.0.1 c.0 u.taken.rest_fits c.1 in
    let magic : bytes ≡ codes "JSCH" ++ a.0.1 = t.0.parts ∙ ap (λ (k : ℕ). big_bytes 4 k ++ a.0.1) (eqb-true _ _ g.0) in
    let whole : bytes ≡ schedule u.recorded c.0 = magic ∙ ap (λ (l : List ℕ). codes "JSCH" ++ l) (u.taken.parts ∙ ap (λ (l : List ℕ). version u.recorded ++ l) w.0) in
    let spelled : Spelled bytes c.0 b.0.0 = record { recorded = u.recorded; recording_fits = u.fits; numbers_are = u.numbers_are; fits = w.1; spelled = whole } in
    subst (λ (p : List ScheduleEntry × Option Numbers). Spelled bytes p.0 p.1) (ok_is (c.0, b.0.0) (xs, numbers) c.2) spelled

-- what the bytes spell is what is read
pub spells_one : (bytes : List ℕ) (r : Option Recording) (events : List Event) → ScheduleFile bytes r events
    → (xs : List ScheduleEntry) × (schedule_at bytes ≡ Ok (xs, option_map numbers_of r)) × (events_of xs ≡ events)
spells_one bytes r events s = (s.entries, ap schedule_at s.spelled ∙ schedule_again r s.entries s.recording_fits s.fits, sym s.stands_for)

-- ---- of an answer

pub found_of : (bytes : List ℕ) (xs : List ScheduleEntry) (r : Option Recording) → IsBytes bytes
    → schedule_at bytes ≡ Ok (xs, option_map numbers_of r) → ScheduleFile bytes r (events_of xs)
found_of bytes xs r small e =
    let t = schedule_takes bytes xs (option_map numbers_of r) small e in
    let same : t.recorded ≡ r = options_same t.recorded r t.numbers_are in
    subst (λ (recorded : Option Recording). ScheduleFile bytes recorded (events_of xs)) same
    (record { entries = xs; fits = t.fits; recording_fits = t.recording_fits; spelled = t.spelled; stands_for = refl })

pub entries_of : (bytes : List ℕ) (xs : List ScheduleEntry) (r : Option Recording) → IsBytes bytes
    → schedule_at bytes ≡ Ok (xs, option_map numbers_of r) → bytes ≡ schedule r xs
entries_of bytes xs r small e =
    let t = schedule_takes bytes xs (option_map numbers_of r) small e in
    t.spelled ∙ ap (λ (recorded : Option Recording). schedule recorded xs) (options_same t.recorded r t.numbers_are)

pub only_of : (bytes : List ℕ) (xs : List ScheduleEntry) (r : Option Recording) → schedule_at bytes ≡ Ok (xs, option_map numbers_of r)
    → (recorded : Option Recording) (events : List Event) → ScheduleFile bytes recorded events
    → (r ≡ recorded) × (events_of xs ≡ events)
only_of bytes xs r e recorded events s =
    let t = spells_one bytes recorded events s in
    let both : (xs, option_map numbers_of r) ≡ (t.0, option_map numbers_of recorded) = ok_is (xs, option_map numbers_of r) (t.0, option_map numbers_of recorded) (sym e ∙ t.1) in
    let numbers : option_map numbers_of r ≡ option_map numbers_of recorded = ap (λ (p : List ScheduleEntry × Option Numbers). p.1) both in
    (options_same r recorded numbers, ap (λ (p : List ScheduleEntry × Option Numbers). events_of p.0) both ∙ t.2)

unspelled : (bytes : List ℕ) (f : ScheduleFault) → schedule_at bytes ≡ Err f → (r : Option Recording) (events : List Event)
    → ScheduleFile bytes r events → ⊥
unspelled bytes f e r events s =
    let t = spells_one bytes r events s in
    let clash : failed {A = List ScheduleEntry × Option Numbers} f ≡ done (t.0, option_map numbers_of r) = sym e ∙ t.1 in
    absurd cc

pub only_memory : (bytes : List ℕ) (f : ScheduleFault) → Fails f (schedule_at bytes) → (r : Option Recording) (events : List Event)
    → ScheduleFile bytes r events → f ≡ faults.OutOfMemory
only_memory bytes faults.OutOfMemory e r events s = refl
only_memory bytes faults.Truncated e r events s = absurd (unspelled bytes faults.Truncated e r events s)
only_memory bytes faults.Magic e r events s = absurd (unspelled bytes faults.Magic e r events s)
only_memory bytes faults.Version e r events s = absurd (unspelled bytes faults.Version e r events s)
only_memory bytes faults.Repeat e r events s = absurd (unspelled bytes faults.Repeat e r events s)
only_memory bytes faults.Trailing e r events s = absurd (unspelled bytes faults.Trailing e r events s)
only_memory bytes faults.Limits e r events s = absurd (unspelled bytes faults.Limits e r events s)
only_memory bytes faults.Files e r events s = absurd (unspelled bytes faults.Files e r events s)
only_memory bytes faults.Arguments e r events s = absurd (unspelled bytes faults.Arguments e r events s)

-- ---- of a fault

-- the faults behind the magic
abbrev is_body_fault : ScheduleFault → Bool
is_body_fault faults.Version = true
is_body_fault f = is_table_fault f

of_version_fault : (f : ScheduleFault) → IsTrue (is_version_fault f) → IsTrue (is_body_fault f)
of_version_fault faults.Truncated h = h
of_version_fault faults.Magic h = h
of_version_fault faults.Version h = h
of_version_fault faults.Repeat h = h
of_version_fault faults.Trailing h = refl
of_version_fault faults.OutOfMemory h = h
of_version_fault faults.Limits h = h
of_version_fault faults.Files h = h
of_version_fault faults.Arguments h = h

of_table_fault : (f : ScheduleFault) → IsTrue (is_table_fault f) → IsTrue (is_body_fault f)
of_table_fault faults.Truncated h = h
of_table_fault faults.Magic h = h
of_table_fault faults.Version h = refl
of_table_fault faults.Repeat h = h
of_table_fault faults.Trailing h = h
of_table_fault faults.OutOfMemory h = h
of_table_fault faults.Limits h = h
of_table_fault faults.Files h = h
of_table_fault faults.Arguments h = h

-- the fault is the version's, or the table's behind it
body_err : (bytes : List ℕ) (f : ScheduleFault) → body_at bytes ≡ Err f
    → (version_at bytes ≡ Err f) ⊎ ((numbers : Option Numbers) × (rest : List ℕ) × (version_at bytes ≡ Ok (numbers, rest))
    × (table_at rest ≡ Err f))
unfolding body_at
body_err bytes f e =
    elim (bind_err (version_at bytes) table_behind f e) [
      | inl h ↦ inl h
      | inr h ↦ elim (bind_err (table_at h.0.1) (λ entries. done (entries, h.0.0)) f h.2) [
        | inl g ↦ inr (h.0.0, h.0.1, h.1, g)
        | inr g ↦ absurd cc
      ]
    ]

body_stops : (bytes : List ℕ) (f : ScheduleFault) → body_at bytes ≡ Err f → IsTrue (is_body_fault f)
body_stops bytes f e =
    elim (body_err bytes f e) [
      | inl h ↦ of_version_fault f (version_stops bytes f h)
      | inr h ↦ of_table_fault f (table_stops h.1 f h.3)
    ]

-- a number that was read was there
there : (n : ℕ) (bytes : List ℕ) (x : ℕ × List ℕ) → number_at n bytes ≡ Ok x → n ≤ length bytes
there n bytes x e = ltb-false _ _ (guard_ok (ltb (length bytes) n) faults.Truncated (big_number n bytes, drop n bytes) x e).0

-- the magic was read
behind_magic : (bytes : List ℕ) (f : ScheduleFault) → IsBytes bytes → (faults.Magic ≡ f → ⊥) → (faults.Truncated ≡ f → ⊥)
    → schedule_at bytes ≡ Err f → (rest : List ℕ) × IsBytes rest × (bytes ≡ codes "JSCH" ++ rest) × (body_at rest ≡ Err f)
unfolding schedule_at
behind_magic bytes f small no_magic no_cut e =
    elim (bind_err (number_at 4 bytes) (λ magic. cond (eqb magic.0 0x4a534348) (body_at magic.1) (failed faults.Magic)) f e) [
      | inl h ↦ absurd (no_cut (number_stops 4 bytes f h))
      | inr h ↦ elim (test_err (eqb h.0.0 0x4a534348) (body_at h.0.1) faults.Magic f h.2) [
        | inl g ↦
            (let t = number_takes 4 back4 bytes h.0.0 h.0.1 small h.1 in
            (h.0.1, t.0.rest_fits, t.0.parts ∙ ap (λ (k : ℕ). big_bytes 4 k ++ h.0.1) (eqb-true _ _ g.0), g.1))
        | inr g ↦ absurd (no_magic g)
      ]
    ]

magic_stands : (bytes : List ℕ) → schedule_at bytes ≡ Err faults.Magic → StandsIn bytes faults.Magic
unfolding schedule_at
magic_stands bytes e = (
  elim (bind_err (number_at 4 bytes) (λ magic. cond (eqb magic.0 0x4a534348) (body_at magic.1) (failed faults.Magic)) faults.Magic e) [
    | inl h ↦ (let clash = number_stops 4 bytes faults.Magic h in absurd cc)
    | inr h ↦ there 4 bytes h.0 h.1
  ],
  λ b. (let clash : false ≡ true = body_stops b.0 faults.Magic (sym (after_magic b.0) ∙ ap schedule_at (sym b.1) ∙ e) in absurd cc),
)

-- the version is at fault, and it is there
version_fault : (rest : List ℕ) → body_at rest ≡ Err faults.Version → version_at rest ≡ Err faults.Version
version_fault rest e =
    elim (body_err rest faults.Version e) [
      | inl h ↦ h
      | inr h ↦ (let clash : false ≡ true = table_stops h.1 faults.Version h.3 in absurd cc)
    ]

version_there : (rest : List ℕ) → version_at rest ≡ Err faults.Version → 1 ≤ length rest
unfolding version_at
version_there rest e =
    elim (bind_err (number_at 1 rest) of_version faults.Version e) [
      | inl h ↦ (let clash = number_stops 1 rest faults.Version h in absurd cc)
      | inr h ↦ there 1 rest h.0 h.1
    ]

no_first : (rest : List ℕ) → version_at (1 ∷ rest) ≡ Err faults.Version → ⊥
no_first rest e =
    let clash : done (None, rest) ≡ failed {A = Option Numbers × List ℕ} faults.Version = sym (after_first rest) ∙ e in
    absurd cc

no_second : (rest : List ℕ) → version_at (2 ∷ rest) ≡ Err faults.Version → ⊥
no_second rest e = let clash : false ≡ true = recorded_stops false rest faults.Version (sym (after_second rest) ∙ e) in absurd cc

no_third : (rest : List ℕ) → version_at (3 ∷ rest) ≡ Err faults.Version → ⊥
no_third rest e = let clash : false ≡ true = recorded_stops true rest faults.Version (sym (after_third rest) ∙ e) in absurd cc

version_stands : (bytes : List ℕ) → IsBytes bytes → schedule_at bytes ≡ Err faults.Version → StandsIn bytes faults.Version
version_stands bytes small e =
    let b = behind_magic bytes faults.Version small (λ e. absurd cc) (λ e. absurd cc) e in
    let at_version : (v : ℕ) (rest : List ℕ) → bytes ≡ codes "JSCH" ++ (v ∷ rest) → version_at (v ∷ rest) ≡ Err faults.Version =
    λ v rest parts. version_fault (v ∷ rest) (sym (after_magic (v ∷ rest)) ∙ ap schedule_at (sym parts) ∙ e) in (
      omega (arith, ap length b.2, length-append (codes "JSCH") b.0, version_there b.0 (version_fault b.0 b.3)),
      (b.0, b.2),
      (λ v. no_first v.0 (at_version 1 v.0 v.1)),
      (λ v. no_second v.0 (at_version 2 v.0 v.1)),
      (λ v. no_third v.0 (at_version 3 v.0 v.1)),
    )

-- bytes follow what a file spells
more_of : (bytes : List ℕ) → IsBytes bytes → schedule_at bytes ≡ Err faults.Trailing → HasMore bytes
more_of bytes small e =
    let a = behind_magic bytes faults.Trailing small (λ e. absurd cc) (λ e. absurd cc) e in
    elim (body_err a.0 faults.Trailing a.3) [
      | inl h ↦ (let clash : false ≡ true = version_stops a.0 faults.Trailing h in absurd cc)
      | inr h ↦
          (let u = version_takes a.0 h.0 h.1 a.1 h.2 in
          let b = table_trailing h.1 u.taken.rest_fits h.3 in
          let whole : bytes ≡ schedule u.recorded b.0 ++ b.1 =
          a.2 ∙ ap (λ (l : List ℕ). codes "JSCH" ++ l) (u.taken.parts ∙ ap (λ (l : List ℕ). version u.recorded ++ l) b.4 ∙ sym (append_assoc (version u.recorded) (table b.0) b.1)) in
          record {
            file = schedule u.recorded b.0;
            recorded = u.recorded;
            events = events_of b.0;
            more = b.1;
            spelled = record { entries = b.0; fits = b.2; recording_fits = u.fits; spelled = refl; stands_for = refl };
            some = b.3;
            parts = whole;
          })
    ]

no_files : (bytes : List ℕ) → IsBytes bytes → schedule_at bytes ≡ Err faults.Files → ⊥
no_files bytes small e =
    let a = behind_magic bytes faults.Files small (λ e. absurd cc) (λ e. absurd cc) e in
    let clash : false ≡ true = body_stops a.0 faults.Files a.3 in
    absurd cc

pub refused_of : (bytes : List ℕ) (f : ScheduleFault) → IsBytes bytes → Fails f (schedule_at bytes) → IsFaultOf bytes f
refused_of bytes faults.OutOfMemory small e = inl refl
refused_of bytes faults.Truncated small e = inr e
refused_of bytes faults.Repeat small e = inr e
refused_of bytes faults.Limits small e = inr e
refused_of bytes faults.Arguments small e = inr e
refused_of bytes faults.Files small e = absurd (no_files bytes small e)
refused_of bytes faults.Magic small e = inr (magic_stands bytes e)
refused_of bytes faults.Version small e = inr (version_stands bytes small e)
refused_of bytes faults.Trailing small e = inr (more_of bytes small e)
