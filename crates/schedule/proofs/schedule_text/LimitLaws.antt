-- The words of limits.
use Rattle.std.proofs.Common.{codes, map, ◌≡◌, subst, ◌≤◌, ℕ, List, ◌∷◌, ◌++◌, true, false, length, take, drop, refl, sym, ap, ◌∙◌, arith, Option, None, Some, decimal}
use Rattle.std.specs.Prelude.{◌↔◌, IsSome, IfSome, nat_eq}
use Rattle.std.specs.Cmp.Lexicographic.{pointwise}
use Rattle.std.proofs.lemmas.List.{take-append-drop, take-append-le, take_all}
use Rattle.std.proofs.lemmas.Slice.Eq.{bytes_eq-Decides}
use Rattle.std.proofs.Math.Bridge.{le_prop}
use Rattle.model.specs.LimitRanges.{AreLimits}
use Rattle.model.specs.Schedule.{AreEntries}
use Rattle.model.specs.declared.event.ScheduleEntry.{ScheduleEntry}
use Rattle.model.specs.declared.limits.Limits.{Limits}
use Rattle.schedule.specs.Files.{Checksums, RecordedFits, Recording, RecordingFits}
use Rattle.schedule.proofs.schedule_text.EntryLaws.{no_heading}
use Rattle.schedule.specs.schedule_text.Text.{entry_word, recording_words}

-- ---- a name and a number

pub is_named : (word name digits : List ℕ) (n : ℕ) → pointwise nat_eq (take (length name) word) name ≡ true
    → digits ≡ drop (length name) word → digits ≡ decimal n → word ≡ name ++ decimal n
is_named word name digits n e d is =
    let front : take (length name) word ≡ name = (bytes_eq-Decides (take (length name) word) name).0 e in
    sym (take-append-drop (length name) word) ∙ ap (λ x. x ++ drop (length name) word) front ∙ ap (λ x. name ++ x) (sym d ∙ is)

pub not_named : (word name rest : List ℕ) → pointwise nat_eq (take (length name) word) name ≡ false → word ≡ name ++ rest → ⊥
not_named word name rest differ e =
    let front : take (length name) word ≡ name = ap (take (length name)) e ∙ take-append-le (length name) name rest (omega arith) ∙ take_all (length name) name (omega arith) in
    let yes : pointwise nat_eq (take (length name) word) name ≡ true = (bytes_eq-Decides (take (length name) word) name).1 front in
    absurd cc

pub differ : (xs ys : List ℕ) → pointwise nat_eq xs ys ≡ false → xs ≡ ys → ⊥
differ xs ys e is =
    let yes : pointwise nat_eq xs ys ≡ true = (bytes_eq-Decides xs ys).1 is in
    absurd cc

-- ---- limits that are made

ranges_prop : (o m t f : ℕ) → IsProp ((o ≤ 4000000000) × (m ≤ 8388608) × ((1 ≤ t) × (t ≤ 32767)) × ((1 ≤ f) × (f ≤ 65535)))
ranges_prop o m t f = hlevel le_prop

abbrev pub Ranges : ℕ → ℕ → ℕ → ℕ → Type 0
Ranges o m t f = (o ≤ 4000000000) × (m ≤ 8388608) × ((1 ≤ t) × (t ≤ 32767)) × ((1 ≤ f) × (f ≤ 65535))

abbrev limits_of : (o c m t f : ℕ) → Ranges o m t f → Limits
limits_of o c m t f r = record { objects = o; cells = c; monitors = m; threads = t; frames = f; objects_fit = r.0; monitors_fit = r.1; threads_fit = r.2; frames_fit = r.3 }

agree_at : (o c m t f : ℕ) (r s : Ranges o m t f) → limits_of o c m t f r ≡ limits_of o c m t f s
agree_at o c m t f r s = ap (limits_of o c m t f) (ranges_prop o m t f r s)

agree : (o c m t f : ℕ) (l : Limits) (r : Ranges o m t f) → l.objects ≡ o → l.cells ≡ c → l.monitors ≡ m → l.threads ≡ t → l.frames ≡ f
    → l ≡ limits_of o c m t f r
agree o c m t f l r eo ec em et ef =
    let P : ℕ → ℕ → ℕ → ℕ → ℕ → Type 0 = λ o. λ c. λ m. λ t. λ f. (r : Ranges o m t f) → l ≡ limits_of o c m t f r in
    let at : P l.objects l.cells l.monitors l.threads l.frames = λ r. agree_at l.objects l.cells l.monitors l.threads l.frames (l.objects_fit, l.monitors_fit, l.threads_fit, l.frames_fit) r in
    subst (λ x. P x c m t f) eo (subst (λ x. P l.objects x m t f) ec (subst (λ x. P l.objects l.cells x t f) em (subst (λ x. P l.objects l.cells l.monitors x f) et (subst (λ x. P l.objects l.cells l.monitors l.threads x) ef at)))) r

pub same_limits : (k l : Limits) → k.objects ≡ l.objects → k.cells ≡ l.cells → k.monitors ≡ l.monitors → k.threads ≡ l.threads
    → k.frames ≡ l.frames → k ≡ l
same_limits k l = agree l.objects l.cells l.monitors l.threads l.frames k (l.objects_fit, l.monitors_fit, l.threads_fit, l.frames_fit)

pub are_made : (made : Option Limits) (o c m t f : ℕ) (l : Limits) → (IsSome made ↔ AreLimits o m t f)
    → IfSome made (λ x. (x.objects ≡ o) × (x.cells ≡ c) × (x.monitors ≡ m) × (x.threads ≡ t) × (x.frames ≡ f))
    → o ≡ l.objects → c ≡ l.cells → m ≡ l.monitors → t ≡ l.threads → f ≡ l.frames → made ≡ Some l
are_made None o c m t f l is _ eo ec em et ef =
    let fit : AreLimits o m t f = rw (eo, em, et, ef) (record { objects_fit = l.objects_fit; monitors_fit = l.monitors_fit; threads_fit = l.threads_fit; frames_fit = l.frames_fit }) in
    let none : IsSome {T = Limits} None = is.1 fit in
    absurd cc
are_made (Some k) o c m t f l is kept eo ec em et ef = ap Some (same_limits k l (kept.0 ∙ eo) (kept.1 ∙ ec) (kept.2 ∙ em) (kept.3 ∙ et) (kept.4 ∙ ef))

-- ---- recordings

pub same_recording : (p q : Recording) → p.limits ≡ q.limits → p.lengths ≡ q.lengths → p.checksums ≡ q.checksums → p ≡ q
same_recording p q l n c =
    ap (λ (x : Limits). record { limits = x; lengths = p.lengths; checksums = p.checksums }) l
    ∙ ap (λ (x : List ℕ). record { limits = q.limits; lengths = x; checksums = p.checksums }) n
    ∙ ap (λ (x : Option Checksums). record { limits = q.limits; lengths = q.lengths; checksums = x }) c

pub same_Some : {A : Type 0} (x y : A) → Some x ≡ Some y → x ≡ y
same_Some x y e = cc

pub same_pair : {A B : Type 0} (a c : A) (b d : B) → a ≡ c → b ≡ d → ◌≡◌ {A = A × B} (a, b) (c, d)
same_pair a c b d p q = rw (p, q) refl

-- words that begin so tell of a recording
pub is_told : (words : List (List ℕ)) (r : Option Recording) (es : List ScheduleEntry)
    → (rest : List (List ℕ)) × (words ≡ codes "#limits" ∷ rest) → RecordedFits r → AreEntries es
    → words ≡ recording_words r ++ map entry_word es
    → (q : Recording) × (r ≡ Some q) × RecordingFits q × (words ≡ recording_words (Some q) ++ map entry_word es)
is_told words None es begins fits are is = absurd (no_heading begins.0 es are.each (sym is ∙ begins.1))
is_told words (Some q) es begins fits are is = (q, refl, fits, is)
