-- What a write to the words or to the table shows.
use Rattle.std.proofs.Common.{◌≡◌, ◌≢◌, ℕ, zero, suc, ◌+◌, ◌<◌, ◌⊎◌, inl, inr, List, [], ◌∷◌, ◌++◌, length, get_or, set}
use Rattle.std.proofs.Common.{map, Bool, true, false, cond, refl, sym, ◌∙◌, ap, arith}
use Rattle.std.specs.Prelude.{count_by}
use Rattle.std.proofs.lemmas.Bool.{cases_eq}
use Rattle.std.proofs.lemmas.List.{map-set, get_or-map, get_or-set_same, get_or-set_other, length-set, length-map}
use Rattle.std.proofs.lemmas.List.{length-append, get_or_append_left, get_or_push, ext_get_or}
use Rattle.std.proofs.lemmas.List.Folds.{fold-map}
use Rattle.std.proofs.lemmas.List.Sums.{sum_by-set, sum_by_push}
use Rattle.std.proofs.Math.Seq.{map-set_same}
use Rattle.heap.specs.declared.lock_word.lock.Lock.{Lock}
use Rattle.heap.specs.declared.lock_word.lock.Lock.TheVariants.{Unlocked, Thin, Fat}
use Rattle.heap.specs.lock_word.Words.{Word}
use Rattle.model.specs.State.{Monitor}
use Rattle.model.specs.Monitors.{unlocked, monitor_at}
use Rattle.heap.specs.monitor.Words.{monitor_of, monitors_of, is_fat_lock, is_fat_word, lock_at, AreSound, locks_of}

abbrev pub blank : Word
blank = record { lock = Unlocked; low_byte = 0 }

-- ---- reads

pub monitor_at-monitors_of : (t : List Monitor) (ws : List Word) (o : ℕ) → o < length ws
    → monitor_at (monitors_of t ws) o ≡ monitor_of t (lock_at ws o)
monitor_at-monitors_of t ws o h = get_or-map (λ (word : Word). monitor_of t word.lock) ws o blank unlocked h

pub is_fat_at-map : (ws : List Word) (o : ℕ) → o < length ws
    → get_or (map is_fat_word ws) o false ≡ is_fat_lock (lock_at ws o)
is_fat_at-map ws o h = get_or-map is_fat_word ws o blank false h

pub count_by-map : (ws : List Word) → count_by (λ fat. fat) (map is_fat_word ws) ≡ count_by is_fat_word ws
count_by-map ws = fold-map (λ (n : ℕ) (fat : Bool). n + cond fat 1 0) is_fat_word 0 ws

-- ---- what the locks are after a write

pub lock_at-set_same : (ws : List Word) (o : ℕ) (w : Word) → o < length ws → lock_at (set ws o w) o ≡ w.lock
lock_at-set_same ws o w h = ap (λ (x : Word). x.lock) (get_or-set_same ws o w blank h)

pub lock_at-set_other : (ws : List Word) (o p : ℕ) (w : Word) → p ≢ o → lock_at (set ws o w) p ≡ lock_at ws p
lock_at-set_other ws o p w h = ap (λ (x : Word). x.lock) (get_or-set_other ws o p w blank h)

-- a fat lock after a write was there before, or is what was written
pub fat_after_set : (ws : List Word) (o p i : ℕ) (w : Word) → lock_at (set ws o w) p ≡ Fat i
    → (lock_at ws p ≡ Fat i) ⊎ ((p ≡ o) × (w.lock ≡ Fat i))
fat_after_set [] o p i w e = inl e
fat_after_set (x ∷ ws) zero zero i w e = inr (refl, e)
fat_after_set (x ∷ ws) zero (suc p) i w e = inl e
fat_after_set (x ∷ ws) (suc o) zero i w e = inl e
fat_after_set (x ∷ ws) (suc o) (suc p) i w e = elim (fat_after_set ws o p i w e)
    [ inl old ↦ inl old | inr new ↦ inr (ap suc new.0, new.1) ]

pub thin_after_set : (ws : List Word) (o p i : ℕ) (w : Word) → is_fat_lock w.lock ≡ false
    → lock_at (set ws o w) p ≡ Fat i
    → lock_at ws p ≡ Fat i
thin_after_set ws o p i w thin e = elim (fat_after_set ws o p i w e)
    [ inl old ↦ old | inr new ↦ absurd (let wrong : is_fat_lock w.lock ≡ true = ap is_fat_lock new.1 in cc) ]

pub counted_after : (ws : List Word) (o : ℕ) (w : Word) → o < length ws → is_fat_lock (lock_at ws o) ≡ false
    → is_fat_word w ≡ true
    → count_by is_fat_word (set ws o w) ≡ count_by is_fat_word ws + 1
counted_after ws o w h thin fat =
    let one : count_by is_fat_word (set ws o w) + cond (is_fat_lock (lock_at ws o)) 1 0
    ≡ count_by is_fat_word ws + cond (is_fat_word w) 1 0 =
    sum_by-set (λ (x : Word). cond (is_fat_word x) 1 0) ws o w blank h in
    let two : count_by is_fat_word (set ws o w) + 0 ≡ count_by is_fat_word ws + 1 = rw (thin, fat) at one in
    omega (arith, two)

pub same_fat : (ws : List Word) (o : ℕ) (w : Word) → is_fat_lock (lock_at ws o) ≡ false → is_fat_lock w.lock ≡ false
    → map is_fat_word (set ws o w) ≡ map is_fat_word ws
same_fat ws o w was is = map-set_same is_fat_word ws o w blank (is ∙ sym was)

pub locks_by : (t u : List Monitor) (ws vs : List Word) (n : ℕ) (ms : List Monitor) (fs : List Bool)
    → monitors_of u vs ≡ ms
    → map is_fat_word vs ≡ fs → locks_of u vs n ≡ record { monitors = ms; fat = fs; limit = n }
locks_by t u ws vs n ms fs e f = cc

-- ---- a thin lock is written

pub sound_thin : (t : List Monitor) (ws : List Word) (n o : ℕ) (w : Word) → AreSound t ws n
    → is_fat_lock (lock_at ws o) ≡ false
    → is_fat_lock w.lock ≡ false → AreSound t (set ws o w) n
sound_thin t ws n o w s was is =
    record {
      there = λ p i e. s.there p i (thin_after_set ws o p i w is e);
      once = λ p q i e f. s.once p q i (thin_after_set ws o p i w is e) (thin_after_set ws o q i w is f);
      counted = sym (count_by-map (set ws o w)) ∙ ap (count_by (λ (fat : Bool). fat)) (same_fat ws o w was is)
          ∙ count_by-map ws ∙ s.counted;
      limited = s.limited;
      limit_fits = s.limit_fits;
    }

pub locks_thin : (t : List Monitor) (ws : List Word) (n o : ℕ) (w : Word) → is_fat_lock (lock_at ws o) ≡ false
    → is_fat_lock w.lock ≡ false
    → locks_of t (set ws o w) n ≡ record {
      monitors = set (monitors_of t ws) o (monitor_of t w.lock);
      fat = map is_fat_word ws;
      limit = n;
    }
locks_thin t ws n o w was is =
    locks_by t t ws (set ws o w) n _ _ (map-set (λ (word : Word). monitor_of t word.lock) ws o w)
    (same_fat ws o w was is)

-- ---- a record is written

pub sound_record : (t : List Monitor) (ws : List Word) (n i : ℕ) (m : Monitor) → AreSound t ws n
    → AreSound (set t i m) ws n
sound_record t ws n i m s =
    record {
      there = λ p j e. rw (length-set t i m) (s.there p j e);
      once = s.once;
      counted = rw (length-set t i m) s.counted;
      limited = rw (length-set t i m) s.limited;
      limit_fits = s.limit_fits;
    }

-- another lock's monitor is as it was
pub other_record : (t : List Monitor) (i : ℕ) (m : Monitor) (l : Lock) → l ≢ Fat i
    → monitor_of (set t i m) l ≡ monitor_of t l
other_record t i m Unlocked ne = refl
other_record t i m (Thin owner entries) ne = refl
other_record t i m (Fat j) ne = get_or-set_other t i j m unlocked (λ e. ne (ap Fat e))

pub record_at : (t : List Monitor) (ws : List Word) (n o i : ℕ) (m : Monitor) → AreSound t ws n → o < length ws
    → lock_at ws o ≡ Fat i
    → (k : ℕ) → k < length ws → monitor_of (set t i m) (lock_at ws k) ≡ get_or (set (monitors_of t ws) o m) k unlocked
record_at t ws n o i m s h e k in_range =
    elim (cases_eq k o) [
      | inl same ↦
          let there : o < length (monitors_of t ws) = rw (length-map ws (λ (word : Word). monitor_of t word.lock)) h in
          rw (same, e) (get_or-set_same t i m unlocked (s.there o i e)
          ∙ sym (get_or-set_same (monitors_of t ws) o m unlocked there))
      | inr other ↦
          other_record t i m (lock_at ws k) (λ f. other (s.once k o i f e))
          ∙ sym (get_or-set_other (monitors_of t ws) o k m unlocked other ∙ monitor_at-monitors_of t ws k in_range)
    ]

pub monitors_record : (t : List Monitor) (ws : List Word) (n o i : ℕ) (m : Monitor) → AreSound t ws n → o < length ws
    → lock_at ws o ≡ Fat i → monitors_of (set t i m) ws ≡ set (monitors_of t ws) o m
monitors_record t ws n o i m s h e =
    let long : length (monitors_of (set t i m) ws) ≡ length ws =
    length-map ws (λ (word : Word). monitor_of (set t i m) word.lock) in
    let long' : length (set (monitors_of t ws) o m) ≡ length ws = length-set (monitors_of t ws) o m
    ∙ length-map ws (λ (word : Word). monitor_of t word.lock) in
    ext_get_or unlocked (monitors_of (set t i m) ws) (set (monitors_of t ws) o m) (long ∙ sym long')
    (λ k in_range. let within : k < length ws = rw long at in_range in monitor_at-monitors_of (set t i m) ws k within
    ∙ record_at t ws n o i m s h e k within)

pub locks_record : (t : List Monitor) (ws : List Word) (n o i : ℕ) (m : Monitor) → AreSound t ws n → o < length ws
    → lock_at ws o ≡ Fat i
    → locks_of (set t i m) ws n ≡ record { monitors = set (monitors_of t ws) o m; fat = map is_fat_word ws; limit = n }
locks_record t ws n o i m s h e = locks_by t (set t i m) ws ws n _ _ (monitors_record t ws n o i m s h e) refl

-- ---- a lock is inflated

pub same_index : (t : List Monitor) (ws : List Word) (n o p q i : ℕ) (w : Word) → AreSound t ws n
    → w.lock ≡ Fat (length t)
    → lock_at (set ws o w) p ≡ Fat i → lock_at (set ws o w) q ≡ Fat i → p ≡ q
same_index t ws n o p q i w s is e f =
    elim (fat_after_set ws o p i w e) [
      | inl old ↦ elim (fat_after_set ws o q i w f) [
        | inl old' ↦ s.once p q i old old'
        | inr new' ↦ absurd (let below : i < length t = s.there p i old in let at : i ≡ length t = cc (new'.1, is) in
            omega arith)
      ]
      | inr new ↦ elim (fat_after_set ws o q i w f) [
        | inl old' ↦ absurd (let below : i < length t = s.there q i old' in let at : i ≡ length t = cc (new.1, is) in
            omega arith)
        | inr new' ↦ new.0 ∙ sym new'.0
      ]
    ]

pub index_below : (t : List Monitor) (ws : List Word) (n o p i : ℕ) (w : Word) → AreSound t ws n
    → w.lock ≡ Fat (length t)
    → lock_at (set ws o w) p ≡ Fat i → i < length t + 1
index_below t ws n o p i w s is e =
    elim (fat_after_set ws o p i w e) [
      | inl old ↦ let below : i < length t = s.there p i old in omega arith
      | inr new ↦ let at : i ≡ length t = cc (new.1, is) in omega arith
    ]

pub sound_inflated : (t : List Monitor) (ws : List Word) (n o : ℕ) (w : Word) (m : Monitor) → AreSound t ws n
    → o < length ws
    → is_fat_lock (lock_at ws o) ≡ false → w.lock ≡ Fat (length t) → length t < n
    → AreSound (t ++ m ∷ []) (set ws o w) n
sound_inflated t ws n o w m s h was is room =
    let long : length (t ++ m ∷ []) ≡ length t + 1 = length-append t (m ∷ []) in
    let more : count_by is_fat_word (set ws o w) ≡ count_by is_fat_word ws + 1 =
    counted_after ws o w h was (ap is_fat_lock is) in
    record {
      there = λ p i e. rw long (index_below t ws n o p i w s is e);
      once = λ p q i e f. same_index t ws n o p q i w s is e f;
      counted = more ∙ ap (λ k. k + 1) s.counted ∙ sym long;
      limited = omega (arith, long);
      limit_fits = s.limit_fits;
    }

pub old_record : (t : List Monitor) (m : Monitor) (l : Lock) → ((i : ℕ) → l ≡ Fat i → i < length t)
    → monitor_of (t ++ m ∷ []) l ≡ monitor_of t l
old_record t m Unlocked there = refl
old_record t m (Thin owner entries) there = refl
old_record t m (Fat j) there = get_or_append_left t (m ∷ []) unlocked j (there j refl)

pub old_records : (t : List Monitor) (m : Monitor) (ws : List Word) (n : ℕ) → AreSound t ws n
    → monitors_of (t ++ m ∷ []) ws ≡ monitors_of t ws
old_records t m ws n s =
    let long : length (monitors_of (t ++ m ∷ []) ws) ≡ length ws =
    length-map ws (λ (word : Word). monitor_of (t ++ m ∷ []) word.lock) in
    let long' : length (monitors_of t ws) ≡ length ws = length-map ws (λ (word : Word). monitor_of t word.lock) in
    ext_get_or unlocked (monitors_of (t ++ m ∷ []) ws) (monitors_of t ws) (long ∙ sym long')
    (λ k in_range. let within : k < length ws = rw long at in_range in
    monitor_at-monitors_of (t ++ m ∷ []) ws k within ∙ old_record t m (lock_at ws k) (s.there k)
    ∙ sym (monitor_at-monitors_of t ws k within))

pub locks_inflated : (t : List Monitor) (ws : List Word) (n o : ℕ) (w : Word) (m : Monitor) → AreSound t ws n
    → w.lock ≡ Fat (length t)
    → locks_of (t ++ m ∷ []) (set ws o w) n
    ≡ record { monitors = set (monitors_of t ws) o m; fat = set (map is_fat_word ws) o true; limit = n }
locks_inflated t ws n o w m s is =
    let new : monitor_of (t ++ m ∷ []) w.lock ≡ m = rw is (get_or_push t m unlocked (length t) refl) in
    let fat : is_fat_word w ≡ true = ap is_fat_lock is in
    locks_by t (t ++ m ∷ []) ws (set ws o w) n _ _
    (map-set (λ (word : Word). monitor_of (t ++ m ∷ []) word.lock) ws o w ∙ rw (new, old_records t m ws n s) refl)
    (map-set is_fat_word ws o w ∙ rw fat refl)

-- ---- an object is added

pub fat_before_push : (ws : List Word) (w : Word) (p i : ℕ) → w.lock ≡ Unlocked → lock_at (ws ++ w ∷ []) p ≡ Fat i
    → lock_at ws p ≡ Fat i
fat_before_push [] w zero i thin e = absurd (let wrong : Unlocked ≡ Fat i = sym thin ∙ e in cc)
fat_before_push [] w (suc p) i thin e = e
fat_before_push (x ∷ ws) w zero i thin e = e
fat_before_push (x ∷ ws) w (suc p) i thin e = fat_before_push ws w p i thin e

pub sound_pushed : (t : List Monitor) (ws : List Word) (n : ℕ) (w : Word) → AreSound t ws n → w.lock ≡ Unlocked
    → AreSound t (ws ++ w ∷ []) n
sound_pushed t ws n w s thin =
    let no_more : count_by is_fat_word (ws ++ w ∷ []) ≡ count_by is_fat_word ws + cond (is_fat_lock w.lock) 1 0 =
    sum_by_push (λ (x : Word). cond (is_fat_word x) 1 0) ws w in
    let same : count_by is_fat_word (ws ++ w ∷ []) ≡ count_by is_fat_word ws + 0 = no_more
    ∙ ap (λ (b : Bool). count_by is_fat_word ws + cond b 1 0) (ap is_fat_lock thin) in
    record {
      there = λ p i e. s.there p i (fat_before_push ws w p i thin e);
      once = λ p q i e f. s.once p q i (fat_before_push ws w p i thin e) (fat_before_push ws w q i thin f);
      counted = omega (arith, same, s.counted);
      limited = s.limited;
      limit_fits = s.limit_fits;
    }
