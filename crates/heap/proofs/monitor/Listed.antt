-- What becomes of the records of fat locks as waiters join and leave.
use Rattle.std.proofs.Common.{◌≡◌, ℕ, zero, suc, ◌<◌, ◌⊎◌, inl, inr, List, [], ◌∷◌, ◌++◌, length, get_or, set, map}
use Rattle.std.proofs.Common.{Option, Some, None, refl, sym, ◌∙◌, ap, subst, arith}
use Rattle.std.specs.Prelude.{IsSome, slice_get}
use Rattle.std.specs.List.{remove}
use Rattle.std.specs.Option.{option_map}
use Rattle.std.proofs.lemmas.List.{map-set, map_push, get_or-map, length-map, get_or_read, ext_get_or}
use Rattle.slab.specs.Slab.{Slab, get, Updates}
use Rattle.model.specs.State.{Monitor, Waiter}
use Rattle.model.specs.Monitors.{unlocked, monitor_at}
use Rattle.heap.specs.monitor.Records.{Listing, Lists, AreDistinct, AreListed, keys_at, shown, monitors_shown}
use Rattle.heap.specs.monitor.Records.{waiter_at, waiter_or}
use Rattle.heap.proofs.monitor.Keys.{Lists-push, Lists-at, Lists-remove, distinct-push, distinct-remove, removed_gone}
use Rattle.heap.proofs.monitor.Keys.{map-remove, set_agree}

abbrev pub blank : Listing
blank = record { owner = None; count = 0; keys = [] }

-- ---- a slab whose room alone has changed

pub updates_from : (old mid new : Slab Waiter) (key : ℕ) (slot : Option Waiter)
    → mid ≡ record old { capacity = mid.capacity }
    → Updates mid new key slot → Updates old new key slot
updates_from old mid new key slot same u =
    record { changed = u.changed; others = λ k ne. u.others k ne ∙ ap (λ (s : Slab Waiter). get s k) same }

pub vacant_from : (old mid : Slab Waiter) (key : ℕ) → mid ≡ record old { capacity = mid.capacity } → get mid key ≡ None
    → get old key ≡ None
vacant_from old mid key same vacant = sym (ap (λ (s : Slab Waiter). get s key) same) ∙ vacant

-- ---- reads

pub read_listing : (ls : List Listing) (i : ℕ) (l : Listing) → i < length ls → l ≡ get_or ls i l → get_or ls i blank ≡ l
read_listing ls i l h e = sym (get_or_read ls i l h e blank)

pub shown_at : (s : Slab Waiter) (ls : List Listing) (i : ℕ) → i < length ls
    → monitor_at (monitors_shown s ls) i ≡ shown s (get_or ls i blank)
shown_at s ls i h = get_or-map (λ (l : Listing). shown s l) ls i blank unlocked h

pub same_waiters : (old new : Slab Waiter) (key : ℕ) (slot : Option Waiter) (keys : List ℕ) → Updates old new key slot
    → (Lists keys key → ⊥) → map (waiter_at new) keys ≡ map (waiter_at old) keys
same_waiters old new key slot [] u not_there = refl
same_waiters old new key slot (k ∷ keys) u not_there =
    let head : waiter_at new k ≡ waiter_at old k = ap waiter_or (u.others k (λ e. not_there (inl e))) in
    let rest : map (waiter_at new) keys ≡ map (waiter_at old) keys =
    same_waiters old new key slot keys u (λ h. not_there (inr h)) in
    rw (head, rest) refl

pub not_vacant : (s : Slab Waiter) (k : ℕ) → IsSome (get s k) → get s k ≡ None → ⊥
not_vacant s k some none = let empty : IsSome (none_of Waiter) = subst (λ (o : Option Waiter). IsSome o) none some in cc
  where
    none_of : (T : Type 0) → Option T
    none_of T = None

pub some_is : (o : Option Waiter) → IsSome o → o ≡ Some (waiter_or o)
some_is (Some w) h = refl
some_is None h = cc

-- ---- one listing is written

pub keys_after_set : (ls : List Listing) (i j : ℕ) (l : Listing) (k : ℕ) → Lists (keys_at (set ls i l) j) k
    → Lists (keys_at ls j) k ⊎ ((j ≡ i) × Lists l.keys k)
keys_after_set [] i j l k h = inl h
keys_after_set (x ∷ ls) zero zero l k h = inr (refl, h)
keys_after_set (x ∷ ls) zero (suc j) l k h = inl h
keys_after_set (x ∷ ls) (suc i) zero l k h = inl h
keys_after_set (x ∷ ls) (suc i) (suc j) l k h = elim (keys_after_set ls i j l k h)
    [ inl a ↦ inl a | inr b ↦ inr (ap suc b.0, b.1) ]

-- the same, where what was there before stands elsewhere
pub keys_elsewhere : (ls : List Listing) (i j : ℕ) (l : Listing) (k : ℕ) → Lists (keys_at (set ls i l) j) k
    → ((j ≡ i → ⊥) × Lists (keys_at ls j) k) ⊎ ((j ≡ i) × Lists l.keys k)
keys_elsewhere [] i j l k h = absurd h
keys_elsewhere (x ∷ ls) zero zero l k h = inr (refl, h)
keys_elsewhere (x ∷ ls) zero (suc j) l k h = inl (λ e. omega (arith, e), h)
keys_elsewhere (x ∷ ls) (suc i) zero l k h = inl (λ e. omega (arith, e), h)
keys_elsewhere (x ∷ ls) (suc i) (suc j) l k h = elim (keys_elsewhere ls i j l k h)
    [ inl a ↦ inl (λ e. a.0 (omega (arith, e)), a.1) | inr b ↦ inr (ap suc b.0, b.1) ]

pub distinct_after_set : (ls : List Listing) (i j : ℕ) (l : Listing) → AreDistinct (keys_at ls j) → AreDistinct l.keys
    → AreDistinct (keys_at (set ls i l) j)
distinct_after_set [] i j l was new = was
distinct_after_set (x ∷ ls) zero zero l was new = new
distinct_after_set (x ∷ ls) zero (suc j) l was new = was
distinct_after_set (x ∷ ls) (suc i) zero l was new = was
distinct_after_set (x ∷ ls) (suc i) (suc j) l was new = distinct_after_set ls i j l was new

pub keys_after_push : (ls : List Listing) (l : Listing) (j k : ℕ) → Lists (keys_at (ls ++ l ∷ []) j) k
    → Lists (keys_at ls j) k ⊎ ((j ≡ length ls) × Lists l.keys k)
keys_after_push [] l zero k h = inr (refl, h)
keys_after_push [] l (suc j) k h = inl h
keys_after_push (x ∷ ls) l zero k h = inl h
keys_after_push (x ∷ ls) l (suc j) k h = elim (keys_after_push ls l j k h)
    [ inl a ↦ inl a | inr b ↦ inr (ap suc b.0, b.1) ]

pub distinct_after_push : (ls : List Listing) (l : Listing) (j : ℕ) → AreDistinct (keys_at ls j) → AreDistinct l.keys
    → AreDistinct (keys_at (ls ++ l ∷ []) j)
distinct_after_push [] l zero was new = new
distinct_after_push [] l (suc j) was new = was
distinct_after_push (x ∷ ls) l zero was new = was
distinct_after_push (x ∷ ls) l (suc j) was new = distinct_after_push ls l j was new

-- ---- a key more

-- the keys are those that were, and one that was vacant
pub listed_more : (ls ls' : List Listing) (s s' : Slab Waiter) (i y : ℕ) (w : Waiter) → AreListed ls s
    → Updates s s' y (Some w)
    → get s y ≡ None
    → ((j k : ℕ) → Lists (keys_at ls' j) k → Lists (keys_at ls j) k ⊎ ((j ≡ i) × (y ≡ k)))
    → ((j : ℕ) → AreDistinct (keys_at ls' j))
    → AreListed ls' s'
listed_more ls ls' s s' i y w l u vacant keys once =
    record {
      present = λ j k h. elim (keys j k h) [
        | inl old ↦ subst (λ (o : Option Waiter). IsSome o) (sym
            (u.others k (λ e. not_vacant s k (l.present j k old) (ap (get s) e ∙ vacant)))) (l.present j k old)
        | inr new ↦ subst (λ (o : Option Waiter). IsSome o) (sym (ap (get s') (sym new.1) ∙ u.changed)) refl
      ];
      apart = λ j m k h g. elim (keys j k h) [
        | inl old ↦ elim (keys m k g) [
          | inl old' ↦ l.apart j m k old old'
          | inr new' ↦ absurd (not_vacant s k (l.present j k old) (ap (get s) (sym new'.1) ∙ vacant))
        ]
        | inr new ↦ elim (keys m k g) [
          | inl old' ↦ absurd (not_vacant s k (l.present m k old') (ap (get s) (sym new.1) ∙ vacant))
          | inr new' ↦ new.0 ∙ sym new'.0
        ]
      ];
      distinct = once;
    }

-- a vacant key is listed nowhere
pub unlisted : (ls : List Listing) (s : Slab Waiter) (y j : ℕ) → AreListed ls s → get s y ≡ None
    → Lists (keys_at ls j) y → ⊥
unlisted ls s y j l vacant h = not_vacant s y (l.present j y h) vacant

pub same_shown : (ls : List Listing) (s s' : Slab Waiter) (y j : ℕ) (slot : Option Waiter) → j < length ls
    → Updates s s' y slot
    → (Lists (keys_at ls j) y → ⊥) → monitor_at (monitors_shown s' ls) j ≡ monitor_at (monitors_shown s ls) j
same_shown ls s s' y j slot h u not_there =
    let ws : map (waiter_at s') (keys_at ls j) ≡ map (waiter_at s) (keys_at ls j) =
    same_waiters s s' y slot (keys_at ls j) u not_there in
    shown_at s' ls j h ∙ ap (λ (waiters : List Waiter). record {
      owner = (get_or ls j blank).owner;
      count = (get_or ls j blank).count;
      waiters = waiters;
    }) ws ∙ sym (shown_at s ls j h)

pub all_shown : (ls : List Listing) (s s' : Slab Waiter) (y : ℕ) (slot : Option Waiter) → Updates s s' y slot
    → ((j : ℕ) → Lists (keys_at ls j) y → ⊥) → monitors_shown s' ls ≡ monitors_shown s ls
all_shown ls s s' y slot u not_there =
    let long : length (monitors_shown s' ls) ≡ length ls = length-map ls (λ (l : Listing). shown s' l) in
    let long' : length (monitors_shown s ls) ≡ length ls = length-map ls (λ (l : Listing). shown s l) in
    ext_get_or unlocked (monitors_shown s' ls) (monitors_shown s ls) (long ∙ sym long')
    (λ j h. let within : j < length ls = rw long at h in same_shown ls s s' y j slot within u (not_there j))

-- ---- a waiter joins

pub listed_joined : (ls : List Listing) (s s' : Slab Waiter) (i y : ℕ) (l l' : Listing) (w : Waiter) → AreListed ls s
    → Updates s s' y (Some w) → get s y ≡ None
    → get_or ls i blank ≡ l → l' ≡ record l { keys = l.keys ++ y ∷ [] } → AreListed (set ls i l') s'
listed_joined ls s s' i y l l' w a u vacant at is =
    listed_more ls (set ls i l') s s' i y w a u vacant
    (λ j k h. elim (keys_after_set ls i j l' k h) [
      | inl old ↦ inl old
      | inr new ↦
          let its : Lists (l.keys ++ y ∷ []) k = subst (λ (x : Listing). Lists x.keys k) is new.1 in
          elim (Lists-push l.keys y k its) [
            | inl was ↦ inl (subst (λ (m : ℕ). Lists (keys_at ls m) k) (sym new.0)
                (subst (λ (x : Listing). Lists x.keys k) (sym at) was))
            | inr e ↦ inr (new.0, e)
          ]
    ])
    (λ j. distinct_after_set ls i j l' (a.distinct j) (subst (λ (x : Listing). AreDistinct x.keys) (sym is)
    (distinct-push l.keys y (subst (λ (x : Listing). AreDistinct x.keys) at (a.distinct i))
    (λ h. unlisted ls s y i a vacant (subst (λ (x : Listing). Lists x.keys y) (sym at) h)))))

pub shown_joined : (ls : List Listing) (s s' : Slab Waiter) (i y : ℕ) (l l' : Listing) (w : Waiter) → AreListed ls s
    → Updates s s' y (Some w) → get s y ≡ None
    → i < length ls → get_or ls i blank ≡ l → l' ≡ record l { keys = l.keys ++ y ∷ [] }
    → monitors_shown s' (set ls i l') ≡ set (monitors_shown s ls)
    i (record (monitor_at (monitors_shown s ls) i) { waiters = (monitor_at (monitors_shown s ls) i).waiters ++ w ∷ [] })
shown_joined ls s s' i y l l' w a u vacant h at is =
    let not_there : (j : ℕ) → Lists (keys_at ls j) y → ⊥ = λ j. unlisted ls s y j a vacant in
    let old : map (waiter_at s') l.keys ≡ map (waiter_at s) l.keys =
    same_waiters s s' y (Some w) l.keys u (λ k. not_there i (subst (λ (x : Listing). Lists x.keys y) (sym at) k)) in
    let new : map (waiter_at s') (l.keys ++ y ∷ []) ≡ map (waiter_at s) l.keys ++ w ∷ [] =
    map_push (waiter_at s') l.keys y ∙ rw (old, u.changed) refl in
    let m : monitor_at (monitors_shown s ls) i ≡ shown s l = shown_at s ls i h ∙ ap (shown s) at in
    map-set (λ (x : Listing). shown s' x) ls i l' ∙ rw (all_shown ls s s' y (Some w) u not_there, is, new, m) refl

-- ---- a record with one waiter is added

pub listed_added : (ls : List Listing) (s s' : Slab Waiter) (y : ℕ) (l : Listing) (w : Waiter) → AreListed ls s
    → Updates s s' y (Some w)
    → get s y ≡ None → l.keys ≡ y ∷ [] → AreListed (ls ++ l ∷ []) s'
listed_added ls s s' y l w a u vacant is =
    listed_more ls (ls ++ l ∷ []) s s' (length ls) y w a u vacant
    (λ j k h. elim (keys_after_push ls l j k h) [
      | inl old ↦ inl old
      | inr new ↦ inr (new.0, alone k (subst (λ (keys : List ℕ). Lists keys k) is new.1))
    ])
    (λ j. distinct_after_push ls l j (a.distinct j) (subst (λ (keys : List ℕ). AreDistinct keys) (sym is) (λ h. h, tt)))
  where
    alone : (k : ℕ) → Lists (y ∷ []) k → y ≡ k
    alone k (inl e) = e
    alone k (inr h) = absurd h

pub shown_added : (ls : List Listing) (s s' : Slab Waiter) (y : ℕ) (l : Listing) (w : Waiter) → AreListed ls s
    → Updates s s' y (Some w)
    → get s y ≡ None
    → l ≡ record { owner = None; count = 0; keys = y ∷ [] }
    → monitors_shown s' (ls ++ l ∷ []) ≡ monitors_shown s ls
    ++ record { owner = None; count = 0; waiters = w ∷ [] } ∷ []
shown_added ls s s' y l w a u vacant is =
    map_push (λ (x : Listing). shown s' x) ls l
    ∙ rw (all_shown ls s s' y (Some w) u (λ j. unlisted ls s y j a vacant), is, u.changed) refl

-- ---- a waiter leaves

-- every key that is still listed was, and is another
pub keys_left : (ls : List Listing) (s : Slab Waiter) (i p y : ℕ) (l l' : Listing) → AreListed ls s
    → get_or ls i blank ≡ l → p < length l.keys → y ≡ get_or l.keys p 0 → l' ≡ record l { keys = remove l.keys p }
    → (j k : ℕ) → Lists (keys_at (set ls i l') j) k → Lists (keys_at ls j) k × (k ≡ y → ⊥)
keys_left ls s i p y l l' a at h key is j k listed =
    let once : AreDistinct l.keys = subst (λ (x : Listing). AreDistinct x.keys) at (a.distinct i) in
    let here : Lists (keys_at ls i) y = subst (λ (x : Listing). Lists x.keys y) (sym at)
    (subst (λ (k : ℕ). Lists l.keys k) (sym key) (Lists-at l.keys p 0 h)) in
    elim (keys_elsewhere ls i j l' k listed) [
      | inl old ↦ (old.1, λ e. old.0 (a.apart j i y (subst (λ (k : ℕ). Lists (keys_at ls j) k) e old.1) here))
      | inr new ↦
          let its : Lists (remove l.keys p) k = subst (λ (x : Listing). Lists x.keys k) is new.1 in (
            subst (λ (m : ℕ). Lists (keys_at ls m) k) (sym new.0)
                (subst (λ (x : Listing). Lists x.keys k) (sym at) (Lists-remove l.keys p k its)),
            λ e. removed_gone l.keys p 0 once h (subst (λ (k : ℕ). Lists (remove l.keys p) k) (e ∙ key) its),
          )
    ]

pub listed_left : (ls : List Listing) (s s' : Slab Waiter) (i p y : ℕ) (l l' : Listing) → AreListed ls s
    → Updates s s' y None
    → get_or ls i blank ≡ l → p < length l.keys → y ≡ get_or l.keys p 0 → l' ≡ record l { keys = remove l.keys p }
    → AreListed (set ls i l') s'
listed_left ls s s' i p y l l' a u at h key is =
    let once : AreDistinct l.keys = subst (λ (x : Listing). AreDistinct x.keys) at (a.distinct i) in
    record {
      present = λ j k listed.
          let was : Lists (keys_at ls j) k × (k ≡ y → ⊥) = keys_left ls s i p y l l' a at h key is j k listed in
          subst (λ (o : Option Waiter). IsSome o) (sym (u.others k was.1)) (a.present j k was.0);
      apart = λ j m k f g. a.apart j m k (keys_left ls s i p y l l' a at h key is j k f).0
          (keys_left ls s i p y l l' a at h key is m k g).0;
      distinct = λ j. distinct_after_set ls i j l' (a.distinct j)
          (subst (λ (x : Listing). AreDistinct x.keys) (sym is) (distinct-remove l.keys p once));
    }

pub present_at : (ls : List Listing) (s : Slab Waiter) (i p y : ℕ) (l : Listing) → AreListed ls s
    → get_or ls i blank ≡ l
    → p < length l.keys → y ≡ get_or l.keys p 0 → IsSome (get s y)
present_at ls s i p y l a at h key =
    a.present i y (subst (λ (x : Listing). Lists x.keys y) (sym at)
    (subst (λ (k : ℕ). Lists l.keys k) (sym key) (Lists-at l.keys p 0 h)))

pub shown_left : (ls : List Listing) (s s' : Slab Waiter) (i p y : ℕ) (l l' : Listing) → AreListed ls s
    → Updates s s' y None
    → i < length ls → get_or ls i blank ≡ l → p < length l.keys → y ≡ get_or l.keys p 0
    → l' ≡ record l { keys = remove l.keys p }
    → monitors_shown s' (set ls i l') ≡ set (monitors_shown s ls)
    i (record (monitor_at (monitors_shown s ls) i) { waiters = remove (monitor_at (monitors_shown s ls) i).waiters p })
shown_left ls s s' i p y l l' a u h at within key is =
    let once : AreDistinct l.keys = subst (λ (x : Listing). AreDistinct x.keys) at (a.distinct i) in
    let here : Lists (keys_at ls i) y = subst (λ (x : Listing). Lists x.keys y) (sym at)
    (subst (λ (k : ℕ). Lists l.keys k) (sym key) (Lists-at l.keys p 0 within)) in
    let rest : map (waiter_at s') (remove l.keys p) ≡ map (waiter_at s) (remove l.keys p) =
    same_waiters s s' y None (remove l.keys p) u (λ k. removed_gone l.keys p 0 once within
    (subst (λ (k : ℕ). Lists (remove l.keys p) k) key k)) in
    let new : map (waiter_at s') (remove l.keys p) ≡ remove (map (waiter_at s) l.keys) p = rest
    ∙ map-remove (waiter_at s) l.keys p in
    let m : monitor_at (monitors_shown s ls) i ≡ shown s l = shown_at s ls i h ∙ ap (shown s) at in
    let long : length (monitors_shown s' ls) ≡ length ls = length-map ls (λ (x : Listing). shown s' x) in
    let long' : length (monitors_shown s ls) ≡ length ls = length-map ls (λ (x : Listing). shown s x) in
    let others : set (monitors_shown s' ls) i (shown s' l') ≡ set (monitors_shown s ls) i (shown s' l') =
    set_agree unlocked (monitors_shown s' ls) (monitors_shown s ls) i (shown s' l') (long ∙ sym long')
    (λ j in_range ne. let there : j < length ls = rw long at in_range in
    same_shown ls s s' y j None there u (λ k. ne (a.apart j i y k here))) in
    map-set (λ (x : Listing). shown s' x) ls i l' ∙ others ∙ rw (is, new, m) refl

-- ---- an owner is written

pub shown_owned : (ls : List Listing) (s : Slab Waiter) (i : ℕ) (l l' : Listing) (owner : Option ℕ) (count : ℕ)
    → i < length ls → get_or ls i blank ≡ l → l' ≡ record l { owner = owner; count = count }
    → monitors_shown s (set ls i l') ≡ set (monitors_shown s ls)
    i (record (monitor_at (monitors_shown s ls) i) { owner = owner; count = count })
shown_owned ls s i l l' owner count h at is =
    let m : monitor_at (monitors_shown s ls) i ≡ shown s l = shown_at s ls i h ∙ ap (shown s) at in
    map-set (λ (x : Listing). shown s x) ls i l' ∙ rw (is, m) refl

pub listing_in_range : (s : Slab Waiter) (ls : List Listing) (v : List Monitor) (i : ℕ) → monitors_shown s ls ≡ v
    → i < length v
    → i < length ls
listing_in_range s ls v i e h = rw (← e, length-map ls (λ (x : Listing). shown s x)) at h

pub member_in_range : (s : Slab Waiter) (ls : List Listing) (v : List Monitor) (i p : ℕ) (l : Listing)
    → monitors_shown s ls ≡ v
    → i < length ls → get_or ls i blank ≡ l
    → p < length (monitor_at v i).waiters → p < length l.keys
member_in_range s ls v i p l e h at within =
    let m : monitor_at v i ≡ shown s l = ap (λ (ms : List Monitor). monitor_at ms i) (sym e) ∙ shown_at s ls i h
    ∙ ap (shown s) at in
    let long : length (monitor_at v i).waiters ≡ length l.keys = ap (λ (x : Monitor). length x.waiters) m
    ∙ length-map l.keys (waiter_at s) in
    omega (arith, long, within)

pub slice_get-map : (f : ℕ → Waiter) (keys : List ℕ) (p : ℕ)
    → slice_get (map f keys) p ≡ option_map f (slice_get keys p)
slice_get-map f [] p = refl
slice_get-map f (k ∷ keys) zero = refl
slice_get-map f (k ∷ keys) (suc p) = slice_get-map f keys p

pub Lists-got : (keys : List ℕ) (p y : ℕ) → slice_get keys p ≡ Some y → Lists keys y
Lists-got [] p y e = cc
Lists-got (k ∷ keys) zero y e = inl (let same : k ≡ y = cc in same)
Lists-got (k ∷ keys) (suc p) y e = inr (Lists-got keys p y e)

pub waiters_got : (s : Slab Waiter) (ls : List Listing) (v : List Monitor) (i p : ℕ) (l : Listing)
    → monitors_shown s ls ≡ v
    → i < length ls → get_or ls i blank ≡ l
    → slice_get (monitor_at v i).waiters p ≡ option_map (waiter_at s) (slice_get l.keys p)
waiters_got s ls v i p l e h at =
    let m : monitor_at v i ≡ shown s l = ap (λ (ms : List Monitor). monitor_at ms i) (sym e) ∙ shown_at s ls i h
    ∙ ap (shown s) at in
    ap (λ (x : Monitor). slice_get x.waiters p) m ∙ slice_get-map (waiter_at s) l.keys p

pub waiter_is : (s : Slab Waiter) (ls : List Listing) (v : List Monitor) (i p y : ℕ) (l : Listing) → AreListed ls s
    → monitors_shown s ls ≡ v → i < length ls → get_or ls i blank ≡ l
    → slice_get l.keys p ≡ Some y → get s y ≡ slice_get (monitor_at v i).waiters p
waiter_is s ls v i p y l a e h at key =
    let there : Lists (keys_at ls i) y = subst (λ (x : Listing). Lists x.keys y) (sym at) (Lists-got l.keys p y key) in
    some_is (get s y) (a.present i y there) ∙ sym (waiters_got s ls v i p l e h at ∙ ap (option_map (waiter_at s)) key)

pub no_waiter : (s : Slab Waiter) (ls : List Listing) (v : List Monitor) (i p : ℕ) (l : Listing)
    → monitors_shown s ls ≡ v → i < length ls
    → get_or ls i blank ≡ l
    → slice_get l.keys p ≡ None → None ≡ slice_get (monitor_at v i).waiters p
no_waiter s ls v i p l e h at none = sym (waiters_got s ls v i p l e h at ∙ ap (option_map (waiter_at s)) none)
