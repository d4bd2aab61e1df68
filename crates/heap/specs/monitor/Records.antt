-- How the records of fat locks and the slab of their waiters show monitors. No public clause cites this module.
use Rattle.std.specs.Prelude.{◌≡◌, ◌⊎◌, ℕ, List, [], ◌∷◌, map, Option, Some, None, IsSome, slice_index_or}
use Rattle.slab.specs.Slab.{Slab, get}
use Rattle.model.specs.State.{Monitor, Waiter}

-- an owner, its entries, and the keys of the waiters in joining order
pub record Listing : Type 0 where
  pub owner : Option ℕ
  pub count : ℕ
  pub keys : List ℕ

abbrev pub waiter_or : Option Waiter → Waiter
waiter_or (Some waiter) = waiter
waiter_or None = record { thread = 0; count = 0 }

abbrev pub waiter_at : Slab Waiter → ℕ → Waiter
waiter_at slab key = waiter_or (get slab key)

abbrev pub shown : Slab Waiter → Listing → Monitor
shown slab listing =
    record { owner = listing.owner; count = listing.count; waiters = map (waiter_at slab) listing.keys }

abbrev pub monitors_shown : Slab Waiter → List Listing → List Monitor
monitors_shown slab listings = map (λ (listing : Listing). shown slab listing) listings

abbrev pub keys_at : List Listing → ℕ → List ℕ
keys_at listings index = (slice_index_or listings index (record { owner = None; count = 0; keys = [] })).keys

abbrev pub Lists : List ℕ → ℕ → Type 0
Lists [] key = ⊥
Lists (first ∷ keys) key = (first ≡ key) ⊎ Lists keys key

abbrev pub AreDistinct : List ℕ → Type 0
AreDistinct [] = Unit {0}
AreDistinct (first ∷ keys) = (Lists keys first → ⊥) × AreDistinct keys

-- each key that is listed has a waiter, and is listed once
pub record AreListed (listings : List Listing) (slab : Slab Waiter) : Type 0 where
  pub present : (index key : ℕ) → Lists (keys_at listings index) key → IsSome (get slab key)
  pub apart : (index other key : ℕ) → Lists (keys_at listings index) key → Lists (keys_at listings other) key
      → index ≡ other
  pub distinct : (index : ℕ) → AreDistinct (keys_at listings index)
