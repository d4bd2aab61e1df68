use Rattle.std.proofs.Common.{◌≡◌, ◌<◌, ◌∷◌, ◌++◌, [], ℕ, length, get_or, sym, ◌∙◌, ap}
use Rattle.heap.proofs.monitor.Listed.{blank, listed_joined, shown_joined, updates_from, vacant_from, read_listing}
use Rattle.heap.proofs.monitor.Listed.{listing_in_range}
use Rattle.heap.proofs.monitor.records.Records.join.Goals as goal

pub invariant_of-self-2 : goal.invariant_of-self-2
invariant_of-self-2 c =
    let there : c.args.index < length c.self.inside.listings.items =
    listing_in_range c.self.inside.waiters c.self.inside.listings.items _ _ c.self.view_is c.requires in
    let at : get_or c.self.inside.listings.items c.args.index blank ≡ c.index_mut.result.now =
    read_listing _ _ _ there c.index_mut.ensures.value in
    let key : c.vacant_key-key.result ≡ c.insert_reserved.result = c.vacant_key-key.ensures.value
    ∙ sym c.insert_reserved.ensures.key in
    listed_joined c.self.inside.listings.items c.self.inside.waiters c.insert_reserved.new.self c.args.index
    c.insert_reserved.result c.index_mut.result.now c.push.new.self c.args.waiter
    c.self.invariant (updates_from c.self.inside.waiters c.reserve.new.self _ _ _ c.in_ok-reserve.ensures.rest_kept
    c.insert_reserved.ensures.updates)
    (vacant_from c.self.inside.waiters c.reserve.new.self _ c.in_ok-reserve.ensures.rest_kept
    c.insert_reserved.ensures.was_vacant)
    at (c.in_ok-push.ensures.ok ∙ ap (λ (k : ℕ). record c.index_mut.result.now {
      keys = c.index_mut.result.now.keys
          ++ k ∷ [];
    }) key)

pub returns-clause-ok : goal.returns-clause-ok
returns-clause-ok c =
    let there : c.args.index < length c.self.inside.listings.items =
    listing_in_range c.self.inside.waiters c.self.inside.listings.items _ _ c.self.view_is c.requires in
    let at : get_or c.self.inside.listings.items c.args.index blank ≡ c.index_mut.result.now =
    read_listing _ _ _ there c.index_mut.ensures.value in
    let key : c.vacant_key-key.result ≡ c.insert_reserved.result = c.vacant_key-key.ensures.value
    ∙ sym c.insert_reserved.ensures.key in
    rw (← c.self.view_is) (shown_joined c.self.inside.listings.items c.self.inside.waiters c.insert_reserved.new.self
    c.args.index c.insert_reserved.result c.index_mut.result.now c.push.new.self c.args.waiter
    c.self.invariant (updates_from c.self.inside.waiters c.reserve.new.self _ _ _ c.in_ok-reserve.ensures.rest_kept
    c.insert_reserved.ensures.updates)
    (vacant_from c.self.inside.waiters c.reserve.new.self _ c.in_ok-reserve.ensures.rest_kept
    c.insert_reserved.ensures.was_vacant)
    there at (c.in_ok-push.ensures.ok ∙ ap (λ (k : ℕ). record
    c.index_mut.result.now { keys = c.index_mut.result.now.keys ++ k ∷ [] }) key))
