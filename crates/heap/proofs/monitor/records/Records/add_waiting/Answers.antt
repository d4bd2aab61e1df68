use Rattle.std.proofs.Common.{◌≡◌, ◌∷◌, ◌++◌, [], ℕ, List, None, sym, ◌∙◌, ap}
use Rattle.heap.proofs.monitor.Listed.{listed_added, shown_added, updates_from, vacant_from}
use Rattle.heap.proofs.monitor.records.Records.add_waiting.Goals as goal

pub invariant_of-self-2 : goal.invariant_of-self-2
invariant_of-self-2 c =
    let key : c.vacant_key.result ≡ c.insert_reserved.result = c.vacant_key.ensures.value
    ∙ sym c.insert_reserved.ensures.key in
    let keys : c.push.new.self.items ≡ c.insert_reserved.result ∷ [] = c.in_ok-push.ensures.items
    ∙ ap (λ (ks : List ℕ). ks ++ c.vacant_key.result ∷ []) c.in_ok-keys.ensures.items ∙ ap (λ (k : ℕ). k ∷ []) key
    in
    rw c.in_ok-push-2.ensures.items (listed_added c.self.inside.listings.items c.self.inside.waiters
    c.insert_reserved.new.self c.insert_reserved.result _ c.args.waiter
    c.self.invariant (updates_from c.self.inside.waiters c.reserve.new.self _ _ _ c.in_ok-reserve.ensures.rest_kept
    c.insert_reserved.ensures.updates)
    (vacant_from c.self.inside.waiters c.reserve.new.self _ c.in_ok-reserve.ensures.rest_kept
    c.insert_reserved.ensures.was_vacant) keys)

pub returns-clause-ok : goal.returns-clause-ok
returns-clause-ok c =
    let key : c.vacant_key.result ≡ c.insert_reserved.result = c.vacant_key.ensures.value
    ∙ sym c.insert_reserved.ensures.key in
    let keys : c.push.new.self.items ≡ c.insert_reserved.result ∷ [] = c.in_ok-push.ensures.items
    ∙ ap (λ (ks : List ℕ). ks ++ c.vacant_key.result ∷ []) c.in_ok-keys.ensures.items ∙ ap (λ (k : ℕ). k ∷ []) key
    in
    rw (← c.self.view_is, c.in_ok-push-2.ensures.items) (shown_added c.self.inside.listings.items c.self.inside.waiters
    c.insert_reserved.new.self c.insert_reserved.result _ c.args.waiter
    c.self.invariant (updates_from c.self.inside.waiters c.reserve.new.self _ _ _ c.in_ok-reserve.ensures.rest_kept
    c.insert_reserved.ensures.updates)
    (vacant_from c.self.inside.waiters c.reserve.new.self _ c.in_ok-reserve.ensures.rest_kept
    c.insert_reserved.ensures.was_vacant)
    (ap (λ (ks : List ℕ). record { owner = None; count = 0; keys = ks }) keys))
