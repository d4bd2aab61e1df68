use Rattle.std.proofs.Common.{◌≡◌, ◌<◌, length, get_or}
use Rattle.heap.proofs.monitor.Listed.{blank, listed_left, shown_left, present_at, read_listing, listing_in_range}
use Rattle.heap.proofs.monitor.Listed.{member_in_range}
use Rattle.heap.proofs.monitor.records.Records.leave.Goals as goal

pub remove-requires : goal.remove-requires
remove-requires c =
    let there : c.args.index < length c.self.inside.listings.items =
    listing_in_range c.self.inside.waiters c.self.inside.listings.items _ _ c.self.view_is c.requires.there in
    let at : get_or c.self.inside.listings.items c.args.index blank ≡ c.index_mut.result.now =
    read_listing _ _ _ there c.index_mut.ensures.value in
    present_at c.self.inside.listings.items c.self.inside.waiters c.args.index c.args.pick c.remove-key.result
    c.index_mut.result.now c.self.invariant at
    (member_in_range c.self.inside.waiters c.self.inside.listings.items c.args.self.now c.args.index c.args.pick
    c.index_mut.result.now c.self.view_is there at c.requires.member) c.remove-key.ensures.key

pub invariant_of-self : goal.invariant_of-self
invariant_of-self c =
    let there : c.args.index < length c.self.inside.listings.items =
    listing_in_range c.self.inside.waiters c.self.inside.listings.items _ _ c.self.view_is c.requires.there in
    let at : get_or c.self.inside.listings.items c.args.index blank ≡ c.index_mut.result.now =
    read_listing _ _ _ there c.index_mut.ensures.value in
    listed_left c.self.inside.listings.items c.self.inside.waiters c.remove.new.self c.args.index c.args.pick
    c.remove-key.result c.index_mut.result.now c.remove-key.new.self
    c.self.invariant c.remove.ensures.updates at
    (member_in_range c.self.inside.waiters c.self.inside.listings.items c.args.self.now c.args.index c.args.pick
    c.index_mut.result.now c.self.view_is there at c.requires.member)
    c.remove-key.ensures.key c.remove-key.ensures.rest

pub returns : goal.returns
returns c =
    let there : c.args.index < length c.self.inside.listings.items =
    listing_in_range c.self.inside.waiters c.self.inside.listings.items _ _ c.self.view_is c.requires.there in
    let at : get_or c.self.inside.listings.items c.args.index blank ≡ c.index_mut.result.now =
    read_listing _ _ _ there c.index_mut.ensures.value in
    rw (← c.self.view_is) (shown_left c.self.inside.listings.items c.self.inside.waiters c.remove.new.self c.args.index
    c.args.pick c.remove-key.result c.index_mut.result.now c.remove-key.new.self
    c.self.invariant c.remove.ensures.updates there at
    (member_in_range c.self.inside.waiters c.self.inside.listings.items c.args.self.now c.args.index c.args.pick
    c.index_mut.result.now c.self.view_is there at c.requires.member)
    c.remove-key.ensures.key c.remove-key.ensures.rest)
