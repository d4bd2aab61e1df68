use Rattle.std.proofs.Common.{◌≡◌, ◌<◌, ◌∙◌, sym, length, get_or}
use Rattle.heap.proofs.monitor.Listed.{blank, waiter_is, no_waiter, read_listing, listing_in_range}
use Rattle.heap.proofs.monitor.records.Records.waiter.Goals as goal

pub returns-in-Some : goal.returns-in-Some
returns-in-Some c =
    let there : c.args.index < length c.self.inside.listings.items =
    listing_in_range c.self.inside.waiters c.self.inside.listings.items _ _ c.self.view_is c.requires in
    let at : get_or c.self.inside.listings.items c.args.index blank ≡ c.index-listing.result.now =
    read_listing _ _ _ there c.index-listing.ensures in
    c.copied.ensures ∙ c.get.ensures ∙ waiter_is c.self.inside.waiters c.self.inside.listings.items c.args.self.now
    c.args.index c.args.pick c.in-Some.key c.index-listing.result.now
    c.self.invariant c.self.view_is there at (sym c.in-Some.ensures)

pub returns-in-None : goal.returns-in-None
returns-in-None c =
    let there : c.args.index < length c.self.inside.listings.items =
    listing_in_range c.self.inside.waiters c.self.inside.listings.items _ _ c.self.view_is c.requires in
    let at : get_or c.self.inside.listings.items c.args.index blank ≡ c.index-listing.result.now =
    read_listing _ _ _ there c.index-listing.ensures in
    no_waiter c.self.inside.waiters c.self.inside.listings.items c.args.self.now c.args.index c.args.pick
    c.index-listing.result.now c.self.view_is there at (sym c.in-None.ensures)
