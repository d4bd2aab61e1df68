use Rattle.std.proofs.Common.{◌≡◌, ◌<◌, length, get_or}
use Rattle.heap.proofs.monitor.Listed.{blank, shown_owned, read_listing, listing_in_range}
use Rattle.heap.proofs.monitor.records.Records.set_owner.Goals as goal

pub returns : goal.returns
returns c =
    let there : c.args.index < length c.self.inside.listings.items =
    listing_in_range c.self.inside.waiters c.self.inside.listings.items _ _ c.self.view_is c.requires in
    let at : get_or c.self.inside.listings.items c.args.index blank ≡ c.index_mut.result.now =
    read_listing _ _ _ there c.index_mut.ensures.value in
    rw (← c.self.view_is) (shown_owned c.self.inside.listings.items c.self.inside.waiters c.args.index
    c.index_mut.result.now c.set_owner.new.self _ _ there at c.set_owner.ensures)
