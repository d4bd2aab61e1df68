use Rattle.std.proofs.Common.{◌≡◌, ◌+◌, map, take}
use Rattle.constant_pool.specs.View.{entries_of}
use Rattle.constant_pool.specs.Texts.{texts, first_place, HasPlaces}
use Rattle.constant_pool.proofs.first.firsts_of.Given as goal

abbrev pub invariant-constants : goal.invariant-constants
invariant-constants l =
    let all = texts (entries_of l.constants) in
    (l.here ≡ l.constant-index + 1) × (l.firsts.items ≡ map (first_place all) (texts (entries_of (take l.constant-index l.constants)))) × HasPlaces all l.here l.seen
