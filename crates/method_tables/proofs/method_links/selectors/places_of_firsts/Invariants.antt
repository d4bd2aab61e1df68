use Rattle.std.proofs.Common.{◌≡◌, map, take}
use Rattle.constant_pool.specs.Texts.{first_place, HasPlaces}
use Rattle.method_tables.proofs.method_links.selectors.places_of_firsts.Given as goal

abbrev pub invariant-loop-here : goal.invariant-loop-here
invariant-loop-here l =
    let all = map (λ t. t.now) l.texts in
    record {
      firsts : l.firsts.items ≡ map (first_place all) (take l.here all);
      seen : HasPlaces all l.here l.seen;
    }
