use Rattle.std.proofs.Common.{◌≡◌, ◌≤◌, ◌<◌, ◌+◌, ◌*◌, ◌-◌, ◌^◌, ap, map, rules, subst, sym, arith}
use Rattle.model.specs.Schedule.{events_of}
use Rattle.sweeps.specs.Shown.{shown_in}
use Rattle.sweeps.specs.Tallies.{AreFew, TallyOf, same_in}
use Rattle.sweeps.proofs.Tallying.{few_up_to, room_with}
use Rattle.sweeps.proofs.tallies.Tally.add.Goals as goal

pub count-requires : goal.count-requires
count-requires c = few_up_to _ _ _ c.self.invariant.runs c.self.invariant.counts

pub invariant_of-self : goal.invariant_of-self
invariant_of-self c = record {
  runs = c.self.invariant.runs;
  counts = subst (λ l. AreFew c.self.inside.count (map same_in l)) (sym c.in_err-count.ensures.still) c.self.invariant.counts;
  events = c.self.invariant.events;
}

pub invariant_of-self-2 : goal.invariant_of-self-2
invariant_of-self-2 c =
    let t : TallyOf = record { same = map same_in c.self.inside.same.items; runs = c.self.inside.count; events = c.self.inside.sum } in
    let runs : c.self.inside.count ≡ c.args.self.now.runs = ap (λ (x : TallyOf). x.runs) c.self.view_is in
    let less : c.self.inside.count < 2 ^ 64 = omega (arith, runs, c.requires) in
    let fits : c.args.ran.events < 2 ^ 64 = search rules in
    let room = room_with (shown_in c.args.ran.shown) (events_of c.args.ran.schedule) c.args.ran.events c.args.seed t less fits c.self.invariant in
    record {
      runs = room.runs;
      counts = subst (AreFew (c.self.inside.count + 1)) (sym c.in_ok-count.ensures.counted) room.counts;
      events = subst (λ n. c.self.inside.sum + n ≤ (c.self.inside.count + 1) * (2 ^ 64 - 1)) (sym c.from.ensures) room.events;
    }
