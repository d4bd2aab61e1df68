use Rattle.search.proofs.run_outcomes.Places.{added_none, added_some, still_in_order}
use Rattle.search.proofs.run_outcomes.outcomes.Outcomes.add.Goals as goal

pub returns-in-None : goal.returns-in-None
returns-in-None c = record {
  ok = added_none c.args.self.now c.self.inside.listed.items c.deref.result.now c.args.outcome c.self.view_is c.deref.ensures.value c.in-None.ensures.place;
  err = tt;
}

pub returns-in_ok-insert-in-Some-clause-ok : goal.returns-in_ok-insert-in-Some-clause-ok
returns-in_ok-insert-in-Some-clause-ok c =
    added_some c.args.self.now c.self.inside.listed.items c.deref.result.now c.args.outcome c.self.view_is c.deref.ensures.value c.in-Some.at c.insert.new.self.items c.in-Some.ensures.place
    c.in_ok-insert-in-Some.ensures.items

pub invariant_of-self-in-Some : goal.invariant_of-self-in-Some
invariant_of-self-in-Some c =
    still_in_order c.args.self.now c.self.inside.listed.items c.deref.result.now c.args.outcome c.self.view_is c.deref.ensures.value c.in-Some.at c.insert.new.self.items c.in-Some.ensures.place
    c.in_ok-insert-in-Some.ensures.items c.self.invariant
