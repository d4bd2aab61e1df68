use Rattle.std.proofs.Common.{◌++◌, sym, ap, subst, ◌∙◌}
use Rattle.state_actions.specs.wait_ends.Ends.{TellsEnd}
use Rattle.race_actions.specs.event_actions.Told.{AreLocked, found_in}
use Rattle.race_actions.proofs.event_actions.Adding.{not_looked, nobody_looked}
use Rattle.race_actions.proofs.event_actions.Telling.{all_told}
use Rattle.race_actions.proofs.event_actions.EventActions.tell.Goals as goal

pub returns-in_default-clause-told : goal.returns-in_default-clause-told
returns-in_default-clause-told c = not_looked c.args.self.now c.args.shared.now c.args.thread _ c.in_default.is

pub returns-in_default-stack_of-clause-told : goal.returns-in_default-stack_of-clause-told
returns-in_default-stack_of-clause-told c = nobody_looked c.threads_are_added.ensures.holds c.args.self.now c.args.shared.now c.args.thread _ c.in_default-stack_of.ensures

pub returns-clause-told : goal.returns-clause-told
returns-clause-told c =
    all_told c.classes_are_kept.ensures.holds c.threads_are_added.ensures.holds c.ends_wake_waiters.ensures.holds c.entries_tell_owners.ensures.holds c.entries_mean_none.ensures.holds
    c.owners_are_kept.ensures.holds c.a_step_is_carried.ensures.holds c.args.self.now c.args.shared.now c.args.thread c.push_end.new.actions.items
    (λ trees bounds state looked.
    let locked = c.in_ok-push_locked.ensures in
    let left = c.in_ok-push_left.ensures in
    record {
      looked = looked;
      before = c.in-Some.before;
      is = c.in-Some.is;
      stack = c.in-Some-stack_of.stack.now;
      there = sym c.in-Some-stack_of.ensures;
      locked = locked.0;
      are_locked = subst (λ accesses. AreLocked c.args.thread c.args.shared.now.heap.locks.monitors c.in-Some-stack_of.stack.now c.in-Some.before accesses locked.0)
          c.deref.ensures.value locked.2;
      left = left.0;
      are_left = left.2;
      front = c.push_left.new.actions.items;
      front_is = left.1 ∙ ap (λ l. l ++ left.0) (locked.1 ∙ ap (λ l. l ++ locked.0) (c.in_ok-push_found.ensures ∙ ap (λ l. l ++ found_in c.in-Some.before) c.clear.ensures.items));
      ends = subst (λ waiting. TellsEnd c.args.thread waiting c.args.shared.now.threads.threads c.push_left.new.actions.items c.push_end.new.actions.items)
          c.deref-2.ensures.value c.in_ok-push_end.ensures;
    })
