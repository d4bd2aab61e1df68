use Rattle.std.proofs.Common.{refl}
use Rattle.kept_states.proofs.Written.{before_stays, made, on_ok_both}
use Rattle.kept_states.proofs.states.KeptStates.write.Goals as goal

pub written_heap-requires : goal.written_heap-requires
written_heap-requires c = before_stays c.args.self.now.parts c.globals_number.new.parts c.args.before c.in_ok-globals.ensures.grows c.requires

pub push_threads-requires : goal.push_threads-requires
push_threads-requires c =
    before_stays c.globals_number.new.parts c.written_heap.new.parts c.args.before c.in_ok-heap.ensures.grows
    (before_stays c.args.self.now.parts c.globals_number.new.parts c.args.before c.in_ok-globals.ensures.grows c.requires)

pub returns : goal.returns
returns c =
    on_ok_both c.push_threads.result _ _ _
    (λ pushed even. made c.args.shared.now c.in_ok-heap.heap c.in_ok-globals.globals c.written_heap.new.numbers.items c.set_two.new.state.items c.globals_number.new.parts c.written_heap.new.parts
    c.args.self.now _ c.in_ok-globals.ensures c.in_ok-heap.ensures c.in_ok-set_two.ensures pushed even refl refl)
    c.push_threads.ensures.pushed c.push_threads.ensures.stacks
