use Rattle.std.proofs.Common.{refl}
use Rattle.kept_states.proofs.Written.{numbered_read}
use Rattle.kept_states.proofs.reading.read_numbered.Goals as goal

pub returns-clause-numbered : goal.returns-clause-numbered
returns-clause-numbered c =
    numbered_read c.args.parts.now _ c.in_ok-globals.globals c.in_ok-part.field-0.now c.in_ok-objects.objects.now c.in-Some-split_first.thread_numbers.now c.in_ok-flags.flags.now
    c.in_ok-part.ensures c.in_ok-globals.ensures c.in_ok-objects.ensures c.in_ok-flags.ensures c.in_ok-shared.ensures
    refl c.in_ok-objects-2.ensures.items c.in_ok-threads.ensures.items
