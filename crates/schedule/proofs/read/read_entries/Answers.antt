use Rattle.std.proofs.lemmas.Result.{err_from_is_err_and}
use Rattle.schedule.specs.Reading.{entry_at, many_at}
use Rattle.schedule.proofs.Loop.{goes_on, ends, is_done}
use Rattle.schedule.proofs.read.read_entries.Goals as goal

pub returns-in_err-read_entry : goal.returns-in_err-read_entry
returns-in_err-read_entry c =
    let p = err_from_is_err_and c.from_residual.result c.from_residual.ensures.1 in
    rw (p.1, p.2) (ends entry_at c.in_err-read_entry.field-0.0 c.entries.entries.items c.args.count c.entries.counter c.entries.reader (many_at entry_at c.args.count c.args.reader.now) c.entries-test.true c.in_err-read_entry.ensures c.entries.invariant)

pub entries-preserved : goal.entries-preserved
entries-preserved c =
    rw c.in_ok-push.ensures.items (goes_on entry_at c.entries.entries.items c.args.count c.entries.counter c.entries.reader c.read_entry.new.reader c.in_ok-read_entry.field-0 (many_at entry_at c.args.count c.args.reader.now) c.entries-test.true c.in_ok-read_entry.ensures c.entries.invariant)

pub returns : goal.returns
returns c = is_done entry_at c.entries.entries.items c.args.count c.entries.counter c.entries.reader (many_at entry_at c.args.count c.args.reader.now) c.entries-test.false c.entries.invariant
