use Rattle.std.proofs.lemmas.Result.{err_from_is_err_and}
use Rattle.schedule.specs.Reading.{many_at, number_at}
use Rattle.schedule.proofs.Laws.{many_count}
use Rattle.schedule.proofs.Loop.{goes_on, ends, is_done}
use Rattle.schedule.proofs.read.read_numbers.Goals as goal

pub returns-in_err-u64-clause-read : goal.returns-in_err-u64-clause-read
returns-in_err-u64-clause-read c =
    let p = err_from_is_err_and c.from_residual.result c.from_residual.ensures.1 in
    rw (p.1, p.2) (ends (number_at 8) c.in_err-u64.field-0.0 c.numbers.numbers.items c.args.count c.numbers.counter c.numbers.reader (many_at (number_at 8) c.args.count c.args.reader.now) c.numbers-test.true c.in_err-u64.ensures c.numbers.invariant)

pub numbers-preserved : goal.numbers-preserved
numbers-preserved c =
    rw c.in_ok-push.ensures.items (goes_on (number_at 8) c.numbers.numbers.items c.args.count c.numbers.counter c.numbers.reader c.u64.new.self c.in_ok-u64.field-0 (many_at (number_at 8) c.args.count c.args.reader.now) c.numbers-test.true c.in_ok-u64.ensures c.numbers.invariant)

pub returns-clause-read : goal.returns-clause-read
returns-clause-read c = is_done (number_at 8) c.numbers.numbers.items c.args.count c.numbers.counter c.numbers.reader (many_at (number_at 8) c.args.count c.args.reader.now) c.numbers-test.false c.numbers.invariant

pub returns-clause-count : goal.returns-clause-count
returns-clause-count c =
    many_count (number_at 8) c.args.count c.args.reader.now c.numbers.numbers.items c.numbers.reader (is_done (number_at 8) c.numbers.numbers.items c.args.count c.numbers.counter c.numbers.reader (many_at (number_at 8) c.args.count c.args.reader.now) c.numbers-test.false c.numbers.invariant)
