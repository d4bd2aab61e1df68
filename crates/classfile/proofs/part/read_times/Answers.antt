use Rattle.std.proofs.Common.{◌≡◌, ◌++◌, ◌∷◌, [], map}
use Rattle.std.proofs.lemmas.Result.{err_from_is_err_and}
use Rattle.std.proofs.lemmas.List.{map_push}
use Rattle.constant_pool.specs.reading.Reading.{times_at}
use Rattle.constant_pool.proofs.reading.Loop.{times_goes_on, times_ends, times_are_done}
use Rattle.classfile.proofs.part.read_times.Goals as goal

pub returns-in_err-read : goal.returns-in_err-read
returns-in_err-read g c =
    let read = g.T.Part.read_at c.args.pool.now c.args.owner in
    let p = err_from_is_err_and c.from_residual.result c.from_residual.ensures.1 in
    rw (p.1, p.2) (times_ends read c.in_err-read.field-0.0 (map g.T.Part.view c.parts.parts.items) c.args.count c.parts.counter c.parts.reader (times_at read c.args.count c.args.reader.now) c.parts-test.true c.in_err-read.ensures c.parts.invariant)

pub parts-preserved : goal.parts-preserved
parts-preserved g c =
    let read = g.T.Part.read_at c.args.pool.now c.args.owner in
    let e : map g.T.Part.view c.push.new.self.items ≡ map g.T.Part.view c.parts.parts.items ++ g.T.Part.view c.in_ok-read.field-0 ∷ [] = rw c.in_ok-push.ensures.items (map_push _ c.parts.parts.items c.in_ok-read.field-0) in
    rw e (times_goes_on read (map g.T.Part.view c.parts.parts.items) c.args.count c.parts.counter c.parts.reader c.read.new.reader (g.T.Part.view c.in_ok-read.field-0) (times_at read c.args.count c.args.reader.now) c.parts-test.true c.in_ok-read.ensures c.parts.invariant)

pub returns : goal.returns
returns g c =
    let read = g.T.Part.read_at c.args.pool.now c.args.owner in
    times_are_done read (map g.T.Part.view c.parts.parts.items) c.args.count c.parts.counter c.parts.reader (times_at read c.args.count c.args.reader.now) c.parts-test.false c.parts.invariant
