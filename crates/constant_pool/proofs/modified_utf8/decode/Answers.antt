use Rattle.std.proofs.Common.{◌+◌, arith}
use Rattle.model.specs.Texts.{decoded}
use Rattle.constant_pool.proofs.Units.{one_unit, none_left}
use Rattle.constant_pool.proofs.modified_utf8.decode.Goals as goal

pub units-preserved : goal.units-preserved
units-preserved c = record {
  within = c.code_unit_at-unit.ensures.within;
  so_far =
      one_unit c.args.bytes.now c.units.at (c.units.at + c.code_unit_at-unit.result.size) c.code_unit_at-unit.result.value (decoded c.args.bytes.now) c.units.text.items c.push.new.self.items
      c.code_unit_at-unit.ensures.spelled c.units.invariant.so_far c.in_ok-push.ensures.items;
}

pub returns : goal.returns
returns c = none_left c.args.bytes.now c.units.at c.units.text.items (decoded c.args.bytes.now) (omega arith) c.units.invariant.so_far
