use Rattle.std.proofs.Common.{arith, ap, length, refl}
use Rattle.types.proofs.subclass_table.Growing.{none_of, of_more, all_more, count_more, few_more}
use Rattle.types.proofs.subclass_table.columns.columns_of.Goals as goal

pub loop-class-init : goal.loop-class-init
loop-class-init c = record {
  count = ap length c.new.ensures.items;
  few = omega (arith, ap length c.new-2.ensures.items);
  of = none_of c.new.result.items c.new-2.result.items c.new.ensures.items;
  all = λ class less. absurd (omega (arith, less));
}

pub add_class-requires : goal.add_class-requires
add_class-requires c = omega (arith, c.loop-class.invariant.few)

pub loop-class-preserved : goal.loop-class-preserved
loop-class-preserved c =
    let columns = c.loop-class.columns.by_class.items in
    let classes = c.loop-class.columns.classes.items in
    let n = c.loop-class.class in
    let inv = c.loop-class.invariant in
    record {
      count = count_more columns classes n _ inv.count c.add_class.new.columns.by_class.items c.in_ok-add_class.ensures.by_class;
      few = few_more columns classes n _ inv.count c.add_class.new.columns.classes.items c.in_ok-add_class.ensures.classes inv.few;
      of = of_more columns classes n _ inv.count c.add_class.new.columns.by_class.items c.add_class.new.columns.classes.items c.in_ok-add_class.ensures.by_class c.in_ok-add_class.ensures.classes inv.of;
      all = all_more columns classes n _ inv.count c.args.marks.now c.add_class.new.columns.by_class.items c.in_ok-add_class.ensures.by_class refl inv.all;
    }

pub returns-clause-columns : goal.returns-clause-columns
returns-clause-columns c = record {
  of = c.loop-class.invariant.of;
  all = λ class less. c.loop-class.invariant.all class (omega (arith, less, c.loop-class-test.false));
}

pub returns-clause-few : goal.returns-clause-few
returns-clause-few c = omega (arith, c.loop-class.invariant.few, c.loop-class.auto.class-end, c.requires)
