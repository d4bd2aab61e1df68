use Rattle.std.proofs.Common.{refl, take, length}
use Rattle.instruction_types.proofs.operand_types.Rows.{ran_reading, ran_writing}
use Rattle.instruction_types.proofs.operand_types.local.run.Goals as goal

pub returns-in_default : goal.returns-in_default
returns-in_default c =
    let row = c.args.row.now in
    let old = c.args.frame.now in
    let left = take (length row.pushes.now) c.left_by-left.result in
    record {
      ok = λ files. ran_reading files row old (record { locals = old.locals; stack = c.put.new.stack; constructed = old.constructed }) left c.in_default.is refl c.in_ok-put.ensures.ok refl (c.left_by-left.ensures files);
      err = tt;
    }

pub returns : goal.returns
returns c =
    let row = c.args.row.now in
    let old = c.args.frame.now in
    let left = take (length row.pushes.now) c.left_by-left.result in
    record {
      ok = λ files. ran_writing files row old (record { locals = c.set_local.new.locals; stack = c.put-2.new.stack; constructed = old.constructed }) left c.in-Some.write c.out_type-written.result c.in-Some.is c.set_local.ensures
          (c.out_type-written.ensures files) c.in_ok-put-2.ensures.ok refl (c.left_by-left.ensures files);
      err = tt;
    }
