use Rattle.race_places.proofs.numbering.Stays.{next_step, numbers_stay}
use Rattle.race_places.proofs.numbering.Steps.{ok_numbered, err_numbered}
use Rattle.race_places.proofs.numbering.Numbering.step.Goals as goal

pub returns-in-Ok : goal.returns-in-Ok
returns-in-Ok c =
    record {
      numbering = next_step c.args.action c.args.self.now c.action.new.self c.in-Ok.numbered c.step_of.result c.step_of.ensures
          (ok_numbered c.action.result c.in-Ok.numbered c.args.action.action c.args.self.now c.action.new.self c.in-Ok.is c.action.ensures);
    }

pub returns-in-Err : goal.returns-in-Err
returns-in-Err c =
    record {
      numbering = numbers_stay c.args.self.now c.action.new.self
          (err_numbered c.action.result c.in-Err.fault c.args.action.action c.args.self.now c.action.new.self c.in-Err.is c.action.ensures);
    }
