use Rattle.std.proofs.Common.{ap}
use Rattle.model.specs.ClassInitialisation.{is_held}
use Rattle.machine.proofs.thread_standings.classes.is_held.Goals as goal

pub returns-in-Held : goal.returns-in-Held
returns-in-Held c = λ trees p bounds world program r class at. ap is_held (c.in-Held.ensures trees p bounds world program r class at)

pub returns-in-Ready : goal.returns-in-Ready
returns-in-Ready c = λ trees p bounds world program r class at. ap is_held (c.in-Ready.ensures trees p bounds world program r class at)

pub returns-in-New : goal.returns-in-New
returns-in-New c = λ trees p bounds world program r class at. ap is_held (c.in-New.ensures trees p bounds world program r class at)

pub returns-in-Failed : goal.returns-in-Failed
returns-in-Failed c = λ trees p bounds world program r class at. ap is_held (c.in-Failed.ensures trees p bounds world program r class at)
