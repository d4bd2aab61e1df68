use Rattle.std.proofs.Common.{[], option_map, ap, ◌∙◌, arith}
use Rattle.search_laws.specs.Waits.{MonitorOf}
use Rattle.waiting_circles.proofs.needs.Framed.{full, room}
use Rattle.waiting_circles.proofs.needs.begins.first_need.Goals as goal

pub returns-then-frames-eq0 : goal.returns-then-frames-eq0
returns-then-frames-eq0 c = λ trees t world. full trees c.args.frames t world [] c.args.entered (omega arith)

pub returns-in-Some : goal.returns-in-Some
returns-in-Some c = λ trees t world. room trees c.args.frames t world [] c.args.entered (omega arith) ∙ ap (option_map MonitorOf) c.in-Some.is

pub returns-in-None : goal.returns-in-None
returns-in-None c = λ trees t world. room trees c.args.frames t world [] c.args.entered (omega arith) ∙ ap (option_map MonitorOf) c.in-None.is
