use Rattle.std.proofs.Common.{[], ap, ◌∙◌}
use Rattle.model.specs.Names.{main_of}
use Rattle.model.specs.Classes.{body_of}
use Rattle.model.specs.ClassInitialisation.{Look}
use Rattle.model.specs.Operands.{words}
use Rattle.model.specs.Step.{is_enabled_by, needing, initial_class, main_frame}
use Rattle.machine.proofs.thread_standings.begins.main_may_begin.Goals as goal

pub returns-in_default : goal.returns-in_default
returns-in_default c = λ trees bounds world program r. absurd (c.in_default.ensures trees program)

pub returns-in-Ready : goal.returns-in-Ready
returns-in-Ready c = λ trees bounds world program r.
    c.may_call_main.ensures trees bounds world program r
    ∙ ap (λ (l : Look). is_enabled_by (needing words trees 0 (initial_class trees) l world [] (main_frame words trees c.args.frames world (main_of (initial_class trees)) (body_of trees (main_of (initial_class trees))))))
    (c.in-Ready.ensures trees c.args.program.now bounds world program r (initial_class trees) (c.in-Some.ensures trees program))

pub returns-in-New : goal.returns-in-New
returns-in-New c = λ trees bounds world program r.
    ap (λ (l : Look). is_enabled_by (needing words trees 0 (initial_class trees) l world [] (main_frame words trees c.args.frames world (main_of (initial_class trees)) (body_of trees (main_of (initial_class trees))))))
    (c.in-New.ensures trees c.args.program.now bounds world program r (initial_class trees) (c.in-Some.ensures trees program))

pub returns-in-Held : goal.returns-in-Held
returns-in-Held c = λ trees bounds world program r.
    ap (λ (l : Look). is_enabled_by (needing words trees 0 (initial_class trees) l world [] (main_frame words trees c.args.frames world (main_of (initial_class trees)) (body_of trees (main_of (initial_class trees))))))
    (c.in-Held.ensures trees c.args.program.now bounds world program r (initial_class trees) (c.in-Some.ensures trees program))

pub returns-in-Failed : goal.returns-in-Failed
returns-in-Failed c = λ trees bounds world program r.
    ap (λ (l : Look). is_enabled_by (needing words trees 0 (initial_class trees) l world [] (main_frame words trees c.args.frames world (main_of (initial_class trees)) (body_of trees (main_of (initial_class trees))))))
    (c.in-Failed.ensures trees c.args.program.now bounds world program r (initial_class trees) (c.in-Some.ensures trees program))
