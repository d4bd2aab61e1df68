use Rattle.std.proofs.Common.{true, false, refl}
use Rattle.machine_state.specs.declared.class_initialisation.statuses.ClassLook.TheVariants as look
use Rattle.race_actions.proofs.finds.Finding.{class_ready}
use Rattle.race_actions.proofs.finds.is_class_ready.Goals as goal

pub returns-in-Ready : goal.returns-in-Ready
returns-in-Ready c = class_ready c.args.shared.now c.args.thread c.args.class look.Ready c.in-Ready.ensures true refl

pub returns-in-New : goal.returns-in-New
returns-in-New c = class_ready c.args.shared.now c.args.thread c.args.class look.New c.in-New.ensures false refl

pub returns-in-Held : goal.returns-in-Held
returns-in-Held c = class_ready c.args.shared.now c.args.thread c.args.class look.Held c.in-Held.ensures false refl

pub returns-in-Failed : goal.returns-in-Failed
returns-in-Failed c = class_ready c.args.shared.now c.args.thread c.args.class look.Failed c.in-Failed.ensures false refl
