use Rattle.std.proofs.Common.{refl, subst}
use Rattle.race_places.specs.declared.run_actions.Action.TheVariants as action
use Rattle.race_places.specs.run_actions.Order.{monitor_key, start_key, end_key, interrupts_key, cleared_key, wake_key, initialisation_key}
use Rattle.race_places.specs.numbering.Numbers.{IsFound, IsLeft}
use Rattle.race_places.proofs.numbering.Steps.{found_numbered, left_numbered}
use Rattle.race_places.proofs.numbering.Numbering.action.Goals as goal

pub returns-in-Lock : goal.returns-in-Lock
returns-in-Lock c =
    found_numbered c.args.action (action.Lock c.in-Lock.object) (monitor_key c.in-Lock.object) c.in-Lock.is refl refl refl refl refl (λ n. refl) c.found.result c.args.self.now c.found.new.self
    (subst (λ k. IsFound c.found.result k c.args.self.now c.found.new.self) c.key_of.ensures c.found.ensures)

pub returns-in-Unlock : goal.returns-in-Unlock
returns-in-Unlock c =
    left_numbered c.args.action (action.Unlock c.in-Unlock.object) (monitor_key c.in-Unlock.object) c.in-Unlock.is refl refl refl refl refl (λ n. refl) c.left.result c.args.self.now c.left.new.self
    (subst (λ k. IsLeft c.left.result k c.args.self.now c.left.new.self) c.key_of-in-Unlock.ensures c.left.ensures)

pub returns-in-Begin : goal.returns-in-Begin
returns-in-Begin c =
    found_numbered c.args.action (action.Begin c.in-Begin.thread) (start_key c.in-Begin.thread) c.in-Begin.is refl refl refl refl refl (λ n. refl) c.found_of.result c.args.self.now c.found_of.new.self
    c.found_of.ensures

pub returns-in-FindStarted : goal.returns-in-FindStarted
returns-in-FindStarted c =
    found_numbered c.args.action (action.FindStarted c.in-FindStarted.thread) (start_key c.in-FindStarted.thread) c.in-FindStarted.is refl refl refl refl refl (λ n. refl) c.found_of-in-FindStarted.result c.args.self.now c.found_of-in-FindStarted.new.self
    c.found_of-in-FindStarted.ensures

pub returns-in-Start : goal.returns-in-Start
returns-in-Start c =
    left_numbered c.args.action (action.Start c.in-Start.thread) (start_key c.in-Start.thread) c.in-Start.is refl refl refl refl refl (λ n. refl) c.left_of.result c.args.self.now c.left_of.new.self
    c.left_of.ensures

pub returns-in-Finish : goal.returns-in-Finish
returns-in-Finish c =
    left_numbered c.args.action (action.Finish c.in-Finish.thread) (end_key c.in-Finish.thread) c.in-Finish.is refl refl refl refl refl (λ n. refl) c.left_of-in-Finish.result c.args.self.now c.left_of-in-Finish.new.self
    c.left_of-in-Finish.ensures

pub returns-in-FindFinished : goal.returns-in-FindFinished
returns-in-FindFinished c =
    found_numbered c.args.action (action.FindFinished c.in-FindFinished.thread) (end_key c.in-FindFinished.thread) c.in-FindFinished.is refl refl refl refl refl (λ n. refl) c.found_of-in-FindFinished.result c.args.self.now c.found_of-in-FindFinished.new.self
    c.found_of-in-FindFinished.ensures

pub returns-in-Interrupt : goal.returns-in-Interrupt
returns-in-Interrupt c =
    left_numbered c.args.action (action.Interrupt c.in-Interrupt.thread) (interrupts_key c.in-Interrupt.thread) c.in-Interrupt.is refl refl refl refl refl (λ n. refl) c.left_of-in-Interrupt.result c.args.self.now c.left_of-in-Interrupt.new.self
    c.left_of-in-Interrupt.ensures

pub returns-in-FindInterrupted : goal.returns-in-FindInterrupted
returns-in-FindInterrupted c =
    found_numbered c.args.action (action.FindInterrupted c.in-FindInterrupted.thread) (interrupts_key c.in-FindInterrupted.thread) c.in-FindInterrupted.is refl refl refl refl refl (λ n. refl) c.found_of-in-FindInterrupted.result c.args.self.now c.found_of-in-FindInterrupted.new.self
    c.found_of-in-FindInterrupted.ensures

pub returns-in-FindNotInterrupted : goal.returns-in-FindNotInterrupted
returns-in-FindNotInterrupted c =
    found_numbered c.args.action (action.FindNotInterrupted c.in-FindNotInterrupted.thread) (cleared_key c.in-FindNotInterrupted.thread) c.in-FindNotInterrupted.is refl refl refl refl refl (λ n. refl) c.found_of-in-FindNotInterrupted.result c.args.self.now c.found_of-in-FindNotInterrupted.new.self
    c.found_of-in-FindNotInterrupted.ensures

pub returns-in-Wake : goal.returns-in-Wake
returns-in-Wake c =
    left_numbered c.args.action (action.Wake c.in-Wake.thread) (wake_key c.in-Wake.thread) c.in-Wake.is refl refl refl refl refl (λ n. refl) c.left_of-in-Wake.result c.args.self.now c.left_of-in-Wake.new.self
    c.left_of-in-Wake.ensures

pub returns-in-FindWoken : goal.returns-in-FindWoken
returns-in-FindWoken c =
    found_numbered c.args.action (action.FindWoken c.in-FindWoken.thread) (wake_key c.in-FindWoken.thread) c.in-FindWoken.is refl refl refl refl refl (λ n. refl) c.found_of-in-FindWoken.result c.args.self.now c.found_of-in-FindWoken.new.self
    c.found_of-in-FindWoken.ensures

pub returns-in-FinishInitialisation : goal.returns-in-FinishInitialisation
returns-in-FinishInitialisation c =
    left_numbered c.args.action (action.FinishInitialisation c.in-FinishInitialisation.class) (initialisation_key c.in-FinishInitialisation.class) c.in-FinishInitialisation.is refl refl refl refl refl (λ n. refl) c.left_of-in-FinishInitialisation.result c.args.self.now c.left_of-in-FinishInitialisation.new.self
    c.left_of-in-FinishInitialisation.ensures

pub returns-in-FindInitialised : goal.returns-in-FindInitialised
returns-in-FindInitialised c =
    found_numbered c.args.action (action.FindInitialised c.in-FindInitialised.class) (initialisation_key c.in-FindInitialised.class) c.in-FindInitialised.is refl refl refl refl refl (λ n. refl) c.found_of-in-FindInitialised.result c.args.self.now c.found_of-in-FindInitialised.new.self
    c.found_of-in-FindInitialised.ensures
