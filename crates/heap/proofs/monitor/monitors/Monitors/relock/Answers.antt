use Rattle.std.proofs.Common.{refl, ap, sym, ◌∙◌}
use Rattle.heap.specs.lock_word.Words.{Word}
use Rattle.heap.specs.declared.lock_word.lock.Lock.{Lock}
use Rattle.model.specs.Monitors.{monitor_relock}
use Rattle.heap.specs.declared.monitor.call.Call.TheVariants.{Relock}
use Rattle.heap.specs.monitor.Words.{monitor_of, is_fat_lock}
use Rattle.heap.proofs.monitor.Done.{thin_done, record_done, lock_is}
use Rattle.heap.proofs.monitor.Sound.{sound_thin}
use Rattle.heap.proofs.monitor.monitors.Monitors.relock.Goals as goal

pub returns-in-Unlocked : goal.returns-in-Unlocked
returns-in-Unlocked c =
    thin_done (Relock c.args.object c.args.thread c.args.count) c.self.inside.table c.self.inside.words.items
    c.as_slice.result.now c.self.inside.limit c.args.self.now
    c.word_of-word.result.lock c.thin.result c.self.view_is c.requires.0 c.as_slice.ensures.value c.word_of-word.ensures
    (ap is_fat_lock (sym c.in-Unlocked.ensures.same)) (ap (λ (w : Word). is_fat_lock w.lock) c.thin.ensures)
    (ap (λ (l : Lock). (monitor_relock c.args.thread c.args.count (monitor_of c.self.inside.table l)).answer)
    c.in-Unlocked.ensures.same)
    (ap (λ (w : Word). monitor_of c.self.inside.table w.lock) c.thin.ensures
    ∙ ap (λ (l : Lock). (monitor_relock c.args.thread c.args.count (monitor_of c.self.inside.table l)).after)
    c.in-Unlocked.ensures.same)
    refl refl

pub invariant_of-self : goal.invariant_of-self
invariant_of-self c =
    sound_thin _ _ _ c.args.object c.thin.result c.self.invariant
    (ap is_fat_lock (lock_is c.self.inside.words.items _ _ _ c.as_slice.ensures.value c.word_of-word.ensures
    ∙ sym c.in-Unlocked.ensures.same))
    (ap (λ (w : Word). is_fat_lock w.lock) c.thin.ensures)

pub relock-requires : goal.relock-requires
relock-requires c =
    c.self.invariant.there c.args.object c.in-Fat.index
    (lock_is c.self.inside.words.items _ _ _ c.as_slice.ensures.value (c.in-Fat.ensures.same ∙ c.word_of-word.ensures))

pub returns-in-Fat : goal.returns-in-Fat
returns-in-Fat c =
    record_done (Relock c.args.object c.args.thread c.args.count) c.relock.result c.self.inside.table c.relock.new.self
    c.self.inside.words.items c.as_slice.result.now c.self.inside.limit c.in-Fat.index c.args.self.now
    c.self.view_is c.self.invariant c.requires.0 c.as_slice.ensures.value
    (c.in-Fat.ensures.same ∙ c.word_of-word.ensures) c.relock.ensures.answer c.relock.ensures.after refl
