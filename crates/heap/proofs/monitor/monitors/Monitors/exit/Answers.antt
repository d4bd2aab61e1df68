use Rattle.std.proofs.Common.{refl, ap, ◌∙◌, ◌≡◌}
use Rattle.heap.specs.lock_word.Words.{Word}
use Rattle.heap.specs.lock_word.Locking.{lock_left}
use Rattle.heap.specs.declared.monitor.call.Call.TheVariants.{Exit}
use Rattle.heap.specs.monitor.Words.{monitor_of, is_fat_lock}
use Rattle.heap.proofs.monitor.Done.{thin_done, record_done, lock_is}
use Rattle.heap.proofs.monitor.Sound.{sound_thin}
use Rattle.heap.proofs.monitor.ThinLocks.{leaves, Leaves, fat_leaving}
use Rattle.heap.proofs.monitor.monitors.Monitors.exit.Goals as goal

pub returns-in-Left : goal.returns-in-Left
returns-in-Left c =
    let left : Leaves c.self.inside.table c.args.thread c.word_of-word.result.lock =
    leaves _ _ _ c.in-Left.ensures.answer in
    let is : c.try_exit.new.self.lock ≡ lock_left c.args.thread c.word_of-word.result.lock =
    ap (λ (x : Word). x.lock) c.in-Left.ensures.after in
    thin_done (Exit c.args.object c.args.thread) c.self.inside.table c.self.inside.words.items c.as_slice.result.now
    c.self.inside.limit c.args.self.now
    c.word_of-word.result.lock c.try_exit.new.self c.self.view_is c.requires c.as_slice.ensures.value
    c.word_of-word.ensures
    left.thin (ap is_fat_lock is ∙ left.still) left.answer (ap (monitor_of c.self.inside.table) is ∙ left.after) refl
    refl

pub invariant_of-self : goal.invariant_of-self
invariant_of-self c =
    let left : Leaves c.self.inside.table c.args.thread c.word_of-word.result.lock =
    leaves _ _ _ c.in-Left.ensures.answer in
    let is : c.try_exit.new.self.lock ≡ lock_left c.args.thread c.word_of-word.result.lock =
    ap (λ (x : Word). x.lock) c.in-Left.ensures.after in
    sound_thin _ _ _ c.args.object c.try_exit.new.self c.self.invariant
    (ap is_fat_lock (lock_is c.self.inside.words.items _ _ _ c.as_slice.ensures.value c.word_of-word.ensures)
    ∙ left.thin) (ap is_fat_lock is ∙ left.still)

pub exit-requires : goal.exit-requires
exit-requires c =
    c.self.invariant.there c.args.object c.in-Fat.index
    (lock_is c.self.inside.words.items _ _ _ c.as_slice.ensures.value
    (fat_leaving _ _ _ c.in-Fat.ensures.answer ∙ c.word_of-word.ensures))

pub returns-in-Fat : goal.returns-in-Fat
returns-in-Fat c =
    record_done (Exit c.args.object c.args.thread) c.exit.result c.self.inside.table c.exit.new.self
    c.self.inside.words.items c.as_slice.result.now c.self.inside.limit c.in-Fat.index c.args.self.now
    c.self.view_is c.self.invariant c.requires c.as_slice.ensures.value
    (fat_leaving _ _ _ c.in-Fat.ensures.answer ∙ c.word_of-word.ensures) c.exit.ensures.answer c.exit.ensures.after
    refl
