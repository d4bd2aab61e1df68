use Rattle.std.proofs.Common.{refl, ap, subst, ◌∙◌, ◌≡◌, List}
use Rattle.std.proofs.lemmas.Result.{err_from_is_err_and}
use Rattle.heap.specs.lock_word.Words.{Word, HasRoomFor}
use Rattle.heap.specs.lock_word.Locking.{lock_entered}
use Rattle.heap.specs.declared.lock_word.lock.Lock.TheVariants.{Fat}
use Rattle.model.specs.State.{Monitor}
use Rattle.heap.specs.declared.monitor.call.Call.TheVariants.{Enter}
use Rattle.heap.specs.monitor.Words.{monitor_of, is_fat_lock, locks_of}
use Rattle.heap.proofs.monitor.Done.{thin_done, inflated_done, inflated_sound, lock_is, fat_entered, full_table}
use Rattle.heap.proofs.monitor.Done.{needs_room, table_free}
use Rattle.heap.proofs.monitor.Sound.{sound_thin}
use Rattle.heap.proofs.monitor.ThinLocks.{enters, Enters, overflows, Overflows, fat_entering}
use Rattle.heap.proofs.monitor.monitors.Monitors.enter.Goals as goal

pub returns-in-Entered : goal.returns-in-Entered
returns-in-Entered c =
    let entered : Enters c.self.inside.table c.args.thread c.word_of-word.result.lock =
    enters _ _ _ c.in-Entered.ensures.answer in
    let is : c.try_enter.new.self.lock ≡ lock_entered c.args.thread c.word_of-word.result.lock =
    ap (λ (x : Word). x.lock) c.in-Entered.ensures.after in
    thin_done (Enter c.args.object c.args.thread) c.self.inside.table c.self.inside.words.items c.as_slice.result.now
    c.self.inside.limit c.args.self.now
    c.word_of-word.result.lock c.try_enter.new.self c.self.view_is c.requires.0 c.as_slice.ensures.value
    c.word_of-word.ensures
    entered.thin (ap is_fat_lock is ∙ entered.still) entered.answer
    (ap (monitor_of c.self.inside.table) is ∙ entered.after) entered.small entered.few

pub invariant_of-self : goal.invariant_of-self
invariant_of-self c =
    let entered : Enters c.self.inside.table c.args.thread c.word_of-word.result.lock =
    enters _ _ _ c.in-Entered.ensures.answer in
    let is : c.try_enter.new.self.lock ≡ lock_entered c.args.thread c.word_of-word.result.lock =
    ap (λ (x : Word). x.lock) c.in-Entered.ensures.after in
    sound_thin _ _ _ c.args.object c.try_enter.new.self c.self.invariant
    (ap is_fat_lock (lock_is c.self.inside.words.items _ _ _ c.as_slice.ensures.value c.word_of-word.ensures)
    ∙ entered.thin) (ap is_fat_lock is ∙ entered.still)

pub returns-in_err-index-in-Full : goal.returns-in_err-index-in-Full
returns-in_err-index-in-Full c =
    let is : c.try_enter.new.self.lock ≡ lock_entered c.args.thread c.word_of-word.result.lock =
    ap (λ (x : Word). x.lock) c.in-Full.ensures.after in
    let full : Overflows c.self.inside.table c.args.thread c.word_of-word.result.lock =
    overflows _ _ _ (subst HasRoomFor is c.in-Full.ensures.fits) c.in-Full.ensures.answer in
    let p = err_from_is_err_and c.from_residual.result c.from_residual.ensures.1 in
    rw (p.1, p.2, c.in_err-index-in-Full.ensures.full.0) (
      full_table (Enter c.args.object c.args.thread) c.self.inside.table c.self.inside.words.items c.as_slice.result.now
          c.self.inside.limit c.args.self.now
          c.word_of-word.result.lock c.self.view_is c.self.invariant c.requires.0 c.as_slice.ensures.value
          c.word_of-word.ensures full.thin full.last c.in_err-index-in-Full.ensures.full.1,
      refl,
    )

pub returns-in_err-add_owned-in-Full : goal.returns-in_err-add_owned-in-Full
returns-in_err-add_owned-in-Full c =
    let is : c.try_enter.new.self.lock ≡ lock_entered c.args.thread c.word_of-word.result.lock =
    ap (λ (x : Word). x.lock) c.in-Full.ensures.after in
    let full : Overflows c.self.inside.table c.args.thread c.word_of-word.result.lock =
    overflows _ _ _ (subst HasRoomFor is c.in-Full.ensures.fits) c.in-Full.ensures.answer in
    let p = err_from_is_err_and c.from_residual-in_err-add_owned-in-Full.result
    c.from_residual-in_err-add_owned-in-Full.ensures.1 in
    rw (p.1, p.2) (
      needs_room (Enter c.args.object c.args.thread) c.self.inside.table c.self.inside.words.items c.as_slice.result.now
          c.self.inside.limit c.args.self.now
          c.word_of-word.result.lock c.self.view_is c.requires.0 c.as_slice.ensures.value c.word_of-word.ensures
          full.thin full.last,
      rw (← c.self.view_is) (table_free (Enter c.args.object c.args.thread) c.self.inside.table
          c.self.inside.words.items c.self.inside.limit c.self.invariant c.in_ok-index-in-Full.ensures.next.1),
      ap (λ (t : List Monitor). locks_of t c.self.inside.words.items c.self.inside.limit)
          c.in_err-add_owned-in-Full.ensures.err ∙ c.self.view_is,
    )

pub invariant_of-self-in-Full : goal.invariant_of-self-in-Full
invariant_of-self-in-Full c =
    let is : c.try_enter.new.self.lock ≡ lock_entered c.args.thread c.word_of-word.result.lock =
    ap (λ (x : Word). x.lock) c.in-Full.ensures.after in
    let full : Overflows c.self.inside.table c.args.thread c.word_of-word.result.lock =
    overflows _ _ _ (subst HasRoomFor is c.in-Full.ensures.fits) c.in-Full.ensures.answer in
    inflated_sound c.self.inside.table c.add_owned.new.self c.self.inside.words.items c.as_slice.result.now
    c.self.inside.limit c.args.object c.args.self.now
    c.word_of-word.result.lock c.fat.result _ c.self.view_is c.self.invariant c.requires.0 c.as_slice.ensures.value
    c.word_of-word.ensures full.thin
    (ap (λ (w : Word). w.lock) c.fat.ensures ∙ ap Fat c.in_ok-index-in-Full.ensures.next.0)
    c.in_ok-index-in-Full.ensures.next.1 c.in_ok-add_owned-in-Full.ensures.ok

pub enter-requires : goal.enter-requires
enter-requires c =
    c.self.invariant.there c.args.object c.in-Fat.index
    (lock_is c.self.inside.words.items _ _ _ c.as_slice.ensures.value
    (fat_entering _ _ _ c.in-Fat.ensures.answer ∙ c.word_of-word.ensures))

pub returns-in_ok-add_owned-in-Full : goal.returns-in_ok-add_owned-in-Full
returns-in_ok-add_owned-in-Full c =
    let is : c.try_enter.new.self.lock ≡ lock_entered c.args.thread c.word_of-word.result.lock =
    ap (λ (x : Word). x.lock) c.in-Full.ensures.after in
    let full : Overflows c.self.inside.table c.args.thread c.word_of-word.result.lock =
    overflows _ _ _ (subst HasRoomFor is c.in-Full.ensures.fits) c.in-Full.ensures.answer in
    inflated_done (Enter c.args.object c.args.thread) c.self.inside.table c.add_owned.new.self c.self.inside.words.items
    c.as_slice.result.now c.self.inside.limit c.args.self.now
    c.word_of-word.result.lock c.fat.result c.self.view_is c.self.invariant c.requires.0 c.as_slice.ensures.value
    c.word_of-word.ensures
    (ap (λ (w : Word). w.lock) c.fat.ensures ∙ ap Fat c.in_ok-index-in-Full.ensures.next.0)
    c.in_ok-index-in-Full.ensures.next.1 full.answer
    (rw (← full.after) c.in_ok-add_owned-in-Full.ensures.ok) full.last full.few

pub returns-in-Fat : goal.returns-in-Fat
returns-in-Fat c =
    fat_entered c.enter.result c.args.object c.args.thread c.self.inside.table c.enter.new.self
    c.self.inside.words.items c.as_slice.result.now c.self.inside.limit c.in-Fat.index c.args.self.now
    c.self.view_is c.self.invariant c.requires.0 c.as_slice.ensures.value
    (fat_entering _ _ _ c.in-Fat.ensures.answer ∙ c.word_of-word.ensures)
    c.enter.ensures.answer c.enter.ensures.after c.enter.ensures.counted c.enter.ensures.refused
