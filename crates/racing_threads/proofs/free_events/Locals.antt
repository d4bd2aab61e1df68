-- A local instruction accesses no variable.
use Rattle.std.proofs.Common.{◌≡◌, ℕ, ◌∷◌, None, true, refl, sym, ap, ◌∙◌}
use Rattle.std.specs.Prelude.{Option, if◌then◌else◌, is_none, slice_get}
use Rattle.std.specs.Option.{option_map, option_and_then}
use Rattle.std.proofs.lemmas.Bool.{false≢true}
use Rattle.std.proofs.lemmas.Option.{none-some}
use Rattle.model.specs.declared.instr.Instr.{Instr}
use Rattle.model.specs.declared.instr.Instr.TheVariants as instr
use Rattle.model.specs.declared.value.Value.{Value}
use Rattle.model.specs.Classes.{Program}
use Rattle.model.specs.Pool.{integers_of}
use Rattle.model.specs.Rows.{local_row}
use Rattle.model.specs.Sites.{Site}
use Rattle.model.specs.State.{Frame, Invocation, StackOf, State}
use Rattle.model.specs.Worlds.{thread_at}
use Rattle.run_laws.specs.interleavings.Local.{row_at, row_in, after_local, local_stack, is_going, next_local}
use Rattle.run_laws.proofs.interleavings.Own.{next_of}
use Rattle.racing_threads.specs.free_events.Free.{AreLocalEventsFree}
use Rattle.racing_threads.proofs.free_events.Accessing.{may_access, IsToAccess, does_access}
use Rattle.racing_threads.proofs.free_events.Standing.{behind, was_to_access}

module _ (site : Site) where
  by_instr : (i : Instr) → may_access i ≡ true → local_row (integers_of site.body.pool) site.body.code.code site.offset site.next i ≡ None
  by_instr (instr.Field access index) h = refl
  by_instr (instr.LoadElement kind) h = refl
  by_instr (instr.StoreElement kind) h = refl
  by_instr (instr.Invoke invocation index) h = refl
  by_instr (instr.InvokeInterface index count last) h = refl
  by_instr _ h = absurd (false≢true h)

  no_row : may_access site.instr ≡ true → row_at site ≡ None
  no_row h = by_instr site.instr h

module _ (files : Program) (state : State) (t : ℕ) (to : IsToAccess files state t) where
  abbrev after : Option Frame → Option (StackOf Value)
  after o = option_map (λ (frame : Frame). Invocation frame ∷ to.at.rest) o

  not_local : next_local files state t ≡ None
  not_local =
      let frame = to.at.frame in
      let so = option_and_then (local_stack files) (slice_get state.stacks t) in
      ap (λ s. if is_going s (thread_at state.world t).pending then so else None) to.at.running
      ∙ (ap (λ p. if is_none p then so else None) to.at.quiet
      ∙ (ap (option_and_then (local_stack files)) to.at.stack
      ∙ (ap (λ o. after (option_and_then (after_local frame) (option_and_then (row_in frame) o))) to.at.has_body
      ∙ (ap (λ o. after (option_and_then (after_local frame) (option_and_then row_at o))) to.at.at
      ∙ ap (λ o. after (option_and_then (after_local frame) o)) (no_row to.instruction.site to.may)))))

pub local_events_free : AreLocalEventsFree
local_events_free files trees accepted frames state reached t own e others later are r u c =
    let n = next_of trees state t own e in
    let b = behind files trees accepted frames state t n.stack n.there n.status others later reached are r in
    let d = does_access trees frames later t u c in
    absurd (none-some own (sym (not_local trees state t (was_to_access trees state later t b.stands.alone d.to)) ∙ e))
