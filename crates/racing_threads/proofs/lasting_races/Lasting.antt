-- Accesses that a thread is about to do are so still behind an event of another thread.
use Rattle.std.proofs.Common.{◌≡◌, refl, sym, ◌∙◌, ap, ℕ, List, ◌∷◌}
use Rattle.std.specs.Prelude.{Some, Bool, true, false, ◌&&◌, ◌==◌, nat_le, length, IsTrue}
use Rattle.model.specs.Opening.{opening_count}
use Rattle.model.specs.Worlds.{text_of}
use Rattle.std.proofs.lemmas.Bool.{false≢true}
use Rattle.model.specs.declared.event.Event.{Event}
use Rattle.model.specs.declared.value.Value.{Value}
use Rattle.model.specs.Accepted.{IsAccepted}
use Rattle.model.specs.ClassInitialisation.{Look, IsReady, IsNew, IsHeld, HasFailed, look_at}
use Rattle.model.specs.Classes.{Program}
use Rattle.model.specs.Operands.{values, under}
use Rattle.model.specs.State as state
use Rattle.model.specs.State.{types_of, StackOf, State}
use Rattle.model.specs.Step.{stepped, step}
use Rattle.model.specs.WellTyped.{Extends, IsWellTyped}
use Rattle.run_laws.specs.laws.Steps.{Rooted}
use Rattle.run_laws.proofs.interleavings.Commuting.{left_alone}
use Rattle.run_laws.proofs.laws.LinkedOf.{linked_of}
use Rattle.data_races.specs.Actions.{Action}
use Rattle.data_races.specs.EventActions.{is_ready}
use Rattle.race_laws.proofs.racy_states.Accesses.{later_is, again}
use Rattle.race_laws.proofs.racy_states.Later.{KeepsArrays, AreTextsKept, keeps_arrays}
use Rattle.race_laws.proofs.racy_states.Shapes.{text_there}
use Rattle.race_laws.proofs.racy_states.Stepping.{event_of_thread}
use Rattle.search_laws.specs.KeptStates.{IsReached}
use Rattle.search_laws.proofs.ClassesKept.{ready_next, reached_held, lengths_kept, texts_kept}
use Rattle.search_laws.proofs.Events.{changed}
use Rattle.search_laws.proofs.SameWords.{answer_of}
use Rattle.search_laws.proofs.Verdicts.{reached_typed}
use Rattle.racing_threads.proofs.lasting_races.Accesses.{DoesAccess, found_kinds}

look_is : (look : Look) → IsTrue (is_ready look) → look ≡ IsReady
look_is IsReady h = refl
look_is IsNew h = absurd (false≢true h)
look_is IsHeld h = absurd (false≢true h)
look_is HasFailed h = absurd (false≢true h)

and_none : (b : Bool) → (b && false) ≡ false
and_none true = refl
and_none false = refl

module _ (files : List (List ℕ)) (trees : Program) (accepted : IsAccepted files trees) (frames : ℕ) (s next : State) (event : Event)
    (reached : IsReached trees frames s) (goes : step trees frames s event ≡ Some next) where
  typed : IsWellTyped trees s
  typed = reached_typed files trees accepted frames s reached

  rooted : Rooted trees
  rooted = (linked_of files trees accepted.linkable.spelled accepted.linkable.no_refusal).rooted

  more : Extends (types_of s.world.heap) (types_of next.world.heap)
  more = (changed files trees accepted frames s typed event next goes).extends

  -- a String that has a text keeps it
  texts : AreTextsKept s.world.heap next.world.heap
  texts r old e =
      let x = texts_kept trees frames s next event goes r old e in
      let same : (length (text_of old) == 0) ≡ false → text_of x.0 ≡ text_of old =
      λ n. x.1.1 (ap (λ b. nat_le (opening_count trees) r && b) n ∙ and_none (nat_le (opening_count trees) r)) in (
        x.0,
        (x.1.0, λ n. text_there x.0 (ap (λ (t : List ℕ). length t == 0) (same n) ∙ n) ∙ (ap (λ (t : List ℕ). Some t) (same n) ∙ sym (text_there old n))),
      )

  keeps : KeepsArrays trees s.world next.world
  keeps = keeps_arrays trees s.world next.world more (lengths_kept trees frames s next event goes) texts

  pub lasts : (t : ℕ) (a : Action) → (t ≡ event.thread → ⊥) → DoesAccess trees s t a → DoesAccess trees next t a
  lasts t a ne d =
      let h = d.at in
      let it = d.instruction in
      let whole : StackOf Value = state.Invocation h.frame ∷ h.rest in
      let x = answer_of (stepped values trees frames s event) next goes in
      let k = left_alone files trees accepted frames s typed t whole h.stack h.running event ne x.0 next x.1 in
      let ready = ready_next trees frames s next event goes (reached_held trees frames s reached) t ne it.meaning.looks (look_is (look_at t s.world it.meaning.looks) d.done) in
      let kinds = found_kinds trees rooted s typed t it h in
      record {
        instruction = it;
        at = record {
          frame = h.frame;
          rest = h.rest;
          body = h.body;
          stack = k.stack ∙ h.stack;
          running = k.status ∙ h.running;
          quiet = k.pending ∙ h.quiet;
          has_body = h.has_body;
          at = h.at;
          means = h.means;
          slots = h.slots;
        };
        accesses = later_is trees it a h.means s.world next.world keeps more kinds d.accesses;
        done = ap is_ready ready;
        onward = again trees it a h.means (event_of_thread t) s.world next.world keeps more kinds d.accesses it.slots (under it.meaning.wants it.slots) d.onward;
      }
