-- Behind events of others a thread that runs stands as it stood, and is to do the same.
use Rattle.std.proofs.Common.{◌≡◌, ℕ, List, [], ◌∷◌, Some, refl, sym, ◌∙◌, subst}
use Rattle.std.specs.Prelude.{slice_get}
use Rattle.std.proofs.lemmas.Option.{same_Some}
use Rattle.model.specs.declared.event.Event.{Event}
use Rattle.model.specs.declared.value.Value.{Value}
use Rattle.model.specs.Accepted.{IsAccepted}
use Rattle.model.specs.Classes.{Program}
use Rattle.model.specs.Run.{run_from}
use Rattle.model.specs.State.{Running, StackOf, State}
use Rattle.model.specs.Worlds.{thread_at}
use Rattle.run_laws.specs.interleavings.Statements.{IsLeftAlone}
use Rattle.search_laws.specs.Alone.{AreOfOthers}
use Rattle.search_laws.specs.KeptStates.{IsReached}
use Rattle.search_laws.specs.OwnEvents.{StandsAs}
use Rattle.search_laws.proofs.ClassesKept.{all, reached_held}
use Rattle.search_laws.proofs.OwnEvents.{all_written, left_alone_self, stands_on}
use Rattle.search_laws.proofs.Runs.{first_of}
use Rattle.search_laws.proofs.Verdicts.{reached_next, reached_typed}
use Rattle.racing_threads.proofs.free_events.Accessing.{IsToAccess}

-- a state of a run, behind events of others
pub record IsBehind (trees : Program) (frames : ℕ) (state : State) (t : ℕ) (later : State) : Type 0 where
  pub reached : IsReached trees frames later
  pub stands : StandsAs all state t later

module _ (files : List (List ℕ)) (trees : Program) (accepted : IsAccepted files trees) (frames : ℕ) (state : State) (t : ℕ) (stack : StackOf Value)
    (there : slice_get state.stacks t ≡ Some stack) (runs : (thread_at state.world t).status ≡ Running) where
  onward : (others : List Event) (now later : State) → IsBehind trees frames state t now → AreOfOthers t others → run_from trees frames now others ≡ Some later
      → IsBehind trees frames state t later
  onward [] now later b are r = subst (IsBehind trees frames state t) (same_Some now later r) b
  onward (event ∷ others) now later b are r =
      let f = first_of trees frames now later event others r in
      let h = reached_typed files trees accepted frames now b.reached in
      let held = reached_held trees frames now b.reached in
      onward others f.0 later
      (record {
        reached = reached_next files trees accepted frames now f.0 event b.reached f.1.0;
        stands = stands_on files trees accepted frames all state t stack there runs now f.0 event h held b.stands are.0 f.1.0 (all_written trees frames now t [] now tt refl event f.0 are.0 f.1.0);
      })
      are.1 f.1.1

  pub behind : (others : List Event) (later : State) → IsReached trees frames state → AreOfOthers t others → run_from trees frames state others ≡ Some later
      → IsBehind trees frames state t later
  behind others later reached are r =
      onward others state later (record { reached = reached; stands = left_alone_self files trees accepted frames all state t }) are r

-- where it stands as before, it was to access a variable before
pub was_to_access : (files : Program) (state later : State) (t : ℕ) → IsLeftAlone state later t → IsToAccess files later t → IsToAccess files state t
was_to_access files state later t alone to =
    record {
      instruction = to.instruction;
      at = record {
        frame = to.at.frame;
        rest = to.at.rest;
        body = to.at.body;
        stack = sym alone.stack ∙ to.at.stack;
        running = sym alone.status ∙ to.at.running;
        quiet = sym alone.pending ∙ to.at.quiet;
        has_body = to.at.has_body;
        at = to.at.at;
        means = to.at.means;
        slots = to.at.slots;
      };
      may = to.may;
    }
