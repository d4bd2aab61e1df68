-- Two that conflict, by the place of the first.
use Rattle.std.proofs.Common.{◌<◌, ℕ, List, Some, get_or, length, refl}
use Rattle.std.proofs.lemmas.Option.{slice_get-get_or}
use Rattle.race_places.specs.declared.run_actions.RunAction.{RunAction}
use Rattle.next_accesses.specs.racy_states.Racy.{IsConflictIn, IsRaceOf}

pub race_of : (actions : List RunAction) (at : ℕ) (d : RunAction) → at < length actions → (other : RunAction)
    → IsConflictIn (get_or actions at d) actions (Some other)
    → IsRaceOf actions (record {
      thread = (get_or actions at d).thread;
      access = (get_or actions at d).action;
      other = other.thread;
      other_access = other.action;
    })
race_of actions at d below other h =
    record {
      place = at;
      first = get_or actions at d;
      at = slice_get-get_or actions at d below;
      other_place = h.0;
      second = other;
      other_at = h.1;
      do_so = h.2;
      is = refl;
    }
