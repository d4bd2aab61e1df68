-- A replay that goes on and comes to an outcome within a budget does so with a greater one, too.
use Rattle.std.proofs.Common.{◌≡◌, ◌⊎◌, inl, inr, ◌≤◌, ◌+◌, ℕ, Bool, true, false, leb, List, [], ◌∷◌, Some, length, refl, sym, ap, ◌∙◌, arith}
use Rattle.std.specs.Prelude.{IsFalse, IsTrue}
use Rattle.std.proofs.lemmas.Bool.{leb-false, leb-true}
use Rattle.std.proofs.lemmas.List.{length-append}
use Rattle.model.specs.declared.end.End.{End}
use Rattle.model.specs.declared.end.End.TheVariants as ends
use Rattle.model.specs.declared.event.Event.{Event}
use Rattle.model.specs.declared.limits.Limits.{Limits}
use Rattle.model.specs.declared.report.Report.{Report}
use Rattle.model.specs.Classes.{Program}
use Rattle.model.specs.LimitStands.{Bounds}
use Rattle.model.specs.State.{State}
use Rattle.program_runs.specs.continued_runs.Continuing.{Continues, GoesOn}
use Rattle.program_runs.specs.declared.continued_runs.run.Continued.{Continued}
use Rattle.program_runs.specs.declared.continued_runs.run.Continued.TheVariants as continued
use Rattle.program_runs.specs.worlds.Records.{IsRecorded}
use Rattle.program_runs.specs.worlds.Worlds.{EndFits}
use Rattle.search.specs.declared.run_outcomes.wanted.Wanted.{Wanted}
use Rattle.shrinking.specs.Shrunk.{ComesTo, EndsWanted, Has, Lacks, TriesFor}

-- where no thread may go on, there is no more to be said of the budget
ends_so : (want : Wanted) (r : Report) (end : End) → EndsWanted want r end → (trees : Program) (bounds : Bounds) (state : State) (budget more : ℕ) (events : List Event)
    → EndFits trees bounds state budget events (Some end) → EndFits trees bounds state more events (Some end)
ends_so want r ends.Quiet wanted trees bounds state budget more events fits = fits
ends_so want r ends.Budget wanted trees bounds state budget more events fits = elim wanted [ ]
ends_so want r (ends.Refused i cause) wanted trees bounds state budget more events fits = elim wanted [ ]
ends_so want r ends.Schedule wanted trees bounds state budget more events fits = elim wanted [ ]
ends_so want r (ends.NotEnabled i) wanted trees bounds state budget more events fits = elim wanted [ ]

none_left : (front left : List Event) (all budget : ℕ) → all ≡ length front + length left → all ≤ budget → (left ≡ []) ⊎ (length front ≡ budget) → left ≡ []
none_left front left all budget is few (inl none) = none
none_left front [] all budget is few (inr whole) = refl
none_left front (event ∷ left) all budget is few (inr whole) = absurd (omega (arith, is, few, whole))

module _ (trees : Program) (events : List Event) (limits : Limits) (budget more : ℕ) (fits : length events ≤ budget) (le : budget ≤ more) where
  continues : (frames : ℕ) (done : List Event) → Continues trees events frames budget done → Continues trees events frames more done
  continues frames done h = record {
    front = h.front;
    left = h.left;
    schedule_is = h.schedule_is;
    all = inl (none_left h.front h.left (length events) budget (ap length h.schedule_is ∙ length-append h.front h.left) fits h.all);
    more = h.more;
    events_are = h.events_are;
    in_turn = h.in_turn;
  }

  recorded : (want : Wanted) (done : List Event) (r : Report) (end : End) → EndsWanted want r end → IsRecorded trees limits budget done r end
      → IsRecorded trees limits more done r end
  recorded want done r end wanted h = record {
    state = h.state;
    reached = h.reached;
    within = h.within;
    few = omega (arith, h.few, le);
    printed = h.printed;
    threads = h.threads;
    count = h.count;
    means = h.means;
    ended = ends_so want r end wanted trees _ h.state budget more done h.ended;
    found = h.found;
  }

  pub goes_on : (want : Wanted) (c : Continued) → ComesTo want c → GoesOn trees events limits budget c → GoesOn trees events limits more c
  goes_on want (continued.Whole r) wanted h = ((h.0.0, h.0.1, h.0.2, recorded want _ r.report r.end wanted h.0.3), continues limits.frames _ h.1)
  goes_on want (continued.Part r end) wanted h = elim wanted [ ]

-- ---- a try, of which a replay that goes on came to this

module _ (for : TriesFor) (events : List Event) (c : Continued) (goes : GoesOn for.trees events for.limits for.budget c) where
  module _ (count budget : ℕ) (count_is : count ≡ length events) (budget_is : budget ≡ for.budget) where
    pub has_by : ComesTo for.want c → IsTrue (leb count budget) → Has for events
    has_by wanted within =
        let fits : length events ≤ for.budget = omega (arith, leb-true count budget within, count_is, budget_is) in
        (c, wanted, λ more le. goes_on for.trees events for.limits for.budget more fits le for.want c wanted goes)

    pub lacks_by : IsFalse (leb count budget) → Lacks for events
    lacks_by over = (c, goes, λ fits wanted. omega (arith, leb-false count budget over, count_is, budget_is, fits))

  pub lacks_other : (b : Bool) → (ComesTo for.want c → IsTrue b) → IsFalse b → Lacks for events
  lacks_other b comes isnt = (c, goes, λ fits wanted. let bad : true ≡ false = sym (comes wanted) ∙ isnt in cc)
