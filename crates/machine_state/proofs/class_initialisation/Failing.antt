-- A class that fails.
use Rattle.std.proofs.Common.{◌≡◌, ℕ, List, [], ◌∷◌, Option, Ok, Err, length, drop, refl, sym, ap, subst, ◌∙◌, ⊎_elim, inl, inr}
use Rattle.model.specs.Names.{Name}
use Rattle.model.specs.Classes.{Program}
use Rattle.model.specs.State as model
use Rattle.model.specs.State.{StackOf, WorldOf, Phase}
use Rattle.model.specs.LimitStands.{Bounds}
use Rattle.model.specs.MachineExceptions.{machine_exception}
use Rattle.model.specs.Operands.{words}
use Rattle.model.specs.Outcomes.{MachineException, Makes, Cost}
use Rattle.model.specs.Worlds.{allocated, with_pending}
use Rattle.model.specs.ClassInitialisation.{with_class_status}
use Rattle.model.specs.Step.{PartOf, part, raised_for}
use Rattle.linked_code.specs.declared.program.LinkedProgram.{LinkedProgram}
use Rattle.linked_code.specs.Numbers.{IsClassAt}
use Rattle.thread_stacks.specs.Stacks.{ShownEntry}
use Rattle.machine_state.specs.shown_stacks.Shown.{ShowsStack}
use Rattle.machine_state.specs.declared.answers.Answer.{Answer}
use Rattle.machine_state.specs.declared.answers.Answer.TheVariants as answer
use Rattle.machine_state.specs.declared.refusals.EventRefusal.{EventRefusal}
use Rattle.machine_state.specs.declared.state.ClassStatus.{ClassStatus}
use Rattle.machine_state.specs.declared.state.Shared.{Shared}
use Rattle.machine_state.specs.Shown.{IsProgram, shown_status}
use Rattle.machine_state.specs.Events.{Becomes, IsDone, MayBeRefused, HasBecome, AreStacksAdded}
use Rattle.machine_state.specs.Memory.{shown_counts, takes_memory}
use Rattle.machine_state.specs.class_initialisation.Statuses.{IsStatusSet}

-- what is under the entry on top
pub under : (trees : Program) (p : LinkedProgram) (from : List ShownEntry) (entry : model.StackEntryOf ℕ) (rest : StackOf ℕ)
    → ShowsStack trees p from (entry ∷ rest) → ShowsStack trees p (drop 1 from) rest
under trees p [] entry rest s = absurd s
under trees p (top ∷ others) entry rest s = s.1

module _ (trees : Program) (p : LinkedProgram) (bounds : Bounds) (inflated : List ℕ) (world : WorldOf ℕ) (program : IsProgram trees p)
    (class : Name) (number t : ℕ) (at : IsClassAt trees number class) (rest : StackOf ℕ) (status : ClassStatus) (fault : MachineException) (cause : Option ℕ) (old : Shared) where
  abbrev pub after : WorldOf ℕ
  after = with_class_status world class (shown_status status)

  -- refused, it changes nothing, and so at this status
  pub still_refused : (told : EventRefusal) (mid : Shared) (from under : List ShownEntry)
      → Becomes trees p bounds inflated world (raised_for words trees t fault cause world rest) (Err told) old mid under under
      → Becomes trees p bounds inflated world (raised_for words trees t fault cause after rest) (Err told) old mid from from
  still_refused told mid from under h =
      let taken : h.0.cost ≡ Makes 0 = (let is = h.0.is in cc) in (
        record { cost = Makes 0; next = _; is = refl; may = subst (λ (c : Cost). MayBeRefused trees bounds inflated world c (takes_memory world (shown_counts under) c h.0.next) told) taken h.0.may },
        record { shared = h.1.shared; stack = refl },
      )

  added : (mid new : Shared) → new ≡ record mid { statuses = new.statuses; ready = new.ready } → AreStacksAdded old mid
      → AreStacksAdded old new
  added mid new kept =
      ⊎_elim
      (λ o. inl (record { stacks = ap (λ (s : Shared). s.stacks.items) kept ∙ o.stacks; threads = ap (λ (s : Shared). length s.threads.threads) kept ∙ o.threads }))
      (λ o. inr (record { stacks = ap (λ (s : Shared). s.stacks.items) kept ∙ o.stacks; threads = ap (λ (s : Shared). length s.threads.threads) kept ∙ o.threads }))

  -- raised first, and then the status set
  pub raised_done : (mid new : Shared) (to : List ShownEntry) → IsDone trees p bounds inflated world (raised_for words trees t fault cause world rest) old mid to
      → new ≡ record mid { statuses = new.statuses; ready = new.ready } → IsStatusSet number status mid new
      → IsDone trees p bounds inflated world (raised_for words trees t fault cause after rest) old new to
  raised_done mid new to h kept set =
      record {
        cost = Makes 0;
        next = _;
        is = refl;
        becomes = record {
          within = b.within;
          there = b.there;
          represents = set trees p bounds first.world program b.represents class at;
          stack = b.stack;
          flags = ap (λ (s : Shared). s.heap.locks.fat) kept ∙ b.flags;
          others = added mid new kept b.others;
        };
      }
    where
      first : PartOf ℕ
      first = part (with_pending (allocated world (machine_exception words trees fault cause)) t (length world.heap)) rest

      b : HasBecome trees p bounds inflated world (Makes 0) first old mid to
      b =
          let taken : h.cost ≡ Makes 0 = (let is = h.is in cc) in
          let next : h.next ≡ first = (let is = h.is in cc) in
          subst (λ (c : Cost). HasBecome trees p bounds inflated world c first old mid to) taken
          (subst (λ (n : PartOf ℕ). HasBecome trees p bounds inflated world h.cost n old mid to) next h.becomes)

  pub still_answered : (a : Answer) (mid new : Shared) (from under to : List ShownEntry)
      → Becomes trees p bounds inflated world (raised_for words trees t fault cause world rest) (Ok a) old mid under under
      → new ≡ record mid { statuses = new.statuses; ready = new.ready } → IsStatusSet number status mid new → to ≡ under
      → Becomes trees p bounds inflated world (raised_for words trees t fault cause after rest) (Ok a) old new from to
  still_answered answer.Done mid new from under to h kept set e =
      subst (λ (l : List ShownEntry). IsDone trees p bounds inflated world (raised_for words trees t fault cause after rest) old new l) (sym e) (raised_done mid new under h kept set)
  still_answered answer.NotEnabled mid new from under to h kept set e = absurd (let is = h.0 in cc)
