-- Well-typed states with the same words do the same.
use Rattle.std.proofs.Common.{◌≡◌, ℕ, List, Bool, Some, refl, sym, ap, ◌∙◌}
use Rattle.std.proofs.lemmas.Option.{same_Some, none-some}
use Rattle.model.specs.declared.event.Event.{Event}
use Rattle.model.specs.Accepted.{IsAccepted}
use Rattle.model.specs.Classes.{Program}
use Rattle.model.specs.Meaning.{thread_ends}
use Rattle.model.specs.Operands.{words, values}
use Rattle.model.specs.Outcomes.{Cost}
use Rattle.model.specs.State.{State, StateOf}
use Rattle.model.specs.Step.{SteppedOf, NotEnabled, WrongKind, Next, next_by, stepped, step}
use Rattle.model.specs.WellTyped.{IsWellTyped}
use Rattle.model.specs.Words.{words_of}
use Rattle.run_laws.specs.interleavings.Ends.{Outcome, outcome_of}
use Rattle.run_laws.specs.laws.Steps.{Rooted}
use Rattle.run_laws.specs.word_reports.Reports.{IsReportedAs}
use Rattle.run_laws.specs.word_runs.Words.{map_stepped, IsCarried}
use Rattle.run_laws.proofs.laws.LinkedOf.{linked_of}
use Rattle.run_laws.proofs.soundness.Sound.{kept}
use Rattle.run_laws.proofs.word_reports.Reported.{reported}
use Rattle.run_laws.proofs.word_runs.Carried.{carried}
use Rattle.search_laws.specs.Alone.{Relation, passing, IsBisimulation, HaveSameWords, IsToldByWords, AreSameWordsBisimilar, DoesAloneStay}
use Rattle.search_laws.proofs.Staying.{passed}

-- ---- answers

pub answer_of : (x : SteppedOf State) (next : State) → next_by x ≡ Some next → (cost : Cost) × (x ≡ Next cost next)
answer_of NotEnabled next e = absurd (none-some next e)
answer_of WrongKind next e = absurd (none-some next e)
answer_of (Next cost s) next e = (cost, ap (λ z. Next cost z) (same_Some s next e))

same_next : {S : Type 0} (c d : Cost) (x y : S) → Next c x ≡ Next d y → x ≡ y
same_next c d x y e = cc

next_with : (x : SteppedOf State) (cost : Cost) (next : StateOf ℕ) → map_stepped words_of x ≡ Next cost next
    → (after : State) × ((next_by x ≡ Some after) × (words_of after ≡ next))
next_with NotEnabled cost next e = absurd cc
next_with WrongKind cost next e = absurd cc
next_with (Next taken after) cost next e = (after, (refl, same_next taken cost (words_of after) next e))

module _ (files : List (List ℕ)) (trees : Program) (accepted : IsAccepted files trees) (frames : ℕ) where
  rooted : Rooted trees
  rooted = (linked_of files trees accepted.linkable.spelled accepted.linkable.no_refusal).rooted

  carries : IsCarried trees
  carries = carried trees rooted

  abbrev pub Like : State → State → Type 0
  Like = HaveSameWords trees

  pub typed : (state next : State) (event : Event) → IsWellTyped trees state → step trees frames state event ≡ Some next
      → IsWellTyped trees next
  typed state next event h e = kept files trees accepted frames state event next h e

  symmetric : (one other : State) → Like one other → Like other one
  symmetric one other l = record { one_typed = l.other_typed; other_typed = l.one_typed; same = sym l.same }

  module _ (one other : State) (l : Like one other) where
    steps : (next : State) (event : Event) → step trees frames one event ≡ Some next
        → (after : State) × ((step trees frames other event ≡ Some after) × Like next after)
    steps next event e =
        let x = answer_of (stepped values trees frames one event) next e in
        let by_words : map_stepped words_of (stepped values trees frames other event) ≡ Next x.0 (words_of next) =
        sym (carries frames other event l.other_typed)
        ∙ (ap (λ (w : StateOf ℕ). stepped words trees frames w event) l.same ∙ (carries frames one event l.one_typed ∙ ap (map_stepped words_of) x.1))
        in
        let y = next_with (stepped values trees frames other event) x.0 (words_of next) by_words in (
          y.0,
          (
            y.1.0,
            record {
              one_typed = typed one next event l.one_typed e;
              other_typed = typed other y.0 event l.other_typed y.1.0;
              same = y.1.1;
            },
          ),
        )

    told : IsReportedAs words trees frames (words_of one) one
    told = reported trees rooted carries frames (words_of one) one (record { typed = l.one_typed; are = refl })

    also_told : IsReportedAs words trees frames (words_of one) other
    also_told = reported trees rooted carries frames (words_of one) other (record { typed = l.other_typed; are = sym l.same })

    outcome : outcome_of trees frames other ≡ outcome_of trees frames one
    outcome =
        ap (λ ends. let o : Outcome = record { printed = other.world.printed; ends = ends } in o) (sym also_told.ends ∙ told.ends)
        ∙ ap (λ (w : StateOf ℕ). let o : Outcome = record { printed = w.world.printed; ends = thread_ends trees frames one } in o) l.same

  -- whatever relation keeps them
  pub bisimilar_with : (Conflict : Relation)
      → ((one other : State) (t u : ℕ) → Like one other → Conflict one t u → Conflict other t u)
      → IsBisimulation trees frames Conflict Like
  bisimilar_with Conflict conflicts =
      record {
        reflexive = λ state h. record { one_typed = h; other_typed = h; same = refl };
        symmetric = symmetric;
        transitive = λ one two three p q. record { one_typed = p.one_typed; other_typed = q.other_typed; same = q.same ∙ p.same };
        steps = λ one other next event l e. steps one other l next event e;
        may = λ one other t l. sym ((also_told one other l).may t) ∙ (told one other l).may t;
        quiet = λ one other l. sym (also_told one other l).quiet ∙ (told one other l).quiet;
        outcome = outcome;
        conflicts = conflicts;
      }

  pub bisimilar : (conflict : State → ℕ → ℕ → Bool) → IsToldByWords trees conflict → IsBisimulation trees frames (passing conflict) Like
  bisimilar conflict told = bisimilar_with (passing conflict) (λ one other t u l c. told one other t u l ∙ c)

pub same_words_bisimilar : AreSameWordsBisimilar
same_words_bisimilar files trees accepted frames conflict told = bisimilar files trees accepted frames conflict told

pub alone_stays : DoesAloneStay
alone_stays files trees accepted frames conflict told state next event t first a ne goes =
    let p = passed trees frames (passing conflict) (HaveSameWords trees) (bisimilar files trees accepted frames conflict told) state next event t first a ne goes in
    (p.last, p.alone)
