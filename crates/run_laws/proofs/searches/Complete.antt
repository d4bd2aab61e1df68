-- Why a whole search lists all outcomes.
use Rattle.std.proofs.Common.{◌≡◌, ℕ, zero, suc, ◌<◌, ◌≤◌, List, [], ◌∷◌, length, true, Option, Some, None, refl, sym, ap, ◌∙◌, subst, arith}
use Rattle.std.specs.Option.{option_and_then}
use Rattle.std.proofs.lemmas.Option.{same_Some, none-some}
use Rattle.model.specs.declared.event.Event.{Event}
use Rattle.model.specs.Accepted.{IsAccepted}
use Rattle.model.specs.Classes.{Program}
use Rattle.model.specs.Meaning.{thread_ends}
use Rattle.model.specs.Opening.{opening}
use Rattle.model.specs.Operands.{values, words}
use Rattle.model.specs.Outcomes.{Cost}
use Rattle.model.specs.Run.{run, run_from, is_quiet}
use Rattle.model.specs.State.{State, StateOf}
use Rattle.model.specs.Step.{SteppedOf, NotEnabled, WrongKind, Next, next_by, stepped, step}
use Rattle.model.specs.WellTyped.{IsWellTyped}
use Rattle.model.specs.Words.{words_of}
use Rattle.run_laws.specs.laws.Steps.{Rooted}
use Rattle.run_laws.proofs.laws.LinkedOf.{linked_of}
use Rattle.run_laws.proofs.soundness.Sound.{kept}
use Rattle.run_laws.specs.word_runs.Words.{map_stepped, IsCarried}
use Rattle.run_laws.proofs.word_runs.Carried.{carried}
use Rattle.run_laws.specs.word_reports.Reports.{IsReportedAs}
use Rattle.run_laws.proofs.word_reports.Reported.{reported}
use Rattle.run_laws.specs.interleavings.Ends.{Has, Outcome, outcome_of, AreAllOutcomes}
use Rattle.run_laws.specs.interleavings.Local.{with_stack}
use Rattle.run_laws.proofs.interleavings.Reduction.{event_0, local_step, move_front, opened, run_typed}
use Rattle.run_laws.specs.searches.Searches.{AreLocal, IsFollowed, IsWhole, AreSearchesComplete}

-- ---- states with the same words

same_next : {S : Type 0} (c d : Cost) (x y : S) → Next c x ≡ Next d y → x ≡ y
same_next c d x y e = cc

module _ (files : List (List ℕ)) (trees : Program) (accepted : IsAccepted files trees) (frames : ℕ) where
  rooted : Rooted trees
  rooted = (linked_of files trees accepted.linkable.spelled accepted.linkable.no_refusal).rooted

  carries : IsCarried trees
  carries = carried trees rooted

  -- where one event leads from two states with the same words
  record IsAlike (one other : State) (event : Event) (next : State) : Type 0 where
    then : State
    goes : step trees frames other event ≡ Some then
    same : words_of then ≡ words_of next

  alike : (one other : State) → IsWellTyped trees one → IsWellTyped trees other → words_of other ≡ words_of one → (event : Event)
      (next : State) → step trees frames one event ≡ Some next → IsAlike one other event next
  alike one other h g same event next e = by_one (stepped values trees frames one event) refl (stepped values trees frames other event) refl e
    where
      carried_over : map_stepped words_of (stepped values trees frames other event)
          ≡ map_stepped words_of (stepped values trees frames one event)
      carried_over =
          sym (carries frames other event g) ∙ (ap (λ (w : StateOf ℕ). stepped words trees frames w event) same ∙ carries frames one event h)

      by_other : (cost : Cost) → stepped values trees frames one event ≡ Next cost next → (y : SteppedOf State)
          → stepped values trees frames other event ≡ y → IsAlike one other event next
      by_other cost p y q =
          by_answer y q (sym (ap (map_stepped words_of) q) ∙ (carried_over ∙ ap (map_stepped words_of) p))
        where
          by_answer : (y : SteppedOf State) → stepped values trees frames other event ≡ y
              → map_stepped words_of y ≡ Next cost (words_of next) → IsAlike one other event next
          by_answer NotEnabled q r = absurd cc
          by_answer WrongKind q r = absurd cc
          by_answer (Next taken then) q r = record { then = then; goes = ap next_by q; same = same_next taken cost (words_of then) (words_of next) r }

      by_one : (x : SteppedOf State) → stepped values trees frames one event ≡ x → (y : SteppedOf State)
          → stepped values trees frames other event ≡ y → next_by x ≡ Some next → IsAlike one other event next
      by_one NotEnabled p y q e = absurd (none-some next e)
      by_one WrongKind p y q e = absurd (none-some next e)
      by_one (Next cost s) p y q e = by_other cost (p ∙ ap (λ (z : State). Next cost z) (same_Some s next e)) y q

  -- where the same events lead from them
  record RunsAlike (other : State) (events : List Event) (last : State) : Type 0 where
    then : State
    runs : run_from trees frames other events ≡ Some then
    typed : IsWellTyped trees then
    same : words_of then ≡ words_of last

  runs_alike : (events : List Event) (one other last : State) → IsWellTyped trees one → IsWellTyped trees other
      → words_of other ≡ words_of one → run_from trees frames one events ≡ Some last → RunsAlike other events last
  runs_alike [] one other last h g same r = record { then = other; runs = refl; typed = g; same = same ∙ ap words_of (same_Some one last r) }
  runs_alike (event ∷ events) one other last h g same r = by (step trees frames one event) refl r (λ m n hm hn s y. runs_alike events m n last hm hn s y)
    where
      by : (o : Option State) → step trees frames one event ≡ o → option_and_then (λ next. run_from trees frames next events) o ≡ Some last
          → ((m n : State) → IsWellTyped trees m → IsWellTyped trees n → words_of n ≡ words_of m
          → run_from trees frames m events ≡ Some last → RunsAlike n events last)
          → RunsAlike other (event ∷ events) last
      by None p y rest = absurd (none-some last y)
      by (Some m) p y rest =
          let a = alike one other h g same event m p in
          let after = rest m a.then (kept files trees accepted frames one event m h p) (kept files trees accepted frames other event a.then g a.goes) a.same y in
          record { then = after.then; runs = ap (option_and_then (λ next. run_from trees frames next events)) a.goes ∙ after.runs; typed = after.typed; same = after.same }

  -- both are quiet or neither is, and what is to be seen is the same
  told : (s : State) → IsWellTyped trees s → IsReportedAs words trees frames (words_of s) s
  told s h = reported trees rooted carries frames (words_of s) s (record { typed = h; are = refl })

  same_quiet : (one other : State) → IsWellTyped trees one → IsWellTyped trees other → words_of other ≡ words_of one
      → is_quiet trees frames other ≡ is_quiet trees frames one
  same_quiet one other h g same =
      let t = told one h in
      let u : IsReportedAs words trees frames (words_of one) other = reported trees rooted carries frames (words_of one) other (record { typed = g; are = sym same }) in
      sym u.quiet ∙ t.quiet

  same_outcome : (one other : State) → IsWellTyped trees one → IsWellTyped trees other → words_of other ≡ words_of one
      → outcome_of trees frames other ≡ outcome_of trees frames one
  same_outcome one other h g same =
      let t = told one h in
      let u : IsReportedAs words trees frames (words_of one) other = reported trees rooted carries frames (words_of one) other (record { typed = g; are = sym same }) in
      ap (λ ends. let o : Outcome = record { printed = other.world.printed; ends = ends } in o) (sym u.ends ∙ t.ends)
      ∙ ap (λ (w : StateOf ℕ). let o : Outcome = record { printed = w.world.printed; ends = thread_ends trees frames one } in o) same

  -- ---- local events come first

  record Shortened (events : List Event) (then last : State) : Type 0 where
    others : List Event
    no_longer : length others ≤ length events
    typed : IsWellTyped trees then
    runs : run_from trees frames then others ≡ Some last

  shortened : (threads : List ℕ) (events : List Event) (state then last : State) → IsWellTyped trees state
      → is_quiet trees frames last ≡ true → AreLocal trees threads state then
      → run_from trees frames state events ≡ Some last → Shortened events then last
  shortened [] events state then last h q l r =
      subst (λ (z : State). Shortened events z last) l (record { others = events; no_longer = omega arith; typed = h; runs = r })
  shortened (t ∷ threads) events state then last h q l r =
      let m = move_front files trees accepted frames last q events state h t l.0 l.1 r in
      let goes = local_step files trees accepted frames state h (event_0 files trees accepted frames t) l.0 l.1 refl in
      let typed = kept files trees accepted frames state (event_0 files trees accepted frames t) (with_stack state t l.0) h goes in
      let rest = shortened threads m.others (with_stack state t l.0) then last typed q l.2 m.ends in
      let le : length rest.others ≤ length events = omega (arith, rest.no_longer, m.shorter) in
      record { others = rest.others; no_longer = le; typed = rest.typed; runs = rest.runs }

  -- ---- a whole search

  module _ (schedules : List (List Event)) (outcomes : List Outcome) (s : IsWhole trees frames schedules outcomes) where
    -- each run of fewer events from a state that is followed ends with an outcome that is listed
    abbrev Below : ℕ → Type 0
    Below n =
        (events : List Event) (state last : State) → IsWellTyped trees state → length events < n → run_from trees frames state events ≡ Some last → is_quiet trees frames last ≡ true
        → IsFollowed trees frames schedules state → Has outcomes (outcome_of trees frames last)

    -- so does each from a state to which a schedule led
    from_met : (n : ℕ) → Below n → (schedule : List Event) (met : State) → Has schedules schedule → run trees frames schedule ≡ Some met
        → IsWellTyped trees met
        → (events : List Event) (last : State) → length events ≤ n → run_from trees frames met events ≡ Some last
        → is_quiet trees frames last ≡ true → Has outcomes (outcome_of trees frames last)
    from_met n below schedule met has leads h [] last le r q =
        let same = same_Some met last r in
        subst (λ (z : State). Has outcomes (outcome_of trees frames z)) same
        (s.listed schedule met has leads (subst (λ (z : State). is_quiet trees frames z ≡ true) (sym same) q))
    from_met n below schedule met has leads h (event ∷ events) last le r q = by (step trees frames met event) refl r
      where
        by : (o : Option State) → step trees frames met event ≡ o
            → option_and_then (λ next. run_from trees frames next events) o ≡ Some last → Has outcomes (outcome_of trees frames last)
        by None p y = absurd (none-some last y)
        by (Some next) p y =
            let lt : length events < n = omega (arith, le) in
            below events next last (kept files trees accepted frames met event next h p) lt y q (s.closed schedule met next event has leads p)

    below : (n : ℕ) → Below n
    below zero events state last h lt r q f = absurd (omega (arith, lt))
    below (suc n) events state last h lt r q f =
        let z = shortened f.threads events state f.last last h q f.are_local r in
        let typed = run_typed files trees accepted frames f.is_met.schedule (opening values trees) f.is_met.met (opened files trees accepted frames) f.is_met.leads in
        let a = runs_alike z.others f.last f.is_met.met last z.typed typed f.is_met.same z.runs in
        let last_typed = run_typed files trees accepted frames events state last h r in
        let quiet = same_quiet last a.then last_typed a.typed a.same ∙ q in
        let le : length z.others ≤ n = omega (arith, lt, z.no_longer) in
        subst (Has outcomes) (same_outcome last a.then last_typed a.typed a.same)
        (from_met n (below n) f.is_met.schedule f.is_met.met f.is_met.has f.is_met.leads typed z.others a.then le a.runs quiet)

    pub complete : AreAllOutcomes trees frames outcomes
    complete = record {
      listed = λ events outcome e. subst (Has outcomes) e.outcome_is
          (below (suc (length events)) events (opening values trees) e.state (opened files trees accepted frames) (omega arith) e.reached e.quiet s.opened);
      reached = s.only;
    }

pub searches_complete : AreSearchesComplete
searches_complete files trees accepted frames schedules outcomes s = complete files trees accepted frames schedules outcomes s
