-- An event of the policy random in a world.
use Rattle.std.proofs.Common.{◌≡◌, ◌⊎◌, inl, inr, ◌<◌, ◌≤◌, ◌+◌, ◌-◌, ℕ, zero, suc, List, [], ◌∷◌, ◌++◌, Option, Some, None, Bool, true, false, cond, length, refl, sym, ap, subst, ◌∙◌, arith}
use Rattle.std.specs.Prelude.{◌&&◌, if◌then◌else◌, min, nat_lt, slice_get, slice_index}
use Rattle.std.specs.List.{count_by, filter}
use Rattle.std.proofs.Math.Decide.{dec_lt}
use Rattle.std.proofs.lemmas.Bool.{false≢true, le-ltb, lt-ltb}
use Rattle.std.proofs.lemmas.Bool.Decides.{nat_tests}
use Rattle.std.proofs.lemmas.List.Sums.{sum_by-cons}
use Rattle.std.proofs.lemmas.Option.{none-some}
use Rattle.std.proofs.Math.Nat.{min-eq_left, min-eq_right, min-le_left, min-le_right}
use Rattle.rand_core.specs.Stream.{Stream}
use Rattle.model.specs.declared.event.Event.{Event}
use Rattle.model.specs.Classes.{Program}
use Rattle.model.specs.LimitStands.{Bounds, bounds_of, inflated}
use Rattle.model.specs.Operands.{words}
use Rattle.model.specs.Rows.{counting}
use Rattle.model.specs.Run.{may_step, run}
use Rattle.model.specs.State.{StackOf, State, StateOf}
use Rattle.model.specs.Step as step
use Rattle.model.specs.Step.{is_enabled, is_enabled_by}
use Rattle.run_laws.specs.searches.Picks.{ArePicksInOrder}
use Rattle.run_laws.specs.word_reports.Reports.{AreReportsOfWords, IsReportedAs, is_enabled_of, may_step_of}
use Rattle.run_laws.proofs.typed_threads.Threads.{tables_counted}
use Rattle.machine_state.specs.shown_runs.Runs.{HasRun}
use Rattle.machine.specs.Machines.{MachineOf}
use Rattle.machine.specs.Tops.{plain}
use Rattle.program_runs.specs.policies.Draws.{below}
use Rattle.program_runs.specs.policies.Drawn.{IsDrawn, IsPickDrawn, able_in, drawn_of, words_after}
use Rattle.program_runs.specs.policies.Picks.{PicksOf, picked}
use Rattle.program_runs.specs.policies.PolicyTurns.{DoesTurn, IsOn, IsOver, IsShort}
use Rattle.program_runs.specs.policies.Runs.{Turned, can_do, pick_count, pick_of, random_event, random_turn, turned_if, with_picked, with_turn}
use Rattle.program_runs.specs.worlds.Turns.{MayNone}
use Rattle.program_runs.specs.worlds.Worlds.{WorldOf, Holds}
use Rattle.program_runs.proofs.policies.Able.{none_in}
use Rattle.program_runs.proofs.policies.TurnEvents.{cant_where_not_enabled}

-- ---- how many picks there are

one_more : (b : Bool) (x : ℕ) → cond b 1 0 + x ≡ cond b (suc x) x
one_more true x = omega arith
one_more false x = omega arith

-- the lesser of two numbers, each one more
min_suc : (a b n : ℕ) → b ≡ suc a → suc (min a n) ≡ min b (suc n)
min_suc a b n e = by (dec_lt a n)
  where
    by : Dec (a < n) → suc (min a n) ≡ min b (suc n)
    by (yes l) = ap suc (min-eq_left (omega (arith, l))) ∙ sym e ∙ sym (min-eq_left (omega (arith, l, e)))
    by (no g) = ap suc (min-eq_right (omega (arith, g))) ∙ sym (min-eq_right (omega (arith, g, e)))

min_zero : (a n : ℕ) → a ≡ 0 → min a n ≡ 0
min_zero a n e = ap (λ k. min k n) e ∙ min-eq_left (omega arith)

module _ (q : ℕ → Bool) (w : ℕ) (first : q 0 ≡ true) (others : (k : ℕ) → q (suc k) ≡ nat_lt (suc k) w) where
  -- one more is asked
  one_on : (from n x : ℕ) → x ≡ min (w - suc (suc from)) n → cond (nat_lt (suc from) w) (suc x) x ≡ min (w - suc from) (suc n)
  one_on from n x e = by (dec_lt (suc from) w)
    where
      by : Dec (suc from < w) → cond (nat_lt (suc from) w) (suc x) x ≡ min (w - suc from) (suc n)
      by (yes lt) =
          ap (λ b. cond b (suc x) x) (lt-ltb (suc from) w lt)
          ∙ ap suc e ∙ min_suc (w - suc (suc from)) (w - suc from) n (omega (arith, lt))
      by (no ge) =
          ap (λ b. cond b (suc x) x) (le-ltb (suc from) w (omega (arith, ge)))
          ∙ e ∙ min_zero (w - suc (suc from)) n (omega (arith, ge)) ∙ sym (min_zero (w - suc from) (suc n) (omega (arith, ge)))

  -- from the second on
  counted : (from n : ℕ) → count_by q (counting (suc from) n) ≡ min (w - suc from) n
  counted from zero = sym (min-eq_right (omega arith))
  counted from (suc n) =
      sum_by-cons (λ k. cond (q k) 1 0) (suc from) (counting (suc (suc from)) n)
      ∙ one_more (q (suc from)) (count_by q (counting (suc (suc from)) n))
      ∙ ap (λ b. cond b (suc (count_by q (counting (suc (suc from)) n))) (count_by q (counting (suc (suc from)) n))) (others from)
      ∙ one_on from n (count_by q (counting (suc (suc from)) n)) (counted (suc from) n)

  pub count_is : (n : ℕ) → 0 < n → count_by q (counting 0 n) ≡ suc (min (w - 1) (n - 1))
  count_is zero some = absurd (omega (arith, some))
  count_is (suc n) some =
      let same : n ≡ suc n - 1 = omega arith in
      sum_by-cons (λ k. cond (q k) 1 0) 0 (counting 1 n)
      ∙ one_more (q 0) (count_by q (counting 1 n))
      ∙ ap (λ b. cond b (suc (count_by q (counting 1 n))) (count_by q (counting 1 n))) first
      ∙ ap suc (counted 0 n) ∙ ap (λ k. suc (min (w - 1) k)) same

  -- nothing is drawn of one, nor of none
  pub draws_same : (n : ℕ) → 0 < n → (s : Stream) → pick_of (min w n) s ≡ pick_of (count_by q (counting 0 n)) s
  draws_same n some s = by (dec_lt 0 w)
    where
      few : (a b : ℕ) → a ≤ 1 → b ≤ 1 → pick_of a s ≡ pick_of b s
      few a b x y = ap (λ t. if t then below a s else (0, s)) (le-ltb 1 a x) ∙ sym (ap (λ t. if t then below b s else (0, s)) (le-ltb 1 b y))

      by : Dec (0 < w) → pick_of (min w n) s ≡ pick_of (count_by q (counting 0 n)) s
      by (yes lt) =
          let one : w ≡ suc (w - 1) = omega (arith, lt) in
          let two : n ≡ suc (n - 1) = omega (arith, some) in
          ap (λ k. pick_of k s) (ap (min w) two ∙ sym (min_suc (w - 1) w (n - 1) one) ∙ sym (count_is n some))
      by (no ge) =
          let low = min-le_left w n in
          let least = min-le_left (w - 1) (n - 1) in
          let is = count_is n some in
          few (min w n) (count_by q (counting 0 n)) (omega (arith, ge, low)) (omega (arith, is, ge, least))

-- ---- in a world

-- a turn that does nothing is the last
pub ends_then : (w new : WorldOf) (all : List Event) → all ≡ w.events → DoesTurn all w new → new.end ≡ None → ⊥
ends_then w new all same does on = by does.how
  where
    by : IsOn all w new ⊎ IsOver all w new ⊎ IsShort all w new → ⊥
    by (inl h) = omega (arith, h.more, ap length same)
    by (inr (inl h)) = none-some h.end (sym on ∙ h.is)
    by (inr (inr h)) = none-some h.end (sym on ∙ h.is)

module _ (reported : AreReportsOfWords) (w : WorldOf) (holds : Holds w) where
  abbrev m : MachineOf
  m = w.machine

  abbrev bounds : Bounds
  bounds = bounds_of w.machine.limits

  abbrev frames : ℕ
  frames = w.machine.limits.frames

  abbrev has : HasRun w.trees w.machine.program (bounds_of w.machine.limits) w.machine.shared w.events
  has = holds.done.run

  abbrev state : State
  state = has.lead.state

  abbrev n : ℕ
  n = length m.shared.threads.threads

  same : IsReportedAs words w.trees frames has.at state
  same = reported holds.files w.trees holds.done.accepted.linkable frames has.at state has.lead.are

  counts : n ≡ length state.world.threads
  counts = ap length has.shown.represents.world_is.threads ∙ ap (λ (s : StateOf ℕ). length s.world.threads) has.lead.are.are

  abbrev able : List ℕ
  able = filter (may_step w.trees frames state) (counting 0 (length state.world.threads))

  able_is : able_in m w.trees has.at ≡ able
  able_is = λ i. filter (λ t. same.may t i) (counting 0 (counts i))

  reached : run w.trees bounds.frames w.events ≡ Some state
  reached = has.lead.reached

  abbrev turn : Stream → Turned Stream
  turn s = random_turn w.trees bounds w.budget s w.events

  turn_is : (s : Stream) → turn s ≡ random_event w.trees bounds w.budget s w.events state
  turn_is s = ap (λ o. turned_if o (random_event w.trees bounds w.budget s w.events) s w.events) reached

  -- the picks of a thread that may go on
  picks_same : (t count : ℕ) → t < n → may_step w.trees frames state t ≡ true → PicksOf m t count → (s : Stream)
      → pick_of (min count n) s ≡ pick_of (pick_count w.trees frames state t) s
  picks_same t count there may picks s =
      draws_same (λ p. is_enabled w.trees frames state (picked t p)) count may
      (λ k. sym (same.enabled (picked t (suc k))) ∙ picks w.trees bounds (inflated w.trees frames w.events) has.at frames holds.done.program has.shown k)
      n (omega (arith, there)) s
      ∙ ap (λ k. pick_of (count_by (λ p. is_enabled w.trees frames state (picked t p)) (counting 0 k)) s) counts

  module _ (old mid new : List ℕ) (t pick : ℕ) (drawn : IsDrawn m old (Some t) mid) (there : t < n) (may : may_step w.trees frames state t ≡ true) (picks : IsPickDrawn m t mid pick new) where
    thread_is : (t, words_after mid) ≡ drawn_of able (words_after old)
    thread_is =
        drawn w.trees bounds (inflated w.trees frames w.events) has.at holds.done.program has.shown
        ∙ ap (λ (l : List ℕ). drawn_of l (words_after old)) able_is

    abbrev by_pick : ℕ → ℕ × Stream → Turned Stream
    by_pick u p = record { kept = p.1; events = with_picked w.trees bounds w.budget p.0 1 u w.events }

    abbrev by_thread : ℕ × Stream → Turned Stream
    by_thread d = by_pick d.0 (pick_of (pick_count w.trees frames state d.0) d.1)

    pub random_some : turn (words_after old) ≡ record { kept = words_after new; events = with_picked w.trees bounds w.budget pick 1 t w.events }
    random_some =
        turn_is (words_after old) ∙ ap by_thread (sym thread_is)
        ∙ ap (by_pick t) (sym (picks.drawn ∙ picks_same t picks.waiters there may picks.picks (words_after mid)))

  -- ---- where no thread may go on

  module _ (ordered : ArePicksInOrder) (none : MayNone m 0 n) where
    idle : (t : ℕ) → t < n → may_step w.trees frames state t ≡ false
    idle t lt = sym (none t (omega arith) lt w.trees bounds (inflated w.trees frames w.events) has.at holds.done.program has.shown ∙ same.may t)

    past : (t : ℕ) → n ≤ t → may_step w.trees frames state t ≡ false
    past t ge =
        sym (same.may t) ∙ ap (λ (o : Option (StackOf ℕ)). is_enabled_by (step.event_of words w.trees frames has.at (picked t 0) o)) (beyond has.at.stacks t few)
      where
        few : length has.at.stacks ≤ t
        few =
            let tables = (tables_counted w.trees has.at has.shown.typed).stacks in
            let threads = ap length has.shown.represents.world_is.threads in
            omega (arith, ge, tables, threads)

        beyond : (xs : List (StackOf ℕ)) (k : ℕ) → length xs ≤ k → slice_get xs k ≡ None
        beyond [] k le = refl
        beyond (x ∷ xs) zero le = absurd (omega (arith, le))
        beyond (x ∷ xs) (suc k) le = beyond xs k (omega (arith, le))

    no_thread : (t : ℕ) → may_step w.trees frames state t ≡ false
    no_thread t = by (dec_lt t n)
      where
        by : Dec (t < n) → may_step w.trees frames state t ≡ false
        by (yes lt) = idle t lt
        by (no ge) = past t (omega (arith, ge))

    not_enabled : (t p : ℕ) → is_enabled w.trees frames state (picked t p) ≡ false
    not_enabled t p = by (is_enabled w.trees frames state (picked t p)) refl
      where
        by : (b : Bool) → is_enabled w.trees frames state (picked t p) ≡ b → b ≡ false
        by false e = refl
        by true e = absurd (false≢true (sym (no_thread t) ∙ ordered w.trees frames state t 0 p (omega arith) e))

    cant : (t p : ℕ) → can_do w.trees bounds w.budget w.events (picked t p) ≡ false
    cant t p = cant_where_not_enabled w.trees bounds w.budget w.events (picked t p) state reached (not_enabled t p)

    nothing : (t p : ℕ) → with_picked w.trees bounds w.budget p 1 t w.events ≡ w.events
    nothing t p =
        ap (λ b. if nat_lt 0 p && b then w.events ++ picked t p ∷ [] else with_turn w.trees bounds w.budget 1 t w.events) (cant t p)
        ∙ by (nat_lt 0 p)
        ∙ ap (λ b. if b then with_turn w.trees bounds w.budget 0 t (w.events ++ plain t ∷ []) else w.events) (cant t 0)
      where
        by : (b : Bool) → (if b && false then w.events ++ picked t p ∷ [] else with_turn w.trees bounds w.budget 1 t w.events) ≡ with_turn w.trees bounds w.budget 1 t w.events
        by true = refl
        by false = refl

    pub random_none : (s : Stream) → (turn s).events ≡ w.events
    random_none s =
        let place = below (length able) s in
        let t = slice_index able place.0 in
        let pick = pick_of (pick_count w.trees frames state t) place.1 in
        ap (λ (x : Turned Stream). x.events) (turn_is s) ∙ nothing t pick.0
