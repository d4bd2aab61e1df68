-- Threads that wait in a circle are met.
use Rattle.std.proofs.Common.{◌≡◌, ℕ, List, [], ◌∷◌, Some, sym, ap, ◌∙◌, subst}
use Rattle.std.proofs.lemmas.Option.{same_Some}
use Rattle.model.specs.declared.event.Event.{Event}
use Rattle.model.specs.Accepted.{IsAccepted}
use Rattle.model.specs.Classes.{Program}
use Rattle.model.specs.ClassInitialisation.{status_of}
use Rattle.model.specs.Monitors.{owns, monitor_at}
use Rattle.model.specs.Operands.{words, values}
use Rattle.model.specs.Run.{run_from}
use Rattle.model.specs.State.{State, StateOf}
use Rattle.model.specs.Step.{step}
use Rattle.run_laws.proofs.laws.LinkedOf.{linked_of}
use Rattle.search_laws.specs.Alone.{AreOfOthers, HaveSameWords, passing, next_event}
use Rattle.search_laws.specs.KeptStates.{IsReached}
use Rattle.search_laws.specs.Waits.{Need, MonitorOf, ClassOf, IsHeldBy, next_need, WaitsFor, WaitInTurn, IsCircle, AreCirclesMet, AreCirclesForEver, AreWaitersHeldBack}
use Rattle.search_laws.proofs.NeedsByWords.{need_by_words}
use Rattle.search_laws.proofs.Runs.{first_of}
use Rattle.search_laws.proofs.Verdicts.{alike, lasting_met, reached_next}
use Rattle.search_laws.proofs.WaitsLast.{waits_nowhere, waits_next, circle_next}

module _ (files : List (List ℕ)) (trees : Program) (accepted : IsAccepted files trees) (frames : ℕ) (one other : State)
    (l : HaveSameWords trees one other) where
  need_same : (t : ℕ) → next_need values trees frames other t ≡ next_need values trees frames one t
  need_same t =
      let rooted = (linked_of files trees accepted.linkable.spelled accepted.linkable.no_refusal).rooted in
      sym (need_by_words trees rooted frames other l.other_typed t)
      ∙ (ap (λ (w : StateOf ℕ). next_need words trees frames w t) l.same ∙ need_by_words trees rooted frames one l.one_typed t)

  held_same : (u : ℕ) (need : Need) → IsHeldBy one.world u need → IsHeldBy other.world u need
  held_same u (MonitorOf object) h =
      ap (λ (w : StateOf ℕ). owns u (monitor_at w.world.monitors object).owner) l.same ∙ h
  held_same u (ClassOf class) h = ap (λ (w : StateOf ℕ). status_of w.world class) l.same ∙ h

  waits_same : (t u : ℕ) → WaitsFor trees frames t u one → WaitsFor trees frames t u other
  waits_same t u w =
      record { differ = w.differ; need = w.need; needs = need_same t ∙ w.needs; held = held_same u w.need w.held }

  turn_same : (first t : ℕ) (threads : List ℕ) → WaitInTurn trees frames first t threads one → WaitInTurn trees frames first t threads other
  turn_same first t [] w = waits_same t first w
  turn_same first t (u ∷ threads) w = (waits_same t u w.0, turn_same first u threads w.1)

pub circles_met : AreCirclesMet
circles_met files trees frames conflict graph w t threads s r circle =
    let accepted = w.search.accepted in
    lasting_met files trees accepted frames (passing conflict) (alike files trees frames conflict graph w.search) graph w.search.explored w.expanded
    (IsCircle trees frames t threads)
    (λ one other l x. turn_same files trees accepted frames one other l t t threads x)
    (λ z first v reached free goes x. circle_next files trees accepted frames z first (next_event v) reached goes t threads x)
    s r circle

-- ---- for ever

module _ (files : List (List ℕ)) (trees : Program) (accepted : IsAccepted files trees) (frames : ℕ) where
  -- who waits has no event
  no_event : (state : State) → IsReached trees frames state → (t u : ℕ) → WaitsFor trees frames t u state → (pick : ℕ) (next : State)
      → step trees frames state (record { thread = t; pick = pick }) ≡ Some next → ⊥
  no_event state r t u w pick next e = waits_nowhere files trees accepted frames state next (record { thread = t; pick = pick }) r e u w

  first_waits : (start t : ℕ) (threads : List ℕ) (state : State) → WaitInTurn trees frames start t threads state
      → (u : ℕ) × WaitsFor trees frames t u state
  first_waits start t [] state w = (start, w)
  first_waits start t (u ∷ threads) state w = (u, w.0)

  circle_on : (events : List Event) (state later : State) → IsReached trees frames state → (t : ℕ) (threads : List ℕ)
      → IsCircle trees frames t threads state → run_from trees frames state events ≡ Some later
      → IsCircle trees frames t threads later × IsReached trees frames later
  circle_on [] state later r t threads c run =
      let same = same_Some state later run in (subst (IsCircle trees frames t threads) same c, subst (IsReached trees frames) same r)
  circle_on (event ∷ events) state later r t threads c run =
      let f = first_of trees frames state later event events run in
      circle_on events f.0 later (reached_next files trees accepted frames state f.0 event r f.1.0) t threads (circle_next files trees accepted frames state f.0 event r f.1.0 t threads c) f.1.1

  held_on : (others : List Event) (state later : State) → IsReached trees frames state → (t u : ℕ) → WaitsFor trees frames t u state
      → AreOfOthers u others → run_from trees frames state others ≡ Some later → WaitsFor trees frames t u later × IsReached trees frames later
  held_on [] state later r t u w are run =
      let same = same_Some state later run in (subst (WaitsFor trees frames t u) same w, subst (IsReached trees frames) same r)
  held_on (event ∷ others) state later r t u w are run =
      let f = first_of trees frames state later event others run in
      let t_not : t ≡ event.thread → ⊥ = λ q.
      waits_nowhere files trees accepted frames state f.0 event r f.1.0 u (subst (λ z. WaitsFor trees frames z u state) q w)
      in
      held_on others f.0 later (reached_next files trees accepted frames state f.0 event r f.1.0) t u (waits_next files trees accepted frames state f.0 event r f.1.0 t u t_not are.0 w) are.1 f.1.1

pub circles_for_ever : AreCirclesForEver
circles_for_ever files trees accepted frames state r t threads c events later run =
    let x = circle_on files trees accepted frames events state later r t threads c run in
    let w = first_waits files trees accepted frames t t threads later x.0 in
    (x.0, λ pick next e. no_event files trees accepted frames later x.1 t w.0 w.1 pick next e)

pub waiters_held_back : AreWaitersHeldBack
waiters_held_back files trees accepted frames state r t u w others later are run =
    let x = held_on files trees accepted frames others state later r t u w are run in
    (x.0, λ pick next e. no_event files trees accepted frames later x.1 t u x.0 pick next e)
