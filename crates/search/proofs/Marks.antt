-- Marks of numbers from which edges lead to one from which none leads on.
use Rattle.std.proofs.Common.{◌≡◌, ◌⊎◌, inl, inr, ℕ, zero, suc, ◌+◌, ◌<◌, ◌≤◌, ◌==◌, List, [], ◌∷◌, length, get_or, set, replicate, Bool, true, false, not, ◌&&◌, Option, Some, None, refl, sym, ap, subst, ◌∙◌, arith}
use Rattle.std.specs.Prelude.{slice_get, IsTrue, IsFalse}
use Rattle.std.proofs.lemmas.Bool.{false≢true, true≢false, eqb-true, eq-eqb}
use Rattle.std.proofs.lemmas.List.{get_or-set_same, get_or-set_other, length-replicate, length-set}
use Rattle.std.proofs.lemmas.Option.{same_Some, none-some, slice_get_within, get_or_from_slice_get, slice_get-get_or}
use Rattle.run_laws.specs.interleavings.Ends.{Has}
use Rattle.search.specs.declared.edges.Edge.{Edge}
use Rattle.search.specs.Edges.{edge_from, AreBelow, IsLast, LeadsToLast, Last, Along, is_marked, is_open, AreMarked, unmarked, AreClosed, DoLead, IsEndlessNumber, IsFirstUnmarked, Sweeps}

-- ---- marks that are set

abbrev Same : ℕ → ℕ → Type 0
Same i j = (i ≡ j) ⊎ (i ≡ j → ⊥)

same_or : (i j : ℕ) → Same i j
same_or i j = by (i == j) refl
  where
    by : (b : Bool) → (i == j) ≡ b → Same i j
    by true e = inl (eqb-true i j e)
    by false e = inr (λ q. false≢true (sym e ∙ eq-eqb i j q))

-- a mark past the last one is none
marked_within : (marks : List Bool) (node : ℕ) → is_marked marks node ≡ true → node < length marks
marked_within [] node e = absurd (false≢true e)
marked_within (m ∷ marks) zero e = omega arith
marked_within (m ∷ marks) (suc node) e = omega (arith, marked_within marks node e)

module _ (marks : List Bool) (i : ℕ) (within : i < length marks) where
  own : (b : Bool) → is_marked (set marks i b) i ≡ b
  own b = get_or-set_same marks i b false within

  other : (b : Bool) (node : ℕ) → (node ≡ i → ⊥) → is_marked (set marks i b) node ≡ is_marked marks node
  other b node apart = get_or-set_other marks i node b false apart

  still : (node : ℕ) → is_marked marks node ≡ true → is_marked (set marks i true) node ≡ true
  still node e = elim (same_or node i) [
    | inl same ↦ ap (is_marked (set marks i true)) same ∙ own true
    | inr apart ↦ other true node apart ∙ e
  ]

-- one more is marked
one_fewer : (marks : List Bool) (i : ℕ) → i < length marks → is_marked marks i ≡ false → unmarked (set marks i true) + 1 ≡ unmarked marks
one_fewer [] i within off = absurd (omega (arith, within))
one_fewer (true ∷ marks) zero within off = absurd (true≢false off)
one_fewer (false ∷ marks) zero within off = let e : unmarked marks + 1 ≡ suc (unmarked marks) = omega arith in e
one_fewer (true ∷ marks) (suc i) within off = one_fewer marks i (omega (arith, within)) off
one_fewer (false ∷ marks) (suc i) within off =
    let e = one_fewer marks i (omega (arith, within)) off in
    let more : suc (unmarked (set marks i true)) + 1 ≡ suc (unmarked marks) = omega (arith, e) in
    more

-- ---- numbers from which no edge leads

-- of the first edges
abbrev NoneBelow : List Edge → (at node : ℕ) → Type 0
NoneBelow edges at node = (j : ℕ) (edge : Edge) → j < at → slice_get edges j ≡ Some edge → edge.node ≡ node → ⊥

pub record AreCleared (edges : List Edge) (count at : ℕ) (marks : List Bool) : Type 0 where
  pub many : length marks ≡ count
  pub marked : (node : ℕ) → is_marked marks node ≡ true → NoneBelow edges at node
  pub all : (node : ℕ) → node < count → NoneBelow edges at node → is_marked marks node ≡ true

all_true : (count node : ℕ) → node < count → is_marked (replicate count true) node ≡ true
all_true zero node lt = absurd (omega (arith, lt))
all_true (suc count) zero lt = refl
all_true (suc count) (suc node) lt = all_true count node (omega (arith, lt))

pub none_cleared : (edges : List Edge) (count : ℕ) (marks : List Bool) → marks ≡ replicate count true → AreCleared edges count 0 marks
none_cleared edges count marks is = record {
  many = ap length is ∙ length-replicate count true;
  marked = λ node e j edge lt. absurd (omega (arith, lt));
  all = λ node lt none. ap (λ l. is_marked l node) is ∙ all_true count node lt;
}

pub one_cleared : (edges : List Edge) (count at : ℕ) (marks : List Bool) (edge : Edge) → slice_get edges at ≡ Some edge → AreBelow count edges → AreCleared edges count at marks
    → AreCleared edges count (at + 1) (set marks edge.node false)
one_cleared edges count at marks edge is below c = record {
  many = length-set marks edge.node false ∙ c.many;
  marked = λ node e j one lt at_j same. by node e j one at_j same (same_or node edge.node) (same_or j at) lt;
  all = λ node lt none.
      let apart : node ≡ edge.node → ⊥ = λ e. none at edge (omega arith) is (sym e) in
      other marks edge.node within false node apart ∙ c.all node lt (λ j one less. none j one (omega (arith, less)));
}
  where
    within : edge.node < length marks
    within = omega (arith, c.many, (below edge (at, is)).0)

    by : (node : ℕ) → is_marked (set marks edge.node false) node ≡ true → (j : ℕ) (one : Edge) → slice_get edges j ≡ Some one → one.node ≡ node
        → Same node edge.node → Same j at → j < at + 1 → ⊥
    by node e j one at_j same (inl here) last lt = true≢false (sym e ∙ (ap (is_marked (set marks edge.node false)) here ∙ own marks edge.node within false))
    by node e j one at_j same (inr apart) (inl last) lt =
        let equal : edge ≡ one = same_Some edge one (sym is ∙ (ap (slice_get edges) (sym last) ∙ at_j)) in
        apart (sym same ∙ ap (λ (x : Edge). x.node) (sym equal))
    by node e j one at_j same (inr apart) (inr less) lt =
        c.marked node (sym (other marks edge.node within false node apart) ∙ e) j one (omega (arith, lt, less)) at_j same

pub all_cleared : (edges : List Edge) (count at : ℕ) (marks : List Bool) → length edges ≤ at → AreCleared edges count at marks → AreMarked (IsLast edges) count marks
all_cleared edges count at marks le c = record {
  many = c.many;
  marked = λ node e to has. c.marked node e has.0 (edge_from node to) (omega (arith, le, slice_get_within edges has.0 (edge_from node to) has.1)) has.1 refl;
  all = λ node lt last. c.all node lt (λ j edge less is same. last edge.to (j, is ∙ ap (λ n. Some (edge_from n edge.to)) same));
}

module _ (edges : List Edge) (count at : ℕ) (marks : List Bool) (below : AreBelow count edges) (c : AreCleared edges count at marks) (lt : at < length edges) where
  abbrev cleared : Edge
  cleared = get_or edges at (edge_from 0 0)

  there : slice_get edges at ≡ Some cleared
  there = slice_get-get_or edges at (edge_from 0 0) lt

  pub cleared_within : cleared.node < length marks
  cleared_within = omega (arith, c.many, (below cleared (at, there)).0)

  pub cleared_at : AreCleared edges count (at + 1) (set marks cleared.node false)
  cleared_at = one_cleared edges count at marks cleared there below c

-- ---- one sweep

-- over as many of the last edges
pub record IsSwept (edges : List Edge) (old : List Bool) (at : ℕ) (is_more : Bool) (marks : List Bool) : Type 0 where
  pub many : length marks ≡ length old
  pub kept : (node : ℕ) → is_marked old node ≡ true → is_marked marks node ≡ true
  pub lead : DoLead edges old → DoLead edges marks
  pub few : unmarked marks ≤ unmarked old
  pub fewer : is_more ≡ true → unmarked marks < unmarked old
  pub same : is_more ≡ false → marks ≡ old
  pub closed : is_more ≡ false → (j : ℕ) (edge : Edge) → length edges ≤ j + at → slice_get edges j ≡ Some edge → is_marked marks edge.to ≡ true → is_marked marks edge.node ≡ true

pub not_swept : (edges : List Edge) (old : List Bool) → IsSwept edges old 0 false old
not_swept edges old = record {
  many = refl;
  kept = λ node e. e;
  lead = λ lead. lead;
  few = omega arith;
  fewer = λ e. absurd (false≢true e);
  same = λ e. refl;
  closed = λ e j edge le is. absurd (omega (arith, le, slice_get_within edges j edge is));
}

module _ (edges : List Edge) (old : List Bool) (at : ℕ) (is_more : Bool) (marks : List Bool) (s : IsSwept edges old at is_more marks) (below : AreBelow (length old) edges) (k : ℕ) (edge : Edge)
    (is : slice_get edges k ≡ Some edge) where
  -- it is marked
  pub one_marked : is_marked marks edge.to ≡ true → is_marked marks edge.node ≡ false → IsSwept edges old (at + 1) true (set marks edge.node true)
  one_marked to_on node_off = record {
    many = length-set marks edge.node true ∙ s.many;
    kept = λ node e. still marks edge.node within node (s.kept node e);
    lead = λ lead node e. by node e (s.lead lead) (same_or node edge.node);
    few = omega (arith, s.few, less);
    fewer = λ e. omega (arith, s.few, less);
    same = λ e. absurd (true≢false e);
    closed = λ e. absurd (true≢false e);
  }
    where
      within : edge.node < length marks
      within = omega (arith, s.many, (below edge (k, is)).0)

      less : unmarked (set marks edge.node true) + 1 ≡ unmarked marks
      less = one_fewer marks edge.node within node_off

      by : (node : ℕ) → is_marked (set marks edge.node true) node ≡ true → DoLead edges marks → Same node edge.node → LeadsToLast edges node
      by node e lead (inl here) = subst (LeadsToLast edges) (sym here) (Along edge.node edge.to (k, is) (lead edge.to to_on))
      by node e lead (inr apart) = lead node (sym (other marks edge.node within true node apart) ∙ e)

  -- it isn't to be marked
  pub none_marked : k + (at + 1) ≡ length edges → (is_marked marks edge.to ≡ true → is_marked marks edge.node ≡ true) → IsSwept edges old (at + 1) is_more marks
  none_marked place holds = record {
    many = s.many;
    kept = s.kept;
    lead = s.lead;
    few = s.few;
    fewer = s.fewer;
    same = s.same;
    closed = λ e j one le there. by e j one le there (same_or j k);
  }
    where
      by : is_more ≡ false → (j : ℕ) (one : Edge) → length edges ≤ j + (at + 1) → slice_get edges j ≡ Some one → Same j k → is_marked marks one.to ≡ true → is_marked marks one.node ≡ true
      by e j one le there (inl here) =
          let equal : edge ≡ one = same_Some edge one (sym is ∙ (ap (slice_get edges) (sym here) ∙ there)) in
          subst (λ (x : Edge). is_marked marks x.to ≡ true → is_marked marks x.node ≡ true) equal holds
      by e j one le there (inr apart) = s.closed e j one (omega (arith, le, apart, place)) there

pub all_swept : (edges : List Edge) (old : List Bool) (at : ℕ) (is_more : Bool) (marks : List Bool) → length edges ≤ at → IsSwept edges old at is_more marks → Sweeps edges is_more old marks
all_swept edges old at is_more marks le s = record {
  many = s.many;
  kept = s.kept;
  lead = s.lead;
  fewer = s.fewer;
  same = s.same;
  closed = λ e edge has. s.closed e has.0 edge (omega (arith, le)) has.1;
}

-- an edge that isn't open
not_open : (a b : Bool) → (a && not b) ≡ false → a ≡ true → b ≡ true
not_open true true e on = refl
not_open true false e on = absurd (true≢false e)
not_open false b e on = absurd (false≢true on)

open_parts : (a b : Bool) → (a && not b) ≡ true → (a ≡ true) × (b ≡ false)
open_parts true true e = absurd (false≢true e)
open_parts true false e = (refl, refl)
open_parts false b e = absurd (false≢true e)

-- by that test
module _ (edges : List Edge) (old : List Bool) (at : ℕ) (is_more : Bool) (marks : List Bool) (s : IsSwept edges old at is_more marks) (below : AreBelow (length old) edges) (k : ℕ)
    (lt : k < length edges) where
  abbrev edge : Edge
  edge = get_or edges k (edge_from 0 0)

  is : slice_get edges k ≡ Some edge
  is = slice_get-get_or edges k (edge_from 0 0) lt

  pub node_within : edge.node < length marks
  node_within = omega (arith, s.many, (below edge (k, is)).0)

  pub to_within : edge.to < length marks
  to_within = omega (arith, s.many, (below edge (k, is)).1)

  pub opened : is_open marks edge ≡ true → IsSwept edges old (at + 1) true (set marks edge.node true)
  opened e = let p = open_parts (is_marked marks edge.to) (is_marked marks edge.node) e in one_marked edges old at is_more marks s below k edge is p.0 p.1

  pub passed : k + (at + 1) ≡ length edges → is_open marks edge ≡ false → IsSwept edges old (at + 1) is_more marks
  passed place e = none_marked edges old at is_more marks s below k edge is place (not_open (is_marked marks edge.to) (is_marked marks edge.node) e)

-- ---- all sweeps

pub record IsSpread (edges : List Edge) (count : ℕ) (is_more : Bool) (marks : List Bool) : Type 0 where
  pub many : length marks ≡ count
  pub lead : DoLead edges marks
  pub last : (node : ℕ) → node < count → IsLast edges node → is_marked marks node ≡ true
  pub closed : is_more ≡ false → AreClosed edges marks

pub not_spread : (edges : List Edge) (count : ℕ) (marks : List Bool) → AreMarked (IsLast edges) count marks → IsSpread edges count true marks
not_spread edges count marks m = record {
  many = m.many;
  lead = λ node e. Last node (m.marked node e);
  last = m.all;
  closed = λ e. absurd (true≢false e);
}

pub all_spread : (edges : List Edge) (count : ℕ) (marks : List Bool) → AreBelow count edges → IsSpread edges count false marks → AreMarked (LeadsToLast edges) count marks
all_spread edges count marks below s = record { many = s.many; marked = s.lead; all = all }
  where
    all : (node : ℕ) → node < count → LeadsToLast edges node → is_marked marks node ≡ true
    all node lt (Last one none) = s.last node lt none
    all node lt (Along one to has leads) = s.closed refl (edge_from node to) has (all to (below (edge_from node to) has).1 leads)

-- one more sweep
pub more_spread : (edges : List Edge) (count : ℕ) (is_more : Bool) (old new : List Bool) → IsSpread edges count true old → Sweeps edges is_more old new → IsSpread edges count is_more new
more_spread edges count is_more old new s swept = record {
  many = swept.many ∙ s.many;
  lead = swept.lead s.lead;
  last = λ node lt last. swept.kept node (s.last node lt last);
  closed = swept.closed;
}

-- how often there may be a further one
abbrev pub left : Bool → List Bool → ℕ
left true marks = unmarked marks + 1
left false marks = unmarked marks

pub fewer_left : (edges : List Edge) (is_more : Bool) (old new : List Bool) → Sweeps edges is_more old new → left is_more new < left true old
fewer_left edges true old new swept = let e = swept.fewer refl in let lt : unmarked new + 1 < unmarked old + 1 = omega (arith, e) in lt
fewer_left edges false old new swept = let e = ap unmarked (swept.same refl) in let lt : unmarked new < unmarked old + 1 = omega (arith, e) in lt

-- ---- the first that isn't marked

pub endless_by : (edges : List Edge) (count : ℕ) (marks : List Bool) → AreMarked (LeadsToLast edges) count marks → (found : Option ℕ) → IsFirstUnmarked marks found → IsEndlessNumber edges count found
endless_by edges count marks m None all = λ node lt. m.marked node (all node (omega (arith, lt, m.many)))
endless_by edges count marks m (Some node) first = (omega (arith, first.0, m.many), λ leads. true≢false (sym (m.all node (omega (arith, first.0, m.many)) leads) ∙ first.1))
