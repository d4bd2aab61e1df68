-- The search keeps its invariant; at its end there is a typing, and where it fails there is none.
use Rattle.std.proofs.Common.{◌≡◌, ℕ, List, [], ◌∷◌, ◌++◌, Bool, true, false, Some, None, sym, ap, ◌∙◌, subst, inl, inr, ◌⊎◌}
use Rattle.std.proofs.lemmas.Option.{same_Some}
use Rattle.model.specs.Names.{Member}
use Rattle.model.specs.Classes.{Program, Body}
use Rattle.model.specs.TypeOrder.{FrameType, is_frame_below}
use Rattle.model.specs.Typing.{Typing, Reaches, Rule, IsTyping, entry_type, flow}
use Rattle.run_laws.specs.laws.Steps.{Rooted}
use Rattle.run_laws.proofs.laws.Lists.{every_append, every_weaken}
use Rattle.run_laws.specs.typing_search.Orders.{IsOrdered, AreBelow}
use Rattle.run_laws.specs.typing_search.Search.{AreReached, Raised, Search, Merged, Clashes, HasNoTyping, IsUntyped, IsTakenOff}
use Rattle.run_laws.proofs.typing_search.Orders.{frame_self, frame_trans}
use Rattle.run_laws.proofs.typing_search.Flows.{flow_down}

pub reached_parts : (files : Program) (F : Typing) (xs ys : List (ℕ × FrameType)) → AreReached files F (xs ++ ys)
    → AreReached files F xs × AreReached files F ys
reached_parts files F [] ys w = (tt, w)
reached_parts files F (x ∷ xs) ys w = let q = reached_parts files F xs ys w.1 in ((w.0, q.0), q.1)

pub raised_self : (files : Program) (F : Typing) → Raised files F F
raised_self files F k t e = record { there = t; typed = e; above = frame_self files t }

-- ---- reaching

module _ (files : Program) (rooted : Rooted files) where
  pub reaches_up : (F G : Typing) → Raised files F G → (to : ℕ) (t : FrameType) → Reaches files F to t → Reaches files G to t
  reaches_up F G up to t r =
      let q = up to r.there r.typed in
      record { there = q.there; typed = q.typed; above = frame_trans files rooted t r.there q.there r.above q.above }

  pub all_up : (F G : Typing) → Raised files F G → (leads : List (ℕ × FrameType)) → AreReached files F leads → AreReached files G leads
  all_up F G up leads w = every_weaken _ _ leads (λ lead q. reaches_up F G up lead.0 lead.1 q) w

  pub raised_trans : (F G H : Typing) → Raised files F G → Raised files G H → Raised files F H
  raised_trans F G H f g k t e = reaches_up G H g k t (f k t e)

  -- what leads lower, where all that it leads to is reached
  reached_down : (F : Typing) (xs ys : List (ℕ × FrameType)) → AreBelow files xs ys → AreReached files F ys → AreReached files F xs
  reached_down F [] [] l w = tt
  reached_down F [] (y ∷ ys) l w = absurd l
  reached_down F (x ∷ xs) [] l w = absurd l
  reached_down F (x ∷ xs) (y ∷ ys) l w =
      (subst (λ k. Reaches files F k x.1) (sym l.0) (record { there = w.0.there; typed = w.0.typed; above = frame_trans files rooted x.1 y.1 w.0.there l.1 w.0.above }), reached_down F xs ys l.2 w.1)

  -- ---- merging

  module _ (body : Body) where
    pub merged_nothing : (F : Typing) (P : ℕ → Bool) → Merged files body F P [] F P
    merged_nothing F P = record { starts = λ z. z; sized = λ z. z; raised = raised_self files F; waiting = λ k t a b. (a, b); reached = tt; least = λ H h w. h }

    pub merged_then : (F G H : Typing) (P Q R : ℕ → Bool) (xs ys : List (ℕ × FrameType)) → Merged files body F P xs G Q
        → Merged files body G Q ys H R → Merged files body F P (xs ++ ys) H R
    merged_then F G H P Q R xs ys a b =
        record {
          starts = λ z. b.starts (a.starts z);
          sized = λ z. b.sized (a.sized z);
          raised = raised_trans F G H a.raised b.raised;
          waiting = λ k t e f. let q = b.waiting k t e f in a.waiting k t q.0 q.1;
          reached = every_append _ xs ys (all_up G H b.raised xs a.reached) b.reached;
          least = λ K k w. let q = reached_parts files K xs ys w in b.least K (a.least K k q.0) q.1;
        }

    pub merged_before : (F G H : Typing) (P Q R : ℕ → Bool) (lead : ℕ × FrameType) (done : List (ℕ × FrameType))
        → Merged files body F P done G Q → Merged files body G Q (lead ∷ []) H R → Merged files body F P (lead ∷ done) H R
    merged_before F G H P Q R lead done a b =
        record {
          starts = λ z. b.starts (a.starts z);
          sized = λ z. b.sized (a.sized z);
          raised = raised_trans F G H a.raised b.raised;
          waiting = λ k t e f. let q = b.waiting k t e f in a.waiting k t q.0 q.1;
          reached = (b.reached.0, all_up G H b.raised done a.reached);
          least = λ K k w. b.least K (a.least K k w.1) (w.0, tt);
        }

    module _ (method : Member) where
      pub clash_then : (F G : Typing) (P Q : ℕ → Bool) (xs ys zs : List (ℕ × FrameType)) → Merged files body F P xs G Q
          → Clashes files method body G ys → Clashes files method body F (xs ++ (ys ++ zs))
      clash_then F G P Q xs ys zs a c K h k w =
          let q = reached_parts files K xs (ys ++ zs) w in
          let r = reached_parts files K ys zs q.1 in
          c K h (a.least K k q.0) r.0

      pub clash_before : (F G : Typing) (P Q : ℕ → Bool) (left : List (ℕ × FrameType)) (lead : ℕ × FrameType) (done : List (ℕ × FrameType))
          → Merged files body F P done G Q → Clashes files method body G (lead ∷ []) → Clashes files method body F (left ++ (lead ∷ done))
      clash_before F G P Q left lead done a c K h k w =
          let q = reached_parts files K left (lead ∷ done) w in
          c K h (a.least K k q.1.1) (q.1.0, tt)

      -- ---- the beginning and the end

      none_typed : (F : Typing) → IsUntyped F → (k : ℕ) (t : FrameType) → F k ≡ Some t → ⊥
      none_typed F u k t e = none_some t (sym (u k) ∙ e)
        where
          none_some : (x : FrameType) → None ≡ Some x → ⊥
          none_some x q = absurd cc

      pub search_begins : (F : Typing) (P : ℕ → Bool) (G : Typing) (Q : ℕ → Bool) → IsUntyped F
          → Merged files body F P ((0, entry_type files method body) ∷ []) G Q → Search files method body G Q
      search_begins F P G Q u w =
          record {
            starts = w.starts (λ k t e. absurd (none_typed F u k t e));
            sized = w.sized (λ k t e. absurd (none_typed F u k t e));
            begins = w.reached.0;
            agrees = λ k t a b. absurd (none_typed F u k t (w.waiting k t a b).0);
            least = λ H h. w.least H (λ k t e. absurd (none_typed F u k t e)) (h.begins, tt);
          }

      pub beginning_refused : (F : Typing) → IsUntyped F → Clashes files method body F ((0, entry_type files method body) ∷ [])
          → HasNoTyping files method body
      beginning_refused F u c H h = c H h (λ k t e. absurd (none_typed F u k t e)) (h.begins, tt)

      pub search_ends : (F : Typing) (P : ℕ → Bool) → Search files method body F P → ((k : ℕ) → P k ≡ false) → IsTyping files method body F
      search_ends F P s none = record { begins = s.begins; starts = s.starts; sized = s.sized; agrees = λ k t e. s.agrees k t e (none k) }

-- ---- a turn

module _ (files : Program) (ordered : IsOrdered files) (method : Member) (body : Body) where
  -- a rule at a frame type above is kept at each below
  pub rule_down : (F : Typing) (offset : ℕ) (a b : FrameType) → is_frame_below files a b ≡ true → Rule files method body F offset b
      → Rule files method body F offset a
  rule_down F offset a b f r =
      let d = flow_down files ordered method body offset a b r.leads f r.flows in
      record { leads = d.lower; flows = d.flows; reached = reached_down files ordered.rooted F d.lower r.leads d.below r.reached }

  -- a typing keeps the rule at what the search has found
  pub typed_rule : (F : Typing) (P : ℕ → Bool) → Search files method body F P → (G : Typing) → IsTyping files method body G → (offset : ℕ)
      (t : FrameType) → F offset ≡ Some t → Rule files method body G offset t
  typed_rule F P s G g offset t e =
      let q = s.least G g offset t e in
      rule_down G offset t q.there q.above (g.agrees offset q.there q.typed)

  reached_of : (G : Typing) (offset : ℕ) (t : FrameType) (leads : List (ℕ × FrameType)) → flow files method body offset t ≡ Some leads
      → Rule files method body G offset t → AreReached files G leads
  reached_of G offset t leads n r = subst (AreReached files G) (same_Some r.leads leads (sym r.flows ∙ n)) r.reached

  pub refused_rule : (F : Typing) (P : ℕ → Bool) (offset : ℕ) (t : FrameType) → Search files method body F P → F offset ≡ Some t
      → flow files method body offset t ≡ None → HasNoTyping files method body
  refused_rule F P offset t s e n G g = both_ways _ (typed_rule F P s G g offset t e).flows n
    where
      both_ways : (leads : List (ℕ × FrameType)) → flow files method body offset t ≡ Some leads → flow files method body offset t ≡ None → ⊥
      both_ways leads p q = some_none leads (sym p ∙ q)
        where
          some_none : (x : List (ℕ × FrameType)) → Some x ≡ None → ⊥
          some_none x e = absurd cc

  pub refused_merge : (F : Typing) (P : ℕ → Bool) (offset : ℕ) (t : FrameType) (leads : List (ℕ × FrameType))
      → Search files method body F P → F offset ≡ Some t → flow files method body offset t ≡ Some leads → Clashes files method body F leads
      → HasNoTyping files method body
  refused_merge F P offset t leads s e n w G g = w G g (s.least G g) (reached_of G offset t leads n (typed_rule F P s G g offset t e))

  -- an offset is taken off, and what it leads to is merged
  pub search_turn : (F : Typing) (P P' : ℕ → Bool) (offset : ℕ) (t : FrameType) (leads : List (ℕ × FrameType)) (G : Typing) (Q : ℕ → Bool)
      → Search files method body F P → F offset ≡ Some t → flow files method body offset t ≡ Some leads → IsTakenOff offset P P'
      → Merged files body F P' leads G Q → Search files method body G Q
  search_turn F P P' offset t leads G Q s e n only w =
      record {
        starts = w.starts s.starts;
        sized = w.sized s.sized;
        begins = reaches_up files ordered.rooted F G w.raised 0 (entry_type files method body) s.begins;
        agrees = λ k u a b. after k u (w.waiting k u a b) (only k);
        least = λ H h. w.least H (s.least H h) (reached_of H offset t leads n (typed_rule F P s H h offset t e));
      }
    where
      up : (k : ℕ) (u : FrameType) → Rule files method body F k u → Rule files method body G k u
      up k u r = record { leads = r.leads; flows = r.flows; reached = all_up files ordered.rooted F G w.raised r.leads r.reached }

      after : (k : ℕ) (u : FrameType) → (F k ≡ Some u) × (P' k ≡ false) → (k ≡ offset) ⊎ (P' k ≡ P k) → Rule files method body G k u
      after k u x (inl q) =
          let there : t ≡ u = same_Some t u (sym e ∙ (ap F (sym q) ∙ x.0)) in
          record { leads = leads; flows = subst (λ i. flow files method body i u ≡ Some leads) (sym q) (subst (λ y. flow files method body offset y ≡ Some leads) there n); reached = w.reached }
      after k u x (inr q) = up k u (s.agrees k u x.0 (sym q ∙ x.1))
