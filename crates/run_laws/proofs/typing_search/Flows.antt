-- The rule of an instruction goes down the order of frame types.
use Rattle.std.proofs.Common.{◌≡◌, ℕ, List, [], ◌∷◌, ◌++◌, map, Bool, true, false, not, ◌&&◌, ◌||◌, cond, Option, Some, None, refl, sym, ap, subst}
use Rattle.std.specs.List.{list_any}
use Rattle.std.specs.Option.{option_map_or}
use Rattle.std.proofs.lemmas.Bool.{false≢true, and_parts, and_from, cond-true}
use Rattle.std.proofs.lemmas.Option.{same_Some}
use Rattle.model.specs.declared.class_file.ExceptionEntry.{ExceptionEntry}
use Rattle.model.specs.declared.instr.Instr.{Instr}
use Rattle.model.specs.declared.instr.Instr.TheVariants as instr
use Rattle.model.specs.declared.instr.Invocation.TheVariants as invocation
use Rattle.model.specs.declared.value.Value.{Value}
use Rattle.model.specs.Names.{Member}
use Rattle.model.specs.Tree.{Entry}
use Rattle.model.specs.Pool.{method_at}
use Rattle.model.specs.Classes.{Program, Body}
use Rattle.model.specs.Types.{VerificationType, type_meets}
use Rattle.model.specs.Operands.{Slots, values, over_types, is_ready, operands}
use Rattle.model.specs.TypeOrder.{FrameType, is_mark_below, is_stack_below, is_frame_below}
use Rattle.model.specs.Sites.{MeaningOf, Site, site_at}
use Rattle.model.specs.Meanings.{meaning_of}
use Rattle.model.specs.Step.{covers}
use Rattle.model.specs.Typing.{is_constructor, may_stand, is_any_this, constructs_this, marked, successors, caught_type, handler_type, handlers_from, flow_by, flow_at, flow}
use Rattle.run_laws.proofs.laws.Lists.{Pairwise}
use Rattle.run_laws.specs.typing_search.Orders.{IsOrdered, AreBelow, FlowsBelow}
use Rattle.run_laws.proofs.typing_search.Orders.{Below, below_parts, from_parts, stack_self}
use Rattle.run_laws.proofs.typing_search.Rows.{SlotsBelow, ready_down, operands_down}
use Rattle.run_laws.proofs.typing_search.Uninitialised.{any_made_same, any_this_same}
use Rattle.run_laws.proofs.typing_search.Leads.{LeadsBelow, IsDown, IsEachDown, meaning_down}

below_append : (files : Program) (xs ys us vs : List (ℕ × FrameType)) → AreBelow files xs ys → AreBelow files us vs
    → AreBelow files (xs ++ us) (ys ++ vs)
below_append files [] [] us vs f g = g
below_append files [] (y ∷ ys) us vs f g = absurd f
below_append files (x ∷ xs) [] us vs f g = absurd f
below_append files (x ∷ xs) (y ∷ ys) us vs f g = (f.0, f.1, below_append files xs ys us vs f.2 g)

-- ---- marks

mark_or : (a b x : Bool) → is_mark_below a b ≡ true → is_mark_below (a || x) (b || x) ≡ true
mark_or true b x p = refl
mark_or false true x p = absurd (false≢true p)
mark_or false false true p = refl
mark_or false false false p = refl

mark_from : (free a b : Bool) → is_mark_below a b ≡ true → (free || b) ≡ true → (free || a) ≡ true
mark_from true a b p q = refl
mark_from false true b p q = refl
mark_from false false true p q = absurd (false≢true p)
mark_from false false false p q = q

-- a call constructs `this` or not by whether `this` is among its operands
constructs_same : (site : Site) (xs ys : List VerificationType) (i : Instr) → list_any is_any_this xs ≡ list_any is_any_this ys
    → constructs_this site xs i ≡ constructs_this site ys i
constructs_same site xs ys (instr.Invoke invocation.Special index) e = ap (λ b. option_map_or is_constructor (method_at site.body.pool index) false && b) e
constructs_same site xs ys _ e = refl

module _ (files : Program) (a b : FrameType) (f : Below files a b) where
  slots_below : SlotsBelow files a.slots b.slots
  slots_below = record { locals = f.locals; stack = f.stack }

  -- ---- what is asked beyond the operands

  stand_down : (site : Site) (i : Instr) → may_stand site b i ≡ true → may_stand site a i ≡ true
  stand_down site (instr.New index) e = subst (λ x. not x ≡ true) (sym (any_made_same files site.offset a.slots.stack b.slots.stack f.stack)) e
  stand_down site (instr.Return kind) e = mark_from (not (is_constructor site.method)) a.constructed b.constructed f.mark e
  stand_down site _ e = refl

  -- ---- successors and handlers

  marked_below : (x y : Bool) → is_mark_below x y ≡ true → (us vs : List (ℕ × Slots VerificationType)) → LeadsBelow files us vs
      → AreBelow files (map (marked x) us) (map (marked y) vs)
  marked_below x y m [] [] g = tt
  marked_below x y m [] (v ∷ vs) g = absurd g
  marked_below x y m (u ∷ us) [] g = absurd g
  marked_below x y m (u ∷ us) (v ∷ vs) g =
      (g.0, from_parts files (marked x u).1 (marked y v).1 (record { locals = g.1.locals; stack = g.1.stack; mark = m }), marked_below x y m us vs g.2)

  successors_down : (site : Site) (meaning : MeaningOf Value) → IsDown files meaning → (max : ℕ)
      → Pairwise (is_stack_below files) (operands over_types meaning.wants a.slots) (operands over_types meaning.wants b.slots)
      → is_ready (type_meets files) over_types meaning.wants max b.slots ≡ true
      → AreBelow files (successors site meaning a) (successors site meaning b)
  successors_down site meaning down max ops e =
      let xs = operands over_types meaning.wants a.slots in
      let ys = operands over_types meaning.wants b.slots in
      let same = constructs_same site xs ys site.instr (any_this_same files xs ys ops) in
      marked_below _ _ (subst (λ x. is_mark_below (a.constructed || constructs_this site xs site.instr) (b.constructed || x) ≡ true) same (mark_or a.constructed b.constructed (constructs_this site xs site.instr) f.mark)) _ _ (down max a.slots b.slots slots_below e)

  handler_below : (pool : List Entry) (e : ExceptionEntry)
      → is_frame_below files (handler_type files pool a e).1 (handler_type files pool b e).1 ≡ true
  handler_below pool e =
      from_parts files (handler_type files pool a e).1 (handler_type files pool b e).1 (record { locals = f.locals; stack = (stack_self files (caught_type files pool e), tt); mark = f.mark })

  handlers_down : (pool : List Entry) (offset : ℕ) (es : List ExceptionEntry)
      → AreBelow files (handlers_from files pool offset a es) (handlers_from files pool offset b es)
  handlers_down pool offset [] = tt
  handlers_down pool offset (e ∷ es) = by (covers offset e) (handlers_down pool offset es)
    where
      by : (c : Bool) → AreBelow files (handlers_from files pool offset a es) (handlers_from files pool offset b es)
          → AreBelow files (cond c (handler_type files pool a e
          ∷ handlers_from files pool offset a es) (handlers_from files pool offset a es)) (cond c (handler_type files pool b e
          ∷ handlers_from files pool offset b es) (handlers_from files pool offset b es))
      by true q = (refl, handler_below pool e, q)
      by false q = q

-- ---- flow

abbrev may_find : Program → Site → MeaningOf Value → FrameType → Bool
may_find files site meaning t = may_stand site t site.instr && is_ready (type_meets files) over_types meaning.wants site.body.code.max_stack t.slots

abbrev leads_of : Program → Site → MeaningOf Value → FrameType → List (ℕ × FrameType)
leads_of files site meaning t = successors site meaning t ++ handlers_from files site.body.pool site.offset t site.body.code.exceptions

abbrev Lower : Program → Option (List (ℕ × FrameType)) → List (ℕ × FrameType) → Type 0
Lower files flows leads = (lower : List (ℕ × FrameType)) × (flows ≡ Some lower) × AreBelow files lower leads

module _ (files : Program) (ordered : IsOrdered files) (a b : FrameType) (f : Below files a b) where
  found_down : (site : Site) (meaning : MeaningOf Value) → IsDown files meaning → may_find files site meaning b ≡ true
      → (may_find files site meaning a ≡ true) × AreBelow files (leads_of files site meaning a) (leads_of files site meaning b)
  found_down site meaning down e =
      let q = and_parts _ _ e in
      let max = site.body.code.max_stack in
      let s = slots_below files a b f in (
        and_from _ _ (stand_down files a b f site site.instr q.0) (ready_down files ordered.rooted a.slots b.slots s meaning.wants max q.1),
        below_append files _ _ _ _ (successors_down files a b f site meaning down max (operands_down files ordered.rooted a.slots b.slots s meaning.wants max q.1) q.1) (handlers_down files a b f site.body.pool site.offset site.body.code.exceptions),
      )

  meant_down : (site : Site) (meaning : MeaningOf Value) → IsDown files meaning → (leads : List (ℕ × FrameType)) (c : Bool)
      → may_find files site meaning b ≡ c → cond c (Some (leads_of files site meaning b)) None ≡ Some leads
      → Lower files (flow_by files site a (Some meaning)) leads
  meant_down site meaning down leads true e q =
      let same : leads_of files site meaning b ≡ leads = same_Some _ _ q in
      let d = found_down site meaning down e in
      (leads_of files site meaning a, cond-true (may_find files site meaning a) _ _ d.0, subst (AreBelow files (leads_of files site meaning a)) same d.1)
  meant_down site meaning down leads false e q = absurd cc

  by_down : (site : Site) (o : Option (MeaningOf Value)) → IsEachDown files o → (leads : List (ℕ × FrameType))
      → flow_by files site b o ≡ Some leads → Lower files (flow_by files site a o) leads
  by_down site None down leads q = absurd cc
  by_down site (Some meaning) down leads q = meant_down site meaning down leads (may_find files site meaning b) refl q

  at_down : (o : Option Site) (leads : List (ℕ × FrameType)) → flow_at files b o ≡ Some leads → Lower files (flow_at files a o) leads
  at_down None leads q = absurd cc
  at_down (Some site) leads q = by_down site (meaning_of values files site) (meaning_down files ordered site) leads q

pub flow_down : (files : Program) → IsOrdered files → (method : Member) (body : Body) (offset : ℕ) (a b : FrameType)
    (leads : List (ℕ × FrameType)) → is_frame_below files a b ≡ true → flow files method body offset b ≡ Some leads
    → FlowsBelow files method body offset a leads
flow_down files ordered method body offset a b leads p q =
    let d = at_down files ordered a b (below_parts files a b p) (site_at method body offset) leads q in
    record { lower = d.0; flows = d.1; below = d.2 }
