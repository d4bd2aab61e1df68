-- What an instruction near by has merged is not merged again.
use Rattle.std.proofs.Common.{◌≡◌, ℕ, zero, suc, ◌<◌, ◌+◌, List, [], ◌∷◌, ◌++◌, length, map, get_or, cond, Bool, true, false, Option, Some, None, refl, sym, ap, ◌∙◌, subst, arith}
use Rattle.std.specs.Prelude.{Result, Ok, Err, slice_get, slice_index_or, replicate, option_map, IfOk, IfSome, IsSomeAnd}
use Rattle.std.specs.List.{AllByRecursion, filter}
use Rattle.std.proofs.lemmas.Option.{same_Some}
use Rattle.run_laws.proofs.laws.Lists.{every_append, every_map}
use Rattle.model.specs.declared.class_file.ExceptionEntry.{ExceptionEntry}
use Rattle.model.specs.declared.value.Value.{Value}
use Rattle.model.specs.Names.{Member}
use Rattle.model.specs.Tree.{Entry}
use Rattle.model.specs.Classes.{Program, Body}
use Rattle.model.specs.Instruction.{Sized, sized_at}
use Rattle.model.specs.Operands.{values}
use Rattle.model.specs.Sites.{MeaningOf, Site, site_with}
use Rattle.model.specs.Meanings.{meaning_of}
use Rattle.model.specs.Step.{covers}
use Rattle.model.specs.TypeOrder.{FrameType}
use Rattle.model.specs.Typing.{Typing, Reaches, successors, caught_type, handler_type, handlers_from, flow_by, flow_at, flow}
use Rattle.types.specs.View.{type_in}
use Rattle.types.specs.declared.verification_type.VerificationType.{VerificationType}
use Rattle.run_laws.specs.typing_search.Search.{AreReached, Raised}
use Rattle.run_laws.specs.typing_search.Tables.{entry_of, typing_of, waits}
use Rattle.run_laws.proofs.typing_search.Merging.{waits_other}
use Rattle.run_laws.proofs.typing_search.Searching.{reached_parts, reaches_up}
use Rattle.run_laws.specs.laws.Steps.{Rooted}
use Rattle.types.specs.declared.method_code.declaration.MethodCode.{MethodCode}
use Rattle.types.specs.method_code.View.{files_of, member_of, body_of}
use Rattle.verifier.specs.declared.flow.handler.Handler.{Handler}
use Rattle.verifier.specs.declared.flow.lead.Lead.{Lead}
use Rattle.verifier.specs.flow.Handlers.{AreHandlers}
use Rattle.verifier.specs.flow.Leads.{lead_on, lead_to, handler_leads, LeadOn}
use Rattle.verifier.specs.Packed.{Parts, parts_in, unpacked}
use Rattle.verifier.specs.Found.{tables_in, led_to, leads_in, MergesInto, IsSearch, waiting_again}
use Rattle.verifier.specs.Worklist.{Tables}
use Rattle.verifier.specs.Agreeing.{AgreeBut}
use Rattle.verifier.specs.Looks.{KeepsLooks, RaisesTo}
use Rattle.verifier.specs.Near.{IsNear, IsReachedBy, IsReachedFrom, AreKnown, IsSameOrigin}
use Rattle.verifier.specs.declared.found.Found.{Found}
use Rattle.verifier.specs.declared.found.Origin.{Origin}
use Rattle.verifier.specs.declared.near.Near.{Near}
use Rattle.verifier.specs.declared.run.Run.{Run}
use Rattle.verifier.proofs.Agreeing.{but_map}

-- ---- the type at a place of runs

in_run : (n place : ℕ) (t d : VerificationType) (rest : List VerificationType) → place < n
    → slice_index_or (replicate n t ++ rest) place d ≡ t
in_run zero place t d rest l = absurd (omega (arith, l))
in_run (suc n) zero t d rest l = refl
in_run (suc n) (suc place) t d rest l = let m : place < n = omega (arith, l) in in_run n place t d rest m

past_run : (n place : ℕ) (t d : VerificationType) (rest : List VerificationType)
    → slice_index_or (replicate n t ++ rest) (n + place) d ≡ slice_index_or rest place d
past_run zero place t d rest = let e : zero + place ≡ place = omega arith in ap (λ k. slice_index_or rest k d) e
past_run (suc n) place t d rest =
    let e : suc n + place ≡ suc (n + place) = omega arith in
    ap (λ k. slice_index_or (t ∷ (replicate n t ++ rest)) k d) e ∙ past_run n place t d rest

pub here : (runs rest : List Run) (run : Run) (left : ℕ) (d : VerificationType) → runs ≡ run ∷ rest → left < run.count
    → run.of ≡ slice_index_or (unpacked runs) left d
here runs rest run left d e l = sym (ap (λ rs. slice_index_or (unpacked rs) left d) e ∙ in_run run.count left run.of d (unpacked rest) l)

pub beyond : (runs rest : List Run) (run : Run) (left after : ℕ) (d : VerificationType) → runs ≡ run ∷ rest → run.count + after ≡ left
    → slice_index_or (unpacked runs) left d ≡ slice_index_or (unpacked rest) after d
beyond runs rest run left after d e f =
    ap (λ rs. slice_index_or (unpacked rs) left d) e
    ∙ (ap (λ k. slice_index_or (unpacked (run ∷ rest)) k d) (sym f) ∙ past_run run.count after run.of d (unpacked rest))

-- ---- entries

pub get_mapped : {A B : Type 0} (f : A → B) (xs : List A) (k : ℕ) (x : A) → slice_get xs k ≡ Some x → slice_get (map f xs) k ≡ Some (f x)
get_mapped f [] k x e = absurd cc
get_mapped f (y ∷ ys) zero x e = ap (λ o. option_map f o) e
get_mapped f (y ∷ ys) (suc k) x e = get_mapped f ys k x e

pub typed_in : (files : Program) (found : Found) (k : ℕ) (p : Parts) → slice_get found.types.items k ≡ Some (Some p)
    → slice_get (tables_in files found).types k ≡ Some (Some (parts_in files p))
typed_in files found k p e = get_mapped (option_map (parts_in files)) found.types.items k (Some p) e

-- ---- a lead of which only what changed is merged

module _ (m : MethodCode) (before after : Found) (old leaving : Parts) where
  near_raises : (near : Near) (lead : Lead) (h : Handler) → lead.handler ≡ Some h → covers near.offset h.entry ≡ true
      → RaisesTo m before lead.offset old near.changed.items after → AreKnown (files_of m) (tables_in (files_of m) before) old near (lead ∷ [])
      → MergesInto m before ((lead.offset, led_to (files_of m) old leaving (Some h)) ∷ []) after × KeepsLooks m before after
  near_raises near lead h e c raises known =
      let files = files_of m in
      let by_handler : IsReachedBy files (typing_of (tables_in files before).types) near.offset known.other lead.offset (Some h) =
      subst (IsReachedBy files (typing_of (tables_in files before).types) near.offset known.other lead.offset) e known.reached.0 in
      raises (led_to files known.other known.other (Some h)) (led_to files old leaving (Some h)) (by_handler c)
      (record { locals = but_map (type_in files) near.changed.items known.other.locals old.locals known.locals; stack = refl; constructed = known.constructed })
      (λ k n. refl)

  pub raised_near : (near : Option Near) (lead : Lead) (h : Handler) → lead.handler ≡ Some h
      → IsSomeAnd near (λ n. (covers n.offset h.entry ≡ true) × RaisesTo m before lead.offset old n.changed.items after)
      → IfSome near (λ n. AreKnown (files_of m) (tables_in (files_of m) before) old n (lead ∷ []))
      → MergesInto m before ((lead.offset, led_to (files_of m) old leaving lead.handler) ∷ []) after × KeepsLooks m before after
  raised_near None lead h e raised known = absurd raised
  raised_near (Some n) lead h e raised known =
      subst (λ o. MergesInto m before ((lead.offset, led_to (files_of m) old leaving o) ∷ []) after × KeepsLooks m before after) (sym e) (near_raises n lead h e raised.0 raised.1 known)

-- ---- one lead after another

led_same : (files : Program) (old new : Origin) → IsSameOrigin old new → (o : Option Handler)
    → led_to files new.before new.after o ≡ led_to files old.before old.after o
led_same files old new s None = ap (parts_in files) s.after
led_same files old new s (Some h) =
    let by_parts : List VerificationType → Bool → Parts = λ locals constructed. record { locals = locals; stack = h.caught ∷ []; constructed = constructed } in
    ap (λ l. parts_in files (by_parts l new.before.constructed)) s.locals ∙ ap (λ c. parts_in files (by_parts old.before.locals c)) s.constructed

pub leads_kept : (files : Program) (old new : Origin) → IsSameOrigin old new → (leads : List Lead)
    → leads_in files new leads ≡ leads_in files old leads
leads_kept files old new s [] = refl
leads_kept files old new s (lead ∷ leads) =
    ap (λ t. (lead.offset, t) ∷ leads_in files new leads) (led_same files old new s lead.handler) ∙ ap (λ l. (lead.offset, led_to files old.before old.after lead.handler) ∷ l) (leads_kept files old new s leads)

pub same_origin : (o : Origin) → IsSameOrigin o o
same_origin o = record { after = refl; near = refl; locals = refl; constructed = refl }

pub origin_then : (a b c : Origin) → IsSameOrigin a b → IsSameOrigin b c → IsSameOrigin a c
origin_then a b c p q =
    record { after = q.after ∙ p.after; near = q.near ∙ p.near; locals = q.locals ∙ p.locals; constructed = q.constructed ∙ p.constructed }

every_or : {A : Type 0} (P : A → Type 0) (xs : List A) (i : ℕ) (d : A) → i < length xs → AllByRecursion P xs → P (get_or xs i d)
every_or P [] i d l all = absurd (omega (arith, l))
every_or P (x ∷ xs) zero d l all = all.0
every_or P (x ∷ xs) (suc i) d l all = let m : i < length xs = omega (arith, l) in every_or P xs i d m all.1

reached_up : (files : Program) → Rooted files → (F G : Typing) → Raised files F G → (offset : ℕ) (other : Parts) (to : ℕ)
    (o : Option Handler) → IsReachedBy files F offset other to o → IsReachedBy files G offset other to o
reached_up files rooted F G up offset other to None r = tt
reached_up files rooted F G up offset other to (Some h) r = λ c. reaches_up files rooted F G up to (led_to files other other (Some h)) (r c)

module _ (files : Program) (rooted : Rooted files) (before now : Tables)
    (up : Raised files (typing_of before.types) (typing_of now.types)) where
  known_at : (old new : Origin) → IsSameOrigin old new → (leads : List Lead) (i : ℕ) (d : Lead) → i < length leads → (n : Near)
      → AreKnown files before old.before n leads → AreKnown files now new.before n (get_or leads i d ∷ [])
  known_at old new s leads i d l n k =
      let lead = get_or leads i d in
      record {
        other = k.other;
        locals = subst (AgreeBut n.changed.items k.other.locals) (sym s.locals) k.locals;
        constructed = k.constructed ∙ sym s.constructed;
        reached = (reached_up files rooted (typing_of before.types) (typing_of now.types) up n.offset k.other lead.offset lead.handler (every_or _ leads i d l k.reached), tt);
      }

  pub known_on : (old new : Origin) → IsSameOrigin old new → (leads : List Lead) (i : ℕ) (d : Lead) → i < length leads
      → IfSome old.near (λ n. AreKnown files before old.before n leads)
      → IfSome new.near (λ n. AreKnown files now new.before n (get_or leads i d ∷ []))
  known_on old new s leads i d l k =
      subst (λ o. IfSome o (λ n. AreKnown files now new.before n (get_or leads i d ∷ []))) (sym s.near) (by old.near k)
    where
      by : (o : Option Near) → IfSome o (λ n. AreKnown files before old.before n leads)
          → IfSome o (λ n. AreKnown files now new.before n (get_or leads i d ∷ []))
      by None k = tt
      by (Some n) k = known_at old new s leads i d l n k

-- ---- the leads of an instruction near by

-- what an instruction leads to are its handlers, too
module _ (files : Program) (method : Member) (body : Body) (offset : ℕ) (t : FrameType) (F : Typing) (leads : List (ℕ × FrameType))
    (reached : AreReached files F leads) where
  abbrev handled : Site → List (ℕ × FrameType)
  handled site = handlers_from files site.body.pool site.offset t site.body.code.exceptions

  by_test : (site : Site) (first : List (ℕ × FrameType)) (b : Bool) → cond b (Some (first ++ handled site)) None ≡ Some leads
      → AreReached files F (handled site)
  by_test site first true e = (reached_parts files F first (handled site) (subst (AreReached files F) (sym (same_Some (first ++ handled site) leads e)) reached)).1
  by_test site first false e = absurd cc

  by_meaning : (site : Site) (o : Option (MeaningOf Value)) → flow_by files site t o ≡ Some leads → AreReached files F (handled site)
  by_meaning site None e = absurd cc
  by_meaning site (Some m) e = by_test site (successors site m t) _ e

  by_site : (o : Option Sized) → flow_at files t (option_map (site_with method body offset) o) ≡ Some leads
      → AreReached files F (handlers_from files body.pool offset t body.code.exceptions)
  by_site None e = absurd cc
  by_site (Some sized) e = by_meaning (site_with method body offset sized) (meaning_of values files (site_with method body offset sized)) e

  pub handlers_reached : flow files method body offset t ≡ Some leads
      → AreReached files F (handlers_from files body.pool offset t body.code.exceptions)
  handlers_reached e = by_site (sized_at body.code.code offset) e

module _ (files : Program) (pool : List Entry) (F : Typing) (other : Parts) (near offset : ℕ) where
  abbrev entry_in : Handler → ExceptionEntry
  entry_in h = h.entry

  abbrev IsTyped : Handler → Type 0
  IsTyped h = type_in files h.caught ≡ caught_type files pool h.entry

  one_reached : (h : Handler) → IsTyped h → Reaches files F h.entry.handler (handler_type files pool (parts_in files other) h.entry).1
      → Reaches files F h.entry.handler (led_to files other other (Some h))
  one_reached h e r =
      subst (λ c. Reaches files F h.entry.handler (record { slots = record { locals = map (type_in files) other.locals; stack = c ∷ [] }; constructed = other.constructed })) (sym e) r

  parted : (h : Handler) (rest : List (ℕ × FrameType)) → IsTyped h → (b : Bool) → covers near h.entry ≡ b
      → AreReached files F (cond b (handler_type files pool (parts_in files other) h.entry ∷ rest) rest)
      → IsReachedFrom files F near other (lead_to h) × AreReached files F rest
  parted h rest e true c r = (λ t. one_reached h e r.0, r.1)
  parted h rest e false c r = (λ t. absurd (apart (sym c ∙ t)), r)
    where
      apart : false ≡ true → ⊥
      apart q = absurd cc

  joined : (h : Handler) (rest : List Handler) (b : Bool) → IsReachedFrom files F near other (lead_to h)
      → AllByRecursion (IsReachedFrom files F near other) (map lead_to rest)
      → AllByRecursion (IsReachedFrom files F near other) (map lead_to (cond b (h ∷ rest) rest))
  joined h rest true one more = (one, more)
  joined h rest false one more = more

  each_reached : (hs : List Handler) → AllByRecursion IsTyped hs
      → AreReached files F (handlers_from files pool near (parts_in files other) (map entry_in hs))
      → AllByRecursion (IsReachedFrom files F near other) (handler_leads offset hs)
  each_reached [] all r = tt
  each_reached (h ∷ hs) all r =
      let p = parted h _ all.0 (covers near h.entry) refl r in
      joined h (filter (λ (h : Handler). covers offset h.entry) hs) (covers offset h.entry) p.0 (each_reached hs all.1 p.1)

  pub leads_reached : (hs : List Handler) (es : List ExceptionEntry) (leads : List Lead) → map entry_in hs ≡ es → AllByRecursion IsTyped hs
      → AreReached files F (handlers_from files pool near (parts_in files other) es)
      → LeadOn offset hs leads → AllByRecursion (IsReachedFrom files F near other) leads
  leads_reached hs es leads e all r on =
      subst (AllByRecursion (IsReachedFrom files F near other)) (sym on.are)
      (every_append (IsReachedFrom files F near other) (map lead_on on.targets) (handler_leads offset hs) (every_map (IsReachedFrom files F near other) lead_on on.targets (λ to. tt)) (each_reached hs all (subst (λ l. AreReached files F (handlers_from files pool near (parts_in files other) l)) (sym e) r)))

module _ (m : MethodCode) (found : Found) (offset : ℕ)
    (s : IsSearch (files_of m) (member_of m) (body_of m) (waiting_again (tables_in (files_of m) found) offset)) (hs : List Handler)
    (are : AreHandlers m hs) (leads : List Lead) (on : LeadOn offset hs leads) (before : Parts) where
  near_known : (n : Near) → IsNear found before n → (n.offset ≡ offset → ⊥)
      → AreKnown (files_of m) (tables_in (files_of m) found) before n leads
  near_known n near apart =
      let files = files_of m in
      let t = parts_in files near.other in
      let typed = ap entry_of (typed_in files found n.offset near.other near.typed) in
      let rule = s.searches.agrees n.offset t typed (waits_other found.waiting offset n.offset true apart ∙ near.waits) in
      let F = typing_of (tables_in files found).types in
      let reached = handlers_reached files (member_of m) (body_of m) n.offset t F rule.leads rule.reached rule.flows in
      record {
        other = near.other;
        locals = near.locals;
        constructed = near.constructed;
        reached = leads_reached files (body_of m).pool F near.other n.offset offset hs (body_of m).code.exceptions leads are.entries are.caught reached on;
      }

  pub nears_known : (o : Option Near) → IfSome o (IsNear found before) → IfSome o (λ n. n.offset ≡ offset → ⊥)
      → IfSome o (λ n. AreKnown (files_of m) (tables_in (files_of m) found) before n leads)
  nears_known None near apart = tt
  nears_known (Some n) near apart = near_known n near apart

-- ---- what is near

module _ (found : Found) (other before : Parts) (offset : ℕ) (typed : slice_get found.types.items offset ≡ Some (Some other))
    (still : waits found.waiting offset ≡ false) where
  near_here : (n : Near) → n.offset ≡ offset → AgreeBut n.changed.items other.locals before.locals
      → other.constructed ≡ before.constructed → IsNear found before n
  near_here n e f g =
      record {
        other = other;
        typed = ap (slice_get found.types.items) e ∙ typed;
        waits = ap (waits found.waiting) e ∙ still;
        locals = f;
        constructed = g;
      }

  pub is_near : {E : Type 0} (r : Result (Option Near) E) → IfOk r (λ o. IfSome o (λ n. n.offset ≡ offset))
      → IfOk r (λ o. IfSome o (λ n. AgreeBut n.changed.items other.locals before.locals))
      → IfOk r (λ o. IfSome o (λ n. other.constructed ≡ before.constructed))
      → IfOk r (λ o. IfSome o (IsNear found before))
  is_near (Ok None) e f g = tt
  is_near (Ok (Some n)) e f g = near_here n e f g
  is_near (Err x) e f g = tt

pub is_elsewhere : {E : Type 0} (last offset : ℕ) (r : Result (Option Near) E) → (last ≡ offset → ⊥)
    → IfOk r (λ o. IfSome o (λ n. n.offset ≡ last)) → IfOk r (λ o. IfSome o (λ n. n.offset ≡ offset → ⊥))
is_elsewhere last offset (Ok None) apart e = tt
is_elsewhere last offset (Ok (Some n)) apart e = λ q. apart (sym e ∙ q)
is_elsewhere last offset (Err x) apart e = tt
