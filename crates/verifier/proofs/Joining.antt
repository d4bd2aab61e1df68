-- Places that are noted, one after another.
use Rattle.std.proofs.Common.{◌≡◌, ℕ, zero, suc, ◌<◌, ◌≤◌, ◌+◌, List, [], ◌∷◌, ◌++◌, length, map, take, get_or, Bool, true, false, ◌||◌, ◌==◌, Option, Some, None, refl, sym, ap, ◌∙◌, subst, arith, ⊎_elim}
use Rattle.std.specs.Prelude.{slice_get, slice_set, slice_index_or, option_map, is_some, not, Result, Ok, Err, IfOk}
use Rattle.std.specs.List.{filter}
use Rattle.std.proofs.lemmas.Bool.{false≢true, or_parts, or_cases, eqb-true, eq-eqb, cases_eq}
use Rattle.std.proofs.lemmas.List.{length-set, take_more}
use Rattle.std.proofs.lemmas.List.Folds.{list_any_more}
use Rattle.std.proofs.lemmas.Option.{slice_get-map, slice_get_past, slice_get_within, slice_get-get_or, get_or_from_slice_get}
use Rattle.model.specs.Classes.{Program}
use Rattle.model.specs.Step.{covers}
use Rattle.model.specs.TypeJoin.{local_join}
use Rattle.types.specs.View.{type_in}
use Rattle.types.specs.declared.verification_type.VerificationType.{VerificationType}
use Rattle.types.specs.declared.verification_type.VerificationType.TheVariants as type
use Rattle.run_laws.specs.laws.Steps.{Rooted}
use Rattle.run_laws.proofs.typing_search.Joins.{local_is}
use Rattle.run_laws.proofs.typing_search.Merging.{get_set_here, get_set_other}
use Rattle.verifier.specs.declared.flow.handler.Handler.{Handler}
use Rattle.verifier.specs.declared.flow.lead.Lead.{Lead}
use Rattle.verifier.specs.flow.Leads.{lead_to, all_leads, targets_by, targets_in}
use Rattle.verifier.specs.Agreeing.{is_among, AgreeBut, AgreeAt}
use Rattle.verifier.specs.Changes.{IsJoined}
use Rattle.verifier.specs.Packed.{Parts}
use Rattle.verifier.proofs.Agreeing.{map_index}
use Rattle.verifier.proofs.Kept.{kept_local}

-- ---- one place more

pub among_more : (ks : List ℕ) (i k : ℕ) → is_among (ks ++ i ∷ []) k ≡ false → (is_among ks k ≡ false) × ((i == k) ≡ false)
among_more [] i k e = (refl, (or_parts (i == k) false e).0)
among_more (j ∷ ks) i k e =
    let parts = or_parts (j == k) (is_among (ks ++ i ∷ []) k) e in
    let rest = among_more ks i k parts.1 in
    (ap (λ b. b || is_among ks k) parts.0 ∙ rest.0, rest.1)

pub among_taken : (ks : List ℕ) (n k d : ℕ) → n < length ks → is_among (take (n + 1) ks) k ≡ false
    → (is_among (take n ks) k ≡ false) × ((get_or ks n d == k) ≡ false)
among_taken ks n k d l e = or_parts _ _ (sym (list_any_more (λ i. i == k) ks n d l) ∙ e)

-- it was among them already
pub among_still : (ks : List ℕ) (i k : ℕ) → is_among ks i ≡ true → is_among ks k ≡ false → (i == k) ≡ false
among_still ks i k e f = by (i == k) refl
  where
    by : (b : Bool) → (i == k) ≡ b → b ≡ false
    by true q = absurd (false≢true (sym f ∙ subst (λ j. is_among ks j ≡ true) (eqb-true i k q) e))
    by false q = refl

-- ---- local variables that were added to those that changed

pub added : (changed after locals : List ℕ) (n d : ℕ) → n < length locals → after ≡ changed ++ get_or locals n d ∷ [] → (start : List ℕ)
    → ((k : ℕ) → is_among changed k ≡ false → (is_among start k ≡ false) × (is_among (take n locals) k ≡ false))
    → (k : ℕ) → is_among after k ≡ false → (is_among start k ≡ false) × (is_among (take (n + 1) locals) k ≡ false)
added changed after locals n d l e start h k f =
    let parts = among_more changed (get_or locals n d) k (ap (λ ks. is_among ks k) (sym e) ∙ f) in
    let was = h k parts.0 in
    (was.0, list_any_more (λ i. i == k) locals n d l ∙ (ap (λ b. b || (get_or locals n d == k)) was.1 ∙ parts.1))

pub not_added : (changed after locals : List ℕ) (n d : ℕ) → n < length locals → after ≡ changed → is_among changed (get_or locals n d) ≡ true
    → (start : List ℕ) → ((k : ℕ) → is_among changed k ≡ false → (is_among start k ≡ false) × (is_among (take n locals) k ≡ false))
    → (k : ℕ) → is_among after k ≡ false → (is_among start k ≡ false) × (is_among (take (n + 1) locals) k ≡ false)
not_added changed after locals n d l e m start h k f =
    let g : is_among changed k ≡ false = ap (λ ks. is_among ks k) (sym e) ∙ f in
    let was = h k g in
    (was.0, list_any_more (λ i. i == k) locals n d l ∙ (ap (λ b. b || (get_or locals n d == k)) was.1 ∙ among_still changed (get_or locals n d) k m g))

-- ---- places at which types differ

module _ (from to : List VerificationType) (long : length from ≡ length to) (n : ℕ) (d : VerificationType) (within : n < length to) (places : List ℕ)
    (done : (k : ℕ) → k < n → is_among places k ≡ false → slice_get from k ≡ slice_get to k) where
  pub differs_here : (after : List ℕ) → after ≡ places ++ n ∷ [] → (k : ℕ) → k < n + 1 → is_among after k ≡ false → slice_get from k ≡ slice_get to k
  differs_here after e k l f =
      let parts = among_more places n k (ap (λ ks. is_among ks k) (sym e) ∙ f) in
      ⊎_elim
      (λ q. absurd (false≢true (sym parts.1 ∙ eq-eqb n k (sym q))))
      (λ q. done k (less k l q) parts.0)
      (cases_eq k n)
    where
      less : (k : ℕ) → k < n + 1 → (k ≡ n → ⊥) → k < n
      less k l q = omega (arith, l, q)

  pub agrees_here : (after : List ℕ) → after ≡ places → get_or to n d ≡ get_or from n d → (k : ℕ) → k < n + 1 → is_among after k ≡ false
      → slice_get from k ≡ slice_get to k
  agrees_here after e same k l f =
      ⊎_elim
      (λ q. subst (λ j. slice_get from j ≡ slice_get to j) (sym q) here)
      (λ q. done k (less k l q) (ap (λ ks. is_among ks k) (sym e) ∙ f))
      (cases_eq k n)
    where
      less : (k : ℕ) → k < n + 1 → (k ≡ n → ⊥) → k < n
      less k l q = omega (arith, l, q)

      here : slice_get from n ≡ slice_get to n
      here =
          let in_from : n < length from = omega (arith, within, long) in
          slice_get-get_or from n d in_from ∙ (ap (λ t. Some t) (sym same) ∙ sym (slice_get-get_or to n d within))

pub agree_but : (from to : List VerificationType) (n : ℕ) (places : List ℕ) → length from ≡ length to → length to ≤ n
    → ((k : ℕ) → k < n → is_among places k ≡ false → slice_get from k ≡ slice_get to k) → AgreeBut places from to
agree_but from to n places long past done =
    record {
      long = long;
      same = λ k e. by k e (slice_get to k) refl;
    }
  where
    none_past : (ts : List VerificationType) (k : ℕ) → slice_get ts k ≡ None → length ts ≤ k
    none_past [] k q = omega arith
    none_past (t ∷ ts) zero q = absurd cc
    none_past (t ∷ ts) (suc k) q = let l = none_past ts k q in omega (arith, l)

    by : (k : ℕ) → is_among places k ≡ false → (o : Option VerificationType) → slice_get to k ≡ o → slice_get from k ≡ slice_get to k
    by k e (Some t) q = let within = slice_get_within to k t q in done k (omega (arith, within, past)) e
    by k e None q = let outside = none_past to k q in slice_get_past from k (omega (arith, long, outside)) ∙ sym q

-- ---- joins in place

module _ (files : Program) (rooted : Rooted files) (locals : List ℕ) (n d : ℕ) (within : n < length locals) (there frame join next : Parts)
    (done : IsJoined files (take n locals) there frame join) (t : VerificationType) where
  abbrev local : ℕ
  local = get_or locals n d

  pub joined_more :
      type_in files t ≡ local_join files (type_in files (slice_index_or join.locals local type.Unusable)) (type_in files (slice_index_or frame.locals local type.Unusable))
      → next.locals ≡ slice_set join.locals local t → next.stack ≡ join.stack → next.constructed ≡ join.constructed
      → IsJoined files (take (n + 1) locals) there frame next
  joined_more is set stack constructed =
      record {
        differ = record {
          locals = record {
            long = done.differ.locals.long ∙ (sym (length-set join.locals local t) ∙ ap length (sym set));
            same = λ k e. unchanged k (among_taken locals n k d within e);
          };
          stack = done.differ.stack ∙ sym stack;
          constructed = done.differ.constructed ∙ sym constructed;
        };
        joins = λ k e x y f g. by k e x y f g (local == k) refl;
      }
    where
      unchanged : (k : ℕ) → (is_among (take n locals) k ≡ false) × ((local == k) ≡ false) → slice_get there.locals k ≡ slice_get next.locals k
      unchanged k e =
          done.differ.locals.same k e.0
          ∙ (sym (get_set_other join.locals local k t (λ q. false≢true (sym e.1 ∙ eq-eqb local k (sym q)))) ∙ ap (λ l. slice_get l k) (sym set))

      before : (k : ℕ) → is_among (take (n + 1) locals) k ≡ true → (local == k) ≡ false → is_among (take n locals) k ≡ true
      before k e q =
          ⊎_elim (λ r. r) (λ r. absurd (false≢true (sym q ∙ r))) (or_cases (is_among (take n locals) k) (local == k) (sym (list_any_more (λ i. i == k) locals n d within) ∙ e))

      -- what was joined already is so once more
      joined_once : (x y : VerificationType) → slice_get there.locals local ≡ Some x → slice_get frame.locals local ≡ Some y
          → local_join files (type_in files (slice_index_or join.locals local type.Unusable)) (type_in files y) ≡ local_join files (type_in files x) (type_in files y)
      joined_once x y f g = by_first (is_among (take n locals) local) refl
        where
          by_first : (b : Bool) → is_among (take n locals) local ≡ b
              → local_join files (type_in files (slice_index_or join.locals local type.Unusable)) (type_in files y) ≡ local_join files (type_in files x) (type_in files y)
          by_first false e =
              ap (λ u. local_join files (type_in files u) (type_in files y)) (get_or_from_slice_get join.locals local x type.Unusable (sym (done.differ.locals.same local e) ∙ f))
          by_first true e =
              let s = local_join files (type_in files x) (type_in files y) in
              let now : type_in files (slice_index_or join.locals local type.Unusable) ≡ s =
              map_index (type_in files) join.locals local type.Unusable s (slice_get-map (type_in files) join.locals local ∙ done.joins local e x y f g) in
              ap (λ u. local_join files u (type_in files y)) now ∙ kept_local files s (type_in files y) (local_is files rooted (type_in files x) (type_in files y)).1

      here : (k : ℕ) (x y : VerificationType) → slice_get there.locals k ≡ Some x → slice_get frame.locals k ≡ Some y → k ≡ local
          → option_map (type_in files) (slice_get next.locals k) ≡ Some (local_join files (type_in files x) (type_in files y))
      here k x y f g q =
          let in_there : slice_get there.locals local ≡ Some x = subst (λ j. slice_get there.locals j ≡ Some x) q f in
          let in_frame : slice_get frame.locals local ≡ Some y = subst (λ j. slice_get frame.locals j ≡ Some y) q g in
          let l = slice_get_within there.locals local x in_there in
          let long = done.differ.locals.long in
          let in_join : local < length join.locals = omega (arith, l, long) in
          let written : slice_get next.locals local ≡ Some t =
          ap (λ l. slice_get l local) set ∙ get_set_here join.locals local t (get_or join.locals local type.Unusable) (slice_get-get_or join.locals local type.Unusable in_join) in
          ap (λ j. option_map (type_in files) (slice_get next.locals j)) q
          ∙ (ap (option_map (type_in files)) written
          ∙ (ap (λ u. Some u) is
          ∙ (ap (λ u. Some (local_join files (type_in files (slice_index_or join.locals local type.Unusable)) (type_in files u))) (get_or_from_slice_get frame.locals local y type.Unusable in_frame)
          ∙ ap (λ u. Some u) (joined_once x y in_there in_frame))))

      by : (k : ℕ) → is_among (take (n + 1) locals) k ≡ true → (x y : VerificationType) → slice_get there.locals k ≡ Some x → slice_get frame.locals k ≡ Some y
          → (b : Bool) → (local == k) ≡ b → option_map (type_in files) (slice_get next.locals k) ≡ Some (local_join files (type_in files x) (type_in files y))
      by k e x y f g true q = here k x y f g (sym (eqb-true local k q))
      by k e x y f g false q =
          ap (λ l. option_map (type_in files) (slice_get l k)) set
          ∙ (ap (option_map (type_in files)) (get_set_other join.locals local k t (λ r. false≢true (sym q ∙ eq-eqb local k (sym r))))
          ∙ done.joins k (before k e q) x y f g)

-- ---- what some local variables hold

set_same : (xs ys : List VerificationType) (k : ℕ) (d : VerificationType) → length xs ≡ length ys
    → slice_get (slice_set xs k (slice_index_or ys k d)) k ≡ slice_get ys k
set_same [] [] k d l = refl
set_same [] (y ∷ ys) k d l = absurd cc
set_same (x ∷ xs) [] k d l = absurd cc
set_same (x ∷ xs) (y ∷ ys) zero d l = refl
set_same (x ∷ xs) (y ∷ ys) (suc k) d l = let m : length xs ≡ length ys = omega (arith, l) in set_same xs ys k d m

-- all places are those of another
pub all_hold : {E : Type 0} (locals : List ℕ) (of : Parts) (r : Result Parts E) → IfOk r (λ alone. alone.locals ≡ of.locals)
    → IfOk r (λ only. AgreeAt locals only.locals of.locals)
all_hold locals of (Ok alone) e = λ k f. ap (λ l. slice_get l k) e
all_hold locals of (Err x) e = tt

pub holds_more : (locals : List ℕ) (n d : ℕ) (xs ys next : List VerificationType) (u : VerificationType) → n < length locals → length xs ≡ length ys
    → AgreeAt (take n locals) xs ys → next ≡ slice_set xs (get_or locals n d) (slice_index_or ys (get_or locals n d) u) → AgreeAt (take (n + 1) locals) next ys
holds_more locals n d xs ys next u within long at set k e = ap (λ l. slice_get l k) set ∙ by (get_or locals n d == k) refl
  where
    by : (b : Bool) → (get_or locals n d == k) ≡ b → slice_get (slice_set xs (get_or locals n d) (slice_index_or ys (get_or locals n d) u)) k ≡ slice_get ys k
    by true q =
        let same : get_or locals n d ≡ k = eqb-true (get_or locals n d) k q in
        subst (λ j. slice_get (slice_set xs j (slice_index_or ys j u)) k ≡ slice_get ys k) (sym same) (set_same xs ys k u long)
    by false q =
        get_set_other xs (get_or locals n d) k (slice_index_or ys (get_or locals n d) u) (λ r. false≢true (sym q ∙ eq-eqb (get_or locals n d) k (sym r)))
        ∙ at k (⊎_elim (λ r. r) (λ r. absurd (false≢true (sym q ∙ r))) (or_cases (is_among (take n locals) k) (get_or locals n d == k) (sym (list_any_more (λ i. i == k) locals n d within) ∙ e)))

-- ---- targets

pub targets_more : (leads : List Lead) (lead : Lead) → targets_in (leads ++ lead ∷ []) ≡ targets_in leads ++ targets_by lead.offset lead.handler []
targets_more [] lead = refl
targets_more (first ∷ leads) lead = by first.handler (targets_more leads lead)
  where
    by : (o : Option Handler) → targets_in (leads ++ lead ∷ []) ≡ targets_in leads ++ targets_by lead.offset lead.handler []
        → targets_by first.offset o (targets_in (leads ++ lead ∷ [])) ≡ targets_by first.offset o (targets_in leads) ++ targets_by lead.offset lead.handler []
    by None e = ap (λ l. first.offset ∷ l) e
    by (Some h) e = e

no_targets : (hs : List Handler) → targets_in (map lead_to hs) ≡ []
no_targets [] = refl
no_targets (h ∷ hs) = no_targets hs

pub its_targets : (offset : ℕ) (hs : List Handler) (targets : List ℕ) → targets_in (all_leads offset hs targets) ≡ targets
its_targets offset hs [] = no_targets (filter (λ (h : Handler). covers offset h.entry) hs)
its_targets offset hs (to ∷ targets) = ap (λ l. to ∷ l) (its_targets offset hs targets)

-- ---- one lead more

pub targets_none : (to : ℕ) (o : Option Handler) (r : Bool) → is_some o ≡ not r → r ≡ true → targets_by to o [] ≡ to ∷ []
targets_none to None r e f = refl
targets_none to (Some h) r e f = absurd (false≢true (sym (e ∙ ap not f)))

pub targets_some : (to : ℕ) (o : Option Handler) (r : Bool) → is_some o ≡ not r → r ≡ false → targets_by to o [] ≡ []
targets_some to None r e f = absurd (false≢true (e ∙ ap not f))
targets_some to (Some h) r e f = refl

pub targets_next : (leads : List Lead) (i : ℕ) (d : Lead) → i < length leads → (now after : List ℕ) → now ≡ targets_in (take i leads)
    → after ≡ now ++ targets_by (get_or leads i d).offset (get_or leads i d).handler [] → after ≡ targets_in (take (i + 1) leads)
targets_next leads i d l now after e f =
    let lead = get_or leads i d in
    f
    ∙ (ap (λ ts. ts ++ targets_by lead.offset lead.handler []) e
    ∙ (sym (targets_more (take i leads) lead) ∙ ap (λ ls. targets_in ls) (sym (take_more leads i d l))))
