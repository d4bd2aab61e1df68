-- Descriptors of methods: what is parsed is spelled so, and what is spelled so is parsed.
use Rattle.std.proofs.Common.{◌≡◌, ℕ, zero, suc, ◌+◌, ◌≤◌, Bool, true, false, ◌&&◌, cond, eqb, leb, List, [], ◌∷◌, ◌++◌, length, replicate, Option, Some, None, refl, sym, ap, subst, ◌∙◌, append_assoc, arith, get_or, ◌<◌}
use Rattle.std.specs.Prelude.{IfSome, is_some, option_map}
use Rattle.std.specs.List.{flat_map, sum_by, AllByRecursion}
use Rattle.std.proofs.lemmas.Bool.{eqb-true, ne_eqb, leb-true, le-leb}
use Rattle.std.proofs.lemmas.List.{append-nil, nil_from_length}
use Rattle.std.proofs.lemmas.List.Concat.{flat_map-cons}
use Rattle.std.proofs.lemmas.List.Sums.{sum_by-cons}
use Rattle.model.specs.Descriptors.{ElementType, Byte, Char, Double, Float, Int, Long, Object, Short, Boolean, FieldType, element, field, FieldTypeFits, MethodType, return_descriptor, method, ReturnFits, element_slots, slots, parameter_slots, IsMethod}
use Rattle.model.specs.DescriptorScan.{◌>>=◌, field_at, field_type, parameters_at, return_type, method_type, method_slots}
use Rattle.constant_pool.specs.descriptors.Scan.{slots_at, scan}
use Rattle.constant_pool.proofs.descriptors.FieldLaws.{field_again, field_takes, parse_takes, parse_again, chosen, none_some}

abbrev given : {A : Type 0} → A → Option A
given x = Some x

some_is : {A : Type 0} (x y : A) → ◌≡◌ {A = Option A} (Some x) (Some y) → x ≡ y
some_is x y e = cc

some_step : {A B : Type 0} (r : Option A) (f : A → Option B) (y : B) → (r >>= f) ≡ Some y → (x : A) × (r ≡ Some x) × (f x ≡ Some y)
some_step (Some x) f y e = (x, refl, e)
some_step None f y e = absurd cc

-- ---- a loop over the parameters

-- types, and behind them those that are read
abbrev pub behind : List FieldType → Option (List FieldType × List ℕ) → Option (List FieldType × List ℕ)
behind front None = None
behind front (Some p) = Some (front ++ p.0, p.1)

behind_more : (front : List FieldType) (f : FieldType) (q : Option (List FieldType × List ℕ))
    → behind (front ++ f ∷ []) q ≡ behind front (◌>>=◌ {B = List FieldType × List ℕ} q (λ o. Some (f ∷ o.0, o.1)))
behind_more front f None = refl
behind_more front f (Some p) = ap (λ (l : List FieldType). given (l, p.1)) (append_assoc front (f ∷ []) p.0)

-- one type is read, and the others follow
pub behind_step : (front : List FieldType) (left less : ℕ) (bytes : List ℕ) (f : FieldType) (after : List ℕ)
    (whole : Option (List FieldType × List ℕ)) → left ≡ suc less → 0 < length bytes → (get_or bytes 0 0 ≡ 41 → ⊥)
    → field_at bytes ≡ Some (f, after)
    → behind front (parameters_at left bytes) ≡ whole → behind (front ++ f ∷ []) (parameters_at less after) ≡ whole
unfolding parameters_at
behind_step front left less [] f after whole is some goes_on read h = absurd (omega (arith, some))
behind_step front left less (b ∷ bytes) f after whole is some goes_on read h =
    let other : eqb b 41 ≡ false = ne_eqb b 41 goes_on in
    let step : parameters_at (suc less) (b ∷ bytes) ≡ ◌>>=◌ {B = List FieldType × List ℕ} (parameters_at less after) (λ o. Some (f ∷ o.0, o.1)) = rw (other, read) refl in
    behind_more front f (parameters_at less after) ∙ ap (behind front) (sym step ∙ ap (λ (n : ℕ). parameters_at n (b ∷ bytes)) (sym is)) ∙ h

-- ---- slots

counted : Option (List FieldType × List ℕ) → Option (ℕ × List ℕ)
counted read = ◌>>=◌ {B = ℕ × List ℕ} read (λ p. Some (sum_by slots p.0, p.1))

counted_more : (f : FieldType) (q : Option (List FieldType × List ℕ))
    → ◌>>=◌ {B = ℕ × List ℕ} (counted q) (λ o. Some (slots f + o.0, o.1))
    ≡ counted (◌>>=◌ {B = List FieldType × List ℕ} q (λ o. Some (f ∷ o.0, o.1)))
unfolding counted
counted_more f None = refl
counted_more f (Some p) = ap (λ (n : ℕ). Some (n, p.1)) (sym (sum_by-cons slots f p.0))

slots_more : (t : Bool) (bytes : List ℕ) (r : Option (FieldType × List ℕ)) (n : ℕ)
    → ((rest : List ℕ) → slots_at n rest ≡ counted (parameters_at n rest))
    → cond t (Some (0, bytes)) (◌>>=◌ {B = ℕ × List ℕ} r (λ f. slots_at n f.1 >>= λ o. Some (slots f.0 + o.0, o.1)))
    ≡ counted (cond t (Some ([], bytes)) (◌>>=◌ {B = List FieldType × List ℕ} r (λ f. parameters_at n f.1 >>= λ o. Some (f.0 ∷ o.0, o.1))))
unfolding counted
slots_more true bytes r n rec = refl
slots_more false bytes None n rec = refl
slots_more false bytes (Some f) n rec = ap (λ (q : Option (ℕ × List ℕ)). ◌>>=◌ {B = ℕ × List ℕ} q (λ o. Some (slots f.0 + o.0, o.1))) (rec f.1) ∙ counted_more f.0 (parameters_at n f.1)

slots_end : (t : Bool) (bytes : List ℕ) → cond t (Some (0, bytes)) None ≡ counted (cond t (Some ([], bytes)) None)
unfolding counted
slots_end true bytes = refl
slots_end false bytes = refl

slots_are : (n : ℕ) (bytes : List ℕ) → slots_at n bytes ≡ counted (parameters_at n bytes)
unfolding slots_at parameters_at counted
slots_are zero [] = refl
slots_are (suc n) [] = refl
slots_are zero (b ∷ bytes) = slots_end (eqb b 41) bytes
slots_are (suc n) (b ∷ bytes) = slots_more (eqb b 41) bytes (field_at (b ∷ bytes)) n (slots_are n)

-- ---- parameters

TakesParameters : List ℕ → List FieldType × List ℕ → Type 0
TakesParameters bytes x = (bytes ≡ flat_map field x.0 ++ (41 ∷ x.1)) × AllByRecursion FieldTypeFits x.0

no_more : (b : ℕ) (bytes : List ℕ) (x : List FieldType × List ℕ) → eqb b 41 ≡ true → Some ([], bytes) ≡ Some x
    → TakesParameters (b ∷ bytes) x
unfolding TakesParameters
no_more b bytes x is e = subst (λ (y : List FieldType × List ℕ). (b ∷ bytes ≡ flat_map field y.0 ++ (41 ∷ y.1)) × AllByRecursion FieldTypeFits y.0) (some_is ([], bytes) x e) (ap (λ (k : ℕ). k ∷ bytes) (eqb-true b 41 is), tt)

one_more : (bytes : List ℕ) (f : FieldType × List ℕ) (p : List FieldType × List ℕ) (x : List FieldType × List ℕ) → field_at bytes ≡ Some f
    → TakesParameters f.1 p → Some (f.0 ∷ p.0, p.1) ≡ Some x → TakesParameters bytes x
unfolding TakesParameters
one_more bytes f p x read h e =
    let t = field_takes bytes f read in
    let parts : bytes ≡ flat_map field (f.0 ∷ p.0) ++ (41 ∷ p.1) = t.0 ∙ ap (λ (l : List ℕ). field f.0 ++ l) h.0 ∙ sym (append_assoc (field f.0) (flat_map field p.0) (41 ∷ p.1)) ∙ ap (λ (l : List ℕ). l ++ (41 ∷ p.1)) (sym (flat_map-cons field f.0 p.0)) in
    subst (λ (y : List FieldType × List ℕ). (bytes ≡ flat_map field y.0 ++ (41 ∷ y.1)) × AllByRecursion FieldTypeFits y.0) (some_is (f.0 ∷ p.0, p.1) x e) (parts, (t.1, h.1))

parameters_take : (n : ℕ) (bytes : List ℕ) (x : List FieldType × List ℕ) → parameters_at n bytes ≡ Some x → TakesParameters bytes x
unfolding parameters_at
parameters_take zero [] x = λ e. none_some x e
parameters_take (suc n) [] x = λ e. none_some x e
parameters_take zero (b ∷ bytes) x = chosen (no_more b bytes x) (λ _ e. none_some x e)
parameters_take (suc n) (b ∷ bytes) x =
    chosen (no_more b bytes x) (λ _ e.
    (let s = some_step (field_at (b ∷ bytes)) (λ f. parameters_at n f.1 >>= λ o. given (f.0 ∷ o.0, o.1)) x e in
    let u = some_step (parameters_at n s.0.1) (λ o. given (s.0.0 ∷ o.0, o.1)) x s.2 in
    one_more (b ∷ bytes) s.0 u.0 x s.1 (parameters_take n s.0.1 u.0 u.1) u.2))

-- a type does not begin as what ends the parameters, nor as void
record Begins (bytes : List ℕ) : Type 0 where
  first : ℕ
  rest : List ℕ
  is : bytes ≡ first ∷ rest
  goes_on : eqb first 41 ≡ false
  returns : eqb first 86 ≡ false

begins_at : (n : ℕ) (e : ElementType) (tail : List ℕ) → Begins ((replicate n 91 ++ element e) ++ tail)
begins_at zero Byte tail = record { first = 66; rest = tail; is = refl; goes_on = refl; returns = refl }
begins_at zero Char tail = record { first = 67; rest = tail; is = refl; goes_on = refl; returns = refl }
begins_at zero Double tail = record { first = 68; rest = tail; is = refl; goes_on = refl; returns = refl }
begins_at zero Float tail = record { first = 70; rest = tail; is = refl; goes_on = refl; returns = refl }
begins_at zero Int tail = record { first = 73; rest = tail; is = refl; goes_on = refl; returns = refl }
begins_at zero Long tail = record { first = 74; rest = tail; is = refl; goes_on = refl; returns = refl }
begins_at zero (Object name) tail = record { first = 76; rest = (name ++ 59 ∷ []) ++ tail; is = refl; goes_on = refl; returns = refl }
begins_at zero Short tail = record { first = 83; rest = tail; is = refl; goes_on = refl; returns = refl }
begins_at zero Boolean tail = record { first = 90; rest = tail; is = refl; goes_on = refl; returns = refl }
begins_at (suc n) e tail = record { first = 91; rest = (replicate n 91 ++ element e) ++ tail; is = refl; goes_on = refl; returns = refl }

begins : (f : FieldType) (tail : List ℕ) → Begins (field f ++ tail)
begins f tail = begins_at f.dimensions f.element tail

parameters_step : (n : ℕ) (bytes : List ℕ) → Begins bytes
    → parameters_at (suc n) bytes ≡ (field_at bytes >>= λ f. parameters_at n f.1 >>= λ o. given (f.0 ∷ o.0, o.1))
unfolding parameters_at
parameters_step n bytes h =
    subst (λ (l : List ℕ). parameters_at (suc n) l ≡ (field_at l >>= λ f. parameters_at n f.1 >>= λ o. given (f.0 ∷ o.0, o.1))) (sym h.is) (rw h.goes_on refl)

parameters_none : (n : ℕ) (rest : List ℕ) → parameters_at n (41 ∷ rest) ≡ Some ([], rest)
unfolding parameters_at
parameters_none zero rest = refl
parameters_none (suc n) rest = refl

parameters_again : (n : ℕ) (ps : List FieldType) (rest : List ℕ) → length ps ≤ n → AllByRecursion FieldTypeFits ps
    → parameters_at n (flat_map field ps ++ (41 ∷ rest)) ≡ Some (ps, rest)
parameters_again n [] rest few fits = parameters_none n rest
parameters_again zero (f ∷ ps) rest few fits = absurd (omega (arith, few))
parameters_again (suc n) (f ∷ ps) rest few fits =
    let tail = flat_map field ps ++ (41 ∷ rest) in
    let regrouped : flat_map field (f ∷ ps) ++ (41 ∷ rest) ≡ field f ++ tail = ap (λ (l : List ℕ). l ++ (41 ∷ rest)) (flat_map-cons field f ps) ∙ append_assoc (field f) (flat_map field ps) (41 ∷ rest) in
    let less : length ps ≤ n = omega (arith, few) in
    ap (λ (l : List ℕ). parameters_at (suc n) l) regrouped ∙ parameters_step n (field f ++ tail) (begins f tail) ∙ rw (field_again f tail fits.0, parameters_again n ps rest less fits.1) refl

element_takes_one : (e : ElementType) → 1 ≤ element_slots e
element_takes_one Byte = omega arith
element_takes_one Char = omega arith
element_takes_one Double = omega arith
element_takes_one Float = omega arith
element_takes_one Int = omega arith
element_takes_one Long = omega arith
element_takes_one (Object name) = omega arith
element_takes_one Short = omega arith
element_takes_one Boolean = omega arith

one_of : (t : Bool) (n : ℕ) → 1 ≤ n → 1 ≤ cond t n 1
one_of true n h = h
one_of false n h = omega arith

-- each parameter takes a slot
few_parameters : (ps : List FieldType) → length ps ≤ sum_by slots ps
few_parameters [] = omega arith
few_parameters (f ∷ ps) =
    let one : 1 ≤ slots f = one_of (eqb f.dimensions 0) (element_slots f.element) (element_takes_one f.element) in
    omega (arith, one, few_parameters ps, sum_by-cons slots f ps)

-- ---- returns

return_takes : (bytes : List ℕ) (r : Option FieldType) → return_type bytes ≡ Some r → (bytes ≡ return_descriptor r) × ReturnFits r
return_takes [] r = λ e. none_some r e
return_takes (b ∷ bytes) r =
    chosen (λ void. chosen
    (λ last e.
    (let whole : b ∷ bytes ≡ 86 ∷ [] = ap (λ (k : ℕ). k ∷ bytes) (eqb-true b 86 void) ∙ ap (λ (l : List ℕ). 86 ∷ l) (nil_from_length bytes (eqb-true _ _ last)) in
    subst (λ (x : Option FieldType). (b ∷ bytes ≡ return_descriptor x) × ReturnFits x) (some_is None r e) (whole, tt)))
    (λ _ e. none_some r e))
    (λ _ e.
    (let s = some_step (field_type (b ∷ bytes)) (λ f. given (given f)) r e in
    let h = parse_takes (b ∷ bytes) s.0 s.1 in
    subst (λ (x : Option FieldType). (b ∷ bytes ≡ return_descriptor x) × ReturnFits x) (some_is (Some s.0) r s.2) (h.spelled, h.fits)))

return_step : (bytes : List ℕ) → Begins bytes → return_type bytes ≡ (field_type bytes >>= λ f. given (given f))
return_step bytes h = subst (λ (l : List ℕ). return_type l ≡ (field_type l >>= λ f. given (given f))) (sym h.is) (rw h.returns refl)

return_again : (r : Option FieldType) → ReturnFits r → return_type (return_descriptor r) ≡ Some r
return_again None fits = refl
return_again (Some f) fits =
    let starts : Begins (field f) = subst Begins (append-nil (field f)) (begins f []) in
    return_step (field f) starts ∙ rw (parse_again (field f) f (record { spelled = refl; fits = fits })) refl

-- ---- the whole text

method_takes : (text : List ℕ) (m : MethodType) → method_type text ≡ Some m → IsMethod text m
unfolding method_type TakesParameters
method_takes [] m = λ e. none_some m e
method_takes (b ∷ bytes) m =
    chosen (λ opens e.
    (let s = some_step (parameters_at 255 bytes) (λ p. return_type p.1 >>= λ r. cond (leb (sum_by slots p.0) 255) (given (record { parameters = p.0; returns = r })) None) m e in
    let u = some_step (return_type s.0.1) (λ r. cond (leb (sum_by slots s.0.0) 255) (given (record { parameters = s.0.0; returns = r })) None) m s.2 in
    chosen (λ few made.
    (let t = parameters_take 255 bytes s.0 s.1 in
    let v = return_takes s.0.1 u.0 u.1 in
    let whole : b ∷ bytes ≡ method (record { parameters = s.0.0; returns = u.0 }) = ap (λ (k : ℕ). k ∷ bytes) (eqb-true b 40 opens) ∙ ap (λ (l : List ℕ). 40 ∷ l) (t.0 ∙ ap (λ (l : List ℕ). flat_map field s.0.0 ++ (41 ∷ l)) v.0) in
    subst (IsMethod (b ∷ bytes)) (some_is (record { parameters = s.0.0; returns = u.0 }) m made) (record { spelled = whole; fits = record { parameters = t.1; returns = v.1; slots = leb-true _ _ few } })))
    (λ _ none. none_some m none) u.2))
    (λ _ e. none_some m e)

method_again : (text : List ℕ) (m : MethodType) → IsMethod text m → method_type text ≡ Some m
unfolding method_type
method_again text m h =
    let few : length m.parameters ≤ 255 = omega (arith, few_parameters m.parameters, h.fits.slots) in
    let read = parameters_again 255 m.parameters (return_descriptor m.returns) few h.fits.parameters in
    let fits : leb (sum_by slots m.parameters) 255 ≡ true = le-leb _ _ h.fits.slots in
    ap method_type h.spelled ∙ rw (read, return_again m.returns h.fits.returns, fits) refl

-- ---- the slots alone

slots_made : (t : Bool) (m : MethodType) → cond t (Some (parameter_slots m)) None ≡ option_map parameter_slots (cond t (Some m) None)
slots_made true m = refl
slots_made false m = refl

slots_of : (p : List FieldType × List ℕ) (r : Option (Option FieldType))
    → cond (is_some r && leb (sum_by slots p.0) 255) (given (sum_by slots p.0)) None
    ≡ option_map parameter_slots (r >>= λ x. cond (leb (sum_by slots p.0) 255) (given (record { parameters = p.0; returns = x })) None)
slots_of p None = refl
slots_of p (Some r) = slots_made (leb (sum_by slots p.0) 255) (record { parameters = p.0; returns = r })

scan_of : (t : Bool) (q : Option (List FieldType × List ℕ))
    → cond t (counted q >>= λ p. cond (is_some (return_type p.1) && leb p.0 255) (given p.0) None) None
    ≡ option_map parameter_slots (cond t (q >>= λ p. return_type p.1
    >>= λ r. cond (leb (sum_by slots p.0) 255) (given (record { parameters = p.0; returns = r })) None) None)
unfolding counted
scan_of false q = refl
scan_of true None = refl
scan_of true (Some p) = slots_of p (return_type p.1)

pub scan_is : (text : List ℕ) → scan text ≡ method_slots text
unfolding scan method_type
scan_is [] = refl
scan_is (b ∷ bytes) = rw (slots_are 255 bytes) (scan_of (eqb b 40) (parameters_at 255 bytes))

slots_found : (text : List ℕ) (r : Option ℕ) (q : Option MethodType) → method_type text ≡ q → r ≡ option_map parameter_slots q
    → IfSome r (λ n. (m : MethodType) × (IsMethod text m × (parameter_slots m ≡ n)))
slots_found text None q is h = tt
slots_found text (Some n) None is h = absurd cc
slots_found text (Some n) (Some m) is h = (m, (method_takes text m is, sym (some_is n (parameter_slots m) h)))

pub found_slots : (text : List ℕ) (r : Option ℕ) → r ≡ scan text
    → IfSome r (λ n. (m : MethodType) × (IsMethod text m × (parameter_slots m ≡ n)))
found_slots text r h = slots_found text r (method_type text) refl (h ∙ scan_is text)

pub only_slots : (text : List ℕ) (r : Option ℕ) → r ≡ scan text → (m : MethodType) → IsMethod text m → r ≡ Some (parameter_slots m)
only_slots text r h m is = h ∙ scan_is text ∙ rw (method_again text m is) refl

-- ---- what parsing promises, from what reading gives

pub found_method : (text : List ℕ) (r : Option MethodType) → r ≡ method_type text → IfSome r (λ m. IsMethod text m)
found_method text (Some m) h = method_takes text m (sym h)
found_method text None h = tt

pub only_method : (text : List ℕ) (r : Option MethodType) → r ≡ method_type text → (m : MethodType) → IsMethod text m → r ≡ Some m
only_method text r h m is = h ∙ method_again text m is
