-- What is parsed is spelled so, and what is spelled so is parsed.
use Rattle.std.proofs.Common.{◌≡◌, ℕ, add-one, zero, suc, ◌+◌, ◌≤◌, Bool, true, false, cond, eqb, ltb, List, [], ◌∷◌, ◌++◌, length, take, drop, replicate, Option, Some, None, refl, sym, ap, subst, ◌∙◌, append_assoc, IsTrue}
use Rattle.std.specs.List.{list_all}
use Rattle.std.specs.Prelude.{not, ◌==◌, ◌&&◌}
use Rattle.std.proofs.lemmas.Bool.{eqb-true, ltb-false, le-ltb}
use Rattle.std.proofs.lemmas.List.{append-nil, nil_from_length, take_at, drop_at, length-replicate}
use Rattle.model.specs.Descriptors.{is_class_name, ElementType, Byte, Char, Double, Float, Int, Long, Object, Short, Boolean, FieldType, element, field, ElementFits, FieldTypeFits, IsField}
use Rattle.model.specs.DescriptorScan.{◌>>=◌, name_length, dimensions_of, element_at, field_at, field_type}
use Rattle.std.specs.Prelude.{IfSome, IsSomeAnd}
use Rattle.constant_pool.specs.descriptors.View.{Gives}
use Rattle.constant_pool.proofs.descriptors.NameLaws.{is_inside, class_name_inside}

-- ---- dimensions

dimensions_more : (t : Bool) (b : ℕ) (bytes : List ℕ) → (b == 91) ≡ t
    → bytes ≡ replicate (dimensions_of bytes) 91 ++ drop (dimensions_of bytes) bytes
    → b ∷ bytes ≡ replicate (dimensions_of (b ∷ bytes)) 91 ++ drop (dimensions_of (b ∷ bytes)) (b ∷ bytes)
dimensions_more true b bytes is h = let same : b ≡ 91 = eqb-true b 91 is in rw is (ap (λ (k : ℕ). k ∷ bytes) same ∙ ap (λ (l : List ℕ). 91 ∷ l) h)
dimensions_more false b bytes is h = rw is refl

dimensions_take : (bytes : List ℕ) → bytes ≡ replicate (dimensions_of bytes) 91 ++ drop (dimensions_of bytes) bytes
dimensions_take [] = refl
dimensions_take (b ∷ bytes) = dimensions_more (b == 91) b bytes refl (dimensions_take bytes)

-- ---- names

-- so many bytes stand before the first semicolon
pub record IsName (bytes : List ℕ) (n : ℕ) : Type 0 where
  pub parts : bytes ≡ take n bytes ++ (59 ∷ drop (n + 1) bytes)
  pub named : IsTrue (list_all is_inside (take n bytes))
  pub len : length (take n bytes) ≡ n

some_is : (m n : ℕ) → ◌≡◌ {A = Option ℕ} (Some m) (Some n) → m ≡ n
some_is m n e = cc

name_more : (t : Bool) (b : ℕ) (bytes : List ℕ) (r : Option ℕ) (n : ℕ) → (b == 59) ≡ t → name_length bytes ≡ r
    → ((m : ℕ) → r ≡ Some m → IsName bytes m) → cond t (Some 0) (r >>= λ m. Some (suc m)) ≡ Some n → IsName (b ∷ bytes) n
name_more true b bytes r n is e rec eq = subst (IsName (b ∷ bytes)) (some_is 0 n eq) (record { parts = ap (λ (k : ℕ). k ∷ bytes) (eqb-true b 59 is); named = refl; len = refl })
name_more false b bytes None n is e rec eq = absurd cc
name_more false b bytes (Some m) n is e rec eq =
    let h = rec m refl in
    subst (IsName (b ∷ bytes)) (some_is (suc m) n eq) (record { parts = rw add-one (ap (λ (l : List ℕ). b ∷ l) (rw add-one at h.parts)); named = rw is h.named; len = ap suc h.len })

name_takes : (bytes : List ℕ) (n : ℕ) → name_length bytes ≡ Some n → IsName bytes n
name_takes [] n e = absurd cc
name_takes (b ∷ bytes) n e = name_more (b == 59) b bytes (name_length bytes) n refl refl (name_takes bytes) e

-- a byte of a name isn't the end, and the others are of a name
named_both : (t : Bool) (u : Bool) → (not t && u) ≡ true → (t ≡ false) × (u ≡ true)
named_both true u h = absurd cc
named_both false u h = (refl, h)

name_again : (name rest : List ℕ) → IsTrue (list_all is_inside name) → name_length (name ++ (59 ∷ rest)) ≡ Some (length name)
name_again [] rest h = refl
name_again (b ∷ name) rest h =
    let both = named_both (b == 59) (list_all is_inside name) h in
    rw (both.0, name_again name rest both.1) refl

drop-behind : (name rest : List ℕ) → drop (length name + 1) (name ++ (59 ∷ rest)) ≡ rest
drop-behind [] rest = refl
drop-behind (b ∷ name) rest = rw add-one (rw add-one at (drop-behind name rest))

-- ---- elements

element_again : (e : ElementType) (rest : List ℕ) → ElementFits e → element_at (element e ++ rest) ≡ Some (e, rest)
unfolding element_at
element_again Byte rest f = refl
element_again Char rest f = refl
element_again Double rest f = refl
element_again Float rest f = refl
element_again Int rest f = refl
element_again Long rest f = refl
element_again Short rest f = refl
element_again Boolean rest f = refl
element_again (Object name) rest f =
    let regrouped : (name ++ 59 ∷ []) ++ rest ≡ name ++ (59 ∷ rest) = append_assoc name (59 ∷ []) rest in
    let front : take (length name) (name ++ (59 ∷ rest)) ≡ name = take_at name (59 ∷ rest) (length name) refl in
    let behind : drop (length name + 1) (name ++ (59 ∷ rest)) ≡ rest = drop-behind name rest in
    ap (λ (l : List ℕ). element_at (76 ∷ l)) regrouped ∙ rw (name_again name rest (class_name_inside name f), front, f, behind) refl

dimensions_again : (n : ℕ) (e : ElementType) (rest : List ℕ) → dimensions_of (replicate n 91 ++ (element e ++ rest)) ≡ n
dimensions_again zero Byte rest = refl
dimensions_again zero Char rest = refl
dimensions_again zero Double rest = refl
dimensions_again zero Float rest = refl
dimensions_again zero Int rest = refl
dimensions_again zero Long rest = refl
dimensions_again zero Short rest = refl
dimensions_again zero Boolean rest = refl
dimensions_again zero (Object name) rest = refl
dimensions_again (suc n) e rest = ap suc (dimensions_again n e rest)

pub field_again : (f : FieldType) (rest : List ℕ) → FieldTypeFits f → field_at (field f ++ rest) ≡ Some (f, rest)
unfolding field_at
field_again f rest fits =
    let regrouped : field f ++ rest ≡ replicate f.dimensions 91 ++ (element f.element ++ rest) = append_assoc (replicate f.dimensions 91) (element f.element) rest in
    let n = dimensions_again f.dimensions f.element rest in
    let few : ltb 255 f.dimensions ≡ false = le-ltb _ _ fits.dimensions in
    let behind : drop f.dimensions (replicate f.dimensions 91 ++ (element f.element ++ rest)) ≡ element f.element ++ rest = drop_at (replicate f.dimensions 91) (element f.element ++ rest) f.dimensions (length-replicate f.dimensions 91) in
    ap field_at regrouped ∙ rw (n, few, behind, element_again f.element rest fits.element) refl

-- what is taken from the front
pub record TakesElement (bytes : List ℕ) (x : ElementType × List ℕ) : Type 0 where
  pub parts : bytes ≡ element x.0 ++ x.1
  pub fits : ElementFits x.0

abbrev given : {A : Type 0} → A → Option A
given x = Some x

given_is : {A : Type 0} (x y : A) → given x ≡ given y → x ≡ y
given_is x y e = cc

pub chosen : {A : Type 0} {b : Bool} {t u x : Option A} {G : Type 0} → (b ≡ true → t ≡ x → G) → (b ≡ false → u ≡ x → G) → cond b t u ≡ x → G
chosen {b = true} on off e = on refl e
chosen {b = false} on off e = off refl e

pub none_some : {A G : Type 0} (x : A) → ◌≡◌ {A = Option A} None (Some x) → G
none_some x e = absurd cc

one_byte : (b n : ℕ) (bytes : List ℕ) (e : ElementType) (x : ElementType × List ℕ) → element e ≡ n ∷ [] → ElementFits e → (b == n) ≡ true
    → Some (e, bytes) ≡ Some x → TakesElement (b ∷ bytes) x
one_byte b n bytes e x spelled fits is eq =
    let first : b ∷ bytes ≡ n ∷ bytes = ap (λ (k : ℕ). k ∷ bytes) (eqb-true b n is) in
    subst (TakesElement (b ∷ bytes)) (given_is (e, bytes) x eq) (record { parts = first ∙ ap (λ (l : List ℕ). l ++ bytes) (sym spelled); fits = fits })

object_takes : (b : ℕ) (bytes : List ℕ) (r : Option ℕ) (x : ElementType × List ℕ) → (b == 76) ≡ true → name_length bytes ≡ r
    → ◌>>=◌ {B = ElementType × List ℕ} r (λ n. cond (is_class_name (take n bytes)) (Some (Object (take n bytes), drop (n + 1) bytes)) None)
    ≡ Some x → TakesElement (b ∷ bytes) x
object_takes b bytes None x is named eq = absurd cc
object_takes b bytes (Some n) x is named eq =
    chosen (λ name found.
    (let h = name_takes bytes n named in
    let first : b ∷ bytes ≡ 76 ∷ bytes = ap (λ (k : ℕ). k ∷ bytes) (eqb-true b 76 is) in
    let regrouped : take n bytes ++ (59 ∷ drop (n + 1) bytes) ≡ (take n bytes ++ 59 ∷ []) ++ drop (n + 1) bytes = sym (append_assoc (take n bytes) (59 ∷ []) (drop (n + 1) bytes)) in
    subst (TakesElement (b ∷ bytes)) (given_is (Object (take n bytes), drop (n + 1) bytes) x found)
    (record { parts = first ∙ ap (λ (l : List ℕ). 76 ∷ l) (h.parts ∙ regrouped); fits = name })))
    (λ _ out. none_some {G = TakesElement (b ∷ bytes) x} x out) eq

element_takes : (bytes : List ℕ) (x : ElementType × List ℕ) → element_at bytes ≡ Some x → TakesElement bytes x
unfolding element_at
element_takes [] x = λ e. absurd cc
element_takes (b ∷ bytes) x =
    chosen (one_byte b 66 bytes Byte x refl tt) (λ _.
    chosen (one_byte b 67 bytes Char x refl tt) (λ _.
    chosen (one_byte b 68 bytes Double x refl tt) (λ _.
    chosen (one_byte b 70 bytes Float x refl tt) (λ _.
    chosen (one_byte b 73 bytes Int x refl tt) (λ _.
    chosen (one_byte b 74 bytes Long x refl tt) (λ _.
    chosen (one_byte b 83 bytes Short x refl tt) (λ _.
    chosen (one_byte b 90 bytes Boolean x refl tt) (λ _.
    chosen (λ is. object_takes b bytes (name_length bytes) x is refl) (λ _ out. none_some {G = TakesElement (b ∷ bytes) x} x out)))))))))

field_made : (bytes : List ℕ) (r : Option (ElementType × List ℕ)) (x : FieldType × List ℕ) → dimensions_of bytes ≤ 255
    → element_at (drop (dimensions_of bytes) bytes) ≡ r
    → ◌>>=◌ {B = FieldType × List ℕ} r (λ e. Some (record { dimensions = dimensions_of bytes; element = e.0 }, e.1)) ≡ Some x
    → (bytes ≡ field x.0 ++ x.1) × FieldTypeFits x.0
field_made bytes None x few read eq = absurd cc
field_made bytes (Some e) x few read eq =
    let h = element_takes (drop (dimensions_of bytes) bytes) e read in
    let made : FieldType × List ℕ = (record { dimensions = dimensions_of bytes; element = e.0 }, e.1) in
    let parts : bytes ≡ field made.0 ++ e.1 = dimensions_take bytes ∙ ap (λ (l : List ℕ). replicate (dimensions_of bytes) 91 ++ l) h.parts ∙ sym (append_assoc (replicate (dimensions_of bytes) 91) (element e.0) e.1) in
    subst (λ (y : FieldType × List ℕ). (bytes ≡ field y.0 ++ y.1) × FieldTypeFits y.0) (given_is made x eq) (parts, record { dimensions = few; element = h.fits })

pub field_takes : (bytes : List ℕ) (x : FieldType × List ℕ) → field_at bytes ≡ Some x → (bytes ≡ field x.0 ++ x.1) × FieldTypeFits x.0
unfolding field_at
field_takes bytes x =
    chosen (λ _ out. none_some {G = (bytes ≡ field x.0 ++ x.1) × FieldTypeFits x.0} x out) (λ few eq. field_made bytes (element_at (drop (dimensions_of bytes) bytes)) x (ltb-false _ _ few) refl eq)

-- ---- the whole text

parse_made : (bytes : List ℕ) (r : Option (FieldType × List ℕ)) (f : FieldType) → field_at bytes ≡ r
    → ◌>>=◌ {B = FieldType} r (λ x. cond (eqb (length x.1) 0) (Some x.0) None) ≡ Some f → IsField bytes f
parse_made bytes None f read = λ e. absurd cc
parse_made bytes (Some x) f read =
    let h = field_takes bytes x read in
    chosen (λ is found. subst (IsField bytes) (given_is x.0 f found) (record { spelled = h.0 ∙ ap (λ (l : List ℕ). field x.0 ++ l) (nil_from_length x.1 (eqb-true _ _ is)) ∙ append-nil (field x.0); fits = h.1 }))
    (λ _ out. none_some {G = IsField bytes f} f out)

pub parse_takes : (bytes : List ℕ) (f : FieldType) → field_type bytes ≡ Some f → IsField bytes f
unfolding field_type
parse_takes bytes f = parse_made bytes (field_at bytes) f refl

pub parse_again : (bytes : List ℕ) (f : FieldType) → IsField bytes f → field_type bytes ≡ Some f
unfolding field_type
parse_again bytes f h =
    let read : field_at bytes ≡ Some (f, []) = ap field_at (h.spelled ∙ sym (append-nil (field f))) ∙ field_again f [] h.fits in
    rw read refl

-- ---- what parsing promises, from what reading gives

pub found_of : {X : Type 0} (view : X → FieldType) (text : List ℕ) (r : Option X) → Gives view r (field_type text)
    → IfSome r (λ x. IsField text (view x))
found_of view text (Some x) h = parse_takes text (view x) h
found_of view text None h = tt

pub only_of : {X : Type 0} (view : X → FieldType) (text : List ℕ) (r : Option X) → Gives view r (field_type text) → (f : FieldType)
    → IsField text f → IsSomeAnd r (λ x. view x ≡ f)
only_of view text (Some x) h f is = given_is (view x) f (sym h ∙ parse_again text f is)
only_of view text None h f is = none_some f (sym h ∙ parse_again text f is)
