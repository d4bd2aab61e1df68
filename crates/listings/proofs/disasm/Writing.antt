-- Texts that are written one after the other.
use Rattle.std.proofs.Common.{◌≡◌, ℕ, zero, suc, ◌+◌, ◌-◌, ◌<◌, List, [], ◌∷◌, ◌++◌, length, get_or, take, drop, map, Option, Some, None, refl, sym, ap, subst, ◌∙◌, append_assoc, add-one, arith, take-append-drop, drop-cons}
use Rattle.std.specs.Prelude.{Result, Ok, Err, OnOk}
use Rattle.std.specs.List.{flat_map}
use Rattle.std.specs.Io.KnownBytes.{Appends}
use Rattle.std.proofs.lemmas.List.{append-nil, take_more}
use Rattle.std.proofs.lemmas.Grind.{flat_map-append}
use Rattle.model.specs.declared.device.DeviceFault.{DeviceFault}
use Rattle.model.specs.Devices.{AppendsFront, Writes}
use Rattle.model.specs.Listing.{each_below}

abbrev pub Held : Type 0
Held = Option (List ℕ)

pub nothing_on : (old : Held) → Appends old old []
nothing_on None = tt
nothing_on (Some held) = sym (append-nil held)

pub appends_on : (old mid new : Held) (xs ys : List ℕ) → Appends old mid xs → Appends mid new ys → Appends old new (xs ++ ys)
appends_on None mid new xs ys first second = tt
appends_on (Some held) None new xs ys first second = absurd first
appends_on (Some held) (Some more) None xs ys first second = absurd second
appends_on (Some held) (Some more) (Some all) xs ys first second = second ∙ ap (λ (l : List ℕ). l ++ ys) first ∙ append_assoc held xs ys

pub none_written : (old : Held) (text : List ℕ) → AppendsFront old old text
none_written old text = ([], text, refl, nothing_on old)

pub first_fails : (old new : Held) (xs ys : List ℕ) → AppendsFront old new xs → AppendsFront old new (xs ++ ys)
first_fails old new xs ys h = (h.0, h.1 ++ ys, ap (λ (l : List ℕ). l ++ ys) h.2 ∙ append_assoc h.0 h.1 ys, h.3)

pub then_fails : (old mid new : Held) (xs ys : List ℕ) → Appends old mid xs → AppendsFront mid new ys → AppendsFront old new (xs ++ ys)
then_fails old mid new xs ys first h = (
  xs ++ h.0,
  h.1,
  ap (λ (l : List ℕ). xs ++ l) h.2 ∙ sym (append_assoc xs h.0 h.1),
  appends_on old mid new xs h.0 first h.3,
)

pub then_writes : {A : Type 0} (r : Result A DeviceFault) (old mid new : Held) (xs ys : List ℕ) → Appends old mid xs → Writes r ys mid new
    → Writes r (xs ++ ys) old new
then_writes (Ok value) old mid new xs ys first second = appends_on old mid new xs ys first second
then_writes (Err fault) old mid new xs ys first second = then_fails old mid new xs ys first second

pub then_pushed : {A E : Type 0} (r : Result A E) (old mid new xs ys : List ℕ) → mid ≡ old ++ xs → OnOk r (new ≡ mid ++ ys)
    → OnOk r (new ≡ old ++ (xs ++ ys))
then_pushed (Ok value) old mid new xs ys first second = second ∙ ap (λ (l : List ℕ). l ++ ys) first ∙ append_assoc old xs ys
then_pushed (Err fault) old mid new xs ys first second = tt

-- ---- the texts of the elements of a list

pub flat_map_parts : {X : Type 0} (f : X → List ℕ) (xs : List X) (k : ℕ) (d : X) → k < length xs
    → flat_map f xs ≡ flat_map f (take k xs) ++ (f (get_or xs k d) ++ flat_map f (drop (suc k) xs))
flat_map_parts {X = X} f xs k d lt =
    ap (λ (l : List X). flat_map f l) (sym (take-append-drop k xs)) ∙ flat_map-append f (take k xs) (drop k xs) ∙ ap (λ (l : List X). flat_map f (take k xs) ++ flat_map f l) (drop-cons xs k d lt)

pub flat_map_more : {X : Type 0} (f : X → List ℕ) (xs : List X) (k : ℕ) (d : X) → k < length xs
    → flat_map f (take (k + 1) xs) ≡ flat_map f (take k xs) ++ f (get_or xs k d)
flat_map_more {X = X} f xs k d lt =
    ap (λ (l : List X). flat_map f l) (take_more xs k d lt) ∙ flat_map-append f (take k xs) (get_or xs k d ∷ []) ∙ ap (λ (l : List ℕ). flat_map f (take k xs) ++ l) (append-nil (f (get_or xs k d)))

pub element_fails : {X : Type 0} (f : X → List ℕ) (xs : List X) (k : ℕ) (x d : X) (old mid new : Held) → k < length xs → x ≡ get_or xs k d
    → Appends old mid (flat_map f (take k xs)) → AppendsFront mid new (f x) → AppendsFront old new (flat_map f xs)
element_fails f xs k x d old mid new lt is before h =
    let parts = flat_map_parts f xs k d lt in
    let here : AppendsFront mid new (f (get_or xs k d)) = subst (λ y. AppendsFront mid new (f y)) is h in
    subst (AppendsFront old new) (sym parts) (then_fails old mid new (flat_map f (take k xs)) (f (get_or xs k d) ++ flat_map f (drop (suc k) xs)) before (first_fails mid new (f (get_or xs k d)) (flat_map f (drop (suc k) xs)) here))

pub element_written : {X : Type 0} (f : X → List ℕ) (xs : List X) (k : ℕ) (x d : X) (old mid new : Held) → k < length xs
    → x ≡ get_or xs k d → Appends old mid (flat_map f (take k xs)) → Appends mid new (f x) → Appends old new (flat_map f (take (k + 1) xs))
element_written f xs k x d old mid new lt is before h =
    let here : Appends mid new (f (get_or xs k d)) = subst (λ y. Appends mid new (f y)) is h in
    subst (Appends old new) (sym (flat_map_more f xs k d lt)) (appends_on old mid new (flat_map f (take k xs)) (f (get_or xs k d)) before here)

pub flat_map_over : {X Y : Type 0} (f : Y → List ℕ) (g : X → Y) (xs : List X) → flat_map (λ x. f (g x)) xs ≡ flat_map f (map g xs)
flat_map_over f g [] = refl
flat_map_over f g (x ∷ xs) = ap (λ (l : List ℕ). f (g x) ++ l) (flat_map_over f g xs)

-- ---- the texts of numbers

pub each_more : (said : ℕ → List ℕ) (k : ℕ) → each_below said (k + 1) ≡ each_below said k ++ said k
each_more said k = rw add-one refl

pub more_said : (said : ℕ → List ℕ) (old : List ℕ) (k : ℕ) (mid new : List ℕ) → mid ≡ old ++ each_below said k → new ≡ mid ++ said k
    → new ≡ old ++ each_below said (k + 1)
more_said said old k mid new before h =
    h ∙ ap (λ (l : List ℕ). l ++ said k) before ∙ append_assoc old (each_below said k) (said k) ∙ ap (λ (l : List ℕ). old ++ l) (sym (each_more said k))

each_parts_from : (said : ℕ → List ℕ) (k more n : ℕ) → n ≡ more + (k + 1)
    → (rest : List ℕ) × (each_below said n ≡ each_below said k ++ (said k ++ rest))
each_parts_from said k zero n is =
    let here : n ≡ suc k = omega arith in
    ([], ap (each_below said) here ∙ ap (λ (l : List ℕ). each_below said k ++ l) (sym (append-nil (said k))))
each_parts_from said k (suc more) n is =
    let m = more + (k + 1) in
    let here : n ≡ suc m = omega arith in
    let h = each_parts_from said k more m refl in
    (h.0 ++ said m, ap (each_below said) here ∙ ap (λ (l : List ℕ). l ++ said m) h.1 ∙ append_assoc (each_below said k) (said k ++ h.0) (said m) ∙ ap (λ (l : List ℕ). each_below said k ++ l) (append_assoc (said k) h.0 (said m)))

pub number_fails : (said : ℕ → List ℕ) (n k : ℕ) (old mid new : Held) → k < n → Appends old mid (each_below said k)
    → AppendsFront mid new (said k) → AppendsFront old new (each_below said n)
number_fails said n k old mid new lt before h =
    let p = each_parts_from said k (n - (k + 1)) n (omega arith) in
    subst (AppendsFront old new) (sym p.1) (then_fails old mid new (each_below said k) (said k ++ p.0) before (first_fails mid new (said k) p.0 h))

pub number_written : (said : ℕ → List ℕ) (k : ℕ) (old mid new : Held) → Appends old mid (each_below said k) → Appends mid new (said k)
    → Appends old new (each_below said (k + 1))
number_written said k old mid new before h = subst (Appends old new) (sym (each_more said k)) (appends_on old mid new (each_below said k) (said k) before h)
