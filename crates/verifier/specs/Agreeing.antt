-- Lists and frame types that differ at some places alone.
use Rattle.std.specs.Prelude.{◌≡◌, ℕ, List, [], ◌∷◌, Bool, true, false, ◌==◌, length, slice_get}
use Rattle.std.specs.List.{list_any}
use Rattle.model.specs.TypeOrder.{FrameType}

abbrev pub is_among : List ℕ → ℕ → Bool
is_among ks k = list_any (λ i. i == k) ks

-- lists that agree but at these places
pub record AgreeBut {A : Type 0} (ks : List ℕ) (xs ys : List A) : Type 0 where
  pub long : length xs ≡ length ys
  pub same : (k : ℕ) → is_among ks k ≡ false → slice_get xs k ≡ slice_get ys k

-- lists that agree at these places
abbrev pub AgreeAt : {A : Type 0} → List ℕ → List A → List A → Type 0
AgreeAt ks xs ys = (k : ℕ) → is_among ks k ≡ true → slice_get xs k ≡ slice_get ys k

-- frame types that differ in these local variables alone
pub record DifferIn (ks : List ℕ) (a b : FrameType) : Type 0 where
  pub locals : AgreeBut ks a.slots.locals b.slots.locals
  pub stack : a.slots.stack ≡ b.slots.stack
  pub constructed : a.constructed ≡ b.constructed

-- Offsets with frame types, and the same offsets with others: these differ in these local variables alone, and there they are those of
-- one frame type.
abbrev pub HaveMoved : List ℕ → FrameType → List (ℕ × FrameType) → List (ℕ × FrameType) → Type 0
HaveMoved ks t [] [] = Unit {0}
HaveMoved ks t [] (y ∷ ys) = ⊥
HaveMoved ks t (x ∷ xs) [] = ⊥
HaveMoved ks t (x ∷ xs) (y ∷ ys) = (x.0 ≡ y.0) × DifferIn ks x.1 y.1 × AgreeAt ks y.1.slots.locals t.slots.locals × HaveMoved ks t xs ys
