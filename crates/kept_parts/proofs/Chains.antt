-- Words that are put behind others one after another, and read one after another.
use Rattle.std.proofs.Common.{◌≡◌, List, ◌++◌, Result, Ok, Err, ap, ◌∙◌, append_assoc}
use Rattle.std.specs.Prelude.{OnOk, IfOk}

pub on_ok : {T E : Type 0} (r : Result T E) (P Q : Type 0) → (P → Q) → OnOk r P → OnOk r Q
on_ok (Ok x) P Q step h = step h
on_ok (Err e) P Q step h = tt

pub if_ok : {T E : Type 0} (r : Result T E) (P Q : T → Type 0) → ((x : T) → P x → Q x) → IfOk r P → IfOk r Q
if_ok (Ok x) P Q step h = step x h
if_ok (Err e) P Q step h = tt

-- first some, then others
pub pushed_two : {A : Type 0} (a b c xs ys : List A) → b ≡ a ++ xs → c ≡ b ++ ys → c ≡ a ++ (xs ++ ys)
pushed_two a b c xs ys p q = q ∙ ap (λ zs. zs ++ ys) p ∙ append_assoc a xs ys

pub read_two : {A : Type 0} (a b c xs ys : List A) → a ≡ xs ++ b → b ≡ ys ++ c → a ≡ xs ++ (ys ++ c)
read_two a b c xs ys p q = p ∙ ap (λ zs. xs ++ zs) q
