-- Superclasses, where no class is above itself: what is above a class is above its subclasses.
use Rattle.std.proofs.Common.{◌≡◌, ℕ, zero, suc, ◌+◌, ◌≤◌, length, Option, Some, None, Bool, true, false, refl, sym, ◌∙◌, subst, ⊎_elim, arith}
use Rattle.std.specs.Option.{option_map_or}
use Rattle.std.proofs.lemmas.Bool.{false≢true, and_parts, or_cases, or_left, or_right}
use Rattle.std.proofs.lemmas.Slice.Eq.{bytes_eq-Decides}
use Rattle.model.specs.Names.{Name, name_eq, Member, member_eq, java_lang_object}
use Rattle.model.specs.BuiltIn.{built_in_classes}
use Rattle.model.specs.Classes.{Program, classes_of, superclass_of, is_within, is_subclass}
use Rattle.run_laws.specs.laws.Steps.{ends, Rooted}

pub names_same : (a b : Name) → name_eq a b ≡ true → a ≡ b
names_same a b h = (bytes_eq-Decides a b).0 h

pub name_self : (a : Name) → name_eq a a ≡ true
name_self a = (bytes_eq-Decides a a).1 refl

pub members_same : (a b : Member) → member_eq a b ≡ true → a ≡ b
members_same a b h =
    let p = and_parts (name_eq a.class b.class) _ h in
    let q = and_parts (name_eq a.name b.name) _ p.1 in
    let c = names_same a.class b.class p.0 in
    let n = names_same a.name b.name q.0 in
    let d = names_same a.descriptor b.descriptor q.1 in
    λ i. record { class = c i; name = n i; descriptor = d i }

on_super : (f g : Name → Bool) (o : Option Name) → ((s : Name) → f s ≡ true → g s ≡ true) → option_map_or f o false ≡ true
    → option_map_or g o false ≡ true
on_super f g None h q = q
on_super f g (Some s) h q = h s q

both_super : (f g k : Name → Bool) (o : Option Name) → ((s : Name) → k s ≡ true → f s ≡ true → g s ≡ true) → option_map_or k o true ≡ true
    → option_map_or f o false ≡ true → option_map_or g o false ≡ true
both_super f g k None h e q = q
both_super f g k (Some s) h e q = h s e q

none_super : (f k : Name → Bool) (o : Option Name) → ((s : Name) → k s ≡ false) → option_map_or k o true ≡ true
    → option_map_or f o false ≡ true → ⊥
none_super f k None h e q = absurd (false≢true q)
none_super f k (Some s) h e q = absurd (false≢true (sym (h s) ∙ e))

module _ (files : Program) where
  pub more_steps : (a b : ℕ) (c d : Name) → a ≤ b → is_within files a c d ≡ true → is_within files b c d ≡ true
  more_steps zero zero c d l w = w
  more_steps zero (suc b) c d l w = or_left (name_eq c d) _ w
  more_steps (suc a) zero c d l w = absurd (omega arith)
  more_steps (suc a) (suc b) c d l w =
      ⊎_elim (λ q. or_left (name_eq c d) _ q)
      (λ q. or_right (name_eq c d) _ (on_super _ _ (superclass_of files c) (λ s. more_steps a b s d (omega arith)) q))
      (or_cases (name_eq c d) _ w)

  -- where the superclasses end, no more steps lead further
  enough : (n m : ℕ) (c d : Name) → ends files (suc n) c ≡ true → is_within files m c d ≡ true → is_within files n c d ≡ true
  enough zero zero c d e w = w
  enough zero (suc m) c d e w =
      ⊎_elim (λ q. q) (λ q. absurd (none_super _ _ (superclass_of files c) (λ s. refl) e q)) (or_cases (name_eq c d) _ w)
  enough (suc n) zero c d e w = or_left (name_eq c d) _ w
  enough (suc n) (suc m) c d e w =
      ⊎_elim (λ q. or_left (name_eq c d) _ q)
      (λ q. or_right (name_eq c d) _ (both_super _ _ _ (superclass_of files c) (λ s. enough n m s d) e q)) (or_cases (name_eq c d) _ w)

  joined_ways : (n m : ℕ) (c d e : Name) → is_within files n c d ≡ true → is_within files m d e ≡ true → is_within files (n + m) c e ≡ true
  joined_ways zero m c d e p q =
      let z : m ≡ 0 + m = omega arith in
      subst (λ k. is_within files k c e ≡ true) z (subst (λ x. is_within files m x e ≡ true) (sym (names_same c d p)) q)
  joined_ways (suc n) m c d e p q =
      let z : suc (n + m) ≡ suc n + m = omega arith in
      subst (λ k. is_within files k c e ≡ true) z
      (⊎_elim
      (λ w. more_steps m (suc (n + m)) c e (omega arith) (subst (λ x. is_within files m x e ≡ true) (sym (names_same c d w)) q))
      (λ w. or_right (name_eq c e) _ (on_super _ _ (superclass_of files c) (λ s h. joined_ways n m s d e h q) w))
      (or_cases (name_eq c d) _ p))

  pub subclass_self : (n : ℕ) (c : Name) → is_within files n c c ≡ true
  subclass_self zero c = name_self c
  subclass_self (suc n) c = or_left (name_eq c c) _ (name_self c)

  pub subclass_trans : Rooted files → (a b c : Name) → is_subclass files a b ≡ true → is_subclass files b c ≡ true
      → is_subclass files a c ≡ true
  subclass_trans rooted a b c p q =
      let n = length (classes_of files) in enough n (n + n) a c (rooted a) (joined_ways n n a b c p q)

  -- any number of steps up leads to a superclass
  pub within_subclass : Rooted files → (n : ℕ) (c d : Name) → is_within files n c d ≡ true → is_subclass files c d ≡ true
  within_subclass rooted n c d w = enough (length (classes_of files)) n c d (rooted c) w

-- Object has no superclass
pub object_is_top : (files : Program) → superclass_of files java_lang_object ≡ None
unfolding built_in_classes
object_is_top files = refl

top_within : (files : Program) (n : ℕ) (c : Name) → is_within files n java_lang_object c ≡ true → java_lang_object ≡ c
top_within files zero c h = names_same java_lang_object c h
top_within files (suc n) c h =
    ⊎_elim (λ q. names_same java_lang_object c q) (λ q. absurd (false≢true (subst (λ o. option_map_or (λ s. is_within files n s c) o false
    ≡ true) (object_is_top files) q))) (or_cases (name_eq java_lang_object c) _ h)

-- nothing is above Object but itself
pub above_object : (files : Program) (c : Name) → is_subclass files java_lang_object c ≡ true → java_lang_object ≡ c
above_object files c h = top_within files (length (classes_of files)) c h
