-- The races of actions by numbers are those of the run.
use Rattle.std.proofs.Common.{◌≡◌, ℕ, zero, suc, List, [], ◌∷◌, map, Bool, true, false, Option, Some, None, refl, sym, ap, subst, ◌∙◌}
use Rattle.std.specs.Prelude.{not, ◌&&◌, ◌||◌, ◌==◌, slice_get}
use Rattle.std.proofs.lemmas.Bool.{false≢true, and_parts, eqb-true}
use Rattle.std.proofs.lemmas.Option.{same_Some, none-some}
use Rattle.model.specs.declared.event.Event.{Event}
use Rattle.model.specs.Classes.{Program}
use Rattle.data_races.specs.HappensBefore.{IsRace}
use Rattle.data_races.specs.Races.{ActionOfRun, actions_of_run, memory_order}
use Rattle.data_races.proofs.Mapped.{IsRenaming, race_to, race_from}
use Rattle.race_places.specs.declared.run_actions.Key.{Key}
use Rattle.race_places.specs.declared.run_actions.Variable.{Variable}
use Rattle.race_places.specs.declared.run_actions.Variable.TheVariants.{InstanceField, StaticField, Element}
use Rattle.race_places.specs.declared.run_actions.Action.{Action}
use Rattle.race_places.specs.declared.run_actions.Action.TheVariants as action
use Rattle.race_places.specs.declared.run_actions.RunAction.{RunAction}
use Rattle.race_places.specs.run_actions.Order.{run_order, conflicts, is_one, is_same_key, only_key, variable_key, read_by, written_by}
use Rattle.race_places.specs.named_actions.Names.{AreApart, IsRight, named_variable, named_action, named_in_run}
use Rattle.race_places.proofs.named_actions.Alike.{alike}
use Rattle.field_names.specs.named_fields.Fields.{names_of}
use Rattle.run_races.specs.declared.told_races.Race.{Race}
use Rattle.run_races.specs.declared.told_races.RaceAccess.{RaceAccess}
use Rattle.run_races.specs.declared.told_races.RacedVariable.{RacedVariable}
use Rattle.run_races.specs.labels.Labels.{access_of}
use Rattle.run_races.specs.race_finder.Found.{accessed, IsTold, AreTold}
use Rattle.run_races.specs.told_races.Variables.{numbers_of}
use Rattle.run_races.specs.named_races.Named.{IsLabelled, IsOfRun, AreAlike, AreOfRun, access_action, IsAccess, IsRaceOf, IsSecondOf, AreRaces}

-- ---- variables of accesses that conflict

same_two : (a b c d : Bool) → (a && (b && (c && d))) ≡ true → (a ≡ true) × (b ≡ true) × (c ≡ true) × (d ≡ true)
same_two true true true true e = (refl, refl, refl, refl)
same_two true true true false e = absurd (false≢true e)
same_two true true false d e = absurd (false≢true e)
same_two true false c d e = absurd (false≢true e)
same_two false b c d e = absurd (false≢true e)

same_variable : (v w : Variable) → is_same_key (variable_key v) (variable_key w) ≡ true → v ≡ w
same_variable (InstanceField o c f) (InstanceField p d g) e =
    let s = same_two true (o == p) (c == d) (f == g) e in
    let object : o ≡ p = eqb-true o p s.1 in
    let class : c ≡ d = eqb-true c d s.2 in
    let field : f ≡ g = eqb-true f g s.3 in
    ap (λ x. InstanceField x c f) object ∙ ap (λ x. InstanceField p x f) class ∙ ap (λ x. InstanceField p d x) field
same_variable (InstanceField o c f) (StaticField d g) e = absurd (false≢true e)
same_variable (InstanceField o c f) (Element p i) e = absurd (false≢true e)
same_variable (StaticField c f) (InstanceField p d g) e = absurd (false≢true e)
same_variable (StaticField c f) (StaticField d g) e =
    let s = same_two true (c == d) (f == g) true e in
    ap (λ x. StaticField x f) (eqb-true c d s.1) ∙ ap (λ x. StaticField d x) (eqb-true f g s.2)
same_variable (StaticField c f) (Element p i) e = absurd (false≢true e)
same_variable (Element a i) (InstanceField p d g) e = absurd (false≢true e)
same_variable (Element a i) (StaticField d g) e = absurd (false≢true e)
same_variable (Element a i) (Element b j) e =
    let s = same_two true (a == b) (i == j) true e in
    ap (λ x. Element x i) (eqb-true a b s.1) ∙ ap (λ x. Element b x) (eqb-true i j s.2)

one_variable : (b c : Bool) (v w : Variable) → is_one (only_key b (variable_key v)) (only_key c (variable_key w)) ≡ true → v ≡ w
one_variable true true v w e = same_variable v w e
one_variable true false v w e = absurd (false≢true e)
one_variable false c v w e = absurd (false≢true e)

no_key : (o : Option Key) → is_one o None ≡ true → ⊥
no_key None e = false≢true e
no_key (Some k) e = false≢true e

-- an access of a variable, and whether it writes that
pub record Accesses (a : Action) (variable : Variable) : Type 0 where
  pub writes : Bool
  pub is : accessed a ≡ Some (variable, writes)

either : (a b c : Bool) → (a || (b || c)) ≡ true → {P : Type 0} → (a ≡ true → P) → (b ≡ true → P) → (c ≡ true → P) → P
either true b c e f g h = f refl
either false true c e f g h = g refl
either false false true e f g h = h refl
either false false false e f g h = absurd (false≢true e)

-- two accesses that conflict are of one variable
first_of_read : (a : Action) (w : Variable) (other : Bool) → conflicts a (action.Read w other) ≡ true → Accesses a w
first_of_read (action.Read v volatile) w other e = absurd (either (is_one (read_by (action.Read v volatile)) None) false false e (no_key (read_by (action.Read v volatile))) false≢true false≢true)
first_of_read (action.Write v volatile) w other e =
    either false (is_one (written_by (action.Write v volatile)) None) (is_one (written_by (action.Write v volatile)) (read_by (action.Read w other))) e
    (λ s. absurd (false≢true s)) (λ s. absurd (no_key (written_by (action.Write v volatile)) s))
    (λ s. record { writes = true; is = ap (λ x. Some (x, true)) (one_variable (not volatile) (not other) v w s) })
first_of_read _ w other e = absurd (false≢true e)

first_of_write : (a : Action) (w : Variable) (other : Bool) → conflicts a (action.Write w other) ≡ true → Accesses a w
first_of_write (action.Read v volatile) w other e =
    either (is_one (read_by (action.Read v volatile)) (written_by (action.Write w other))) false false e
    (λ s. record { writes = false; is = ap (λ x. Some (x, false)) (one_variable (not volatile) (not other) v w s) })
    (λ s. absurd (false≢true s)) (λ s. absurd (false≢true s))
first_of_write (action.Write v volatile) w other e =
    either false (is_one (written_by (action.Write v volatile)) (written_by (action.Write w other))) (is_one (written_by (action.Write v volatile)) None) e
    (λ s. absurd (false≢true s))
    (λ s. record { writes = true; is = ap (λ x. Some (x, true)) (one_variable (not volatile) (not other) v w s) })
    (λ s. absurd (no_key (written_by (action.Write v volatile)) s))
first_of_write _ w other e = absurd (false≢true e)

first_accesses : (a b : Action) (variable : Variable) (writes : Bool) → conflicts a b ≡ true → accessed b ≡ Some (variable, writes) → Accesses a variable
first_accesses a (action.Read w other) variable writes e h =
    subst (λ (v : Variable). Accesses a v) (ap (λ (p : Variable × Bool). p.0) (same_Some (w, false) (variable, writes) h)) (first_of_read a w other e)
first_accesses a (action.Write w other) variable writes e h =
    subst (λ (v : Variable). Accesses a v) (ap (λ (p : Variable × Bool). p.0) (same_Some (w, true) (variable, writes) h)) (first_of_write a w other e)
first_accesses a _ variable writes e h = absurd (none-some (variable, writes) h)

no_keys : (o q : Option Key) → (is_one o None || (is_one q None || is_one q None)) ≡ true → ⊥
no_keys o q e = either (is_one o None) (is_one q None) (is_one q None) e (no_key o) (no_key q) (no_key q)

-- the second one accesses some
second_accesses : (a b : Action) → conflicts a b ≡ true → (variable : Variable) × Accesses b variable
second_accesses a (action.Read w volatile) e = (w, record { writes = false; is = refl })
second_accesses a (action.Write w volatile) e = (w, record { writes = true; is = refl })
second_accesses a _ e = absurd (no_keys (read_by a) (written_by a) e)

-- by names
accesses_named : (trees : Program) (a : Action) (variable : Variable) (writes : Bool) → accessed a ≡ Some (variable, writes)
    → named_action (names_of trees) a ≡ access_action writes (named_variable (names_of trees) variable)
accesses_named trees (action.Read v volatile) variable writes e =
    let s = same_Some (v, false) (variable, writes) e in
    ap (λ (p : Variable × Bool). access_action p.1 (named_variable (names_of trees) p.0)) s
accesses_named trees (action.Write v volatile) variable writes e =
    let s = same_Some (v, true) (variable, writes) e in
    ap (λ (p : Variable × Bool). access_action p.1 (named_variable (names_of trees) p.0)) s
accesses_named trees _ variable writes e = absurd (none-some (variable, writes) e)

-- ---- lists

module _ (trees : Program) (frames : ℕ) (events : List Event) where
  abbrev IsOf : RunAction → ActionOfRun → Type 0
  IsOf a of = IsOfRun trees frames events a of

  of_at : (run : List RunAction) (all : List ActionOfRun) → AreAlike trees frames events run all → (k : ℕ) (a : RunAction) → slice_get run k ≡ Some a
      → (of : ActionOfRun) × (slice_get all k ≡ Some of) × IsOf a of
  of_at [] all h k a e = absurd (none-some a e)
  of_at (x ∷ run) [] h k a e = absurd h
  of_at (x ∷ run) (y ∷ all) h zero a e = (y, refl, subst (λ (z : RunAction). IsOf z y) (same_Some x a e) h.0)
  of_at (x ∷ run) (y ∷ all) h (suc k) a e = of_at run all h.1 k a e

  -- numbers of events are of no matter to races
  abbrev plain : ActionOfRun → ActionOfRun
  plain of = record { thread = of.thread; event = 0; action = of.action }

  abbrev plainly : List ActionOfRun → List ActionOfRun
  plainly all = map plain all

  plain_renames : (all : List ActionOfRun) → IsRenaming (memory_order trees) (memory_order trees) plain all
  plain_renames all = record { one_thread = λ a b at_a at_b. refl; synchronizes = λ a b at_a at_b. refl; takes_away = λ a b at_a at_b. refl; conflict = λ a b at_a at_b. refl }

  abbrev named_run : List RunAction → List ActionOfRun
  named_run run = map (named_in_run (names_of trees)) run

  plain_one : (a : RunAction) (of : ActionOfRun) → IsOf a of → plain (named_in_run (names_of trees) a) ≡ plain of
  plain_one a of h =
      ap (λ t. record { thread = t; event = 0; action = named_action (names_of trees) a.action }) h.thread
      ∙ ap (λ x. record { thread = of.thread; event = 0; action = x }) h.action

  plain_all : (run : List RunAction) (all : List ActionOfRun) → AreAlike trees frames events run all → plainly (named_run run) ≡ plainly all
  plain_all [] [] h = refl
  plain_all [] (y ∷ all) h = absurd h
  plain_all (x ∷ run) [] h = absurd h
  plain_all (x ∷ run) (y ∷ all) h =
      ap (λ z. z ∷ plainly (named_run run)) (plain_one x y h.0) ∙ ap (λ zs. plain y ∷ zs) (plain_all run all h.1)

  all_right : (run : List RunAction) (all : List ActionOfRun) → AreAlike trees frames events run all → (k : ℕ) (a : RunAction) → slice_get run k ≡ Some a
      → IsRight (names_of trees) trees a.action
  all_right run all h k a e = let of = of_at run all h k a e in of.2.right

  module _ (apart : AreApart (names_of trees)) (run : List RunAction) (h : AreOfRun trees frames events run) where
    abbrev all : List ActionOfRun
    all = actions_of_run trees frames events

    race_in : (i j : ℕ) → IsRace run_order run i j → IsRace (memory_order trees) all i j
    race_in i j r =
        race_from (memory_order trees) (memory_order trees) plain all (plain_renames all) i j
        (subst (λ (l : List ActionOfRun). IsRace (memory_order trees) l i j) (plain_all run all h)
        (race_to (memory_order trees) (memory_order trees) plain (named_run run) (plain_renames (named_run run)) i j
        ((alike (names_of trees) trees apart run (all_right run all h) i j).0 r)))

    race_out : (i j : ℕ) → IsRace (memory_order trees) all i j → IsRace run_order run i j
    race_out i j r =
        (alike (names_of trees) trees apart run (all_right run all h) i j).1
        (race_from (memory_order trees) (memory_order trees) plain (named_run run) (plain_renames (named_run run)) i j
        (subst (λ (l : List ActionOfRun). IsRace (memory_order trees) l i j) (sym (plain_all run all h))
        (race_to (memory_order trees) (memory_order trees) plain all (plain_renames all) i j r)))

    -- ---- accesses

    access_at : (k : ℕ) (a : RunAction) → slice_get run k ≡ Some a → (variable : Variable) (writes : Bool) → accessed a.action ≡ Some (variable, writes)
        → IsAccess trees frames events k (numbers_of variable) (access_of a.thread a.event)
    access_at k a e variable writes accesses =
        let of = of_at run all h k a e in
        let label : IsLabelled trees frames events of.0 writes (access_of a.thread a.event) = of.2.labelled variable writes accesses in
        record {
          action = of.0;
          at = of.1;
          thread = of.2.thread;
          of = variable;
          variable_is = refl;
          accesses =
              sym of.2.action ∙ accesses_named trees a.action variable writes accesses
              ∙ ap (λ b. access_action b (named_variable (names_of trees) variable)) (sym label.is_write);
          stood = label.stood;
        }

    conflict_of : (i j : ℕ) (r : IsRace run_order run i j) (a b : RunAction) → slice_get run i ≡ Some a → slice_get run j ≡ Some b → conflicts a.action b.action ≡ true
    conflict_of i j r a b at_a at_b =
        let first : r.pair.first ≡ a = same_Some r.pair.first a (sym r.pair.at_first ∙ at_a) in
        let second : r.pair.second ≡ b = same_Some r.pair.second b (sym r.pair.at_second ∙ at_b) in
        let parts = and_parts (not (r.pair.first.thread == r.pair.second.thread)) (conflicts r.pair.first.action r.pair.second.action) r.conflict in
        subst (λ (x : RunAction). conflicts x.action b.action ≡ true) first (subst (λ (y : RunAction). conflicts r.pair.first.action y.action ≡ true) second parts.1)

    race_of : (race : Race) → IsTold run race → IsRaceOf trees frames events race
    race_of race t =
        let conflict = conflict_of t.i t.j t.is t.first t.second t.at_first t.at_second in
        let first = first_accesses t.first.action t.second.action t.variable t.writes conflict t.accesses in
        subst (λ (x : Race). IsRaceOf trees frames events x) (sym t.told)
        (record {
          i = t.i;
          j = t.j;
          is = race_in t.i t.j t.is;
          first = access_at t.i t.first t.at_first t.variable first.writes first.is;
          second = access_at t.j t.second t.at_second t.variable t.writes t.accesses;
        })

    second_of : (told : List Race) → AreTold run told → (i j : ℕ) → IsRace (memory_order trees) all i j → IsSecondOf trees frames events told j
    second_of told are i j r =
        let mine = race_out i j r in
        let conflict = conflict_of i j mine mine.pair.first mine.pair.second mine.pair.at_first mine.pair.at_second in
        let second = mine.pair.second in
        let of = second_accesses mine.pair.first.action second.action conflict in
        let has = are.all i j mine second mine.pair.at_second of.0 of.1.writes of.1.is in
        let access = access_at j second mine.pair.at_second of.0 of.1.writes of.1.is in
        record {
          place = has.place;
          race = has.race;
          at = has.at;
          second =
              subst (λ (v : RacedVariable). IsAccess trees frames events j v has.race.second) (sym has.of_variable)
              (subst (λ (x : RaceAccess). IsAccess trees frames events j (numbers_of of.0) x) (sym has.of_second) access);
        }

    pub races_named : (told : List Race) → AreTold run told → AreRaces trees frames events told
    races_named told are = record { each = λ k race at. race_of race (are.each k race at); all = second_of told are }
