use Rattle.std.proofs.Common.{◌≡◌, ◌++◌, ◌∷◌, [], ◌-◌, ◌∙◌, ◌≤◌, sym, arith, rules, append_assoc}
use Rattle.std.proofs.lemmas.Result.{err_from_is_err_and}
use Rattle.std.proofs.lemmas.List.{map_push}
use Rattle.model.specs.Tree.{Unusable}
use Rattle.constant_pool.specs.View.{entry_of, entries_of}
use Rattle.constant_pool.specs.PoolReading.{entries_at}
use Rattle.constant_pool.proofs.Places.{goes_on, goes_on_wide, two_are_left, ends, is_done}
use Rattle.constant_pool.proofs.read.read_constants.Goals as goal

pub returns-in_err-constant : goal.returns-in_err-constant
returns-in_err-constant c =
    let p = err_from_is_err_and c.from_residual.result c.from_residual.ensures.1 in
    rw (p.1, p.2) (ends c.in_err-constant.field-0.0 (entries_of c.places.constants.items) c.places.left c.places.reader (entries_at c.args.places c.args.reader.now) c.places-test.true c.in_err-constant.ensures.read c.places.invariant)

pub places-preserved-then-is_wide : goal.places-preserved-then-is_wide
places-preserved-then-is_wide c =
    let wide = sym c.is_wide.ensures ∙ c.if-is_wide.true in
    let two : 2 ≤ c.places.left = two_are_left c.places.left (entry_of c.in_ok-constant.constant) c.places-test.true c.in_ok-constant.ensures.wide wide in
    let e : entries_of c.push-then-is_wide.new.self.items ≡ entries_of c.places.constants.items ++ entry_of c.in_ok-constant.constant ∷ Unusable ∷ [] =
    rw (c.in_ok-push-2.ensures.items, c.in_ok-push.ensures.items) (search (rules, map_push, append_assoc)) in
    rw e (goes_on_wide (entries_of c.places.constants.items) c.places.left (c.places.left - 2) c.places.reader c.read_constant.new.reader (entry_of c.in_ok-constant.constant) (entries_at c.args.places c.args.reader.now) (omega (arith, two)) c.in_ok-constant.ensures.read wide c.places.invariant)

pub places-preserved : goal.places-preserved
places-preserved c =
    let e : entries_of c.push-else-is_wide.new.self.items ≡ entries_of c.places.constants.items ++ entry_of c.in_ok-constant.constant ∷ [] =
    rw c.in_ok-push-3.ensures.items (map_push _ c.places.constants.items c.in_ok-constant.constant) in
    rw e (goes_on (entries_of c.places.constants.items) c.places.left (c.places.left - 1) c.places.reader c.read_constant.new.reader (entry_of c.in_ok-constant.constant) (entries_at c.args.places c.args.reader.now) (omega arith) c.in_ok-constant.ensures.read (sym c.is_wide.ensures ∙ c.if-is_wide.false) c.places.invariant)

pub returns : goal.returns
returns c = is_done (entries_of c.places.constants.items) c.places.left c.places.reader (entries_at c.args.places c.args.reader.now) (omega arith) c.places.invariant
