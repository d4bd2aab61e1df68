use Rattle.std.proofs.Common.{◌≡◌, ◌<◌, None, inl, inr, sym, ap, subst, ⊎_elim, arith}
use Rattle.link_conditions.specs.declared.refusal.why.RefusalKind.TheVariants as kinds
use Rattle.run_laws.specs.typing_search.Search.{HasNoTyping}
use Rattle.types.specs.method_code.View.{member_of, body_of}
use Rattle.verifier.specs.Steps.{method_steps, shown_steps, TakesAtMost, MayTakeMore}
use Rattle.verifier.specs.Verified.{OnFault}
use Rattle.verifier.specs.Places.{IsRefusalOf}
use Rattle.verifier.proofs.verified.verify_at.Goals as goal

pub returns-in-Ok-clause-taken : goal.returns-in-Ok-clause-taken
returns-in-Ok-clause-taken c costs are =
    let m = c.in-Some.method in
    let took = subst (λ files. TakesAtMost files (method_steps (member_of m) (body_of m)) c.args.steps.now.left c.verify_method.new.steps.left) c.in-Some.ensures.files c.in-Ok.ensures.taken costs are in
    let same = ap (λ o. shown_steps o costs) c.in-Some.ensures.value in
    omega (arith, took, same)

pub returns-in-Err-Unverified-clause-refused : goal.returns-in-Err-Unverified-clause-refused
returns-in-Err-Unverified-clause-refused c =
    let m = c.in-Some.method in
    let left = c.args.steps.now.left in
    let none = subst (λ files. OnFault c.in-Err-Unverified.field-0 (HasNoTyping files (member_of m) (body_of m)) (MayTakeMore files (method_steps (member_of m) (body_of m)) left)) c.in-Some.ensures.files c.in-Err-Unverified.ensures.exact in
    let untyped = subst (λ fault. OnFault fault (HasNoTyping c.args.hierarchy.now (member_of m) (body_of m)) (MayTakeMore c.args.hierarchy.now (method_steps (member_of m) (body_of m)) left)) c.in-Err-Unverified.field-0-is none in
    ⊎_elim (λ kind. inl kind) (λ (named : IsRefusalOf kinds.Unverified c.args.class (member_of m) c.unverified.result). inr (inl (record { class = c.args.class; method = c.args.member; member = member_of m; body = body_of m; stands = sym c.in-Some.ensures.value; none = untyped; named = named }))) c.unverified.ensures

pub returns-in-Err-TooLong-clause-refused : goal.returns-in-Err-TooLong-clause-refused
returns-in-Err-TooLong-clause-refused c =
    let m = c.in-Some.method in
    let left = c.args.steps.now.left in
    let fewer = subst (λ files. OnFault c.in-Err-TooLong.field-0 (HasNoTyping files (member_of m) (body_of m)) (MayTakeMore files (method_steps (member_of m) (body_of m)) left)) c.in-Some.ensures.files c.in-Err-TooLong.ensures.exact in
    let long = subst (λ fault. OnFault fault (HasNoTyping c.args.hierarchy.now (member_of m) (body_of m)) (MayTakeMore c.args.hierarchy.now (method_steps (member_of m) (body_of m)) left)) c.in-Err-TooLong.field-0-is fewer in
    ⊎_elim (λ kind. inl kind)
    (λ (named : IsRefusalOf kinds.TooLarge c.args.class (member_of m) c.too_long.result × (c.too_long.result.offset ≡ None)). inr (inr (record {
      class = c.args.class;
      method = c.args.member;
      member = member_of m;
      body = body_of m;
      stands = sym c.in-Some.ensures.value;
      long = λ costs are. subst (λ o. left < shown_steps o costs) c.in-Some.ensures.value (long costs are);
      named = named.0;
      nowhere = named.1;
    })))
    c.too_long.ensures
