use Rattle.std.proofs.Common.{◌≡◌, length, ap, arith}
use Rattle.classfile.specs.View.{code_of}
use Rattle.link_conditions.specs.resolution.Unresolved.{exception_stands}
use Rattle.advice.specs.Wrong.{is_entry_wrong}
use Rattle.advice.specs.declared.told.ToldPlace.TheVariants as places
use Rattle.advice.proofs.TellingLaws.{one_more, each_of, none_past}
use Rattle.advice.proofs.WalkLaws.{here_of}
use Rattle.advice.proofs.site.code.CodeSite.push_entries.Goals as goal

pub loop-number-preserved : goal.loop-number-preserved
loop-number-preserved c =
    let site = c.args.self.now.site.now in
    let code = c.args.self.now.code.now in
    let items : c.deref-entry-items.result.now ≡ code.exceptions.items = cc in
    one_more _ _ _ _ (λ k. places.Exception c.args.self.now.number k) (is_entry_wrong site.facts.0 site.facts.1 (code_of code)) c.loop-number.number _
    c.loop-number.invariant c.in_ok-push_entry.ensures (λ h. here_of (exception_stands site.facts.0 site.facts.1) _ _ _ _ items h)

pub returns : goal.returns
returns c =
    let site = c.args.self.now.site.now in
    let code = c.args.self.now.code.now in
    let items : c.deref-entry-items.result.now ≡ code.exceptions.items = cc in
    each_of _ _ _ (λ k. places.Exception c.args.self.now.number k) (is_entry_wrong site.facts.0 site.facts.1 (code_of code)) c.loop-number.number
    c.loop-number.invariant
    (λ k le h. none_past (exception_stands site.facts.0 site.facts.1) code.exceptions.items k (omega (arith, le, c.loop-number-test.false, ap length items)) h)
