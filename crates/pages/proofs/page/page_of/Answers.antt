use Rattle.pages.specs.declared.frame.TheConstants.{BETWEEN, HEAD, TAIL}
use Rattle.pages.proofs.Joined.{joined}
use Rattle.pages.proofs.page.page_of.Goals as goal

pub returns : goal.returns
returns c =
    let told = c.in_ok-push_data.ensures in
    let reported = c.in_ok-push_data-2.ensures in
    record {
      told = told.0;
      told_stands = told.2;
      reported = reported.0;
      reported_stands = reported.2;
      page_is =
          joined _ _ _ _ _ _ HEAD.now told.0 BETWEEN.now reported.0 TAIL.now c.new-page.ensures.bytes c.in_ok-push_str.ensures.bytes told.1 c.in_ok-push_str-2.ensures.bytes reported.1 c.in_ok-push_str-3.ensures.bytes;
    }
