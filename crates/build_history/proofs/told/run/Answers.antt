use Rattle.std.proofs.Common.{◌∙◌, sym}
use Rattle.build_history.proofs.told.run.Goals as goal

pub returns : goal.returns
returns c =
    let did = c.scons-report.ensures in
    record {
      ran = record {
        comes = did.comes;
        leaves = did.leaves;
        faults = did.faults;
        status = did.status;
        dry = did.dry;
        cleans = did.cleans;
        builds = did.builds;
        out = c.in_ok-out.out;
        blank = c.in_ok-out.ensures.text;
        new_out = c.scons-report.new.out;
        whole = sym (c.in_ok-printed.ensures ∙ c.text.ensures);
        prints = did.prints;
        refused = did.refused;
        safe = did.safe;
        remembers = did.remembers;
        idle = did.idle tt;
      };
    }
