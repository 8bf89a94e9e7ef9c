use Rattle.std.proofs.Common.{◌≡◌, ◌+◌, ◌*◌, drop}
use Rattle.build_model.specs.Rules.{Path}
use Rattle.build_model.specs.Contents.{includes_of, contents_in}
use Rattle.model_trials.specs.Making.{included_or, listed, view_of}
use Rattle.model_trials.proofs.Makings.{with_front}
use Rattle.model_trials.proofs.clean.+clean.Given as goal

abbrev pub decreases-clean : goal.decreases-clean
decreases-clean l = 3 * l.height

abbrev pub decreases-made : goal.decreases-made
decreases-made l = 3 * l.height + 2

abbrev pub decreases-dependencies : goal.decreases-dependencies
decreases-dependencies l = 3 * l.height + 1

abbrev pub decreases-contents : goal.decreases-contents
decreases-contents l = 3 * l.height + 1

abbrev pub invariant-dependencies-loop-line : goal.invariant-dependencies-loop-line
invariant-dependencies-loop-line l = (p : Path) →
    included_or l.scans.items p (includes_of (listed (drop l.line-index l.graph.lines.items) p) (view_of l.graph l.height p))
    ≡ includes_of (listed l.graph.lines.items p) (view_of l.graph l.height p)

abbrev pub invariant-contents-loop-path : goal.invariant-contents-loop-path
invariant-contents-loop-path l =
    with_front l.given.items (contents_in (view_of l.graph l.height) (drop l.path-index l.paths)) ≡ contents_in (view_of l.graph l.height) l.paths
