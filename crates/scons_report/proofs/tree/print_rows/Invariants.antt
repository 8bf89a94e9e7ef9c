use Rattle.std.proofs.Common.{◌≡◌, ◌++◌, List, ℕ, length}
use Rattle.world_api.specs.Printing.{Prints}
use Rattle.scons_report.specs.Trees.{shown_in}
use Rattle.scons_report.specs.Walks.{text_left, IsWithin}
use Rattle.scons_report.proofs.tree.print_rows.Given as goal

-- what was printed, and what is left, is the whole
abbrev pub invariant-loop-row : goal.invariant-loop-row
invariant-loop-row g l =
    let shown = shown_in l.graph l.plan in
    let nodes = length l.graph.nodes in
    record {
      done : List ℕ;
      parts : text_left shown nodes l.fn.walk ≡ done ++ text_left shown nodes l.walk;
      prints : Prints g.O.Sink.meaning l.fn.out l.out done;
      within : IsWithin nodes l.walk;
    }
