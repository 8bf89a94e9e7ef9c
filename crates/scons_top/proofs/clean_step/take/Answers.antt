use Rattle.std.proofs.Common.{sym, ◌∙◌, ◌≡◌, [], None, List, ℕ}
use Rattle.std.proofs.lemmas.Bool.{false≢true}
use Rattle.std.proofs.lemmas.List.Elements.{All-nil, All-cons}
use Rattle.build_run.proofs.Goings.{stays_here}
use Rattle.scons_top.proofs.Watching.{watches_same}
use Rattle.scons_top.proofs.Clearing.{cleared_same}
use Rattle.scons_top.proofs.Stepping.{tree_exit}
use Rattle.scons_top.proofs.Causing.{look_exit_as}
use Rattle.scons_top.proofs.Stopping.{steps_here}
use Rattle.scons_top.proofs.Remembered.{banks_here}
use Rattle.scons_top.proofs.clean_step.take.Goals as goal

pub returns-then-words-clause-cleared : goal.returns-then-words-clause-cleared
returns-then-words-clause-cleared g c = λ t. cleared_same _ _

pub returns-then-words-clause-gone : goal.returns-then-words-clause-gone
returns-then-words-clause-gone g c = λ dry. absurd (false≢true (sym dry ∙ c.if-words.true))

pub returns-then-words-clause-stays : goal.returns-then-words-clause-stays
returns-then-words-clause-stays g c = stays_here g.W.Disk.meaning c.args.world.now

pub returns-then-words-clause-safe : goal.returns-then-words-clause-safe
returns-then-words-clause-safe g c = steps_here g.W.Disk.meaning g.met.W.Disk.only_now c.args.world.now

pub returns-then-words-clause-moments : goal.returns-then-words-clause-moments
returns-then-words-clause-moments g c = banks_here g.W.Disk.meaning g.met.W.Disk.only_now c.args.world.now

pub returns-then-words-clause-dry : goal.returns-then-words-clause-dry
returns-then-words-clause-dry g c = λ is. watches_same g.W.Disk.meaning c.args.world.now

pub returns-in_err-remove-clause-tree : goal.returns-in_err-remove-clause-tree
returns-in_err-remove-clause-tree g c = tree_exit c.from_residual.result _ c.from_residual.ensures.1 c.in_err-remove.ensures.tree

pub returns-in_err-remove-clause-cause : goal.returns-in_err-remove-clause-cause
returns-in_err-remove-clause-cause g c = look_exit_as _ _ c.from_residual.result _ c.from_residual.ensures.1 c.in_err-remove.ensures.cause

pub returns-clause-gone : goal.returns-clause-gone
returns-clause-gone g c = λ dry t.
    let P = λ (p : List ℕ). (g.W.Disk.meaning.around c.remove.new.world).tree p ≡ None in
    All-cons P c.args.path.now [] (c.in_ok-remove.ensures.gone t) (All-nil P)
