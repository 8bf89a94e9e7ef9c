use Rattle.std.specs.Prelude.{is_some}
use Rattle.std.proofs.Common.{ap, sym, Bool}
use Rattle.world_api.specs.Around.{Around}
use Rattle.scons_top.proofs.Building.{around_asked}
use Rattle.scons_top.proofs.Removing.{then_there, no_value}
use Rattle.std.proofs.Common.{◌∙◌, ◌≡◌, [], None, List, ℕ}
use Rattle.std.proofs.lemmas.List.Elements.{All-nil, All-cons}
use Rattle.build_run.proofs.Goings.{stays_on}
use Rattle.scons_top.proofs.Watching.{idle_of, stays_of, watches_on}
use Rattle.scons_top.proofs.Causing.{look_exit_as, look_after}
use Rattle.scons_top.proofs.Clearing.{cleared_asked, cleared_on, no_file}
use Rattle.scons_top.proofs.Stepping.{tree_exit}
use Rattle.scons_top.proofs.Stopping.{steps_looked, steps_on}
use Rattle.scons_top.proofs.Remembered.{banks_looked, banks_on}
use Rattle.scons_top.proofs.clean_step.is_removed.Goals as goal

pub take-requires : goal.take-requires
take-requires g c = record { idle = idle_of _ _ _ c.is_file.ensures.watches c.requires.idle }

pub returns-in_err-stands-clause-cleared : goal.returns-in_err-stands-clause-cleared
returns-in_err-stands-clause-cleared g c = λ t.
    let looks = c.is_file.ensures.watches.looks in
    cleared_asked _ _ _ (c.requires.idle (looks.told.told t)) (looks.around t)

pub returns-in_err-stands-clause-tree : goal.returns-in_err-stands-clause-tree
returns-in_err-stands-clause-tree g c = tree_exit c.from_residual.result _ c.from_residual.ensures.1 c.in_err-stands.ensures.tree

pub returns-in_err-stands-clause-stays : goal.returns-in_err-stands-clause-stays
returns-in_err-stands-clause-stays g c = stays_of _ _ _ c.is_file.ensures.watches

pub returns-in_err-stands-clause-cause : goal.returns-in_err-stands-clause-cause
returns-in_err-stands-clause-cause g c = look_exit_as _ _ c.from_residual.result _ c.from_residual.ensures.1 c.in_err-stands.ensures.cause

pub returns-in_err-stands-clause-safe : goal.returns-in_err-stands-clause-safe
returns-in_err-stands-clause-safe g c =
    steps_looked g.W.Disk.meaning g.met.W.Disk.only_now c.args.world.now c.is_file.new.world c.is_file.ensures.watches.looks

pub returns-in_err-stands-clause-moments : goal.returns-in_err-stands-clause-moments
returns-in_err-stands-clause-moments g c =
    banks_looked g.W.Disk.meaning g.met.W.Disk.only_now c.args.world.now c.is_file.new.world c.is_file.ensures.watches.looks

pub returns-then-stands-clause-cleared : goal.returns-then-stands-clause-cleared
returns-then-stands-clause-cleared g c = λ t.
    let looks = c.is_file.ensures.watches.looks in
    let here = c.take.ensures.stays.goes.passes.told.told t in
    cleared_on _ _ _ _ (cleared_asked _ _ _ (c.requires.idle (looks.told.told here)) (looks.around here)) (c.take.ensures.cleared t)

pub returns-then-stands-clause-stays : goal.returns-then-stands-clause-stays
returns-then-stands-clause-stays g c = stays_on _ _ _ _ (stays_of _ _ _ c.is_file.ensures.watches) c.take.ensures.stays

pub returns-then-stands-clause-cause : goal.returns-then-stands-clause-cause
returns-then-stands-clause-cause g c = look_after _ _ _ c.take.result c.in_ok-stands.ensures.cause c.take.ensures.cause

pub returns-then-stands-clause-dry : goal.returns-then-stands-clause-dry
returns-then-stands-clause-dry g c = λ is. watches_on _ _ _ _ c.is_file.ensures.watches (c.take.ensures.dry is)

pub returns-then-stands-clause-safe : goal.returns-then-stands-clause-safe
returns-then-stands-clause-safe g c =
    steps_on g.W.Disk.meaning c.args.world.now c.is_file.new.world c.take.new.world c.take.ensures.stays.goes.passes.told
    (steps_looked g.W.Disk.meaning g.met.W.Disk.only_now c.args.world.now c.is_file.new.world c.is_file.ensures.watches.looks)
    c.take.ensures.safe

pub returns-then-stands-clause-moments : goal.returns-then-stands-clause-moments
returns-then-stands-clause-moments g c =
    banks_on g.W.Disk.meaning c.args.world.now c.is_file.new.world c.take.new.world
    (banks_looked g.W.Disk.meaning g.met.W.Disk.only_now c.args.world.now c.is_file.new.world c.is_file.ensures.watches.looks)
    c.take.ensures.moments

pub returns-clause-cleared : goal.returns-clause-cleared
returns-clause-cleared g c = λ t.
    let looks = c.is_file.ensures.watches.looks in
    cleared_asked _ _ _ (c.requires.idle (looks.told.told t)) (looks.around t)

pub returns-clause-gone : goal.returns-clause-gone
returns-clause-gone g c = λ dry t.
    let a = g.W.Disk.meaning.around c.is_file.new.world in
    let P = λ (p : List ℕ). a.tree p ≡ None in
    All-cons P c.args.path.now [] (no_file a c.args.path.now c.in_ok-stands.stands (c.in_ok-stands.ensures.file t) c.if-stands.false) (All-nil P)

pub returns-clause-stays : goal.returns-clause-stays
returns-clause-stays g c = stays_of _ _ _ c.is_file.ensures.watches

pub returns-clause-safe : goal.returns-clause-safe
returns-clause-safe g c =
    steps_looked g.W.Disk.meaning g.met.W.Disk.only_now c.args.world.now c.is_file.new.world c.is_file.ensures.watches.looks

pub returns-clause-moments : goal.returns-clause-moments
returns-clause-moments g c =
    banks_looked g.W.Disk.meaning g.met.W.Disk.only_now c.args.world.now c.is_file.new.world c.is_file.ensures.watches.looks

pub returns-then-stands-clause-there : goal.returns-then-stands-clause-there
returns-then-stands-clause-there g c = λ t.
    let m = g.W.Disk.meaning in
    let looks = c.is_file.ensures.watches.looks in
    let here = c.take.ensures.stays.goes.passes.told.told t in
    let same = around_asked (m.around c.args.world.now) (m.around c.is_file.new.world) (c.requires.idle (looks.told.told here)) (looks.around here) in
    then_there c.args.path.now (m.around c.args.world.now) (m.around c.is_file.new.world) c.in_ok-stands.stands c.take.result same (c.in_ok-stands.ensures.file here) c.if-stands.true c.take.ensures.taken

pub returns-clause-there : goal.returns-clause-there
returns-clause-there g c = λ t.
    let m = g.W.Disk.meaning in
    let looks = c.is_file.ensures.watches.looks in
    let same = around_asked (m.around c.args.world.now) (m.around c.is_file.new.world) (c.requires.idle (looks.told.told t)) (looks.around t) in
    sym c.if-stands.false ∙ c.in_ok-stands.ensures.file t ∙ ap (λ (x : Around). is_some (x.tree c.args.path.now)) same

pub returns-in_err-stands-clause-there : goal.returns-in_err-stands-clause-there
returns-in_err-stands-clause-there g c = λ t.
    no_value (λ (is : Bool). is ≡ is_some ((g.W.Disk.meaning.around c.args.world.now).tree c.args.path.now)) _ c.from_residual.result c.from_residual.ensures.1
