use Rattle.std.proofs.Common.{length, refl, sym, subst, ◌+◌}
use Rattle.world_api.specs.declared.disk.Bank.{Bank}
use Rattle.deciders.specs.declared.version.Version.TheVariants.{Two}
use Rattle.sign_store.specs.Beginnings.{CanFill}
use Rattle.sign_store.specs.Ends.{StandsAt}
use Rattle.sign_store.specs.Maps.{map_in}
use Rattle.sign_store.specs.Tables.{Map}
use Rattle.sign_store.proofs.OpenLemmas.{endures_as, can_go_over}
use Rattle.sign_store.proofs.opening.go_over.Goals as goal

pub returns-in_err-fill-clause-moments : goal.returns-in_err-fill-clause-moments
returns-in_err-fill-clause-moments g c = λ stood map is form.
    endures_as g.W.Disk.meaning c.args.world.now c.fill.new.world stood (map_in c.args.opened.map) map c.fill.ensures.told.told is.held
    (c.fill.ensures.moments stood (map_in c.args.opened.map) (c.args.opened.edition.generation + 1)
    (subst (λ (b : Bank). CanFill g.W.Disk.meaning c.args.world.now b stood (map_in c.args.opened.map) (c.args.opened.edition.generation + 1)) (sym c.other-bank.ensures) (can_go_over g.W.Disk.meaning c.args.world.now stood map c.args.opened is)) form)

pub returns-clause-moments : goal.returns-clause-moments
returns-clause-moments g c = λ stood map is form.
    endures_as g.W.Disk.meaning c.args.world.now c.fill.new.world stood (map_in c.args.opened.map) map c.fill.ensures.told.told is.held
    (c.fill.ensures.moments stood (map_in c.args.opened.map) (c.args.opened.edition.generation + 1)
    (subst (λ (b : Bank). CanFill g.W.Disk.meaning c.args.world.now b stood (map_in c.args.opened.map) (c.args.opened.edition.generation + 1)) (sym c.other-bank.ensures) (can_go_over g.W.Disk.meaning c.args.world.now stood map c.args.opened is)) form)

pub returns-clause-opened : goal.returns-clause-opened
returns-clause-opened g c = λ stood map is form.
    let filled = c.in_ok-fill.ensures.filled stood (map_in c.args.opened.map) (c.args.opened.edition.generation + 1)
    (subst (λ (b : Bank). CanFill g.W.Disk.meaning c.args.world.now b stood (map_in c.args.opened.map) (c.args.opened.edition.generation + 1)) (sym c.other-bank.ensures) (can_go_over g.W.Disk.meaning c.args.world.now stood map c.args.opened is)) form in
    record {
      opens = record {
        rest = filled.rest;
        stands = λ told. subst (λ (x : Map). StandsAt Two c.other-bank.result (length c.args.form.now) x (g.W.Disk.meaning.seen c.fill.new.world)) (is.held (c.fill.ensures.told.told told)) (filled.stands told);
        counts = filled.counts;
        held = λ told. is.held (c.fill.ensures.told.told told);
        ordered = is.ordered;
      };
      second = λ told. refl;
    }
