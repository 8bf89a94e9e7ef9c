use Rattle.std.proofs.Common.{◌≡◌, ℕ, refl, sym, ap, subst, length, arith}
use Rattle.world_api.specs.declared.disk.Bank.TheVariants.{A}
use Rattle.deciders.specs.declared.version.Version.TheVariants.{Two}
use Rattle.sign_store.specs.Ends.{StandsAt}
use Rattle.sign_store.specs.Forms.{IsForm}
use Rattle.sign_store.specs.Tables.{nothing}
use Rattle.sign_store.proofs.DiskLemmas.{settled_same}
use Rattle.sign_store.proofs.OpenLemmas.{rests_kept}
use Rattle.sign_store.proofs.StepLemmas.{endures_same}
use Rattle.sign_store.proofs.opening.start.Goals as goal

pub returns-in_err-form-clause-moments : goal.returns-in_err-form-clause-moments
returns-in_err-form-clause-moments g c = λ stood can. endures_same g.W.Disk.meaning c.args.world.now stood nothing

pub returns-in_err-fill-clause-moments : goal.returns-in_err-fill-clause-moments
returns-in_err-fill-clause-moments g c = λ stood can. c.fill.ensures.moments stood nothing 1 can (subst (IsForm 1 nothing) (sym c.as_slice.ensures.value) c.in_ok-form.ensures.form)

pub returns-clause-moments : goal.returns-clause-moments
returns-clause-moments g c = λ stood can. c.fill.ensures.moments stood nothing 1 can (subst (IsForm 1 nothing) (sym c.as_slice.ensures.value) c.in_ok-form.ensures.form)

pub returns-clause-opened : goal.returns-clause-opened
returns-clause-opened g c = λ stood can.
    let filled = c.in_ok-fill.ensures.filled stood nothing 1 can (subst (IsForm 1 nothing) (sym c.as_slice.ensures.value) c.in_ok-form.ensures.form) in
    let place : length c.as_slice.result.now ≡ c.len.result = omega (arith, ap length c.as_slice.ensures.value, c.len.ensures, c.in_ok-form.form.ok.0) in
    record {
      opens = record {
        rest = filled.rest;
        stands = λ told. subst (λ (e : ℕ). StandsAt Two A e nothing (g.W.Disk.meaning.seen c.fill.new.world)) place (filled.stands told);
        counts = filled.counts;
        held = λ told. c.new.ensures.map;
        ordered = c.new.ensures.ordered;
      };
      second = λ told. refl;
    }

pub returns-in_err-form-clause-rests : goal.returns-in_err-form-clause-rests
returns-in_err-form-clause-rests g c = rests_kept g.W.Disk.meaning c.args.world.now c.args.world.now c.from_residual.result (settled_same g.W.Disk.meaning c.args.world.now)
