use Rattle.std.proofs.Common.{◌≡◌, sym, ap, Some, None, length}
use Rattle.std.specs.Prelude.{slice_get}
use Rattle.scons_calls.specs.Binding.{name_fits}
use Rattle.scons_calls.proofs.Loops.{along_more, along_none}
use Rattle.scons_calls.proofs.bind.test_names.Goals as goal
use Rattle.scons_calls.proofs.bind.test_names.Goals.{in-Some+in_ok-test_name, in_default}

pub names-preserved : goal.names-preserved
names-preserved c =
    let count : length c.as_slice-count.result.now ≡ length c.args.args.now.positional.items = ap length c.as_slice-count.ensures.value in
    elim c.match-at.branch [
      | in-Some+in_ok-test_name w ↦
          let at : Some (w.in-Some.name.now, w.in-Some.value) ≡ slice_get c.args.args.now.named c.names.at = rw w.in-Some.is at c.at.ensures in
          let fits = rw count at w.in_ok-test_name.ensures.ok in
          along_more (λ u pair. name_fits c.args.signature.now (length c.args.args.now.positional.items) pair) c.args.args.now.named c.names.at tt tt (w.in-Some.name.now, w.in-Some.value) _ (sym at) fits c.names.invariant
      | in_default w ↦
          let at : None ≡ slice_get c.args.args.now.named c.names.at = rw w.in_default.is at c.at.ensures in
          along_none (λ u pair. name_fits c.args.signature.now (length c.args.args.now.positional.items) pair) c.args.args.now.named c.names.at tt _ (sym at) c.names.invariant
    ]
