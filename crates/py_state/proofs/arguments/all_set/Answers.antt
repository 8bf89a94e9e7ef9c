use Rattle.std.proofs.Common.{◌≡◌, ◌∙◌, sym, ap, Some, None}
use Rattle.std.specs.Prelude.{slice_get, is_some, not}
use Rattle.py_state.specs.Arguments.{all_set}
use Rattle.py_state.proofs.ArgumentTurns.{set_turn, set_refused, set_none}
use Rattle.py_state.proofs.arguments.all_set.Goals as goal
use Rattle.py_state.proofs.arguments.all_set.Goals.{in-Some+else-is_none, in_default}

pub returns-then-is_none : goal.returns-then-is_none
returns-then-is_none c =
    let at : Some (c.in-Some.name.now, c.in-Some.field-0-1) ≡ slice_get c.args.named.now c.places.place = rw c.in-Some.is at c.at.ensures in
    set_refused c.args.names.now c.args.named.now c.places.place (c.in-Some.name.now, c.in-Some.field-0-1) (all_set c.args.names.now c.args.named.now) (sym at)
    (ap is_some (sym c.get.ensures) ∙ c.if-is_none.ensures {u = tt}) c.places.invariant

pub places-preserved : goal.places-preserved
places-preserved c =
    elim c.match-at.branch [
      | in-Some+else-is_none w ↦
          let at : Some (w.in-Some.name.now, w.in-Some.field-0-1) ≡ slice_get c.args.named.now c.places.place = rw w.in-Some.is at c.at.ensures in
          set_turn c.args.names.now c.args.named.now c.places.place (w.in-Some.name.now, w.in-Some.field-0-1) (all_set c.args.names.now c.args.named.now) (sym at)
          (ap is_some (sym w.get.ensures) ∙ w.is_none.ensures ∙ ap not w.if-is_none.false) c.places.invariant
      | in_default w ↦
          let at : None ≡ slice_get c.args.named.now c.places.place = rw w.in_default.is at c.at.ensures in
          set_none c.args.names.now c.args.named.now c.places.place (all_set c.args.names.now c.args.named.now) (sym at) c.places.invariant
    ]
