use Rattle.std.proofs.Common.{arith, ◌≡◌, ◌∙◌, sym, Some, None}
use Rattle.std.specs.Prelude.{slice_get}
use Rattle.env_vars.specs.Vars.{put}
use Rattle.env_vars.proofs.VarLemmas.{put_more, none_at}
use Rattle.env_vars.proofs.vars.Vars.put_all.Goals as goal
use Rattle.env_vars.proofs.vars.Vars.put_all.Goals.{in-Some+in_ok-from_str+in_ok-copy+in_ok-put, in_default}

pub loop-place-preserved : goal.loop-place-preserved
loop-place-preserved c =
    elim c.match-at.branch [
      | in-Some+in_ok-from_str+in_ok-copy+in_ok-put w ↦
          let at : Some (w.in-Some.name.now, w.in-Some.value.now) ≡ slice_get c.args.other.now c.loop-place.place = rw w.in-Some.is at c.at.ensures in
          let name = (w.in_ok-from_str.ensures {u = tt}).ok in
          let value = w.in_ok-copy.ensures {u = tt} in
          let new : w.put.new.self ≡ put c.loop-place.self (w.in-Some.name.now, w.in-Some.value.now) =
          (w.in_ok-put.ensures {u = tt}).ok ∙ (λ j. put c.loop-place.self (name j, value j)) in
          put_more c.args.self.now c.args.other.now c.loop-place.self c.match-at.self c.loop-place.place (w.in-Some.name.now, w.in-Some.value.now) (sym at) c.loop-place.invariant (w.self-is ∙ new)
      | in_default w ↦
          let at : None ≡ slice_get c.args.other.now c.loop-place.place = rw w.in_default.is at c.at.ensures in
          absurd (none_at c.args.other.now c.loop-place.place (sym at) (omega (arith, c.len-place-end.ensures)))
    ]
