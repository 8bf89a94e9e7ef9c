use Rattle.std.proofs.Common.{rules, ◌≡◌, ◌∙◌, ◌+◌, ◌<◌, ◌++◌, ◌∷◌, [], sym, ap, ℕ, List, take, length, get_or}
use Rattle.std.specs.List.{flat_map}
use Rattle.std.proofs.lemmas.List.{take_more}
use Rattle.world_api.specs.Act.{Given}
use Rattle.world_mem.specs.Left.{left_over, number_after}
use Rattle.world_mem.specs.declared.running.RunningJob.{RunningJob}
use Rattle.world_mem.proofs.LeftOver.{over_append, after_append, flat_more}
use Rattle.world_mem.proofs.stop.left_targets.Goals as goal

pub loop-run-preserved : goal.loop-run-preserved
loop-run-preserved c =
    let runs = c.args.state.now.running.items in
    let at = c.loop-run.run-index in
    let done = take at runs in
    let run = c.run-item.result in
    let pick = c.args.pick in
    let here : get_or runs at run ≡ run = search rules in
    let more : take (at + 1) runs ≡ done ++ run ∷ [] = take_more runs at run (search rules) ∙ ap (λ (r : RunningJob). done ++ r ∷ []) here in
    let all : flat_map (λ (run : RunningJob). run.made) (take (at + 1) runs) ≡ flat_map (λ (run : RunningJob). run.made) done ++ run.made =
    ap (λ (l : List RunningJob). flat_map (λ (run : RunningJob). run.made) l) more ∙ flat_more done run in
    record {
      left = c.in_ok-number.ensures.left
          ∙ ap (λ (n : ℕ). c.loop-run.left ++ left_over n run.made) c.loop-run.invariant.next
          ∙ ap (λ (l : Given). l ++ left_over (number_after pick (flat_map (λ (run : RunningJob). run.made) done)) run.made) c.loop-run.invariant.left
          ∙ sym (over_append pick (flat_map (λ (run : RunningJob). run.made) done) run.made)
          ∙ ap (left_over pick) (sym all);
      next = c.in_ok-number.ensures.next
          ∙ ap (λ (n : ℕ). number_after n run.made) c.loop-run.invariant.next
          ∙ sym (after_append pick (flat_map (λ (run : RunningJob). run.made) done) run.made)
          ∙ ap (number_after pick) (sym all);
    }
