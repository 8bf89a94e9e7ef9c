use Rattle.std.proofs.Common.{rules, ◌≡◌, ◌∙◌, ◌+◌, ◌<◌, ◌++◌, ◌∷◌, [], sym, ap, ℕ, List, take, length, get_or, append_assoc}
use Rattle.std.proofs.lemmas.List.{take_more}
use Rattle.world_api.specs.Act.{Content, Given}
use Rattle.world_mem.specs.Left.{left_at, left_over, next_number, number_after}
use Rattle.world_mem.proofs.LeftOver.{over_append, after_append}
use Rattle.world_mem.proofs.stop.leave_targets.Goals as goal

pub loop-path-preserved : goal.loop-path-preserved
loop-path-preserved c =
    let items = c.as_slice-path-items.result.now in
    let at = c.loop-path.path-index in
    let done = take at items in
    let item = c.loop-path-item.result in
    let first = c.args.first in
    let left = c.args.left.now in
    let here : get_or items at item ≡ item = search rules in
    let more : take (at + 1) items ≡ done ++ item ∷ [] = take_more items at item c.loop-path-test.true ∙ ap (λ (e : List ℕ × Content). done ++ e ∷ []) here in
    record {
      left = c.in_ok-push.ensures.ok
          ∙ ap (λ (p : List ℕ). c.loop-path.left ++ (p, c.in_ok-left_at.field-0) ∷ []) c.in_ok-copy.ensures
          ∙ ap (λ (k : Content). c.loop-path.left ++ (item.0, k) ∷ []) c.in_ok-left_at.ensures
          ∙ ap (λ (n : ℕ). c.loop-path.left ++ (item.0, left_at n item.1) ∷ []) c.loop-path.invariant.next
          ∙ ap (λ (l : Given). l ++ (item.0, left_at (number_after first done) item.1) ∷ []) c.loop-path.invariant.left
          ∙ append_assoc left (left_over first done) ((item.0, left_at (number_after first done) item.1) ∷ [])
          ∙ ap (λ (l : Given). left ++ l) (sym (over_append first done (item ∷ [])))
          ∙ ap (λ (l : Given). left ++ left_over first l) (sym more);
      next = ap next_number c.loop-path.invariant.next
          ∙ sym (after_append first done (item ∷ []))
          ∙ ap (number_after first) (sym more);
    }
