use Rattle.std.proofs.Common.{rules, arith, ◌≡◌, ◌⊎◌, ◌↔◌, inl, inr, ℕ, List, IsTrue, take, get_or, length, subst}
use Rattle.std.proofs.lemmas.List.{take_all}
use Rattle.world_mem.specs.Blocked.{HasBelow, HasFile}
use Rattle.world_mem.specs.Standing.{is_dir}
use Rattle.world_mem.proofs.Raised.{below_more, below_none}
use Rattle.world_mem.proofs.state.raise_above.Goals as goal

pub loop-path-preserved : goal.loop-path-preserved
loop-path-preserved c = λ dir.
    let items = c.args.files.now in
    let at = c.loop-path.path-index in
    let item = c.loop-path-item.result in
    let here : get_or items at item ≡ item = search rules in
    let step = c.in_ok-raise_above.ensures dir in
    let before = c.loop-path.invariant dir in
    let more = below_more items at item dir c.loop-path-test.true here in (
      λ y. elim (step.0 y) [
        | inl was ↦ elim (before.0 was) [
          | inl first ↦ inl first
          | inr below ↦ inr (more.1 (inl below))
        ]
        | inr this ↦ inr (more.1 (inr this))
      ],
      λ h. step.1 (elim h [
        | inl first ↦ inl (before.1 (inl first))
        | inr below ↦ elim (more.0 below) [
          | inl earlier ↦ inl (before.1 (inr earlier))
          | inr this ↦ inr this
        ]
      ]),
    )

pub loop-path-init : goal.loop-path-init
loop-path-init c = λ dir. (
  λ y. inl y,
  λ h. elim h [
    | inl y ↦ y
    | inr below ↦ absurd (below_none c.args.files.now dir below)
  ],
)

pub returns : goal.returns
returns c =
    let all : take c.loop-path.path-index c.args.files.now ≡ c.args.files.now = take_all c.loop-path.path-index c.args.files.now (omega (arith, c.loop-path-test.false)) in
    subst (λ (files : List (List ℕ × List ℕ)). (dir : List ℕ) → IsTrue (is_dir c.loop-path.dirs dir) ↔ (IsTrue (is_dir c.args.dirs.now dir) ⊎ HasBelow (HasFile files) dir)) all c.loop-path.invariant
