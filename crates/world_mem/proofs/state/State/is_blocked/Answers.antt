use Rattle.std.proofs.Common.{◌≡◌, ◌∙◌, ◌+◌, ℕ, List, [], ◌∷◌, ◌++◌, Contains, take, sym, ap, subst, refl, inl, inr, true, false, arith}
use Rattle.std.proofs.lemmas.List.{take_more, take_all}
use Rattle.std.proofs.lemmas.List.Elements.{Contains-push_cases}
use Rattle.world_mem.specs.Blocked.{IsBarred, AreBlocked}
use Rattle.world_mem.specs.AsAround.{around_of}
use Rattle.world_mem.specs.InSlots.{slot_at, Stands}
use Rattle.world_mem.proofs.Below.{AreApart, apart_more, none_blocked, weaker_blocked, put_live, live_after}
use Rattle.world_mem.proofs.Membership.{push_all}
use Rattle.world_mem.proofs.state.State.is_blocked.Goals as goal
use Rattle.world_mem.proofs.state.State.is_blocked.Goals.{then-is_barred-via-then-is_barred, then-is_barred-via-else-is_barred+in_ok-is_blocked+then-branch}

pub returns-then-is_barred : goal.returns-then-is_barred
returns-then-is_barred c =
    let items = c.as_slice-target-items.result.now in
    let target = c.target-item.result in
    let state = c.args.self.now in
    let here : Contains items target = (c.loop-target.target-index, c.loop-target-test.true, sym c.target-item.is) in (
      λ _. subst (AreBlocked (around_of state)) c.as_slice-target-items.ensures (
        target,
        here,
        elim c.then-is_barred.branch [
          | then-is_barred-via-then-is_barred w ↦ inl (c.is_barred.ensures.0 w.if-is_barred.true)
          | then-is_barred-via-else-is_barred+in_ok-is_blocked+then-branch w ↦ inr (weaker_blocked (Stands c.loop-target.own) (Contains items) target c.loop-target.invariant.only (w.in_ok-is_blocked.ensures.0 w.if-branch.true))
        ],
      ),
      λ _. refl,
    )

pub loop-target-preserved : goal.loop-target-preserved
loop-target-preserved c =
    let items = c.as_slice-target-items.result.now in
    let index = c.loop-target.target-index in
    let target = c.target-item.result in
    let before = take index items in
    let own = c.loop-target.own in
    let here : Contains items target = (index, c.loop-target-test.true, sym c.target-item.is) in
    let grown : take (index + 1) items ≡ before ++ target ∷ [] =
    take_more items index target c.loop-target-test.true ∙ ap (λ t. before ++ t ∷ []) (sym c.target-item.is) in
    record {
      only = λ other. put_live (λ path. Contains items path) target other _ (slot_at own other) (slot_at c.put.new.self other) (c.in_ok-put.ensures.ok other) (c.loop-target.invariant.only other) here;
      stand = λ other listed.
          live_after target other _ (slot_at own other) (slot_at c.put.new.self other) (c.in_ok-put.ensures.ok other) refl
          (elim (Contains-push_cases before target other (subst (λ (ts : List (List ℕ)). Contains ts other) grown listed)) [ inl was ↦ inl (c.loop-target.invariant.stand other was) | inr e ↦ inr e ]);
      free = λ other listed.
          push_all (λ path. IsBarred (around_of c.args.self.now) path → ⊥) before target c.loop-target.invariant.free
          (λ barred. let x : true ≡ false = sym (c.is_barred.ensures.1 barred) ∙ c.if-is_barred.false in cc x)
          other (subst (λ (ts : List (List ℕ)). Contains ts other) grown listed);
      apart = subst AreApart (sym grown)
          (apart_more before target (Stands own) c.loop-target.invariant.stand
          (λ blocked. let x : true ≡ false = sym (c.in_ok-is_blocked.ensures.1 blocked) ∙ c.if-branch.false in cc x)
          c.loop-target.invariant.apart);
    }

pub returns : goal.returns
returns c =
    let items = c.as_slice-target-items.result.now in
    let state = c.args.self.now in
    let all : take c.loop-target.target-index items ≡ c.args.targets.now = take_all c.loop-target.target-index items (omega (arith, c.loop-target-test.false)) ∙ c.as_slice-target-items.ensures in
    let free = subst (λ (ts : List (List ℕ)). (path : List ℕ) → Contains ts path → IsBarred (around_of state) path → ⊥) all c.loop-target.invariant.free in
    let apart = subst AreApart all c.loop-target.invariant.apart in (
      λ e. absurd (cc e),
      λ h. absurd (none_blocked (IsBarred (around_of state)) c.args.targets.now free apart h.0 h.1 h.2),
    )
