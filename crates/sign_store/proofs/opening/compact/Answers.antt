use Rattle.std.proofs.Common.{◌≡◌, List, ℕ, true, false, length, refl, sym, ap, subst, ◌∙◌, ◌+◌, inl, inr, arith}
use Rattle.sign_store.specs.Forms.{IsForm}
use Rattle.sign_store.specs.Maps.{map_in}
use Rattle.sign_store.proofs.DiskLemmas.{settled_same}
use Rattle.sign_store.proofs.CompactLemmas.{compact_is}
use Rattle.sign_store.proofs.OpenLemmas.{gone_over, rests_kept, stays_current}
use Rattle.sign_store.proofs.opening.compact.Goals as goal

pub returns-then-not-can_be_due-clause-opened : goal.returns-then-not-can_be_due-clause-opened
returns-then-not-can_be_due-clause-opened g c = λ stood map is.
    stays_current g.W.Disk.meaning c.args.world.now stood map c.args.opened (
    λ one lt.
    let yes : c.can_be_due.result ≡ true = c.can_be_due.ensures.1 (lt, inl one) in
    let bad : true ≡ false = sym yes ∙ c.if-not-can_be_due.true in absurd cc) is

pub returns-then-not-can_be_due-clause-over : goal.returns-then-not-can_be_due-clause-over
returns-then-not-can_be_due-clause-over g c = λ ordered. record {
  map = refl;
  exchanges = inr (
    λ due.
        let yes : c.can_be_due.result ≡ true = c.can_be_due.ensures.1 (due.0, elim due.1 [ inl one ↦ inl one | inr worth ↦ inr (omega (arith, worth)) ]) in
        let bad : true ≡ false = sym yes ∙ c.if-not-can_be_due.true in absurd cc,
    refl,
    refl,
  );
}

pub returns-then-not-is_due-clause-opened : goal.returns-then-not-is_due-clause-opened
returns-then-not-is_due-clause-opened g c = λ stood map is.
    stays_current g.W.Disk.meaning c.args.world.now stood map c.args.opened (
    λ one lt.
    let yes : c.is_due.result ≡ true = c.is_due.ensures.1 (inl one) in
    let bad : true ≡ false = sym yes ∙ c.if-not-is_due.true in absurd cc) is

pub returns-then-not-is_due-clause-over : goal.returns-then-not-is_due-clause-over
returns-then-not-is_due-clause-over g c = λ ordered. record {
  map = refl;
  exchanges = inr (
    λ due.
        let yes : c.is_due.result ≡ true = c.is_due.ensures.1 (elim due.1 [ inl one ↦ inl one | inr worth ↦ inr (omega (arith, worth, c.compact_len-compact.ensures (c.args.opened.edition.generation + 1))) ]) in
        let bad : true ≡ false = sym yes ∙ c.if-not-is_due.true in absurd cc,
    refl,
    refl,
  );
}

pub returns-clause-moments : goal.returns-clause-moments
returns-clause-moments g c = λ stood map is.
    c.go_over.ensures.moments stood map is
    (subst (λ (x : List ℕ). IsForm (c.args.opened.edition.generation + 1) (map_in c.args.opened.map) x) (sym (c.as_slice.ensures.value ∙ c.in_ok-form.ensures is.ordered)) (compact_is c.args.opened.map (c.args.opened.edition.generation + 1) is.ordered (omega arith)))

pub returns-clause-opened : goal.returns-clause-opened
returns-clause-opened g c = λ stood map is.
    c.go_over.ensures.opened stood map is
    (subst (λ (x : List ℕ). IsForm (c.args.opened.edition.generation + 1) (map_in c.args.opened.map) x) (sym (c.as_slice.ensures.value ∙ c.in_ok-form.ensures is.ordered)) (compact_is c.args.opened.map (c.args.opened.edition.generation + 1) is.ordered (omega arith)))

pub returns-clause-over : goal.returns-clause-over
returns-clause-over g c = λ ordered.
    gone_over c.args.opened c.as_slice.result.now c.go_over.result
    ((c.can_be_due.ensures.0 c.if-not-can_be_due.false).0, elim (c.is_due.ensures.0 c.if-not-is_due.false) [ inl one ↦ inl one | inr worth ↦ inr (omega (arith, worth, c.compact_len-compact.ensures (c.args.opened.edition.generation + 1))) ])
    (c.as_slice.ensures.value ∙ c.in_ok-form.ensures ordered) c.go_over.ensures.over

pub returns-in_err-form-clause-rests : goal.returns-in_err-form-clause-rests
returns-in_err-form-clause-rests g c = rests_kept g.W.Disk.meaning c.args.world.now c.args.world.now c.from_residual.result (settled_same g.W.Disk.meaning c.args.world.now)

pub go_over-requires-clause-small : goal.go_over-requires-clause-small
go_over-requires-clause-small g c =
    omega (arith, c.if-compact-gt-BANK_LIMIT.false, c.compact_len-compact.ensures (c.args.opened.edition.generation + 1), ap length (c.as_slice.ensures.value ∙ c.in_ok-form.ensures c.requires.ordered), c.requires.end)
