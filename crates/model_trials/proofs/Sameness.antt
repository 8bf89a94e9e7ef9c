-- When records and their parts are one.
use Rattle.std.proofs.Common.{◌≡◌, ℕ, Bool, false, List, [], ◌∷◌, Option, Some, None, map, refl, sym, ap, subst, ◌∙◌, inl, inr, ⊎_elim}
use Rattle.std.specs.Prelude.{◌≢◌, ◌⊎◌, ◌↔◌, IsTrue}
use Rattle.std.specs.Bool.{Decides}
use Rattle.std.specs.Option.{option_eq}
use Rattle.std.specs.Str.{bytes_eq}
use Rattle.std.proofs.lemmas.Option.{same_Some}
use Rattle.std.proofs.lemmas.Slice.Eq.{bytes_eq-Decides}
use Rattle.build_model.specs.Rules.{Dependency, Record}
use Rattle.build_model.specs.Stale.{name_of, stamp_of, IsSameAction, DiffersInBoth}
use Rattle.model_trials.specs.declared.changes.PlainDependency.{PlainDependency}
use Rattle.model_trials.specs.declared.changes.PlainRecord.{PlainRecord}
use Rattle.model_trials.specs.Staling.{as_dependency, as_record, digest_in, digests_of, stamps_in}

pub digest_eq-Decides : (a b : Option (List ℕ)) → Decides (option_eq bytes_eq a b) (a ≡ b)
digest_eq-Decides None None = (λ e. refl, λ e. refl)
digest_eq-Decides None (Some y) = (λ e. cc e, λ e. cc e)
digest_eq-Decides (Some x) None = (λ e. cc e, λ e. cc e)
digest_eq-Decides (Some x) (Some y) =
    let test = bytes_eq-Decides x y in
    (λ e. ap Some (test.0 e), λ e. test.1 (same_Some x y e))

same_dependency : (x y : Dependency) → x.name ≡ y.name → x.digest ≡ y.digest → x.stamp ≡ y.stamp → x ≡ y
same_dependency x y name digest stamp = λ i. record { name = name i; digest = digest i; stamp = stamp i }

-- dependencies are one where their names, digests and stamps are
same_dependencies : (xs ys : List Dependency) → map name_of xs ≡ map name_of ys → map digest_in xs ≡ map digest_in ys →
    map stamp_of xs ≡ map stamp_of ys → xs ≡ ys
same_dependencies [] [] names digests stamps = refl
same_dependencies [] (y ∷ ys) names digests stamps = cc names
same_dependencies (x ∷ xs) [] names digests stamps = cc names
same_dependencies (x ∷ xs) (y ∷ ys) names digests stamps =
    let name : x.name ≡ y.name = cc names in
    let digest : x.digest ≡ y.digest = cc digests in
    let stamp : x.stamp ≡ y.stamp = cc stamps in
    let rest : xs ≡ ys = same_dependencies xs ys (cc names) (cc digests) (cc stamps) in
    let first : x ≡ y = same_dependency x y name digest stamp in
    cc (first, rest)

-- records are one where the action, the digests and the stamps are the same
same_record : (old now : PlainRecord) → IsSameAction (as_record old) (as_record now) →
    digests_of now.dependencies.items ≡ digests_of old.dependencies.items →
    stamps_in now.dependencies.items ≡ stamps_in old.dependencies.items → as_record old ≡ as_record now
same_record old now action digests stamps =
    let work = action.work in
    let hash = action.hash in
    let signed = action.signed in
    let targets = action.targets in
    let all = same_dependencies (as_record now).dependencies (as_record old).dependencies action.names digests stamps in
    sym (λ i. record { work = work i; hash = hash i; signed = signed i; targets = targets i; dependencies = all i })

has_same_digests : (old now : PlainRecord) → as_record old ≡ as_record now →
    digests_of now.dependencies.items ≡ digests_of old.dependencies.items
has_same_digests old now e = ap (λ (r : Record). map digest_in r.dependencies) (sym e)

has_same_stamps : (old now : PlainRecord) → as_record old ≡ as_record now →
    stamps_in now.dependencies.items ≡ stamps_in old.dependencies.items
has_same_stamps old now e = ap (λ (r : Record). map stamp_of r.dependencies) (sym e)

-- whether the stamps are the same tells whether records are one, where the rest is the same
pub answers_same : (old now : PlainRecord) (before after : List PlainDependency) (b : Bool) → before ≡ old.dependencies.items →
    after ≡ now.dependencies.items → IsSameAction (as_record old) (as_record now) → digests_of after ≡ digests_of before →
    IsTrue b ↔ (stamps_in after ≡ stamps_in before) → IsTrue b ↔ (as_record old ≡ as_record now)
answers_same old now before after b e f action digests says =
    let rest : digests_of now.dependencies.items ≡ digests_of old.dependencies.items =
    ap digests_of (sym f) ∙ (digests ∙ ap digests_of e) in (
      λ yes. same_record old now action rest (ap stamps_in (sym f) ∙ (says.0 yes ∙ ap stamps_in e)),
      λ same. says.1 (ap stamps_in f ∙ (has_same_stamps old now same ∙ ap stamps_in (sym e))),
    )

abbrev pub Differ : List PlainDependency → List PlainDependency → Type 0
Differ old now = DiffersInBoth (map as_dependency old) (map as_dependency now)

-- the first ones differ
pub differs_now : (xs ys : List PlainDependency) (x y : PlainDependency) (xs' ys' : List PlainDependency) → xs ≡ x ∷ xs' → ys ≡ y ∷ ys' →
    (x.stamp ≢ y.stamp) × (x.digest ≢ y.digest) → Differ xs ys
differs_now xs ys x y xs' ys' ex ey p =
    let both : Differ (x ∷ xs') (y ∷ ys') = inl p in
    subst (λ (l : List PlainDependency). Differ l ys) (sym ex) (subst (λ (l : List PlainDependency). Differ (x ∷ xs') l) (sym ey) both)

either_way : (x y : PlainDependency) (xs ys : List PlainDependency) → ((x.stamp ≢ y.stamp) × (x.digest ≢ y.digest) → ⊥) →
    Differ (x ∷ xs) (y ∷ ys) → Differ xs ys
either_way x y xs ys not d = ⊎_elim (λ p. absurd (not p)) (λ later. later) d

-- or else those behind them do
pub differs_later : (xs ys : List PlainDependency) (x y : PlainDependency) (xs' ys' : List PlainDependency) → xs ≡ x ∷ xs' → ys ≡ y ∷ ys' →
    ((x.stamp ≢ y.stamp) × (x.digest ≢ y.digest) → ⊥) → Differ xs' ys' ↔ Differ xs ys
differs_later xs ys x y xs' ys' ex ey not =
    let both : Differ xs' ys' ↔ Differ (x ∷ xs') (y ∷ ys') = (λ later. inr later, either_way x y xs' ys' not) in
    subst (λ (l : List PlainDependency). Differ xs' ys' ↔ Differ l ys) (sym ex)
    (subst (λ (l : List PlainDependency). Differ xs' ys' ↔ Differ (x ∷ xs') l) (sym ey) both)

no_second : (xs : List PlainDependency) → Differ xs [] → ⊥
no_second [] d = d
no_second (x ∷ xs) d = d

pub none_left : (xs ys : List PlainDependency) → (xs ≡ []) ⊎ (ys ≡ []) → Differ xs ys → ⊥
none_left xs ys none d =
    ⊎_elim (λ e. subst (λ (l : List PlainDependency). Differ l ys) e d)
    (λ e. no_second xs (subst (λ (l : List PlainDependency). Differ xs l) e d)) none

pub never : IsTrue false → ⊥
never e = cc
