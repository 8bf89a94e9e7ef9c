-- A record says that its rule has changed exactly where one of the last five reasons holds.
use Rattle.std.proofs.Common.{◌≡◌, ◌≢◌, ℕ, List, [], ◌∷◌, map, Option, None, refl, sym, ap, ◌∙◌, inl, inr, zip}
use Rattle.std.specs.List.{AllByRecursion}
use Rattle.world_api.specs.declared.decider.Decider.{Decider}
use Rattle.world_api.specs.declared.decider.Decider.TheVariants.{Content, Newer, Match, ContentMatch}
use Rattle.deciders.specs.declared.recorded.Dep.{Dep}
use Rattle.deciders.specs.declared.recorded.Rec.{Rec}
use Rattle.deciders.specs.Records.{name_of}
use Rattle.deciders.specs.Changes.{HasChanged, IsSameAction, IsAfter, DiffersInBoth, stamp_of}
use Rattle.explain_report.specs.Reasons.{Somewhere, First, IsSameWork, IsNew, Differs}
use Rattle.explain_report.specs.Laws.{HasNoStamps}
use Rattle.explain_report.proofs.Firsts.{first_some, any_somewhere, somewhere_any}

head_or : {A : Type 0} → A → List A → A
head_or x [] = x
head_or x (y ∷ ys) = y

tail_of : {A : Type 0} → List A → List A
tail_of [] = []
tail_of (x ∷ xs) = xs

same_head : {A : Type 0} {x y : A} {xs ys : List A} → x ∷ xs ≡ y ∷ ys → x ≡ y
unfolding head_or
same_head {A} {x} e = ap (head_or x) e

same_tail : {A : Type 0} {x y : A} {xs ys : List A} → x ∷ xs ≡ y ∷ ys → xs ≡ ys
unfolding tail_of
same_tail e = ap tail_of e

cons_same : {A : Type 0} {x y : A} {xs ys : List A} → x ≡ y → xs ≡ ys → x ∷ xs ≡ y ∷ ys
cons_same e f = λ i. e i ∷ f i

-- where the names are the same none is new
same_not_new : (others deps xs : List Dep) → ((n : List ℕ) → Somewhere (λ (x : Dep). n ≡ x.name) xs → Somewhere (λ (x : Dep). n ≡ x.name) others) →
    map name_of deps ≡ map name_of xs → Somewhere (IsNew others) deps → ⊥
same_not_new others [] xs among e s = s
same_not_new others (d ∷ ds) [] among e s = cc e
same_not_new others (d ∷ ds) (x ∷ xs) among e (inl new) = new (among d.name (inl (same_head e)))
same_not_new others (d ∷ ds) (x ∷ xs) among e (inr s) = same_not_new others ds xs (λ n h. among n (inr h)) (same_tail e) s

pub none_new : (others deps : List Dep) → map name_of deps ≡ map name_of others → Somewhere (IsNew others) deps → ⊥
none_new others deps e s = same_not_new others deps others (λ n h. h) e s

-- of a pair of one list with itself none differs by content
none_differs : (stamp : Option ℕ) (xs ys : List Dep) → ys ≡ xs → AllByRecursion (λ (dep : Dep). dep.stamp ≡ None) ys →
    Somewhere (Differs Content stamp) (zip xs ys) → ⊥
none_differs stamp [] ys e none s = s
none_differs stamp (x ∷ xs) [] e none s = s
none_differs stamp (x ∷ xs) (y ∷ ys) e none (inl (inl h)) = h (ap (λ (d : Dep). d.digest) (sym (same_head e)))
none_differs stamp (x ∷ xs) (y ∷ ys) e none (inl (inr h)) = h (ap (λ (d : Dep). d.stamp) (sym (same_head e)) ∙ none.0)
none_differs stamp (x ∷ xs) (y ∷ ys) e none (inr s) = none_differs stamp xs ys (same_tail e) none.1 s

after_in : (stamp : Option ℕ) (xs ys : List Dep) → Somewhere (Differs Newer stamp) (zip xs ys) → Somewhere (λ (dep : Dep). IsAfter stamp dep.stamp) ys
after_in stamp [] ys s = absurd s
after_in stamp (x ∷ xs) [] s = absurd s
after_in stamp (x ∷ xs) (y ∷ ys) (inl h) = inl h
after_in stamp (x ∷ xs) (y ∷ ys) (inr s) = inr (after_in stamp xs ys s)

in_after : (stamp : Option ℕ) (xs ys : List Dep) → map name_of ys ≡ map name_of xs → Somewhere (λ (dep : Dep). IsAfter stamp dep.stamp) ys →
    Somewhere (Differs Newer stamp) (zip xs ys)
in_after stamp xs [] e s = absurd s
in_after stamp [] (y ∷ ys) e s = cc e
in_after stamp (x ∷ xs) (y ∷ ys) e (inl h) = inl h
in_after stamp (x ∷ xs) (y ∷ ys) e (inr s) = inr (in_after stamp xs ys (same_tail e) s)

stamps_differ : (stamp : Option ℕ) (xs ys : List Dep) → Somewhere (Differs Match stamp) (zip xs ys) → map stamp_of ys ≡ map stamp_of xs → ⊥
stamps_differ stamp [] ys s e = s
stamps_differ stamp (x ∷ xs) [] s e = s
stamps_differ stamp (x ∷ xs) (y ∷ ys) (inl h) e = h (sym (same_head e))
stamps_differ stamp (x ∷ xs) (y ∷ ys) (inr s) e = stamps_differ stamp xs ys s (same_tail e)

stamps_same : (stamp : Option ℕ) (xs ys : List Dep) → map name_of ys ≡ map name_of xs → (Somewhere (Differs Match stamp) (zip xs ys) → ⊥) →
    (map stamp_of ys ≡ map stamp_of xs → ⊥) → ⊥
stamps_same stamp [] [] e none k = k refl
stamps_same stamp [] (y ∷ ys) e none k = cc e
stamps_same stamp (x ∷ xs) [] e none k = cc e
stamps_same stamp (x ∷ xs) (y ∷ ys) e none k =
    stamps_same stamp xs ys (same_tail e) (λ s. none (inr s)) (λ rest. none (inl (λ h. k (cons_same (sym h) rest))))

dep_same : (x y : Dep) → y.name ≡ x.name → y.digest ≡ x.digest → y.stamp ≡ x.stamp → y ≡ x
dep_same x y name digest stamp = λ i. record { name = name i; digest = digest i; stamp = stamp i }

same_deps : (stamp : Option ℕ) (xs ys : List Dep) → map name_of ys ≡ map name_of xs → AllByRecursion (λ (dep : Dep). dep.stamp ≡ None) ys →
    (Somewhere (Differs Content stamp) (zip xs ys) → ⊥) → (ys ≡ xs → ⊥) → ⊥
same_deps stamp [] [] e stamps none k = k refl
same_deps stamp [] (y ∷ ys) e stamps none k = cc e
same_deps stamp (x ∷ xs) [] e stamps none k = cc e
same_deps stamp (x ∷ xs) (y ∷ ys) e stamps none k =
    same_deps stamp xs ys (same_tail e) stamps.1 (λ s. none (inr s)) (λ rest. none (inl (inl (λ digest. none (inl (inr (λ old.
    k (cons_same (dep_same x y (same_head e) (sym digest) (stamps.0 ∙ sym old)) rest))))))))

module _ (decider : Decider) (stamp : Option ℕ) (old now : Rec) where
  pub by_action : (IsSameAction old now → ⊥) → HasChanged decider old now stamp
  by_action = other decider
    where
      of_one : now ≡ old → IsSameAction old now
      of_one e = record {
        work = ap (λ (r : Rec). r.work) e;
        hash = ap (λ (r : Rec). r.hash) e;
        targets = ap (λ (r : Rec). r.targets) e;
        signed = ap (λ (r : Rec). r.signed) e;
        names = ap (λ (r : Rec). map name_of r.deps) e;
      }

      other : (d : Decider) → (IsSameAction old now → ⊥) → HasChanged d old now stamp
      other Content n = λ e. n (of_one e)
      other Newer n = inl n
      other Match n = inl n
      other ContentMatch n = inl n

  pub by_work : (IsSameWork old now → ⊥) → HasChanged decider old now stamp
  by_work n = by_action (λ a. n (record { work = a.work; hash = a.hash; targets = a.targets; signed = a.signed }))

  pub by_newly : (d : ℕ) → First (IsNew old.deps) now.deps d → HasChanged decider old now stamp
  by_newly d f = by_action (λ a. none_new old.deps now.deps a.names (first_some (IsNew old.deps) 0 now.deps d f))

  pub by_gone : (d : ℕ) → First (IsNew now.deps) old.deps d → HasChanged decider old now stamp
  by_gone d f = by_action (λ a. none_new now.deps old.deps (sym a.names) (first_some (IsNew now.deps) 0 old.deps d f))

  pub by_names : (map name_of now.deps ≢ map name_of old.deps) → HasChanged decider old now stamp
  by_names n = by_action (λ a. n a.names)

pub by_change : (decider : Decider) (stamp : Option ℕ) (old now : Rec) → HasNoStamps decider now → (d : ℕ) →
    First (Differs decider stamp) (zip old.deps now.deps) d → HasChanged decider old now stamp
by_change Content stamp old now none d f =
    λ e. none_differs stamp old.deps now.deps (ap (λ (r : Rec). r.deps) e) (none refl) (first_some (Differs Content stamp) 0 (zip old.deps now.deps) d f)
by_change Newer stamp old now none d f =
    inr (somewhere_any (λ (dep : Dep). IsAfter stamp dep.stamp) now.deps (after_in stamp old.deps now.deps (first_some (Differs Newer stamp) 0 (zip old.deps now.deps) d f)))
by_change Match stamp old now none d f =
    inr (stamps_differ stamp old.deps now.deps (first_some (Differs Match stamp) 0 (zip old.deps now.deps) d f))
by_change ContentMatch stamp old now none d f =
    inr (somewhere_any DiffersInBoth (zip old.deps now.deps) (first_some (Differs ContentMatch stamp) 0 (zip old.deps now.deps) d f))

-- where none of the five holds
pub record NoneOf (decider : Decider) (stamp : Option ℕ) (old now : Rec) : Type 0 where
  pub work : (IsSameWork old now → ⊥) → ⊥
  pub names : (map name_of now.deps ≡ map name_of old.deps → ⊥) → ⊥
  pub change : Somewhere (Differs decider stamp) (zip old.deps now.deps) → ⊥

same_record : (old now : Rec) → IsSameWork old now → now.deps ≡ old.deps → now ≡ old
same_record old now w e = λ i. record { work = w.work i; hash = w.hash i; targets = w.targets i; signed = w.signed i; deps = e i }

same_action : (decider : Decider) (stamp : Option ℕ) (old now : Rec) → NoneOf decider stamp old now → (IsSameAction old now → ⊥) → ⊥
same_action decider stamp old now none n =
    none.work (λ w. none.names (λ e. n (record { work = w.work; hash = w.hash; targets = w.targets; signed = w.signed; names = e })))

pub not_changed : (decider : Decider) (stamp : Option ℕ) (old now : Rec) → HasNoStamps decider now → NoneOf decider stamp old now →
    HasChanged decider old now stamp → ⊥
not_changed Content stamp old now stamps none h =
    none.work (λ w. none.names (λ e. same_deps stamp old.deps now.deps e (stamps refl) none.change (λ deps. h (same_record old now w deps))))
not_changed Newer stamp old now stamps none (inl n) = same_action Newer stamp old now none n
not_changed Newer stamp old now stamps none (inr any) =
    none.names (λ e. none.change (in_after stamp old.deps now.deps e (any_somewhere (λ (dep : Dep). IsAfter stamp dep.stamp) now.deps any)))
not_changed Match stamp old now stamps none (inl n) = same_action Match stamp old now none n
not_changed Match stamp old now stamps none (inr n) = none.names (λ e. stamps_same stamp old.deps now.deps e none.change n)
not_changed ContentMatch stamp old now stamps none (inl n) = same_action ContentMatch stamp old now none n
not_changed ContentMatch stamp old now stamps none (inr any) = none.change (any_somewhere DiffersInBoth (zip old.deps now.deps) any)
