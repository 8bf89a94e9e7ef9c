-- The records of copies, found number by number.
use Rattle.std.proofs.Common.{◌≡◌, ℕ, ◌<◌, ◌+◌, Bool, true, false, List, [], ◌∷◌, Option, None, Some, refl, sym, ap, subst, ◌∙◌, ◌++◌, inl, inr, arith, length}
use Rattle.std.specs.Prelude.{◌⊎◌, ◌==◌, ◌||◌, Contains, slice_get}
use Rattle.std.specs.List.{list_any}
use Rattle.std.specs.Option.{option_and_then, option_map_or}
use Rattle.std.specs.Str.{bytes_eq}
use Rattle.std.proofs.lemmas.Bool.{eqb-true}
use Rattle.std.proofs.lemmas.Bool.Decides.{eqb_tells}
use Rattle.std.proofs.lemmas.List.Elements.{Contains-push, Contains-push_cases}
use Rattle.std.proofs.lemmas.Slice.Eq.{bytes_eq-Decides}
use Rattle.deciders.specs.declared.recorded.Rec.{Rec}
use Rattle.world_api.specs.declared.job.Work.TheVariants.{Copy}
use Rattle.sign_store.specs.Copies.{IsCopyIn}
use Rattle.sign_store.specs.Maps.{map_in}
use Rattle.sign_store.specs.Orders.{is_held}
use Rattle.sign_store.specs.Tables.{number_in, is_among}
use Rattle.sign_store.specs.declared.map.RecordMap.{RecordMap}
use Rattle.sign_store.proofs.OrderLemmas.{any_at}

some_same : {A : Type 0} (a b : A) → Some a ≡ Some b → a ≡ b
some_same a b e = cc

none_some : {A X : Type 0} (a : A) → None ≡ Some a → X
none_some a e = absurd (cc e)

-- the number that a path has
number_of : (held : RecordMap) (n : ℕ) (path : List ℕ) (o : Option ℕ) → number_in held.table path ≡ o → is_held held n path ≡ true → number_in held.table path ≡ Some n
number_of held n path None at is = let bad : false ≡ true = sym (ap (λ (x : Option ℕ). option_map_or (λ other. other == n) x false) at) ∙ is in absurd cc
number_of held n path (Some number) at is =
    let same : number ≡ n = eqb-true number n (sym (ap (λ (x : Option ℕ). option_map_or (λ other. other == n) x false) at) ∙ is) in
    at ∙ ap Some same

held_by : (held : RecordMap) (n : ℕ) (path : List ℕ) → number_in held.table path ≡ Some n → is_held held n path ≡ true
held_by held n path at = ap (λ (x : Option ℕ). option_map_or (λ other. other == n) x false) at ∙ same
  where
    same : (n == n) ≡ true
    same = elim (eqb_tells n n) [
      | inl eq ↦ eq.0
      | inr ne ↦ absurd (ne.1 refl)
    ]

-- one of some paths that has it
pub record Holder (held : RecordMap) (n : ℕ) (paths : List (List ℕ)) : Type 0 where
  pub path : List ℕ
  pub among : is_among paths path ≡ true
  pub at : number_in held.table path ≡ Some n

or_true : (b : Bool) → (b || true) ≡ true
or_true true = refl
or_true false = refl

holder : (held : RecordMap) (n : ℕ) (paths : List (List ℕ)) → list_any (is_held held n) paths ≡ true → Holder held n paths
holder held n [] is = absurd cc
holder held n (first ∷ paths) is = by (is_held held n first) refl is (holder held n paths)
  where
    by : (b : Bool) → is_held held n first ≡ b → (b || list_any (is_held held n) paths) ≡ true → (list_any (is_held held n) paths ≡ true → Holder held n paths) → Holder held n (first ∷ paths)
    by true here is later = record {
      path = first;
      among = rw ((bytes_eq-Decides first first).1 refl) refl;
      at = number_of held n first (number_in held.table first) refl here;
    }
    by false here is later =
        let rest = later is in
        record { path = rest.path; among = rw rest.among (or_true (bytes_eq first rest.path)); at = rest.at }

-- a record of a copy whose number a target has
pub copy_in : (held : RecordMap) (n : ℕ) (rec : Rec) → slice_get held.records.items n ≡ Some rec → rec.work ≡ Copy → list_any (is_held held n) rec.targets ≡ true → IsCopyIn (map_in held) rec
copy_in held n rec got work any =
    let h = holder held n rec.targets any in
    record { copies = work; path = h.path; among = h.among; has = ap (option_and_then (slice_get held.records.items)) h.at ∙ got }

-- the number of a record of a copy
pub record Numbered (held : RecordMap) (rec : Rec) : Type 0 where
  pub number : ℕ
  pub below : number < length held.records.items
  pub got : slice_get held.records.items number ≡ Some rec
  pub any : list_any (is_held held number) rec.targets ≡ true

pub numbered : (held : RecordMap) (rec : Rec) → IsCopyIn (map_in held) rec → Numbered held rec
numbered held rec is = by (number_in held.table is.path) refl
  where
    by : (o : Option ℕ) → number_in held.table is.path ≡ o → Numbered held rec
    by None at = none_some rec (sym (ap (option_and_then (slice_get held.records.items)) at) ∙ is.has)
    by (Some number) at =
        let lt = held.known is.path number at in
        record {
          number = number;
          below = omega (arith, lt, held.records.ok.0);
          got = sym (ap (option_and_then (slice_get held.records.items)) at) ∙ is.has;
          any = any_at (is_held held number) rec.targets is.path is.among (held_by held number is.path at);
        }

-- a record of a copy is put behind others
pub pushed_in : (held : RecordMap) (n : ℕ) (old new : List Rec) (there copy rec : Rec) → Some there ≡ slice_get held.records.items n → copy ≡ there → new ≡ old ++ copy ∷ [] → there.work ≡ Copy
    → list_any (is_held held n) there.targets ≡ true → Contains new rec → Contains old rec ⊎ IsCopyIn (map_in held) rec
pushed_in held n old new there copy rec got is pushed work any h = elim (Contains-push_cases old copy rec (subst (λ (xs : List Rec). Contains xs rec) pushed h)) [
  | inl before ↦ inl before
  | inr same ↦ inr (subst (λ (r : Rec). IsCopyIn (map_in held) r) (sym is ∙ same) (copy_in held n there (sym got) work any))
]

pub pushed_at : (held : RecordMap) (n : ℕ) (old new : List Rec) (there copy rec : Rec) → Some there ≡ slice_get held.records.items n → copy ≡ there → new ≡ old ++ copy ∷ [] → slice_get held.records.items n ≡ Some rec → Contains new rec
pushed_at held n old new there copy rec got is pushed at =
    let same : there ≡ rec = some_same there rec (got ∙ at) in
    subst (λ (xs : List Rec). Contains xs rec) (sym pushed) (subst (λ (r : Rec). Contains (old ++ copy ∷ []) r) (is ∙ same) (Contains-push old copy))

-- the records up to the next number
pub all_so_far : (held : RecordMap) (n : ℕ) (old new : List Rec) → ((rec : Rec) → Contains old rec → Contains new rec)
    → ((rec : Rec) → slice_get held.records.items n ≡ Some rec → rec.work ≡ Copy → list_any (is_held held n) rec.targets ≡ true → Contains new rec)
    → ((k : ℕ) (rec : Rec) → k < n → slice_get held.records.items k ≡ Some rec → rec.work ≡ Copy → list_any (is_held held k) rec.targets ≡ true → Contains old rec)
    → (k : ℕ) (rec : Rec) → k < n + 1 → slice_get held.records.items k ≡ Some rec → rec.work ≡ Copy → list_any (is_held held k) rec.targets ≡ true → Contains new rec
all_so_far held n old new kept at before k rec lt got work any = elim (eqb_tells k n) [
  | inl eq ↦ at rec (subst (λ (x : ℕ). slice_get held.records.items x ≡ Some rec) eq.1 got) work (subst (λ (x : ℕ). list_any (is_held held x) rec.targets ≡ true) eq.1 any)
  | inr ne ↦ let differs = ne.1 in kept rec (before k rec (omega (arith, lt, differs)) got work any)
]
