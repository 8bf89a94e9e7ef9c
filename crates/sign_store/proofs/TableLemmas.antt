-- Writes of a table of paths, one after another, and what they mean for a map.
use Rattle.std.proofs.Common.{◌≡◌, ℕ, zero, suc, ◌<◌, ◌+◌, Bool, true, false, cond, ◌||◌, List, [], ◌∷◌, ◌++◌, length, Option, Some, None, refl, sym, ap, subst, ◌∙◌, inl, inr, arith}
use Rattle.std.specs.Prelude.{slice_get, ◌⊎◌}
use Rattle.std.specs.Option.{option_and_then, is_some}
use Rattle.std.specs.List.{list_any}
use Rattle.std.specs.Str.{bytes_eq}
use Rattle.std.proofs.lemmas.Slice.Eq.{bytes_eq-Decides}
use Rattle.deciders.specs.declared.recorded.Rec.{Rec}
use Rattle.sign_store.specs.Tables.{Table, Map, with_each, place_in, number_in, is_among, overwritten, WritesEach, Enters}

or_false : (b : Bool) → (b || false) ≡ b
or_false true = refl
or_false false = refl

or_assoc : (a b c : Bool) → (a || (b || c)) ≡ ((a || b) || c)
or_assoc true b c = refl
or_assoc false b c = refl

pub is_among-push : (paths : List (List ℕ)) (path other : List ℕ) → is_among (paths ++ path ∷ []) other ≡ (is_among paths other || bytes_eq path other)
is_among-push [] path other = or_false (bytes_eq path other)
is_among-push (first ∷ paths) path other =
    ap (λ (b : Bool). bytes_eq first other || b) (is_among-push paths path other) ∙ or_assoc (bytes_eq first other) (is_among paths other) (bytes_eq path other)

twice : (a b : Bool) (value : Option ℕ) (place : Option (Option ℕ)) → overwritten b value (overwritten a value place) ≡ overwritten (a || b) value place
twice true true value None = refl
twice true true value (Some held) = refl
twice true false value place = refl
twice false true value place = refl
twice false false value place = refl

pub writes_none : (value : Option ℕ) (table : Table) → WritesEach [] value table table
writes_none value table = record { at = λ path. refl }

pub writes_one_more : (paths : List (List ℕ)) (path : List ℕ) (value : Option ℕ) (old mid new : Table) → WritesEach paths value old mid
    → ((other : List ℕ) → place_in new other ≡ overwritten (bytes_eq path other) value (place_in mid other)) → WritesEach (paths ++ path ∷ []) value old new
writes_one_more paths path value old mid new before step = record {
  at = λ other. step other ∙ ap (overwritten (bytes_eq path other) value) (before.at other)
      ∙ twice (is_among paths other) (bytes_eq path other) value (place_in old other)
      ∙ ap (λ (b : Bool). overwritten b value (place_in old other)) (sym (is_among-push paths path other));
}

abbrev flat : Option (Option ℕ) → Option ℕ
flat place = option_and_then (λ number. number) place

not_none : is_some {T = Option ℕ} None ≡ true → ⊥
not_none e = cc

pub set_gives : (records : List Rec) (rec : Rec) (number : ℕ) (targets : List (List ℕ)) (old new : Table) → slice_get records number ≡ Some rec → Enters targets old → WritesEach targets (Some number) old new → (path : List ℕ)
    → option_and_then (slice_get records) (number_in new path) ≡ cond (is_among targets path) (Some rec) (option_and_then (slice_get records) (number_in old path))
set_gives records rec number targets old new there entered writes path =
    ap (λ place. option_and_then (slice_get records) (flat place)) (writes.at path) ∙ by (is_among targets path) (place_in old path) (entered.at path)
  where
    by : (b : Bool) (place : Option (Option ℕ)) → (b ≡ true → is_some place ≡ true)
        → option_and_then (slice_get records) (flat (overwritten b (Some number) place)) ≡ cond b (Some rec) (option_and_then (slice_get records) (flat place))
    by true None has = absurd (not_none (has refl))
    by true (Some held) has = there
    by false place has = refl

pub unset_gives : (records : List Rec) (targets : List (List ℕ)) (old new : Table) → WritesEach targets None old new → (path : List ℕ)
    → option_and_then (slice_get records) (number_in new path) ≡ cond (is_among targets path) None (option_and_then (slice_get records) (number_in old path))
unset_gives records targets old new writes path =
    ap (λ place. option_and_then (slice_get records) (flat place)) (writes.at path) ∙ by (is_among targets path) (place_in old path)
  where
    by : (b : Bool) (place : Option (Option ℕ))
        → option_and_then (slice_get records) (flat (overwritten b None place)) ≡ cond b None (option_and_then (slice_get records) (flat place))
    by true None = refl
    by true (Some held) = refl
    by false place = refl

abbrev pub Known : Table → ℕ → Type 0
Known table len = (path : List ℕ) (number : ℕ) → number_in table path ≡ Some number → number < len

some_number : (m n : ℕ) (len : ℕ) → m < len → Some m ≡ Some n → n < len
some_number m n len below e = let is : m ≡ n = cc in subst (λ (k : ℕ). k < len) is below

pub known_set : (number len : ℕ) (targets : List (List ℕ)) (old new : Table) → number < len → Known old len → WritesEach targets (Some number) old new → Known new len
known_set number len targets old new below known writes path n e =
    by (is_among targets path) (place_in old path) (known path n) (ap flat (sym (writes.at path)) ∙ e)
  where
    by : (b : Bool) (place : Option (Option ℕ)) → (flat place ≡ Some n → n < len) → flat (overwritten b (Some number) place) ≡ Some n → n < len
    by true None was e = absurd cc
    by true (Some held) was e = some_number number n len below e
    by false place was e = was e

pub known_unset : (len : ℕ) (targets : List (List ℕ)) (old new : Table) → Known old len → WritesEach targets None old new → Known new len
known_unset len targets old new known writes path n e =
    by (is_among targets path) (place_in old path) (known path n) (ap flat (sym (writes.at path)) ∙ e)
  where
    by : (b : Bool) (place : Option (Option ℕ)) → (flat place ≡ Some n → n < len) → flat (overwritten b None place) ≡ Some n → n < len
    by true None was e = absurd cc
    by true (Some held) was e = absurd cc
    by false place was e = was e

slice_get-push : (records : List Rec) (rec : Rec) (n : ℕ) → n < length records → slice_get (records ++ rec ∷ []) n ≡ slice_get records n
slice_get-push [] rec n below = absurd (omega arith)
slice_get-push (first ∷ records) rec zero below = refl
slice_get-push (first ∷ records) rec (suc n) below = slice_get-push records rec n (omega arith)

pub slice_get-last : (records : List Rec) (rec : Rec) → slice_get (records ++ rec ∷ []) (length records) ≡ Some rec
slice_get-last [] rec = refl
slice_get-last (first ∷ records) rec = slice_get-last records rec

pub known_grows : (old new : Table) (len : ℕ) → Known old len → ((path : List ℕ) → number_in new path ≡ number_in old path) → Known new (len + 1)
known_grows old new len known same path n e = let below : n < len = known path n (sym (same path) ∙ e) in omega arith

pub add_keeps : (records : List Rec) (rec : Rec) (old new : Table) → Known old (length records) → ((path : List ℕ) → number_in new path ≡ number_in old path) → (path : List ℕ)
    → option_and_then (slice_get (records ++ rec ∷ [])) (number_in new path) ≡ option_and_then (slice_get records) (number_in old path)
add_keeps records rec old new known same path =
    ap (option_and_then (slice_get (records ++ rec ∷ []))) (same path) ∙ by (number_in old path) (known path)
  where
    by : (number : Option ℕ) → ((n : ℕ) → number ≡ Some n → n < length records)
        → option_and_then (slice_get (records ++ rec ∷ [])) number ≡ option_and_then (slice_get records) number
    by None below = refl
    by (Some n) below = slice_get-push records rec n (below n refl)

-- maps that have the same records are one
pub same_map : (old new : Map) → ((path : List ℕ) → new path ≡ old path) → new ≡ old
same_map old new at = λ i. λ path. at path i

either : (a b : Bool) → (a || b) ≡ true → (a ≡ true) ⊎ (b ≡ true)
either true b e = inl refl
either false b e = inr e

pub enters_one_more : (paths : List (List ℕ)) (path : List ℕ) (mid new : Table) → Enters paths mid → is_some (place_in new path) ≡ true
    → ((other : List ℕ) → is_some (place_in mid other) ≡ true → is_some (place_in new other) ≡ true) → Enters (paths ++ path ∷ []) new
enters_one_more paths path mid new before here stay = record {
  at = λ other among. elim (either (is_among paths other) (bytes_eq path other) (sym (is_among-push paths path other) ∙ among)) [
    | inl one ↦ stay other (before.at other one)
    | inr same ↦ subst (λ (p : List ℕ). is_some (place_in new p) ≡ true) ((bytes_eq-Decides path other).0 same) here
  ];
}

stays : (b : Bool) (value : Option ℕ) (place : Option (Option ℕ)) → is_some place ≡ true → is_some (overwritten b value place) ≡ true
stays true value None has = has
stays true value (Some held) has = refl
stays false value place has = has

-- a place stays, whatever is written
pub enters_after : (paths : List (List ℕ)) (value : Option ℕ) (old new : Table) (targets : List (List ℕ)) → WritesEach paths value old new → Enters targets old → Enters targets new
enters_after paths value old new targets writes entered = record {
  at = λ path among. ap is_some (writes.at path) ∙ stays (is_among paths path) value (place_in old path) (entered.at path among);
}

or_false_left : (a b : Bool) → (a || b) ≡ false → (a ≡ false) × (b ≡ false)
or_false_left true b e = absurd cc
or_false_left false b e = (refl, e)

none_is : (o : Option Rec) → is_some o ≡ false → o ≡ None
none_is None e = refl
none_is (Some rec) e = absurd cc

absent : (map : Map) (path : List ℕ) (paths : List (List ℕ)) → is_among paths path ≡ true → list_any (λ other. is_some (map other)) paths ≡ false → map path ≡ None
absent map path [] among none = absurd cc
absent map path (first ∷ paths) among none =
    by (bytes_eq first path) refl among (or_false_left (is_some (map first)) (list_any (λ other. is_some (map other)) paths) none) (absent map path paths)
  where
    by : (b : Bool) → bytes_eq first path ≡ b → (b || is_among paths path) ≡ true → (is_some (map first) ≡ false) × (list_any (λ other. is_some (map other)) paths ≡ false)
        → (is_among paths path ≡ true → list_any (λ other. is_some (map other)) paths ≡ false → map path ≡ None) → map path ≡ None
    by true e among none later = ap map (sym ((bytes_eq-Decides first path).0 e)) ∙ none_is (map first) none.0
    by false e among none later = later among none.1

none_at : (map : Map) (targets : List (List ℕ)) (path : List ℕ) (b : Bool) → is_among targets path ≡ b → list_any (λ other. is_some (map other)) targets ≡ false → cond b None (map path) ≡ map path
none_at map targets path true among none = sym (absent map path targets among none)
none_at map targets path false among none = refl

-- where none of these has a record, nothing is taken away
pub none_among : (map : Map) (targets : List (List ℕ)) → list_any (λ path. is_some (map path)) targets ≡ false → with_each targets None map ≡ map
none_among map targets none = λ i. λ path. none_at map targets path (is_among targets path) refl none i

-- the records that a table's paths had they have, where each has the number that it had
pub same_numbers : (records : List Rec) (old new : Table) → ((path : List ℕ) → number_in new path ≡ number_in old path) → (path : List ℕ)
    → option_and_then (slice_get records) (number_in new path) ≡ option_and_then (slice_get records) (number_in old path)
same_numbers records old new same path = ap (option_and_then (slice_get records)) (same path)

-- a record keeps its number where one more is put behind
pub stands_on : (records : List Rec) (rec other : Rec) (n : ℕ) → slice_get records n ≡ Some other → slice_get (records ++ rec ∷ []) n ≡ Some other
stands_on [] rec other n e = absurd cc
stands_on (first ∷ records) rec other zero e = e
stands_on (first ∷ records) rec other (suc n) e = stands_on records rec other n e

pub enters_on : (targets : List (List ℕ)) (old new : Table) → ((path : List ℕ) → is_some (place_in old path) ≡ true → is_some (place_in new path) ≡ true) → Enters targets old → Enters targets new
enters_on targets old new stay entered = record { at = λ path among. stay path (entered.at path among) }
