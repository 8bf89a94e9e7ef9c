-- The numbers of paths' records, as entries are applied: their order stays.
use Rattle.std.proofs.Common.{◌≡◌, ℕ, zero, suc, ◌<◌, get_or, Bool, true, false, cond, List, [], ◌∷◌, ◌++◌, length, Option, None, Some, refl, sym, ap, subst, ◌∙◌, arith}
use Rattle.std.specs.Prelude.{slice_get}
use Rattle.std.specs.Option.{option_and_then, option_map, is_some}
use Rattle.deciders.specs.declared.recorded.Rec.{Rec}
use Rattle.sign_store.specs.declared.map.RecordMap.{RecordMap}
use Rattle.sign_store.specs.Orders.{IsWhole, AreOrdered, IsOrdered, SetsNumbers}
use Rattle.sign_store.specs.Tables.{Table, place_in, number_in, is_among, overwritten, WritesEach, Enters}
use Rattle.sign_store.proofs.OrderLemmas.{put_ordered, remove_ordered}

pub numbers_set : (paths : List (List ℕ)) (value : Option ℕ) (old new : Table) → WritesEach paths value old new → Enters paths old → SetsNumbers paths value (number_in old) (number_in new)
numbers_set paths value old new writes enters = record { at = λ path. by path (is_among paths path) refl }
  where
    some : (o : Option (Option ℕ)) → is_some o ≡ true → option_and_then (λ (n : Option ℕ). n) (option_map (λ _. value) o) ≡ value
    some None e = absurd cc
    some (Some p) e = refl

    written : (path : List ℕ) (b : Bool) → is_among paths path ≡ b → number_in new path ≡ option_and_then (λ (n : Option ℕ). n) (overwritten b value (place_in old path))
    written path b e = ap (option_and_then (λ (n : Option ℕ). n)) (writes.at path ∙ ap (λ (x : Bool). overwritten x value (place_in old path)) e)

    by : (path : List ℕ) (b : Bool) → is_among paths path ≡ b → number_in new path ≡ cond b value (number_in old path)
    by path true e = written path true e ∙ some (place_in old path) (enters.at path e)
    by path false e = written path false e

pub numbers_unset : (paths : List (List ℕ)) (old new : Table) → WritesEach paths None old new → SetsNumbers paths None (number_in old) (number_in new)
numbers_unset paths old new writes = record { at = λ path. by path (is_among paths path) refl }
  where
    none : (o : Option (Option ℕ)) → option_and_then (λ (n : Option ℕ). n) (option_map (λ _. None) o) ≡ None
    none None = refl
    none (Some p) = refl

    written : (path : List ℕ) (b : Bool) → is_among paths path ≡ b → number_in new path ≡ option_and_then (λ (n : Option ℕ). n) (overwritten b None (place_in old path))
    written path b e = ap (option_and_then (λ (n : Option ℕ). n)) (writes.at path ∙ ap (λ (x : Bool). overwritten x None (place_in old path)) e)

    by : (path : List ℕ) (b : Bool) → is_among paths path ≡ b → number_in new path ≡ cond b None (number_in old path)
    by path true e = written path true e ∙ none (place_in old path)
    by path false e = written path false e

pub ordered_put : (old mid new : RecordMap) (rec : Rec) (number : ℕ) → IsWhole rec → IsOrdered old → mid.records.items ≡ old.records.items ++ rec ∷ [] → ((path : List ℕ) → number_in mid.table path ≡ number_in old.table path)
    → number ≡ length old.records.items → new.records.items ≡ mid.records.items → SetsNumbers rec.targets (Some number) (number_in mid.table) (number_in new.table) → IsOrdered new
ordered_put old mid new rec number whole before items same is kept sets = record {
  records = subst (λ (x : List Rec). AreOrdered (number_in new.table) x) (sym (kept ∙ items)) (put_ordered (number_in old.table) (number_in new.table) old.records.items rec known whole now before.records);
}
  where
    known : (path : List ℕ) (n : ℕ) → number_in old.table path ≡ Some n → n < length old.records.items
    known path n at = let lt = old.known path n at in omega (arith, lt, old.records.ok.0)

    now : SetsNumbers rec.targets (Some (length old.records.items)) (number_in old.table) (number_in new.table)
    now = record {
      at = λ path.
          sets.at path ∙ ap (λ (n : ℕ). cond (is_among rec.targets path) (Some n) (number_in mid.table path)) is
          ∙ ap (λ (o : Option ℕ). cond (is_among rec.targets path) (Some (length old.records.items)) o) (same path);
    }

pub ordered_removed : (old new : RecordMap) (paths : List (List ℕ)) → IsOrdered old → new.records.items ≡ old.records.items → SetsNumbers paths None (number_in old.table) (number_in new.table) → IsOrdered new
ordered_removed old new paths before kept sets = record {
  records = subst (λ (x : List Rec). AreOrdered (number_in new.table) x) (sym kept) (remove_ordered (number_in old.table) (number_in new.table) old.records.items paths sets before.records);
}

inner : {A : Type 0} (a b : A) → Some a ≡ Some b → a ≡ b
inner a b e = cc

none_some : {A X : Type 0} (a : A) → None ≡ Some a → X
none_some a e = absurd (cc e)

-- the item that a look-up gave is the one there
pub item_is : (records : List Rec) (n : ℕ) (x rec : Rec) → x ≡ get_or records n x → slice_get records n ≡ Some rec → x ≡ rec
item_is [] n x rec e got = none_some rec got
item_is (first ∷ records) zero x rec e got = e ∙ inner first rec got
item_is (first ∷ records) (suc n) x rec e got = item_is records n x rec e got

pub none_ordered : (new : RecordMap) → ((path : List ℕ) → number_in new.table path ≡ None) → new.records.items ≡ [] → IsOrdered new
none_ordered new none empty = record {
  records = subst (λ (x : List Rec). AreOrdered (number_in new.table) x) (sym empty) (record {
    named = λ path number rec at got. none_some number (sym (none path) ∙ at);
    last = λ path number other rec at got among. none_some number (sym (none path) ∙ at);
    whole = λ number rec got. none_some rec got;
  });
}
