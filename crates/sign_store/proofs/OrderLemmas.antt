-- Records in the order of their puts: the order stays, and what each of them adds to the map.
use Rattle.std.proofs.Common.{◌≡◌, ℕ, zero, suc, ◌<◌, ◌≤◌, ◌+◌, Bool, true, false, cond, ltb, List, [], ◌∷◌, ◌++◌, length, Option, None, Some, refl, sym, ap, subst, ◌∙◌, inl, inr, arith}
use Rattle.std.specs.Prelude.{◌≢◌, ◌&&◌, ◌||◌, ◌==◌, not, slice_get, filter}
use Rattle.std.specs.Option.{option_and_then, option_map_or}
use Rattle.std.specs.List.{list_any}
use Rattle.std.specs.Str.{bytes_eq}
use Rattle.std.proofs.lemmas.Bool.{le-ltb, lt-ltb, ltb-true, ltb-false, eqb-true}
use Rattle.std.proofs.lemmas.Bool.Decides.{eqb_tells}
use Rattle.std.proofs.lemmas.List.{length-append}
use Rattle.std.proofs.lemmas.Slice.Eq.{bytes_eq-Decides}
use Rattle.deciders.specs.declared.recorded.Rec.{Rec}
use Rattle.deciders.specs.declared.version.Version.{Version}
use Rattle.deciders.specs.declared.version.Version.TheVariants.{One, Two}
use Rattle.deciders.specs.Spelling.{Spells, spelling}
use Rattle.sign_store.specs.declared.entries.Change.TheVariants.{Put, Withdraw}
use Rattle.sign_store.specs.declared.map.RecordMap.{RecordMap}
use Rattle.sign_store.specs.Orders.{IsWhole, IsWholeChange, AreOrdered, IsOrdered, SetsNumbers, is_held, map_up_to}
use Rattle.sign_store.specs.Images.{put_in}
use Rattle.sign_store.specs.Maps.{map_in}
use Rattle.sign_store.specs.Tables.{number_in, is_among, with_each}
use Rattle.sign_store.proofs.TableLemmas.{same_map, slice_get-last}

some_same : {A : Type 0} (a b : A) → Some a ≡ Some b → a ≡ b
some_same a b e = cc

none_some : {A X : Type 0} (a : A) → None ≡ Some a → X
none_some a e = absurd (cc e)

-- ---- places in a list that grew by one

got_within : (records : List Rec) (n : ℕ) (rec : Rec) → slice_get records n ≡ Some rec → n < length records
got_within [] n rec e = none_some rec e
got_within (first ∷ records) zero rec e = omega arith
got_within (first ∷ records) (suc n) rec e = let lt = got_within records n rec e in omega (arith, lt)

got_before : (records : List Rec) (added rec : Rec) (n : ℕ) → slice_get (records ++ added ∷ []) n ≡ Some rec → n < length records → slice_get records n ≡ Some rec
got_before [] added rec n e lt = absurd (omega (arith, lt))
got_before (first ∷ records) added rec zero e lt = e
got_before (first ∷ records) added rec (suc n) e lt = got_before records added rec n e (omega (arith, lt))

-- the record at the place of the last one
got_last : (records : List Rec) (added rec : Rec) (n : ℕ) → slice_get (records ++ added ∷ []) n ≡ Some rec → n ≡ length records → rec ≡ added
got_last records added rec n e is = some_same rec added (sym e ∙ ap (slice_get (records ++ added ∷ [])) is ∙ slice_get-last records added)

-- ---- the order stays

pub put_ordered : (old new : List ℕ → Option ℕ) (records : List Rec) (added : Rec) → ((path : List ℕ) (number : ℕ) → old path ≡ Some number → number < length records) → IsWhole added
    → SetsNumbers added.targets (Some (length records)) old new → AreOrdered old records → AreOrdered new (records ++ added ∷ [])
put_ordered old new records added known whole sets before = record {
  named = λ path number rec at got. named path number rec (is_among added.targets path) refl at got;
  last = λ path number other rec at got among. last path number other rec (is_among added.targets path) refl at got among;
  whole = λ number rec got. spelt number rec (got_within (records ++ added ∷ []) number rec got) got;
}
  where
    here : (path : List ℕ) (number : ℕ) → is_among added.targets path ≡ true → new path ≡ Some number → number ≡ length records
    here path number among at = sym (some_same (length records) number (sym (ap (λ b. cond b (Some (length records)) (old path)) among) ∙ sym (sets.at path) ∙ at))

    there : (path : List ℕ) (number : ℕ) → is_among added.targets path ≡ false → new path ≡ Some number → old path ≡ Some number
    there path number among at = sym (ap (λ b. cond b (Some (length records)) (old path)) among) ∙ sym (sets.at path) ∙ at

    total : length (records ++ added ∷ []) ≡ length records + 1
    total = length-append records (added ∷ [])

    named : (path : List ℕ) (number : ℕ) (rec : Rec) (b : Bool) → is_among added.targets path ≡ b → new path ≡ Some number → slice_get (records ++ added ∷ []) number ≡ Some rec → is_among rec.targets path ≡ true
    named path number rec true among at got = subst (λ (r : Rec). is_among r.targets path ≡ true) (sym (got_last records added rec number got (here path number among at))) among
    named path number rec false among at got = let before_at = there path number among at in before.named path number rec before_at (got_before records added rec number got (known path number before_at))

    last : (path : List ℕ) (number other : ℕ) (rec : Rec) (b : Bool) → is_among added.targets path ≡ b → new path ≡ Some number → slice_get (records ++ added ∷ []) other ≡ Some rec → is_among rec.targets path ≡ true → other ≤ number
    last path number other rec true among at got named_by = let lt = got_within (records ++ added ∷ []) other rec got in let is = here path number among at in omega (arith, lt, is, total)
    last path number other rec false among at got named_by = elim (eqb_tells other (length records)) [
      | inl eq ↦ let bad : true ≡ false = sym named_by ∙ ap (λ (r : Rec). is_among r.targets path) (got_last records added rec other got eq.1) ∙ among in absurd cc
      | inr ne ↦
          let lt = got_within (records ++ added ∷ []) other rec got in
          let not_last = ne.1 in
          before.last path number other rec (there path number among at) (got_before records added rec other got (omega (arith, lt, total, not_last))) named_by
    ]

    spelt : (number : ℕ) (rec : Rec) → number < length (records ++ added ∷ []) → slice_get (records ++ added ∷ []) number ≡ Some rec → IsWhole rec
    spelt number rec lt got = elim (eqb_tells number (length records)) [
      | inl eq ↦ subst IsWhole (sym (got_last records added rec number got eq.1)) whole
      | inr ne ↦ let not_last = ne.1 in before.whole number rec (got_before records added rec number got (omega (arith, lt, total, not_last)))
    ]

pub remove_ordered : (old new : List ℕ → Option ℕ) (records : List Rec) (paths : List (List ℕ)) → SetsNumbers paths None old new → AreOrdered old records → AreOrdered new records
remove_ordered old new records paths sets before = record {
  named = λ path number rec at got. before.named path number rec (kept path number (is_among paths path) refl at) got;
  last = λ path number other rec at got among. before.last path number other rec (kept path number (is_among paths path) refl at) got among;
  whole = before.whole;
}
  where
    kept : (path : List ℕ) (number : ℕ) (b : Bool) → is_among paths path ≡ b → new path ≡ Some number → old path ≡ Some number
    kept path number true among at = none_some number (sym (ap (λ b. cond b None (old path)) among) ∙ sym (sets.at path) ∙ at)
    kept path number false among at = sym (ap (λ b. cond b None (old path)) among) ∙ sym (sets.at path) ∙ at

-- ---- what a record adds

up_to_none : (held : RecordMap) (path : List ℕ) (n : ℕ) → number_in held.table path ≡ None → map_up_to n held path ≡ None
up_to_none held path n e = rw e refl

up_to_some : (held : RecordMap) (path : List ℕ) (n number : ℕ) → number_in held.table path ≡ Some number → map_up_to n held path ≡ cond (ltb number n) (slice_get held.records.items number) None
up_to_some held path n number e = rw e refl

-- a path that hasn't this record: it adds nothing there
same_below : (held : RecordMap) (path : List ℕ) (n : ℕ) (o : Option ℕ) → number_in held.table path ≡ o → is_held held n path ≡ false → map_up_to (n + 1) held path ≡ map_up_to n held path
same_below held path n None at not_held = up_to_none held path (n + 1) at ∙ sym (up_to_none held path n at)
same_below held path n (Some number) at not_held = elim (eqb_tells number n) [
  | inl eq ↦ let bad : true ≡ false = sym eq.0 ∙ sym (ap (λ (x : Option ℕ). option_map_or (λ other. other == n) x false) at) ∙ not_held in absurd cc
  | inr ne ↦ up_to_some held path (n + 1) number at ∙ ap (λ b. cond b (slice_get held.records.items number) None) (next ne.1) ∙ sym (up_to_some held path n number at)
]
  where
    next : number ≢ n → ltb number (n + 1) ≡ ltb number n
    next differs = by (ltb number n) refl
      where
        by : (b : Bool) → ltb number n ≡ b → ltb number (n + 1) ≡ ltb number n
        by true e = let lt = ltb-true number n e in lt-ltb number (n + 1) (omega (arith, lt)) ∙ sym e
        by false e = let le = ltb-false number n e in le-ltb number (n + 1) (omega (arith, le, differs)) ∙ sym e

-- a path that has it
held_now : (held : RecordMap) (path : List ℕ) (n : ℕ) (rec : Rec) → slice_get held.records.items n ≡ Some rec → (o : Option ℕ) → number_in held.table path ≡ o → is_held held n path ≡ true
    → (number_in held.table path ≡ Some n) × (map_up_to (n + 1) held path ≡ Some rec)
held_now held path n rec got None at is = let bad : false ≡ true = sym (ap (λ (x : Option ℕ). option_map_or (λ other. other == n) x false) at) ∙ is in absurd cc
held_now held path n rec got (Some number) at is =
    let same : number ≡ n = eqb-true number n (sym (ap (λ (x : Option ℕ). option_map_or (λ other. other == n) x false) at) ∙ is) in
    let here : number_in held.table path ≡ Some n = at ∙ ap Some same in
    (here, up_to_some held path (n + 1) n here ∙ ap (λ b. cond b (slice_get held.records.items n) None) (lt-ltb n (n + 1) (omega arith)) ∙ got)

-- a target that has another record or none: no earlier record counts for it
lost_now : (held : RecordMap) (path : List ℕ) (n : ℕ) (rec : Rec) → IsOrdered held → slice_get held.records.items n ≡ Some rec → is_among rec.targets path ≡ true → (o : Option ℕ) → number_in held.table path ≡ o → is_held held n path ≡ false
    → map_up_to (n + 1) held path ≡ None
lost_now held path n rec ordered got among None at not_held = up_to_none held path (n + 1) at
lost_now held path n rec ordered got among (Some number) at not_held = elim (eqb_tells number n) [
  | inl eq ↦ let bad : true ≡ false = sym eq.0 ∙ sym (ap (λ (x : Option ℕ). option_map_or (λ other. other == n) x false) at) ∙ not_held in absurd cc
  | inr ne ↦
      let le = ordered.records.last path number n rec at got among in
      let differs = ne.1 in
      up_to_some held path (n + 1) number at ∙ ap (λ b. cond b (slice_get held.records.items number) None) (le-ltb number (n + 1) (omega (arith, le, differs)))
]

or_true : (b : Bool) → (b || true) ≡ true
or_true true = refl
or_true false = refl

pub any_at : (p : List ℕ → Bool) (targets : List (List ℕ)) (path : List ℕ) → is_among targets path ≡ true → p path ≡ true → list_any p targets ≡ true
any_at p [] path among is = absurd cc
any_at p (first ∷ targets) path among is = by (bytes_eq first path) refl among (any_at p targets path)
  where
    by : (b : Bool) → bytes_eq first path ≡ b → (b || is_among targets path) ≡ true → (is_among targets path ≡ true → p path ≡ true → list_any p targets ≡ true) → list_any p (first ∷ targets) ≡ true
    by true e among later = rw (ap p ((bytes_eq-Decides first path).0 e) ∙ is) refl
    by false e among later = rw (later among is) (or_true (p first))

-- a record whose number no path has adds nothing
pub none_held : (held : RecordMap) (n : ℕ) (rec : Rec) → IsOrdered held → slice_get held.records.items n ≡ Some rec → list_any (is_held held n) rec.targets ≡ false → map_up_to (n + 1) held ≡ map_up_to n held
none_held held n rec ordered got none = same_map (map_up_to n held) (map_up_to (n + 1) held) (λ path. same_below held path n (number_in held.table path) refl (not_held path (is_held held n path) refl))
  where
    not_held : (path : List ℕ) (b : Bool) → is_held held n path ≡ b → is_held held n path ≡ false
    not_held path false e = e
    not_held path true e =
        let here = held_now held path n rec got (number_in held.table path) refl e in
        let bad : true ≡ false = sym (any_at (is_held held n) rec.targets path (ordered.records.named path n rec here.0 got) e) ∙ none in
        absurd cc

past : (records : List Rec) (i : ℕ) → i < length records → slice_get records i ≡ None → ⊥
past [] i lt e = omega (arith, lt)
past (first ∷ records) zero lt e = none_some first (sym e)
past (first ∷ records) (suc i) lt e = past records i (omega (arith, lt)) e

-- a record beyond the last
pub none_there : (held : RecordMap) (n : ℕ) → slice_get held.records.items n ≡ None → map_up_to (n + 1) held ≡ map_up_to n held
none_there held n got = same_map (map_up_to n held) (map_up_to (n + 1) held) (λ path. same_below held path n (number_in held.table path) refl (not_held path (is_held held n path) refl (number_in held.table path) refl))
  where
    not_held : (path : List ℕ) (b : Bool) → is_held held n path ≡ b → (o : Option ℕ) → number_in held.table path ≡ o → is_held held n path ≡ false
    not_held path false e o at = e
    not_held path true e None at = let bad : false ≡ true = sym (ap (λ (x : Option ℕ). option_map_or (λ other. other == n) x false) at) ∙ e in absurd cc
    not_held path true e (Some number) at =
        let same : number ≡ n = eqb-true number n (sym (ap (λ (x : Option ℕ). option_map_or (λ other. other == n) x false) at) ∙ e) in
        let lt = held.known path number at in
        absurd (past held.records.items n (omega (arith, lt, same, held.records.ok.0)) got)

-- the put of a record, and the withdrawal of those of its targets that have another record or none
pub one_more : (held : RecordMap) (n : ℕ) (rec : Rec) (lost : List (List ℕ)) → IsOrdered held → slice_get held.records.items n ≡ Some rec
    → ((path : List ℕ) → is_among lost path ≡ (is_among rec.targets path && not (is_held held n path))) → with_each lost None (with_each rec.targets (Some rec) (map_up_to n held)) ≡ map_up_to (n + 1) held
one_more held n rec lost ordered got is_lost = same_map (map_up_to (n + 1) held) (with_each lost None (with_each rec.targets (Some rec) (map_up_to n held))) (λ path. at path (is_among rec.targets path) (is_held held n path) refl refl)
  where
    value : (path : List ℕ) (a h : Bool) → is_among rec.targets path ≡ a → is_held held n path ≡ h
        → with_each lost None (with_each rec.targets (Some rec) (map_up_to n held)) path ≡ cond (a && not h) None (cond a (Some rec) (map_up_to n held path))
    value path a h among held_by = rw (is_lost path, among, held_by) refl

    at : (path : List ℕ) (a h : Bool) → is_among rec.targets path ≡ a → is_held held n path ≡ h → with_each lost None (with_each rec.targets (Some rec) (map_up_to n held)) path ≡ map_up_to (n + 1) held path
    at path true true among held_by = value path true true among held_by ∙ sym (held_now held path n rec got (number_in held.table path) refl held_by).1
    at path true false among held_by = value path true false among held_by ∙ sym (lost_now held path n rec ordered got among (number_in held.table path) refl held_by)
    at path false false among held_by = value path false false among held_by ∙ sym (same_below held path n (number_in held.table path) refl held_by)
    at path false true among held_by =
        let here = held_now held path n rec got (number_in held.table path) refl held_by in
        let bad : true ≡ false = sym (ordered.records.named path n rec here.0 got) ∙ among in absurd cc

-- all records
pub up_to_all : (held : RecordMap) → map_up_to (length held.records.items) held ≡ map_in held
up_to_all held = same_map (map_in held) (map_up_to (length held.records.items) held) (λ path. by path (number_in held.table path) refl)
  where
    by : (path : List ℕ) (o : Option ℕ) → number_in held.table path ≡ o → map_up_to (length held.records.items) held path ≡ map_in held path
    by path None at = up_to_none held path (length held.records.items) at ∙ sym (ap (option_and_then (slice_get held.records.items)) at)
    by path (Some number) at =
        let lt = held.known path number at in
        up_to_some held path (length held.records.items) number at ∙ ap (λ b. cond b (slice_get held.records.items number) None) (lt-ltb number (length held.records.items) (omega (arith, lt, held.records.ok.0)))
        ∙ sym (ap (option_and_then (slice_get held.records.items)) at)

pub up_to_none_yet : (held : RecordMap) → map_up_to 0 held ≡ (λ path. None)
up_to_none_yet held = same_map (λ path. None) (map_up_to 0 held) (λ path. by path (number_in held.table path) refl)
  where
    by : (path : List ℕ) (o : Option ℕ) → number_in held.table path ≡ o → map_up_to 0 held path ≡ None
    by path None at = up_to_none held path 0 at
    by path (Some number) at = up_to_some held path 0 number at ∙ ap (λ b. cond b (slice_get held.records.items number) None) (le-ltb number 0 (omega arith))

-- ---- the targets that are lost

and_false : (b : Bool) → (b && false) ≡ false
and_false true = refl
and_false false = refl

pub among_filter : (p : List ℕ → Bool) (paths : List (List ℕ)) (path : List ℕ) → is_among (filter p paths) path ≡ (is_among paths path && p path)
among_filter p [] path = refl
among_filter p (first ∷ paths) path = by (p first) (bytes_eq first path) refl refl (among_filter p paths path)
  where
    by : (k b : Bool) → p first ≡ k → bytes_eq first path ≡ b → is_among (filter p paths) path ≡ (is_among paths path && p path) → is_among (cond k (first ∷ filter p paths) (filter p paths)) path ≡ ((b || is_among paths path) && p path)
    by true true keeps same later = rw (same, sym (ap p ((bytes_eq-Decides first path).0 same)) ∙ keeps) refl
    by true false keeps same later = rw same later
    by false true keeps same later = let gone : p path ≡ false = sym (ap p ((bytes_eq-Decides first path).0 same)) ∙ keeps in later ∙ rw gone (and_false (is_among paths path))
    by false false keeps same later = later

-- ---- what is read of an entry can be put again

-- a record of version 1 takes a byte more in version 2
again_two : (version : Version) (bytes : List ℕ) (rec : Rec) → Spells version bytes rec → length (spelling Two rec) ≤ 4294967294 → IsWhole rec
again_two version bytes rec spells fits = record { spells = record { valid = spells.valid; parts = spells.parts; hash = tt; spelt = refl }; fits = fits }

pub whole_put : (version : Version) (bytes : List ℕ) (rec : Rec) → Spells version bytes rec → length bytes ≤ 4294967294 → IsWholeChange (put_in version (length bytes) rec)
whole_put Two bytes rec spells fits = again_two Two bytes rec spells (subst (λ (x : List ℕ). length x ≤ 4294967294) spells.spelt fits)
whole_put One bytes rec spells fits = by (ltb (length bytes) 4294967294) refl
  where
    by : (b : Bool) → ltb (length bytes) 4294967294 ≡ b → IsWholeChange (cond b (Put rec) (Withdraw rec.targets))
    by false e = tt
    by true e =
        let lt = ltb-true (length bytes) 4294967294 e in
        let len : length (spelling One rec) ≡ length bytes = ap length (sym spells.spelt) in
        again_two One bytes rec spells (omega (arith, lt, len))
