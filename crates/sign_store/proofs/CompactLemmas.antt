-- The compact form stands for the map.
use Rattle.std.proofs.Common.{◌≡◌, ℕ, zero, suc, ◌^◌, ◌<◌, ◌≤◌, ◌+◌, Bool, true, false, List, [], ◌∷◌, ◌++◌, length, Option, None, Some, refl, sym, ap, subst, ◌∙◌, add-one, arith}
use Rattle.std.specs.Prelude.{◌≢◌, not, slice_get, Result, OnOk}
use Rattle.std.specs.List.{list_any}
use Rattle.std.proofs.lemmas.List.{append-nil}
use Rattle.deciders.specs.declared.version.Version.TheVariants.{Two}
use Rattle.deciders.specs.declared.recorded.Rec.{Rec}
use Rattle.deciders.specs.Spelling.{sized, listed}
use Rattle.sign_store.specs.declared.map.RecordMap.{RecordMap}
use Rattle.sign_store.specs.Compacts.{lost_of, withdrawal_of, entries_of, entries_at, entries_up_to, compact_bytes}
use Rattle.sign_store.specs.Entries.{entry_of, put_payload, withdraw_payload}
use Rattle.sign_store.specs.Forms.{Leads, IsForm}
use Rattle.sign_store.specs.Maps.{map_in}
use Rattle.sign_store.specs.Orders.{IsOrdered, is_held, map_up_to}
use Rattle.sign_store.specs.Tables.{Map, nothing, with_each}
use Rattle.sign_store.proofs.DiskLemmas.{then_ok}
use Rattle.sign_store.proofs.FormLemmas.{leads_none, leads_then, leads_put, leads_withdrawal, form_is}
use Rattle.sign_store.proofs.OrderLemmas.{one_more, none_held, none_there, up_to_all, up_to_none_yet, among_filter}

-- ---- the entries of a record

pub none_at : (held : RecordMap) (n : ℕ) → slice_get held.records.items n ≡ None → entries_at held n ≡ []
none_at held n got = rw got refl

at_some : (held : RecordMap) (n : ℕ) (rec : Rec) → slice_get held.records.items n ≡ Some rec → entries_at held n ≡ entries_of held n rec
at_some held n rec got = rw got refl

pub unheld_at : (held : RecordMap) (n : ℕ) (rec : Rec) → slice_get held.records.items n ≡ Some rec → list_any (is_held held n) rec.targets ≡ false → entries_at held n ≡ []
unheld_at held n rec got none = at_some held n rec got ∙ rw none refl

pub held_at : (held : RecordMap) (n : ℕ) (rec : Rec) → slice_get held.records.items n ≡ Some rec → list_any (is_held held n) rec.targets ≡ true
    → entries_at held n ≡ (1 ∷ entry_of (put_payload rec)) ++ withdrawal_of (lost_of held n rec)
held_at held n rec got some = at_some held n rec got ∙ rw some refl

pub next_up_to : (held : RecordMap) (n : ℕ) → entries_up_to held (n + 1) ≡ entries_up_to held n ++ entries_at held n
unfolding entries_up_to
next_up_to held n = ap (entries_up_to held) (add-one n)

pub withdrawal_is : {T E : Type 0} (r : Result T E) (paths : List (List ℕ)) (old new : List ℕ) → length (listed sized paths) ≤ 4294967294 → (length paths ≡ 0 → OnOk r (new ≡ old))
    → (length paths ≢ 0 → length (listed sized paths) ≤ 4294967294 → OnOk r (new ≡ old ++ 1 ∷ entry_of (withdraw_payload paths))) → OnOk r (new ≡ old ++ withdrawal_of paths)
withdrawal_is r [] old new fits none some = then_ok r (none refl) (λ e. e ∙ sym (append-nil old))
withdrawal_is r (path ∷ paths) old new fits none some = some (λ e. let bad : suc (length paths) ≡ 0 = e in omega (arith, bad)) fits

-- ---- they lead to the map

subst_leads : (a b : List ℕ) (from map : Map) → a ≡ b → Leads Two b from map → Leads Two a from map
subst_leads a b from map e leads = subst (λ (x : List ℕ). Leads Two x from map) (sym e) leads

leads_at : (held : RecordMap) (n : ℕ) → IsOrdered held → Leads Two (entries_at held n) (map_up_to n held) (map_up_to (n + 1) held)
leads_at held n ordered = by (slice_get held.records.items n) refl
  where
    some : (rec : Rec) → slice_get held.records.items n ≡ Some rec → (b : Bool) → list_any (is_held held n) rec.targets ≡ b → Leads Two (entries_at held n) (map_up_to n held) (map_up_to (n + 1) held)
    some rec got false e =
        subst_leads (entries_at held n) [] (map_up_to n held) (map_up_to (n + 1) held) (unheld_at held n rec got e)
        (subst (λ (m : Map). Leads Two [] (map_up_to n held) m) (sym (none_held held n rec ordered got e)) (leads_none Two (map_up_to n held)))
    some rec got true e =
        let whole = ordered.records.whole n rec got in
        let lost = lost_of held n rec in
        let mid : Map = with_each rec.targets (Some rec) (map_up_to n held) in
        let end : with_each lost None mid ≡ map_up_to (n + 1) held = one_more held n rec lost ordered got (among_filter (λ path. not (is_held held n path)) rec.targets) in
        subst_leads (entries_at held n) ((1 ∷ entry_of (put_payload rec)) ++ withdrawal_of lost) (map_up_to n held) (map_up_to (n + 1) held) (held_at held n rec got e)
        (leads_then Two (1 ∷ entry_of (put_payload rec)) (withdrawal_of lost) (map_up_to n held) mid (map_up_to (n + 1) held) (leads_put rec (map_up_to n held) whole)
        (subst (λ (m : Map). Leads Two (withdrawal_of lost) mid m) end (leads_withdrawal (λ path. not (is_held held n path)) rec mid whole)))

    by : (o : Option Rec) → slice_get held.records.items n ≡ o → Leads Two (entries_at held n) (map_up_to n held) (map_up_to (n + 1) held)
    by None got =
        subst_leads (entries_at held n) [] (map_up_to n held) (map_up_to (n + 1) held) (none_at held n got)
        (subst (λ (m : Map). Leads Two [] (map_up_to n held) m) (sym (none_there held n got)) (leads_none Two (map_up_to n held)))
    by (Some rec) got = some rec got (list_any (is_held held n) rec.targets) refl

leads_up_to : (held : RecordMap) (n : ℕ) → IsOrdered held → Leads Two (entries_up_to held n) nothing (map_up_to n held)
unfolding entries_up_to
leads_up_to held zero ordered = subst (λ (m : Map). Leads Two [] nothing m) (sym (up_to_none_yet held)) (leads_none Two nothing)
leads_up_to held (suc n) ordered =
    subst (λ (k : ℕ). Leads Two (entries_up_to held n ++ entries_at held n) nothing (map_up_to k held)) (add-one n)
    (leads_then Two (entries_up_to held n) (entries_at held n) nothing (map_up_to n held) (map_up_to (n + 1) held) (leads_up_to held n ordered) (leads_at held n ordered))

pub compact_is : (held : RecordMap) (generation : ℕ) → IsOrdered held → generation < 2 ^ 64 → IsForm generation (map_in held) (compact_bytes generation held)
compact_is held generation ordered fits =
    form_is generation (map_in held) (entries_up_to held (length held.records.items)) (compact_bytes generation held) fits refl
    (subst (λ (m : Map). Leads Two (entries_up_to held (length held.records.items)) nothing m) (up_to_all held) (leads_up_to held (length held.records.items) ordered))
