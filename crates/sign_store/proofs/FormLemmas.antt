-- The compact form: entries that lead from no record to all of them.
use Rattle.std.proofs.Common.{◌≡◌, ℕ, suc, ◌^◌, ◌<◌, ◌≤◌, ◌+◌, Bool, true, false, cond, leb, List, [], ◌∷◌, ◌++◌, length, take, drop, None, Some, refl, sym, ap, subst, ◌∙◌, append_assoc, inl, inr, arith}
use Rattle.std.specs.Prelude.{◌≢◌, ◌==◌, not, filter, codes}
use Rattle.std.specs.Int.{w32, w64, to_be_bytes, from_be_bytes}
use Rattle.std.specs.Option.{option_map}
use Rattle.std.specs.List.{flat_map, AllByRecursion}
use Rattle.std.proofs.lemmas.Bool.{lt-leb}
use Rattle.std.proofs.lemmas.Bool.Decides.{eqb_tells}
use Rattle.std.proofs.lemmas.List.{take_at, drop_at, length-append, append-nil}
use Rattle.std.proofs.lemmas.List.Concat.{flat_map-cons}
use Rattle.deciders.specs.declared.recorded.Rec.{Rec}
use Rattle.deciders.specs.declared.version.Version.{Version}
use Rattle.deciders.specs.declared.version.Version.TheVariants.{Two}
use Rattle.deciders.specs.Spelling.{sized, listed, spelling, IsPathText, IsListOf}
use Rattle.deciders.specs.Reading.{path_at, counted}
use Rattle.deciders.proofs.Takings.{wide32, wide64, path_reader}
use Rattle.deciders.proofs.Parts.{list_reader}
use Rattle.deciders.proofs.RecordLaws.{record_again}
use Rattle.deciders.proofs.Sizes.{targets_within}
use Rattle.sign_store.specs.declared.entries.Change.{Change}
use Rattle.sign_store.specs.declared.entries.Change.TheVariants.{Put, Withdraw}
use Rattle.sign_store.specs.declared.head.Head.TheVariants.{Live}
use Rattle.sign_store.specs.Heads.{head_of, head_bytes, generation_of, edition_of}
use Rattle.sign_store.specs.Entries.{entry_of, put_payload, withdraw_payload}
use Rattle.sign_store.specs.Images.{put_in, change_in, applied, after_entries}
use Rattle.sign_store.specs.Compacts.{withdrawal_of}
use Rattle.sign_store.specs.Forms.{Leads, IsForm}
use Rattle.sign_store.specs.Orders.{IsWhole}
use Rattle.sign_store.specs.Tables.{Map, nothing, with_each}
use Rattle.sign_store.proofs.ImageLemmas.{one_entry}
use Rattle.sign_store.proofs.EndLemmas.{entry_again}
use Rattle.sign_store.proofs.TicketLemmas.{paths_again}

pub leads_none : (version : Version) (map : Map) → Leads version [] map map
leads_none version map = record { on = λ behind. refl }

pub leads_then : (version : Version) (a b : List ℕ) (from mid map : Map) → Leads version a from mid → Leads version b mid map → Leads version (a ++ b) from map
leads_then version a b from mid map first second = record {
  on = λ behind. ap (λ (x : List ℕ). after_entries version (length x) from x) (append_assoc a b behind) ∙ first.on (b ++ behind) ∙ second.on behind;
}

pub leads_entry : (change : Change) (payload : List ℕ) (map : Map) → length payload < 2 ^ 32 → change_in Two payload ≡ Some change → Leads Two (1 ∷ entry_of payload) map (applied change map)
leads_entry change payload map fits says = record {
  on = λ behind.
      let entry = 1 ∷ entry_of payload in
      let size : length entry ≡ length payload + 5 = omega (arith, length-append (to_be_bytes w32 (length payload)) payload, wide32.len (length payload)) in
      one_entry Two (length (entry ++ behind)) map (entry ++ behind) (change, length payload + 5) refl (entry_again Two change payload behind fits says)
      ∙ ap (λ (x : List ℕ). after_entries Two (length x) (applied change map) x) (drop_at entry behind (length payload + 5) size);
}

pub leads_put : (rec : Rec) (map : Map) → IsWhole rec → Leads Two (1 ∷ entry_of (put_payload rec)) map (with_each rec.targets (Some rec) map)
leads_put rec map whole = leads_entry (Put rec) (put_payload rec) map (let fits = whole.fits in omega (arith, fits)) (ap (option_map (put_in Two (length (spelling Two rec)))) (record_again Two (spelling Two rec) rec whole.spells))

-- ---- a withdrawal of some of the targets

all_filter : (p : List ℕ → Bool) (paths : List (List ℕ)) → AllByRecursion IsPathText paths → AllByRecursion IsPathText (filter p paths)
all_filter p [] all = tt
all_filter p (path ∷ paths) all = by (p path) (all_filter p paths all.1)
  where
    by : (b : Bool) → AllByRecursion IsPathText (filter p paths) → AllByRecursion IsPathText (cond b (path ∷ filter p paths) (filter p paths))
    by true later = (all.0, later)
    by false later = later

fewer : (p : List ℕ → Bool) (paths : List (List ℕ)) → length (filter p paths) ≤ length paths
fewer p [] = omega arith
fewer p (path ∷ paths) = by (p path) (fewer p paths)
  where
    by : (b : Bool) → length (filter p paths) ≤ length paths → length (cond b (path ∷ filter p paths) (filter p paths)) ≤ length (path ∷ paths)
    by true le = omega (arith, le)
    by false le = omega (arith, le)

shorter : (p : List ℕ → Bool) (paths : List (List ℕ)) → length (flat_map sized (filter p paths)) ≤ length (flat_map sized paths)
shorter p [] = omega arith
shorter p (path ∷ paths) = by (p path) (shorter p paths)
  where
    whole : length (flat_map sized (path ∷ paths)) ≡ length (sized path) + length (flat_map sized paths)
    whole = ap length (flat_map-cons sized path paths) ∙ length-append (sized path) (flat_map sized paths)

    part : length (flat_map sized (path ∷ filter p paths)) ≡ length (sized path) + length (flat_map sized (filter p paths))
    part = ap length (flat_map-cons sized path (filter p paths)) ∙ length-append (sized path) (flat_map sized (filter p paths))

    by : (b : Bool) → length (flat_map sized (filter p paths)) ≤ length (flat_map sized paths) → length (flat_map sized (cond b (path ∷ filter p paths) (filter p paths))) ≤ length (flat_map sized (path ∷ paths))
    by true le = omega (arith, le, whole, part)
    by false le = omega (arith, le, whole)

listed-len : (paths : List (List ℕ)) → length (listed sized paths) ≡ 4 + length (flat_map sized paths)
listed-len paths = omega (arith, length-append (to_be_bytes w32 (length paths)) (flat_map sized paths), wide32.len (length paths))

pub lost_fit : (p : List ℕ → Bool) (rec : Rec) → IsWhole rec → length (listed sized (filter p rec.targets)) ≤ 4294967294
lost_fit p rec whole =
    let fits = whole.fits in
    omega (arith, fits, targets_within Two rec, listed-len rec.targets, listed-len (filter p rec.targets), shorter p rec.targets)

some_not : (paths : List (List ℕ)) → length paths ≢ 0 → not (length paths == 0) ≡ true
some_not [] some = absurd (some refl)
some_not (path ∷ paths) some = elim (eqb_tells (length (path ∷ paths)) 0) [ inl eq ↦ absurd (some eq.1) | inr ne ↦ ap not ne.0 ]

leads_lost : (p : List ℕ → Bool) (rec : Rec) (map : Map) → IsWhole rec → length (filter p rec.targets) ≢ 0 → Leads Two (1 ∷ entry_of (withdraw_payload (filter p rec.targets))) map (with_each (filter p rec.targets) None map)
leads_lost p rec map whole some =
    let lost = filter p rec.targets in
    let all : IsListOf IsPathText lost = (let few = fewer p rec.targets in let many = whole.spells.parts.targets.0 in omega (arith, few, many), all_filter p rec.targets whole.spells.parts.targets.1) in
    let again = (list_reader path_at sized IsPathText path_reader).again lost [] all in
    let counts : counted path_at (listed sized lost) ≡ Some (lost, []) = ap (counted path_at) (sym (append-nil (listed sized lost))) ∙ again in
    leads_entry (Withdraw lost) (withdraw_payload lost) map (let fit = lost_fit p rec whole in omega (arith, fit)) (ap (option_map Withdraw) (paths_again lost counts (some_not lost some)))

pub leads_withdrawal : (p : List ℕ → Bool) (rec : Rec) (map : Map) → IsWhole rec → Leads Two (withdrawal_of (filter p rec.targets)) map (with_each (filter p rec.targets) None map)
leads_withdrawal p rec map whole = by (filter p rec.targets) (leads_lost p rec map whole)
  where
    by : (lost : List (List ℕ)) → (length lost ≢ 0 → Leads Two (1 ∷ entry_of (withdraw_payload lost)) map (with_each lost None map)) → Leads Two (withdrawal_of lost) map (with_each lost None map)
    by [] some = leads_none Two map
    by (path ∷ paths) some = some (λ e. let bad : suc (length paths) ≡ 0 = e in omega (arith, bad))

-- ---- the head

pub head_is : (generation : ℕ) (entries behind : List ℕ) → generation < 2 ^ 64 → head_of (1 ∷ ((head_bytes generation ++ entries) ++ (0 ∷ behind))) ≡ Live (edition_of Two generation)
head_is generation entries behind fits =
    let mark = codes "SCONSIG2" in
    let number = to_be_bytes w64 generation in
    let rest = entries ++ (0 ∷ behind) in
    let grouped : (head_bytes generation ++ entries) ++ (0 ∷ behind) ≡ mark ++ (number ++ rest) = append_assoc (head_bytes generation) entries (0 ∷ behind) ∙ append_assoc mark number rest in
    let long : leb (length (1 ∷ (mark ++ (number ++ rest)))) 17 ≡ false =
    lt-leb _ 17 (omega (arith, length-append mark (number ++ rest), length-append number rest, wide64.len generation, length-append entries (0 ∷ behind))) in
    let behind_mark : drop 8 (mark ++ (number ++ rest)) ≡ number ++ rest = drop_at mark (number ++ rest) 8 refl in
    let is_number : generation_of (1 ∷ (mark ++ (number ++ rest))) ≡ generation =
    ap (λ (x : List ℕ). from_be_bytes w64 (take 8 x)) behind_mark ∙ ap (from_be_bytes w64) (take_at number rest 8 (wide64.len generation)) ∙ wide64.again generation fits in
    ap (λ (x : List ℕ). head_of (1 ∷ x)) grouped ∙ rw long (ap (λ (n : ℕ). Live (edition_of Two n)) is_number)

pub form_is : (generation : ℕ) (map : Map) (entries form : List ℕ) → generation < 2 ^ 64 → form ≡ (head_bytes generation ++ entries) ++ 0 ∷ [] → Leads Two entries nothing map → IsForm generation map form
form_is generation map entries form fits is leads = record {
  front = head_bytes generation ++ entries;
  is = is;
  long = omega (arith, head-len, length-append (head_bytes generation) entries);
  head = λ behind. head_is generation entries behind fits;
  leads = subst (λ (x : List ℕ). Leads Two x nothing map) (sym (drop_at (head_bytes generation) entries 16 head-len)) leads;
}
  where
    head-len : length (head_bytes generation) ≡ 16
    head-len = omega (arith, length-append (codes "SCONSIG2") (to_be_bytes w64 generation), wide64.len generation)
