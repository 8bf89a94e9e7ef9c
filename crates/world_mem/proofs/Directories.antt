-- The entries of a map from a directory's text on: those below the directory stand first.
use Rattle.std.proofs.Common.{◌≡◌, ◌∙◌, ◌<◌, sym, refl, ap, cond, subst, ℕ, List, [], ◌∷◌, ◌++◌, Bool, true, false, ◌&&◌, Option, Some, inl, inr, arith}
use Rattle.std.specs.BTreeMap.{is_at}
use Rattle.std.specs.Cmp.Lexicographic.{slice_cmp, bytes_decides}
use Rattle.std.specs.Global.{Vec}
use Rattle.std.specs.List.{All, AllByRecursion, filter}
use Rattle.std.specs.List.Sorted.{IsStrictlySortedBy}
use Rattle.std.specs.Map.{keys_of, lookup}
use Rattle.std.specs.declared.cmp.Ordering.{Ordering}
use Rattle.std.specs.declared.cmp.Ordering.TheVariants.{Less, Equal, Greater}
use Rattle.std.specs.Ordering.{nat_cmp, is_gt, is_le, is_eq, ordering_then}
use Rattle.std.proofs.lemmas.Bool.{cases_Bool, cond-false}
use Rattle.std.proofs.lemmas.Cmp.{ranked, by_ranked, tied_back, tied_itself, nat_cmp_total}
use Rattle.std.proofs.lemmas.List.Elements.{All-head, All-tail}
use Rattle.std.proofs.lemmas.List.Kept.{IsStrictlySortedBy-filter}
use Rattle.std.proofs.lemmas.Map.Entries.{lookup-filter-keys}
use Rattle.std.proofs.lemmas.Map.Keys.{sorted_head, sorted_tail}
use Rattle.std.proofs.lemmas.Map.Text.{is_eq-slice_cmp}
use Rattle.world_mem.specs.Blocked.{LiesBelow}
use Rattle.world_mem.specs.InSlots.{slot_at, Stands, is_live, holds_live}
use Rattle.world_mem.specs.declared.slots.Slot.{Slot}
use Rattle.world_mem.specs.declared.slots.Slots.{Slots}

abbrev pub key_cmp : Vec ℕ → Vec ℕ → Ordering
key_cmp x y = slice_cmp nat_cmp x.items y.items

level : (a b : ℕ) (o u : Ordering) → is_gt (ordering_then (nat_cmp a b) o) ≡ false → ordering_then (nat_cmp b a) u ≡ Less → (a ≡ b) × (is_gt o ≡ false) × (u ≡ Less)
level a b o u from upto =
    by_ranked (a < b) (a ≡ b) (b < a) (nat_cmp a b) (ranked a b (nat_cmp a b) refl)
    (λ e lt. by_ranked (b < a) (b ≡ a) (a < b) (nat_cmp b a) (ranked b a (nat_cmp b a) refl)
    (λ f gt. absurd (omega (arith, lt, gt)))
    (λ f eq. absurd (omega (arith, lt, eq)))
    (λ f gt. absurd (let x : true ≡ false = ap is_gt (sym (ap (λ c. ordering_then c u) f) ∙ upto) in cc x)))
    (λ e eq. (eq, sym (ap (λ c. is_gt (ordering_then c o)) e) ∙ from, sym (ap (λ c. ordering_then c u) (tied_back nat_cmp_total a b e)) ∙ upto))
    (λ e gt. absurd (let x : true ≡ false = sym (ap (λ c. is_gt (ordering_then c o)) e) ∙ from in cc x))

-- a key between a text and a longer one begins with the text
begins_between : (text key rest : List ℕ) → is_gt (slice_cmp nat_cmp text key) ≡ false → slice_cmp nat_cmp key (text ++ rest) ≡ Less → (more : List ℕ) × (key ≡ text ++ more)
begins_between [] key rest from upto = (key, refl)
begins_between (a ∷ text) [] rest from upto = absurd (let x : true ≡ false = from in cc x)
begins_between (a ∷ text) (b ∷ key) rest from upto =
    let here = level a b (slice_cmp nat_cmp text key) (slice_cmp nat_cmp key (text ++ rest)) from upto in
    let there = begins_between text key rest here.1 here.2 in
    (there.0, ap (λ x. x ∷ key) (sym here.0) ∙ ap (λ xs. a ∷ xs) there.1)

-- a text isn't behind a longer one
not_behind : (text rest : List ℕ) → is_gt (slice_cmp nat_cmp text (text ++ rest)) ≡ false
not_behind [] [] = refl
not_behind [] (x ∷ xs) = refl
not_behind (a ∷ text) rest = ap (λ c. is_gt (ordering_then c (slice_cmp nat_cmp text (text ++ rest)))) (tied_itself nat_cmp_total a) ∙ not_behind text rest

within : (path rest : List ℕ) → path ++ 47 ∷ rest ≡ (path ++ 47 ∷ []) ++ rest
within [] rest = refl
within (x ∷ path) rest = ap (λ xs. x ∷ xs) (within path rest)

-- whether a key isn't before a text, as a range from the text on tests it
abbrev pub is_from : List ℕ → Vec ℕ → Bool
is_from text key = is_le (slice_cmp nat_cmp text key.items) && true

is_from_here : (o : Ordering) → is_gt o ≡ false → (is_le o && true) ≡ true
is_from_here Less h = refl
is_from_here Equal h = refl
is_from_here Greater h = absurd (let x : true ≡ false = h in cc x)

same_key : (key : List ℕ) (k : Vec ℕ) → is_eq (slice_cmp nat_cmp key k.items) ≡ true → key ≡ k.items
same_key key k here = (bytes_decides key k.items).0 (sym (is_eq-slice_cmp key k.items) ∙ here)

-- a look-up of a key that isn't before the text
lookup-from : {X : Type 0} (text key : List ℕ) (entries : List (Vec ℕ × X)) → is_gt (slice_cmp nat_cmp text key) ≡ false
    → lookup (is_at (λ k. slice_cmp nat_cmp key k.items)) (filter (λ e. is_from text e.0) entries) ≡ lookup (is_at (λ k. slice_cmp nat_cmp key k.items)) entries
lookup-from text key entries from =
    lookup-filter-keys (is_at (λ k. slice_cmp nat_cmp key k.items)) (is_from text) true
    (λ k here. subst (λ (bytes : List ℕ). (is_le (slice_cmp nat_cmp text bytes) && true) ≡ true) (same_key key k here) (is_from_here (slice_cmp nat_cmp text key) from))
    entries

keys-filter : {X : Type 0} (p : Vec ℕ → Bool) (entries : List (Vec ℕ × X)) → keys_of (filter (λ e. p e.0) entries) ≡ filter p (keys_of entries)
keys-filter p [] = refl
keys-filter {X} p (e ∷ entries) = keys_if (p e.0) e (filter (λ e. p e.0) entries) (filter p (keys_of entries)) (keys-filter p entries)
  where
    keys_if : (b : Bool) (e : Vec ℕ × X) (rest : List (Vec ℕ × X)) (keys : List (Vec ℕ)) → keys_of rest ≡ keys → keys_of (cond b (e ∷ rest) rest) ≡ cond b (e.0 ∷ keys) keys
    keys_if true e rest keys h = ap (λ ks. e.0 ∷ ks) h
    keys_if false e rest keys h = h

-- what is left of the entries from a directory's text on: in order, each as it is kept, and all that is live below the directory
pub record Rest (slots : Slots) (path : List ℕ) (rest : List (Vec ℕ × Slot)) : Type 0 where
  pub sorted : IsStrictlySortedBy key_cmp (keys_of rest)
  pub behind : All (λ e. is_gt (slice_cmp nat_cmp (path ++ 47 ∷ []) e.0.items) ≡ false) rest
  pub kept : All (λ e. slot_at slots e.0.items ≡ Some e.1) rest
  pub left : (other : List ℕ) → Stands slots other → LiesBelow other path → holds_live (lookup (is_at (λ k. slice_cmp nat_cmp other k.items)) rest) ≡ true

pub begins : (slots : Slots) (path : List ℕ) (from : Vec ℕ) (part : List (Vec ℕ × Slot)) → from.items ≡ path ++ 47 ∷ [] → part ≡ filter (λ e. is_from from.items e.0) slots.slots.entries
    → IsStrictlySortedBy key_cmp (keys_of slots.slots.entries) → All (λ e. is_gt (slice_cmp nat_cmp from.items e.0.items) ≡ false) part → All (λ e. slot_at slots e.0.items ≡ Some e.1) part → Rest slots path part
begins slots path from part text is sorted behind kept = record {
  sorted = subst (IsStrictlySortedBy key_cmp) (sym (ap keys_of is ∙ keys-filter (is_from from.items) slots.slots.entries)) (IsStrictlySortedBy-filter key_cmp (is_from from.items) (keys_of slots.slots.entries) sorted);
  behind = subst (λ (bytes : List ℕ). All (λ (e : Vec ℕ × Slot). is_gt (slice_cmp nat_cmp bytes e.0.items) ≡ false) part) text behind;
  kept = kept;
  left = λ other live below.
      let from_here : is_gt (slice_cmp nat_cmp from.items other) ≡ false =
      ap (λ bytes. is_gt (slice_cmp nat_cmp bytes other)) text ∙ ap (λ bytes. is_gt (slice_cmp nat_cmp (path ++ 47 ∷ []) bytes)) (below.1 ∙ within path below.0) ∙ not_behind (path ++ 47 ∷ []) below.0 in
      ap holds_live (ap (lookup (is_at (λ k. slice_cmp nat_cmp other k.items))) is ∙ lookup-from from.items other slots.slots.entries from_here) ∙ live;
}

-- past an entry that isn't live
pub goes_on : (slots : Slots) (path : List ℕ) (e : Vec ℕ × Slot) (rest : List (Vec ℕ × Slot)) → Rest slots path (e ∷ rest) → is_live e.1 ≡ false → Rest slots path rest
goes_on slots path e rest r dead = record {
  sorted = sorted_tail key_cmp e.0 (keys_of rest) r.sorted;
  behind = All-tail (λ e. is_gt (slice_cmp nat_cmp (path ++ 47 ∷ []) e.0.items) ≡ false) e rest r.behind;
  kept = All-tail (λ e. slot_at slots e.0.items ≡ Some e.1) e rest r.kept;
  left = λ other live below. live_later (is_eq (slice_cmp nat_cmp other e.0.items)) e.1 (lookup (is_at (λ k. slice_cmp nat_cmp other k.items)) rest) dead (r.left other live below);
}
  where
    live_later : (b : Bool) (slot : Slot) (later : Option Slot) → is_live slot ≡ false → holds_live (cond b (Some slot) later) ≡ true → holds_live later ≡ true
    live_later true slot later dead live = absurd (let x : false ≡ true = sym dead ∙ live in cc x)
    live_later false slot later dead live = live

-- what a look-up finds behind a key is greater
after : (first : Vec ℕ) (other : List ℕ) (rest : List (Vec ℕ × Slot)) → AllByRecursion (λ k. key_cmp first k ≡ Less) (keys_of rest)
    → holds_live (lookup (is_at (λ k. slice_cmp nat_cmp other k.items)) rest) ≡ true → slice_cmp nat_cmp first.items other ≡ Less
after first other [] all live = absurd (let x : false ≡ true = live in cc x)
after first other (e ∷ rest) all live = elim (cases_Bool (is_eq (slice_cmp nat_cmp other e.0.items))) [
  | inl y ↦ subst (λ (bytes : List ℕ). slice_cmp nat_cmp first.items bytes ≡ Less) (sym (same_key other e.0 y)) all.0
  | inr n ↦ after first other rest all.1 (sym (ap holds_live (cond-false (is_eq (slice_cmp nat_cmp other e.0.items)) (Some e.1) (lookup (is_at (λ k. slice_cmp nat_cmp other k.items)) rest) n)) ∙ live)
]

-- at an entry that doesn't lie below the directory nothing live is left
pub stops : (slots : Slots) (path : List ℕ) (e : Vec ℕ × Slot) (rest : List (Vec ℕ × Slot)) → Rest slots path (e ∷ rest) → (LiesBelow e.0.items path → ⊥)
    → (other : List ℕ) → Stands slots other → LiesBelow other path → ⊥
stops slots path e rest r off other live below = elim (cases_Bool (is_eq (slice_cmp nat_cmp other e.0.items))) [
  | inl y ↦ off (subst (λ (bytes : List ℕ). LiesBelow bytes path) (same_key other e.0 y) below)
  | inr n ↦
      let later : holds_live (lookup (is_at (λ k. slice_cmp nat_cmp other k.items)) rest) ≡ true =
      sym (ap holds_live (cond-false (is_eq (slice_cmp nat_cmp other e.0.items)) (Some e.1) (lookup (is_at (λ k. slice_cmp nat_cmp other k.items)) rest) n)) ∙ r.left other live below in
      let less : slice_cmp nat_cmp e.0.items ((path ++ 47 ∷ []) ++ below.0) ≡ Less =
      ap (slice_cmp nat_cmp e.0.items) (sym (below.1 ∙ within path below.0)) ∙ after e.0 other rest (sorted_head key_cmp e.0 (keys_of rest) r.sorted) later in
      let more = begins_between (path ++ 47 ∷ []) e.0.items below.0 (All-head (λ e. is_gt (slice_cmp nat_cmp (path ++ 47 ∷ []) e.0.items) ≡ false) e rest r.behind) less in
      off (more.0, more.1 ∙ sym (within path more.0))
]

-- where no entry is left nothing live is
pub ends : (slots : Slots) (path other : List ℕ) → Rest slots path [] → Stands slots other → LiesBelow other path → ⊥
ends slots path other r live below = let x : false ≡ true = r.left other live below in cc x

-- a live entry below the directory
pub found : (slots : Slots) (path : List ℕ) (e : Vec ℕ × Slot) (rest : List (Vec ℕ × Slot)) → Rest slots path (e ∷ rest) → is_live e.1 ≡ true → Stands slots e.0.items
found slots path e rest r live = ap holds_live (All-head (λ e. slot_at slots e.0.items ≡ Some e.1) e rest r.kept) ∙ live
