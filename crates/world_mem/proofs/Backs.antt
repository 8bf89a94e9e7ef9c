-- A change, taken back, gives what was before it.
use Rattle.std.proofs.Common.{◌≡◌, ◌∙◌, sym, refl, ap, inl, inr, arith, ℕ, suc, List, [], ◌∷◌, ◌++◌, ◌-◌, ◌<◌, Bool, true, false, cond, not, ◌&&◌, ◌||◌, Option, Some, None, Contains, length, take, drop, map, get_or, reverse, length-append, insert}
use Rattle.std.specs.List.{remove}
use Rattle.std.specs.Str.{bytes_eq}
use Rattle.std.specs.Option.{option_map}
use Rattle.std.specs.Cmp.Lexicographic.{bytes_decides}
use Rattle.std.proofs.lemmas.Bool.{cases_Bool}
use Rattle.std.proofs.lemmas.List.{take_at, drop_at, take_all, map-append, length-take-le, length-map, reverse-append}
use Rattle.world_api.specs.Around.{Around}
use Rattle.world_mem.specs.InSlots.{file_of, content_of, stamp_at, stamp_in, taken, emptied, marked}
use Rattle.world_mem.specs.Past.{Course, before, before_by}
use Rattle.world_mem.specs.Standing.{is_in}
use Rattle.world_mem.specs.Undone.{undone, content_if, number_if, without_dirs, without_last}
use Rattle.world_mem.specs.declared.past.Change.{Change}
use Rattle.world_mem.specs.declared.slots.File.{File}
use Rattle.world_mem.specs.declared.slots.Slot.{Slot}
use Rattle.world_mem.specs.declared.slots.Slot.TheVariants as slot
use Rattle.world_mem.proofs.Marks.{marked-absent}
use Rattle.world_mem.proofs.Membership.{parted}
use Rattle.world_mem.proofs.Owners.{marked-where}
use Rattle.world_mem.proofs.Raised.{in_list, list_in}

-- two states are one where each part is the same
pub same_around : (a b : Around) → ((p : List ℕ) → a.tree p ≡ b.tree p) → ((d : List ℕ) → a.dirs d ≡ b.dirs d) → ((p : List ℕ) → a.stamps p ≡ b.stamps p)
    → a.running ≡ b.running → a.log ≡ b.log → a.met ≡ b.met → a.law ≡ b.law → a.top ≡ b.top → a ≡ b
same_around a b tree dirs stamps running log met law top = λ i. record {
  tree = λ p. tree p i;
  dirs = λ d. dirs d i;
  stamps = λ p. stamps p i;
  running = running i;
  log = log i;
  met = met i;
  law = law i;
  top = top i;
}

-- one change more
pub pushed : (around : Around) (changes : List Change) (change : Change) (old : Course) → reverse changes ≡ change ∷ old.changes → undone change around ≡ old.around
    → before (record { around = around; changes = reverse changes }) ≡ old
pushed around changes change old newest back =
    ap (λ l. before_by l (record { around = around; changes = l })) newest ∙ (λ i. record { around = back i; changes = old.changes })

pub newest : (old : List Change) (change : Change) → reverse (old ++ change ∷ []) ≡ change ∷ reverse old
newest old change = reverse-append old (change ∷ [])

-- a file that was taken away
module _ (path : List ℕ) (file : File) (old new : List ℕ → Option Slot) (slots : (o : List ℕ) → new o ≡ taken path o (old o)) (is : file_of (old path) ≡ Some file) (name : file.name ≡ path) where
  here : (p : List ℕ) → bytes_eq file.name p ≡ true → path ≡ p
  here p y = sym name ∙ (bytes_decides file.name p).0 y

  there : (p : List ℕ) → bytes_eq file.name p ≡ false → new p ≡ old p
  there p n = slots p ∙ ap (λ b. cond b (emptied (old p)) (old p)) (ap (λ at. bytes_eq at p) (sym name) ∙ n)

  pub file_back : (p : List ℕ) → content_if (bytes_eq file.name p) (Some file.bytes) (content_of (new p)) ≡ content_of (old p)
  file_back p = elim (cases_Bool (bytes_eq file.name p)) [
    | inl y ↦ ap (λ b. content_if b (Some file.bytes) (content_of (new p))) y ∙ sym (ap (option_map (λ (f : File). f.bytes)) is) ∙ ap (λ at. content_of (old at)) (here p y)
    | inr n ↦ ap (λ b. content_if b (Some file.bytes) (content_of (new p))) n ∙ ap content_of (there p n)
  ]

  pub stamp_back : (p : List ℕ) → number_if (bytes_eq file.name p) file.stamp (stamp_at (new p)) ≡ stamp_at (old p)
  stamp_back p = elim (cases_Bool (bytes_eq file.name p)) [
    | inl y ↦ ap (λ b. number_if b file.stamp (stamp_at (new p))) y ∙ sym (ap stamp_in is) ∙ ap (λ at. stamp_at (old at)) (here p y)
    | inr n ↦ ap (λ b. number_if b file.stamp (stamp_at (new p))) n ∙ ap stamp_at (there p n)
  ]

-- directories that came to stand
pub dirs_back : (fresh : List (List ℕ)) (old new : List ℕ → Bool) → ((d : List ℕ) → new d ≡ (is_in fresh d || old d)) → ((d : List ℕ) → Contains fresh d → old d ≡ false)
    → (d : List ℕ) → without_dirs fresh new d ≡ old d
dirs_back fresh old new raised absent d = elim (cases_Bool (is_in fresh d)) [
  | inl y ↦ ap (λ b. not b && new d) y ∙ sym (absent d (in_list fresh d y))
  | inr n ↦ ap (λ b. not b && new d) n ∙ raised d ∙ ap (λ b. b || old d) n
]

pub last_back : {X : Type 0} (xs : List X) (x : X) → without_last 1 (xs ++ x ∷ []) ≡ xs
last_back xs x = take_at xs (x ∷ []) (length (xs ++ x ∷ []) - 1) (let e = length-append xs (x ∷ []) in omega (arith, e))

pub met_back : (xs ys : List (List ℕ)) (n : ℕ) → length ys ≡ n → without_last n (xs ++ ys) ≡ xs
met_back xs ys n is = take_at xs ys (length (xs ++ ys) - n) (let e = length-append xs ys in omega (arith, e, is))

pub none_back : (xs : List (List ℕ)) (n : ℕ) → n ≡ 0 → without_last n xs ≡ xs
none_back xs n is = take_all (length xs - n) xs (omega (arith, is))

-- the job that ended, back at its place
pub job_back : {X Y : Type 0} (f : X → Y) (xs : List X) (k : ℕ) (x : X) → k < length xs → x ≡ get_or xs k x → insert (map f (remove xs k)) k (f x) ≡ map f xs
job_back f xs k x lt is =
    let front = take k xs in let back = drop (suc k) xs in
    let size : length (map f front) ≡ k = length-map front f ∙ length-take-le k xs (omega (arith, lt)) in
    let split : map f (remove xs k) ≡ map f front ++ map f back = map-append f front back in
    ap (λ l. insert l k (f x)) split
    ∙ ap (λ l. l ++ f x ∷ drop k (map f front ++ map f back)) (take_at (map f front) (map f back) k size)
    ∙ ap (λ l. map f front ++ f x ∷ l) (drop_at (map f front) (map f back) k size)
    ∙ sym (map-append f front (x ∷ back))
    ∙ ap (map f) (sym (parted xs k x lt is))

-- the targets of a job that ended
pub target_back : (targets : List (List ℕ)) (old new : List ℕ → Option Slot) → ((p : List ℕ) → Contains targets p → (id : ℕ) × (old p ≡ Some (slot.Running id))) → ((p : List ℕ) → (Contains targets p → ⊥) → new p ≡ old p)
    → (p : List ℕ) → content_if (is_in targets p) None (content_of (new p)) ≡ content_of (old p)
target_back targets old new own others p = elim (cases_Bool (is_in targets p)) [
  | inl y ↦ ap (λ b. content_if b None (content_of (new p))) y ∙ sym (ap content_of (own p (in_list targets p y)).1)
  | inr n ↦ ap (λ b. content_if b None (content_of (new p))) n ∙ ap content_of (others p (λ h. let e : true ≡ false = sym (list_in targets p h) ∙ n in cc e))
]

pub target_stamp_back : (targets : List (List ℕ)) (old new : List ℕ → Option Slot) → ((p : List ℕ) → Contains targets p → (id : ℕ) × (old p ≡ Some (slot.Running id))) → ((p : List ℕ) → (Contains targets p → ⊥) → new p ≡ old p)
    → (p : List ℕ) → number_if (is_in targets p) 0 (stamp_at (new p)) ≡ stamp_at (old p)
target_stamp_back targets old new own others p = elim (cases_Bool (is_in targets p)) [
  | inl y ↦ ap (λ b. number_if b 0 (stamp_at (new p))) y ∙ sym (ap stamp_at (own p (in_list targets p y)).1)
  | inr n ↦ ap (λ b. number_if b 0 (stamp_at (new p))) n ∙ ap stamp_at (others p (λ h. let e : true ≡ false = sym (list_in targets p h) ∙ n in cc e))
]

file_none : (o : Option Slot) → content_of o ≡ None → file_of o ≡ None
file_none o is = none_map (file_of o) is
  where
    none_map : (f : Option File) → option_map (λ (g : File). g.bytes) f ≡ None → f ≡ None
    none_map None h = refl
    none_map (Some g) h = absurd (let e : Some g.bytes ≡ None = h in cc e)

-- the targets of a job that started
module _ (targets : List (List ℕ)) (id : ℕ) (old new : List ℕ → Option Slot) (slots : (p : List ℕ) → new p ≡ marked targets (slot.Running id) p (old p)) (clear : (p : List ℕ) → Contains targets p → content_of (old p) ≡ None) where
  marked_none : (p : List ℕ) → Contains targets p → content_of (new p) ≡ None
  marked_none p own = ap content_of (slots p) ∙ marked-absent targets (slot.Running id) p (old p) refl own.0 own.1 own.2

  pub started_back : (p : List ℕ) → content_of (new p) ≡ content_of (old p)
  started_back p = elim (marked-where targets (slot.Running id) p (old p)) [
    | inl same ↦ ap content_of (slots p ∙ same)
    | inr own ↦ marked_none p own ∙ sym (clear p own)
  ]

  pub started_stamp_back : (p : List ℕ) → stamp_at (new p) ≡ stamp_at (old p)
  started_stamp_back p = elim (marked-where targets (slot.Running id) p (old p)) [
    | inl same ↦ ap stamp_at (slots p ∙ same)
    | inr own ↦ ap stamp_in (file_none (new p) (marked_none p own)) ∙ sym (ap stamp_in (file_none (old p) (clear p own)))
  ]

-- a course whose parts are the same
pub same_course : (a b : Course) → a.around ≡ b.around → a.changes ≡ b.changes → a ≡ b
same_course a b is same = λ i. record { around = is i; changes = same i }
