-- Directories that come to stand.
use Rattle.std.proofs.Common.{◌≡◌, ◌∙◌, ◌⊎◌, ◌↔◌, sym, refl, ap, inl, inr, ℕ, suc, zero, arith, subst, ◌+◌, List, [], ◌∷◌, ◌++◌, ◌<◌, Bool, true, false, cond, not, ◌||◌, ◌&&◌, Option, IsSome, Contains, length, take, drop, get_or}
use Rattle.std.specs.List.{starts_with}
use Rattle.std.specs.Str.{bytes_eq}
use Rattle.std.specs.Cmp.Lexicographic.{bytes_decides}
use Rattle.std.proofs.lemmas.Bool.{cases_Bool}
use Rattle.std.proofs.lemmas.Bool.Decides.{Decides-eqb}
use Rattle.std.proofs.lemmas.List.{take-append-drop, take_more}
use Rattle.std.proofs.lemmas.Map.Views.{Contains-from_any}
use Rattle.std.proofs.Math.Seq.{drop-append_seam}
use Rattle.scons_base.specs.Normal.{is_top, is_root}
use Rattle.std.specs.Prelude.{nat_eq}
use Rattle.scons_base.specs.Parts.{is_absolute, is_below, lies_in}
use Rattle.world_api.specs.Calls.{GainsDirs}
use Rattle.world_api.specs.declared.job.Job.{Job}
use Rattle.world_mem.specs.declared.dirs.Dirs.{Dirs}
use Rattle.std.proofs.lemmas.List.Elements.{Contains-append_cases, Contains-append_left, Contains-push}
use Rattle.world_mem.specs.Blocked.{LiesBelow, HasBelow, HasFile}
use Rattle.world_mem.specs.InSlots.{slot_at, holds_live, marked}
use Rattle.world_mem.specs.Standing.{is_always, is_dir, is_in}
use Rattle.world_mem.specs.declared.slots.Slot.{Slot}
use Rattle.world_mem.specs.declared.slots.Slot.TheVariants.{Running}
use Rattle.world_mem.proofs.Below.{front_of_below}
use Rattle.world_mem.proofs.Marks.{marked-on, marked-off}
use Rattle.world_mem.proofs.Owners.{any_of}

pub in_list : (paths : List (List ℕ)) (path : List ℕ) → is_in paths path ≡ true → Contains paths path
in_list paths path is = Contains-from_any (λ x y. (bytes_decides x y).0) path paths is

pub list_in : (paths : List (List ℕ)) (path : List ℕ) → Contains paths path → is_in paths path ≡ true
list_in paths path here = any_of (bytes_eq path) paths path here ((bytes_decides path path).1 refl)

or_cases : (a b : Bool) → (a || b) ≡ true → (a ≡ true) ⊎ (b ≡ true)
or_cases true b h = inl refl
or_cases false b h = inr h

or_true : (a : Bool) → (a || true) ≡ true
or_true true = refl
or_true false = refl

pub or_left : (a b : Bool) → a ≡ true → (a || b) ≡ true
or_left true b h = refl
or_left false b h = absurd (cc h)

pub or_right : (a b : Bool) → b ≡ true → (a || b) ≡ true
or_right true b h = refl
or_right false b h = h

not_left : (a b : Bool) → (a || b) ≡ false → a ≡ false
not_left true b h = absurd (cc h)
not_left false b h = refl

not_right : (a b : Bool) → (a || b) ≡ false → b ≡ false
not_right true b h = absurd (cc h)
not_right false b h = h

-- two tests that hold of the same are one
pub same_test : (a b : Bool) → (a ≡ true → b ≡ true) → (b ≡ true → a ≡ true) → a ≡ b
same_test true true f g = refl
same_test true false f g = sym (f refl)
same_test false true f g = g refl
same_test false false f g = refl

-- the directories after some are raised
pub raised_dirs : (fresh : List (List ℕ)) (dir : List ℕ) (old : Option Slot) → ((k : ℕ) → k < length fresh → get_or fresh k dir ≡ dir → IsSome old)
    → (is_always dir || holds_live (marked fresh (Running 0) dir old)) ≡ (is_in fresh dir || (is_always dir || holds_live old))
raised_dirs fresh dir old places = elim (cases_Bool (is_in fresh dir)) [
  | inl y ↦ let here = in_list fresh dir y in
      ap (λ slot. is_always dir || holds_live slot) (marked-on fresh (Running 0) dir old here.0 here.1 here.2 (places here.0 here.1 here.2))
      ∙ or_true (is_always dir) ∙ sym (or_left (is_in fresh dir) (is_always dir || holds_live old) y)
  | inr n ↦
      ap (λ slot. is_always dir || holds_live slot) (marked-off fresh (Running 0) dir old (λ here. let e : true ≡ false = sym (list_in fresh dir here) ∙ n in cc e))
      ∙ sym (ap (λ b. b || (is_always dir || holds_live old)) n)
]

absolute_is : (bytes : List ℕ) → is_absolute bytes ≡ true → (rest : List ℕ) × (bytes ≡ 47 ∷ rest)
absolute_is [] h = absurd (cc h)
absolute_is (b ∷ bs) h = (bs, ap (λ x. x ∷ bs) ((Decides-eqb b 47).0 h))

and_left : (a b : Bool) → (a && b) ≡ true → a ≡ true
and_left true b h = refl
and_left false b h = h

and_right : (a b : Bool) → (a && b) ≡ true → b ≡ true
and_right true b h = h
and_right false b h = absurd (cc h)

and_both : (a b : Bool) → a ≡ true → b ≡ true → (a && b) ≡ true
and_both true b p q = q
and_both false b p q = absurd (cc p)

-- the test of lying below, for a directory that isn't the top or the root
below_test : (path dir : List ℕ) → is_top dir ≡ false → is_root dir ≡ false → is_below path dir ≡ (starts_with nat_eq path dir && is_absolute (drop (length dir) path))
below_test path dir top root =
    ap (λ b. cond b (not (is_absolute path || is_top path)) (cond (is_root dir) (is_absolute path && not (is_root path)) (starts_with nat_eq path dir && is_absolute (drop (length dir) path)))) top
    ∙ ap (λ b. cond b (is_absolute path && not (is_root path)) (starts_with nat_eq path dir && is_absolute (drop (length dir) path))) root

off_top : (dir : List ℕ) → is_always dir ≡ false → is_top dir ≡ false
off_top dir off = not_left (is_top dir) (is_root dir) (not_left (is_top dir || is_root dir) _ off)

off_root : (dir : List ℕ) → is_always dir ≡ false → is_root dir ≡ false
off_root dir off = not_right (is_top dir) (is_root dir) (not_left (is_top dir || is_root dir) _ off)

pub below_is : (path dir : List ℕ) → is_always dir ≡ false → is_below path dir ≡ true → LiesBelow path dir
below_is path dir off h =
    let test = sym (below_test path dir (off_top dir off) (off_root dir off)) ∙ h in
    let starts = (bytes_decides dir (take (length dir) path)).0 (and_left (starts_with nat_eq path dir) (is_absolute (drop (length dir) path)) test) in
    let rest = absolute_is (drop (length dir) path) (and_right (starts_with nat_eq path dir) (is_absolute (drop (length dir) path)) test) in
    (rest.0, sym (take-append-drop (length dir) path) ∙ ap (λ front. front ++ drop (length dir) path) (sym starts) ∙ ap (λ back. dir ++ back) rest.1)

pub is_below_of : (path dir : List ℕ) → is_always dir ≡ false → LiesBelow path dir → is_below path dir ≡ true
is_below_of path dir off below =
    below_test path dir (off_top dir off) (off_root dir off)
    ∙ and_both (starts_with nat_eq path dir) (is_absolute (drop (length dir) path))
    ((bytes_decides dir (take (length dir) path)).1 (sym (front_of_below path dir below)))
    (ap is_absolute (ap (drop (length dir)) below.1 ∙ drop-append_seam dir (47 ∷ below.0)))

-- a directory that is made: those that came to stand are those that it lies in
pub made_dirs : (path : List ℕ) (fresh : List (List ℕ)) (old new : List ℕ → Bool) → ((d : List ℕ) → old d ≡ false → is_always d ≡ false) → ((d : List ℕ) → new d ≡ (is_in fresh d || old d))
    → ((d : List ℕ) → Contains fresh d ↔ (((path ≡ d) ⊎ LiesBelow path d) × (old d ≡ false))) → (d : List ℕ) → new d ≡ (lies_in path d || old d)
made_dirs path fresh old new always raised each d = elim (cases_Bool (old d)) [
  | inl y ↦ raised d ∙ or_right (is_in fresh d) (old d) y ∙ sym (or_right (lies_in path d) (old d) y)
  | inr n ↦
      let same : is_in fresh d ≡ lies_in path d = same_test (is_in fresh d) (lies_in path d)
      (λ y. elim ((each d).0 (in_list fresh d y)).0 [
        | inl is ↦ or_left (bytes_eq path d) (is_below path d) ((bytes_decides path d).1 is)
        | inr below ↦ or_right (bytes_eq path d) (is_below path d) (is_below_of path d (always d n) below)
      ])
      (λ y. list_in fresh d ((each d).1 (
        elim (or_cases (bytes_eq path d) (is_below path d) y) [
          | inl is ↦ inl ((bytes_decides path d).0 is)
          | inr below ↦ inr (below_is path d (always d n) below)
        ],
        n,
      ))) in
      raised d ∙ ap (λ b. is_in fresh d || b) n ∙ ap (λ t. t || false) same ∙ sym (ap (λ b. lies_in path d || b) n)
]

-- directories that come to stand above the targets of a job
pub gained_dirs : (job : Job) (fresh : List (List ℕ)) (old new : List ℕ → Bool) → ((d : List ℕ) → old d ≡ false → is_always d ≡ false) → ((d : List ℕ) → new d ≡ (is_in fresh d || old d))
    → ((d : List ℕ) → Contains fresh d → ((target : List ℕ) × Contains job.targets target × LiesBelow target d) × (old d ≡ false)) → GainsDirs job old new
gained_dirs job fresh old new always raised each d = elim (cases_Bool (is_in fresh d)) [
  | inl y ↦ let h = each d (in_list fresh d y) in
      inr (raised d ∙ or_left (is_in fresh d) (old d) y, h.0.0, h.0.1, is_below_of h.0.0 d (always d h.1) h.0.2)
  | inr n ↦ inl (raised d ∙ ap (λ b. b || old d) n)
]

-- what doesn't stand is none that stands always
pub not_always : (dirs : Dirs) (d : List ℕ) → is_dir dirs d ≡ false → is_always d ≡ false
not_always dirs d h = not_left (is_always d) (holds_live (slot_at dirs.slots d)) h

-- directories that come to stand: all that were wanted and didn't stand
pub raised_by : (wanted : List ℕ → Type 0) (fresh : List (List ℕ)) (old new : List ℕ → Bool) → ((d : List ℕ) → new d ≡ (is_in fresh d || old d))
    → ((d : List ℕ) → Contains fresh d ↔ (wanted d × (old d ≡ false))) → (d : List ℕ) → (new d ≡ true) ↔ ((old d ≡ true) ⊎ wanted d)
raised_by wanted fresh old new raised each d = (
  λ y. elim (or_cases (is_in fresh d) (old d) (sym (raised d) ∙ y)) [
    | inl h ↦ inr ((each d).0 (in_list fresh d h)).0
    | inr h ↦ inl h
  ],
  λ h. raised d ∙ elim h [
    | inl y ↦ or_right (is_in fresh d) (old d) y
    | inr want ↦ elim (cases_Bool (old d)) [
      | inl y ↦ or_right (is_in fresh d) (old d) y
      | inr n ↦ or_left (is_in fresh d) (old d) (list_in fresh d ((each d).1 (want, n)))
    ]
  ],
)

-- the first files, and one more: what lies above one of them
pub below_more : (files : List (List ℕ × List ℕ)) (k : ℕ) (file : List ℕ × List ℕ) (dir : List ℕ) → k < length files → get_or files k file ≡ file
    → HasBelow (HasFile (take (k + 1) files)) dir ↔ (HasBelow (HasFile (take k files)) dir ⊎ LiesBelow file.0 dir)
below_more files k file dir lt is =
    let more : take (k + 1) files ≡ take k files ++ file ∷ [] = take_more files k file lt ∙ ap (λ (f : List ℕ × List ℕ). take k files ++ f ∷ []) is in (
      λ h. elim (Contains-append_cases (take k files) (file ∷ []) (h.0, h.1.0) (subst (λ (l : List (List ℕ × List ℕ)). Contains l (h.0, h.1.0)) more h.1.1)) [
        | inl before ↦ inl (h.0, (h.1.0, before), h.2)
        | inr this ↦ inr (subst (λ (path : List ℕ). LiesBelow path dir) (ap (λ (f : List ℕ × List ℕ). f.0) (sym (the_one file (h.0, h.1.0) this))) h.2)
      ],
      λ h. elim h [
        | inl before ↦ (before.0, (before.1.0, subst (λ (l : List (List ℕ × List ℕ)). Contains l (before.0, before.1.0)) (sym more) (Contains-append_left (take k files) (file ∷ []) (before.0, before.1.0) before.1.1)), before.2)
        | inr below ↦ (file.0, (file.1, subst (λ (l : List (List ℕ × List ℕ)). Contains l file) (sym more) (Contains-push (take k files) file)), below)
      ],
    )
  where
    the_one : (x y : List ℕ × List ℕ) → Contains (x ∷ []) y → x ≡ y
    the_one x y (zero, lt, at) = at
    the_one x y (suc n, lt, at) = absurd (omega (arith, lt))

-- none of no files lies below a directory
pub below_none : (files : List (List ℕ × List ℕ)) (dir : List ℕ) → HasBelow (HasFile (take 0 files)) dir → ⊥
below_none [] dir h = omega (arith, h.1.1.1)
below_none (file ∷ files) dir h = omega (arith, h.1.1.1)
