-- Directories that don't stand yet, as they are gathered.
use Rattle.std.proofs.Common.{◌≡◌, ◌∙◌, ◌⊎◌, ◌↔◌, sym, ap, subst, inl, inr, arith, ℕ, List, [], ◌∷◌, ◌++◌, ◌+◌, ◌<◌, Bool, true, false, Contains, length, take, get_or}
use Rattle.std.proofs.lemmas.List.{take_more}
use Rattle.std.proofs.lemmas.List.Elements.{Contains-push, Contains-push_cases, Contains-append_left}
use Rattle.world_mem.specs.Blocked.{LiesBelow}
use Rattle.world_mem.proofs.Below.{above, above_at}
use Rattle.world_mem.proofs.Membership.{below_or_not}

-- a path is added that doesn't stand
pub added : (isdir : List ℕ → Bool) (old new : List (List ℕ)) (dir path : List ℕ) → new ≡ old ++ path ∷ [] → path ≡ dir → isdir dir ≡ false
    → (other : List ℕ) → Contains new other ↔ (Contains old other ⊎ ((dir ≡ other) × (isdir other ≡ false)))
added isdir old new dir path is same absent other = (
  λ h. elim (Contains-push_cases old path other (subst (λ (l : List (List ℕ)). Contains l other) is h)) [
    | inl before ↦ inl before
    | inr e ↦ let here : dir ≡ other = sym same ∙ e in inr (here, subst (λ (p : List ℕ). isdir p ≡ false) here absent)
  ],
  λ h. elim h [
    | inl before ↦ subst (λ (l : List (List ℕ)). Contains l other) (sym is) (Contains-append_left old (path ∷ []) other before)
    | inr e ↦ subst (λ (l : List (List ℕ)). Contains l other) (sym is) (subst (λ (p : List ℕ). Contains (old ++ path ∷ []) p) (same ∙ e.0) (Contains-push old path))
  ],
)

-- none is added where it stands
pub not_added : (isdir : List ℕ → Bool) (old : List (List ℕ)) (dir : List ℕ) → isdir dir ≡ true
    → (other : List ℕ) → Contains old other ↔ (Contains old other ⊎ ((dir ≡ other) × (isdir other ≡ false)))
not_added isdir old dir stands other = (
  λ h. inl h,
  λ h. elim h [
    | inl before ↦ before
    | inr e ↦ absurd (let x : true ≡ false = sym stands ∙ ap isdir e.0 ∙ e.1 in cc x)
  ],
)

-- those above a path, and the path
pub both_added : (old mid new : List (List ℕ)) (path dir : List ℕ) (absent : Type 0) → (Contains mid dir ↔ (Contains old dir ⊎ (LiesBelow path dir × absent))) → (Contains new dir ↔ (Contains mid dir ⊎ ((path ≡ dir) × absent)))
    → Contains new dir ↔ (Contains old dir ⊎ (((path ≡ dir) ⊎ LiesBelow path dir) × absent))
both_added old mid new path dir absent first second = (
  λ h. elim (second.0 h) [
    | inl m ↦ elim (first.0 m) [ inl o ↦ inl o | inr b ↦ inr (inr b.0, b.1) ]
    | inr e ↦ inr (inl e.0, e.1)
  ],
  λ h. elim h [
    | inl o ↦ second.1 (inl (first.1 (inl o)))
    | inr b ↦ elim b.0 [ inl e ↦ second.1 (inr (e, b.1)) | inr below ↦ second.1 (inl (first.1 (inr (below, b.1)))) ]
  ],
)

-- a directory in front of a slash before a place
abbrev pub IsFront : List ℕ → ℕ → List ℕ → Type 0
IsFront bytes place dir = (k : ℕ) × (k < place) × (get_or bytes k 0 ≡ 47) × (take k bytes ≡ dir)

pub at_slash : (bytes : List ℕ) (place : ℕ) (old mid new : List (List ℕ)) (dir : List ℕ) (absent : Type 0) → get_or bytes place 0 ≡ 47 → (Contains mid dir ↔ (Contains old dir ⊎ (IsFront bytes place dir × absent))) → (Contains new dir ↔ (Contains mid dir ⊎ ((take place bytes ≡ dir) × absent)))
    → Contains new dir ↔ (Contains old dir ⊎ (IsFront bytes (place + 1) dir × absent))
at_slash bytes place old mid new dir absent slash first second = (
  λ h. elim (second.0 h) [
    | inl m ↦ elim (first.0 m) [ inl o ↦ inl o | inr b ↦ inr ((b.0.0, omega (arith, b.0.1), b.0.2, b.0.3), b.1) ]
    | inr e ↦ inr ((place, omega arith, slash, e.0), e.1)
  ],
  λ h. elim h [
    | inl o ↦ second.1 (inl (first.1 (inl o)))
    | inr b ↦ elim (below_or_not b.0.0 place) [
      | inl earlier ↦ second.1 (inl (first.1 (inr ((b.0.0, earlier, b.0.2, b.0.3), b.1))))
      | inr late ↦ let same : b.0.0 ≡ place = omega (arith, late, b.0.1) in second.1 (inr (ap (λ k. take k bytes) (sym same) ∙ b.0.3, b.1))
    ]
  ],
)

pub at_other : (bytes : List ℕ) (place : ℕ) (old mid : List (List ℕ)) (dir : List ℕ) (absent : Type 0) → (get_or bytes place 0 ≡ 47 → ⊥) → (Contains mid dir ↔ (Contains old dir ⊎ (IsFront bytes place dir × absent)))
    → Contains mid dir ↔ (Contains old dir ⊎ (IsFront bytes (place + 1) dir × absent))
at_other bytes place old mid dir absent other first = (
  λ h. elim (first.0 h) [ inl o ↦ inl o | inr b ↦ inr ((b.0.0, omega (arith, b.0.1), b.0.2, b.0.3), b.1) ],
  λ h. elim h [
    | inl o ↦ first.1 (inl o)
    | inr b ↦ elim (below_or_not b.0.0 place) [
      | inl earlier ↦ first.1 (inr ((b.0.0, earlier, b.0.2, b.0.3), b.1))
      | inr late ↦ let same : b.0.0 ≡ place = omega (arith, late, b.0.1) in absurd (other (ap (λ k. get_or bytes k 0) (sym same) ∙ b.0.2))
    ]
  ],
)

-- at the end they are those that the path lies below
pub all_fronts : (bytes path : List ℕ) (place : ℕ) (old new : List (List ℕ)) (dir : List ℕ) (absent : Type 0) → bytes ≡ path → length bytes ≡ place → (Contains new dir ↔ (Contains old dir ⊎ (IsFront bytes place dir × absent)))
    → Contains new dir ↔ (Contains old dir ⊎ (LiesBelow path dir × absent))
all_fronts bytes path place old new dir absent same size each =
    subst (λ (p : List ℕ). Contains new dir ↔ (Contains old dir ⊎ (LiesBelow p dir × absent))) same (
      λ h. elim (each.0 h) [
        | inl o ↦ inl o
        | inr b ↦ let lt : b.0.0 < length bytes = omega (arith, size, b.0.1) in inr (subst (λ (d : List ℕ). LiesBelow bytes d) b.0.3 (above bytes b.0.0 lt b.0.2), b.1)
      ],
      λ h. each.1 (elim h [
        | inl o ↦ inl o
        | inr b ↦ let at = above_at bytes dir b.0 in inr ((length dir, omega (arith, size, at.0), at.1, at.2), b.1)
      ]),
    )

-- what is gathered from nothing on
pub from_nothing : (old new : List (List ℕ)) (dir : List ℕ) (X : Type 0) → old ≡ [] → (Contains new dir ↔ (Contains old dir ⊎ X)) → Contains new dir ↔ X
from_nothing old new dir X none each = (
  λ h. elim (each.0 h) [
    | inl o ↦ absurd (let at : Contains [] dir = subst (λ (l : List (List ℕ)). Contains l dir) none o in let lt : at.0 < 0 = at.1 in omega (arith, lt))
    | inr x ↦ x
  ],
  λ x. each.1 (inr x),
)

-- one of these paths lies below a directory
abbrev pub SomeBelow : List (List ℕ) → List ℕ → Type 0
SomeBelow paths dir = (path : List ℕ) × Contains paths path × LiesBelow path dir

pub none_gathered : (old : List (List ℕ)) (dir : List ℕ) (absent : Type 0) → old ≡ [] → Contains old dir ↔ (SomeBelow [] dir × absent)
none_gathered old dir absent none = (
  λ h. absurd (let at : Contains [] dir = subst (λ (l : List (List ℕ)). Contains l dir) none h in let lt : at.0 < 0 = at.1 in omega (arith, lt)),
  λ h. absurd (let lt : h.0.1.0 < 0 = h.0.1.1 in omega (arith, lt)),
)

-- those above one path more are gathered
pub one_more : (paths : List (List ℕ)) (k : ℕ) (path dir : List ℕ) (old new : List (List ℕ)) (absent : Type 0) → k < length paths → path ≡ get_or paths k path → (Contains old dir ↔ (SomeBelow (take k paths) dir × absent)) → (Contains new dir ↔ (Contains old dir ⊎ (LiesBelow path dir × absent)))
    → Contains new dir ↔ (SomeBelow (take (k + 1) paths) dir × absent)
one_more paths k path dir old new absent lt is first second =
    let grown : take (k + 1) paths ≡ take k paths ++ path ∷ [] = take_more paths k path lt ∙ ap (λ p. take k paths ++ p ∷ []) (sym is) in
    subst (λ (ps : List (List ℕ)). Contains new dir ↔ (SomeBelow ps dir × absent)) (sym grown) (
      λ h. elim (second.0 h) [
        | inl o ↦ let was = first.0 o in ((was.0.0, Contains-append_left (take k paths) (path ∷ []) was.0.0 was.0.1, was.0.2), was.1)
        | inr b ↦ ((path, Contains-push (take k paths) path, b.0), b.1)
      ],
      λ h. second.1 (elim (Contains-push_cases (take k paths) path h.0.0 h.0.1) [
        | inl before ↦ inl (first.1 ((h.0.0, before, h.0.2), h.1))
        | inr e ↦ inr (subst (λ (p : List ℕ). LiesBelow p dir) (sym e) h.0.2, h.1)
      ]),
    )
