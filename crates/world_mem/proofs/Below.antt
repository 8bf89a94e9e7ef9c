-- Paths that lie below others, and what a put leaves live.
use Rattle.std.proofs.Common.{◌≡◌, ◌∙◌, ◌<◌, ◌+◌, ◌↔◌, ◌⊎◌, eqb, zero, length-append, sym, refl, ap, cond, ℕ, suc, List, [], ◌∷◌, ◌++◌, Bool, true, false, Option, Some, None, is_some, take, drop, length, get_or, inl, inr, arith, Contains, subst}
use Rattle.std.specs.Cmp.Lexicographic.{bytes_decides, pointwise}
use Rattle.std.specs.Str.{bytes_eq}
use Rattle.std.proofs.lemmas.Bool.{cases_Bool}
use Rattle.std.proofs.lemmas.Bool.Decides.{Decides-eqb}
use Rattle.std.proofs.lemmas.List.{take-append-drop}
use Rattle.std.proofs.lemmas.List.Elements.{Contains-push_cases}
use Rattle.std.proofs.lemmas.Slice.Eq.{starts_is}
use Rattle.std.proofs.Math.Seq.{take-append_seam, drop-append_seam, get_or-append_seam}
use Rattle.world_mem.specs.Blocked.{LiesBelow, HasAbove, HasBelow, IsBlocked, HasFile, IsRefused}
use Rattle.world_mem.specs.InSlots.{content_of, file_at, is_live, holds_live}
use Rattle.world_mem.specs.declared.slots.Slot.{Slot}
use Rattle.world_mem.specs.declared.slots.Slot.TheVariants.{Running, Settled}
use Rattle.world_mem.proofs.Membership.{parted, same_at}
use Rattle.world_api.specs.Act.{Content}

-- a path that goes on behind a directory's text with a rest, which begins with a slash or doesn't
pub below_by_rest : (path dir rest : List ℕ) (r : Bool) → take (length dir) path ≡ dir → rest ≡ drop (length dir) path → r ≡ pointwise eqb (47 ∷ []) (take 1 rest) → (r ≡ true) ↔ LiesBelow path dir
below_by_rest path dir rest r same is answer =
    let starts = starts_is Decides-eqb rest (47 ∷ []) r answer in (
      λ y. (drop 1 rest, sym (take-append-drop (length dir) path) ∙ ap (λ front. front ++ drop (length dir) path) same ∙ ap (λ back. dir ++ back) (sym is ∙ starts.0 y)),
      λ below. starts.1 below.0 (is ∙ ap (drop (length dir)) below.1 ∙ drop-append_seam dir (47 ∷ below.0)),
    )

pub front_of_below : (path dir : List ℕ) → LiesBelow path dir → take (length dir) path ≡ dir
front_of_below path dir below = ap (take (length dir)) below.1 ∙ take-append_seam dir (47 ∷ below.0)

-- a path that doesn't begin with a directory's text
pub not_below : (path dir : List ℕ) → pointwise eqb (take (length dir) path) dir ≡ false → (false ≡ true) ↔ LiesBelow path dir
not_below path dir apart = (
  λ e. absurd (cc e),
  λ below. sym apart ∙ (bytes_decides (take (length dir) path) dir).1 (front_of_below path dir below),
)

pub above : (path : List ℕ) (k : ℕ) → k < length path → get_or path k 0 ≡ 47 → LiesBelow path (take k path)
above path k lt is = (drop (suc k) path, parted path k 47 lt (sym (same_at path k 47 0 lt ∙ is)))

-- what is live after a put was before, or is what was put
pub put_live : (P : List ℕ → Type 0) (target other : List ℕ) (slot : Slot) (old new : Option Slot) → new ≡ cond (bytes_eq target other) (Some slot) old
    → (holds_live old ≡ true → P other) → P target → holds_live new ≡ true → P other
put_live P target other slot old new put before here live = elim (cases_Bool (bytes_eq target other)) [
  | inl y ↦ subst P ((bytes_decides target other).0 y) here
  | inr n ↦ before (sym (ap holds_live (put ∙ ap (λ b. cond b (Some slot) old) n)) ∙ live)
]

-- a file that stands is live
pub live_of : (o : Option Slot) → is_some (content_of o) ≡ true → holds_live o ≡ true
live_of None h = absurd (let e : false ≡ true = h in cc e)
live_of (Some (Running id)) h = absurd (let e : false ≡ true = h in cc e)
live_of (Some (Settled None)) h = absurd (let e : false ≡ true = h in cc e)
live_of (Some (Settled (Some file))) h = refl

pub weaker_blocked : (P Q : List ℕ → Type 0) (path : List ℕ) → ((other : List ℕ) → P other → Q other) → IsBlocked P path → IsBlocked Q path
weaker_blocked P Q path weaker blocked = elim blocked [ inl h ↦ inl (h.0, weaker h.0 h.1, h.2) | inr h ↦ inr (h.0, weaker h.0 h.1, h.2) ]

-- where a path goes on behind one that it lies below
pub above_at : (path other : List ℕ) → LiesBelow path other → (length other < length path) × (get_or path (length other) 0 ≡ 47) × (take (length other) path ≡ other)
above_at path other below =
    let longer : length path ≡ length other + suc (length below.0) = ap length below.1 ∙ length-append other (47 ∷ below.0) in
    (omega (arith, longer), ap (λ p. get_or p (length other) 0) below.1 ∙ get_or-append_seam other 47 below.0 0, front_of_below path other below)

-- no path lies below itself
pub below_itself : (path : List ℕ) → LiesBelow path path → ⊥
below_itself path below =
    let longer : length path ≡ length path + suc (length below.0) = ap length below.1 ∙ length-append path (47 ∷ below.0) in
    omega (arith, longer)

-- a path that none lies above
pub blocked_if : (taken : List ℕ → Type 0) (path : List ℕ) (above below : Bool) → (above ≡ true) ↔ HasAbove taken path → above ≡ false → (below ≡ true) ↔ HasBelow taken path → (below ≡ true) ↔ IsBlocked taken path
blocked_if taken path above below is_above none is_below = (
  λ y. inr (is_below.0 y),
  λ blocked. elim blocked [ inl h ↦ absurd (let x : true ≡ false = sym (is_above.1 h) ∙ none in cc x) | inr h ↦ is_below.1 h ],
)

-- no two of these paths lie below one another
abbrev pub AreApart : List (List ℕ) → Type 0
AreApart paths = (one other : List ℕ) → Contains paths one → Contains paths other → LiesBelow one other → ⊥

-- one path more, which none of those before blocks
pub apart_more : (before : List (List ℕ)) (path : List ℕ) (own : List ℕ → Type 0) → ((other : List ℕ) → Contains before other → own other) → (IsBlocked own path → ⊥) → AreApart before → AreApart (before ++ path ∷ [])
apart_more before path own has free apart = λ one other here there below.
    elim (Contains-push_cases before path one here) [
      | inl a ↦ elim (Contains-push_cases before path other there) [
        | inl b ↦ apart one other a b below
        | inr e ↦ free (inr (one, has one a, subst (λ (p : List ℕ). LiesBelow one p) (sym e) below))
      ]
      | inr d ↦ elim (Contains-push_cases before path other there) [
        | inl b ↦ free (inl (other, has other b, subst (λ (p : List ℕ). LiesBelow p other) (sym d) below))
        | inr e ↦ below_itself path (subst (λ (p : List ℕ). LiesBelow path p) (sym e) (subst (λ (p : List ℕ). LiesBelow p other) (sym d) below))
      ]
    ]

-- paths of which none is blocked from outside and none lies below another
pub none_blocked : (barred : List ℕ → Type 0) (paths : List (List ℕ)) → ((path : List ℕ) → Contains paths path → barred path → ⊥) → AreApart paths
    → (path : List ℕ) → Contains paths path → barred path ⊎ IsBlocked (Contains paths) path → ⊥
none_blocked barred paths free apart path here blocked = elim blocked [
  | inl outside ↦ free path here outside
  | inr own ↦ elim own [ inl h ↦ apart path h.0 here h.1 h.2 | inr h ↦ apart h.0 path h.1 here h.2 ]
]

-- what is put is live, and what was live stays so
pub live_after : (target other : List ℕ) (slot : Slot) (old new : Option Slot) → new ≡ cond (bytes_eq target other) (Some slot) old → is_live slot ≡ true
    → (holds_live old ≡ true) ⊎ (target ≡ other) → holds_live new ≡ true
live_after target other slot old new put live how = ap holds_live put ∙ elim (cases_Bool (bytes_eq target other)) [
  | inl y ↦ ap (λ b. holds_live (cond b (Some slot) old)) y ∙ live
  | inr n ↦ ap (λ b. holds_live (cond b (Some slot) old)) n ∙ elim how [
    | inl before ↦ before
    | inr e ↦ absurd (let x : true ≡ false = sym ((bytes_decides target other).1 e) ∙ n in cc x)
  ]
]

some_if : (b : Bool) (bytes : List ℕ) (rest : Content) → (b ≡ true) ⊎ (is_some rest ≡ true) → is_some (cond b (Some bytes) rest) ≡ true
some_if true bytes rest h = refl
some_if false bytes rest h = elim h [ inl e ↦ absurd (let x : false ≡ true = e in cc x) | inr r ↦ r ]

pub file_at-listed : (files : List (List ℕ × List ℕ)) (path bytes : List ℕ) → Contains files (path, bytes) → is_some (file_at files path) ≡ true
file_at-listed [] path bytes h = absurd (omega (arith, h.1))
file_at-listed (x ∷ xs) path bytes (zero, lt, at) = some_if (bytes_eq x.0 path) x.1 (file_at xs path) (inl ((bytes_decides x.0 path).1 (ap (λ (f : List ℕ × List ℕ). f.0) at)))
file_at-listed (x ∷ xs) path bytes (suc k, lt, at) = some_if (bytes_eq x.0 path) x.1 (file_at xs path) (inr (file_at-listed xs path bytes (k, omega (arith, lt), at)))

-- a file at a place that none before blocks
pub not_refused : (files : List (List ℕ × List ℕ)) (place : ℕ) (file : List ℕ × List ℕ) → get_or files place file ≡ file → (HasFile (take place files) file.0 → ⊥) → (IsBlocked (HasFile (take place files)) file.0 → ⊥) → IsRefused files place → ⊥
not_refused files place file is new free refused =
    let same : refused.0 ≡ file = sym refused.2 ∙ same_at files place refused.0 file refused.1 ∙ is in
    elim (subst (λ (f : List ℕ × List ℕ). HasFile (take place files) f.0 ⊎ IsBlocked (HasFile (take place files)) f.0) same refused.3) [ inl listed ↦ new listed | inr blocked ↦ free blocked ]

pub above_weaker : (P Q : List ℕ → Type 0) (path : List ℕ) → ((other : List ℕ) → P other → Q other) → HasAbove P path → HasAbove Q path
above_weaker P Q path weaker above = (above.0, weaker above.0 above.1, above.2)
