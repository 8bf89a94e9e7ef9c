-- A record whose spelling is short has few parts, and short ones.
use Rattle.std.proofs.Common.{ℕ, ◌+◌, ◌^◌, ◌<◌, ◌≤◌, List, [], ◌∷◌, ◌++◌, length, All, arith, length-append}
use Rattle.std.specs.List.{flat_map, AllByRecursion}
use Rattle.std.specs.Int.{w32, to_be_bytes}
use Rattle.std.proofs.lemmas.List.Elements.{All-from_recursion}
use Rattle.std.proofs.lemmas.List.Concat.{flat_map-cons}
use Rattle.deciders.specs.declared.recorded.Rec.{Rec}
use Rattle.deciders.specs.declared.version.Version.{Version}
use Rattle.deciders.specs.Spelling.{sized, listed, digest_spelling, stamp_spelling, dep_spelling, hash_spelling, lists_spelling, spelling}

-- each item has more bytes than its size says
pub record IsMore {A : Type 0} (spelled : A → List ℕ) (size : A → ℕ) : Type 0 where
  pub more : (x : A) → size x < length (spelled x)

sized_is_more : IsMore sized (λ text. length text)
sized_is_more = record { more = λ text. omega (arith, length-append (to_be_bytes w32 (length text)) text) }

dep_is_more : IsMore dep_spelling (λ dep. length dep.name)
dep_is_more = record { more = λ dep. omega (arith, length-append (to_be_bytes w32 (length dep.name)) dep.name, length-append (sized dep.name) (digest_spelling dep.digest), length-append (sized dep.name ++ digest_spelling dep.digest) (stamp_spelling dep.stamp)) }

few : {A : Type 0} (spelled : A → List ℕ) (size : A → ℕ) → IsMore spelled size → (items : List A) → length items ≤ length (flat_map spelled items)
few spelled size more [] = omega arith
few spelled size more (x ∷ xs) = rw flat_map-cons (omega (arith, more.more x, few spelled size more xs, length-append (spelled x) (flat_map spelled xs)))

short : {A : Type 0} (spelled : A → List ℕ) (size : A → ℕ) → IsMore spelled size → (items : List A) (n : ℕ) → length (flat_map spelled items) < n → AllByRecursion (λ x. size x < n) items
short spelled size more [] n below = tt
short spelled size more (x ∷ xs) n below =
    let parts : length (spelled x) + length (flat_map spelled xs) < n = omega (arith, length-append (spelled x) (flat_map spelled xs), below) in
    (omega (arith, more.more x), short spelled size more xs n (omega arith))

pub record FitParts (rec : Rec) : Type 0 where
  pub targets : length rec.targets < 2 ^ 32
  pub target : All (λ path. length path < 2 ^ 32) rec.targets
  pub signed : length rec.signed < 2 ^ 32
  pub text : All (λ text. length text < 2 ^ 32) rec.signed
  pub deps : length rec.deps < 2 ^ 32
  pub dep : All (λ dep. length dep.name < 2 ^ 32) rec.deps

lists : (rec : Rec) → length (lists_spelling rec) < 2 ^ 32 → (length (flat_map sized rec.targets) < 2 ^ 32) × (length (flat_map sized rec.signed) < 2 ^ 32) × (length (flat_map dep_spelling rec.deps) < 2 ^ 32)
lists rec below =
    let a = length-append (to_be_bytes w32 (length rec.targets)) (flat_map sized rec.targets) in
    let b = length-append (to_be_bytes w32 (length rec.signed)) (flat_map sized rec.signed) in
    let c = length-append (to_be_bytes w32 (length rec.deps)) (flat_map dep_spelling rec.deps) in
    let d = length-append (listed sized rec.targets) (listed sized rec.signed) in
    let e = length-append (listed sized rec.targets ++ listed sized rec.signed) (listed dep_spelling rec.deps) in
    (omega (arith, below, a, b, c, d, e), omega (arith, below, a, b, c, d, e), omega (arith, below, a, b, c, d, e))

pub fit_parts : (rec : Rec) → length (lists_spelling rec) < 2 ^ 32 → FitParts rec
fit_parts rec below =
    let each = lists rec below in record {
      targets = omega (arith, few sized (λ text. length text) sized_is_more rec.targets, each.0);
      target = All-from_recursion (λ path. length path < 2 ^ 32) rec.targets (short sized (λ text. length text) sized_is_more rec.targets (2 ^ 32) each.0);
      signed = omega (arith, few sized (λ text. length text) sized_is_more rec.signed, each.1);
      text = All-from_recursion (λ text. length text < 2 ^ 32) rec.signed (short sized (λ text. length text) sized_is_more rec.signed (2 ^ 32) each.1);
      deps = omega (arith, few dep_spelling (λ dep. length dep.name) dep_is_more rec.deps, each.2);
      dep = All-from_recursion (λ dep. length dep.name < 2 ^ 32) rec.deps (short dep_spelling (λ dep. length dep.name) dep_is_more rec.deps (2 ^ 32) each.2);
    }

-- a short list of paths has few, and short ones
pub fit_paths : (paths : List (List ℕ)) → length (listed sized paths) < 2 ^ 32 → (length paths < 2 ^ 32) × All (λ path. length path < 2 ^ 32) paths
fit_paths paths below =
    let each : length (flat_map sized paths) < 2 ^ 32 = omega (arith, below, length-append (to_be_bytes w32 (length paths)) (flat_map sized paths)) in
    (omega (arith, few sized (λ text. length text) sized_is_more paths, each), All-from_recursion (λ path. length path < 2 ^ 32) paths (short sized (λ text. length text) sized_is_more paths (2 ^ 32) each))

-- the targets are a part of a record's spelling
pub targets_within : (version : Version) (rec : Rec) → length (listed sized rec.targets) + 1 ≤ length (spelling version rec)
targets_within version rec =
    omega (arith, length-append (hash_spelling version rec.hash) (lists_spelling rec), length-append (listed sized rec.targets) (listed sized rec.signed), length-append (listed sized rec.targets ++ listed sized rec.signed) (listed dep_spelling rec.deps))

-- the lists are a part of it too
pub lists_within : (version : Version) (rec : Rec) → length (lists_spelling rec) + 1 ≤ length (spelling version rec)
lists_within version rec = omega (arith, length-append (hash_spelling version rec.hash) (lists_spelling rec))
