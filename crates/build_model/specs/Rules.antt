-- What a build is about: paths and contents, rules, and the records that are kept of rules.
use Rattle.std.specs.Prelude.{ℕ, Bool, List, [], ◌∷◌, Option}

abbrev pub Path : Type 0
Path = List ℕ

abbrev pub Bytes : Type 0
Bytes = List ℕ

abbrev pub Digest : Type 0
Digest = List ℕ

-- the bytes of a file; none where no file is
abbrev pub Content : Type 0
Content = Option Bytes

-- which path has which content
abbrev pub Tree : Type 0
Tree = Path → Content

-- when which file was changed
abbrev pub Stamps : Type 0
Stamps = Path → Option ℕ

-- By what a dependency counts as changed: the values of `Decider` in the SCons User Guide, "Deciding When an Input File
-- Has Changed".
pub data Decider : Type 0 where
  content timestamp_newer timestamp_match content_timestamp : Decider

-- How some targets are made of some sources.
pub record Rule : Type 0 where
  -- it copies a file into a variant directory, and no script declares it
  pub copies : Bool
  -- its action is to copy or to write: its sources stay dependencies, whatever is ignored
  pub keeps_sources : Bool
  -- what its action is, by the number that records give it: 0 for the shell, 1 for a copy, 2 for a text that is written
  pub work : ℕ
  pub signed : List Bytes
  pub targets : List Path
  pub sources : List Path
  -- those of the sources that are scanned for what they include
  pub scanned : List Path
  pub depends : List Path
  pub libraries : List Path
  pub ignored : List Path
  pub required : List Path
  pub always : Bool
  pub decider : Decider

-- what a record keeps of a dependency
pub record Dependency : Type 0 where
  pub name : Path
  pub digest : Option Digest
  pub stamp : Option ℕ

-- what is kept of a rule that was carried out
pub record Record : Type 0 where
  pub work : ℕ
  -- by which function its digests were made
  pub hash : ℕ
  pub signed : List Bytes
  pub targets : List Path
  pub dependencies : List Dependency

-- the record of each path that has one
abbrev pub Records : Type 0
Records = Path → Option Record

-- What stays the same throughout a build.
pub record Setting : Type 0 where
  -- the rule that makes a path, a copy rule among them
  pub rule_of : Path → Option Rule
  -- the files that are found for the include lines of these bytes at this path, in order
  pub includes : Rule → Path → Bytes → List Path
  -- what an action makes at a path of contents that it is given: its work, signed lines and targets alone count
  pub act : ℕ → List Bytes → List Path → List (Path × Content) → Path → Content
  -- the digest of a content, by each function
  pub digest : ℕ → Bytes → Digest
  -- the function by which this build makes digests
  pub hash : ℕ
  -- the test by which a rule is found due: by the tree, stamps and records before the build, and its record of now
  pub is_due : Rule → Tree → Stamps → Records → Record → Bool
  -- more than the files that are scanned for a rule
  pub limit : ℕ

-- stands in the list
pub data Among {A : Type 0} : A → List A → Type 0 where
  here : {x : A} {xs : List A} → Among x (x ∷ xs)
  there : {x y : A} {xs : List A} → Among x xs → Among x (y ∷ xs)

-- each stands there once
abbrev pub Unique : {A : Type 0} → List A → Type 0
Unique [] = Unit {0}
Unique (x ∷ xs) = (Among x xs → ⊥) × Unique xs
