-- The record of a rule over files as they are at some moment.
use Rattle.std.specs.Prelude.{◌≡◌, List, [], ◌∷◌, ◌++◌, map}
use Rattle.std.specs.Option.{option_map}
use Rattle.deciders.specs.Digests.{digest_of}
use Rattle.deciders.specs.declared.recorded.Dep.{Dep}
use Rattle.deciders.specs.declared.recorded.Rec.{Rec}
use Rattle.build_model.specs.Rules.{Path, Tree, Stamps, Rule, Record, Setting, Among}
use Rattle.build_model.specs.Contents.{in_tree}
use Rattle.build_model.specs.Records.{dependency_of, stamp_kept}
use Rattle.build_model.specs.Steps.{IsMissing}
use Rattle.build_means.specs.Grown.{Begun, begun_setting}
use Rattle.build_means.specs.Records.{record_in}

-- The record of a rule with these dependencies, where the files and stamps are these.
abbrev pub record_over : Setting → Rule → List Path → Tree → Stamps → Record
record_over s r paths tree stamps = record {
  work = r.work;
  hash = s.hash;
  signed = r.signed;
  targets = r.targets;
  dependencies = map (dependency_of s r (in_tree tree) stamps) paths;
}

-- a dependency as it was looked at: the digest of what the file holds, none where none stands, and its stamp where the rule goes
-- by stamps
pub record IsSeenDep (b : Begun) (r : Rule) (tree : Tree) (stamps : Stamps) (path : Path) (dep : Dep) : Type 0 where
  pub name : dep.name ≡ path
  pub digest : dep.digest ≡ option_map (digest_of b.hash) (tree path)
  pub stamp : dep.stamp ≡ stamp_kept r.decider (stamps path)

-- these were looked at, each in its place
pub data AreSeenDeps (b : Begun) (r : Rule) (tree : Tree) (stamps : Stamps) : List Path → List Dep → Type 0 where
  none_seen : AreSeenDeps b r tree stamps [] []
  seen_more : {path : Path} {paths : List Path} {dep : Dep} {deps : List Dep} → IsSeenDep b r tree stamps path dep →
      AreSeenDeps b r tree stamps paths deps → AreSeenDeps b r tree stamps (path ∷ paths) (dep ∷ deps)

-- A record is the one of a rule over these dependencies, and each of them that no rule makes is a file.
pub record IsPresent (b : Begun) (r : Rule) (paths : List Path) (tree : Tree) (stamps : Stamps) (rec : Rec) : Type 0 where
  pub is : record_in rec ≡ record_over (begun_setting b) r paths tree stamps
  pub there : (path : Path) → Among path paths → IsMissing (begun_setting b) tree path → ⊥

-- A dependency is the first that no rule makes and that is no file.
pub record IsFirstAbsent (b : Begun) (paths : List Path) (tree : Tree) (path : Path) : Type 0 where
  pub front : List Path
  pub rest : List Path
  pub parts : paths ≡ front ++ path ∷ rest
  pub is_missing : IsMissing (begun_setting b) tree path
  pub front_there : (other : Path) → Among other front → IsMissing (begun_setting b) tree other → ⊥
