-- What is looked at of a dependency is what its rule's record has of it, and actions and digests are those of their numbers.
use Rattle.std.proofs.Common.{◌≡◌, List, ◌∷◌, map, Some, None, refl, sym, ap, ◌∙◌}
use Rattle.std.specs.Option.{option_map}
use Rattle.world_api.specs.Act.{Law, Given, act}
use Rattle.world_api.specs.declared.hash.Hash.{Hash}
use Rattle.world_api.specs.declared.hash.Hash.TheVariants.{Md5, Sha1, Sha256}
use Rattle.world_api.specs.declared.job.Work.{Work}
use Rattle.world_api.specs.declared.job.Work.TheVariants.{Shell, Copy, Write}
use Rattle.deciders.specs.Digests.{digest_of, bytes_of}
use Rattle.deciders.specs.Spelling.{work_byte, hash_byte}
use Rattle.deciders.specs.declared.recorded.Dep.{Dep}
use Rattle.deciders.specs.declared.recorded.Rec.{Rec}
use Rattle.build_model.specs.Rules.{Path, Bytes, Content, Tree, Stamps, Rule}
use Rattle.build_model.specs.Contents.{in_tree}
use Rattle.build_model.specs.Records.{dependency_of, digest_by}
use Rattle.build_means.specs.Graphs.{work_at, hash_at, act_by}
use Rattle.build_means.specs.Grown.{Begun, begun_setting}
use Rattle.build_means.specs.Records.{dependency_in, record_in}
use Rattle.build_means.specs.Present.{record_over, IsSeenDep, AreSeenDeps, none_seen, seen_more}

pub work_back : (work : Work) → work_at (work_byte work) ≡ work
work_back Shell = refl
work_back Copy = refl
work_back Write = refl

pub hash_back : (hash : Hash) → hash_at (hash_byte hash) ≡ hash
hash_back Md5 = refl
hash_back Sha1 = refl
hash_back Sha256 = refl

-- what an action makes is what the action of its number makes
pub act_back : (law : Law) (work : Work) (signed : List Bytes) (targets : List Path) (given : Given) (path : Path) →
    act_by law (work_byte work) signed targets given path ≡ act law work signed targets given path
act_back law work signed targets given path = ap (λ w. act law w signed targets given path) (work_back work)

module _ (b : Begun) (r : Rule) (tree : Tree) (stamps : Stamps) where
  digest_back : (content : Content) → option_map bytes_of (option_map (digest_of b.hash) content) ≡ digest_by (begun_setting b) (hash_byte b.hash) content
  digest_back None = refl
  digest_back (Some bytes) = ap Some (ap (λ h. bytes_of (digest_of h bytes)) (sym (hash_back b.hash)))

  -- a dependency that was looked at stands so in the record
  pub dependency_is : (path : Path) (dep : Dep) → IsSeenDep b r tree stamps path dep → dependency_in dep ≡ dependency_of (begun_setting b) r (in_tree tree) stamps path
  dependency_is path dep seen =
      let digest = ap (option_map bytes_of) seen.digest ∙ digest_back (tree path) in
      λ i. record { name = seen.name i; digest = digest i; stamp = seen.stamp i }

  -- and so do all, each in its place
  pub dependencies_are : {paths : List Path} {deps : List Dep} → AreSeenDeps b r tree stamps paths deps →
      map dependency_in deps ≡ map (dependency_of (begun_setting b) r (in_tree tree) stamps) paths
  dependencies_are none_seen = refl
  dependencies_are (seen_more {path} {paths} {dep} {deps} first rest) =
      let one = dependency_is path dep first in
      let more = dependencies_are rest in
      λ i. one i ∷ more i

  -- so a record of the rule's action over them is the one of now
  pub record_is : {paths : List Path} (rec : Rec) → AreSeenDeps b r tree stamps paths rec.deps → work_byte rec.work ≡ r.work → rec.hash ≡ b.hash → rec.signed ≡ r.signed →
      rec.targets ≡ r.targets → record_in rec ≡ record_over (begun_setting b) r paths tree stamps
  record_is rec seen work hash signed targets =
      let deps = dependencies_are seen in
      λ i. record { work = work i; hash = hash_byte (hash i); signed = signed i; targets = targets i; dependencies = deps i }
