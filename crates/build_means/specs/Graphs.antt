-- What a build is about, of a graph as it was read: a graph of the model.
use Rattle.std.specs.Prelude.{ℕ, suc, zero, ◌+◌, List}
use Rattle.scons_base.specs.declared.limits.TheConstants.{NODE_LIMIT}
use Rattle.world_api.specs.Act.{Law, act}
use Rattle.world_api.specs.declared.hash.Hash.{Hash}
use Rattle.world_api.specs.declared.hash.Hash.TheVariants.{Md5, Sha1, Sha256}
use Rattle.world_api.specs.declared.job.Work.{Work}
use Rattle.world_api.specs.declared.job.Work.TheVariants.{Shell, Copy, Write}
use Rattle.deciders.specs.Digests.{digest_of, bytes_of}
use Rattle.deciders.specs.Spelling.{hash_byte}
use Rattle.rule_graph.specs.Graphs.{RuleGraph}
use Rattle.build_model.specs.Rules.{Path, Bytes, Content, Tree, Digest}
use Rattle.build_model.specs.Graphs.{Graph}
use Rattle.build_means.specs.Rules.{rules_in}
use Rattle.build_means.specs.Copies.{source_for}
use Rattle.build_means.specs.Finds.{finds}
use Rattle.build_means.specs.Due.{is_due}

-- the work of a number
abbrev pub work_at : ℕ → Work
work_at zero = Shell
work_at (suc zero) = Copy
work_at (suc (suc number)) = Write

-- the function of digests of a number
abbrev pub hash_at : ℕ → Hash
hash_at zero = Md5
hash_at (suc zero) = Sha1
hash_at (suc (suc number)) = Sha256

-- what an action makes, by the number of its work
abbrev pub act_by : Law → ℕ → List Bytes → List Path → List (Path × Content) → Path → Content
act_by law work signed targets given path = act law (work_at work) signed targets given path

-- the digest of a content, by the number of the function
abbrev pub digest_by : ℕ → Bytes → Digest
digest_by hash bytes = bytes_of (digest_of (hash_at hash) bytes)

-- The graph of the model that a reading stands for, where actions make what this law says, digests are made by this function,
-- and a build begins with this tree. No list of files is as long as its limit, which is above the number of nodes.
abbrev pub graph_of : RuleGraph → Law → Hash → Tree → Graph
graph_of g law hash tree = record {
  rules = rules_in g;
  source_of = source_for g;
  includes = finds g tree;
  act = act_by law;
  digest = digest_by;
  hash = hash_byte hash;
  is_due = is_due;
  limit = NODE_LIMIT + 1;
}
