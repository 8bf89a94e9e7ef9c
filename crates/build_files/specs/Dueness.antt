-- When a rule is found to be due.
use Rattle.std.specs.Prelude.{◌≡◌, ℕ, Bool, List, Option, Some, None, Result, IfOk}
use Rattle.deciders.specs.declared.recorded.Rec.{Rec}
use Rattle.rule_graph.specs.Graphs.{RuleGraph}
use Rattle.sign_store.specs.Tables.{Map}
use Rattle.world_api.specs.Around.{Around, IsRunningTarget}
use Rattle.world_api.specs.Reads.{stamp_of}
use Rattle.world_api.specs.declared.decider.Decider.{Decider}
use Rattle.world_api.specs.declared.decider.Decider.TheVariants.{Content, Newer, Match, ContentMatch}
use Rattle.build_model.specs.Rules.{Path, Rule, Among}
use Rattle.build_means.specs.Due.{is_due}
use Rattle.build_means.specs.Grown.{Begun, IsGrown, rule_numbered}
use Rattle.build_means.specs.Records.{record_in, records_in, HasOwnDigests}
use Rattle.build_files.specs.declared.end.ListEnd.{ListEnd}

-- each digest of a kept record was made by its function
abbrev pub HaveOwnDigests : Map → Type 0
HaveOwnDigests kept = (path : Path) (rec : Rec) → kept path ≡ Some rec → HasOwnDigests rec

-- no running job writes any of these files
abbrev pub AreIdle : Around → List Path → Type 0
AreIdle around paths = (path : Path) → Among path paths → IsRunningTarget around.running path → ⊥

-- the stamp of the first target, where a decider goes by it
abbrev pub made_by : Decider → Option ℕ → Option ℕ
made_by Content made = None
made_by Newer made = made
made_by Match made = None
made_by ContentMatch made = None

-- The rule of a number is found due just where it is by the kept records, and by the files and stamps around, where this record of
-- its targets is the one of now.
abbrev pub FindsDue : RuleGraph → ℕ → Map → Rec → Around → Result Bool ListEnd → Type 0
FindsDue g number kept now around result = (b : Begun) (r : Rule) → IsGrown b g → rule_numbered b g number ≡ Some r → now.targets ≡ r.targets
    → IfOk result (λ due. due ≡ is_due r around.tree (stamp_of around) (records_in kept) (record_in now))
