-- Of which files a call reads.
use Rattle.std.specs.Prelude.{◌≡◌, ◌≢◌, ℕ, List, Some}
use Rattle.std.specs.Global.{Vec}
use Rattle.indexmap.specs.IndexMap.{get}
use Rattle.scons_base.specs.declared.ids.NodeId.{NodeId}
use Rattle.build_model.specs.Rules.{Among}
use Rattle.build_files.specs.Kept.{IsUnread, same_scan}
use Rattle.build_files.specs.Seen.{seen_at}
use Rattle.build_files.specs.declared.includes.Scan.{Scan}
use Rattle.build_files.specs.declared.inputs.Inputs.{Inputs}

-- nothing is kept of what the file of this number holds, includes, or of when it changed, and no scan of it is
pub record IsUnreadIn (inputs : Inputs) (node : ℕ) : Type 0 where
  pub seen : IsUnread (seen_at inputs.files.seen.items node)
  pub scans : (scan : Scan) (nodes : Vec NodeId) → get same_scan inputs.found.files scan ≡ Some nodes → scan.file.0 ≢ node

-- nothing was read but of these files
abbrev pub ReadsOnly : List NodeId → Inputs → Inputs → Type 0
ReadsOnly files old new =
    (node : ℕ) → ((file : NodeId) → Among file files → file.0 ≢ node) → IsUnreadIn old node → IsUnreadIn new node
