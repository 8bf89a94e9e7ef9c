-- What a clean build makes of plain lists, and by which action.
use Rattle.std.specs.Prelude.{◌≡◌, ◌++◌, ◌&&◌, ℕ, false, List, [], ◌∷◌, Some, None, map, if◌then◌else◌}
use Rattle.std.specs.List.{flat_map}
use Rattle.std.specs.Str.{bytes_eq}
use Rattle.build_model.specs.Rules.{Path, Bytes, Content, Setting}
use Rattle.build_model.specs.Graphs.{declared_rule}
use Rattle.build_model.specs.Contents.{View, includes_of, clean}
use Rattle.model_trials.specs.declared.reach.Scan.{Scan}
use Rattle.model_trials.specs.declared.clean.PlainLine.{PlainLine}
use Rattle.model_trials.specs.declared.clean.PlainGraph.{PlainGraph}
use Rattle.model_trials.specs.Plain.{as_rule}
use Rattle.model_trials.specs.Staling.{tree_of}

-- what a file includes where it holds these bytes, by the first line that says so
abbrev pub listed : List PlainLine → Path → Bytes → List Path
listed [] p bytes = []
listed (line ∷ lines) p bytes = if bytes_eq line.file p && bytes_eq line.bytes bytes then line.includes.items else listed lines p bytes

-- the bytes of a file, and nothing where no file is
abbrev pub bytes_in_content : Content → Bytes
bytes_in_content None = []
bytes_in_content (Some bytes) = bytes

-- a path, and behind it what stands there
abbrev pub named_bytes : Path × Content → Bytes
named_bytes x = x.0 ++ bytes_in_content x.1

-- What the action makes at a path: the path, and behind it each path that is given with what stands there.
abbrev pub written : List (Path × Content) → Path → Bytes
written given p = p ++ flat_map named_bytes given

-- What stays the same throughout a build of such a graph. Nothing is asked of records in a clean one.
abbrev pub setting_of : PlainGraph → Setting
setting_of g = record {
  rule_of = declared_rule (map as_rule g.rules.items);
  includes = λ r. listed g.lines.items;
  act = λ work signed targets given p. Some (written given p);
  digest = λ hash bytes. bytes;
  hash = 0;
  is_due = λ r t stamps m now. false;
  limit = g.limit;
}

-- what is known of each path in a clean build, where at most so many rules stand on one another
abbrev pub view_of : PlainGraph → ℕ → View
view_of g height = clean (setting_of g) (tree_of g.files.items) height

-- what a file includes by the scans, and else what it is said to
abbrev pub included_or : List Scan → Path → List Path → List Path
included_or [] p rest = rest
included_or (scan ∷ scans) p rest = if bytes_eq scan.file p then scan.includes.items else included_or scans p rest

-- A line is taken in: the scans with the lines behind it say the same as before with it and those.
abbrev pub IsTakenIn : View → PlainLine → List Scan → List Scan → Type 0
IsTakenIn view line scans more = (p : Path) (lines : List PlainLine) →
    included_or more p (includes_of (listed lines p) (view p)) ≡ included_or scans p (includes_of (listed (line ∷ lines) p) (view p))
