-- Small graphs, as the model of builds sees them.
use Rattle.std.specs.Prelude.{◌≡◌, ℕ, suc, false, List, [], ◌∷◌, ◌++◌, if◌then◌else◌}
use Rattle.std.specs.Str.{bytes_eq}
use Rattle.build_model.specs.Rules.{Path, Rule, Decider, content, timestamp_newer, timestamp_match, content_timestamp}
use Rattle.build_model.specs.Reach.{breadth_first}
use Rattle.model_trials.specs.declared.reach.PlainDecider.{PlainDecider}
use Rattle.model_trials.specs.declared.reach.PlainDecider.TheVariants.{Content, TimestampNewer, TimestampMatch, ContentTimestamp}
use Rattle.model_trials.specs.declared.reach.PlainRule.{PlainRule}
use Rattle.model_trials.specs.declared.reach.Scan.{Scan}

-- the decider that a plain one stands for
abbrev pub decider_of : PlainDecider → Decider
decider_of Content = content
decider_of TimestampNewer = timestamp_newer
decider_of TimestampMatch = timestamp_match
decider_of ContentTimestamp = content_timestamp

-- the rule that plain lists stand for
abbrev pub as_rule : PlainRule → Rule
as_rule r = record {
  copies = false;
  keeps_sources = r.keeps_sources;
  work = r.number;
  signed = [];
  targets = r.targets.items;
  sources = r.sources.items;
  scanned = r.scanned.items;
  depends = r.depends.items;
  libraries = r.libraries.items;
  ignored = r.ignored.items;
  required = r.required.items;
  always = r.always;
  decider = decider_of r.decider;
}

-- what a file includes, as far as files were scanned
abbrev pub included : List Scan → Path → List Path
included [] p = []
included (scan ∷ scans) p = if bytes_eq scan.file p then scan.includes.items else included scans p

-- of a walk breadth first the first path is taken, and the rest of the walk is the same
abbrev pub IsTaken : (Path → List Path) → (seen waiting found later still more : List Path) → Type 0
IsTaken f seen waiting found later still more =
    (room : ℕ) → more ++ breadth_first f room later still ≡ found ++ breadth_first f (suc room) seen waiting

-- the number that a plain rule has
abbrev pub number : Rule → ℕ
number r = r.work
