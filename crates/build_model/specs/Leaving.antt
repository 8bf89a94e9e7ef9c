-- What a build leaves of the records, and that the next build may trust them.
use Rattle.std.specs.Prelude.{◌≡◌, List, Some, None}
use Rattle.build_model.specs.Rules.{Path, Rule, Records, Setting, Among}
use Rattle.build_model.specs.Records.{AreSound}
use Rattle.build_model.specs.Steps.{Step, Build, settled, began, Succeeds, present_record}
use Rattle.build_model.specs.Laws.{IsBuild}
use Rattle.build_model.specs.Graphs.{Graph, setting}
use Rattle.build_model.specs.Headline.{BuildsByContent, IsAgain}

-- The record of a path after a build: that of its rule, where the rule's action ended well; none, where it began and did
-- not; else the one that stood there before.
pub data IsRecordAfter (s : Setting) (b : Build) (steps : List Step) (m : Records) (p : Path) : Type 0 where
  is_put : (r : Rule) → Among r (began steps) → Among r (settled steps) → Among p r.targets →
      m p ≡ Some (present_record s b r) → IsRecordAfter s b steps m p
  is_withdrawn : (r : Rule) → Among r (began steps) → (Among r (settled steps) → ⊥) → Among p r.targets →
      m p ≡ None → IsRecordAfter s b steps m p
  is_kept : ((r : Rule) → Among r (began steps) → Among p r.targets → ⊥) → m p ≡ b.records p → IsRecordAfter s b steps m p

-- only targets of rules that began are changed
abbrev pub IsUntouched : Build → List Step → Type 0
IsUntouched b steps = (p : Path) → ((r : Rule) → Among r (began steps) → Among p r.targets → ⊥) → b.before p ≡ b.after p

-- At any status: records that told the truth before a build tell it after.
abbrev pub StaysSound : Type 0
StaysSound = (s : Setting) (b : Build) (steps : List Step) (m : Records) → IsBuild s b steps → IsUntouched b steps →
    AreSound s b.met b.before b.records → ((p : Path) → IsRecordAfter s b steps m p) → AreSound s b.met b.after m

-- After a build that ended well each target of a needed rule has its clean record: so the next one may begin as the same
-- build again.
abbrev pub IsAgainAfter : Type 0
IsAgainAfter = (g : Graph) (b c : Build) (steps : List Step) → BuildsByContent g b steps → Succeeds (setting g b.before) b steps →
    c.before ≡ b.after → c.requested ≡ b.requested → ((p : Path) → IsRecordAfter (setting g b.before) b steps c.records p) → IsAgain g b c
