-- Where the entries of a bank end, told from a part of its bytes.
use Rattle.std.specs.Prelude.{◌≡◌, ◌+◌, ◌<◌, ℕ, List, ◌++◌, length, take, drop, None}
use Rattle.deciders.specs.declared.version.Version.{Version}
use Rattle.sign_store.specs.declared.blocks.End.{End}
use Rattle.sign_store.specs.Forms.{Leads}
use Rattle.sign_store.specs.Gates.{IsGate}
use Rattle.sign_store.specs.Images.{entry_in, body_of}
use Rattle.sign_store.specs.Tables.{Map}

-- the first of so many bytes show that no entry of this version stands there, whatever the others are; a byte is there
-- if any is
pub record ShowsEnd (version : Version) (left : ℕ) (front : List ℕ) : Type 0 where
  pub none : (behind : List ℕ) → length front + length behind ≡ left → entry_in version (front ++ behind) ≡ None
  pub there : 0 < left → 0 < length front

-- up to this place a bank of this version has whole entries, which lead from the one map to the other
abbrev pub LeadsTo : Version → ℕ → Map → Map → List ℕ → Type 0
LeadsTo version place from map bank = Leads version (body_of (take place bank)) from map

-- and there no entry stands, but this gate
pub record EndsThere (version : Version) (from map : Map) (bank : List ℕ) (end : End) : Type 0 where
  pub leads : LeadsTo version end.place from map bank
  pub none : entry_in version (drop end.place bank) ≡ None
  pub gate_is : IsGate end.gate end.place bank
