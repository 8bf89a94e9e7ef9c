-- What a change of the banks leaves, at every moment of it and behind it.
use Rattle.std.specs.Prelude.{◌≡◌, ◌+◌, ℕ, List, length, Result, IfOk, OnOk}
use Rattle.world_api.specs.declared.disk.Bank.{Bank}
use Rattle.world_api.specs.declared.disk.Bank.TheVariants.{A}
use Rattle.world_api.specs.Around.{Around}
use Rattle.world_api.specs.Meaning.{Meaning, Throughout}
use Rattle.sign_store.specs.declared.entries.EndGate.{EndGate}
use Rattle.deciders.specs.declared.version.Version.TheVariants.{Two}
use Rattle.sign_store.specs.declared.head.Edition.{Edition}
use Rattle.sign_store.specs.declared.opening.Opened.{Opened}
use Rattle.sign_store.specs.declared.head.Choice.TheVariants as choice
use Rattle.sign_store.specs.Beginnings.{CanFill, IsCounted, IsCurrent, IsFilled, IsMendable, IsOpened, IsReopened}
use Rattle.sign_store.specs.Ends.{IsLeftOr, image_in}
use Rattle.sign_store.specs.Forms.{IsForm}
use Rattle.sign_store.specs.Heads.{edition_of}
use Rattle.sign_store.specs.Maps.{map_in}
use Rattle.sign_store.specs.Reached.{Endures}
use Rattle.sign_store.specs.Readings.{choice_of}
use Rattle.sign_store.specs.Tables.{Map, nothing}

-- a bank is closed while another one counts, so that it can be filled
abbrev pub ClosesThroughout : {W : Type 0} → Meaning W → W → W → Bank → Type 0
ClosesThroughout m old new bank = (stood : Around) (map : Map) (generation : ℕ)
    → CanFill m old bank stood map generation → Endures m old new stood map

abbrev pub CloseKeeps : {W T E : Type 0} → Meaning W → W → W → Bank → Result T E → Type 0
CloseKeeps m old new bank result = (stood : Around) (map : Map) (generation : ℕ)
    → CanFill m old bank stood map generation → OnOk result (CanFill m new bank stood map generation)

-- a bank is filled with this form while another one counts: the banks stand for the same map
abbrev pub FillsThroughout : {W : Type 0} → Meaning W → W → W → Bank → List ℕ → Type 0
FillsThroughout m old new bank form = (stood : Around) (map : Map) (generation : ℕ)
    → CanFill m old bank stood map generation → IsForm generation map form → Endures m old new stood map

abbrev pub Fills : {W T E : Type 0} → Meaning W → W → W → Bank → List ℕ → Result T E → Type 0
Fills m old new bank form result = (stood : Around) (map : Map) (generation : ℕ)
    → CanFill m old bank stood map generation → IsForm generation map form
    → OnOk result (IsFilled m new bank (length form) stood map (edition_of Two generation))

-- the last gate of a bank that counts is closed: the banks stand for the same map
abbrev pub MendsThroughout : {W : Type 0} → Meaning W → W → W → Bank → EndGate → ℕ → Type 0
MendsThroughout m old new bank gate end = (stood : Around) (map : Map) (edition : Edition)
    → IsMendable m old bank gate end stood map edition → Endures m old new stood map

abbrev pub Mends : {W T E : Type 0} → Meaning W → W → W → Bank → EndGate → ℕ → Result T E → Type 0
Mends m old new bank gate end result = (stood : Around) (map : Map) (edition : Edition)
    → IsMendable m old bank gate end stood map edition → OnOk result (IsFilled m new bank end stood map edition)

-- where no bank counts, one is made live that has no entry: the banks stand for nothing, before it and behind it
abbrev pub StartsThroughout : {W : Type 0} → Meaning W → W → W → Type 0
StartsThroughout m old new = (stood : Around) → CanFill m old A stood nothing 1 → Endures m old new stood nothing

abbrev pub Starts : {W E : Type 0} → Meaning W → W → W → Result Opened E → Type 0
Starts m old new result = (stood : Around) → CanFill m old A stood nothing 1
    → IfOk result (IsCurrent m stood nothing new)

-- a bank that counts is read and mended, and exchanged where that is due: the banks stand for the same map
abbrev pub ReopensThroughout : {W : Type 0} → Meaning W → W → W → Bank → Edition → Type 0
ReopensThroughout m old new bank edition = (stood : Around) (map : Map)
    → IsCounted m old bank stood map edition → Endures m old new stood map

abbrev pub Reopens : {W E : Type 0} → Meaning W → W → W → Bank → Edition → Result Opened E → Type 0
Reopens m old new bank edition result = (stood : Around) (map : Map)
    → IsCounted m old bank stood map edition → IfOk result (IsCurrent m stood map new)

-- by what was read of it the bank that is live then, and where its entries end
abbrev pub ReopensAs : {W E : Type 0} → Meaning W → W → Bank → Edition → Result Opened E → Type 0
ReopensAs m old bank edition result = choice_of (m.seen old) ≡ choice.Live bank edition
    → IfOk result (λ after. IsReopened bank edition (m.seen old bank) after.map after.bank after.end)

-- another bank may be filled with the compact form: the banks stand for the same map
abbrev pub CompactsThroughout : {W : Type 0} → Meaning W → W → W → Opened → Type 0
CompactsThroughout m old new opened = (stood : Around) (map : Map)
    → IsOpened m stood map old opened → Endures m old new stood map

abbrev pub Compacts : {W E : Type 0} → Meaning W → W → W → Opened → Result Opened E → Type 0
Compacts m old new opened result = (stood : Around) (map : Map)
    → IsOpened m stood map old opened → IfOk result (IsCurrent m stood map new)

-- it is filled with this form, in the next generation
abbrev pub GoesOverThroughout : {W : Type 0} → Meaning W → W → W → Opened → List ℕ → Type 0
GoesOverThroughout m old new opened form = (stood : Around) (map : Map) → IsOpened m stood map old opened
    → IsForm (opened.edition.generation + 1) (map_in opened.map) form → Endures m old new stood map

abbrev pub GoesOverTo : {W E : Type 0} → Meaning W → W → W → Opened → List ℕ → Result Opened E → Type 0
GoesOverTo m old new opened form result = (stood : Around) (map : Map) → IsOpened m stood map old opened
    → IsForm (opened.edition.generation + 1) (map_in opened.map) form → IfOk result (IsCurrent m stood map new)

-- a store is begun: the banks are as a stop could have left them before, or stand for the map that they stood for
abbrev pub BeginsThroughout : {W : Type 0} → Meaning W → W → W → Type 0
BeginsThroughout m old new = Throughout m old new (IsLeftOr m old (image_in (m.seen old)))
