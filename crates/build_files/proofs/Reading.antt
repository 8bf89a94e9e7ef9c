-- Which files were read, call by call.
use Rattle.std.proofs.Common.{◌≡◌, ◌≢◌, ◌<◌, ℕ, Bool, true, false, cond, List, [], ◌∷◌, length, get_or, Some, None, refl, sym, subst, ap, ◌∙◌}
use Rattle.std.specs.Prelude.{nat_eq}
use Rattle.std.specs.Global.{Vec}
use Rattle.std.proofs.lemmas.Bool.Decides.{Decides-eqb}
use Rattle.std.proofs.lemmas.Option.{slice_get-get_or}
use Rattle.indexmap.specs.IndexMap.{get}
use Rattle.scons_base.specs.declared.ids.NodeId.{NodeId}
use Rattle.build_model.specs.Rules.{Among, here, there}
use Rattle.build_means.proofs.Lists.{at_place, none_some, true_false, and_both}
use Rattle.build_files.specs.Kept.{IsUnread, LooksAt, same_scan}
use Rattle.build_files.specs.Reading.{IsUnreadIn, ReadsOnly}
use Rattle.build_files.specs.Seen.{seen_at, SeesOne, SeesTheSame}
use Rattle.build_files.specs.declared.includes.Found.{Found}
use Rattle.build_files.specs.declared.includes.Scan.{Scan}
use Rattle.build_files.specs.declared.inputs.Inputs.{Inputs}
use Rattle.build_files.specs.declared.seen.Seen.{Seen}
use Rattle.build_files.specs.declared.seen.SeenFiles.{SeenFiles}

-- of no file anything is kept
pub unread_none : (files : List Seen) → files ≡ [] → (node : ℕ) → IsUnread (seen_at files node)
unread_none files none node =
    subst (λ fs. IsUnread (seen_at fs node)) (sym none) (record { digest = refl; includes = refl; stamp = refl })

-- nothing is read as a build begins
pub begun_unread : (inputs : Inputs) → ((node : ℕ) → IsUnread (seen_at inputs.files.seen.items node))
    → ((scan : Scan) → get same_scan inputs.found.files scan ≡ None) → (node : ℕ) → IsUnreadIn inputs node
begun_unread inputs unread unscanned node = record {
  seen = unread node;
  scans = λ scan nodes kept. none_some (sym (unscanned scan) ∙ kept);
}

-- nothing was kept
pub reads_none : (files : List NodeId) (inputs : Inputs) → ReadsOnly files inputs inputs
reads_none files inputs node out is = is

pub reads_joined : (files : List NodeId) (old mid new : Inputs) → ReadsOnly files old mid → ReadsOnly files mid new → ReadsOnly files old new
reads_joined files old mid new first then node out is = then node out (first node out is)

-- what reads nothing reads none but these
pub reads_fewer : (files : List NodeId) (old new : Inputs) → ReadsOnly [] old new → ReadsOnly files old new
reads_fewer files old new first node out is = first node (λ file m. elim m [ ]) is

-- what reads one of these reads none but these
pub reads_one : (files : List NodeId) (file : NodeId) (old new : Inputs) → Among file files → ReadsOnly (file ∷ []) old new → ReadsOnly files old new
reads_one files file old new among first node out is = first node (λ other m. apart other m) is
  where
    apart : (other : NodeId) → Among other (file ∷ []) → other.0 ≢ node
    apart other here = out file among
    apart other (there m) = elim m [ ]

-- one more of some files is read
pub reads_next : (files : List NodeId) (n : ℕ) (none : NodeId) (old mid new : Inputs) → n < length files → ReadsOnly files old mid
    → ReadsOnly (get_or files n none ∷ []) mid new → ReadsOnly files old new
reads_next files n none old mid new within first then =
    reads_joined files old mid new first (reads_one files (get_or files n none) mid new (at_place files n (slice_get-get_or files n none within)) then)

-- where of all other files the same is kept, and no further scan
pub reads_by : (file : NodeId) (old new : Inputs) → new.found ≡ old.found →
    ((other : ℕ) → other ≢ file.0 → seen_at new.files.seen.items other ≡ seen_at old.files.seen.items other) → ReadsOnly (file ∷ []) old new
reads_by file old new found others node out is = record {
  seen = subst IsUnread (sym (others node (λ same. out file here (sym same)))) is.seen;
  scans = λ scan nodes kept. is.scans scan nodes (ap (λ f. get same_scan f.files scan) (sym found) ∙ kept);
}

-- where of each file no more is kept than before
pub reads_nothing : (old new : Inputs) → new.found ≡ old.found →
    ((other : ℕ) → IsUnread (seen_at old.files.seen.items other) → IsUnread (seen_at new.files.seen.items other)) → ReadsOnly [] old new
reads_nothing old new found each node out is = record {
  seen = each node is.seen;
  scans = λ scan nodes kept. is.scans scan nodes (ap (λ f. get same_scan f.files scan) (sym found) ∙ kept);
}

-- of each file the same is kept
pub reads_same : (old : Inputs) (files : SeenFiles) → SeesTheSame old.files.seen.items files.seen.items → ReadsOnly [] old (record old { files = files })
reads_same old files same =
    reads_nothing old (record old { files = files }) refl (λ other is. subst IsUnread (sym (same other)) is)

-- of one file something is kept that isn't read of it
pub reads_aside : (old : Inputs) (files : SeenFiles) (node : ℕ) (seen : Seen) → SeesOne old.files.seen.items files.seen.items node seen
    → (IsUnread (seen_at old.files.seen.items node) → IsUnread seen) → ReadsOnly [] old (record old { files = files })
reads_aside old files node seen sees this =
    reads_nothing old (record old { files = files }) refl (λ other is. by (nat_eq other node) other refl is)
  where
    by : (c : Bool) (other : ℕ) → nat_eq other node ≡ c → IsUnread (seen_at old.files.seen.items other) → IsUnread (seen_at files.seen.items other)
    by true other e is =
        let same : other ≡ node = (Decides-eqb other node).0 e in
        let before = subst (λ n. IsUnread (seen_at old.files.seen.items n)) same is in
        subst (λ n. IsUnread (seen_at files.seen.items n)) (sym same) (subst IsUnread (sym sees.this) (this before))
    by false other e is =
        let differ : other ≢ node = λ same. true_false (sym ((Decides-eqb other node).1 same) ∙ e) in
        subst IsUnread (sym (sees.others other differ)) is

-- as where what it includes was taken out
pub reads_taken : (old : Inputs) (files : SeenFiles) (node : ℕ)
    → SeesOne old.files.seen.items files.seen.items node (record (seen_at old.files.seen.items node) { includes = None })
    → ReadsOnly [] old (record old { files = files })
reads_taken old files node sees = reads_aside old files node _ sees (λ is. record { digest = is.digest; includes = refl; stamp = is.stamp })

-- so it is while what the file includes is looked for
pub reads_searched : (file : NodeId) (old read : Inputs) (taken : SeenFiles) (new : Inputs) → ReadsOnly (file ∷ []) old read
    → SeesOne read.files.seen.items taken.seen.items file.0 (record (seen_at read.files.seen.items file.0) { includes = None })
    → ReadsOnly [] (record read { files = taken }) new → ReadsOnly (file ∷ []) old new
reads_searched file old read taken new first sees then =
    reads_joined (file ∷ []) old read new first
    (reads_fewer (file ∷ []) read new (reads_joined [] read (record read { files = taken }) new (reads_taken read taken file.0 sees) then))

-- no scan is kept that wasn't
pub reads_listed : (old : Inputs) (found : Found) → found.files ≡ old.found.files → ReadsOnly [] old (record old { found = found })
reads_listed old found same node out is = record {
  seen = is.seen;
  scans = λ scan nodes kept. is.scans scan nodes (ap (λ files. get same_scan files scan) (sym same) ∙ kept);
}

-- a scan of one file is kept
pub reads_scan : (old : Inputs) (found : Found) (scan : Scan) (value : Vec NodeId)
    → ((q : Scan) → get same_scan found.files q ≡ cond (same_scan scan q) (Some value) (get same_scan old.found.files q))
    → ReadsOnly (scan.file ∷ []) old (record old { found = found })
reads_scan old found scan value updates node out is = record {
  seen = is.seen;
  scans = λ q nodes kept. by (same_scan scan q) q nodes refl (sym (updates q) ∙ kept);
}
  where
    by : (c : Bool) (q : Scan) (nodes : Vec NodeId) → same_scan scan q ≡ c → cond c (Some value) (get same_scan old.found.files q) ≡ Some nodes
        → q.file.0 ≢ node
    by true q nodes e kept =
        let both = and_both (nat_eq scan.file.0 q.file.0) (nat_eq scan.dirs q.dirs) e in
        λ same. out scan.file here ((Decides-eqb scan.file.0 q.file.0).0 both.0 ∙ same)
    by false q nodes e kept = is.scans q nodes kept

-- which rules were looked at is nothing that is read
pub looked_only : (files : List NodeId) (old mid new : Inputs) → LooksAt mid new → ReadsOnly files old mid → ReadsOnly files old new
looked_only files old mid new same only =
    subst (λ i. ReadsOnly files old i) (sym same) (λ node out is.
    let then = only node out is in
    record { seen = then.seen; scans = then.scans })
