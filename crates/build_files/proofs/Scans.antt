-- What scans found stays so as the graph grows and as more is found.
use Rattle.std.proofs.Common.{◌≡◌, ◌∙◌, ap, sym, subst, refl, ℕ, Bool, true, false, cond, List, [], ◌∷◌, ◌++◌, Option, Some, None}
use Rattle.std.specs.Prelude.{Result, Ok, Err, IfOk, IsErrAnd, nat_eq, slice_get, is_some, if◌then◌else◌}
use Rattle.std.specs.Global.{Vec}
use Rattle.std.specs.List.{list_any}
use Rattle.std.specs.Map.{lookup}
use Rattle.std.specs.Option.{option_map}
use Rattle.std.specs.Str.{bytes_eq}
use Rattle.std.specs.Cmp.Lexicographic.{pointwise}
use Rattle.std.proofs.lemmas.Bool.Decides.{Decides-eqb}
use Rattle.std.proofs.lemmas.Slice.Eq.{bytes_eq-Decides, slice_eq-Decides}
use Rattle.indexmap.specs.IndexMap.{get}
use Rattle.indexmap.specs.IndexSet.{insert_key}
use Rattle.scons_base.specs.declared.ids.NodeId.{NodeId}
use Rattle.scons_base.specs.declared.ids.RuleId.{RuleId}
use Rattle.rule_graph.specs.declared.rule.Rule.{Rule}
use Rattle.rule_graph.specs.Graphs.{RuleGraph}
use Rattle.world_api.specs.Around.{Around, IsRunningTarget}
use Rattle.world_api.specs.Calls.{Asks}
use Rattle.world_api.specs.Counts.{Counts}
use Rattle.build_model.specs.Rules.{Path}
use Rattle.build_means.specs.Grown.{Begun}
use Rattle.build_means.proofs.Growing.{get_front}
use Rattle.build_means.proofs.Lists.{none_some, some_same, true_false, and_both}
use Rattle.build_files.proofs.Searching.{place_more, nodes_more}
use Rattle.build_files.proofs.Truths.{included_same}
use Rattle.build_files.specs.Causes.{HasEndCause, HasLookCause}
use Rattle.build_files.specs.Kept.{dirs_at, includes_in, past, same_scan, AreFound, AreTrue, IsFoundAs, IsFoundFor, IsListOf, IsStill, SameGone}
use Rattle.build_files.specs.Searched.{meant, AreNodesOf, HasMore}
use Rattle.build_files.specs.declared.end.ListEnd.{ListEnd}
use Rattle.build_files.specs.declared.includes.Found.{Found}
use Rattle.build_files.specs.declared.includes.Scan.{Scan}
use Rattle.build_files.specs.declared.inputs.Inputs.{Inputs}

-- by nodes
pub found_more : (b : Begun) (g h : RuleGraph) (gone : List Path) (around : Around) (found : Found) → HasMore g h → AreFound b g gone around found
    → AreFound b h gone around found
found_more b g h gone around found more is = record {
  each = λ scan nodes kept.
      let e = is.each scan nodes kept in
      record {
        paths = e.paths;
        path = e.path;
        dirs = e.dirs;
        file = place_more g h scan.file.0 e.path more e.file;
        still = e.still;
        meaning = nodes_more g h (meant b e.paths e.path (includes_in (past gone around.tree e.path))) nodes.items more e.meaning;
      };
  last = λ rule list noted.
      let l = is.last rule list noted in
      record { declared = l.declared; at = ap (λ (x : RuleGraph). slice_get x.rules rule.0) more.rest ∙ l.at; dirs = l.dirs };
}

-- of the directories that had a number each keeps it
abbrev pub DirsStay : Found → Found → Type 0
DirsStay old new = (number : ℕ) (paths : List Path) → dirs_at old number ≡ Some paths → dirs_at new number ≡ Some paths

found_over : (b : Begun) (g : RuleGraph) (gone : List Path) (around : Around) (old new : Found) (scan : Scan) (nodes : List NodeId) → DirsStay old new
    → IsFoundAs b g gone around old scan nodes → IsFoundAs b g gone around new scan nodes
found_over b g gone around old new scan nodes stay e = record {
  paths = e.paths;
  path = e.path;
  dirs = stay scan.dirs e.paths e.dirs;
  file = e.file;
  still = e.still;
  meaning = e.meaning;
}

-- a list of directories more, and the rule that was scanned last
pub found_listed : (b : Begun) (g : RuleGraph) (gone : List Path) (around : Around) (old new : Found) → new.files ≡ old.files → DirsStay old new
    → ((rule : RuleId) (list : ℕ) → new.last ≡ Some (rule, list) → IsListOf g new rule list) → AreFound b g gone around old → AreFound b g gone around new
found_listed b g gone around old new files stay last is = record {
  each = λ scan nodes kept.
      found_over b g gone around old new scan nodes.items stay
      (is.each scan nodes (ap (λ m. get same_scan m scan) (sym files) ∙ kept));
  last = last;
}

-- keys stay in their places as one is inserted
keys_stay : {A : Type 0} (eq : A → A → Bool) (keys : List A) (key : A) (n : ℕ) (x : A) → slice_get keys n ≡ Some x → slice_get (insert_key eq keys key) n ≡ Some x
keys_stay eq keys key n x at = by (list_any (eq key) keys)
  where
    by : (c : Bool) → slice_get (if c then keys else keys ++ key ∷ []) n ≡ Some x
    by true = at
    by false = get_front keys (key ∷ []) n x at

pub dirs_kept : (old new : Found) → new.lists.keys ≡ old.lists.keys → DirsStay old new
dirs_kept old new same n paths at = ap (λ (keys : List (Vec Path)). option_map (λ (dirs : Vec Path). dirs.items) (slice_get keys n)) same ∙ at

pub dirs_stay : (old new : Found) (eq : Vec Path → Vec Path → Bool) (dirs : Vec Path) → new.lists.keys ≡ insert_key eq old.lists.keys dirs → DirsStay old new
dirs_stay old new eq dirs same n paths at =
    ap (λ (keys : List (Vec Path)). option_map (λ (dirs : Vec Path). dirs.items) (slice_get keys n)) same ∙ by (slice_get old.lists.keys n) refl at
  where
    by : (o : Option (Vec Path)) → slice_get old.lists.keys n ≡ o → option_map (λ (dirs : Vec Path). dirs.items) o ≡ Some paths
        → option_map (λ (dirs : Vec Path). dirs.items) (slice_get (insert_key eq old.lists.keys dirs) n) ≡ Some paths
    by None e is = none_some is
    by (Some x) e is = ap (option_map (λ (dirs : Vec Path). dirs.items)) (keys_stay eq old.lists.keys dirs n x e) ∙ is

-- the directories that were inserted have the number that came of it
pub dirs_here : (new : Found) (number : ℕ) (dirs : Vec Path) (paths : List Path) → dirs.items ≡ paths
    → (k : Vec Path) × (slice_get new.lists.keys number ≡ Some k) × (pointwise bytes_eq dirs.items k.items ≡ true) → dirs_at new number ≡ Some paths
dirs_here new number dirs paths same stored =
    ap (option_map (λ (dirs : Vec Path). dirs.items)) stored.1
    ∙ ap Some (sym ((slice_eq-Decides bytes_eq-Decides dirs.items stored.0.items (pointwise bytes_eq dirs.items stored.0.items) refl).0 stored.2) ∙ same)

-- the rule that was scanned last
pub list_same : (b : Begun) (g : RuleGraph) (gone : List Path) (around : Around) (found : Found) (last id : RuleId) (list : ℕ) (x : Rule) → found.last ≡ Some (last, list)
    → last.0 ≡ id.0 → slice_get g.rules id.0 ≡ Some x → AreFound b g gone around found → dirs_at found list ≡ Some x.paths
list_same b g gone around found last id list x noted same at is =
    let l = is.last last list noted in
    let one : l.declared ≡ x = some_same (sym l.at ∙ (ap (λ n. slice_get g.rules n) same ∙ at)) in
    l.dirs ∙ ap (λ (r : Rule). Some r.paths) one

pub list_here : (g : RuleGraph) (found : Found) (id : RuleId) (number : ℕ) (x : Rule) → found.last ≡ Some (id, number) → slice_get g.rules id.0 ≡ Some x
    → dirs_at found number ≡ Some x.paths → (rule : RuleId) (list : ℕ) → found.last ≡ Some (rule, list) → IsListOf g found rule list
list_here g found id number x noted at dirs rule list is =
    let same = some_same (sym noted ∙ is) in
    record {
      declared = x;
      at = ap (λ (p : RuleId × ℕ). slice_get g.rules p.0.0) (sym same) ∙ at;
      dirs = ap (λ (p : RuleId × ℕ). dirs_at found p.1) (sym same) ∙ dirs;
    }

-- what such a scan found is what a rule finds
pub found_is : (b : Begun) (g : RuleGraph) (gone : List Path) (around : Around) (found : Found) (scan : Scan) (nodes : List NodeId) (paths : List Path) (path : Path)
    → dirs_at found scan.dirs ≡ Some paths → slice_get g.nodes scan.file.0 ≡ Some path → IsFoundAs b g gone around found scan nodes
    → AreNodesOf g (meant b paths path (includes_in (past gone around.tree path))) nodes
found_is b g gone around found scan nodes paths path dirs at e =
    subst (λ (ps : List Path). AreNodesOf g (meant b ps path (includes_in (past gone around.tree path))) nodes) (some_same (sym e.dirs ∙ dirs))
    (subst (λ (p : Path). AreNodesOf g (meant b e.paths p (includes_in (past gone around.tree p))) nodes) (some_same (sym e.file ∙ at)) e.meaning)

found_at_same : (b : Begun) (g : RuleGraph) (gone : List Path) (around : Around) (found : Found) (scan other : Scan) (nodes : List NodeId) → same_scan scan other ≡ true
    → IsFoundAs b g gone around found scan nodes → IsFoundAs b g gone around found other nodes
found_at_same b g gone around found scan other nodes same e =
    let both = and_both (nat_eq scan.file.0 other.file.0) (nat_eq scan.dirs other.dirs) same in
    record {
      paths = e.paths;
      path = e.path;
      dirs = ap (dirs_at found) (sym ((Decides-eqb scan.dirs other.dirs).0 both.1)) ∙ e.dirs;
      file = ap (λ n. slice_get g.nodes n) (sym ((Decides-eqb scan.file.0 other.file.0).0 both.0)) ∙ e.file;
      still = e.still;
      meaning = e.meaning;
    }

-- what one more scan found is kept
pub found_kept : (b : Begun) (g : RuleGraph) (gone : List Path) (around : Around) (old new : Found) (scan : Scan) (value : Vec NodeId) → new.lists.keys ≡ old.lists.keys
    → new.last ≡ old.last → ((q : Scan) → get same_scan new.files q ≡ cond (same_scan scan q) (Some value) (get same_scan old.files q))
    → IsFoundAs b g gone around old scan value.items → AreFound b g gone around old → AreFound b g gone around new
found_kept b g gone around old new scan value lists last updates this is = record {
  each = λ q nodes kept. by (same_scan scan q) q nodes refl (sym (updates q) ∙ kept);
  last = λ rule list noted.
      let l = is.last rule list (sym last ∙ noted) in
      record { declared = l.declared; at = l.at; dirs = stay list l.declared.paths l.dirs };
}
  where
    stay : DirsStay old new
    stay = dirs_kept old new lists

    by : (c : Bool) (q : Scan) (nodes : Vec NodeId) → same_scan scan q ≡ c → cond c (Some value) (get same_scan old.files q) ≡ Some nodes
        → IsFoundAs b g gone around new q nodes.items
    by true q nodes e same =
        subst (λ (v : Vec NodeId). IsFoundAs b g gone around new q v.items) (some_same same)
        (found_at_same b g gone around new scan q value.items e (found_over b g gone around old new scan value.items stay this))
    by false q nodes e same = found_over b g gone around old new q nodes.items stay (is.each q nodes same)

-- where a scan couldn't be kept it is as it was
pub found_unkept : (b : Begun) (g : RuleGraph) (gone : List Path) (around : Around) (old new : Found) → new.lists.keys ≡ old.lists.keys → new.last ≡ old.last
    → new.files.entries ≡ old.files.entries → AreFound b g gone around old → AreFound b g gone around new
found_unkept b g gone around old new lists last same is = record {
  each = λ scan nodes kept.
      found_over b g gone around old new scan nodes.items (dirs_kept old new lists)
      (is.each scan nodes (ap (λ entries. lookup (same_scan scan) entries) (sym same) ∙ kept));
  last = λ rule list noted.
      let l = is.last rule list (sym last ∙ noted) in
      record { declared = l.declared; at = l.at; dirs = dirs_kept old new lists list l.declared.paths l.dirs };
}

-- so what is kept of files is true
pub found_true : (b : Begun) (g : RuleGraph) (old : Inputs) (found : Found) (around : Around) → AreFound b g old.gone.keys around found → AreTrue b g old around
    → AreTrue b g (record old { found = found }) around
found_true b g old found around are is = record {
  reading = is.reading;
  grown = is.grown;
  hash = is.hash;
  declared = is.declared;
  rest = is.rest;
  idle = is.idle;
  seen = is.seen;
  settled = is.settled;
  behind = is.behind;
  unknown = is.unknown;
  gone = is.gone;
  found = are;
}

-- what was looked up of a file that no job writes is what a rule finds there still
pub found_for_rule : (b : Begun) (g h : RuleGraph) (old new : Inputs) (before after : Around) (rule file : ℕ) (nodes : List NodeId)
    → is_some (slice_get g.nodes file) ≡ true → IsStill g before file → Asks before after → HasMore g h → SameGone old new
    → ((x : Rule) (path : Path) → slice_get g.rules rule ≡ Some x → slice_get g.nodes file ≡ Some path
    → AreNodesOf h (meant b x.paths path (includes_in (past old.gone.keys before.tree path))) nodes)
    → IsFoundFor b h new after rule file nodes
found_for_rule b g h old new before after rule file nodes known still asks more gone found = by (slice_get g.nodes file) refl known
  where
    same : (path : Path) → slice_get g.nodes file ≡ Some path
        → includes_in (past old.gone.keys before.tree path) ≡ includes_in (past new.gone.keys after.tree path)
    same path at =
        sym (included_same old.gone.keys before after path (still path at) asks)
        ∙ ap (λ (keys : List Path). includes_in (past keys after.tree path)) (sym (ap (λ gone. gone.keys) gone))

    by : (o : Option Path) → slice_get g.nodes file ≡ o → is_some o ≡ true → IsFoundFor b h new after rule file nodes
    by None at is = true_false (sym is)
    by (Some path) at is = record {
      path = path;
      at = place_more g h file path more at;
      still = λ running. still path at (subst (λ r. IsRunningTarget r path) asks.running running);
      meaning = λ x there.
          subst (λ includes. AreNodesOf h (meant b x.paths path includes) nodes) (same path at)
          (found x path (sym (ap (λ (y : RuleGraph). slice_get y.rules rule) more.rest) ∙ there) at);
    }

-- so it is given
pub kept_nodes : (g : RuleGraph) (paths : List Path) (nodes : List NodeId) (r : Result (List NodeId) ListEnd) → IfOk r (λ kept. kept ≡ nodes) → AreNodesOf g paths nodes
    → IfOk r (λ found. AreNodesOf g paths found)
kept_nodes g paths nodes (Ok kept) same are = subst (λ ns. AreNodesOf g paths ns) (sym same) are
kept_nodes g paths nodes (Err e) same are = tt

-- and an end that is handed on has its cause
pub handed_on : {T : Type 0} (a b : Counts) (r : Result T ListEnd) (e : ListEnd) → IsErrAnd r (λ x. x ≡ e) → HasEndCause a b e → HasLookCause a b r
handed_on a b (Ok value) e h is = absurd h
handed_on a b (Err x) e h is = subst (λ y. HasEndCause a b y) (sym h) is
