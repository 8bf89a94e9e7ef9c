-- What is kept of files stays true as the world is looked at, and as one more file is looked at.
use Rattle.std.proofs.Common.{◌≡◌, inl, inr, ◌∙◌, ap, sym, subst, refl, ℕ, Bool, true, false, List, Option, Some, None, arith}
use Rattle.std.specs.Prelude.{◌≢◌, Result, IfOk, nat_eq, slice_get, is_some, if◌then◌else◌}
use Rattle.std.specs.List.{list_any}
use Rattle.std.specs.Option.{option_map}
use Rattle.std.specs.Str.{bytes_eq}
use Rattle.std.proofs.lemmas.Bool.Decides.{Decides-eqb}
use Rattle.std.proofs.lemmas.Option.{slice_get_within}
use Rattle.c_scanner.specs.declared.line.Include.{Include}
use Rattle.deciders.specs.Digests.{digest_of}
use Rattle.deciders.specs.declared.content.Digest.{Digest}
use Rattle.rule_graph.specs.Graphs.{RuleGraph}
use Rattle.rule_graph.specs.Rules.{rule_of}
use Rattle.world_api.specs.Act.{Content}
use Rattle.world_api.specs.Around.{Around, Tree, IsRunningTarget}
use Rattle.world_api.specs.Calls.{Asks}
use Rattle.world_api.specs.declared.hash.Hash.{Hash}
use Rattle.build_model.specs.Rules.{Path}
use Rattle.build_means.specs.Copies.{copied_from}
use Rattle.build_means.specs.Grown.{Begun}
use Rattle.build_means.proofs.Lists.{none_some, some_same, true_false}
use Rattle.build_files.specs.Leftovers.{is_made}
use Rattle.build_files.specs.Kept.{past, stamp_past, includes_in, IsSeenAs, IsUnread, IsTrueOf, AreFound, AreTrue, IsLeftAlone, IsStill, KeepsContent, LooksAt}
use Rattle.build_files.specs.Searched.{meant, AreNodesOf}
use Rattle.build_files.specs.Seen.{seen_at, SeesOne, SeesTheSame}
use Rattle.build_files.specs.declared.end.ListEnd.{ListEnd}
use Rattle.build_files.specs.declared.includes.Found.{Found}
use Rattle.build_files.specs.declared.inputs.Inputs.{Inputs}
use Rattle.build_files.specs.declared.seen.Seen.{Seen}
use Rattle.build_files.specs.declared.seen.SeenFiles.{SeenFiles}

pub past_same : (gone : List Path) (old new : Tree) (path : Path) → new path ≡ old path → past gone new path ≡ past gone old path
past_same gone old new path e = ap (λ (c : Content). if list_any (bytes_eq path) gone then None else c) e

pub stamp_same : (gone : List Path) (old new : Around) (path : Path) → new.tree path ≡ old.tree path → new.stamps path ≡ old.stamps path
    → stamp_past gone new path ≡ stamp_past gone old path
stamp_same gone old new path e s =
    ap (λ (c : Content). if list_any (bytes_eq path) gone then None else option_map (λ bytes. new.stamps path) c) e
    ∙ ap (λ (t : ℕ). if list_any (bytes_eq path) gone then None else option_map (λ bytes. t) (old.tree path)) s

-- a file that no job writes includes the same after a look
pub included_same : (gone : List Path) (old new : Around) (path : Path) → (IsRunningTarget old.running path → ⊥) → Asks old new
    → includes_in (past gone new.tree path) ≡ includes_in (past gone old.tree path)
included_same gone old new path free asks = ap includes_in (past_same gone old.tree new.tree path (asks.files path free))

pub unread_is : (hash : Hash) (content : Content) (changed : Option ℕ) (seen : Seen) → IsUnread seen → IsSeenAs hash content changed seen
unread_is hash content changed seen unread = record {
  digest = λ digest e. none_some (sym unread.digest ∙ e);
  includes = λ includes e. none_some (sym unread.includes ∙ e);
  stamp = λ time e. none_some (sym unread.stamp ∙ e);
}

seen_asked : (b : Begun) (gone : List Path) (old new : Around) (path : Path) (seen : Seen) → Asks old new → IsTrueOf b gone old path seen
    → IsTrueOf b gone new path seen
seen_asked b gone old new path seen asks is = elim is.still [
  | inl free ↦
      let same = past_same gone old.tree new.tree path (asks.files path free) in
      record {
        now = record {
          digest = λ digest e. is.now.digest digest e ∙ ap (option_map (digest_of b.hash)) (sym same);
          includes = λ includes e. is.now.includes includes e ∙ ap includes_in (sym same);
          stamp = λ time e. is.now.stamp time e ∙ sym (stamp_same gone old new path (asks.files path free) (asks.stamps path free));
        };
        still = inl (λ running. free (subst (λ r. IsRunningTarget r path) asks.running running));
        is_file = is.is_file;
      }
  | inr unread ↦ record {
    now = unread_is b.hash (past gone new.tree path) (stamp_past gone new path) seen unread;
    still = inr unread;
    is_file = is.is_file;
  }
]

-- what scans found is so after a look
found_asked : (b : Begun) (g : RuleGraph) (gone : List Path) (old new : Around) (found : Found) → Asks old new → AreFound b g gone old found
    → AreFound b g gone new found
found_asked b g gone old new found asks is = record {
  each = λ scan nodes kept.
      let e = is.each scan nodes kept in
      record {
        paths = e.paths;
        path = e.path;
        dirs = e.dirs;
        file = e.file;
        still = λ running. e.still (subst (λ r. IsRunningTarget r e.path) asks.running running);
        meaning = subst (λ includes. AreNodesOf g (meant b e.paths e.path includes) nodes.items) (sym (included_same gone old new e.path e.still asks)) e.meaning;
      };
  last = is.last;
}

-- the world was looked at
pub asked : (b : Begun) (g : RuleGraph) (inputs : Inputs) (old new : Around) → Asks old new → AreTrue b g inputs old → AreTrue b g inputs new
asked b g inputs old new asks is = record {
  reading = is.reading;
  grown = is.grown;
  hash = is.hash;
  declared = is.declared;
  rest = λ path unmade. past_same inputs.gone.keys old.tree new.tree path (asks.files path (is.idle path unmade)) ∙ is.rest path unmade;
  idle = λ path unmade running. is.idle path unmade (subst (λ r. IsRunningTarget r path) asks.running running);
  seen = λ node path at. seen_asked b inputs.gone.keys old new path (seen_at inputs.files.seen.items node) asks (is.seen node path at);
  settled = is.settled;
  behind = is.behind;
  unknown = is.unknown;
  gone = is.gone;
  found = found_asked b g inputs.gone.keys old new inputs.found asks is.found;
}

-- something else is kept of one file
module _ (b : Begun) (g : RuleGraph) (old new : Inputs) (around : Around) (node : ℕ) (path : Path) (is : AreTrue b g old around)
    (rest : new ≡ record old { files = new.files })
    (others : (other : ℕ) → other ≢ node → seen_at new.files.seen.items other ≡ seen_at old.files.seen.items other)
    (settled : (seen_at new.files.seen.items node).is_settled ≡ (seen_at old.files.seen.items node).is_settled) (at : slice_get g.nodes node ≡ Some path) where
  same_gone : new.gone.keys ≡ old.gone.keys
  same_gone = ap (λ (i : Inputs). i.gone.keys) rest

  each : (this : IsTrueOf b old.gone.keys around path (seen_at new.files.seen.items node)) (n : ℕ) (p : Path) → slice_get g.nodes n ≡ Some p
      → IsTrueOf b old.gone.keys around p (seen_at new.files.seen.items n)
  each this n p there = by (nat_eq n node) refl
    where
      by : (c : Bool) → nat_eq n node ≡ c → IsTrueOf b old.gone.keys around p (seen_at new.files.seen.items n)
      by true e =
          let same : n ≡ node = (Decides-eqb n node).0 e in
          let path_same : path ≡ p = some_same (sym at ∙ (sym (ap (λ k. slice_get g.nodes k) same) ∙ there)) in
          subst (λ k. IsTrueOf b old.gone.keys around p (seen_at new.files.seen.items k)) (sym same)
          (subst (λ q. IsTrueOf b old.gone.keys around q (seen_at new.files.seen.items node)) path_same this)
      by false e =
          let differ : n ≢ node = λ same. true_false (sym ((Decides-eqb n node).1 same) ∙ e) in
          subst (λ s. IsTrueOf b old.gone.keys around p s) (sym (others n differ)) (is.seen n p there)

  settled_too : (n : ℕ) → (seen_at new.files.seen.items n).is_settled ≡ true → (seen_at old.files.seen.items n).is_settled ≡ true
  settled_too n is_so = by (nat_eq n node) refl
    where
      by : (c : Bool) → nat_eq n node ≡ c → (seen_at old.files.seen.items n).is_settled ≡ true
      by true e =
          let same : n ≡ node = (Decides-eqb n node).0 e in
          ap (λ k. (seen_at old.files.seen.items k).is_settled) same
          ∙ sym settled ∙ ap (λ k. (seen_at new.files.seen.items k).is_settled) (sym same) ∙ is_so
      by false e =
          let differ : n ≢ node = λ same. true_false (sym ((Decides-eqb n node).1 same) ∙ e) in
          ap (λ (s : Seen). s.is_settled) (sym (others n differ)) ∙ is_so

  pub kept_one : IsTrueOf b old.gone.keys around path (seen_at new.files.seen.items node) → AreTrue b g new around
  kept_one this = record {
    reading = is.reading;
    grown = is.grown;
    hash = ap (λ (i : Inputs). i.hash) rest ∙ is.hash;
    declared = ap (λ (i : Inputs). i.declared) rest ∙ is.declared;
    rest = λ p unmade. ap (λ (gone : List Path). past gone around.tree p) same_gone ∙ is.rest p unmade;
    idle = is.idle;
    seen = λ n p there. subst (λ (gone : List Path). IsTrueOf b gone around p (seen_at new.files.seen.items n)) (sym same_gone) (each this n p there);
    settled = λ n p there is_so. is.settled n p there (settled_too n is_so);
    behind = λ n le.
        let within = slice_get_within g.nodes node path at in
        others n (λ same. absurd (omega (arith, same))) ∙ is.behind n le;
    unknown = λ p among. is.unknown p (ap (λ (i : Inputs). list_any (bytes_eq p) i.unknown.keys) (sym rest) ∙ among);
    gone = λ p looked. is.gone p (ap (list_any (bytes_eq p)) (sym same_gone) ∙ looked);
    found = subst (λ (gone : List Path). AreFound b g gone around new.found) (sym same_gone)
        (subst (λ (f : Found). AreFound b g old.gone.keys around f) (sym (ap (λ (i : Inputs). i.found) rest)) is.found);
  }

-- a content was kept that stands there
pub kept_content : (b : Begun) (g : RuleGraph) (old new : Inputs) (around : Around) (node : ℕ) (path : Path) (content : Content)
    → slice_get g.nodes node ≡ Some path → (IsRunningTarget around.running path → ⊥) → content ≡ past old.gone.keys around.tree path
    → KeepsContent old new node content → AreTrue b g old around → AreTrue b g new around
kept_content b g old new around node path content at free same keeps is =
    let was = is.seen node path at in
    let before : IsSeenAs old.hash content (stamp_past old.gone.keys around path) (seen_at old.files.seen.items node) =
    subst (λ hash. IsSeenAs hash content (stamp_past old.gone.keys around path) (seen_at old.files.seen.items node)) (sym is.hash)
    (subst (λ c. IsSeenAs b.hash c (stamp_past old.gone.keys around path) (seen_at old.files.seen.items node)) (sym same) was.now) in
    let after = keeps.this (stamp_past old.gone.keys around path) before in
    kept_one b g old new around node path is keeps.rest keeps.others keeps.settled at (record {
      now = subst (λ c. IsSeenAs b.hash c (stamp_past old.gone.keys around path) (seen_at new.files.seen.items node)) same
          (subst (λ hash. IsSeenAs hash content (stamp_past old.gone.keys around path) (seen_at new.files.seen.items node)) is.hash after);
      still = inl free;
      is_file = λ stands e. was.is_file stands (sym keeps.is_file ∙ e);
    })

-- a file was read whose content was kept
pub read_true : (b : Begun) (g : RuleGraph) (old new : Inputs) (before after : Around) (node : ℕ) (path : Path) (content : Content)
    → Asks before after → slice_get g.nodes node ≡ Some path → IsStill g before node → content ≡ past old.gone.keys after.tree path
    → KeepsContent old new node content → AreTrue b g old before → AreTrue b g new after
read_true b g old new before after node path content asks at still same keeps is =
    kept_content b g old new after node path content at
    (λ running. still path at (subst (λ r. IsRunningTarget r path) asks.running running)) same keeps
    (asked b g old before after asks is)

-- the same is kept of each file
pub kept_same : (b : Begun) (g : RuleGraph) (old : Inputs) (files : SeenFiles) (around : Around)
    → SeesTheSame old.files.seen.items files.seen.items → AreTrue b g old around → AreTrue b g (record old { files = files }) around
kept_same b g old files around same is = record {
  reading = is.reading;
  grown = is.grown;
  hash = is.hash;
  declared = is.declared;
  rest = is.rest;
  idle = is.idle;
  seen = λ node path at. subst (λ s. IsTrueOf b old.gone.keys around path s) (sym (same node)) (is.seen node path at);
  settled = λ node path at is_so. is.settled node path at (ap (λ (s : Seen). s.is_settled) (sym (same node)) ∙ is_so);
  behind = λ node le. same node ∙ is.behind node le;
  unknown = is.unknown;
  gone = is.gone;
  found = is.found;
}

-- of one file something else is kept that is true
module _ (b : Begun) (g : RuleGraph) (old : Inputs) (files : SeenFiles) (around : Around) (node : ℕ) (path : Path) (at : slice_get g.nodes node ≡ Some path)
    (is : AreTrue b g old around) where
  kept_this : {seen : Seen} → seen.is_settled ≡ (seen_at old.files.seen.items node).is_settled → SeesOne old.files.seen.items files.seen.items node seen
      → IsTrueOf b old.gone.keys around path seen → AreTrue b g (record old { files = files }) around
  kept_this settled sees this =
      kept_one b g old (record old { files = files }) around node path is refl sees.others (ap (λ (s : Seen). s.is_settled) sees.this ∙ settled) at
      (subst (λ s. IsTrueOf b old.gone.keys around path s) (sym sees.this) this)

  pub kept_stamp : {time : Option ℕ} → (IsRunningTarget around.running path → ⊥) → time ≡ stamp_past old.gone.keys around path
      → SeesOne old.files.seen.items files.seen.items node (record (seen_at old.files.seen.items node) { stamp = Some time })
      → AreTrue b g (record old { files = files }) around
  kept_stamp free same sees =
      let was = is.seen node path at in
      kept_this refl sees (record {
        now = record { digest = was.now.digest; includes = was.now.includes; stamp = λ other e. sym (some_same e) ∙ same };
        still = inl free;
        is_file = was.is_file;
      })

  -- whether a file stood there as the build began
  pub kept_stood : {stood : Bool} → stood ≡ is_some (b.tree path)
      → SeesOne old.files.seen.items files.seen.items node (record (seen_at old.files.seen.items node) { is_file = Some stood })
      → AreTrue b g (record old { files = files }) around
  kept_stood same sees =
      let was = is.seen node path at in
      kept_this refl sees (record {
        now = record { digest = was.now.digest; includes = was.now.includes; stamp = was.now.stamp };
        still = elim was.still [ inl free ↦ inl free | inr unread ↦ inr (record { digest = unread.digest; includes = unread.includes; stamp = unread.stamp }) ];
        is_file = λ other e. sym (some_same e) ∙ same;
      })

  pub kept_is_file : {stands : Bool} → is_made g path ≡ false → stands ≡ is_some (past old.gone.keys around.tree path)
      → SeesOne old.files.seen.items files.seen.items node (record (seen_at old.files.seen.items node) { is_file = Some stands })
      → AreTrue b g (record old { files = files }) around
  kept_is_file unmade same sees = kept_stood (same ∙ ap is_some (is.rest path unmade)) sees

  -- what a file includes
  pub kept_includes : {found : List Include} → (IsRunningTarget around.running path → ⊥) → found ≡ includes_in (past old.gone.keys around.tree path)
      → SeesOne old.files.seen.items files.seen.items node (record (seen_at old.files.seen.items node) { includes = Some found })
      → AreTrue b g (record old { files = files }) around
  kept_includes free same sees =
      let was = is.seen node path at in
      kept_this refl sees (record {
        now = record { digest = was.now.digest; includes = λ other e. sym (some_same e) ∙ same; stamp = was.now.stamp };
        still = inl free;
        is_file = was.is_file;
      })

  -- nothing more of what it includes
  pub kept_no_includes : SeesOne old.files.seen.items files.seen.items node (record (seen_at old.files.seen.items node) { includes = None })
      → AreTrue b g (record old { files = files }) around
  kept_no_includes sees =
      let was = is.seen node path at in
      kept_this refl sees (record {
        now = record { digest = was.now.digest; includes = λ other e. none_some e; stamp = was.now.stamp };
        still = elim was.still [ inl free ↦ inl free | inr unread ↦ inr (record { digest = unread.digest; includes = refl; stamp = unread.stamp }) ];
        is_file = was.is_file;
      })

-- a digest is by the hash of the build
pub digest_by : (r : Result (Option Digest) ListEnd) (a b : Hash) (content : Content) → a ≡ b → IfOk r (λ digest. digest ≡ option_map (digest_of a) content)
    → IfOk r (λ digest. digest ≡ option_map (digest_of b) content)
digest_by r a b content same is = subst (λ hash. IfOk r (λ digest. digest ≡ option_map (digest_of hash) content)) same is

-- what no rule makes stands as it did
pub file_stood : (b : Begun) (g : RuleGraph) (inputs : Inputs) (before after : Around) (path : Path) → Asks before after → is_made g path ≡ false
    → AreTrue b g inputs before → is_some (past inputs.gone.keys after.tree path) ≡ is_some (b.tree path)
file_stood b g inputs before after path asks unmade is = ap is_some ((asked b g inputs before after asks is).rest path unmade)

-- which rules were looked at is none of what is kept of files
pub looked_on : (b : Begun) (g : RuleGraph) (old new : Inputs) (around : Around) → LooksAt old new → AreTrue b g old around → AreTrue b g new around
looked_on b g old new around same is = subst (λ i. AreTrue b g i around) (sym same) (record {
  reading = is.reading;
  grown = is.grown;
  hash = is.hash;
  declared = is.declared;
  rest = is.rest;
  idle = is.idle;
  seen = is.seen;
  settled = is.settled;
  behind = is.behind;
  unknown = is.unknown;
  gone = is.gone;
  found = is.found;
})

-- the copy rule of one file was looked for
pub kept_settled : (b : Begun) (g : RuleGraph) (old : Inputs) (files : SeenFiles) (around : Around) (node : ℕ) → IsLeftAlone b g node
    → SeesOne old.files.seen.items files.seen.items node (record (seen_at old.files.seen.items node) { is_settled = true })
    → AreTrue b g old around → AreTrue b g (record old { files = files }) around
kept_settled b g old files around node alone sees is = record {
  reading = is.reading;
  grown = is.grown;
  hash = is.hash;
  declared = is.declared;
  rest = is.rest;
  idle = is.idle;
  seen = λ n p there. by (nat_eq n node) n p refl there;
  settled = λ n p there is_so none. settled_by (nat_eq n node) n p refl there is_so none;
  behind = λ n le.
      let within = slice_get_within g.nodes node alone.path alone.at in
      sees.others n (λ same. absurd (omega (arith, same))) ∙ is.behind n le;
  unknown = is.unknown;
  gone = is.gone;
  found = is.found;
}
  where
    this : IsTrueOf b old.gone.keys around alone.path (record (seen_at old.files.seen.items node) { is_settled = true })
    this =
        let was = is.seen node alone.path alone.at in
        record {
          now = record { digest = was.now.digest; includes = was.now.includes; stamp = was.now.stamp };
          still = elim was.still [ inl free ↦ inl free | inr unread ↦ inr (record { digest = unread.digest; includes = unread.includes; stamp = unread.stamp }) ];
          is_file = was.is_file;
        }

    by : (c : Bool) (n : ℕ) (p : Path) → nat_eq n node ≡ c → slice_get g.nodes n ≡ Some p → IsTrueOf b old.gone.keys around p (seen_at files.seen.items n)
    by true n p e there =
        let same : n ≡ node = (Decides-eqb n node).0 e in
        let path_same : alone.path ≡ p = some_same (sym alone.at ∙ (sym (ap (λ k. slice_get g.nodes k) same) ∙ there)) in
        subst (λ k. IsTrueOf b old.gone.keys around p (seen_at files.seen.items k)) (sym same)
        (subst (λ q. IsTrueOf b old.gone.keys around q (seen_at files.seen.items node)) path_same (subst (λ s. IsTrueOf b old.gone.keys around alone.path s) (sym sees.this) this))
    by false n p e there =
        let differ : n ≢ node = λ same. true_false (sym ((Decides-eqb n node).1 same) ∙ e) in
        subst (λ s. IsTrueOf b old.gone.keys around p s) (sym (sees.others n differ)) (is.seen n p there)

    settled_by : (c : Bool) (n : ℕ) (p : Path) → nat_eq n node ≡ c → slice_get g.nodes n ≡ Some p → (seen_at files.seen.items n).is_settled ≡ true
        → rule_of g.rules n ≡ None → copied_from b.graph b.tree p ≡ None
    settled_by true n p e there is_so none =
        let same : n ≡ node = (Decides-eqb n node).0 e in
        let path_same : alone.path ≡ p = some_same (sym alone.at ∙ (sym (ap (λ k. slice_get g.nodes k) same) ∙ there)) in
        ap (copied_from b.graph b.tree) (sym path_same) ∙ alone.uncopied (ap (rule_of g.rules) (sym same) ∙ none)
    settled_by false n p e there is_so none =
        let differ : n ≢ node = λ same. true_false (sym ((Decides-eqb n node).1 same) ∙ e) in
        is.settled n p there (ap (λ (s : Seen). s.is_settled) (sym (sees.others n differ)) ∙ is_so) none
