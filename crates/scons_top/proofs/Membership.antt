-- Which members of an alias are there.
use Rattle.std.proofs.Common.{◌≡◌, ◌∙◌, ◌⊎◌, ◌<◌, ◌≤◌, ◌+◌, inl, inr, ap, refl, sym, subst, ℕ, Bool, true, false, List, [], Option, Some, length, get_or, take, arith, Contains}
use Rattle.std.specs.Prelude.{not, slice_get, unwrap_or, All, IfErr, IfOk, IsErrAnd, Ok, Err, Result}
use Rattle.std.proofs.lemmas.Bool.{false≢true}
use Rattle.std.proofs.lemmas.List.{take_all}
use Rattle.std.proofs.lemmas.List.Elements.{All-more, Contains-get_or}
use Rattle.std.proofs.lemmas.Option.{get_or_from_slice_get}
use Rattle.scons_base.specs.declared.ids.NodeId.{NodeId}
use Rattle.world_api.specs.Around.{Around}
use Rattle.world_api.specs.Looks.{Looks}
use Rattle.world_api.specs.Meaning.{Meaning}
use Rattle.world_api.specs.Reads.{kind_of}
use Rattle.world_api.specs.declared.world.Kind.TheVariants as kind
use Rattle.rule_graph.specs.Graphs.{RuleGraph, path_of}
use Rattle.sign_store.specs.Ends.{image_in}
use Rattle.sign_store.specs.Tables.{Map}
use Rattle.build_files.proofs.Left.{rest_before}
use Rattle.build_files.specs.Leftovers.{copied_from, is_made, AtRest}
use Rattle.scons_top.specs.Below.{has_below}
use Rattle.scons_top.specs.Finding.{IsStanding, FindsMember, FindsMembers, FoundOrUnknown, MissesFirst, MissingOnlyIf, Tells, TellsStanding, TellsRule, TellsThere, UnknownOnlyIf}
use Rattle.scons_top.specs.Finding.IsStanding.{is_dir, is_file}
use Rattle.scons_top.specs.Naming.{AreThere, IsLeftOver, IsMemberThere, IsThere, LacksOne}
use Rattle.scons_top.specs.Naming.IsThere.{made, copied, file, dir, above}
use Rattle.scons_top.specs.declared.stop.Stop.{Stop}
use Rattle.scons_top.proofs.Finding.{moved, unknown_exit}
use Rattle.scons_top.proofs.Grown.{at_or_past}

-- ---- tests

pub tells_yes : {P : Type 0} → P → Tells P true
tells_yes p = record { so = λ yes. p; not = λ no q. false≢true (sym no) }

pub tells_no : {P : Type 0} → (P → ⊥) → Tells P false
tells_no p = record { so = λ yes. absurd (false≢true yes); not = λ no. p }

-- the other way round
pub tells_not : {P : Type 0} (is : Bool) → Tells P is → Tells (P → ⊥) (not is)
tells_not true h = tells_no (λ never. never (h.so refl))
tells_not false h = tells_yes (h.not refl)

pub ok_weaker : {T E : Type 0} (P Q : T → Type 0) (r : Result T E) → ((x : T) → P x → Q x) → IfOk r P → IfOk r Q
ok_weaker P Q (Ok value) by h = by value h
ok_weaker P Q (Err e) by h = tt

-- ---- at a path

-- where a rule makes it, or it is copied
pub there_made : (g : RuleGraph) (around : Around) (records : Map) (p : List ℕ) → (is_made g p ≡ true) ⊎ ((source : List ℕ) × (copied_from g (length g.rules) around p ≡ Some source))
    → IsThere g around records p
there_made g around records p (inl is) = made is
there_made g around records p (inr from) = copied from.0 from.1

counts_yes : (g : RuleGraph) (around : Around) (records : Map) (p : List ℕ) → IsStanding g p around records → IsThere g around records p
counts_yes g around records p (is_dir at) = dir at
counts_yes g around records p (is_file at kept) = file at kept

counts_no : (g : RuleGraph) (around : Around) (records : Map) (p : List ℕ) → TellsRule g around p false → has_below g p ≡ false → (IsStanding g p around records → ⊥)
    → IsThere g around records p → ⊥
counts_no g around records p rules none never (made is) = false≢true (sym (rules.unmade refl) ∙ is)
counts_no g around records p rules none never (copied source from) = let no = sym (rules.uncopied refl) ∙ from in cc
counts_no g around records p rules none never (file at kept) = never (is_file at kept)
counts_no g around records p rules none never (dir at) = never (is_dir at)
counts_no g around records p rules none never (above below) = false≢true (sym none ∙ below)

there_when : (g : RuleGraph) (around : Around) (records : Map) (p : List ℕ) (is : Bool) → TellsRule g around p false → has_below g p ≡ false → Tells (IsStanding g p around records) is
    → Tells (IsThere g around records p) is
there_when g around records p is rules none h = record {
  so = λ yes. counts_yes g around records p (h.so yes);
  not = λ no. counts_no g around records p rules none (h.not no);
}

counts_kept : (g : RuleGraph) (around : Around) (records : Map) (p : List ℕ) (is : Bool) → kind_of around p ≡ kind.File → Tells (IsLeftOver g around records p → ⊥) is
    → Tells (IsStanding g p around records) is
counts_kept g around records p is at h = record { so = λ yes. is_file at (h.so yes); not = λ no. never (h.not no) }
  where
    never : ((IsLeftOver g around records p → ⊥) → ⊥) → IsStanding g p around records → ⊥
    never left (is_dir other) = let no = sym at ∙ other in cc
    never left (is_file same kept) = left kept

counts_none : (g : RuleGraph) (around : Around) (records : Map) (p : List ℕ) → kind_of around p ≡ kind.Absent → IsStanding g p around records → ⊥
counts_none g around records p at (is_dir other) = let no = sym at ∙ other in cc
counts_none g around records p at (is_file other kept) = let no = sym at ∙ other in cc

pub counts_absent : (g : RuleGraph) (around : Around) (records : Map) (p : List ℕ) → kind_of around p ≡ kind.Absent → Tells (IsStanding g p around records) false
counts_absent g around records p at = tells_no (counts_none g around records p at)

pub counts_dir : (g : RuleGraph) (around : Around) (records : Map) (p : List ℕ) → kind_of around p ≡ kind.Dir → Tells (IsStanding g p around records) true
counts_dir g around records p at = tells_yes (is_dir at)

module _ {W : Type 0} (m : Meaning W) (g : RuleGraph) where
  -- by what was told before
  pub counts_file : {E : Type 0} (p : List ℕ) (a b : W) (r : Result Bool E) → Looks m a b → (m.tells a → kind_of (m.around a) p ≡ kind.File)
      → (AtRest m b → IfOk r (Tells (IsLeftOver g (m.around b) (image_in (m.seen b)) p → ⊥))) → TellsStanding m g p b r
  counts_file p a b r looks is h = λ rest.
      let around = m.around b in
      let records = image_in (m.seen b) in
      let at : kind_of around p ≡ kind.File = moved m (λ x y. kind_of x p ≡ kind.File) a b looks rest (is (looks.told.told rest.0)) in
      ok_weaker (Tells (IsLeftOver g around records p → ⊥)) (Tells (IsStanding g p around records)) r (λ left tells. counts_kept g around records p left at tells) (h rest)

  pub there_counts : {E : Type 0} (p : List ℕ) (a b : W) (r : Result Bool E) → Looks m a b → (m.tells a → TellsRule g (m.around a) p false) → has_below g p ≡ false
      → TellsStanding m g p b r → TellsThere m g p b r
  there_counts p a b r looks rule none h = λ rest.
      let around = m.around b in
      let records = image_in (m.seen b) in
      let rules = moved m (λ x y. TellsRule g x p false) a b looks rest (rule (looks.told.told rest.0)) in
      ok_weaker (Tells (IsStanding g p around records)) (Tells (IsThere g around records p)) r (λ is tells. there_when g around records p is rules none tells) (h rest)

  -- ---- members

  -- the path of a member
  pub path_at : (member : NodeId) (p : List ℕ) → slice_get g.nodes member.0 ≡ Some p → p ≡ path_of g.nodes member
  path_at member p at = sym (ap (λ (o : Option (List ℕ)). unwrap_or o []) at)

  pub members_more : (members : List NodeId) (i : ℕ) (d : NodeId) (a b : W) → Looks m a b → i < length members
      → (AtRest m a → AreThere g (m.around a) (image_in (m.seen a)) (take i members)) → (AtRest m b → IsMemberThere g (m.around b) (image_in (m.seen b)) (get_or members i d))
      → AtRest m b → AreThere g (m.around b) (image_in (m.seen b)) (take (i + 1) members)
  members_more members i d a b looks lt there one rest =
      let before = moved m (λ x y. AreThere g x y (take i members)) a b looks rest (there (rest_before m a b looks rest)) in
      All-more (IsMemberThere g (m.around b) (image_in (m.seen b))) members i d lt before (one rest)

  pub members_stop : {T : Type 0} (clean : Bool) (members : List NodeId) (i : ℕ) (d : NodeId) (b : W) (r : Result T Stop) (s : Stop) → i < length members → IsErrAnd r (λ x. x ≡ s)
      → (AtRest m b → UnknownOnlyIf (IsMemberThere g (m.around b) (image_in (m.seen b)) (get_or members i d) → ⊥) s) → FindsMembers m clean g members b r
  members_stop clean members i d b r s lt is never rest =
      let around = m.around b in
      let records = image_in (m.seen b) in
      unknown_exit (clean ≡ false → AreThere g around records members) (LacksOne g around records members) r s is
      (λ word told. record { member = get_or members i d; is = Contains-get_or members i d lt; lacks = never rest word told })

slice_at : {X : Type 0} (xs : List X) (i : ℕ) (d : X) → i < length xs → slice_get xs i ≡ Some (get_or xs i d)
slice_at {X = X} xs i d lt = by_place (at_or_past xs i)
  where
    by_place : ((x : X) × (slice_get xs i ≡ Some x)) ⊎ (length xs ≤ i) → slice_get xs i ≡ Some (get_or xs i d)
    by_place (inl there) = there.1 ∙ ap (λ (x : X). Some x) (sym (get_or_from_slice_get xs i there.0 d there.1))
    by_place (inr past) = absurd (omega (arith, lt, past))

-- the first that is told to be missing
pub members_miss : {W T : Type 0} (m : Meaning W) (g : RuleGraph) (members : List NodeId) (i : ℕ) (d : NodeId) (a b : W) (r : Result T Stop) (s : Stop) → Looks m a b
    → i < length members → IsErrAnd r (λ x. x ≡ s) → (AtRest m a → AreThere g (m.around a) (image_in (m.seen a)) (take i members))
    → (AtRest m b → MissingOnlyIf (λ node. (node ≡ path_of g.nodes (get_or members i d)) × (IsMemberThere g (m.around b) (image_in (m.seen b)) (get_or members i d) → ⊥)) s)
    → MissesFirst m g members b r
members_miss m g members i d a b (Ok value) s looks lt is there never = absurd is
members_miss m g members i d a b (Err x) s looks lt is there never = λ rest node target told.
    let one = never rest node target (sym is ∙ told) in
    record {
      member = get_or members i d;
      place = i;
      at = slice_at members i d lt;
      before = moved m (λ around records. AreThere g around records (take i members)) a b looks rest (there (rest_before m a b looks rest));
      lacks = one.1;
      path = one.0;
    }

pub members_all : {W : Type 0} (m : Meaning W) (g : RuleGraph) (members : List NodeId) (i : ℕ) (a : W) → length members ≤ i
    → (AtRest m a → AreThere g (m.around a) (image_in (m.seen a)) (take i members)) → AtRest m a → AreThere g (m.around a) (image_in (m.seen a)) members
members_all m g members i a le there rest =
    subst (λ (ids : List NodeId). AreThere g (m.around a) (image_in (m.seen a)) ids) (take_all i members le) (there rest)
