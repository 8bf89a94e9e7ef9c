-- Records of a store and records of the model say the same of what has changed.
use Rattle.std.proofs.Common.{◌≡◌, ℕ, Bool, true, false, List, [], ◌∷◌, length, map, Option, Some, None, refl, sym, subst, ap, ◌∙◌, inl, inr, ◌⊎◌, arith, Any, zip}
use Rattle.std.specs.Prelude.{nat_eq, ◌↔◌, ◌&&◌, not, ◌==◌}
use Rattle.std.specs.List.{list_all}
use Rattle.std.specs.Option.{option_map, option_map_or}
use Rattle.std.proofs.lemmas.Bool.Decides.{Decides-eqb}
use Rattle.std.proofs.lemmas.Option.{slice_get-get_or, slice_get_within, get_or_from_slice_get}
use Rattle.world_api.specs.declared.hash.Hash.{Hash}
use Rattle.world_api.specs.declared.hash.Hash.TheVariants.{Md5, Sha1, Sha256}
use Rattle.world_api.specs.declared.job.Work.{Work}
use Rattle.world_api.specs.declared.job.Work.TheVariants.{Shell, Copy, Write}
use Rattle.world_api.specs.declared.decider.Decider.{Decider}
use Rattle.world_api.specs.declared.decider.Decider.TheVariants.{Content, Newer, Match, ContentMatch}
use Rattle.deciders.specs.declared.content.Digest.{Digest}
use Rattle.deciders.specs.declared.content.Digest.TheVariants as digest
use Rattle.deciders.specs.declared.recorded.Dep.{Dep}
use Rattle.deciders.specs.declared.recorded.Rec.{Rec}
use Rattle.deciders.specs.Digests.{bytes_of, hash_of, is_same}
use Rattle.deciders.specs.Records.{is_by, IsValid, named_once, name_of}
use Rattle.deciders.specs.Spelling.{work_byte, hash_byte}
use Rattle.deciders.specs.Changes as kept
use Rattle.build_model.specs.Rules.{Among, here, there}
use Rattle.build_model.specs.Stale as model
use Rattle.build_means.specs.Rules.{decider_of}
use Rattle.build_means.specs.Records.{dependency_in, record_in, HasOwnDigests}
use Rattle.build_means.proofs.Lists.{true_false, none_some, some_same, and_both, place_of, at_place, among_map, map_among}

hash_same : (a b : Hash) → hash_byte a ≡ hash_byte b → a ≡ b
hash_same Md5 Md5 e = refl
hash_same Md5 Sha1 e = absurd (omega arith)
hash_same Md5 Sha256 e = absurd (omega arith)
hash_same Sha1 Md5 e = absurd (omega arith)
hash_same Sha1 Sha1 e = refl
hash_same Sha1 Sha256 e = absurd (omega arith)
hash_same Sha256 Md5 e = absurd (omega arith)
hash_same Sha256 Sha1 e = absurd (omega arith)
hash_same Sha256 Sha256 e = refl

work_same : (a b : Work) → work_byte a ≡ work_byte b → a ≡ b
work_same Shell Shell e = refl
work_same Shell Copy e = absurd (omega arith)
work_same Shell Write e = absurd (omega arith)
work_same Copy Shell e = absurd (omega arith)
work_same Copy Copy e = refl
work_same Copy Write e = absurd (omega arith)
work_same Write Shell e = absurd (omega arith)
work_same Write Copy e = absurd (omega arith)
work_same Write Write e = refl

by_this : (a b : Hash) → is_same a b ≡ true → a ≡ b
by_this Md5 Md5 e = refl
by_this Md5 Sha1 e = true_false (sym e)
by_this Md5 Sha256 e = true_false (sym e)
by_this Sha1 Md5 e = true_false (sym e)
by_this Sha1 Sha1 e = refl
by_this Sha1 Sha256 e = true_false (sym e)
by_this Sha256 Md5 e = true_false (sym e)
by_this Sha256 Sha1 e = true_false (sym e)
by_this Sha256 Sha256 e = refl

-- digests by one function are one where their bytes are
digest_same : (a b : Digest) → hash_byte (hash_of a) ≡ hash_byte (hash_of b) → bytes_of a ≡ bytes_of b → a ≡ b
digest_same (digest.Md5 x) (digest.Md5 y) h e = ap digest.Md5 e
digest_same (digest.Md5 x) (digest.Sha1 y) h e = absurd (omega arith)
digest_same (digest.Md5 x) (digest.Sha256 y) h e = absurd (omega arith)
digest_same (digest.Sha1 x) (digest.Md5 y) h e = absurd (omega arith)
digest_same (digest.Sha1 x) (digest.Sha1 y) h e = ap digest.Sha1 e
digest_same (digest.Sha1 x) (digest.Sha256 y) h e = absurd (omega arith)
digest_same (digest.Sha256 x) (digest.Md5 y) h e = absurd (omega arith)
digest_same (digest.Sha256 x) (digest.Sha1 y) h e = absurd (omega arith)
digest_same (digest.Sha256 x) (digest.Sha256 y) h e = ap digest.Sha256 e

head_or : {A : Type 0} → A → List A → A
head_or x [] = x
head_or x (y ∷ ys) = y

tail_of : {A : Type 0} → List A → List A
tail_of [] = []
tail_of (x ∷ xs) = xs

same_head : {A : Type 0} {x y : A} {xs ys : List A} → x ∷ xs ≡ y ∷ ys → x ≡ y
unfolding head_or
same_head {A} {x} e = ap (head_or x) e

same_tail : {A : Type 0} {x y : A} {xs ys : List A} → x ∷ xs ≡ y ∷ ys → xs ≡ ys
unfolding tail_of
same_tail e = ap tail_of e

module _ (hash : Hash) where
  digests_same : (x y : Option Digest) → option_map_or (λ d. is_same (hash_of d) hash) x true ≡ true →
      option_map_or (λ d. is_same (hash_of d) hash) y true ≡ true → option_map bytes_of x ≡ option_map bytes_of y → x ≡ y
  digests_same None None f g e = refl
  digests_same None (Some b) f g e = none_some e
  digests_same (Some a) None f g e = none_some (sym e)
  digests_same (Some a) (Some b) f g e =
      ap Some (digest_same a b (ap hash_byte (by_this (hash_of a) hash f ∙ sym (by_this (hash_of b) hash g))) (some_same e))

  dep_same : (x y : Dep) → is_by hash x ≡ true → is_by hash y ≡ true → dependency_in x ≡ dependency_in y → x ≡ y
  dep_same x y f g e =
      let digests = digests_same x.digest y.digest f g (ap (λ d. d.digest) e) in
      λ i. record { name = ap (λ d. d.name) e i; digest = digests i; stamp = ap (λ d. d.stamp) e i }

  deps_same : (xs ys : List Dep) → list_all (is_by hash) xs ≡ true → list_all (is_by hash) ys ≡ true → map dependency_in xs ≡ map dependency_in ys → xs ≡ ys
  deps_same [] [] f g e = refl
  deps_same [] (y ∷ ys) f g e = cc e
  deps_same (x ∷ xs) [] f g e = cc e
  deps_same (x ∷ xs) (y ∷ ys) f g e =
      let fs = and_both (is_by hash x) (list_all (is_by hash) xs) f in
      let gs = and_both (is_by hash y) (list_all (is_by hash) ys) g in
      let first = dep_same x y fs.0 gs.0 (same_head e) in
      let rest = deps_same xs ys fs.1 gs.1 (same_tail e) in
      λ i. first i ∷ rest i

-- a valid record has its own digests
pub digests_valid : (rec : Rec) → IsValid rec → HasOwnDigests rec
digests_valid rec valid =
    let once = and_both (not (length rec.targets == 0)) (named_once [] rec.targets && (named_once [] (map name_of rec.deps) && list_all (is_by rec.hash) rec.deps)) valid in
    let names = and_both (named_once [] rec.targets) (named_once [] (map name_of rec.deps) && list_all (is_by rec.hash) rec.deps) once.1 in
    (and_both (named_once [] (map name_of rec.deps)) (list_all (is_by rec.hash) rec.deps) names.1).1

-- records whose digests are their own are one where the records of the model are
pub record_same : (a b : Rec) → HasOwnDigests a → HasOwnDigests b → record_in a ≡ record_in b → a ≡ b
record_same a b f g e =
    let works = work_same a.work b.work (ap (λ r. r.work) e) in
    let hashes = hash_same a.hash b.hash (ap (λ r. r.hash) e) in
    let deps = deps_same a.hash a.deps b.deps f (subst (λ h. list_all (is_by h) b.deps ≡ true) (sym hashes) g)
    (ap (λ r. r.dependencies) e) in
    λ i. record { work = works i; hash = hashes i; targets = ap (λ r. r.targets) e i; signed = ap (λ r. r.signed) e i; deps = deps i }

names_in : (deps : List Dep) → map model.name_of (map dependency_in deps) ≡ map name_of deps
names_in [] = refl
names_in (d ∷ deps) = ap (λ l. d.name ∷ l) (names_in deps)

stamps_in : (deps : List Dep) → map model.stamp_of (map dependency_in deps) ≡ map kept.stamp_of deps
stamps_in [] = refl
stamps_in (d ∷ deps) = ap (λ l. d.stamp ∷ l) (stamps_in deps)

to_action : (old now : Rec) → kept.IsSameAction old now → model.IsSameAction (record_in old) (record_in now)
to_action old now h = record {
  work = ap work_byte h.work;
  hash = ap hash_byte h.hash;
  signed = h.signed;
  targets = h.targets;
  names = names_in now.deps ∙ h.names ∙ sym (names_in old.deps);
}

from_action : (old now : Rec) → model.IsSameAction (record_in old) (record_in now) → kept.IsSameAction old now
from_action old now h = record {
  work = work_same now.work old.work h.work;
  hash = hash_same now.hash old.hash h.hash;
  targets = h.targets;
  signed = h.signed;
  names = sym (names_in now.deps) ∙ h.names ∙ names_in old.deps;
}

to_after : (target stamp : Option ℕ) → kept.IsAfter target stamp → model.IsAfter stamp target
to_after None None h = h
to_after None (Some stamp) h = h
to_after (Some target) None h = h
to_after (Some target) (Some stamp) h = h

from_after : (target stamp : Option ℕ) → model.IsAfter stamp target → kept.IsAfter target stamp
from_after None None h = h
from_after None (Some stamp) h = h
from_after (Some target) None h = h
from_after (Some target) (Some stamp) h = h

to_newer : (target : Option ℕ) (now : Rec) → Any (λ dep. kept.IsAfter target dep.stamp) now.deps → model.HasNewer target (record_in now)
to_newer target now h =
    let among = at_place now.deps h.0 (slice_get-get_or now.deps h.0 h.1 h.2 ∙ ap Some h.3) in
    record { dependency = dependency_in h.1; stands = map_among dependency_in among; is_after = to_after target h.1.stamp h.4 }

from_newer : (target : Option ℕ) (now : Rec) → model.HasNewer target (record_in now) → Any (λ dep. kept.IsAfter target dep.stamp) now.deps
from_newer target now h =
    let dep = among_map dependency_in now.deps h.stands in
    let place = place_of dep.1 in (
      place.0,
      dep.0,
      slice_get_within now.deps place.0 dep.0 place.1,
      get_or_from_slice_get now.deps place.0 dep.0 dep.0 place.1,
      from_after target dep.0.stamp (subst (λ d. model.IsAfter d.stamp target) dep.2 h.is_after),
    )

-- where both digests are by one function, they differ where their bytes do
module _ (hash : Hash) where
  to_both : (cs ds : List Dep) → list_all (is_by hash) cs ≡ true → list_all (is_by hash) ds ≡ true → {x : Dep × Dep} → Among x (zip cs ds) →
      kept.DiffersInBoth x → model.DiffersInBoth (map dependency_in cs) (map dependency_in ds)
  to_both [] ds f g m h = elim m [ ]
  to_both (c ∷ cs) [] f g m h = elim m [ ]
  to_both (c ∷ cs) (d ∷ ds) f g here h =
      inl (h.0, λ e. h.1 (digests_same hash c.digest d.digest (and_both (is_by hash c) (list_all (is_by hash) cs) f).0 (and_both (is_by hash d) (list_all (is_by hash) ds) g).0 e))
  to_both (c ∷ cs) (d ∷ ds) f g (there m) h =
      inr (to_both cs ds (and_both (is_by hash c) (list_all (is_by hash) cs) f).1 (and_both (is_by hash d) (list_all (is_by hash) ds) g).1 m h)

from_both : (cs ds : List Dep) → model.DiffersInBoth (map dependency_in cs) (map dependency_in ds) → (x : Dep × Dep) × Among x (zip cs ds) × kept.DiffersInBoth x
from_both [] ds h = absurd h
from_both (c ∷ cs) [] h = absurd h
from_both (c ∷ cs) (d ∷ ds) (inl h) = ((c, d), here, (h.0, λ e. h.1 (ap (option_map bytes_of) e)))
from_both (c ∷ cs) (d ∷ ds) (inr h) = let k = from_both cs ds h in (k.0, there k.1, k.2)

module _ (target : Option ℕ) (old now : Rec) (f : HasOwnDigests old) (g : HasOwnDigests now) where
  not_action : (kept.IsSameAction old now → ⊥) → model.IsSameAction (record_in old) (record_in now) → ⊥
  not_action n h = n (from_action old now h)

  action_not : (model.IsSameAction (record_in old) (record_in now) → ⊥) → kept.IsSameAction old now → ⊥
  action_not n h = n (to_action old now h)

  differs_by : (b : Bool) → nat_eq (hash_byte old.hash) (hash_byte now.hash) ≡ b → (x : Dep × Dep) → Among x (zip old.deps now.deps) → kept.DiffersInBoth x →
      (model.IsSameAction (record_in old) (record_in now) → ⊥) ⊎ model.DiffersInBoth (record_in old).dependencies (record_in now).dependencies
  differs_by false e x m h = inl (λ same. true_false (sym ((Decides-eqb (hash_byte old.hash) (hash_byte now.hash)).1 (sym same.hash)) ∙ e))
  differs_by true e x m h =
      let hashes = hash_same old.hash now.hash ((Decides-eqb (hash_byte old.hash) (hash_byte now.hash)).0 e) in
      inr (to_both old.hash old.deps now.deps f (subst (λ k. list_all (is_by k) now.deps ≡ true) (sym hashes) g) m h)

  to_changed : (d : Decider) → kept.HasChanged d old now target → model.HasChanged (decider_of d) target (record_in old) (record_in now)
  to_changed Content h = λ e. h (sym (record_same old now f g e))
  to_changed Newer (inl n) = inl (not_action n)
  to_changed Newer (inr h) = inr (to_newer target now h)
  to_changed Match (inl n) = inl (not_action n)
  to_changed Match (inr h) = inr (λ e. h (sym (stamps_in now.deps) ∙ e ∙ stamps_in old.deps))
  to_changed ContentMatch (inl n) = inl (not_action n)
  to_changed ContentMatch (inr h) =
      differs_by (nat_eq (hash_byte old.hash) (hash_byte now.hash)) refl h.1 (at_place (zip old.deps now.deps) h.0 (slice_get-get_or (zip old.deps now.deps) h.0 h.1 h.2 ∙ ap Some h.3)) h.4

  from_changed : (d : Decider) → model.HasChanged (decider_of d) target (record_in old) (record_in now) → kept.HasChanged d old now target
  from_changed Content h = λ e. h (ap record_in (sym e))
  from_changed Newer (inl n) = inl (action_not n)
  from_changed Newer (inr h) = inr (from_newer target now h)
  from_changed Match (inl n) = inl (action_not n)
  from_changed Match (inr h) = inr (λ e. h (stamps_in now.deps ∙ e ∙ sym (stamps_in old.deps)))
  from_changed ContentMatch (inl n) = inl (action_not n)
  from_changed ContentMatch (inr h) =
      let k = from_both old.deps now.deps h in
      let place = place_of k.1 in
      inr (place.0, k.0, slice_get_within (zip old.deps now.deps) place.0 k.0 place.1, get_or_from_slice_get (zip old.deps now.deps) place.0 k.0 k.0 place.1, k.2)

  -- by each decider the one says that a rule has changed where the other does
  pub changed_alike : (d : Decider) → kept.HasChanged d old now target ↔ model.HasChanged (decider_of d) target (record_in old) (record_in now)
  changed_alike d = (to_changed d, from_changed d)
