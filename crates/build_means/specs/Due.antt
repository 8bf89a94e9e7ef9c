-- The test by which a rule is found due, for each decider.
use Rattle.std.specs.Prelude.{ℕ, Bool, true, false, not, nat_eq, nat_lt, List, [], ◌∷◌, ◌&&◌, ◌||◌, map, Option, Some, None}
use Rattle.std.specs.List.{list_any}
use Rattle.std.specs.Option.{option_eq}
use Rattle.std.specs.Str.{bytes_eq}
use Rattle.std.specs.Cmp.Lexicographic.{pointwise}
use Rattle.build_model.specs.Rules.{Tree, Stamps, Decider, content, timestamp_newer, timestamp_match, content_timestamp, Rule, Dependency, Record, Records, Content}
use Rattle.build_model.specs.Stale.{name_of, stamp_of, first_stamp}

abbrev pub texts_eq : List (List ℕ) → List (List ℕ) → Bool
texts_eq = pointwise bytes_eq

abbrev pub digest_eq : Option (List ℕ) → Option (List ℕ) → Bool
digest_eq = option_eq bytes_eq

abbrev pub stamp_eq : Option ℕ → Option ℕ → Bool
stamp_eq = option_eq nat_eq

-- whether two dependencies are one
abbrev pub dependency_eq : Dependency → Dependency → Bool
dependency_eq a b = bytes_eq a.name b.name && (digest_eq a.digest b.digest && stamp_eq a.stamp b.stamp)

-- whether two records are of the same action, by the same function of digests
abbrev pub is_same_work : Record → Record → Bool
is_same_work a b =
    nat_eq a.work b.work && (nat_eq a.hash b.hash && (texts_eq a.signed b.signed && texts_eq a.targets b.targets))

-- whether two records are one
abbrev pub record_eq : Record → Record → Bool
record_eq a b = is_same_work a b && pointwise dependency_eq a.dependencies b.dependencies

-- and whether they are on dependencies of the same names
abbrev pub is_same_action : Record → Record → Bool
is_same_action old now = is_same_work now old && texts_eq (map name_of now.dependencies) (map name_of old.dependencies)

abbrev pub is_after : Option ℕ → Option ℕ → Bool
is_after (Some stamp) (Some target) = nat_lt target stamp
is_after (Some stamp) None = false
is_after None target = false

abbrev pub has_newer : Option ℕ → Record → Bool
has_newer target now = list_any (λ dependency. is_after dependency.stamp target) now.dependencies

abbrev pub has_same_stamps : Record → Record → Bool
has_same_stamps old now = pointwise stamp_eq (map stamp_of now.dependencies) (map stamp_of old.dependencies)

abbrev pub differs : Dependency → Dependency → Bool
differs old now = not (stamp_eq old.stamp now.stamp) && not (digest_eq old.digest now.digest)

abbrev pub any_differs : List Dependency → List Dependency → Bool
any_differs [] now = false
any_differs (c ∷ cs) [] = false
any_differs (c ∷ cs) (d ∷ ds) = differs c d || any_differs cs ds

-- whether the record of now says that a rule has changed since its record was kept; `target` is the stamp of its first target
abbrev pub has_changed : Decider → Option ℕ → Record → Record → Bool
has_changed content target old now = not (record_eq old now)
has_changed timestamp_newer target old now = not (is_same_action old now) || has_newer target now
has_changed timestamp_match target old now = not (is_same_action old now) || not (has_same_stamps old now)
has_changed content_timestamp target old now = not (is_same_action old now) || any_differs old.dependencies now.dependencies

-- whether a target makes its rule due: it is no file, has no record, or has one by which the rule has changed
abbrev pub is_due_for : Decider → Option ℕ → Record → Content → Option Record → Bool
is_due_for decider target now None old = true
is_due_for decider target now (Some bytes) None = true
is_due_for decider target now (Some bytes) (Some old) = has_changed decider target old now

-- Whether a rule is due by the files, stamps and records before a build, where its record of now is this one.
unfoldable pub is_due : Rule → Tree → Stamps → Records → Record → Bool
is_due r tree stamps records now =
    r.always || list_any (λ p. is_due_for r.decider (first_stamp stamps r.targets) now (tree p) (records p)) r.targets
