-- The lists of a rule follow from its scans, whatever else changes of it.
use Rattle.std.proofs.Common.{arith, ◌≡◌, ◌≤◌, ◌∙◌, ℕ, List, [], Bool, true, false, ap, sym, length, take, length-append}
use Rattle.std.proofs.lemmas.List.{take-append-le, length-take-le, take_all}
use Rattle.scons_base.specs.declared.ids.NodeId.{NodeId}
use Rattle.task_plan.specs.Settled.{IsLonger}
use Rattle.task_plan.specs.Named.{put_all}
use Rattle.task_plan.specs.Listed.{IsWalked, IsSameReach, AreDeps, IsListing, IsGrown, KeepsNamed, KeepsNames}
use Rattle.task_plan.specs.declared.task.Task.{Task}
use Rattle.task_plan.proofs.NeedLemmas.{keeps_longer, keeps_none}
use Rattle.task_plan.proofs.NamedLemmas.{put_all-append, put_all_longer}

-- a rule passes more of its needs
pub listing_passed : (t : Task) (count : ℕ) → IsListing t → IsListing (record t { passed = count })
listing_passed t count l = record {
  named = l.named;
  sources = l.sources;
  listed = λ h. let d = l.listed h in record { deps = d.deps; reach = d.reach };
}

-- a rule goes on to another file
pub listing_next : (t : Task) (place : ℕ) → IsListing t → IsListing (record t { reach = record t.reach { next = place } })
listing_next t place l = record {
  named = l.named;
  sources = l.sources;
  listed = λ h. let d = l.listed h in record { deps = d.deps; reach = record { reach = record { whole = d.reach.reach.whole; earlier = d.reach.reach.earlier }; ahead = record { each = d.reach.ahead.each } } };
}

-- new files were put behind the dependencies, which stood in the order of the files before
pub deps_grown : (t s : Task) (new : List NodeId) → IsGrown t new → t.named ≤ length t.deps.keys → s.deps.keys ≡ put_all [] t.deps.keys new → s.named ≡ t.named → s.reach ≡ t.reach → AreDeps s s.reach.files.keys
deps_grown t s new g le e n r =
    let l = put_all_longer [] t.deps.keys new in
    let first : take s.named s.deps.keys ≡ take t.named t.deps.keys =
    ap (λ k. take k s.deps.keys) n ∙ ap (take t.named) (e ∙ l.is) ∙ take-append-le t.named t.deps.keys l.more le in
    e ∙ ap (λ ys. put_all [] ys new) g.deps ∙ sym (put_all-append [] (take t.named t.deps.keys) g.files new)
    ∙ ap (put_all [] (take t.named t.deps.keys)) (sym g.is) ∙ ap (λ x. put_all [] (take t.named t.deps.keys) x.files.keys) (sym r) ∙ ap (λ ys. put_all [] ys s.reach.files.keys) (sym first)

-- the dependencies were listed anew
pub deps_anew : (t s : Task) → t.named ≤ length t.deps.keys → s.deps.keys ≡ put_all [] (take t.named t.deps.keys) t.reach.files.keys → s.named ≡ t.named → s.reach ≡ t.reach → AreDeps s s.reach.files.keys
deps_anew t s le e n r =
    let l = put_all_longer [] (take t.named t.deps.keys) t.reach.files.keys in
    let first : take s.named s.deps.keys ≡ take t.named t.deps.keys =
    ap (λ k. take k s.deps.keys) n ∙ ap (take t.named) (e ∙ l.is)
    ∙ take-append-le t.named (take t.named t.deps.keys) l.more (let m = length-take-le t.named t.deps.keys le in omega arith)
    ∙ take_all t.named (take t.named t.deps.keys) (let m = length-take-le t.named t.deps.keys le in omega arith) in
    e ∙ ap (λ x. put_all [] (take t.named t.deps.keys) x.files.keys) (sym r) ∙ ap (λ ys. put_all [] ys s.reach.files.keys) (sym first)

-- the named dependencies stay where others are put behind them
pub named_longer : (t s : Task) → t.named ≤ length t.deps.keys → IsLonger t.deps.keys s.deps.keys → KeepsNamed t s
named_longer t s le l = record {
  within = let n = ap length l.is in let m = length-append t.deps.keys l.more in omega arith;
  same = ap (take t.named) l.is ∙ take-append-le t.named t.deps.keys l.more le;
}

-- they stay where those behind them are taken away
pub named_anew : (t s : Task) → t.named ≤ length t.deps.keys → IsLonger (take t.named t.deps.keys) s.deps.keys → KeepsNamed t s
named_anew t s le l =
    let k = length-take-le t.named t.deps.keys le in
    record {
      within = let n = ap length l.is in let m = length-append (take t.named t.deps.keys) l.more in omega arith;
      same = ap (take t.named) l.is ∙ take-append-le t.named (take t.named t.deps.keys) l.more (omega arith) ∙ take_all t.named (take t.named t.deps.keys) (omega arith);
    }

-- a task whose lists follow from the scans
pub listing_whole : (t : Task) → t.named ≤ length t.deps.keys → t.reach.sources ≤ length t.reach.files.keys → AreDeps t t.reach.files.keys → IsWalked t.reach → IsListing t
listing_whole t n s d w = record { named = n; sources = s; listed = λ h. record { deps = d; reach = w } }

true_false : (b : Bool) → b ≡ true → b ≡ false → ⊥
true_false true e f = cc
true_false false e f = cc

-- a task whose lists may not follow from the scans
pub listing_cut : (t : Task) → t.named ≤ length t.deps.keys → t.reach.sources ≤ length t.reach.files.keys → t.is_listed ≡ false → IsListing t
listing_cut t n s f = record { named = n; sources = s; listed = λ h. absurd (true_false t.is_listed h f) }

-- the lists were brought up to what was scanned
pub grown_listing : (u v : Task) → v ≡ record u { deps = v.deps; passed = v.passed } → KeepsNamed u v → u.reach.sources ≤ length u.reach.files.keys → AreDeps v v.reach.files.keys → IsWalked u.reach
    → IsListing (record v { is_listed = true })
grown_listing u v e n s d w =
    let named : v.named ≡ u.named = ap (λ (x : Task). x.named) e in
    let reach : v.reach ≡ u.reach = ap (λ (x : Task). x.reach) e in
    record {
      named = let k = n.within in omega arith;
      sources = rw reach s;
      listed = λ h. record { deps = d; reach = rw reach w };
    }

-- they weren't, since memory was wanting
pub cut_listing : (u v : Task) → v ≡ record u { deps = v.deps; passed = v.passed } → KeepsNamed u v → u.reach.sources ≤ length u.reach.files.keys → u.is_listed ≡ false → IsListing v
cut_listing u v e n s f =
    let named : v.named ≡ u.named = ap (λ (x : Task). x.named) e in
    let reach : v.reach ≡ u.reach = ap (λ (x : Task). x.reach) e in
    listing_cut v (let k = n.within in omega arith) (rw reach s) (ap (λ (x : Task). x.is_listed) e ∙ f)

-- the names stay
pub grown_names : (t u v w : Task) → u.targets ≡ t.targets → u.required ≡ t.required → u.named ≡ t.named → u.deps ≡ t.deps → IsSameReach t.reach u.reach → v ≡ record u { deps = v.deps; passed = v.passed } → KeepsNamed u v
    → w.targets ≡ v.targets → w.required ≡ v.required → w.named ≡ v.named → w.deps ≡ v.deps → w.reach ≡ v.reach → KeepsNames t w
grown_names t u v w a b c d s e n f g h i j = record {
  targets = ap (λ x. x.items) f ∙ ap (λ (x : Task). x.targets.items) e ∙ ap (λ x. x.items) a;
  required = ap (λ x. x.items) g ∙ ap (λ (x : Task). x.required.items) e ∙ ap (λ x. x.items) b;
  named = named_on;
  reach = rw (j, ap (λ (x : Task). x.reach) e) s;
}
  where
    one : w.named ≡ u.named
    one = h ∙ ap (λ (x : Task). x.named) e

    named_on : take w.named w.deps.keys ≡ take t.named t.deps.keys
    named_on = ap (λ k. take k w.deps.keys) one ∙ ap (λ x. take u.named x.keys) i ∙ n.same ∙ ap (λ x. take u.named x.keys) d ∙ ap (λ k. take k t.deps.keys) c

pub ruleset growing = (keeps_longer, named_longer, deps_grown)

pub ruleset listing_anew = (keeps_none, named_anew, deps_anew)
