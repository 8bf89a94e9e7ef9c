-- That no more faults of a kind are reported than its count rose by.
use Rattle.std.proofs.Common.{◌≡◌, ◌≤◌, ◌+◌, ◌-◌, ◌∙◌, ap, sym, subst, refl, ℕ, min, List, [], ◌∷◌, ◌++◌, Bool, true, false, map, append_assoc, arith}
use Rattle.std.specs.List.{count_by}
use Rattle.rule_graph.specs.declared.build_fault.BuildFault.{BuildFault}
use Rattle.rule_graph.specs.declared.build_fault.BuildFault.TheVariants as fault
use Rattle.build_run.specs.Causes.{Outside, IsLater, AreCounted, HasCause}
use Rattle.build_run.specs.Counting.{RoseBy, is_action_fault, is_start_fault, is_tree_fault, is_out_fault}
use Rattle.build_run.proofs.Counting.{count_append, counted_fewer, counted_more, counted_none, counted_on, counted_one}
use Rattle.scons_top.specs.Counted.{AreFew, built_fault, built_faults}
use Rattle.scons_top.specs.Endings.{AddsFew}
use Rattle.scons_top.specs.Stops.{top_of}
use Rattle.scons_top.specs.declared.report.Top.{Top}

-- ---- the faults of a build among others

pub built_append : (front rest : List Top) → built_faults (front ++ rest) ≡ built_faults front ++ built_faults rest
built_append [] rest = refl
built_append (f ∷ front) rest =
    ap (λ (fs : List BuildFault). built_fault f ++ fs) (built_append front rest) ∙ sym (append_assoc (built_fault f) (built_faults front) (built_faults rest))

built_top : (f : BuildFault) → built_fault (top_of f) ≡ f ∷ []
built_top (fault.Missing node target) = refl
built_top (fault.Cycle paths) = refl
built_top (fault.ActionFailed target code) = refl
built_top (fault.TreeFault path) = refl
built_top (fault.StartFault target) = refl
built_top fault.StoreFault = refl
built_top fault.OutFault = refl
built_top (fault.TooLarge path size) = refl
built_top (fault.TooMany what count) = refl

pub built_tops : (faults : List BuildFault) → built_faults (map top_of faults) ≡ faults
built_tops [] = refl
built_tops (f ∷ faults) =
    ap (λ (fs : List BuildFault). fs ++ built_faults (map top_of faults)) (built_top f) ∙ ap (λ (fs : List BuildFault). f ∷ fs) (built_tops faults)

-- ---- further faults, or fewer

pub few_none : (now : Outside) → AreFew now now []
few_none now = counted_none now

pub few_on : (start mid new : Outside) (faults : List Top) → IsLater mid new → AreFew start mid faults → AreFew start new faults
few_on start mid new faults later few = counted_on start mid new (built_faults faults) later few

-- one more, that is a fault of a build with its cause
pub few_more : (start mid new : Outside) (faults : List Top) (f : BuildFault) → IsLater mid new → HasCause mid new f → AreFew start mid faults →
    AreFew start new (faults ++ top_of f ∷ [])
few_more start mid new faults f later cause few =
    let one = counted_more start mid new (built_faults faults) (f ∷ []) few (counted_one mid new later f cause) in
    subst (λ (fs : List BuildFault). AreCounted start new fs)
    (ap (λ (fs : List BuildFault). built_faults faults ++ fs) (sym (built_tops (f ∷ []))) ∙ sym (built_append faults (top_of f ∷ []))) one

pub few_dropped : (start now : Outside) (faults : List Top) (f : Top) → AreFew start now (faults ++ f ∷ []) → AreFew start now faults
few_dropped start now faults f few = counted_fewer start now (built_faults faults) (built_faults (f ∷ []))
    (subst (λ (fs : List BuildFault). AreCounted start now fs) (built_append faults (f ∷ [])) few)

-- the fault of a build alone
pub few_one : (start now : Outside) (f : BuildFault) → IsLater start now → HasCause start now f → AreFew start now (top_of f ∷ [])
few_one start now f later cause =
    subst (λ (fs : List BuildFault). AreCounted start now fs) (sym (built_tops (f ∷ []))) (counted_one start now later f cause)

-- all those of a build
pub few_tops : (start now : Outside) (faults : List BuildFault) → AreCounted start now faults → AreFew start now (map top_of faults)
few_tops start now faults counted = subst (λ (fs : List BuildFault). AreCounted start now fs) (sym (built_tops faults)) counted

-- ---- of no kind more

rose_within : (n m a b : ℕ) → m ≤ n → RoseBy n a b → RoseBy m a b
rose_within n m a b le r = let up = r.later in let more = r.more in record { later = up; more = omega (arith, more, le) }

-- where of no kind there are more, no more are counted
counted_within : (start now : Outside) (faults those : List BuildFault) → ((test : BuildFault → Bool) → count_by test those ≤ count_by test faults) →
    AreCounted start now faults → AreCounted start now those
counted_within start now faults those within a = record {
  action = rose_within (count_by is_action_fault faults) (count_by is_action_fault those) start.counts.action_failures now.counts.action_failures
      (within is_action_fault) a.action;
  start = rose_within (count_by is_start_fault faults) (count_by is_start_fault those) start.counts.start_faults now.counts.start_faults
      (within is_start_fault) a.start;
  tree = rose_within (count_by is_tree_fault faults) (count_by is_tree_fault those) start.counts.tree_faults now.counts.tree_faults
      (within is_tree_fault) a.tree;
  of_out = count_by is_out_fault those - min (count_by is_out_fault those) a.of_err;
  of_err = min (count_by is_out_fault those) a.of_err;
  sinks = split (count_by is_out_fault those) a.of_err;
  out = rose_within a.of_out (count_by is_out_fault those - min (count_by is_out_fault those) a.of_err) start.out now.out
      (rest (count_by is_out_fault those) (count_by is_out_fault faults) a.of_out a.of_err (within is_out_fault) a.sinks) a.out;
  err = rose_within a.of_err (min (count_by is_out_fault those) a.of_err) start.err now.err (least (count_by is_out_fault those) a.of_err) a.err;
}
  where
    split : (n e : ℕ) → n ≡ n - min n e + min n e
    split n e = omega arith

    least : (n e : ℕ) → min n e ≤ e
    least n e = omega arith

    rest : (n m o e : ℕ) → n ≤ m → m ≡ o + e → n - min n e ≤ o
    rest n m o e le is = omega (arith, le, is)

pub few_within : (start now : Outside) (those : List Top) (found : List BuildFault) → AddsFew found [] those → AreCounted start now found → AreFew start now those
few_within start now those found adds counted =
    counted_within start now found (built_faults those) (λ test. let le = adds test in omega (arith, le)) counted

-- faults put behind others, some of which may be lost

pub none_few : (old : List Top) → AddsFew [] old old
none_few old = λ test. omega arith

pub more_few : (old faults new : List Top) (found : List BuildFault) (f : BuildFault) (t : Top) (lost : Bool) → t ≡ top_of f →
    (lost ≡ false → new ≡ faults ++ t ∷ []) → (lost ≡ true → new ≡ faults) → AddsFew found old faults → AddsFew (found ++ f ∷ []) old new
more_few old faults new found f t true is more kept few = λ test.
    let was = few test in
    let same = ap (λ (fs : List Top). count_by test (built_faults fs)) (kept refl) in
    let all = count_append test found (f ∷ []) in
    omega (arith, was, same, all)
more_few old faults new found f t false is more kept few = λ test.
    let was = few test in
    let pushed = more refl ∙ ap (λ (x : Top). faults ++ x ∷ []) is in
    let parts = built_append faults (top_of f ∷ []) ∙ ap (λ (fs : List BuildFault). built_faults faults ++ fs) (built_tops (f ∷ [])) in
    let same = ap (λ (fs : List Top). count_by test (built_faults fs)) pushed ∙ ap (count_by test) parts ∙ count_append test (built_faults faults) (f ∷ []) in
    let all = count_append test found (f ∷ []) in
    omega (arith, was, same, all)
