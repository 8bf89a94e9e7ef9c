-- What agrees on the dependencies of a rule gives the same dependencies, contents and record.
use Rattle.std.proofs.Common.{◌≡◌, ℕ, zero, suc, List, [], ◌∷◌, ◌++◌, Some, map, refl, sym, ap, ◌∙◌}
use Rattle.build_model.specs.Rules.{Path, Tree, Stamps, Rule, Setting, Among, here, there}
use Rattle.build_model.specs.Reach.{unseen, breadth_first, declared, left_out, first_scanned, scan_list, reach, ReachesSame}
use Rattle.build_model.specs.Contents.{View, in_tree, found_in, includes_of, scanned_files, dependencies, contents_in, with_known, act_on, made}
use Rattle.build_model.specs.Records.{record_of, dependency_of, known_digest, stamp_kept}
use Rattle.build_model.specs.Steps.{contents_of}
use Rattle.build_model.proofs.Lists.{same_map}
use Rattle.build_model.proofs.Whole.{listed_in_reach}

breadth_first_agrees : (f g : Path → List Path) (n : ℕ) (seen waiting : List Path) →
    ((p : Path) → Among p (breadth_first f n seen waiting) → f p ≡ g p) → breadth_first g n seen waiting ≡ breadth_first f n seen waiting
breadth_first_agrees f g zero seen waiting h = refl
breadth_first_agrees f g (suc n) seen [] h = refl
breadth_first_agrees f g (suc n) seen (p ∷ waiting) h =
    ap (λ x. p ∷ breadth_first g n (unseen seen x ++ seen) (waiting ++ unseen seen x)) (sym (h p here))
    ∙ ap (λ l. p ∷ l) (breadth_first_agrees f g n (unseen seen (f p) ++ seen) (waiting ++ unseen seen (f p)) (λ q m. h q (there m)))

pub same_contents : (v w : View) (ps : List Path) → ((p : Path) → Among p ps → v p ≡ w p) → contents_in w ps ≡ contents_in v ps
same_contents v w [] h = refl
same_contents v w (p ∷ ps) h =
    ap (λ x. with_known p x (contents_in w ps)) (sym (h p here)) ∙ ap (with_known p (v p)) (same_contents v w ps (λ q m. h q (there m)))

pub contents_in_tree : (t : Tree) (ps : List Path) → contents_in (in_tree t) ps ≡ Some (contents_of t ps)
contents_in_tree t [] = refl
contents_in_tree t (p ∷ ps) = ap (with_known p (Some (t p))) (contents_in_tree t ps)

-- what agrees on the files that are scanned for a rule gives the same ones, and the same dependencies
pub scanned_decide : (limit : ℕ) (f g : Path → List Path) (r : Rule) → ((p : Path) → Among p (scan_list limit f r) → f p ≡ g p) →
    ReachesSame limit f g r
scanned_decide limit f g r h =
    let same : scan_list limit g r ≡ scan_list limit f r =
    breadth_first_agrees f g limit (first_scanned r ++ left_out r) (first_scanned r) h in
    record { scanned = same; dependencies = ap (λ l. declared r ++ unseen (declared r ++ left_out r) l) same }

-- so does what agrees on the dependencies, the files that are scanned among them
pub same_scan : (limit : ℕ) (f g : Path → List Path) (r : Rule) → ((p : Path) → Among p (reach limit f r) → f p ≡ g p) →
    scan_list limit g r ≡ scan_list limit f r
same_scan limit f g r h = (scanned_decide limit f g r (λ p m. h p (listed_in_reach f r limit m))).scanned

pub same_reach : (limit : ℕ) (f g : Path → List Path) (r : Rule) → ((p : Path) → Among p (reach limit f r) → f p ≡ g p) →
    reach limit g r ≡ reach limit f r
same_reach limit f g r h = (scanned_decide limit f g r (λ p m. h p (listed_in_reach f r limit m))).dependencies

module _ (s : Setting) (r : Rule) (v w : View) (h : (p : Path) → Among p (dependencies s v r) → v p ≡ w p) where
  same_found_in : (p : Path) → Among p (dependencies s v r) → found_in s v r p ≡ found_in s w r p
  same_found_in p m = ap (includes_of (s.includes r p)) (h p m)

  pub same_scanned : scanned_files s w r ≡ scanned_files s v r
  same_scanned = same_scan s.limit (found_in s v r) (found_in s w r) r same_found_in

  pub same_dependencies : dependencies s w r ≡ dependencies s v r
  same_dependencies = same_reach s.limit (found_in s v r) (found_in s w r) r same_found_in

  pub same_made : (p : Path) → made s w r p ≡ made s v r p
  same_made p =
      ap (λ l. act_on s r p (contents_in w l)) same_dependencies ∙ ap (act_on s r p) (same_contents v w (dependencies s v r) h)

  pub same_record : (stamps : Stamps) → record_of s r w stamps ≡ record_of s r v stamps
  same_record stamps =
      ap (λ l. record { work = r.work; hash = s.hash; signed = r.signed; targets = r.targets; dependencies = l })
      (ap (map (dependency_of s r w stamps)) same_dependencies
      ∙ same_map (dependency_of s r w stamps) (dependency_of s r v stamps) (dependencies s v r)
      (λ p m. ap (λ x. record { name = p; digest = known_digest s x; stamp = stamp_kept r.decider (stamps p) }) (sym (h p m))))

-- what a rule makes of a tree
pub made_in_tree : (s : Setting) (t : Tree) (r : Rule) (p : Path) →
    made s (in_tree t) r p ≡ Some (s.act r.work r.signed r.targets (contents_of t (dependencies s (in_tree t) r)) p)
made_in_tree s t r p = ap (act_on s r p) (contents_in_tree t (dependencies s (in_tree t) r))
