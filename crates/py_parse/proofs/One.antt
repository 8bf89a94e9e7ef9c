-- Reading ends in one way.
use Rattle.std.proofs.Common.{◌≡◌, ℕ, List, Bool, true, false, refl, sym, subst}
use Rattle.py_token.specs.declared.token.Token.{Token}
use Rattle.py_tree.specs.Tree.{Tree}
use Rattle.py_parse.specs.Grammar.{Body}
use Rattle.py_parse.specs.Reading.{Outcome, ok, Reads, r_given, r_taken, r_refused, r_opened, r_deep, r_unopened, r_read, r_part_fault, r_nested, r_nested_fault}

clash : {b : Bool} → b ≡ true → b ≡ false → ⊥
clash p q = cc

same_tree : {t u : Tree} {r s : List Token} → ok t r ≡ ok u s → t ≡ u
same_tree e = cc

same_rest : {t u : Tree} {r s : List Token} → ok t r ≡ ok u s → r ≡ s
same_rest e = cc

-- what is read behind the same tree and tokens
moved : {d : ℕ} (k : Tree → Body) {t u : Tree} {r s : List Token} {o : Outcome} → ok t r ≡ ok u s → Reads d (k u) s o → Reads d (k t) r o
moved {d = d} k {t = t} {u = u} {r = r} {s = s} {o = o} e h =
    subst (λ v. Reads d (k v) r o) (sym (same_tree e)) (subst (λ l. Reads d (k u) l o) (sym (same_rest e)) h)

pub Reads-one : {d : ℕ} {b : Body} {ts : List Token} {o o' : Outcome} → Reads d b ts o → Reads d b ts o' → o ≡ o'
Reads-one r_given r_given = refl
Reads-one (r_taken f r) (r_taken g s) = Reads-one r s
Reads-one (r_taken f r) (r_refused g) = absurd (clash f g)
Reads-one (r_refused f) (r_taken g s) = absurd (clash g f)
Reads-one (r_refused f) (r_refused g) = refl
Reads-one (r_opened f r) (r_opened g s) = Reads-one r s
Reads-one (r_opened f r) (r_unopened g) = absurd (clash f g)
Reads-one (r_deep f) (r_deep g) = refl
Reads-one (r_deep f) (r_unopened g) = absurd (clash f g)
Reads-one (r_unopened f) (r_opened g s) = absurd (clash g f)
Reads-one (r_unopened f) (r_deep g) = absurd (clash g f)
Reads-one (r_unopened f) (r_unopened g) = refl
Reads-one (r_read {k = k} u rest r s) (r_read u' rest' r' s') = Reads-one s (moved k (Reads-one r r') s')
Reads-one (r_read u rest r s) (r_part_fault r') = absurd (let e = Reads-one r r' in cc)
Reads-one (r_part_fault r) (r_read u' rest' r' s') = absurd (let e = Reads-one r r' in cc)
Reads-one (r_part_fault r) (r_part_fault r') = let e = Reads-one r r' in e
Reads-one (r_nested {k = k} u rest r s) (r_nested u' rest' r' s') = Reads-one s (moved k (Reads-one r r') s')
Reads-one (r_nested u rest r s) (r_nested_fault r') = absurd (let e = Reads-one r r' in cc)
Reads-one (r_nested_fault r) (r_nested u' rest' r' s') = absurd (let e = Reads-one r r' in cc)
Reads-one (r_nested_fault r) (r_nested_fault r') = let e = Reads-one r r' in e
