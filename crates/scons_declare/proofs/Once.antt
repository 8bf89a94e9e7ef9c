-- Paths, each once: where there is one, there is one still.
use Rattle.std.proofs.Common.{arith, ◌<◌, ◌++◌, ◌∷◌, [], ℕ, List, Bool, true, false, length, length-append}
use Rattle.std.specs.Prelude.{if◌then◌else◌, ◌≡◌, IfOk, Result, Ok, Err}
use Rattle.std.specs.List.{list_any}
use Rattle.std.specs.Str.{bytes_eq}
use Rattle.scons_decls.specs.declared.fault.NameFault.{NameFault}
use Rattle.indexmap.specs.IndexSet.{insert_key, insert_all}

stays : (ks xs : List (List ℕ)) → 0 < length ks → 0 < length (insert_all bytes_eq ks xs)
stays ks [] h = h
stays ks (x ∷ xs) h = stays (insert_key bytes_eq ks x) xs (by (list_any (bytes_eq x) ks))
  where
    by : (b : Bool) → 0 < length (if b then ks else ks ++ x ∷ [])
    by true = h
    by false = omega (arith, length-append ks (x ∷ []))

some_once : (xs : List (List ℕ)) → 0 < length xs → 0 < length (insert_all bytes_eq [] xs)
some_once [] h = absurd (omega arith)
some_once (x ∷ xs) h = stays (x ∷ []) xs (omega arith)

-- a list of them that was made
pub some_made : (r : Result (List (List ℕ)) NameFault) (xs : List (List ℕ)) → 0 < length xs → IfOk r (λ p. p ≡ insert_all bytes_eq [] xs) → IfOk r (λ p. 0 < length p)
some_made (Ok p) xs h is = rw is (some_once xs h)
some_made (Err e) xs h is = is
