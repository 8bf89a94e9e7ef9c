-- Runs of bytes.
use Rattle.std.proofs.Common.{◌≡◌, ℕ, ◌+◌, ◌∷◌, [], cond, take, drop, add-one, add_comm, Bool, true, false, List, refl}
use Rattle.std.specs.List.{prefix_len, list_all}
use Rattle.scons_base.specs.Runs.{front_run, after_run}

-- the run in front passes
run_of : (p : ℕ → Bool) (x : ℕ) (b : Bool) (xs : List ℕ) (n : ℕ) → p x ≡ b → list_all p (take n xs) ≡ true → list_all p (take (cond b (1 + n) 0) (x ∷ xs)) ≡ true
run_of p x true xs n is rest = simp (add_comm 1 n, add-one) (cc (is, rest))
run_of p x false xs n is rest = refl

pub run_passes : (p : ℕ → Bool) (xs : List ℕ) → list_all p (take (prefix_len p xs) xs) ≡ true
run_passes p [] = refl
run_passes p (x ∷ xs) = run_of p x (p x) xs (prefix_len p xs) refl (run_passes p xs)

-- a run with a first byte
front_with : (b : Bool) (x : ℕ) (xs : List ℕ) (n : ℕ) → b ≡ true → take (cond b (1 + n) 0) (x ∷ xs) ≡ x ∷ take n xs
front_with true x xs n is = simp (add_comm 1 n, add-one)
front_with false x xs n is = cc

after_with : (b : Bool) (x : ℕ) (xs : List ℕ) (n : ℕ) → b ≡ true → drop (cond b (1 + n) 0) (x ∷ xs) ≡ drop n xs
after_with true x xs n is = simp (add_comm 1 n, add-one)
after_with false x xs n is = cc

pub front_run_with : (p : ℕ → Bool) (x : ℕ) (xs : List ℕ) → p x ≡ true → front_run p (x ∷ xs) ≡ x ∷ front_run p xs
front_run_with p x xs is = front_with (p x) x xs (prefix_len p xs) is

pub after_run_with : (p : ℕ → Bool) (x : ℕ) (xs : List ℕ) → p x ≡ true → after_run p (x ∷ xs) ≡ after_run p xs
after_run_with p x xs is = after_with (p x) x xs (prefix_len p xs) is
