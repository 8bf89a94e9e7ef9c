-- Lists and tuples put together: section 6.7 ("Binary arithmetic operations") of the Python language reference.
use Rattle.std.specs.Prelude.{ℕ, ℤ, pos, negsuc}

-- how many times an integer repeats: not at all where it is less than 0
abbrev pub times_of : ℤ → ℕ
times_of (pos n) = n
times_of (negsuc n) = 0
