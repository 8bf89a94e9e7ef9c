-- The order that a sort compares by is one of all values.
use Rattle.std.proofs.Common.{◌≡◌, ◌∙◌, ℕ, ℤ, Bool, true, true≢false, List, refl, sym, ap}
use Rattle.std.specs.declared.cmp.Ordering.{Ordering}
use Rattle.std.specs.declared.cmp.Ordering.TheVariants.{Less, Equal, Greater}
use Rattle.std.specs.Ordering.{nat_cmp, int_cmp, is_lt, ordering_reverse}
use Rattle.std.specs.Cmp.{IsTotalOrder, IsStrictWeakOrder}
use Rattle.std.specs.Cmp.Lexicographic.{slice_cmp}
use Rattle.std.proofs.lemmas.Cmp.{int_cmp_total, nat_list_cmp_total}
use Rattle.std.proofs.lemmas.List.Sorted.{ranks_by}
use Rattle.py_heap.specs.declared.value.Value.{Value}
use Rattle.py_heap.specs.declared.value.Value.TheVariants as v
use Rattle.py_heap.specs.Heap.{Objects, text_at}
use Rattle.py_heap.specs.declared.ids.TextId.{TextId}
use Rattle.py_compare.specs.SortOrder.{sort_rank, sort_order}
use Rattle.py_compare.specs.Sorting.{sortable, below}

-- what stands of a value in that order
data Place : Type 0 where
  number : ℤ → Place
  letters : List ℕ → Place
  neither : Place

place_of : Objects → Value → Place
place_of h (v.Int n) = number n
place_of h (v.Text id) = letters (text_at h id.0)
place_of h other = neither

place_cmp : Place → Place → Ordering
place_cmp (number m) (number n) = int_cmp m n
place_cmp (number m) (letters t) = Less
place_cmp (number m) neither = Less
place_cmp (letters s) (number n) = Greater
place_cmp (letters s) (letters t) = slice_cmp nat_cmp s t
place_cmp (letters s) neither = Less
place_cmp neither (number n) = Greater
place_cmp neither (letters t) = Greater
place_cmp neither neither = Equal

turned : (x y : Place) → place_cmp x y ≡ ordering_reverse (place_cmp y x)
unfolding place_cmp
turned (number m) (number n) = int_cmp_total.antisymm m n
turned (number m) (letters t) = refl
turned (number m) neither = refl
turned (letters s) (number n) = refl
turned (letters s) (letters t) = nat_list_cmp_total.antisymm s t
turned (letters s) neither = refl
turned neither (number n) = refl
turned neither (letters t) = refl
turned neither neither = refl

chained : (x y z : Place) → place_cmp x y ≡ Less → place_cmp y z ≡ Less → place_cmp x z ≡ Less
unfolding place_cmp
chained (number m) (number n) (number k) a b = int_cmp_total.trans m n k a b
chained (number m) (number n) (letters t) a b = refl
chained (number m) (number n) neither a b = refl
chained (number m) (letters t) (number k) a b = absurd (cc)
chained (number m) (letters s) (letters t) a b = refl
chained (number m) (letters s) neither a b = refl
chained (number m) neither (number k) a b = absurd (cc)
chained (number m) neither (letters t) a b = refl
chained (number m) neither neither a b = refl
chained (letters s) (number n) z a b = absurd (cc)
chained (letters s) (letters t) (number k) a b = absurd (cc)
chained (letters s) (letters t) (letters r) a b = nat_list_cmp_total.trans s t r a b
chained (letters s) (letters t) neither a b = refl
chained (letters s) neither (number k) a b = absurd (cc)
chained (letters s) neither (letters t) a b = absurd (cc)
chained (letters s) neither neither a b = refl
chained neither (number n) z a b = absurd (cc)
chained neither (letters t) z a b = absurd (cc)
chained neither neither z a b = absurd (cc)

alike : (x y z : Place) → place_cmp x y ≡ Equal → place_cmp x z ≡ place_cmp y z
unfolding place_cmp
alike (number m) (number n) (number k) e = int_cmp_total.congr m n k e
alike (number m) (number n) (letters t) e = refl
alike (number m) (number n) neither e = refl
alike (number m) (letters t) z e = absurd (cc)
alike (number m) neither z e = absurd (cc)
alike (letters s) (number n) z e = absurd (cc)
alike (letters s) (letters t) (number k) e = refl
alike (letters s) (letters t) (letters r) e = nat_list_cmp_total.congr s t r e
alike (letters s) (letters t) neither e = refl
alike (letters s) neither z e = absurd (cc)
alike neither (number n) z e = absurd (cc)
alike neither (letters t) z e = absurd (cc)
alike neither neither z e = refl

place_cmp_total : IsTotalOrder place_cmp
place_cmp_total = record { antisymm = turned; trans = chained; congr = alike }

-- the order by kinds and by what stands in it is that order
number_first : (h : Objects) (n : ℤ) (y : Value) → sort_order h (v.Int n) y ≡ place_cmp (number n) (place_of h y)
unfolding place_cmp place_of
number_first h n v.Nil = refl
number_first h n (v.Bool b) = refl
number_first h n (v.Int k) = refl
number_first h n (v.Text t) = refl
number_first h n (v.List l) = refl
number_first h n (v.Tuple t) = refl
number_first h n (v.Dict d) = refl
number_first h n (v.Func f) = refl
number_first h n (v.Builtin b) = refl
number_first h n (v.Object o) = refl

letters_first : (h : Objects) (s : TextId) (y : Value) → sort_order h (v.Text s) y ≡ place_cmp (letters (text_at h s.0)) (place_of h y)
unfolding place_cmp place_of
letters_first h s v.Nil = refl
letters_first h s (v.Bool b) = refl
letters_first h s (v.Int k) = refl
letters_first h s (v.Text t) = refl
letters_first h s (v.List l) = refl
letters_first h s (v.Tuple t) = refl
letters_first h s (v.Dict d) = refl
letters_first h s (v.Func f) = refl
letters_first h s (v.Builtin b) = refl
letters_first h s (v.Object o) = refl

neither_first : (h : Objects) (y : Value) → nat_cmp 2 (sort_rank y) ≡ place_cmp neither (place_of h y)
unfolding place_cmp place_of
neither_first h v.Nil = refl
neither_first h (v.Bool b) = refl
neither_first h (v.Int k) = refl
neither_first h (v.Text t) = refl
neither_first h (v.List l) = refl
neither_first h (v.Tuple t) = refl
neither_first h (v.Dict d) = refl
neither_first h (v.Func f) = refl
neither_first h (v.Builtin b) = refl
neither_first h (v.Object o) = refl

sort_order-is : (h : Objects) (x y : Value) → sort_order h x y ≡ place_cmp (place_of h x) (place_of h y)
unfolding place_of
sort_order-is h v.Nil y = neither_first h y
sort_order-is h (v.Bool b) y = neither_first h y
sort_order-is h (v.Int n) y = number_first h n y
sort_order-is h (v.Text s) y = letters_first h s y
sort_order-is h (v.List l) y = neither_first h y
sort_order-is h (v.Tuple t) y = neither_first h y
sort_order-is h (v.Dict d) y = neither_first h y
sort_order-is h (v.Func f) y = neither_first h y
sort_order-is h (v.Builtin b) y = neither_first h y
sort_order-is h (v.Object o) y = neither_first h y

-- whether a value stands in front of another one
pub in_front : Objects → Value → Value → Bool
in_front h x y = is_lt (place_cmp (place_of h x) (place_of h y))

pub in_front-order : (h : Objects) → IsStrictWeakOrder (in_front h)
unfolding in_front
in_front-order h = ranks_by place_cmp_total (place_of h)

pub in_front-told : (h : Objects) (x y : Value) (o : Ordering) → o ≡ sort_order h x y → is_lt o ≡ in_front h x y
unfolding in_front
in_front-told h x y o e = ap is_lt (e ∙ sort_order-is h x y)

-- two values that can be sorted are of one kind, and stand in it as they are less
pub data Alike : Value → Value → Type 0 where
  integers : {m n : ℤ} → Alike (v.Int m) (v.Int n)
  texts : {s t : TextId} → Alike (v.Text s) (v.Text t)

pub alike_of : (x y : Value) → sortable x y ≡ true → Alike x y
alike_of v.Nil y e = absurd (true≢false (sym e))
alike_of (v.Bool b) y e = absurd (true≢false (sym e))
alike_of (v.Int m) v.Nil e = absurd (true≢false (sym e))
alike_of (v.Int m) (v.Bool b) e = absurd (true≢false (sym e))
alike_of (v.Int m) (v.Int n) e = integers
alike_of (v.Int m) (v.Text t) e = absurd (true≢false (sym e))
alike_of (v.Int m) (v.List l) e = absurd (true≢false (sym e))
alike_of (v.Int m) (v.Tuple l) e = absurd (true≢false (sym e))
alike_of (v.Int m) (v.Dict d) e = absurd (true≢false (sym e))
alike_of (v.Int m) (v.Func f) e = absurd (true≢false (sym e))
alike_of (v.Int m) (v.Builtin b) e = absurd (true≢false (sym e))
alike_of (v.Int m) (v.Object o) e = absurd (true≢false (sym e))
alike_of (v.Text s) v.Nil e = absurd (true≢false (sym e))
alike_of (v.Text s) (v.Bool b) e = absurd (true≢false (sym e))
alike_of (v.Text s) (v.Int n) e = absurd (true≢false (sym e))
alike_of (v.Text s) (v.Text t) e = texts
alike_of (v.Text s) (v.List l) e = absurd (true≢false (sym e))
alike_of (v.Text s) (v.Tuple l) e = absurd (true≢false (sym e))
alike_of (v.Text s) (v.Dict d) e = absurd (true≢false (sym e))
alike_of (v.Text s) (v.Func f) e = absurd (true≢false (sym e))
alike_of (v.Text s) (v.Builtin b) e = absurd (true≢false (sym e))
alike_of (v.Text s) (v.Object o) e = absurd (true≢false (sym e))
alike_of (v.List l) y e = absurd (true≢false (sym e))
alike_of (v.Tuple t) y e = absurd (true≢false (sym e))
alike_of (v.Dict d) y e = absurd (true≢false (sym e))
alike_of (v.Func f) y e = absurd (true≢false (sym e))
alike_of (v.Builtin b) y e = absurd (true≢false (sym e))
alike_of (v.Object o) y e = absurd (true≢false (sym e))

pub Alike-from_first : {first x y : Value} → Alike first x → Alike first y → Alike x y
Alike-from_first integers integers = integers
Alike-from_first texts texts = texts

pub in_front-below : (h : Objects) {x y : Value} → Alike x y → in_front h x y ≡ below h x y
unfolding in_front place_cmp place_of
in_front-below h integers = refl
in_front-below h texts = refl
