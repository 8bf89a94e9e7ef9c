-- A field that is read is the field that was written, and what was written is read again.
use Rattle.std.proofs.Common.{◌≡◌, ℕ, ◌+◌, ◌^◌, ◌<◌, ◌≤◌, Bool, true, false, cond, ltb, List, ◌++◌, length, get_or, take, drop, Option, Some, None, refl, sym, ap, subst, ◌∙◌, append_assoc, arith, inl, inr}
use Rattle.std.specs.Str.{is_utf8}
use Rattle.std.specs.Int.{Width, w32, w64, byte_len, from_be_bytes, to_be_bytes}
use Rattle.std.proofs.lemmas.Bool.{cases_lt, ltb-false, le-ltb}
use Rattle.std.proofs.lemmas.List.{take_at, drop_at, take-append-drop, length-append, length-take, get_or-drop, get_or-take, get_or_past}
use Rattle.std.proofs.lemmas.Nat.{be_bytes_4, be_bytes_8, from_be_bytes-to_be_bytes_4, from_be_bytes-to_be_bytes_8}
use Rattle.scons_base.specs.PathFaults.{is_path}
use Rattle.deciders.specs.Spelling.{sized, IsText, IsPathText}
use Rattle.deciders.specs.Reading.{◌>>=◌, number_at, bytes_at, text_of, path_of, text_at, path_at}

abbrev pub IsBytes : List ℕ → Type 0
IsBytes bytes = (i : ℕ) → get_or bytes i 0 < 256

pub IsBytes-drop : (n : ℕ) (bytes : List ℕ) → IsBytes bytes → IsBytes (drop n bytes)
IsBytes-drop n bytes h i = rw get_or-drop (h (n + i))

IsBytes-take : (n : ℕ) (bytes : List ℕ) → IsBytes bytes → IsBytes (take n bytes)
IsBytes-take n bytes h i =
    elim (cases_lt i n) [
      | inl lt ↦ rw (get_or-take n bytes i 0 lt) (h i)
      | inr le ↦ rw (get_or_past (take n bytes) i 0 (omega (arith, length-take n bytes))) (omega arith)
    ]

-- the value of a step that did not fail
pub bind_some : {A B : Type 0} (r : Option A) (f : A → Option B) (y : B) → (r >>= f) ≡ Some y → (x : A) × (r ≡ Some x) × (f x ≡ Some y)
bind_some (Some x) f y e = (x, refl, e)
bind_some None f y e = absurd cc

-- a test that did not fail
pub guard_some : {A : Type 0} (b : Bool) (x y : A) → cond b None (Some x) ≡ Some y → (b ≡ false) × (x ≡ y)
guard_some true x y e = absurd cc
guard_some false x y e = (refl, cc)

pub guard_holds : {A : Type 0} (b : Bool) (x y : A) → cond b (Some x) None ≡ Some y → (b ≡ true) × (x ≡ y)
guard_holds true x y e = (refl, cc)
guard_holds false x y e = absurd cc

abbrev done : {A : Type 0} → A → Option A
done x = Some x

pub some_is : {A : Type 0} (x y : A) → done x ≡ done y → x ≡ y
some_is x y e = cc

-- what a reader took from the front
pub record Takes (bytes text rest : List ℕ) : Type 0 where
  pub parts : bytes ≡ text ++ rest
  pub rest_fits : IsBytes rest

pub Takes-then : (a x b y c : List ℕ) → Takes a x b → Takes b y c → Takes a (x ++ y) c
Takes-then a x b y c p q = record { parts = p.parts ∙ ap (λ (t : List ℕ). x ++ t) q.parts ∙ sym (append_assoc x y c); rest_fits = q.rest_fits }

-- reading gives back what was spelled, and only that
pub record IsReader {A : Type 0} (read : List ℕ → Option (A × List ℕ)) (spelled : A → List ℕ) (Fits : A → Type 0) : Type 0 where
  pub takes : (bytes : List ℕ) (x : A) (rest : List ℕ) → IsBytes bytes → read bytes ≡ Some (x, rest) → Takes bytes (spelled x) rest × Fits x
  pub again : (x : A) (rest : List ℕ) → Fits x → read (spelled x ++ rest) ≡ Some (x, rest)

-- ---- numbers

pub record IsWide (w : Width) (limit : ℕ) : Type 0 where
  pub len : (n : ℕ) → length (to_be_bytes w n) ≡ byte_len w
  pub back : (bytes : List ℕ) → length bytes ≡ byte_len w → IsBytes bytes → to_be_bytes w (from_be_bytes w bytes) ≡ bytes
  pub again : (n : ℕ) → n < limit → from_be_bytes w (to_be_bytes w n) ≡ n
  pub below : (bytes : List ℕ) → IsBytes bytes → from_be_bytes w bytes < limit

pub wide32 : IsWide w32 (2 ^ 32)
wide32 = record {
  len = λ n. refl;
  back = λ bytes len fits. be_bytes_4 bytes _ len fits refl;
  again = λ n lt. from_be_bytes-to_be_bytes_4 n lt;
  below = λ bytes fits. omega (arith, fits 0, fits 1, fits 2, fits 3);
}

pub wide64 : IsWide w64 (2 ^ 64)
wide64 = record {
  len = λ n. refl;
  back = λ bytes len fits. be_bytes_8 bytes _ len fits refl;
  again = λ n lt. from_be_bytes-to_be_bytes_8 n lt;
  below = λ bytes fits. omega (arith, fits 0, fits 1, fits 2, fits 3, fits 4, fits 5, fits 6, fits 7);
}

pub number_takes : (w : Width) (limit : ℕ) (wide : IsWide w limit) (bytes : List ℕ) (n : ℕ) (rest : List ℕ) → IsBytes bytes → number_at w bytes ≡ Some (n, rest) → Takes bytes (to_be_bytes w n) rest × (n < limit)
number_takes w limit wide bytes n rest fits e =
    let g = guard_some (ltb (length bytes) (byte_len w)) (from_be_bytes w (take (byte_len w) bytes), drop (byte_len w) bytes) (n, rest) e in
    let long : byte_len w ≤ length bytes = ltb-false _ _ g.0 in
    let n-is : from_be_bytes w (take (byte_len w) bytes) ≡ n = ap (λ (p : ℕ × List ℕ). p.0) g.1 in
    let rest-is : drop (byte_len w) bytes ≡ rest = ap (λ (p : ℕ × List ℕ). p.1) g.1 in
    let front : to_be_bytes w n ≡ take (byte_len w) bytes = rw (← n-is) (wide.back (take (byte_len w) bytes) (omega (arith, length-take (byte_len w) bytes)) (IsBytes-take (byte_len w) bytes fits)) in
    (record { parts = rw (front, ← rest-is) (sym (take-append-drop (byte_len w) bytes)); rest_fits = rw (← rest-is) (IsBytes-drop (byte_len w) bytes fits) }, rw (← n-is) (wide.below (take (byte_len w) bytes) (IsBytes-take (byte_len w) bytes fits)))

pub number_again : (w : Width) (limit : ℕ) (wide : IsWide w limit) (n : ℕ) (rest : List ℕ) → n < limit → number_at w (to_be_bytes w n ++ rest) ≡ Some (n, rest)
number_again w limit wide n rest lt =
    let len = wide.len n in
    let long : ltb (length (to_be_bytes w n ++ rest)) (byte_len w) ≡ false = le-ltb _ _ (omega (arith, length-append (to_be_bytes w n) rest)) in
    rw (long, take_at (to_be_bytes w n) rest (byte_len w) len, drop_at (to_be_bytes w n) rest (byte_len w) len, wide.again n lt) refl

-- ---- sized bytes

pub bytes_take : (bytes text rest : List ℕ) → IsBytes bytes → bytes_at bytes ≡ Some (text, rest) → Takes bytes (sized text) rest × (length text < 2 ^ 32)
unfolding bytes_at
bytes_take bytes text rest fits e =
    let b = bind_some (number_at w32 bytes) (λ n. cond (ltb (length n.1) n.0) None (Some (take n.0 n.1, drop n.0 n.1))) (text, rest) e in
    let n = b.0 in
    let t = number_takes w32 (2 ^ 32) wide32 bytes n.0 n.1 fits b.1 in
    let g = guard_some (ltb (length n.1) n.0) (take n.0 n.1, drop n.0 n.1) (text, rest) b.2 in
    let long : n.0 ≤ length n.1 = ltb-false _ _ g.0 in
    let len : length (take n.0 n.1) ≡ n.0 = omega (arith, length-take n.0 n.1) in
    let second : Takes n.1 (take n.0 n.1) (drop n.0 n.1) = record { parts = sym (take-append-drop n.0 n.1); rest_fits = IsBytes-drop n.0 n.1 t.0.rest_fits } in
    let both = Takes-then bytes (to_be_bytes w32 n.0) n.1 (take n.0 n.1) (drop n.0 n.1) t.0 second in
    let whole : Takes bytes (sized (take n.0 n.1)) (drop n.0 n.1) = subst (λ (k : ℕ). Takes bytes (to_be_bytes w32 k ++ take n.0 n.1) (drop n.0 n.1)) (sym len) both in
    subst (λ (p : List ℕ × List ℕ). Takes bytes (sized p.0) p.1 × (length p.0 < 2 ^ 32)) g.1 (whole, omega (arith, t.1))

pub bytes_again : (text rest : List ℕ) → length text < 2 ^ 32 → bytes_at (sized text ++ rest) ≡ Some (text, rest)
unfolding bytes_at
bytes_again text rest lt =
    let long : ltb (length (text ++ rest)) (length text) ≡ false = le-ltb _ _ (omega (arith, length-append text rest)) in
    rw (number_again w32 (2 ^ 32) wide32 (length text) (text ++ rest) lt, long, take_at text rest (length text) refl, drop_at text rest (length text) refl) refl

-- ---- texts and paths

text_takes : (bytes text rest : List ℕ) → IsBytes bytes → text_at bytes ≡ Some (text, rest) → Takes bytes (sized text) rest × IsText text
unfolding text_at
text_takes bytes text rest fits e =
    let field = bind_some (bytes_at bytes) (λ f. text_of f.0 >>= λ t. Some (t, f.1)) (text, rest) e in
    let as_text = bind_some (text_of field.0.0) (λ t. Some (t, field.0.1)) (text, rest) field.2 in
    let good = guard_holds (is_utf8 field.0.0) field.0.0 as_text.0 as_text.1 in
    let taken = bytes_take bytes field.0.0 field.0.1 fits field.1 in
    let made : List ℕ × List ℕ = (field.0.0, field.0.1) in
    let is : made ≡ (text, rest) = ap (λ (t : List ℕ). (t, field.0.1)) good.1 ∙ some_is (as_text.0, field.0.1) (text, rest) as_text.2 in
    subst (λ (p : List ℕ × List ℕ). Takes bytes (sized p.0) p.1 × IsText p.0) is (taken.0, record { fits = taken.1; utf8 = good.0 })

text_again : (text rest : List ℕ) → IsText text → text_at (sized text ++ rest) ≡ Some (text, rest)
unfolding text_at
text_again text rest is = rw (bytes_again text rest is.fits, is.utf8) refl

pub text_reader : IsReader text_at sized IsText
text_reader = record { takes = text_takes; again = text_again }

path_takes : (bytes path rest : List ℕ) → IsBytes bytes → path_at bytes ≡ Some (path, rest) → Takes bytes (sized path) rest × IsPathText path
unfolding path_at
path_takes bytes path rest fits e =
    let field = bind_some (bytes_at bytes) (λ f. text_of f.0 >>= λ t. path_of t >>= λ p. Some (p, f.1)) (path, rest) e in
    let as_text = bind_some (text_of field.0.0) (λ t. path_of t >>= λ p. Some (p, field.0.1)) (path, rest) field.2 in
    let as_path = bind_some (path_of as_text.0) (λ p. Some (p, field.0.1)) (path, rest) as_text.2 in
    let good = guard_holds (is_utf8 field.0.0) field.0.0 as_text.0 as_text.1 in
    let normal = guard_holds (is_path as_text.0) as_text.0 as_path.0 as_path.1 in
    let taken = bytes_take bytes field.0.0 field.0.1 fits field.1 in
    let made : List ℕ × List ℕ = (field.0.0, field.0.1) in
    let is : made ≡ (path, rest) = ap (λ (t : List ℕ). (t, field.0.1)) (good.1 ∙ normal.1) ∙ some_is (as_path.0, field.0.1) (path, rest) as_path.2 in
    let path_is : is_path field.0.0 ≡ true = ap is_path good.1 ∙ normal.0 in
    subst (λ (p : List ℕ × List ℕ). Takes bytes (sized p.0) p.1 × IsPathText p.0) is (taken.0, record { text = record { fits = taken.1; utf8 = good.0 }; path = path_is })

path_again : (path rest : List ℕ) → IsPathText path → path_at (sized path ++ rest) ≡ Some (path, rest)
unfolding path_at
path_again path rest is = rw (bytes_again path rest is.text.fits, is.text.utf8, is.path) refl

pub path_reader : IsReader path_at sized IsPathText
path_reader = record { takes = path_takes; again = path_again }
